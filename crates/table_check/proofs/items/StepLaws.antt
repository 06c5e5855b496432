-- Laws of a step from record to record (`record_check::record`, Step). No contract cites this file.
-- In order: a record told by few tests; a turn over the records; the answer of a record's check; the index that is made on the way.
use mathlib.Core.Path.{◌≡◌, refl, sym, ap, subst, ◌∙◌}
use mathlib.Core.List.{List}
use Prim.Native.Nat.{ℕ, ◌+◌, ◌-◌, ◌*◌, ◌≤◌, ◌<◌}
use native.Mathlib.Omega.{arith}
use lib.ListN.{length}
use Rattle.std.specs.Prelude.{Result, Ok, Err}
use Rattle.std.specs.Result.{MatchResult, IsErrAnd}
use Rattle.table.specs.Table.{Record}
use Rattle.table.specs.Layout.{read_record, records_at}
use Rattle.table.specs.Check.{legal_record, read_records}
use Rattle.table.specs.Answers.{end_of}
use Rattle.table.proofs.CheckLaws.{item_legal, records_turn}
use Rattle.table.proofs.LookupLaws.{item_fine}
use Rattle.table.specs.Filter.{mark, with_mark}
use Rattle.table.specs.Index.{Whole, RecordsTail, Entry, stride_of, IndexGrowing, IndexIf, Filtering}
use Rattle.table.specs.declared.index.Index.{Index}
use Rattle.table.proofs.index.IndexLaws.{index_none, tail_all, tail_entry, tail_next, growing_marked, filtering_all, filtering_next, filtering_done}
use Rattle.table.proofs.filter.FilterLaws.{mark_set, mark_kept}
use Rattle.record_check.specs.Plain.{LegalAt}
use Rattle.record_check.specs.RecordCheck.{Passed}

module _ (s : List ℕ) (at least : ℕ) where
  pub plain_passed : {c next : ℕ} → LegalAt least c (read_record s at) next → Passed s at least c next
  plain_passed k = record { it = k.it; is = sym (item_legal at (legal_record least) k.is k.legal); point = k.point }

  pub passed_turn : (left : ℕ) {c next : ℕ} → 0 < left → Passed s at least c next → end_of (read_records left least s at) ≡ end_of (read_records (left - 1) (c + 1) s next)
  passed_turn left {c} {next} h k = records_turn s at least left h k.is ∙ ap (λ (x : ℕ). end_of (read_records (left - 1) (x + 1) s next)) k.point

-- ---- what a record's check answered, from what `map_err` made of it
module _ {A E D : Type 0} (r : Result A E) {m : Result A D} (Q : E → D → Type 0) (cases : MatchResult r (λ x. m ≡ Ok x) (λ e. IsErrAnd m (Q e))) where
  pub item_passed : {x : A} → m ≡ Ok x → r ≡ Ok x
  item_passed {x} e = go r cases
    where
      go : (r : Result A E) → MatchResult r (λ x. m ≡ Ok x) (λ e. IsErrAnd m (Q e)) → r ≡ Ok x
      go (Ok y) h = let q : y ≡ x = cc in ap Ok q
      go (Err k) h = absurd (rw e at h)

  pub item_refused : {d : D} → m ≡ Err d → (e : E) × (r ≡ Err e) × Q e d
  item_refused {d} e = go r cases
    where
      go : (r : Result A E) → MatchResult r (λ x. m ≡ Ok x) (λ e. IsErrAnd m (Q e)) → (e : E) × (r ≡ Err e) × Q e d
      go (Ok y) h = let z : ◌≡◌ {A = ℕ} 0 1 = cc in absurd (omega arith)
      go (Err k) h = (k, refl, rw e at h)

-- ---- the index, whose entries are right if all records are laid out and rise; its filter has the bits of the records so far
pub record Making (s : List ℕ) (from n : ℕ) (offs : List ℕ) (at left : ℕ) (x : Index) : Type 0 where
  pub next : x.due ≡ n - x.n * stride_of n
  pub grown : Whole s from n → IndexGrowing s (records_at n s from) offs n x × ((least : ℕ) × RecordsTail s (records_at n s from) at left least)
  pub filter : Filtering s (records_at n s from) offs at left

pub making_none : (s : List ℕ) (from n : ℕ) (offs : List ℕ) → length offs ≡ 512 → Making s from n offs from n (record { n = 0; due = n })
making_none s from n offs l = record { next = omega arith; grown = λ w. (index_none s (records_at n s from) offs n l, (0, tail_all s from n w)); filter = filtering_all s offs from n }

module _ (s : List ℕ) (from n : ℕ) {offs : List ℕ} {at left : ℕ} {x : Index} (m : Making s from n offs at left x) where
  pub making_index : left ≤ 0 → IndexIf s from n offs x.n
  making_index none w = ((m.grown w).0.made, filtering_done s (records_at n s from) offs at left m.filter none)

  -- a record more, which was marked and entered
  pub making_more : {least c next : ℕ} → Passed s at least c next → 0 < left → length offs ≡ 512 → {marked : List ℕ} → marked ≡ with_mark offs c → length marked ≡ length offs
      → {os : List ℕ} {y : Index} → y.due ≡ n - y.n * stride_of n
      → ((t : List ℕ) (rs : List Record) → Entry t rs at left → IndexGrowing t rs marked n x → IndexGrowing t rs os n y)
      → ((d : ℕ) → mark os d ≡ mark marked d) → Making s from n os next (left - 1) y
  making_more {least} {c} {next} p h long {marked} is same {os} d g marks =
      let reads = (item_fine at (legal_record least) (read_record s at) p.is).0 in
      record {
        next = d;
        grown = λ w.
            let t = m.grown w in
            let tail = t.1.1 in
            let grown = growing_marked s (records_at n s from) offs n x c (ap length (sym is) ∙ same) t.0 in
            (g _ _ (tail_entry _ _ _ _ _ tail _ _ reads h) (subst (λ (l : List ℕ). IndexGrowing s (records_at n s from) l n x) (sym is) grown), (_, tail_next _ _ _ _ _ tail _ _ reads h));
        filter = filtering_next s (records_at n s from) offs at left m.filter _ next reads h os
            (λ e set. marks e ∙ ap (λ (l : List ℕ). mark l e) is ∙ mark_kept offs c long e set)
            (marks p.it.code_point ∙ ap (λ (l : List ℕ). mark l p.it.code_point) is ∙ ap (mark (with_mark offs c)) p.point ∙ mark_set offs c long);
      }
