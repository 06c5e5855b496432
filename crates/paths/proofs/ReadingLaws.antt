-- Laws of the checks and answers of a reading call (`specs/Reading.antt`). No contract cites this file.
-- In order: what the checks show of line and listing; the edge that is found; the answers. Assumes nothing.
use mathlib.Core.Path.{◌≡◌, refl, sym, ap, ◌∙◌}
use mathlib.Core.Bool.{Bool, true, false, ◌&&◌}
use mathlib.Core.List.{List}
use mathlib.Core.Option.{none, some}
use Prim.Native.Nat.{ℕ, zero, suc, ◌-◌, ◌≤◌, ◌<◌}
use native.Mathlib.Nat.{le_trans}
use native.Mathlib.Omega.{arith}
use lib.ListN.{length}
use lib.Dec.{leb, ltb}
use borrow.Author.Tests.{leb-true, ltb-true}
use Rattle.text.specs.declared.Offset.{Offset}
use Rattle.text.specs.Text.{chars, well_formed}
use Rattle.text.specs.Line.{line_check}
use Rattle.text.proofs.RowLaws.{cond_cases, and-true}
use Rattle.text.proofs.line.LineLaws.{checked_line}
use Rattle.fields.specs.Fields.{le_at}
use Rattle.edge.specs.Edge.{Edge}
use Rattle.edge.specs.Layout.{map_at, head_end, next_at, edge_at}
use Rattle.edge.specs.Check.{allowed, each, sound_numeric, sound, good, check_edges, check_listing}
use Rattle.edge.proofs.CheckLaws.{good_whole, head_within}
use Rattle.paths.specs.declared.Query.{Query}
use Rattle.paths.specs.declared.ReadRefusal.TheVariants.{BadPlace}
use Rattle.paths.specs.Best.{Best, best, with_offsets, Whole, found}
use Rattle.paths.specs.Reading.{after_listing, after_line, read_check, Spanned, Spans, inside, answer}
use Rattle.paths.proofs.BestLaws.{Each, OfBest, best_holds}
use Rattle.std.specs.Prelude.{Option, Some, Result, Ok, Err}
use Rattle.text.specs.declared.LineRefusal.{LineRefusal}

-- ---- what the checks show
pub first_two : (a b c d : Bool) → (((a && b) && c) && d) ≡ true → (a ≡ true) × (b ≡ true)
first_two a b c d h = and-true a b (and-true (a && b) c (and-true ((a && b) && c) d h).0).0

sound_numeric_lem : (n : ℕ) (e : Edge) → sound n e ≡ true → each sound_numeric e.num ≡ true
unfolding sound
sound_numeric_lem n e h =
    (and-true ((ltb e.start e.end && leb e.end n) && (well_formed e.type && well_formed e.txt)) (each sound_numeric e.num) h).1

pub sound_span : (n : ℕ) (e : Edge) → sound n e ≡ true → (e.start < e.end) × (e.end ≤ n)
unfolding sound
sound_span n e h =
    let t = first_two (ltb e.start e.end) (leb e.end n) (well_formed e.type && well_formed e.txt) (each sound_numeric e.num) h in
    (ltb-true e.start e.end t.0, leb-true e.end n t.1)

spanned : (n : ℕ) (s : List ℕ) (at : ℕ) → good false n s at ≡ true → Spanned n s at
unfolding good
spanned n s at g =
    let t = (and-true (leb (next_at s at) (length s)) (allowed false (map_at s at) && sound n (edge_at s at)) g).1 in
    let fine = (and-true (allowed false (map_at s at)) (sound n (edge_at s at)) t).1 in
    let p = sound_span n (edge_at s at) fine in
    record { whole = good_whole false n s at g; rises = p.0; within = p.1; numeric = sound_numeric_lem n (edge_at s at) fine }

checked : (n : ℕ) (s : List ℕ) (k at m : ℕ) → at ≤ length s → check_edges false n s k at ≡ Ok m → (m ≡ le_at s 0 2) × Spans n k s at
unfolding check_edges Spans
checked n s zero at m h =
    cond_cases (λ (r : Result ℕ Offset). r ≡ Ok m → (m ≡ le_at s 0 2) × (at ≤ length s)) (ltb at (length s))
    (λ t e. let z : ◌≡◌ {A = ℕ} 0 1 = cc in absurd (omega arith))
    (λ t e. (cc, h))
checked n s (suc k) at m h =
    cond_cases (λ (r : Result ℕ Offset). r ≡ Ok m → (m ≡ le_at s 0 2) × (Spanned n s at × Spans n k s (next_at s at))) (good false n s at)
    (λ g e. let r = checked n s k (next_at s at) m (good_whole false n s at g) e in (r.0, (spanned n s at g, r.1)))
    (λ g e. let z : ◌≡◌ {A = ℕ} 0 1 = cc in absurd (omega arith))

checked_listing : (n : ℕ) (s : List ℕ) (k : ℕ) → check_listing false n s ≡ Ok k → (k ≡ le_at s 0 2) × Spans n k s 2
unfolding check_listing
checked_listing n s k =
    cond_cases (λ (r : Result ℕ Offset). r ≡ Ok k → (k ≡ le_at s 0 2) × Spans n k s 2) (leb 2 (length s))
    (λ t e. let r = checked n s (le_at s 0 2) 2 k (leb-true 2 (length s) t) e in (r.0, rw r.0 r.1))
    (λ t e. let z : ◌≡◌ {A = ℕ} 0 1 = cc in absurd (omega arith))

-- n characters and k edges are read
pub record Reads (line s : List ℕ) (n k : ℕ) : Type 0 where
  pub count : n ≡ length (chars line)
  pub few : n ≤ 256
  pub is_well_formed : well_formed line ≡ true
  pub edges : k ≡ le_at s 0 2
  pub spans : Spans n k s 2

pub reads : (line s : List ℕ) (n k : ℕ) → read_check line s ≡ Ok (n, k) → Reads line s n k
unfolding read_check
reads line s n k = by_line (line_check line) refl
  where
    by_listing : (m : ℕ) (r : Result ℕ Offset) → check_listing false m s ≡ r → after_listing m r ≡ Ok (n, k) → (m ≡ n) × (k ≡ le_at s 0 2) × Spans m k s 2
    by_listing m (Ok j) g e = let w : ◌≡◌ {A = ℕ × ℕ} (m, j) (n, k) = cc in let q : j ≡ k = ap (λ (x : ℕ × ℕ). x.1) w in let h = checked_listing m s k (g ∙ ap Ok q) in (ap (λ (x : ℕ × ℕ). x.0) w, h.0, h.1)
    by_listing m (Err at) g e = let z : ◌≡◌ {A = ℕ} 0 1 = cc in absurd (omega arith)

    by_line : (l : Result ℕ LineRefusal) → line_check line ≡ l → after_line l s ≡ Ok (n, k) → Reads line s n k
    by_line (Ok m) g e =
        let r = by_listing m (check_listing false m s) refl e in
        let l = checked_line line m g in
        record { count = sym r.0 ∙ l.0; few = omega arith; is_well_formed = l.2; edges = r.1; spans = rw r.0 at r.2 }
    by_line (Err (LineRefusal.IllFormed at)) g e = let z : ◌≡◌ {A = ℕ} 0 1 = cc in absurd (omega arith)
    by_line (Err (LineRefusal.TooLong at)) g e = let z : ◌≡◌ {A = ℕ} 0 1 = cc in absurd (omega arith)

pub spans_whole : (n k : ℕ) (s : List ℕ) (at : ℕ) → Spans n k s at → Whole k s at
unfolding Spans Whole
spans_whole n zero s at h = h
spans_whole n (suc k) s at h = (h.0.whole, spans_whole n k s (next_at s at) h.1)

pub spans_le : (n m k : ℕ) (s : List ℕ) (at : ℕ) → n ≤ m → Spans n k s at → Spans m k s at
unfolding Spans
spans_le n m zero s at h w = w
spans_le n m (suc k) s at h w =
    (record { whole = w.0.whole; rises = w.0.rises; within = le_trans w.0.within h; numeric = w.0.numeric }, spans_le n m k s (next_at s at) h w.1)

module _ (n k : ℕ) (s : List ℕ) (at : ℕ) (h : 0 < k) (w : Spans n k s at) where
  first_of : Spans n (suc (k - 1)) s at
  first_of = let e : k ≡ suc (k - 1) = omega arith in rw (← e) w

  pub spans_first : Spanned n s at
  unfolding Spans
  spans_first = first_of.0

  pub spans_next : Spans n (k - 1) s (next_at s at)
  unfolding Spans
  spans_next = first_of.1

pub read_spans : (line s : List ℕ) {n k : ℕ} → read_check line s ≡ Ok (n, k) → Spans n k s 2
read_spans line s {n} {k} e = (reads line s n k e).spans

-- ---- the edge that is found: it is one of the listing
pub record Listed (n : ℕ) (s : List ℕ) (x : ℕ × Edge) : Type 0 where
  pub edge : x.1 ≡ edge_at s x.0
  pub span : Spanned n s x.0

pub spans_each : (n k : ℕ) (s : List ℕ) (at : ℕ) → Spans n k s at → Each (Listed n s) (with_offsets k s at)
unfolding Spans with_offsets
spans_each n zero s at h = tt
spans_each n (suc k) s at h = (record { edge = refl; span = h.0 }, spans_each n k s (next_at s at) h.1)

pub best_listed : (skip : Bool) (q : Query) (n k : ℕ) (s : List ℕ) (at : ℕ) → Spans n k s at → OfBest (Listed n s) (best skip q (with_offsets k s at))
best_listed skip q n k s at h = best_holds skip q (Listed n s) (with_offsets k s at) (spans_each n k s at h)

pub found_head : (skip : Bool) (q : Query) (n k : ℕ) (s : List ℕ) (at : ℕ) {o : Offset} → Spans n k s at → found (best skip q (with_offsets k s at)) ≡ Some o → head_end s o.0 ≤ length s
unfolding found
found_head skip q n k s at {o} h = by_best (best skip q (with_offsets k s at)) (best_listed skip q n k s at h)
  where
    by_best : (b : Best) → OfBest (Listed n s) b → found b ≡ Some o → head_end s o.0 ≤ length s
    by_best none l e = let z : ◌≡◌ {A = ℕ} 0 1 = cc in absurd (omega arith)
    by_best (some x) l e = let p : record { 0 = x.0 } ≡ o = cc in rw (← p) (head_within s x.0 (length s) l.span.whole)

-- ---- the answers
module _ (line s : List ℕ) (q : Query) (skip : Bool) where
  module _ {n k : ℕ} (e : read_check line s ≡ Ok (n, k)) where
    pub answer_outside : inside n q ≡ false → Err BadPlace ≡ answer line s q skip
    unfolding answer
    answer_outside h = rw (e, h)

    pub answer_best : {f : Option Offset} → inside n q ≡ true → f ≡ found (best skip q (with_offsets k s 2)) → Ok f ≡ answer line s q skip
    unfolding answer
    answer_best h b = rw (e, h, b)
