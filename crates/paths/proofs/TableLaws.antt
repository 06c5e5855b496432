-- Laws of the right neighbours of all places (`specs/Table.antt`). No contract cites this file.
-- In order: the walk over the listing; what the tables keep of it. Assumes nothing.
use mathlib.Core.Path.{◌≡◌, refl, sym, ap, ◌∙◌}
use mathlib.Core.Bool.{Bool, true, false, cond}
use mathlib.Core.List.{List}
use mathlib.Core.Option.{some}
use Prim.Native.Nat.{ℕ, ◌+◌, ◌-◌, ◌≤◌, ◌<◌}
use native.Mathlib.Omega.{arith}
use native.Mathlib.Decide.{ℕ_discrete}
use lib.ListN.{length, get_or, set, replicate, length-set, length-replicate, get_or-replicate}
use lib.Seq.{get_or-set_same, get_or-set_other}
use lib.Dec.{ltb}
use borrow.Author.Tests.{lt-ltb, ltb-true, ltb-false}
use Rattle.fields.specs.Fields.{le_at}
use Rattle.edge.specs.Layout.{next_at, edge_at}
use Rattle.paths.specs.declared.Query.TheVariants.{Right}
use Rattle.paths.specs.Best.{score, Best, with_offsets, kept}
use Rattle.paths.specs.Reading.{Spanned, Spans}
use Rattle.paths.specs.Path.{rights}
use Rattle.paths.specs.Table.{by_table, Rights, Step, Steps, hop_of}
use Rattle.paths.proofs.BestLaws.{Walk, walk_start, walk_better, walk_on, walk_ends, head_bytes_lem, OfBest, best_positive, score_asks, right_start, right_elsewhere}
use Rattle.paths.proofs.ReadingLaws.{Listed, best_listed, spans_whole, spans_first, spans_next}
use Rattle.std.specs.Prelude.{Some, None}

-- ---- the walk: for each place it keeps the best of the edges seen
pub record Table (skip : Bool) (s : List ℕ) (count at left : ℕ) (tops ats : List ℕ) : Type 0 where
  pub spans : Spans 256 left s at
  pub scores : length tops ≡ 256
  pub offsets : length ats ≡ 256
  pub walks : (p : ℕ) → p < 256 → Walk skip (Right (record { 0 = p })) s 2 count at left (get_or tops p 0) (get_or ats p 0)

pub table_start : (skip : Bool) (s : List ℕ) (count : ℕ) {tops ats : List ℕ} → Spans 256 count s 2 → tops ≡ replicate 256 0 → ats ≡ replicate 256 0 → Table skip s count 2 count tops ats
table_start skip s count w e f =
    record {
      spans = w;
      scores = ap length e ∙ length-replicate {A = ℕ} 256 0;
      offsets = ap length f ∙ length-replicate {A = ℕ} 256 0;
      walks = λ p h. rw (e, f, get_or-replicate {A = ℕ} 256 p 0 0 h) (walk_start skip (Right (record { 0 = p })) s 2 count (spans_whole 256 count s 2 w));
    }

module _ (skip : Bool) (s : List ℕ) (count at left : ℕ) (tops ats : List ℕ) (w : Table skip s count at left tops ats) (some_left : 0 < left) where
  pub table_first : Spanned 256 s at
  table_first = spans_first 256 left s at some_left w.spans

  pub table_head : at + 10 ≤ length s
  table_head = head_bytes_lem s at (length s) table_first.whole

  pub table_place : {a : ℕ} → a ≡ le_at s (at + 2) 2 → a < 256
  unfolding edge_at
  table_place e = let f = table_first in omega (arith, f.rises, f.within)

  module _ {a v to : ℕ} (start : a ≡ le_at s (at + 2) 2) (is : v ≡ score skip (Right (record { 0 = a })) (edge_at s at)) (next : to ≡ next_at s at) where
    -- a place where the edge does not start keeps its neighbour
    elsewhere : (p : ℕ) → p < 256 → (p ≡ a → ⊥) → {t x : ℕ} → t ≡ get_or tops p 0 → x ≡ get_or ats p 0 → Walk skip (Right (record { 0 = p })) s 2 count to (left - 1) t x
    unfolding edge_at
    elsewhere p h n e f =
        walk_on skip (Right (record { 0 = p })) s 2 count at left (get_or tops p 0) (get_or ats p 0) (w.walks p h) some_left
        (right_elsewhere skip p (edge_at s at) (λ g. n (g ∙ sym start))) next (omega arith) e f

    taken : (t x : List ℕ) → get_or tops a 0 < v → t ≡ set tops a v → x ≡ set ats a at → (p : ℕ) → p < 256 → Dec (p ≡ a) → Walk skip (Right (record { 0 = p })) s 2 count to (left - 1) (get_or t p 0) (get_or x p 0)
    taken t x b e f p h (no n) =
        elsewhere p h n (rw e (get_or-set_other tops a p v 0 n)) (rw f (get_or-set_other ats a p at 0 n))
    taken t x b e f p h (yes y) =
        let l : a < length tops = omega (arith, w.scores, table_place start) in
        let m : a < length ats = omega (arith, w.offsets, table_place start) in
        rw y
        (walk_better skip (Right (record { 0 = a })) s 2 count at left (get_or tops a 0) (get_or ats a 0) (w.walks a (table_place start)) some_left is next b
        (rw e (get_or-set_same tops a v 0 l)) (rw f (get_or-set_same ats a at 0 m)))

    stays : v ≤ get_or tops a 0 → (p : ℕ) → p < 256 → Dec (p ≡ a) → Walk skip (Right (record { 0 = p })) s 2 count to (left - 1) (get_or tops p 0) (get_or ats p 0)
    stays b p h (no n) = elsewhere p h n refl refl
    stays b p h (yes y) =
        rw y (walk_on skip (Right (record { 0 = a })) s 2 count at left (get_or tops a 0) (get_or ats a 0) (w.walks a (table_place start)) some_left is next b refl refl)

    left_spans : Spans 256 (left - 1) s to
    left_spans = rw next (spans_next 256 left s at some_left w.spans)

    pub table_turn : {t x : List ℕ} → t ≡ cond (ltb (get_or tops a 0) v) (set tops a v) tops → x ≡ cond (ltb (get_or tops a 0) v) (set ats a at) ats → Table skip s count to (left - 1) t x
    table_turn {t} {x} = by_test (ltb (get_or tops a 0) v) refl
      where
        by_test : (b : Bool) → ltb (get_or tops a 0) v ≡ b → t ≡ cond b (set tops a v) tops → x ≡ cond b (set ats a at) ats → Table skip s count to (left - 1) t x
        by_test true b e f =
            record {
              spans = left_spans;
              scores = ap length e ∙ length-set tops a v ∙ w.scores;
              offsets = ap length f ∙ length-set ats a at ∙ w.offsets;
              walks = λ p h. taken t x (ltb-true (get_or tops a 0) v b) e f p h (ℕ_discrete p a);
            }
        by_test false b e f =
            record {
              spans = left_spans;
              scores = ap length e ∙ w.scores;
              offsets = ap length f ∙ w.offsets;
              walks = λ p h. rw (e, f) (stays (ltb-false (get_or tops a 0) v b) p h (ℕ_discrete p a));
            }

pub table_ends : (skip : Bool) (s : List ℕ) (count at left : ℕ) (tops ats : List ℕ) → Table skip s count at left tops ats → left ≤ 0 → Rights skip s count tops ats
table_ends skip s count at left tops ats w none_left =
    λ p h. walk_ends skip (Right (record { 0 = p })) s 2 count at left (get_or tops p 0) (get_or ats p 0) (w.walks p h) none_left

-- ---- what the tables keep leads on
kept_some : (s : List ℕ) (top x : ℕ) → 0 < top → kept s top x ≡ some (x, edge_at s x)
kept_some s top x h = rw (lt-ltb 0 top h)

pub rights_steps : (skip : Bool) (s : List ℕ) (k : ℕ) (tops ats : List ℕ) → Spans 256 k s 2 → Rights skip s k tops ats → Steps s tops ats
rights_steps skip s k tops ats w r p h t = step (rights skip s k p) (best_listed skip (Right (record { 0 = p })) 256 k s 2 w) (best_positive skip (Right (record { 0 = p })) (with_offsets k s 2)) (sym (r p h) ∙ kept_some s (get_or tops p 0) (get_or ats p 0) t)
  where
    step : (b : Best) → OfBest (Listed 256 s) b → OfBest (λ x. 0 < score skip (Right (record { 0 = p })) x.1) b → b ≡ some (get_or ats p 0, edge_at s (get_or ats p 0)) → Step s p (get_or ats p 0)
    step b l f e =
        let at = get_or ats p 0 in
        let l : Listed 256 s (at, edge_at s at) = rw e at l in
        let f : 0 < score skip (Right (record { 0 = p })) (edge_at s at) = rw e at f in
        let g = right_start (record { 0 = p }) (edge_at s at).start (edge_at s at).end (score_asks skip (Right (record { 0 = p })) (edge_at s at) f) in
        record { whole = l.span.whole; leads_on = omega (arith, l.span.rises, g) }

-- ---- a step of the path
module _ (s tops ats : List ℕ) (w : Steps s tops ats) (p : ℕ) (h : p < 256) where
  pub hop_pass : get_or tops p 0 ≡ 0 → None ≡ hop_of s (by_table s tops ats p)
  unfolding hop_of
  hop_pass e = rw e

  pub hop_take : {b e : ℕ} → (get_or tops p 0 ≡ 0 → ⊥) → b ≡ next_at s (get_or ats p 0) → e ≡ le_at s (get_or ats p 0 + 4) 2 → Some (record { 0 = get_or ats p 0 }, record { 0 = b }, record { 0 = e }) ≡ hop_of s (by_table s tops ats p)
  unfolding hop_of edge_at
  hop_take n x y = rw (lt-ltb 0 (get_or tops p 0) (omega arith), x, y)

  pub hop_head : (get_or tops p 0 ≡ 0 → ⊥) → get_or ats p 0 + 10 ≤ length s
  hop_head n = head_bytes_lem s (get_or ats p 0) (length s) (w p h (omega arith)).whole
