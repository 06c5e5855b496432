-- Laws of the neighbours of every place (`specs/Around.antt`). No contract cites this file.
-- In order: the walk over the lattice for one place; the walk for all places; what the bytes of the lattice say of it. Assumes nothing.
use mathlib.Core.Path.{◌≡◌, refl, sym, ap, ◌∙◌}
use mathlib.Core.Bool.{Bool, true, false, cond}
use mathlib.Core.List.{List}
use mathlib.Core.Option.{some}
use Prim.Native.Nat.{ℕ, suc, ◌+◌, ◌≤◌, ◌<◌}
use native.Mathlib.Numerals.{add-one}
use native.Mathlib.Omega.{arith}
use native.Mathlib.Decide.{ℕ_discrete}
use lib.ListN.{length, drop, get_or, set, replicate, length-set, length-replicate, get_or-replicate}
use lib.Seq.{drop-cons, drop-length, get_or-set_same, get_or-set_other}
use lib.Dec.{ltb}
use borrow.Author.Tests.{lt-ltb, le-ltb, ltb-true, ltb-false, ne_eqb}
use Rattle.edge.specs.Edge.{Edge, edges_bytes}
use Rattle.edge.specs.Layout.{head_end, next_at, edge_at}
use Rattle.edge.proofs.CheckLaws.{head_within}
use Rattle.lattice.specs.declared.Lattice.{Lattice}
use Rattle.lattice.specs.Kept.{no_edge, offset}
use Rattle.lattice.proofs.HoldsLaws.{kept_of_lem}
use Rattle.paths.specs.declared.Query.{Query}
use Rattle.paths.specs.declared.Query.TheVariants.{Left}
use Rattle.paths.specs.Best.{asked, score, Best, best, numbered}
use Rattle.paths.proofs.BestLaws.{head_bytes_lem, score_not_asked, right_elsewhere, scored, better, best_from, best_walk}
use Rattle.paths.proofs.ReadingLaws.{sound_span}
use Rattle.numbers.specs.CallEdge.{CallEdge}
use Rattle.numbers.proofs.stages.ReadLaws.{EdgeThere, edge_of, call_legals, every_at}
use Rattle.fraction_choices.specs.Around.{HoldsLine, side_of, place_of, kept_of, Neighbors}
use Rattle.fraction_choices.specs.Decision.{WholeValued}

-- ---- one place: what is kept, of score top and with the number x, and the edges from the i-th on have the best of all
pub record Walk (q : Query) (es : List Edge) (i top x : ℕ) : Type 0 where
  pub value : top ≡ scored false q (kept_of es x)
  pub so_far : best_from false q (kept_of es x) (numbered i (drop i es)) ≡ best false q (numbered 0 es)

walk_start : (q : Query) (es : List Edge) → Walk q es 0 0 0
walk_start q es = record { value = refl; so_far = best_walk false q (numbered 0 es) }

module _ {q : Query} {es : List Edge} {i top x : ℕ} (k : Walk q es i top x) where
  module _ (more : i < length es) {v : ℕ} (is : v ≡ score false q (get_or es i no_edge)) where
    turned : best_from false q (better false q (kept_of es x) (i, get_or es i no_edge)) (numbered (suc i) (drop (suc i) es)) ≡ best false q (numbered 0 es)
    unfolding best_from numbered
    turned = ap (λ (fs : List Edge). best_from false q (kept_of es x) (numbered i fs)) (sym (drop-cons es i no_edge more)) ∙ k.so_far

    -- the two ways of a turn: the edge is taken, or the one before is kept
    walk_better : {t y : ℕ} → top < v → t ≡ v → y ≡ i + 1 → Walk q es (i + 1) t y
    walk_better h e f =
        let wins : better false q (kept_of es x) (i, get_or es i no_edge) ≡ some (i, get_or es i no_edge) = rw (← k.value, ← is, lt-ltb top v h) in
        rw (e, f, add-one i)
        (record { value = is; so_far = ap (λ (b : Best). best_from false q b (numbered (suc i) (drop (suc i) es))) (sym wins) ∙ turned })

    walk_on : {t y : ℕ} → v ≤ top → t ≡ top → y ≡ x → Walk q es (i + 1) t y
    walk_on h e f =
        let stays : better false q (kept_of es x) (i, get_or es i no_edge) ≡ kept_of es x = rw (← k.value, ← is, le-ltb top v h) in
        rw (e, f, add-one i)
        (record { value = k.value; so_far = ap (λ (b : Best). best_from false q b (numbered (suc i) (drop (suc i) es))) (sym stays) ∙ turned })

  walk_ends : i ≡ length es → kept_of es x ≡ best false q (numbered 0 es)
  unfolding best_from numbered
  walk_ends h = ap (λ (fs : List Edge). best_from false q (kept_of es x) (numbered i fs)) (sym (ap (λ (j : ℕ). drop j es) h ∙ drop-length es)) ∙ k.so_far

-- ---- all places: for each of them what is kept of the edges seen
pub record Table (right : Bool) (es : List Edge) (at i : ℕ) (tops table : List ℕ) : Type 0 where
  pub stands : at ≡ offset es i
  pub within : i ≤ length es
  pub scores : length tops ≡ 257
  pub indices : length table ≡ 257
  pub walks : (p : ℕ) → p ≤ 256 → Walk (side_of right p) es i (get_or tops p 0) (get_or table p 0)

pub table_start : (right : Bool) (es : List Edge) {tops table : List ℕ} → tops ≡ replicate 257 0 → table ≡ replicate 257 0 → Table right es 2 0 tops table
unfolding offset edges_bytes
table_start right es e f =
    record {
      stands = refl;
      within = omega arith;
      scores = ap length e ∙ length-replicate {A = ℕ} 257 0;
      indices = ap length f ∙ length-replicate {A = ℕ} 257 0;
      walks = λ p h. let z : p < 257 = omega arith in rw (e, f, get_or-replicate {A = ℕ} 257 p 0 0 z) (walk_start (side_of right p) es);
    }

side_elsewhere : (right : Bool) (p : ℕ) (e : Edge) → (p ≡ place_of right e → ⊥) → 0 ≡ score false (side_of right p) e
unfolding asked
side_elsewhere true p e n = right_elsewhere false p e n
side_elsewhere false p e n = score_not_asked false (Left (record { 0 = p })) e (ne_eqb e.end p (λ h. n (sym h)))

module _ {right : Bool} {es : List Edge} {at i : ℕ} {tops table : List ℕ} (k : Table right es at i tops table) where
  module _ (more : i < length es) {a v to : ℕ} (place : a ≡ place_of right (get_or es i no_edge)) (small : a ≤ 256) (is : v ≡ score false (side_of right a) (get_or es i no_edge)) (next : to ≡ offset es (i + 1)) where
    elsewhere : (p : ℕ) → p ≤ 256 → (p ≡ a → ⊥) → {t x : ℕ} → t ≡ get_or tops p 0 → x ≡ get_or table p 0 → Walk (side_of right p) es (i + 1) t x
    elsewhere p h n e f = walk_on (k.walks p h) more (side_elsewhere right p (get_or es i no_edge) (λ g. n (g ∙ sym place))) (omega arith) e f

    taken : (t x : List ℕ) → get_or tops a 0 < v → t ≡ set tops a v → x ≡ set table a (i + 1) → (p : ℕ) → p ≤ 256 → Dec (p ≡ a) → Walk (side_of right p) es (i + 1) (get_or t p 0) (get_or x p 0)
    taken t x b e f p h (no n) = elsewhere p h n (rw e (get_or-set_other tops a p v 0 n)) (rw f (get_or-set_other table a p (i + 1) 0 n))
    taken t x b e f p h (yes y) =
        let l : a < length tops = omega (arith, k.scores) in
        let m : a < length table = omega (arith, k.indices) in
        rw y (walk_better (k.walks a small) more is b (rw e (get_or-set_same tops a v 0 l)) (rw f (get_or-set_same table a (i + 1) 0 m)))

    stays : v ≤ get_or tops a 0 → (p : ℕ) → p ≤ 256 → Dec (p ≡ a) → Walk (side_of right p) es (i + 1) (get_or tops p 0) (get_or table p 0)
    stays b p h (no n) = elsewhere p h n refl refl
    stays b p h (yes y) = rw y (walk_on (k.walks a small) more is b refl refl)

    pub table_turn : {t x : List ℕ} → t ≡ cond (ltb (get_or tops a 0) v) (set tops a v) tops → x ≡ cond (ltb (get_or tops a 0) v) (set table a (i + 1)) table → Table right es to (i + 1) t x
    table_turn {t} {x} = by_test (ltb (get_or tops a 0) v) refl
      where
        by_test : (b : Bool) → ltb (get_or tops a 0) v ≡ b → t ≡ cond b (set tops a v) tops → x ≡ cond b (set table a (i + 1)) table → Table right es to (i + 1) t x
        by_test true b e f =
            record {
              stands = next;
              within = omega arith;
              scores = ap length e ∙ length-set tops a v ∙ k.scores;
              indices = ap length f ∙ length-set table a (i + 1) ∙ k.indices;
              walks = λ p h. taken t x (ltb-true (get_or tops a 0) v b) e f p h (ℕ_discrete p a);
            }
        by_test false b e f =
            record {
              stands = next;
              within = omega arith;
              scores = ap length e ∙ k.scores;
              indices = ap length f ∙ k.indices;
              walks = λ p h. rw (e, f) (stays (ltb-false (get_or tops a 0) v b) p h (ℕ_discrete p a));
            }

  pub table_ends : length es ≤ i → Neighbors right es table
  table_ends h = record { at = λ p z. walk_ends (k.walks p z) (let n = k.within in omega arith) }

-- ---- the bytes: the i-th edge stands at its offset
module _ {w : List ℕ} {l : Lattice} {es : List Edge} (keeps : HoldsLine w l es) where
  pub keeps_count : length es ≡ l.count
  keeps_count = (kept_of_lem keeps.holds keeps.not_full).count

  module _ {i at : ℕ} (more : i < l.count) (stands : at ≡ offset es i) where
    there : EdgeThere keeps.chars w l.len es i
    there = edge_of keeps.holds keeps.not_full (call_legals keeps.edges) i more

    pub keeps_edge : edge_at w at ≡ get_or es i no_edge
    keeps_edge = rw stands there.is

    pub keeps_next : next_at w at ≡ offset es (i + 1)
    keeps_next = rw stands there.next

    pub keeps_inside : next_at w at ≤ length w
    keeps_inside =
        let e : next_at w at ≤ l.len = rw stands there.inside in
        let s = keeps.holds.short in
        let r = keeps.holds.room in
        omega arith

    pub keeps_head : head_end w at ≤ length w
    keeps_head = head_within w at (length w) keeps_inside

    pub keeps_ten : at + 10 ≤ length w
    keeps_ten = head_bytes_lem w at (length w) keeps_inside

    pub keeps_valued : WholeValued (edge_at w at)
    keeps_valued = let n = keeps_count in let c : CallEdge keeps.chars (get_or es i no_edge) = every_at no_edge keeps.edges (omega arith) in rw keeps_edge c.value

    pub keeps_place : (right : Bool) {a : ℕ} → a ≡ place_of right (edge_at w at) → a ≤ 256
    keeps_place right e =
        let s = sound_span keeps.chars (get_or es i no_edge) there.legal.content in
        let f = keeps.few in
        by_side right (rw keeps_edge at e) s.0 s.1
      where
        by_side : (right : Bool) {a : ℕ} → a ≡ place_of right (get_or es i no_edge) → (get_or es i no_edge).start < (get_or es i no_edge).end → (get_or es i no_edge).end ≤ keeps.chars → a ≤ 256
        by_side true e s z = let f = keeps.few in omega arith
        by_side false e s z = let f = keeps.few in omega arith
