-- Laws of the nearest number (`specs/Nearest.antt`). In order: numbers, by the map; distances; which edge comes first; a turn of the walk; the walk; the call.
-- No contract cites this file. Assumes nothing.
use Prim.Native.Nat.{ℕ, suc, ◌+◌, ◌-◌, ◌≤◌, ◌<◌}
use mathlib.Core.Path.{◌≡◌, refl, sym, ap, ◌∙◌}
use mathlib.Core.Bool.{Bool, true, false, cond, not}
use mathlib.Core.List.{List}
use mathlib.Core.Option.{some}
use native.Mathlib.Omega.{arith}
use lib.ListN.{length}
use lib.Dec.{eqb, ltb}
use borrow.Author.Tests.{le-leb, lt-leb, lt-ltb, le-ltb, ltb-true, ltb-false, eqb-true, not-true, not-false}
use Rattle.text.specs.Line.{max_chars}
use Rattle.text.specs.declared.Place.{Place}
use Rattle.text.specs.declared.Offset.{Offset}
use Rattle.fields.specs.Fields.{le_at}
use Rattle.edge.specs.Layout.{stands, map_at, numeric_at, next_at, edge_at}
use Rattle.edge.proofs.CheckLaws.{map_within}
use Rattle.paths.specs.declared.ReadRefusal.TheVariants.{BadPlace}
use Rattle.paths.specs.Best.{with_offsets, found}
use Rattle.paths.specs.Reading.{read_check, Spanned, Spans}
use Rattle.paths.proofs.ReadingLaws.{reads, spans_le, spans_first, spans_next}
use Rattle.nearest_number.specs.Nearest.{is_number, between, lower, comes_first, replaces_held, nearest_from, nearest, nearest_number, held_at, Held}
use Rattle.std.specs.Prelude.{Option, Some, None, Ok, Err}
use Rattle.std.proofs.Common.{Ordering, Less, Equal, Greater}
use Rattle.std.specs.Ordering.{is_some_and, is_lt, nat_cmp, partial_ordering_then}

-- ---- numbers: by bits 0 and 7 of the map
module _ (s : List ℕ) (at : ℕ) {map : ℕ} (is : map ≡ map_at s at) {numeric : Bool} (bit-0 : numeric ≡ stands 0 map) where
  pub number_regular : numeric ≡ false → false ≡ is_number (edge_at s at)
  unfolding is_number edge_at
  number_regular off = let z : stands 0 (map_at s at) ≡ false = sym (bit-0 ∙ rw is) ∙ off in rw z

  pub number_numeric : {active : Bool} → numeric ≡ true → active ≡ stands 7 map → active ≡ is_number (edge_at s at)
  unfolding is_number edge_at numeric_at
  number_numeric on bit-7 = let z : stands 0 (map_at s at) ≡ true = sym (bit-0 ∙ rw is) ∙ on in rw z (bit-7 ∙ rw is)

-- ---- distances
module _ (p a z : ℕ) (h : a < z) where
  pub between_before : p < a → a - p ≡ between p a z
  unfolding between
  between_before l = rw (lt-leb a p l) (omega arith)

  pub between_behind : a ≤ p → z < p → p - z ≡ between p a z
  unfolding between
  between_behind k l = rw (le-leb a p k, lt-leb p z l) (omega arith)

  pub between_within : a ≤ p → p ≤ z → 0 ≡ between p a z
  unfolding between
  between_within k l = rw (le-leb a p k, le-leb p z l)

-- ---- which edge comes first
-- of two spans with one start the longer has the greater end
longer : (a y z : ℕ) → a ≤ y → a ≤ z → ltb z y ≡ lower (z - a) (y - a) false
longer a y z h k = by (eqb (z - a) (y - a)) (ltb z y) refl refl
  where
    by : (t u : Bool) → eqb (z - a) (y - a) ≡ t → ltb z y ≡ u → u ≡ cond t false (ltb (z - a) (y - a))
    by true true e l = absurd (omega (arith, eqb-true (z - a) (y - a) e, ltb-true z y l))
    by true false e l = refl
    by false true e l = sym (lt-ltb (z - a) (y - a) (omega (arith, ltb-true z y l)))
    by false false e l = sym (le-ltb (z - a) (y - a) (omega (arith, ltb-false z y l)))

-- the order of triples: by the first parts that differ
less_then : (m n : ℕ) (o : Option Ordering) → is_some_and is_lt (partial_ordering_then (Some (nat_cmp m n)) o) ≡ lower m n (is_some_and is_lt o)
less_then m n o = by (ltb m n) (eqb m n) refl refl
  where
    by : (t u : Bool) → ltb m n ≡ t → eqb m n ≡ u → is_some_and is_lt (partial_ordering_then (Some (nat_cmp m n)) o) ≡ lower m n (is_some_and is_lt o)
    by true true l e = absurd (omega (arith, ltb-true m n l, eqb-true m n e))
    by true false l e = rw (l, e)
    by false true l e = rw (l, e)
    by false false l e = rw (l, e)

less_last : (m n : ℕ) → is_some_and is_lt (Some (nat_cmp m n)) ≡ ltb m n
less_last m n = by (ltb m n) (eqb m n) refl refl
  where
    by : (t u : Bool) → ltb m n ≡ t → eqb m n ≡ u → is_some_and is_lt (Some (nat_cmp m n)) ≡ ltb m n
    by true u l e = rw l
    by false true l e = rw (l, e)
    by false false l e = rw (l, e)

then_then : (o : Ordering) (p q : Option Ordering) → partial_ordering_then (partial_ordering_then (Some o) p) q ≡ partial_ordering_then (Some o) (partial_ordering_then p q)
then_then Less p q = refl
then_then Equal p q = refl
then_then Greater p q = refl

pub triples_by_parts : (x a y d b z : ℕ) →
    is_some_and is_lt (partial_ordering_then (partial_ordering_then (Some (nat_cmp x d)) (Some (nat_cmp a b))) (Some (nat_cmp y z))) ≡ lower x d (lower a b (ltb y z))
triples_by_parts x a y d b z =
    ap (is_some_and is_lt) (then_then (nat_cmp x d) (Some (nat_cmp a b)) (Some (nat_cmp y z)))
    ∙ less_then x d (partial_ordering_then (Some (nat_cmp a b)) (Some (nat_cmp y z)))
    ∙ ap (lower x d) (less_then a b (Some (nat_cmp y z)) ∙ ap (lower a b) (less_last y z))

-- the span of the edge at an offset is read
pub record Read (s : List ℕ) (at a z : ℕ) : Type 0 where
  pub start : a ≡ (edge_at s at).start
  pub end : z ≡ (edge_at s at).end
  pub rises : a < z

pub read_span : (s : List ℕ) (at : ℕ) {a z : ℕ} → Spanned max_chars s at → a ≡ le_at s (at + 2) 2 → z ≡ le_at s (at + 4) 2 → Read s at a z
unfolding edge_at
read_span s at h e f = record { start = e; end = f; rises = rw (e, f) h.rises }

module _ (p : ℕ) (s : List ℕ) (at held : ℕ) {a z b y : ℕ} (e : Read s at a z) (f : Read s held b y)
    {x d : ℕ} (far : x ≡ between p a z) (held-far : d ≡ between p b y) where
  -- what comes first of the two spans read
  by_spans : lower x d (lower a b (lower (y - b) (z - a) false)) ≡ comes_first p (edge_at s at) (edge_at s held)
  unfolding comes_first
  by_spans = rw (far, held-far, e.start, e.end, f.start, f.end)

  pub first_by_parts : lower x d (lower a b (ltb y z)) ≡ comes_first p (edge_at s at) (edge_at s held)
  first_by_parts = by (eqb a b) refl
    where
      by : (t : Bool) → eqb a b ≡ t → lower x d (lower a b (ltb y z)) ≡ comes_first p (edge_at s at) (edge_at s held)
      by true q =
          let same : a ≡ b = eqb-true a b q in
          ap (λ (r : Bool). lower x d (lower a b r))
          (longer a z y (omega (arith, e.rises)) (omega (arith, f.rises)) ∙ ap (λ (k : ℕ). lower (y - k) (z - a) false) same)
          ∙ by_spans
      by false q = rw q (rw q at by_spans)

-- ---- a turn
module _ (p : ℕ) (s : List ℕ) (at : ℕ) (held : Option Offset) {number : Bool} (is : number ≡ is_number (edge_at s at)) where
  pub stays_no_number : not number ≡ true → false ≡ replaces_held p (edge_at s at) (held_at s held)
  unfolding replaces_held
  stays_no_number off = rw (sym is ∙ not-true number off)

  module _ (on : not number ≡ false) where
    pub replaces_nothing : held ≡ None → true ≡ replaces_held p (edge_at s at) (held_at s held)
    unfolding replaces_held
    replaces_nothing z = rw (sym is ∙ not-false number on, z)

    pub replaces_later : {o : Offset} {r : Bool} → held ≡ Some o → r ≡ comes_first p (edge_at s at) (edge_at s o.0)
        → r ≡ replaces_held p (edge_at s at) (held_at s held)
    unfolding replaces_held
    replaces_later e q = rw (sym is ∙ not-false number on, e) q

-- ---- the walk: left edges from the offset at on are still to be seen, and of those before them one is held
pub record Walk (p : ℕ) (s : List ℕ) (count at left : ℕ) (held : Option Offset) : Type 0 where
  pub spans : Spans max_chars left s at
  pub spanned : Held s held
  pub so_far : nearest_from p (held_at s held) (with_offsets left s at) ≡ nearest p (with_offsets count s 2)

module _ {p : ℕ} {s : List ℕ} {count at left : ℕ} {held : Option Offset} (w : Walk p s count at left held) where
  module _ (some_left : 0 < left) where
    pub walk_edge : Spanned max_chars s at
    walk_edge = spans_first max_chars left s at some_left w.spans

    pub walk_at : at ≤ length s
    walk_at = omega (arith, map_within s at (length s) walk_edge.whole)

    turned : nearest_from p (cond (replaces_held p (edge_at s at) (held_at s held)) (some (at, edge_at s at)) (held_at s held)) (with_offsets (left - 1) s (next_at s at))
        ≡ nearest p (with_offsets count s 2)
    unfolding nearest_from with_offsets
    turned = let one_more_lem : left ≡ suc (left - 1) = omega arith in rw one_more_lem at w.so_far

    module _ {t : Bool} (is : t ≡ replaces_held p (edge_at s at) (held_at s held)) {next : ℕ} (is_next : next ≡ next_at s at) where
      pub walk_taken : {x : Option Offset} → t ≡ true → x ≡ Some (record { 0 = at }) → Walk p s count next (left - 1) x
      walk_taken taken e =
          rw (is_next, e)
          record { spans = spans_next max_chars left s at some_left w.spans; spanned = walk_edge; so_far = rw (sym is ∙ taken) at turned }

      pub walk_passed : {x : Option Offset} → t ≡ false → x ≡ held → Walk p s count next (left - 1) x
      walk_passed left_out e =
          rw (is_next, e)
          record { spans = spans_next max_chars left s at some_left w.spans; spanned = w.spanned; so_far = rw (sym is ∙ left_out) at turned }

  -- what is held is found again by its offset
  found_held : (f : Option Offset) → f ≡ found (held_at s f)
  unfolding found
  found_held (Some o) = refl
  found_held None = refl

  pub walk_found : left ≤ 0 → held ≡ found (nearest p (with_offsets count s 2))
  unfolding nearest_from with_offsets
  walk_found none_left = let z : left ≡ 0 = omega arith in found_held held ∙ ap found (rw z at w.so_far)

-- ---- the call
pub nearest_spans : (line s : List ℕ) {n k : ℕ} → read_check line s ≡ Ok (n, k) → Spans max_chars k s 2
nearest_spans line s {n} {k} e = let r = reads line s n k e in spans_le n max_chars k s 2 r.few r.spans

module _ (line s : List ℕ) (p : Place) where
  module _ {n k : ℕ} (e : read_check line s ≡ Ok (n, k)) where
    pub nearest_outside : n < p.0 → Err BadPlace ≡ nearest_number line s p
    unfolding nearest_number
    nearest_outside h = rw (e, lt-leb p.0 n h)

    pub nearest_found : {f : Option Offset} → p.0 ≤ n → f ≡ found (nearest p.0 (with_offsets k s 2)) → Ok f ≡ nearest_number line s p
    unfolding nearest_number
    nearest_found h q = rw (e, le-leb p.0 n h, q)
