-- The value of an edge as the code reads it: bits of the map, then the bits of an f64. No contract cites this file. Assumes nothing.
use mathlib.Core.Path.{◌≡◌, refl, sym, ap, ◌∙◌}
use mathlib.Core.Bool.{Bool, true, false, not}
use mathlib.Core.List.{List}
use mathlib.Core.Option.{none, some}
use Prim.Native.Nat.{ℕ, ◌≤◌}
use lib.Dec.{T}
use lib.Ieee.{binary64, of_bits, to_unsigned, nan_bits}
use borrow.Author.Tests.{not-true, not-false}
use Rattle.whole.specs.Whole.{TOP, of_nat}
use Rattle.whole.proofs.WholeLaws.{of_nat-to_unsigned}
use Rattle.fields.specs.Fields.{le_at}
use Rattle.edge.specs.Edge.{f64_bits}
use Rattle.edge.specs.Layout.{stands, only, map_at, string_end, head_end, numeric_at, edge_at}
use Rattle.edge.specs.View.{view_at, fields_at}
use Rattle.edge.specs.declared.EdgeView.{EdgeView}
use Rattle.edge.specs.declared.NumFields.{NumFields}
use Rattle.edge.proofs.theorems.Theorems.{f64_bits_not_nan, f64_bits_back}
use Rattle.numbers.specs.Listed.{whole_of, whole_value}
use Rattle.numbers.specs.Fractions.{is_numeric}
use Rattle.fraction_choices.specs.Decision.{WholeValued}

-- the bits of a whole number, and the number
pub record Read (s : List ℕ) (at b : ℕ) : Type 0 where
  pub number : ℕ
  pub small : number ≤ TOP
  pub bits : b ≡ f64_bits number
  pub is : whole_value (edge_at s at) ≡ some number

module _ {s : List ℕ} {at b : ℕ} (r : Read s at b) where
  pub read_number : T (not (nan_bits binary64 b))
  read_number = rw r.bits (f64_bits_not_nan r.small)

  pub read_float : of_bits binary64 b ≡ of_nat r.number
  read_float = ap (of_bits binary64) r.bits ∙ f64_bits_back r.number

no_bits : (b : Bool) (k : ℕ) → none ≡ whole_of (only b k) none
no_bits true k = refl
no_bits false k = refl

module _ (s : List ℕ) (at : ℕ) {e : EdgeView} (head : e ≡ view_at s at) {numeric : Bool} (bit-0 : numeric ≡ stands 0 e.map) where
  map_is : (k : ℕ) → stands k e.map ≡ stands k (map_at s at)
  unfolding view_at
  map_is k = ap (λ (v : EdgeView). stands k v.map) head

  pub value_regular : not numeric ≡ true → none ≡ whole_value (edge_at s at)
  unfolding whole_value edge_at
  value_regular off = let z : stands 0 (map_at s at) ≡ false = sym (map_is 0) ∙ sym bit-0 ∙ not-true numeric off in rw z

  module _ (on : not numeric ≡ false) {valued : Bool} (bit-1 : valued ≡ stands 1 e.map) where
    is_numeric_lem : stands 0 (map_at s at) ≡ true
    is_numeric_lem = sym (map_is 0) ∙ sym bit-0 ∙ not-false numeric on

    pub value_absent : not valued ≡ true → none ≡ whole_value (edge_at s at)
    unfolding whole_value edge_at numeric_at
    value_absent off = let z : stands 1 (map_at s at) ≡ false = sym (map_is 1) ∙ sym bit-1 ∙ not-true valued off in rw (is_numeric_lem, z) (no_bits (stands 9 (map_at s at)) _)

    pub value_decimal : {counted : Bool} → counted ≡ stands 9 e.map → counted ≡ true → none ≡ whole_value (edge_at s at)
    unfolding whole_value edge_at numeric_at
    value_decimal bit-9 there = let z : stands 9 (map_at s at) ≡ true = sym (map_is 9) ∙ sym bit-9 ∙ there in rw (is_numeric_lem, z)

    module _ (there : not valued ≡ false) {counted : Bool} (bit-9 : counted ≡ stands 9 e.map) (uncounted : counted ≡ false) (whole : WholeValued (edge_at s at)) where
      has_value : stands 1 (map_at s at) ≡ true
      has_value = sym (map_is 1) ∙ sym bit-1 ∙ not-false valued there

      no_count : stands 9 (map_at s at) ≡ false
      no_count = sym (map_is 9) ∙ sym bit-9 ∙ uncounted

      -- where the value stands
      bits_at : ℕ
      bits_at = le_at s (string_end s (head_end s at)) 8

      number_of : (v : ℕ) × (v ≤ TOP) × (bits_at ≡ f64_bits v)
      unfolding edge_at numeric_at bits_at
      number_of = whole (numeric_at (map_at s at) s (head_end s at)) bits_at (rw is_numeric_lem) (rw no_count) (rw has_value)

      value_is : whole_value (edge_at s at) ≡ some number_of.0
      unfolding whole_value edge_at numeric_at bits_at
      value_is =
          let v = number_of in
          rw (is_numeric_lem, has_value, no_count) (ap some (ap (λ (b : ℕ). to_unsigned 64 (of_bits binary64 b)) v.2 ∙ ap (to_unsigned 64) (f64_bits_back v.0) ∙ of_nat-to_unsigned v.1))

      value_stands : (fields_at (map_at s at) s (head_end s at)).value ≡ bits_at
      unfolding fields_at bits_at
      value_stands = rw has_value

      pub value_read : {d : NumFields} → d ≡ fields_at e.map s e.fields.0 → Read s at d.value
      unfolding view_at
      value_read f =
          let v = number_of in
          record {
            number = v.0;
            small = v.1;
            bits = ap (λ (d : NumFields). d.value) f ∙ ap (λ (h : EdgeView). (fields_at h.map s h.fields.0).value) head ∙ value_stands ∙ v.2;
            is = value_is;
          }

pub numeric_at_lem : (s : List ℕ) (at : ℕ) {m : ℕ} {b : Bool} → m ≡ map_at s at → b ≡ stands 0 m → b ≡ is_numeric (edge_at s at)
unfolding edge_at
numeric_at_lem s at e f = f ∙ ap (stands 0) e ∙ by_bit (stands 0 (map_at s at))
  where
    by_bit : (t : Bool) → t ≡ elim (only t (numeric_at (map_at s at) s (head_end s at))) [ none ↦ false | some n ↦ true ]
    by_bit true = refl
    by_bit false = refl
