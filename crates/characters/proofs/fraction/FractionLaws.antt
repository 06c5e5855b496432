-- The fraction of a record, where it has one. No contract cites this file. Assumes nothing.
use mathlib.Core.Path.{◌≡◌}
use mathlib.Core.Bool.{true, ◌&&◌}
use mathlib.Core.List.{List}
use mathlib.Core.Option.{none, some}
use Prim.Native.Nat.{ℕ, ◌/◌, ◌%◌, ◌<◌}
use lib.Dec.{eqb, ltb}
use borrow.Author.Tests.{ltb-true, eq-eqb, ne_eqb}
use Rattle.text.proofs.RowLaws.{and-true}
use Rattle.table.specs.Layout.{Is, read_record, numbers_in}
use Rattle.table.specs.Check.{all_of, small, positive, legal_ratio, legal_numbers}
use Rattle.table.specs.Answers.{optionally, record_of}
use Rattle.table.specs.declared.layout.NumProp.{NumProp}
use Rattle.passes.specs.Characters.{lowest}
use Rattle.pass_edge.specs.Grounded.{LegalAt}
use Rattle.pass_edge.specs.Fields.{stored_fraction, record_fraction}

module _ (p : NumProp) where
  pub fraction_there : p.map / 4 % 2 ≡ 1 → some (lowest (p.numbers.numerator, p.numbers.denominator)) ≡ record_fraction p
  fraction_there h = rw (eq-eqb (p.map / 4 % 2) 1 h)

  pub fraction_absent : (p.map / 4 % 2 ≡ 1 → ⊥) → none ≡ record_fraction p
  fraction_absent h = rw (ne_eqb (p.map / 4 % 2) 1 h)

  module _ (s : List ℕ) (at : ℕ) (is : Is (record_of s p) p.next ≡ read_record s at) where
    pub fraction_record : (k : ℕ) → k ≡ 0 → record_fraction p ≡ stored_fraction s k at
    unfolding stored_fraction record_of
    fraction_record k z = rw (eq-eqb k 0 z, ← is)

    -- a record that passed the check has no 0 below
    pub ratio_legal : LegalAt s at → p.map / 4 % 2 ≡ 1 → 0 < p.numbers.denominator
    unfolding legal_numbers record_of all_of
    ratio_legal l h =
        let same : l.prop ≡ record_of s p = cc (l.reads, is) in
        let all : legal_numbers (numbers_in (record_of s p)) ≡ true = rw same at l.numbers in
        let n = numbers_in (record_of s p) in
        let three = (and-true ((all_of small n.value && all_of legal_ratio n.fraction) && all_of positive n.base) (all_of small n.mult) all).0 in
        let two = (and-true (all_of small n.value && all_of legal_ratio n.fraction) (all_of positive n.base) three).0 in
        let ratio : all_of legal_ratio (optionally (eqb (p.map / 4 % 2) 1) (p.numbers.numerator, p.numbers.denominator)) ≡ true = (and-true (all_of small n.value) (all_of legal_ratio n.fraction) two).1 in
        let there : legal_ratio (p.numbers.numerator, p.numbers.denominator) ≡ true = rw (eq-eqb (p.map / 4 % 2) 1 h) at ratio in
        ltb-true 0 _ (and-true (ltb 0 p.numbers.denominator) (small p.numbers.denominator) (and-true (small p.numbers.numerator) (positive p.numbers.denominator) there).1).0
