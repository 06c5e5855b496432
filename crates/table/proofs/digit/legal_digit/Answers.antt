-- `table::digit::legal_digit` meets its contract: each answer is one law of the digit rule, with the value that was read.
use Rattle.std.proofs.Common.{not}
use mathlib.Core.Path.{◌≡◌, sym, ap, ◌∙◌}
use mathlib.Core.Bool.{true}
use Prim.Native.Nat.{ℕ}
use native.Mathlib.Omega.{arith}
use borrow.Author.Tests.{not-true, not-false, ne_eqb, eq-eqb}
use Rattle.fields.specs.Fields.{le_at}
use Rattle.table.specs.Check.{is_digit_type}
use Rattle.fields.specs.Part.{part_of}
use Rattle.table.specs.Digit.{digit_fine}
use Rattle.table.proofs.digit.DigitLaws.{digit_no_value, digit_large_lem, digit_other, digit_no_rom, digit_long_rom, digit_rom}
use Rattle.table.proofs.digit.legal_digit.Goals as goal

pub returns-then-map-ne1 : goal.returns-then-map-ne1
returns-then-map-ne1 c = let a = c.args in digit_no_value a.s.now a.map (le_at a.s.now a.at 8) a.kind a.rom (ne_eqb _ _ c.if-map-ne1.true)

pub u64_at-value-requires : goal.u64_at-value-requires
u64_at-value-requires c = c.requires.at_in_bounds (eq-eqb _ _ c.if-map-ne1.false)

pub returns-then-value-gt9 : goal.returns-then-value-gt9
returns-then-value-gt9 c =
    let value_read : let a = c.args in digit_fine a.map c.u64_at-value.result (part_of a.s.now a.kind) (part_of a.s.now a.rom) ≡ digit_fine a.map (le_at a.s.now a.at 8) (part_of a.s.now a.kind) (part_of a.s.now a.rom) = let a = c.args in ap (λ (v : ℕ). digit_fine a.map v (part_of a.s.now a.kind) (part_of a.s.now a.rom)) c.u64_at-value.ensures in
    let a = c.args in
    digit_large_lem a.s.now a.map c.u64_at-value.result a.kind a.rom (omega arith) ∙ value_read

pub is_digit_type-requires : goal.is_digit_type-requires
is_digit_type-requires c = c.requires.within.0

pub returns-then-not-is_digit_type : goal.returns-then-not-is_digit_type
returns-then-not-is_digit_type c =
    let a = c.args in
    digit_other a.s.now a.map (le_at a.s.now a.at 8) a.kind a.rom (sym c.is_digit_type.ensures ∙ not-true _ (ap not c.if-not-is_digit_type.true))

pub returns-then-map-ne1-2 : goal.returns-then-map-ne1-2
returns-then-map-ne1-2 c =
    let is_digit_lem : let a = c.args in is_digit_type (part_of a.s.now a.kind) ≡ true = sym c.is_digit_type.ensures ∙ not-false _ (ap not c.if-not-is_digit_type.false) in
    let value_read : let a = c.args in digit_fine a.map c.u64_at-value.result (part_of a.s.now a.kind) (part_of a.s.now a.rom) ≡ digit_fine a.map (le_at a.s.now a.at 8) (part_of a.s.now a.kind) (part_of a.s.now a.rom) = let a = c.args in ap (λ (v : ℕ). digit_fine a.map v (part_of a.s.now a.kind) (part_of a.s.now a.rom)) c.u64_at-value.ensures in
    let a = c.args in
    digit_no_rom a.s.now a.map c.u64_at-value.result a.kind a.rom is_digit_lem (eq-eqb _ _ c.if-map-ne1.false) c.if-value-gt9.false (ne_eqb _ _ c.if-map-ne1-2.true) ∙ value_read

pub returns-then-rom-ne1 : goal.returns-then-rom-ne1
returns-then-rom-ne1 c =
    let is_digit_lem : let a = c.args in is_digit_type (part_of a.s.now a.kind) ≡ true = sym c.is_digit_type.ensures ∙ not-false _ (ap not c.if-not-is_digit_type.false) in
    let value_read : let a = c.args in digit_fine a.map c.u64_at-value.result (part_of a.s.now a.kind) (part_of a.s.now a.rom) ≡ digit_fine a.map (le_at a.s.now a.at 8) (part_of a.s.now a.kind) (part_of a.s.now a.rom) = let a = c.args in ap (λ (v : ℕ). digit_fine a.map v (part_of a.s.now a.kind) (part_of a.s.now a.rom)) c.u64_at-value.ensures in
    let a = c.args in
    digit_long_rom a.s.now a.map c.u64_at-value.result a.kind a.rom is_digit_lem (eq-eqb _ _ c.if-map-ne1.false) c.if-value-gt9.false (eq-eqb _ _ c.if-map-ne1-2.false) c.requires.within.1 c.if-rom-ne1.true ∙ value_read

pub returns : goal.returns
returns c =
    let is_digit_lem : let a = c.args in is_digit_type (part_of a.s.now a.kind) ≡ true = sym c.is_digit_type.ensures ∙ not-false _ (ap not c.if-not-is_digit_type.false) in
    let value_read : let a = c.args in digit_fine a.map c.u64_at-value.result (part_of a.s.now a.kind) (part_of a.s.now a.rom) ≡ digit_fine a.map (le_at a.s.now a.at 8) (part_of a.s.now a.kind) (part_of a.s.now a.rom) = let a = c.args in ap (λ (v : ℕ). digit_fine a.map v (part_of a.s.now a.kind) (part_of a.s.now a.rom)) c.u64_at-value.ensures in
    let a = c.args in
    digit_rom a.s.now a.map c.u64_at-value.result a.kind a.rom is_digit_lem (eq-eqb _ _ c.if-map-ne1.false) c.if-value-gt9.false (eq-eqb _ _ c.if-map-ne1-2.false) c.requires.within.1 c.if-rom-ne1.false ∙ value_read
