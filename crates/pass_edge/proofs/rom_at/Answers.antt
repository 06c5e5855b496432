-- `pass_edge::rom_at` meets its contract: a checked record with rom has it behind its type. Assumes nothing.
use mathlib.Core.Path.{sym, ◌∙◌}
use mathlib.Core.List.{List, []}
use Prim.Native.Nat.{ℕ, ◌+◌, ◌≤◌}
use native.Mathlib.Nat.{le-add_right}
use native.Mathlib.Omega.{arith}
use lib.ListN.{length, get_or}
use Rattle.pass_edge.specs.Texts.{char_txt}
use Rattle.pass_edge.proofs.RecordLaws.{type_end, Lies}
use Rattle.pass_edge.proofs.TextLaws.{type_within, rom_part, cut}
use Rattle.pass_edge.proofs.rom_at.Goals as goal

pub overflow_add-len_at : goal.overflow_add-len_at
overflow_add-len_at c =
    let within : type_end c.args.table.now c.args.at ≤ length c.args.table.now = type_within c.args.table.now c.args.at c.requires.0 in
    omega (arith, within, c.well_formed.0)

pub overflow_add-len_at-2 : goal.overflow_add-len_at-2
overflow_add-len_at-2 c =
    let within : type_end c.args.table.now c.args.at ≤ length c.args.table.now = type_within c.args.table.now c.args.at c.requires.0 in
    omega (arith, within, c.well_formed.0)

pub bounds-table-at : goal.bounds-table-at
bounds-table-at c =
    let within : type_end c.args.table.now c.args.at ≤ length c.args.table.now = type_within c.args.table.now c.args.at c.requires.0 in
    omega (arith, within)

pub overflow_cast-len_at : goal.overflow_cast-len_at
overflow_cast-len_at c = omega (arith, c.type_inv.table (c.args.at + 5))

pub overflow_add-len_at-3 : goal.overflow_add-len_at-3
overflow_add-len_at-3 c =
    let within : type_end c.args.table.now c.args.at ≤ length c.args.table.now = type_within c.args.table.now c.args.at c.requires.0 in
    omega (arith, within, c.well_formed.0)

pub overflow_add-from : goal.overflow_add-from
overflow_add-from c =
    let lies : (w : List ℕ) (a b : ℕ) → let t = c.args.table.now in Lies t (type_end t c.args.at) (char_txt w t c.args.at a b) = λ w a b. rom_part c.args.table.now c.args.at c.requires.0 w a b c.requires.1 in
    omega (arith, (lies [] 0 0).within, c.well_formed.0)

pub bounds-table-len_at : goal.bounds-table-len_at
bounds-table-len_at c =
    let lies : (w : List ℕ) (a b : ℕ) → let t = c.args.table.now in Lies t (type_end t c.args.at) (char_txt w t c.args.at a b) = λ w a b. rom_part c.args.table.now c.args.at c.requires.0 w a b c.requires.1 in
    omega (arith, (lies [] 0 0).within)

pub overflow_cast-to : goal.overflow_cast-to
overflow_cast-to c = omega (arith, c.type_inv.table (type_end c.args.table.now c.args.at))

pub overflow_add-to : goal.overflow_add-to
overflow_add-to c =
    let lies : (w : List ℕ) (a b : ℕ) → let t = c.args.table.now in Lies t (type_end t c.args.at) (char_txt w t c.args.at a b) = λ w a b. rom_part c.args.table.now c.args.at c.requires.0 w a b c.requires.1 in
    omega (arith, (lies [] 0 0).within, c.well_formed.0)

pub slice_bounds-result-count : goal.slice_bounds-result-count
slice_bounds-result-count c = le-add_right _ _

pub slice_bounds-result-start : goal.slice_bounds-result-start
slice_bounds-result-start c = le-add_right _ _

pub slice_bounds-result-end : goal.slice_bounds-result-end
slice_bounds-result-end c =
    let lies : (w : List ℕ) (a b : ℕ) → let t = c.args.table.now in Lies t (type_end t c.args.at) (char_txt w t c.args.at a b) = λ w a b. rom_part c.args.table.now c.args.at c.requires.0 w a b c.requires.1 in
    (lies [] 0 0).within

pub returns : goal.returns
returns c =
    let lies : (w : List ℕ) (a b : ℕ) → let t = c.args.table.now in Lies t (type_end t c.args.at) (char_txt w t c.args.at a b) = λ w a b. rom_part c.args.table.now c.args.at c.requires.0 w a b c.requires.1 in
    let t = c.args.table.now in let at = type_end t c.args.at in λ w a b. cut t (at + 1) (get_or t at 0) ∙ sym (lies w a b).is
