-- `characters::add::fraction_at` meets its contract: the record is read where its map has a fraction. Assumes nothing.
use mathlib.Core.Path.{refl, ◌∙◌}
use Prim.Native.Nat.{◌≤◌}
use native.Mathlib.Omega.{arith}
use lib.ListN.{length}
use Rattle.pass_edge.proofs.RecordLaws.{type_end}
use Rattle.pass_edge.proofs.TextLaws.{type_within}
use Rattle.characters.proofs.fraction.FractionLaws.{fraction_record, ratio_legal}
use Rattle.characters.proofs.add.TextsLaws.{no_fraction}
use Rattle.characters.proofs.add.fraction_at.Goals as goal

pub overflow_add-at : goal.overflow_add-at
overflow_add-at c =
    let within : type_end c.args.table.now c.args.at ≤ length c.args.table.now = type_within c.args.table.now c.args.at c.requires in
    omega (arith, within, c.well_formed.0)

pub bounds-table-at : goal.bounds-table-at
bounds-table-at c =
    let within : type_end c.args.table.now c.args.at ≤ length c.args.table.now = type_within c.args.table.now c.args.at c.requires in
    omega (arith, within)

pub record_here-requires : goal.record_here-requires
record_here-requires c = (c.requires.next, record { prop = c.requires.prop; reads = c.requires.reads })

pub fraction_of-requires : goal.fraction_of-requires
fraction_of-requires c = ratio_legal c.record_here.result c.args.table.now c.args.at c.record_here.ensures.0 c.requires

pub returns-then-table-at-eq1 : goal.returns-then-table-at-eq1
returns-then-table-at-eq1 c = c.fraction_of.ensures ∙ fraction_record c.record_here.result c.args.table.now c.args.at c.record_here.ensures.0 0 refl

pub returns : goal.returns
returns c = no_fraction c.args.table.now c.args.at c.requires c.if-table-at-eq1.false
