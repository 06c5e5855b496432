-- `fraction_choices::decision::whole_value_at` meets its contract, by the bits 0, 1 and 9 of the map. Assumes nothing.
use Rattle.std.proofs.Common.{not}
use mathlib.Core.Path.{sym, ap, ◌∙◌}
use mathlib.Core.Option.{some}
use borrow.Author.Tests.{not-false}
use Rattle.edge.proofs.CheckLaws.{head_within, view_fields}
use Rattle.fraction_choices.proofs.decision.ValueLaws.{Read, read_number, read_float, value_regular, value_absent, value_decimal, value_read}
use Rattle.fraction_choices.proofs.decision.whole_value_at.Goals as goal

pub edge_at-e-requires : goal.edge_at-e-requires
edge_at-e-requires c = head_within _ _ _ c.requires.0

pub returns-then-not-bit : goal.returns-then-not-bit
returns-then-not-bit c = value_regular _ _ c.edge_at-e.ensures c.bit.ensures (ap not c.if-not-bit.true)

pub returns-then-not-bit-2 : goal.returns-then-not-bit-2
returns-then-not-bit-2 c = value_absent _ _ c.edge_at-e.ensures c.bit.ensures (ap not c.if-not-bit.false) c.bit-2.ensures (ap not c.if-not-bit-2.true)

pub returns-then-bit : goal.returns-then-bit
returns-then-bit c = value_decimal _ _ c.edge_at-e.ensures c.bit.ensures (ap not c.if-not-bit.false) c.bit-2.ensures c.bit-3.ensures c.if-bit.true

pub fields_at-d-requires : goal.fields_at-d-requires
fields_at-d-requires c = view_fields _ _ _ _ c.edge_at-e.ensures c.requires.0 (sym c.bit.ensures ∙ not-false _ (ap not c.if-not-bit.false))

pub float_from_bits-d : goal.float_from_bits-d
float_from_bits-d c =
    let read : Read c.args.work.now c.args.at c.fields_at-d.result.value = value_read _ _ c.edge_at-e.ensures c.bit.ensures (ap not c.if-not-bit.false) c.bit-2.ensures (ap not c.if-not-bit-2.false) c.bit-3.ensures c.if-bit.false c.requires.1 c.fields_at-d.ensures in
    read_number read

pub returns : goal.returns
returns c =
    let read : Read c.args.work.now c.args.at c.fields_at-d.result.value = value_read _ _ c.edge_at-e.ensures c.bit.ensures (ap not c.if-not-bit.false) c.bit-2.ensures (ap not c.if-not-bit-2.false) c.bit-3.ensures c.if-bit.false c.requires.1 c.fields_at-d.ensures in
    let r = read in ap some (c.whole_part.ensures _ r.small (read_float r)) ∙ sym r.is
