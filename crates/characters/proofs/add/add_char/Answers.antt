-- `characters::add::add_char` meets its contract: with rom or without. Assumes nothing.
use mathlib.Core.Path.{sym, ◌∙◌}
use native.Mathlib.Omega.{arith}
use Rattle.text.specs.Text.{chars}
use Rattle.pass_list.specs.StoredEdge.{StoredEdge}
use Rattle.pass_edge.specs.Grounded.{LegalAt, StoredIs}
use Rattle.pass_edge.specs.Texts.{TextsAre}
use Rattle.pass_edge.proofs.TextLaws.{places_of, type_within, own_part}
use Rattle.pass_edge.proofs.listed.FieldLaws.{legal_there}
use Rattle.pass_edge.proofs.listed.AddedLaws.{texts_there, texts_added}
use Rattle.characters.proofs.add.TextsLaws.{char_fraction, char_texts}
use Rattle.characters.proofs.add.add_char.Goals as goal

pub fraction_at-f-requires : goal.fraction_at-f-requires
fraction_at-f-requires c =
    let legal : LegalAt c.args.table.now c.args.edge.record_at.0 = legal_there c.args.line.now c.args.table.now c.args.edge c.requires.0.stored_edge.0 c.requires.0.stored_edge.1 c.requires.1 in
    legal

pub type_at-ty-requires : goal.type_at-ty-requires
type_at-ty-requires c =
    let legal : LegalAt c.args.table.now c.args.edge.record_at.0 = legal_there c.args.line.now c.args.table.now c.args.edge c.requires.0.stored_edge.0 c.requires.0.stored_edge.1 c.requires.1 in
    legal

pub overflow_add-at : goal.overflow_add-at
overflow_add-at c =
    let legal : LegalAt c.args.table.now c.args.edge.record_at.0 = legal_there c.args.line.now c.args.table.now c.args.edge c.requires.0.stored_edge.0 c.requires.0.stored_edge.1 c.requires.1 in
    omega (arith, type_within c.args.table.now c.args.edge.record_at.0 legal, c.well_formed)

pub bounds-table-at : goal.bounds-table-at
bounds-table-at c =
    let legal : LegalAt c.args.table.now c.args.edge.record_at.0 = legal_there c.args.line.now c.args.table.now c.args.edge c.requires.0.stored_edge.0 c.requires.0.stored_edge.1 c.requires.1 in
    omega (arith, type_within c.args.table.now c.args.edge.record_at.0 legal)

pub rom_at-rom-requires : goal.rom_at-rom-requires
rom_at-rom-requires c =
    let legal : LegalAt c.args.table.now c.args.edge.record_at.0 = legal_there c.args.line.now c.args.table.now c.args.edge c.requires.0.stored_edge.0 c.requires.0.stored_edge.1 c.requires.1 in
    (legal, c.if-table-at-eq1.true)

pub add_texts-requires : goal.add_texts-requires
add_texts-requires c =
    let rom_texts : (i : StoredEdge) → StoredIs c.args.line.now c.args.table.now c.args.edge i → TextsAre c.args.line.now c.args.table.now c.args.edge c.type_at-ty.result.now c.rom_at-rom.result.now i =
    let x = c.args.edge in
    char_texts c.args.line.now c.args.table.now x c.requires.1 c.type_at-ty.ensures (c.rom_at-rom.ensures (chars c.args.line.now) x.start.0 x.end.0) in
    let p = c.requires.0 in
    (p.holds, p.offsets, texts_there rom_texts p, p.few, c.fraction_at-f.ensures ∙ char_fraction c.args.line.now c.args.table.now c.args.edge c.requires.1)

pub shape_of-work-then-table-at-eq1 : goal.shape_of-work-then-table-at-eq1
shape_of-work-then-table-at-eq1 c = c.add_texts.auto.work

pub returns-then-table-at-eq1 : goal.returns-then-table-at-eq1
returns-then-table-at-eq1 c =
    let rom_texts : (i : StoredEdge) → StoredIs c.args.line.now c.args.table.now c.args.edge i → TextsAre c.args.line.now c.args.table.now c.args.edge c.type_at-ty.result.now c.rom_at-rom.result.now i =
    let x = c.args.edge in
    char_texts c.args.line.now c.args.table.now x c.requires.1 c.type_at-ty.ensures (c.rom_at-rom.ensures (chars c.args.line.now) x.start.0 x.end.0) in
    texts_added rom_texts c.add_texts.ensures

pub line_part-own-requires : goal.line_part-own-requires
line_part-own-requires c =
    let p = c.requires.0 in
    let places = places_of c.args.line.now c.args.table.now c.args.edge p.stored_edge.0 p.stored_edge.1 in
    (p.offsets, places.0, places.1, p.few)

pub add_texts-requires-2 : goal.add_texts-requires-2
add_texts-requires-2 c =
    let legal : LegalAt c.args.table.now c.args.edge.record_at.0 = legal_there c.args.line.now c.args.table.now c.args.edge c.requires.0.stored_edge.0 c.requires.0.stored_edge.1 c.requires.1 in
    let own_texts : (i : StoredEdge) → StoredIs c.args.line.now c.args.table.now c.args.edge i → TextsAre c.args.line.now c.args.table.now c.args.edge c.type_at-ty.result.now c.line_part-own.result.now i =
    let x = c.args.edge in
    let own = own_part c.args.table.now x.record_at.0 (legal) (chars c.args.line.now) x.start.0 x.end.0 c.if-table-at-eq1.false in
    char_texts c.args.line.now c.args.table.now x c.requires.1 c.type_at-ty.ensures (c.line_part-own.ensures ∙ sym own) in
    let p = c.requires.0 in
    (p.holds, p.offsets, texts_there own_texts p, p.few, c.fraction_at-f.ensures ∙ char_fraction c.args.line.now c.args.table.now c.args.edge c.requires.1)

pub shape_of-work : goal.shape_of-work
shape_of-work c = c.add_texts-2.auto.work

pub returns : goal.returns
returns c =
    let legal : LegalAt c.args.table.now c.args.edge.record_at.0 = legal_there c.args.line.now c.args.table.now c.args.edge c.requires.0.stored_edge.0 c.requires.0.stored_edge.1 c.requires.1 in
    let own_texts : (i : StoredEdge) → StoredIs c.args.line.now c.args.table.now c.args.edge i → TextsAre c.args.line.now c.args.table.now c.args.edge c.type_at-ty.result.now c.line_part-own.result.now i =
    let x = c.args.edge in
    let own = own_part c.args.table.now x.record_at.0 (legal) (chars c.args.line.now) x.start.0 x.end.0 c.if-table-at-eq1.false in
    char_texts c.args.line.now c.args.table.now x c.requires.1 c.type_at-ty.ensures (c.line_part-own.ensures ∙ sym own) in
    texts_added own_texts c.add_texts-2.ensures
