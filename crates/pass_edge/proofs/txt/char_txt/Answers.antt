-- `pass_edge::txt::char_txt` meets its contract: rom is a part of the table, the character the line's bytes between two places. Assumes nothing.
use mathlib.Core.Path.{◌≡◌, sym, ap, ◌∙◌}
use Prim.Native.Nat.{◌≤◌}
use native.Mathlib.Omega.{arith}
use lib.ListN.{length}
use Rattle.text.specs.Text.{chars}
use Rattle.pass_list.specs.Edges.{between}
use Rattle.pass_edge.specs.Texts.{char_txt}
use Rattle.pass_edge.proofs.RecordLaws.{type_end}
use Rattle.pass_edge.proofs.TextLaws.{front_is, own_part, type_within}
use Rattle.pass_edge.proofs.txt.char_txt.Goals as goal

pub overflow_add-at : goal.overflow_add-at
overflow_add-at c =
    let within : type_end c.args.table.now c.args.at ≤ length c.args.table.now = type_within c.args.table.now c.args.at c.requires.5 in
    omega (arith, within, c.well_formed.1.1.1.0)

pub bounds-table-at : goal.bounds-table-at
bounds-table-at c =
    let within : type_end c.args.table.now c.args.at ≤ length c.args.table.now = type_within c.args.table.now c.args.at c.requires.5 in
    omega (arith, within)

pub put_text-requires : goal.put_text-requires
put_text-requires c = omega (arith, ap length (c.rom_at.ensures (chars c.args.line.now) c.args.start.0 c.args.end.0), c.requires.4)

pub shape_of-buf-then-table-at-eq1 : goal.shape_of-buf-then-table-at-eq1
shape_of-buf-then-table-at-eq1 c = c.put_text.auto.buf

pub returns-then-table-at-eq1 : goal.returns-then-table-at-eq1
returns-then-table-at-eq1 c = front_is (c.rom_at.ensures _ _ _) c.put_text.ensures

pub put_text-requires-2 : goal.put_text-requires-2
put_text-requires-2 c =
    let own : let a = c.args in char_txt (chars a.line.now) a.table.now a.at a.start.0 a.end.0 ≡ between (chars a.line.now) a.start.0 a.end.0 = own_part c.args.table.now c.args.at c.requires.5 (chars c.args.line.now) c.args.start.0 c.args.end.0 c.if-table-at-eq1.false in
    omega (arith, ap length c.line_part.ensures, ap length own, c.requires.4)

pub shape_of-buf : goal.shape_of-buf
shape_of-buf c = c.put_text-2.auto.buf

pub returns : goal.returns
returns c =
    let own : let a = c.args in char_txt (chars a.line.now) a.table.now a.at a.start.0 a.end.0 ≡ between (chars a.line.now) a.start.0 a.end.0 = own_part c.args.table.now c.args.at c.requires.5 (chars c.args.line.now) c.args.start.0 c.args.end.0 c.if-table-at-eq1.false in
    front_is (c.line_part.ensures ∙ sym own) c.put_text-2.ensures
