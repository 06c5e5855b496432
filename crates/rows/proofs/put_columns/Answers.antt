-- `rows::put_columns` meets its contract: five promises in a row, each with the room that the last offset leaves. Assumes nothing.
use native.Mathlib.Omega.{arith}
use Rattle.rows.proofs.RowsLaws.{start_room, end_room, type_room, txt_room, mark_room, put_all_columns}
use Rattle.rows.proofs.put_columns.Goals as goal

pub put_number-end-requires : goal.put_number-end-requires
put_number-end-requires c = let a = c.args in start_room a.s.now a.e c.requires.1 c.requires.2 a.at _ c.requires.0

pub put_number-ty-requires : goal.put_number-ty-requires
put_number-ty-requires c = let a = c.args in omega (arith, end_room a.s.now a.e c.requires.1 c.requires.2 a.at _ c.requires.0 c.put_number-end.ensures)

pub put_part-txt-requires : goal.put_part-txt-requires
put_part-txt-requires c = let a = c.args in (omega (arith, type_room a.s.now a.e c.requires.1 c.requires.2 a.at _ c.requires.0 c.put_number-end.ensures c.put_number-ty.ensures), c.requires.1)

pub put_part-last-requires : goal.put_part-last-requires
put_part-last-requires c = let a = c.args in (omega (arith, txt_room a.s.now a.e c.requires.1 c.requires.2 a.at _ c.requires.0 c.put_number-end.ensures c.put_number-ty.ensures c.put_part-txt.ensures), c.requires.2)

pub put_text-requires : goal.put_text-requires
put_text-requires c = let a = c.args in omega (arith, mark_room a.s.now a.e c.requires.1 c.requires.2 a.at _ c.requires.0 c.put_number-end.ensures c.put_number-ty.ensures c.put_part-txt.ensures c.put_part-last.ensures)

pub returns : goal.returns
returns c = put_all_columns _ _ _ _ _ c.mark.ensures c.put_number-end.ensures c.put_number-ty.ensures c.put_part-txt.ensures c.put_part-last.ensures c.put_text.ensures
