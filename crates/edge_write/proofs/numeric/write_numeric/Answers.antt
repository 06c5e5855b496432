-- `edge_write::numeric::write_numeric` meets its contract: the bytes end where `fields_past` says, and the map is that of the fields. Assumes nothing.
use Rattle.edge.proofs.WriteLaws.{head_room, numeric_no_room, numeric_there}
use mathlib.Core.Path.{◌∙◌}
use native.Mathlib.Omega.{arith}
use Rattle.edge_write.proofs.numeric.RoomLaws.{past_room}
use Rattle.edge_write.proofs.numeric.write_numeric.Goals as goal

pub returns-then-out-fields_past : goal.returns-then-out-fields_past
returns-then-out-fields_past c =
    let a = c.args in
    record {
      answer = (numeric_no_room a.out.now a.at a.start.0 a.end.0 a.ty.now a.txt.now a.o.now a.c.now a.v.now a.d c.requires.5 c.fields_past.ensures c.if-out-fields_past.true).0;
      bytes = (numeric_no_room a.out.now a.at a.start.0 a.end.0 a.ty.now a.txt.now a.o.now a.c.now a.v.now a.d c.requires.5 c.fields_past.ensures c.if-out-fields_past.true).1;
    }

pub put_head-requires : goal.put_head-requires
put_head-requires c = (omega (arith, head_room _ _ _ c.fields_past.ensures c.if-out-fields_past.false), c.requires.1, c.requires.2, c.requires.3, c.requires.4)

pub put_fields-requires : goal.put_fields-requires
put_fields-requires c = (past_room c.fields_past.ensures c.if-out-fields_past.false c.put_head.auto.out, c.requires.5)

pub shape_of-out : goal.shape_of-out
shape_of-out c = c.put_fields.auto.out ∙ c.put_head.auto.out

pub returns : goal.returns
returns c =
    let a = c.args in
    record {
      answer = (numeric_there a.out.now a.at a.start.0 a.end.0 a.ty.now a.txt.now a.o.now a.c.now a.v.now a.d c.requires.5 c.fields_past.ensures c.if-out-fields_past.false c.put_head.ensures.0 c.put_head.ensures.1 c.put_fields.ensures).0;
      bytes = (numeric_there a.out.now a.at a.start.0 a.end.0 a.ty.now a.txt.now a.o.now a.c.now a.v.now a.d c.requires.5 c.fields_past.ensures c.if-out-fields_past.false c.put_head.ensures.0 c.put_head.ensures.1 c.put_fields.ensures).1;
    }
