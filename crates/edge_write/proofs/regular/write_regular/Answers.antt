-- `edge_write::regular::write_regular` meets its contract: the length of the edge's bytes is what the test asks for. Assumes nothing.
use Rattle.edge.proofs.WriteLaws.{regular_no_room, regular_there}
use Rattle.edge_write.proofs.regular.write_regular.Goals as goal

pub returns-then-out-at : goal.returns-then-out-at
returns-then-out-at c =
    let a = c.args in
    record {
      answer = (regular_no_room a.out.now a.at a.start.0 a.end.0 a.ty.now a.txt.now c.if-out-at.true).0;
      bytes = (regular_no_room a.out.now a.at a.start.0 a.end.0 a.ty.now a.txt.now c.if-out-at.true).1;
    }

pub returns : goal.returns
returns c =
    let a = c.args in
    record {
      answer = (regular_there a.out.now a.at a.start.0 a.end.0 a.ty.now a.txt.now c.if-out-at.false c.put_head.ensures.1).0;
      bytes = (regular_there a.out.now a.at a.start.0 a.end.0 a.ty.now a.txt.now c.if-out-at.false c.put_head.ensures.1).1;
    }
