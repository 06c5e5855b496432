-- `pass_edge::edge_type::put_pass` meets its contract, pass by pass. Assumes nothing.
use Rattle.pass_edge.proofs.TextLaws.{front_is}
use Rattle.pass_edge.proofs.edge_type.put_pass.Goals as goal

pub shape_of-buf-in-D1 : goal.shape_of-buf-in-D1
shape_of-buf-in-D1 c = c.put_name.auto.buf

pub returns-in-D1 : goal.returns-in-D1
returns-in-D1 c = front_is (rw c.in-D1.is) c.put_name.ensures

pub shape_of-buf-in-G1 : goal.shape_of-buf-in-G1
shape_of-buf-in-G1 c = c.put_name-in-G1.auto.buf

pub returns-in-G1 : goal.returns-in-G1
returns-in-G1 c = front_is (rw c.in-G1.is) c.put_name-in-G1.ensures

pub shape_of-buf-in-G2 : goal.shape_of-buf-in-G2
shape_of-buf-in-G2 c = c.put_name-in-G2.auto.buf

pub returns-in-G2 : goal.returns-in-G2
returns-in-G2 c = front_is (rw c.in-G2.is) c.put_name-in-G2.ensures

pub shape_of-buf-in-G3 : goal.shape_of-buf-in-G3
shape_of-buf-in-G3 c = c.put_name-in-G3.auto.buf

pub returns-in-G3 : goal.returns-in-G3
returns-in-G3 c = front_is (rw c.in-G3.is) c.put_name-in-G3.ensures

pub shape_of-buf-in-G4 : goal.shape_of-buf-in-G4
shape_of-buf-in-G4 c = c.put_name-in-G4.auto.buf

pub returns-in-G4 : goal.returns-in-G4
returns-in-G4 c = front_is (rw c.in-G4.is) c.put_name-in-G4.ensures
