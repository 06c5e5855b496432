-- `meets` meets its contract, pass by pass. Assumes nothing.
use Rattle.pass_rules.proofs.meets.meets.Goals as goal

pub returns-in-D1 : goal.returns-in-D1
returns-in-D1 c x y p q = rw (c.in-D1.is, c.over_point.ensures x y p q, p, q)

pub returns-in-G1 : goal.returns-in-G1
returns-in-G1 c x y p q = rw (c.in-G1.is, p, q)

pub returns-in-G2 : goal.returns-in-G2
returns-in-G2 c x y p q = rw (c.in-G2.is, p, q)

pub returns-in-G3 : goal.returns-in-G3
returns-in-G3 c x y p q = rw (c.in-G3.is, p, q)

pub returns-in-G4 : goal.returns-in-G4
returns-in-G4 c x y p q = rw (c.in-G4.is, p, q)
