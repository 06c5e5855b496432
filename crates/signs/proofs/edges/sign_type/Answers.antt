-- `signs::edges::sign_type` meets its contract. Assumes nothing.
use Prim.Native.Nat.{◌≤◌}
use native.Mathlib.Omega.{arith}
use lib.ListN.{length, length-set}
use Rattle.signs.proofs.edges.BufferLaws.{front_length, begins_type}
use Rattle.signs.proofs.edges.sign_type.Goals as goal

pub type_of-n-requires : goal.type_of-n-requires
type_of-n-requires c = ((c.requires.1.0, c.requires.1.1, c.requires.1.3), omega (arith, c.requires.0))

pub bounds-buf-n : goal.bounds-buf-n
bounds-buf-n c =
    let small : c.type_of-n.result ≤ 60 = let p = c.requires.1 in omega (arith, (c.type_of-n.ensures p.0 p.1).long, p.2) in
    let room : 62 ≤ length c.type_of-n.new.buf = omega (arith, front_length (c.type_of-n.ensures c.requires.1.0 c.requires.1.1), c.requires.0) in
    omega (arith, small, room)

pub overflow_add-buf : goal.overflow_add-buf
overflow_add-buf c =
    let small : c.type_of-n.result ≤ 60 = let p = c.requires.1 in omega (arith, (c.type_of-n.ensures p.0 p.1).long, p.2) in
    omega (arith, small)

pub bounds-buf-n-2 : goal.bounds-buf-n-2
bounds-buf-n-2 c =
    let small : c.type_of-n.result ≤ 60 = let p = c.requires.1 in omega (arith, (c.type_of-n.ensures p.0 p.1).long, p.2) in
    let room : 62 ≤ length c.type_of-n.new.buf = omega (arith, front_length (c.type_of-n.ensures c.requires.1.0 c.requires.1.1), c.requires.0) in
    omega (arith, small, room, length-set c.type_of-n.new.buf c.type_of-n.result 32)

pub overflow_add-result : goal.overflow_add-result
overflow_add-result c =
    let small : c.type_of-n.result ≤ 60 = let p = c.requires.1 in omega (arith, (c.type_of-n.ensures p.0 p.1).long, p.2) in
    omega (arith, small)

pub returns : goal.returns
returns c =
    let small : c.type_of-n.result ≤ 60 = let p = c.requires.1 in omega (arith, (c.type_of-n.ensures p.0 p.1).long, p.2) in
    λ i e. begins_type (c.type_of-n.ensures i e) small c.requires.0 _
