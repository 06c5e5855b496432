-- `signs::edges::add_sign` meets its contract, by whether the sign stands before the stored edge. Assumes nothing.
use mathlib.Core.Path.{refl, sym, ◌∙◌}
use Prim.Native.Nat.{◌≤◌}
use native.Mathlib.Omega.{arith}
use lib.ListN.{length}
use Rattle.text.specs.Text.{chars}
use Rattle.pass_list.specs.Edges.{edge_of}
use Rattle.pass_edge.proofs.TextLaws.{places_of}
use Rattle.signs.proofs.edges.SignLaws.{sign_fits, sign_added, sign_absent}
use Rattle.signs.proofs.edges.BufferLaws.{start_is}
use Rattle.signs.proofs.edges.add_sign.Goals as goal

pub sign_before-requires : goal.sign_before-requires
sign_before-requires c =
    let inside : c.args.edge.start.0 ≤ length (chars c.args.line.now) =
    let (i, is) = c.requires.0.stored_edge in
    let places = places_of c.args.line.now c.args.table.now c.args.edge i is in
    omega (arith, places.0, places.1) in
    (c.requires.0.few, c.requires.0.offsets, inside, c.requires.1)

pub overflow_sub-edge : goal.overflow_sub-edge
overflow_sub-edge c = sign_fits _ _ _ (sym c.sign_before.ensures ∙ c.in-Some.is)

pub add_signed-requires : goal.add_signed-requires
add_signed-requires c =
    let inside : c.args.edge.start.0 ≤ length (chars c.args.line.now) =
    let (i, is) = c.requires.0.stored_edge in
    let places = places_of c.args.line.now c.args.table.now c.args.edge i is in
    omega (arith, places.0, places.1) in
    (c.requires.0, omega (arith, inside, c.requires.0.few))

pub returns-in-Some : goal.returns-in-Some
returns-in-Some c =
    let a = c.args in
    let w = chars a.line.now in
    record {
      frame = c.add_signed.ensures.0;
      holds = λ es i q e. sign_added w a.sign (edge_of w a.table.now i) (start_is w a.table.now e) a.text.now (sym c.sign_before.ensures ∙ c.in-Some.is) es (c.add_signed.ensures.1 es i q e);
    }

pub returns-in-None : goal.returns-in-None
returns-in-None c =
    let a = c.args in
    let w = chars a.line.now in
    record {
      frame = refl;
      holds = λ es i q e. sign_absent w a.sign (edge_of w a.table.now i) (start_is w a.table.now e) a.text.now (sym c.sign_before.ensures ∙ c.in-None.is) es q;
    }
