use mathlib.Core.Path.{◌≡◌}
use Prim.Native.Nat.{◌≤◌}
use native.Mathlib.Omega.{arith}
use lib.ListN.{length, get_or}
use Rattle.text.specs.Text.{chars, offset_of}
use Rattle.text.proofs.PlaceLaws.{offset_le}
use Rattle.numbers.specs.Fractions.{stands_at}
use Rattle.markers.proofs.MarkLaws.{stands_told}
use Rattle.markers.proofs.AnyLaws.{none_start, none_ends, found_here, none_more}
use Rattle.markers.proofs.any.stands_somewhere.Goals as goal

pub loop-p-init : goal.loop-p-init
loop-p-init c = none_start _ _ _

pub stands-requires : goal.stands-requires
stands-requires c =
    let inside : c.loop-p.p ≤ length (chars c.args.line.now) = let k = c.requires.1 in omega (arith, c.loop-p-test.true) in
    let is_offset : get_or c.args.offs.now c.loop-p.p 0 ≡ offset_of c.args.line.now c.loop-p.p = c.requires.0.at c.loop-p.p (inside) in
    omega (arith, is_offset, offset_le c.args.line.now c.loop-p.p)

pub returns-then-stands : goal.returns-then-stands
returns-then-stands c =
    let inside : c.loop-p.p ≤ length (chars c.args.line.now) = let k = c.requires.1 in omega (arith, c.loop-p-test.true) in
    let is_offset : get_or c.args.offs.now c.loop-p.p 0 ≡ offset_of c.args.line.now c.loop-p.p = c.requires.0.at c.loop-p.p (inside) in
    let it_stands : c.stands.result ≡ stands_at (chars c.args.line.now) c.loop-p.p c.args.marker.now = stands_told _ c.requires.0.formed _ _ c.requires.3 (is_offset) c.stands.ensures in
    found_here _ _ _ _ c.loop-p.invariant c.loop-p-test.true it_stands c.if-stands.true

pub loop-p-preserved : goal.loop-p-preserved
loop-p-preserved c =
    let inside : c.loop-p.p ≤ length (chars c.args.line.now) = let k = c.requires.1 in omega (arith, c.loop-p-test.true) in
    let is_offset : get_or c.args.offs.now c.loop-p.p 0 ≡ offset_of c.args.line.now c.loop-p.p = c.requires.0.at c.loop-p.p (inside) in
    let it_stands : c.stands.result ≡ stands_at (chars c.args.line.now) c.loop-p.p c.args.marker.now = stands_told _ c.requires.0.formed _ _ c.requires.3 (is_offset) c.stands.ensures in
    none_more _ _ _ _ c.loop-p.invariant c.loop-p-test.true it_stands c.if-stands.false

pub returns : goal.returns
returns c = none_ends _ _ _ _ c.loop-p.invariant c.loop-p-test.false
