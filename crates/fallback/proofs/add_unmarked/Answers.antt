use mathlib.Core.Path.{◌≡◌}
use Prim.Native.Nat.{◌<◌}
use native.Mathlib.Omega.{arith}
use lib.ListN.{length, get_or}
use Rattle.text.specs.Text.{chars, offset_of}
use Rattle.fallback.proofs.DigitLaws.{place_inside, walk_start, walk_next, walk_end}
use Rattle.fallback.proofs.add_unmarked.Goals as goal

pub loop-place-init : goal.loop-place-init
loop-place-init c = walk_start _ _ _ _

pub offset_bounds-offs-place : goal.offset_bounds-offs-place
offset_bounds-offs-place c = omega (arith, c.requires.3, c.loop-place-test.true)

pub bounds-offs-place : goal.bounds-offs-place
bounds-offs-place c = omega (arith, c.requires.3, c.loop-place-test.true)

pub bounds-line-at : goal.bounds-line-at
bounds-line-at c =
    let place_in : c.loop-place.place < length (chars c.args.line.now) = omega (arith, c.requires.2, c.loop-place-test.true) in
    let offset_is : get_or c.args.offs.now c.loop-place.place 0 ≡ offset_of c.args.line.now c.loop-place.place = c.requires.1.at _ (omega (arith, place_in)) in
    omega (arith, offset_is, place_inside _ _ place_in)

pub bounds-marks-place : goal.bounds-marks-place
bounds-marks-place c = omega (arith, c.requires.3, c.loop-place-test.true)

pub add_digit-grown-requires : goal.add_digit-grown-requires
add_digit-grown-requires c =
    let d = c.loop-place.invariant.holds c.requires.0.0 c.requires.0.1 in
    ((d.0, d.1), omega (arith, c.requires.3, c.loop-place-test.true))

pub loop-place-preserved : goal.loop-place-preserved
loop-place-preserved c =
    let place_in : c.loop-place.place < length (chars c.args.line.now) = omega (arith, c.requires.2, c.loop-place-test.true) in
    let offset_is : get_or c.args.offs.now c.loop-place.place 0 ≡ offset_of c.args.line.now c.loop-place.place = c.requires.1.at _ (omega (arith, place_in)) in
    walk_next c.loop-place.invariant place_in offset_is c.add_digit-grown.auto.work c.add_digit-grown.ensures.0 c.add_digit-grown.ensures.1

pub shape_of-work : goal.shape_of-work
shape_of-work c = c.loop-place.invariant.long

pub returns : goal.returns
returns c = (c.loop-place.invariant.frame, walk_end c.loop-place.invariant (omega (arith, c.requires.2, c.loop-place-test.false)))
