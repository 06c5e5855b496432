use mathlib.Core.Path.{◌≡◌, sym, ◌∙◌}
use Prim.Native.Nat.{◌+◌, ◌≤◌}
use native.Mathlib.Omega.{arith}
use lib.ListN.{drop, set, length-set}
use borrow.Author.Count.{below_none}
use Rattle.text.specs.Sequence.{seq}
use Rattle.text.proofs.PlaceLaws.{reached_start, reached_char, char_fits, reached_here}
use Rattle.text.specs.Known.{char_of}
use Rattle.text.proofs.known.KnownLaws.{reached_stands, reached_end}
use Rattle.pass_edge.proofs.places.PlacesLaws.{Filled, reached_bound, filled_next, filled_end}
use Rattle.pass_edge.proofs.places.place_offsets.Goals as goal

pub loop-at-init : goal.loop-at-init
loop-at-init c = (reached_start _, below_none _, c.requires.2)

pub offset_bounds-offs-count : goal.offset_bounds-offs-count
offset_bounds-offs-count c =
    let bound : c.loop-at.count ≤ 256 = omega (arith, reached_bound _ _ _ c.loop-at.invariant.0) in
    omega (arith, bound)

pub bounds-offs-count : goal.bounds-offs-count
bounds-offs-count c =
    let bound : c.loop-at.count ≤ 256 = omega (arith, reached_bound _ _ _ c.loop-at.invariant.0) in
    omega (arith, bound)

pub char_at-c-requires : goal.char_at-c-requires
char_at-c-requires c = reached_stands _ c.requires.0 _ _ c.loop-at.invariant.0 c.loop-at-test.true

pub overflow_add-count : goal.overflow_add-count
overflow_add-count c =
    let bound : c.loop-at.count ≤ 256 = omega (arith, reached_bound _ _ _ c.loop-at.invariant.0) in
    omega (arith, bound)

pub overflow_add-at : goal.overflow_add-at
overflow_add-at c =
    let told : seq (drop c.loop-at.at c.args.line.now) ≡ char_of c.char_at-c.result = sym c.char_at-c.ensures in
    omega (arith, char_fits _ _ _ c.loop-at.invariant.0 _ _ told)

pub loop-at-smaller : goal.loop-at-smaller
loop-at-smaller c =
    let told : seq (drop c.loop-at.at c.args.line.now) ≡ char_of c.char_at-c.result = sym c.char_at-c.ensures in
    omega (arith, (reached_here _ _ _ c.loop-at.invariant.0 _ _ told).0)

pub loop-at-preserved : goal.loop-at-preserved
loop-at-preserved c =
    let told : seq (drop c.loop-at.at c.args.line.now) ≡ char_of c.char_at-c.result = sym c.char_at-c.ensures in
    let bound : c.loop-at.count ≤ 256 = omega (arith, reached_bound _ _ _ c.loop-at.invariant.0) in
    let filled : Filled c.args.line.now (set c.loop-at.offs c.loop-at.count c.loop-at.at) (c.loop-at.count + 1) = let m = c.loop-at.invariant.2 in filled_next _ _ _ c.loop-at.invariant.0 c.loop-at.offs (omega (arith, bound)) c.loop-at.invariant.1 in
    (reached_char _ _ _ c.loop-at.invariant.0 _ _ told, filled, length-set c.loop-at.offs c.loop-at.count c.loop-at.at ∙ c.loop-at.invariant.2)

pub offset_bounds-offs-count-2 : goal.offset_bounds-offs-count-2
offset_bounds-offs-count-2 c =
    let bound : c.loop-at.count ≤ 256 = omega (arith, reached_bound _ _ _ c.loop-at.invariant.0) in
    omega (arith, bound)

pub bounds-offs-count-2 : goal.bounds-offs-count-2
bounds-offs-count-2 c =
    let bound : c.loop-at.count ≤ 256 = omega (arith, reached_bound _ _ _ c.loop-at.invariant.0) in
    omega (arith, bound)

pub returns : goal.returns
returns c =
    let bound : c.loop-at.count ≤ 256 = omega (arith, reached_bound _ _ _ c.loop-at.invariant.0) in
    let filled : Filled c.args.line.now (set c.loop-at.offs c.loop-at.count c.loop-at.at) (c.loop-at.count + 1) = let m = c.loop-at.invariant.2 in filled_next _ _ _ c.loop-at.invariant.0 c.loop-at.offs (omega (arith, bound)) c.loop-at.invariant.1 in
    filled_end _ _ _ c.loop-at.invariant.0 _ c.requires.0 (reached_end _ c.requires.0 _ _ c.loop-at.invariant.0 c.loop-at-test.false) filled
