-- `markers::sign_before` meets its contract: where the last bytes differ in their lowest five bits, the sign does not stand before the place. Assumes nothing.
use mathlib.Core.Path.{◌≡◌}
use native.Mathlib.Omega.{arith}
use lib.ListN.{get_or}
use Rattle.text.specs.Text.{offset_of}
use Rattle.text.proofs.PlaceLaws.{offset_le}
use Rattle.markers.proofs.MarkLaws.{sign_not_before}
use Rattle.markers.proofs.sign_before.Goals as goal

pub last_differs-requires : goal.last_differs-requires
last_differs-requires c =
    let is_offset : get_or c.args.offs.now c.args.here.0 0 ≡ offset_of c.args.line.now c.args.here.0 = c.requires.1.at c.args.here.0 c.requires.2 in
    omega (arith, is_offset, offset_le c.args.line.now c.args.here.0)

pub returns-then-last_differs : goal.returns-then-last_differs
returns-then-last_differs c =
    let is_offset : get_or c.args.offs.now c.args.here.0 0 ≡ offset_of c.args.line.now c.args.here.0 = c.requires.1.at c.args.here.0 c.requires.2 in
    sign_not_before c.args.line.now c.args.here.0 c.args.sign.now c.requires.3 is_offset (c.last_differs.ensures c.if-last_differs.true)
