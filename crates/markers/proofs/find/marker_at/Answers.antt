-- `markers::find::marker_at` meets its contract: the texts of a checked table are well-formed, so their bytes stand where their characters do. Assumes nothing.
use mathlib.Core.Path.{◌≡◌, ◌∙◌}
use Prim.Native.Nat.{◌≤◌}
use native.Mathlib.Omega.{arith}
use lib.ListN.{length, get_or}
use Rattle.text.specs.Text.{offset_of}
use Rattle.text.proofs.PlaceLaws.{offset_le}
use Rattle.markers.proofs.MarkLaws.{marker_is}
use Rattle.markers.proofs.find.marker_at.Goals as goal

pub longest_in-percentage-requires : goal.longest_in-percentage-requires
longest_in-percentage-requires c =
    let is_offset : get_or c.args.offs.now c.args.here.0 0 ≡ offset_of c.args.line.now c.args.here.0 = let h = c.requires.2 in c.requires.1.at c.args.here.0 (omega arith) in
    let at_inside : get_or c.args.offs.now c.args.here.0 0 ≤ length c.args.line.now = omega (arith, is_offset, offset_le c.args.line.now c.args.here.0) in
    at_inside

pub longest_in-connector-requires : goal.longest_in-connector-requires
longest_in-connector-requires c =
    let is_offset : get_or c.args.offs.now c.args.here.0 0 ≡ offset_of c.args.line.now c.args.here.0 = let h = c.requires.2 in c.requires.1.at c.args.here.0 (omega arith) in
    let at_inside : get_or c.args.offs.now c.args.here.0 0 ≤ length c.args.line.now = omega (arith, is_offset, offset_le c.args.line.now c.args.here.0) in
    at_inside

pub returns : goal.returns
returns c =
    let is_offset : get_or c.args.offs.now c.args.here.0 0 ≡ offset_of c.args.line.now c.args.here.0 = let h = c.requires.2 in c.requires.1.at c.args.here.0 (omega arith) in
    c.longer_of.ensures ∙ marker_is c.args.line.now c.args.table.now c.args.shape c.requires.0.1 c.args.here.0 (omega arith) is_offset c.longest_in-percentage.ensures c.longest_in-connector.ensures
