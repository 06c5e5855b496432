-- `first_stages::chars::point_at` meets its contract: points do not count, or the line ends at the place, or the byte there is looked at. Assumes nothing.
use Rattle.std.proofs.Common.{ap, not}
use mathlib.Core.Path.{◌≡◌}
use lib.ListN.{get_or}
use Rattle.text.specs.Text.{offset_of}
use Rattle.first_stages.proofs.chars.PointLaws.{counts_not, counts_as, point_end, point_inside, point_here}
use Rattle.first_stages.proofs.chars.point_at.Goals as goal

pub returns-then-not-marks : goal.returns-then-not-marks
returns-then-not-marks c = counts_not c.args.marks _ (ap not c.if-not-marks.true)

pub returns-then-at-line : goal.returns-then-at-line
returns-then-at-line c =
    let offset : get_or c.args.offs.now c.args.place.0 0 ≡ offset_of c.args.line.now c.args.place.0 = c.requires.0.at c.args.place.0 c.requires.1 in
    counts_as c.args.marks (ap not c.if-not-marks.false) (point_end c.args.line.now c.requires.0.formed c.args.place.0 c.requires.1 offset c.if-at-line.true)

pub bounds-line-at : goal.bounds-line-at
bounds-line-at c =
    let offset : get_or c.args.offs.now c.args.place.0 0 ≡ offset_of c.args.line.now c.args.place.0 = c.requires.0.at c.args.place.0 c.requires.1 in
    point_inside c.args.line.now c.requires.0.formed c.args.place.0 c.requires.1 offset c.if-at-line.false

pub returns : goal.returns
returns c =
    let offset : get_or c.args.offs.now c.args.place.0 0 ≡ offset_of c.args.line.now c.args.place.0 = c.requires.0.at c.args.place.0 c.requires.1 in
    counts_as c.args.marks (ap not c.if-not-marks.false) (point_here c.args.line.now c.requires.0.formed c.args.place.0 c.requires.1 offset c.if-at-line.false)
