-- `lattice::find::same_parts` meets its contract: a part that would run past the end is shorter, so another. Assumes nothing.
use mathlib.Core.Path.{◌∙◌}
use native.Mathlib.Nat.{add-sub_cancel_left}
use Rattle.fields.specs.Part.{part}
use Rattle.lattice.proofs.find.SearchLaws.{parts_short}
use Rattle.lattice.proofs.find.same_parts.Goals as goal

pub returns-then-work-a : goal.returns-then-work-a
returns-then-work-a c = parts_short _ _ _ _ _ c.if-work-a.true c.requires.1

pub returns : goal.returns
unfolding part
returns c = c.same_bytes.ensures ∙ rw (add-sub_cancel_left, add-sub_cancel_left)
