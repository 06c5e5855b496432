-- `text::same_bytes` meets its contract: the equality of slices is `same`.
use mathlib.Core.Path.{◌∙◌}
use Rattle.text.proofs.BytesLaws.{same_is}
use Rattle.text.proofs.same_bytes.Goals as goal

pub returns : goal.returns
returns c = c.eq.ensures ∙ same_is _ _
