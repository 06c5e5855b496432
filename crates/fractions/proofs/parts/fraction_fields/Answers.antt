-- `fractions::parts::fraction_fields` meets its contract, by whether there is a script. Assumes nothing.
use Rattle.fractions.specs.NewParts.{fraction_fields}
use Rattle.fractions.proofs.parts.fraction_fields.Goals.{in-None, in-Some}
use Rattle.fractions.proofs.parts.fraction_fields.Goals as goal

pub returns : goal.returns
unfolding fraction_fields
returns c = elim c.match-copied.branch [ in-None w ↦ rw (w.in-None.is, w.bit-is) | in-Some w ↦ rw (w.in-Some.is, w.bit-is) ]
