-- `worn::mark::is_plain` meets its contract, by what stands at the offset. Assumes nothing.
use Rattle.worn.proofs.MarkLaws.{other_plain, some_plain}
use Rattle.worn.proofs.mark.is_plain.Goals as goal
use Rattle.worn.proofs.mark.is_plain.Goals.{in-Other, in_default}

pub returns : goal.returns
returns c =
    elim c.match-matches.branch [
      | in-Other w ↦ rw w.matches-is (other_plain _ c.glyph_at.ensures w.in-Other.is)
      | in_default w ↦ rw w.matches-is (some_plain _ c.glyph_at.ensures w.in_default.not-Other w.in_default.not-End)
    ]
