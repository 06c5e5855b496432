-- `worn::rows::try_char` meets its contract. Assumes nothing.
use Rattle.worn.proofs.TriedLaws.{char_there}
use Rattle.worn.proofs.rows.try_char.Goals as goal

pub returns : goal.returns
returns c =
    record {
      answer = c.value_within.ensures;
      put = char_there _ c.put_char.ensures;
    }
