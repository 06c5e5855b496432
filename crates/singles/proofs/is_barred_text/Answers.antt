-- `singles::is_barred_text` meets its contract: seven tests in a row. Assumes nothing.
use Rattle.singles.proofs.BarredLaws.{characters_are}
use Rattle.singles.proofs.is_barred_text.Goals as goal

pub returns : goal.returns
returns c = characters_are _ c.same_bytes-two.ensures c.same_bytes.ensures c.same_bytes-2.ensures c.same_bytes-five.ensures c.same_bytes-3.ensures c.same_bytes-4.ensures c.same_bytes-ten.ensures
