-- `writing::digit_code` meets its contract: the table holds the code points of 零 to 九. Assumes nothing.
use Rattle.writing.proofs.CodeLaws.{digit_code}
use Rattle.writing.proofs.digit_code.Goals as goal

pub returns : goal.returns
returns c = digit_code _ c.requires
