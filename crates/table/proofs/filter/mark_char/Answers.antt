-- `table::filter::mark_char` meets its contract.
use native.Mathlib.Omega.{arith}
use Rattle.table.specs.Filter.{mark_bit, with_mark}
use Rattle.table.proofs.filter.FilterLaws.{one_shifted}
use Rattle.table.proofs.filter.mark_char.Goals as goal

pub returns : goal.returns
unfolding with_mark
returns c = rw (c.word_of-i.ensures, c.bit_of-k.ensures, one_shifted (mark_bit c.args.c) (omega arith))
