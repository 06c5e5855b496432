-- `find_char` meets its contract: a character without its bit in the filter has no record; what is found from the entry on is found among all.
use Rattle.std.proofs.Common.{ap, not}
use Rattle.table.proofs.filter.FilterLaws.{look_unmarked}
use Rattle.table.proofs.index.IndexLaws.{found_ahead}
use Rattle.table.proofs.index.find_char.Goals as goal

pub returns-then-not-may_have : goal.returns-then-not-may_have
returns-then-not-may_have c = c.requires.1.1 c.args.c (look_unmarked _ _ c.may_have.ensures (ap not c.if-not-may_have.true))

pub nearest_entry-from-requires : goal.nearest_entry-from-requires
nearest_entry-from-requires c = (c.requires.0, c.requires.1.0)

pub find_from-requires : goal.find_from-requires
find_from-requires c = c.nearest_entry-from.ensures.whole

pub returns : goal.returns
returns c = found_ahead _ _ _ _ _ c.find_from.result c.nearest_entry-from.ensures c.find_from.ensures
