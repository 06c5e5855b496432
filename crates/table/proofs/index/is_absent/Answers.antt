-- `is_absent` meets its contract: what is found from the entry on is found among all.
use Rattle.table.proofs.index.IndexLaws.{found_ahead, none_told}
use native.Mathlib.Omega.{arith}
use Rattle.std.proofs.lemmas.Grind.{common_steps}
use Rattle.table.proofs.index.is_absent.Goals as goal

pub nearest_entry-from-requires : goal.nearest_entry-from-requires
nearest_entry-from-requires c = (c.requires.0, c.requires.1.0)

pub find_from-requires : goal.find_from-requires
find_from-requires c = c.nearest_entry-from.ensures.whole

pub returns : goal.returns
returns c =
    let told = none_told _ _ _ c.find_from.result (found_ahead _ _ _ _ _ c.find_from.result c.nearest_entry-from.ensures c.find_from.ensures) c.is_none.ensures in
    grind (arith, common_steps, told)
