-- `lattice_add::copy::copy_inside` meets its contract: the list is parted where the copy begins. Assumes nothing.
use Rattle.lattice_add.proofs.copy.CopyLaws.{inside_copied}
use Rattle.lattice_add.proofs.copy.copy_inside.Goals as goal

pub returns : goal.returns
returns c = inside_copied _ _ _ _ c.requires.0 c.requires.1 c.split_at_mut-before.ensures.front c.split_at_mut-before.ensures.back c.copy_in.ensures
