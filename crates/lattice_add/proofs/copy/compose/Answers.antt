-- `lattice_add::copy::compose` meets its contract: four stores in a row. Assumes nothing.
use mathlib.Core.Path.{refl}
use native.Mathlib.Omega.{arith}
use Rattle.lattice_add.proofs.copy.CopyLaws.{put_prefixed}
use Rattle.lattice_add.proofs.copy.compose.Goals as goal

pub returns : goal.returns
returns c = (
  omega (arith, c.requires.0, c.requires.1, c.requires.2),
  put_prefixed _ _ _ _ _ _ _ _ _ c.requires.0 c.requires.1 c.requires.2 c.requires.3 refl refl c.copy_inside.ensures c.put_u16.ensures c.copy_in.ensures c.copy_inside-2.ensures,
)
