-- `record_check::plain_numbers::map_fits` meets its contract: its tests are those that it tells. Assumes nothing.
use mathlib.Core.Path.{refl}
use Rattle.record_check.proofs.plain_numbers.map_fits.Goals as goal

pub returns : goal.returns
returns c = refl
