-- `fields::u32_at` meets its contract: its halves are those of `u16_at`. Assumes nothing.
use native.Mathlib.Omega.{arith}
use Rattle.fields.proofs.FieldsLaws.{halves}
use Rattle.fields.proofs.u32_at.Goals as goal

pub returns : goal.returns
returns c = halves _ _ 2 (omega arith) c.u16_at-lo.ensures c.u16_at-hi.ensures
