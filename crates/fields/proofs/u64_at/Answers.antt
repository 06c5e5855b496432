-- `fields::u64_at` meets its contract: its halves are those of `u32_at`. Assumes nothing.
use native.Mathlib.Omega.{arith}
use Rattle.fields.proofs.FieldsLaws.{halves}
use Rattle.fields.proofs.u64_at.Goals as goal

pub returns : goal.returns
returns c = halves _ _ 4 (omega arith) c.u32_at-lo.ensures c.u32_at-hi.ensures
