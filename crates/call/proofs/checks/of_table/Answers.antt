-- `call::checks::of_table` meets its contract: the refusal by a cause is that by its number. Assumes nothing.
use mathlib.Core.Path.{ap, ◌∙◌}
use Prim.Native.Nat.{ℕ}
use Rattle.call.specs.Checks.{table_refusal}
use Rattle.call.proofs.checks.CheckLaws.{by_number}
use Rattle.call.proofs.checks.of_table.Goals as goal

pub returns : goal.returns
returns c = c.table_refusal.ensures ∙ ap (λ (n : ℕ). table_refusal n c.args.r.at) c.number.ensures ∙ by_number c.args.r
