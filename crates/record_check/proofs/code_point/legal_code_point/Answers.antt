-- `record_check::code_point::legal_code_point` meets its contract: below the least it is refused, and from there on a scalar value is legal.
use Rattle.std.proofs.Common.{ℕ, ◌≡◌, ◌≤◌, ◌∙◌, sym, arith}
use Rattle.std.specs.Char.{InScalarRange, OutOfScalarRange}
use Rattle.std.specs.Prelude.{Option, Some, None, MatchOption, is_some}
use mathlib.Core.Logic.{inl, inr}
use borrow.Author.Tests.{le-leb, lt-leb}
use Rattle.table.specs.Check.{legal_code_point}
use Rattle.table.proofs.ContentLaws.{code_low, code_first, code_surrogate, code_last}
use Rattle.record_check.proofs.code_point.legal_code_point.Goals as goal

scalar_told : (least c : ℕ) → least ≤ c → (o : Option ℕ) → MatchOption o (OutOfScalarRange c) (λ x. InScalarRange c) → is_some o ≡ legal_code_point least c
scalar_told least c h (Some x) (inl k) = code_first least c h (omega arith)
scalar_told least c h (Some x) (inr k) = sym (le-leb c 0x10FFFF (omega arith)) ∙ code_last least c h (omega arith) (omega arith)
scalar_told least c h None (inl k) = code_surrogate least c h (omega arith) (omega arith)
scalar_told least c h None (inr k) = sym (lt-leb c 0x10FFFF (omega arith)) ∙ code_last least c h (omega arith) (omega arith)

pub returns-then-c-least : goal.returns-then-c-least
returns-then-c-least c = code_low _ _ c.if-c-least.true

pub returns : goal.returns
returns c = c.is_some.ensures ∙ scalar_told _ _ c.if-c-least.false _ c.from_u32.ensures.cases
