-- `markers::counted_at` meets its contract: bytes that are no wide character count as the first of them. Assumes nothing.
use mathlib.Core.Path.{refl}
use native.Mathlib.Omega.{arith}
use Rattle.markers.proofs.FoldedBytesLaws.{counts_other, counts_short, counts_outside, counts_wide}
use Rattle.markers.proofs.counted_at.Goals.{then-first-via-then-first, then-first-via-else-first+then-text-at-lt3}
use Rattle.markers.proofs.counted_at.Goals as goal

pub returns-then-first : goal.returns-then-first
returns-then-first c = elim c.then-first.branch [
  | then-first-via-then-first w ↦ counts_other _ _ c.requires w.if-first.true
  | then-first-via-else-first+then-text-at-lt3 w ↦ counts_short _ _ c.requires w.if-text-at-lt3.true
]

pub returns-then-code-lt12161 : goal.returns-then-code-lt12161
returns-then-code-lt12161 c = counts_outside _ _ c.if-text-at-lt3.false refl (λ a b. let e = c.then-code-lt12161.either in omega arith)

pub returns : goal.returns
returns c = counts_wide _ _ c.if-text-at-lt3.false refl c.if-first.false c.if-code-lt12161.false c.if-code-gt12254.false
