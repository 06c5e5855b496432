-- `lines::next_line::none_in_eight` meets its contract, byte by byte. Assumes nothing.
use mathlib.Core.Path.{sym}
use mathlib.Core.Bool.{true≢false}
use native.Mathlib.Omega.{arith}
use Rattle.lines.proofs.LineLaws.{none_one, none_more}
use Rattle.lines.proofs.next_line.none_in_eight.Goals as goal

pub returns-then-lines-i-lt8 : goal.returns-then-lines-i-lt8
returns-then-lines-i-lt8 c = λ e. absurd (true≢false (sym e))

pub returns : goal.returns
returns c = λ e. (omega arith, none_more _ _ 7 _ (none_more _ _ 6 _ (none_more _ _ 5 _ (none_more _ _ 4 _ (none_more _ _ 3 _ (none_more _ _ 2 _ (none_more _ _ 1 _ (none_one _ _))))))) e)
