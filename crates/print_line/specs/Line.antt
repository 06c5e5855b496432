-- A line of bytes (01: "up to a newline, the end or 4,096 bytes"; the newline is no part of it). What was read is what the buffer holds: no contract can say
-- what that is, nor that nothing is left, so the code tells the end of the input apart. Definitions only.
--     until_newline s   the bytes before the first newline; all where there is none
--     OnALine s        there is no newline in s
--     StepIs n s r     what one read leaves of a line of which n bytes are there, in the buffer s
--     LineIs s r       the line that was read into the buffer s: up to its first newline, or all of it; or bytes on a line, behind which the input ended
--     Assumes nothing.
use Rattle.std.specs.Prelude.{◌≡◌, List, ℕ, ◌≤◌, ◌<◌, length, take}
use Rattle.vectors.specs.Until.{until_byte}
use Rattle.print_line.specs.declared.read.Got.{Got}
use Rattle.print_line.specs.declared.read.Got.TheVariants as Got
use Rattle.print_line.specs.declared.read.Step.{Step}
use Rattle.print_line.specs.declared.read.Step.TheVariants as Step

abbrev pub until_newline : List ℕ → List ℕ
until_newline = until_byte 10

abbrev pub OnALine : List ℕ → Type 0
OnALine s = until_newline s ≡ s

abbrev pub StepIs : ℕ → List ℕ → Step → Type 0
StepIs n s (Step.Ends k) = (k ≡ length (until_newline s)) × (k ≤ length s)
StepIs n s (Step.Goes k) = (n < k) × (k ≤ length s) × OnALine (take k s)
StepIs n s Step.Nothing = OnALine (take n s)

abbrev pub LineIs : List ℕ → Got → Type 0
LineIs s (Got.Line k) = k ≡ length (until_newline s)
LineIs s (Got.LastLine k) = (k ≤ length s) × OnALine (take k s)
