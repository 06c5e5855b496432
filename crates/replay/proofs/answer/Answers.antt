-- `replay::answer` is safe: a listing lies within the output. Assumes nothing.
use mathlib.Core.Path.{◌≡◌, sym, ap, ◌∙◌}
use mathlib.Core.List.{List}
use Prim.Native.Nat.{ℕ, ◌≤◌}
use native.Mathlib.Omega.{arith}
use lib.ListN.{length, drop, length-append}
use lib.Seq.{length-take-le}
use Rattle.numbers.specs.Call.{Answer, listing, refused}
use Rattle.answers.specs.declared.Refusal.{Refusal}
use Rattle.answers.specs.Answers.{answer_of}
use Rattle.call.specs.Answers.{AnswerIs}
use Rattle.replay.proofs.answer.Goals as goal
use Rattle.std.specs.Prelude.{Result, Ok}

-- a listing of n bytes is at the output's front
within : {out now : List ℕ} {r : Result ℕ Refusal} (a : Answer) → AnswerIs out now r a → (n : ℕ) → r ≡ Ok n → n ≤ length now
within {out} {now} (listing bytes) h n e =
    let m : n ≡ length bytes = (let b = sym (ap answer_of e) ∙ h.answer in cc) in
    omega (arith, ap length h.output ∙ length-append bytes (drop (length bytes) out))
within (refused k p) h n e = let b = sym (ap answer_of e) ∙ h.answer in let z : ◌≡◌ {A = ℕ} 0 1 = cc in absurd (omega arith)

pub slice_bounds-out-end : goal.slice_bounds-out-end
slice_bounds-out-end c = within _ c.add_numbers.ensures _ c.in-Ok.is
