-- Laws of `supplied` (`specs/Tables.antt`): the two answers, and what C is told of them. Assumes nothing.
use Prim.Native.Nat.{ℕ, ◌≤◌, ◌<◌}
use mathlib.Core.Path.{◌≡◌, refl, ap, ◌∙◌}
use mathlib.Core.List.{List, ◌++◌}
use native.Mathlib.Nat.{zero-add}
use lib.ListN.{length, drop}
use lib.Seq.{sets, sets-eq}
use borrow.Author.Tests.{lt-ltb, le-ltb}
use Rattle.numbers.specs.Call.{out_after}
use Rattle.answers.specs.declared.Refusal.TheVariants.{TooLong}
use Rattle.answers.specs.declared.CStatus.{CStatus}
use Rattle.answers.specs.Answers.{answer_of, told}
use Rattle.call.specs.Answers.{AnswerIs}
use Rattle.rilvostam.specs.Exported.{call_told}
use Rattle.rilvostam.specs.Tables.{supplied}
use Rattle.rilvostam.proofs.Tells.{tells}
use Rattle.std.specs.Prelude.{Result, Ok, Err}
use Rattle.answers.specs.declared.Refusal.{Refusal}

module _ (bytes out : List ℕ) where
  pub too_short : length out < length bytes → AnswerIs out out (Err TooLong) (supplied bytes (length out))
  too_short h = let b = lt-ltb (length out) (length bytes) h in record { answer = rw b; output = rw b }

  pub written : (now : List ℕ) → length bytes ≤ length out → now ≡ sets out 0 bytes → AnswerIs out now (Ok (length bytes)) (supplied bytes (length out))
  written now h e =
      let b = le-ltb (length out) (length bytes) h in
      record { answer = rw b; output = rw b (e ∙ sets-eq bytes out 0 (rw zero-add h) ∙ ap (λ (k : ℕ). bytes ++ drop k out) (zero-add (length bytes))) }

-- the clauses of an exported function: the table that it puts is the one that it is to give
pub exported : (table bytes out now : List ℕ) (r : Result ℕ Refusal) (s : CStatus) → table ≡ bytes → AnswerIs out now r (supplied table (length out)) → s ≡ told (answer_of r)
    → (s.status ≡ (call_told (supplied bytes (length out))).status) × (s.at ≡ (call_told (supplied bytes (length out))).at) × (now ≡ out_after out (supplied bytes (length out)))
exported table bytes out now r s e h q =
    let k : AnswerIs out now r (supplied bytes (length out)) = rw e at h in
    let t = tells (q ∙ ap told k.answer) in
    (t.0, t.1, k.output)
