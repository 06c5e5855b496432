-- What the call's answer says. Definitions only.
--     brief a                the definition's answer a without the listing's bytes
--     AnswerIs out now r a   the code answered r, and the output out became now, as the definition's answer a says
--     Assumes nothing.
use Rattle.std.specs.Prelude.{◌≡◌, List, ℕ, length, Result}
use Rattle.numbers.specs.Call as numbers
use Rattle.answers.specs.Answers.{Brief, of_length, refused, answer_of}
use Rattle.answers.specs.declared.Refusal.{Refusal}

abbrev pub brief : numbers.Answer → Brief
brief (numbers.listing bytes) = of_length (length bytes)
brief (numbers.refused n p) = refused n p

pub record AnswerIs (out now : List ℕ) (r : Result ℕ Refusal) (a : numbers.Answer) : Type 0 where
  pub answer : answer_of r ≡ brief a
  pub output : now ≡ numbers.out_after out a
