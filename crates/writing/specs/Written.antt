-- What the call that writes a plot number answers and stores (02, S-1). Definitions only.
--     numeral_bytes n     the bytes of its numeral
--     written n room     the answer for the number n, where the output has room bytes
--     output n s         what is in the output s afterwards
--     Assumes nothing.
use Rattle.std.specs.Prelude.{ℕ, cond, List, ltb, length, Result, Ok, Err}
use Rattle.std.proofs.lemmas.List.Edits.{sets}
use Rattle.whole.specs.Whole.{TOP}
use Rattle.grammar.specs.Plain.{utf8}
use Rattle.writing.specs.Writing.{writing}
use Rattle.writing.specs.declared.WriteRefusal.{WriteRefusal}

abbrev pub numeral_bytes : ℕ → List ℕ
numeral_bytes n = utf8 (writing n)

-- "It refuses a number above TOP with 10 at place 0, before the output length is looked at; an output too short is 8."
abbrev pub written : ℕ → ℕ → Result ℕ WriteRefusal
written n room = cond (ltb TOP n) (Err WriteRefusal.AboveTop) (cond (ltb room (length (numeral_bytes n))) (Err WriteRefusal.TooShort) (Ok (length (numeral_bytes n))))

-- the numeral at the front of the output, or the output as it was
abbrev pub stored : ℕ → List ℕ → Result ℕ WriteRefusal → List ℕ
stored n s (Ok l) = sets s 0 (numeral_bytes n)
stored n s (Err r) = s

abbrev pub output : ℕ → List ℕ → List ℕ
output n s = stored n s (written n (length s))
