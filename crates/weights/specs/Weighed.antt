-- What the call that weighs the digits of a line answers and stores (02, S-9). Definitions only.
--     char_weights w      the weights of the numeral w; none where w is no numeral
--     line_weights line   the weights of the line, as bytes
--     weigh line room    the answer for the line, where the output has room bytes
--     output line s      what is in the output s afterwards
--     Assumes nothing.
use Rattle.std.specs.Prelude.{ℕ, ◌*◌, ◌≡◌, refl, cond, List, [], ◌∷◌, ◌++◌, ltb, length, Some, None, Result, Ok, Err}
use Rattle.std.proofs.Math.Option.{Option, none, some}
use Rattle.std.proofs.lemmas.List.Edits.{sets}
use Rattle.text.specs.Text.{chars}
use Rattle.fields.specs.Fields.{bytes_of}
use Rattle.grammar.specs.Plain.{Char}
use Rattle.numeral.specs.Numeral.{numeral_of}
use Rattle.numeral.specs.Field.{plain_line, field_of}
use Rattle.numeral.proofs.OneNumber.{numeral_of_lem}
use Rattle.weights.specs.Weights.{weights}
use Rattle.std.specs.Prelude as std
use Rattle.numeral.specs.declared.FieldRefusal.{FieldRefusal}
use Rattle.weights.specs.declared.WeighRefusal.{WeighRefusal}

-- ---- the weights of a line

-- those of the reading, which a line has where it has a value as a numeral (`numeral_of_lem`); it has one reading at most, so that these are the weights of any reading
-- (`numeral_weights`, proofs/Answers.antt)
abbrev pub value_weights : (w : List Char) (o : Option ℕ) → numeral_of w ≡ o → List ℕ
value_weights w none e = []
value_weights w (some v) e = weights ((numeral_of_lem w v).0 e).0.division

unfoldable pub char_weights : List Char → List ℕ
char_weights w = value_weights w (numeral_of w) refl

-- a line with a character outside the table is no numeral
abbrev pub plain_weights : Option (List Char) → List ℕ
plain_weights none = []
plain_weights (some w) = char_weights w

abbrev pub line_weights : List ℕ → List ℕ
line_weights line = plain_weights (plain_line (chars line))

-- ---- the answer

-- "The weights are written as u64", eight bytes each; "an output too short is 8"
abbrev pub counted : ℕ → ℕ → Result ℕ WeighRefusal
counted n room = cond (ltb room (8 * n)) (Err WeighRefusal.TooShort) (Ok n)

-- by what S-4 says of the line: "the answer is their count, 0 for a line that is no numeral; a numeral above TOP is 7 at place 0, and an output too short is 8, after it."
abbrev pub weighed : Result (std.Option ℕ) FieldRefusal → ℕ → ℕ → Result ℕ WeighRefusal
weighed (Ok (Some v)) n room = counted n room
weighed (Ok None) n room = Ok 0
weighed (Err r) n room = Err (WeighRefusal.Field r)

unfoldable pub weigh : List ℕ → ℕ → Result ℕ WeighRefusal
weigh line room = weighed (field_of line) (length (line_weights line)) room

-- ---- the output

-- "as u64 in line order", little-endian
abbrev pub weights_bytes : List ℕ → List ℕ
weights_bytes [] = []
weights_bytes (k ∷ ks) = bytes_of 8 k ++ weights_bytes ks

-- the weights at the front of the output, or the output as it was
abbrev pub stored : List ℕ → List ℕ → Result ℕ WeighRefusal → List ℕ
stored ks s (Ok n) = sets s 0 (weights_bytes ks)
stored ks s (Err r) = s

abbrev pub output : List ℕ → List ℕ → List ℕ
output line s = stored (line_weights line) s (weigh line (length s))
