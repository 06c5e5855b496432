-- What the functions of the C interface are given and tell. Definitions only.
--     call_told a             the call: a status, 0 or the number of 01's refusal; the bytes of the listing, or the refusal's place or offset
--     place_of p, is_set b     a place, and whether skip is set, as C gives them
--     Assumes nothing.
use Rattle.std.specs.Prelude.{ℕ, Bool, not, eqb}
use Rattle.text.specs.declared.Place.{Place}
use Rattle.numbers.specs.Call as numbers
use Rattle.answers.specs.declared.CStatus.{CStatus}
use Rattle.answers.specs.Answers.{told}
use Rattle.call.specs.Answers.{brief}

abbrev pub call_told : numbers.Answer → CStatus
call_told a = told (brief a)

abbrev pub place_of : ℕ → Place
place_of p = record { 0 = p }

abbrev pub is_set : ℕ → Bool
is_set b = not (eqb b 0)
