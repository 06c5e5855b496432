-- Whole numbers in decimal (01: "the whole value in decimal", "what they say in decimal"). Definitions only.
--     decimal n          the ASCII bytes of n in decimal, the first the most significant, without leading zeros; "0" for 0
--     padded k n         the last k digits of n as ASCII bytes, leading zeros kept (01: D1's txt, of k digits of value n)
--     ascii ds           digits (0 to 9) as ASCII bytes
--     digits_from v ds    the value of a row of digits that goes on with ds after digits of value v
--     digits_value ds     the value of a row of digits (0 to 9), the first the most significant: 0 where there is none
--     is_digit b          whether b is an ASCII digit
--     digit_of b          the value of an ASCII digit
-- Assumes nothing.
use Rattle.std.specs.Prelude.{ℕ, zero, suc, ◌+◌, ◌-◌, ◌*◌, ◌/◌, ◌%◌, Bool, true, false, ◌&&◌, List, [], ◌∷◌, ◌++◌, map, nat_le, nat_lt}

-- the text of n by at most k divisions; `elim`, where `cond` would compute them all
unfoldable pub decimal_within : ℕ → ℕ → List ℕ
decimal_within zero n = (48 + n) ∷ []
decimal_within (suc k) n = elim (nat_lt n 10) [ true ↦ (48 + n) ∷ [] | false ↦ decimal_within k (n / 10) ++ ((48 + n % 10) ∷ []) ]

-- n divisions are more than enough
unfoldable pub decimal : ℕ → List ℕ
decimal n = decimal_within n n

unfoldable pub padded : ℕ → ℕ → List ℕ
padded zero n = []
padded (suc k) n = padded k (n / 10) ++ ((48 + n % 10) ∷ [])

abbrev pub ascii : List ℕ → List ℕ
ascii ds = map (λ d. 48 + d) ds

unfoldable pub digits_from : ℕ → List ℕ → ℕ
digits_from v [] = v
digits_from v (d ∷ ds) = digits_from (v * 10 + d) ds

abbrev pub digits_value : List ℕ → ℕ
digits_value ds = digits_from 0 ds

abbrev pub is_digit : ℕ → Bool
is_digit b = nat_le 48 b && nat_le b 57

abbrev pub digit_of : ℕ → ℕ
digit_of b = b - 48
