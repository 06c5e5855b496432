-- The marked lines by the grammar alone: the numerals among them with their readings written out, the others without one; and the second division that each rule of the
-- grammar rules out. No pass is named.
--     ReadAs w v   w has a reading of value v
use Prim.Native.Nat.{ℕ}
use mathlib.Core.Path.{◌≡◌, refl}
use mathlib.Core.List.{List, [], ◌∷◌}
use native.Mathlib.Omega.{arith}
use lib.Dec.{lit≤}
use Rattle.grammar.specs.Plain.{Char, digit, ten, large, 零, 一, 二, 五, 十, 百, 千, 万, 億}
use Rattle.table_grammar.specs.Row.{one, ◌▷◌}
use Rattle.grammar.specs.Grammar.{run, times, power, small, block, lone, IsNumeral, Reading, division_value}

abbrev pub ReadAs : List Char → ℕ → Type 0
ReadAs w v = (r : Reading w) × (division_value r.division ≡ v)

pub numerals :
    ReadAs (digit 一 ∷ ten 百 ∷ digit 零 ∷ digit 五 ∷ []) 105
    × ReadAs (digit 二 ∷ ten 千 ∷ digit 五 ∷ []) 2005
    × ReadAs (digit 一 ∷ large 万 ∷ digit 五 ∷ []) 15000
    × ReadAs (digit 一 ∷ large 万 ∷ digit 零 ∷ digit 五 ∷ []) 10005
    × ReadAs (digit 零 ∷ large 万 ∷ digit 五 ∷ []) 5000
    × ReadAs (ten 百 ∷ digit 零 ∷ ten 十 ∷ []) 110
    × ReadAs (large 億 ∷ large 万 ∷ []) 100010000
    × ReadAs (digit 二 ∷ ten 百 ∷ large 万 ∷ []) 2000000
    × ReadAs (digit 一 ∷ digit 二 ∷ ten 百 ∷ []) 1200
numerals = (
  (record { division = one (small (one (times (one 一) 百) ▷ run (one 零 ▷ 五))); whole = refl; rules = (lit≤ tt, tt, tt, (lit≤ tt, lit≤ tt)) }, refl),
  (record { division = one (small (one (times (one 二) 千) ▷ run (one 五))); whole = refl; rules = (lit≤ tt, tt, tt, (lit≤ tt, lit≤ tt)) }, refl),
  (record { division = one (block (one (run (one 一))) 万) ▷ small (one (run (one 五))); whole = refl; rules = (tt, tt, tt, lit≤ tt, lit≤ tt) }, refl),
  (record { division = one (block (one (run (one 一))) 万) ▷ small (one (run (one 零 ▷ 五))); whole = refl; rules = (tt, tt, tt, lit≤ tt, lit≤ tt) }, refl),
  (record { division = one (block (one (run (one 零))) 万) ▷ small (one (run (one 五))); whole = refl; rules = (tt, tt, tt, lit≤ tt, lit≤ tt) }, refl),
  (record { division = one (small (one (power 百) ▷ run (one 零) ▷ power 十)); whole = refl; rules = ((tt, tt, tt, (lit≤ tt, lit≤ tt)), refl, tt, (lit≤ tt, lit≤ tt)) }, refl),
  (record { division = one (lone 億) ▷ lone 万; whole = refl; rules = (tt, tt, tt, lit≤ tt, lit≤ tt) }, refl),
  (record { division = one (block (one (times (one 二) 百)) 万); whole = refl; rules = lit≤ tt }, refl),
  (record { division = one (small (one (times (one 一 ▷ 二) 百))); whole = refl; rules = lit≤ tt }, refl),
)

pub ruled_out :
    -- 零百: a run before 百 has value 1 or more; and after a lone 零 alone nothing follows
    (IsNumeral (one (small (one (times (one 零) 百)))) → ⊥)
    × (IsNumeral (one (small (one (run (one 零)) ▷ power 百))) → ⊥)
    -- 百零五: 零五 is one run
    × (IsNumeral (one (small (one (power 百) ▷ run (one 零) ▷ run (one 五)))) → ⊥)
    -- 一百: 百 alone does not stand directly after 一
    × (IsNumeral (one (small (one (run (one 一)) ▷ power 百))) → ⊥)
    -- 十十, 万億: the second is not below the first
    × (IsNumeral (one (small (one (power 十) ▷ power 十))) → ⊥)
    × (IsNumeral (one (lone 万) ▷ lone 億) → ⊥)
ruled_out = (λ h. omega arith, λ h. h.3, λ h. h.1, λ h. omega arith, λ h. omega arith, λ h. omega arith)
