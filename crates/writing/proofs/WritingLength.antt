-- A written plot number has at most 31 characters: four groups of seven, and 万, 億 and 兆.
-- In order: a group, by a test computed over 0 to 9999; the whole.
use Prim.Native.Nat.{ℕ, ◌+◌, ◌/◌, ◌%◌, ◌≤◌, ◌<◌}
use mathlib.Core.Path.{◌≡◌, refl}
use mathlib.Core.Bool.{Bool, true, false, cond, ◌&&◌}
use mathlib.Core.List.{List, [], ◌∷◌, ◌++◌}
use native.Mathlib.Omega.{arith}
use lib.Dec.{T, leb, ltb, eqb, leb→le}
use lib.ListN.{length, length-append}
use Rattle.text.proofs.RowLaws.{all, all_at}
use Rattle.grammar.specs.Plain.{Char, digit, 零}
use Rattle.writing.specs.Writing.{cut, marks, zero_if, digit_part, group, group_part, writing}

-- a group has at most seven characters, also with a 零 before it
abbrev short : ℕ → Bool
short g = leb (length (zero_if (ltb g 1000) ++ group g)) 7

all_short : T (all short 0 10000)
unfolding group cut digit_part
all_short = tt

group_short : (g : ℕ) → g < 10000 → length (zero_if (ltb g 1000) ++ group g) ≤ 7
group_short g h = leb→le (length (zero_if (ltb g 1000) ++ group g)) 7 (all_at short 0 10000 all_short g (omega arith) h)

part_length : (h g : ℕ) (m : List Char) → g < 10000 → length (group_part h g m) ≤ 7 + length m
unfolding group_part
part_length h g m l = go (eqb g 0) (leb 1 h)
  where
    s : length (zero_if (ltb g 1000)) + length (group g) ≤ 7
    s = omega (arith, group_short g l, length-append (zero_if (ltb g 1000)) (group g))

    go : (z b : Bool) → length (cond z [] (zero_if (b && ltb g 1000) ++ (group g ++ m))) ≤ 7 + length m
    go true b = omega arith
    go false true = omega (arith, s, length-append (zero_if (ltb g 1000)) (group g ++ m), length-append (group g) m)
    go false false = omega (arith, s, length-append (group g) m)

-- ---- the whole

-- seven characters for each group, and its mark
abbrev room : List (List Char) → ℕ
room [] = 0
room (m ∷ ms) = room ms + (7 + length m)

cut_length : (ms : List (List Char)) (n : ℕ) → length (cut 10000 group_part ms n) ≤ room ms
unfolding cut
cut_length [] n = omega arith
cut_length (m ∷ ms) n =
    omega (arith, cut_length ms (n / 10000), part_length (n / 10000) (n % 10000) m (omega arith), length-append (cut 10000 group_part ms (n / 10000)) (group_part (n / 10000) (n % 10000) m))

pub writing_length : (n : ℕ) → length (writing n) ≤ 31
unfolding writing
writing_length n = go (eqb n 0)
  where
    go : (z : Bool) → length (cond z (digit 零 ∷ []) (cut 10000 group_part marks n)) ≤ 31
    go true = omega arith
    go false = cut_length marks n

-- and there are writings of 31
pub longest : length (writing 1111111111111111) ≡ 31
unfolding writing cut group_part group digit_part
longest = refl
