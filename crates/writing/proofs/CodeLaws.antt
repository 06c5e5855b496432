-- What the functions of the code have put is what `specs/Writing.antt` says, one law for each function. No contract cites this file.
use Prim.Native.Nat.{ℕ, zero, suc, ◌/◌, ◌%◌, ◌<◌}
use mathlib.Core.Path.{◌≡◌, refl, ap}
use mathlib.Core.Bool.{Bool, true, false, ◌&&◌}
use mathlib.Core.List.{List, [], ◌∷◌, ◌++◌, map, append_assoc}
use native.Mathlib.Omega.{arith}
use lib.Dec.{ltb, eqb}
use lib.ListN.{length, get_or}
use Rattle.grammar.specs.Plain.{Digit, Char, digit, ten, large, code_point, utf8, 零, 十, 百, 千, 万, 億, 兆}
use Rattle.table_grammar.proofs.Tests.{eqb-false}
use Rattle.grammar.proofs.PlainText.{utf8_nil}
use Rattle.writing.specs.Writing.{cut, zero_if, digits, digit_of, digit_part, group, group_part, writing}
use Rattle.writing.specs.Before.{Mark, Before}
use Rattle.writing.proofs.BeforeLaws.{before_none, before_then}
use Rattle.std.specs.Prelude.{Some}
use Rattle.std.specs.Bool.{then_some}

-- ---- marks
codes_at : (ds : List Digit) (d : ℕ) → d < length ds → get_or (map (λ x. code_point (digit x)) ds) d 0 ≡ code_point (digit (get_or ds d 零))
codes_at [] d h = absurd (omega arith)
codes_at (x ∷ ds) zero h = refl
codes_at (x ∷ ds) (suc d) h = codes_at ds d (omega arith)

pub digit_code : (d : ℕ) → d < 10 → Mark (digit (digit_of d) ∷ []) (Some (get_or (map (λ x. code_point (digit x)) digits) d 0))
digit_code d h = ap Some (codes_at digits d h)

pub zero_mark : (b : Bool) → Mark (zero_if b) (then_some b 0x96F6)
zero_mark true = refl
zero_mark false = refl

-- ---- a digit
pub digit_none : (s : List ℕ) (at h d : ℕ) (m : List Char) → d ≡ 0 → Before s at (utf8 (digit_part h d m)) at s
unfolding digit_part
digit_none s at h d m e = rw e (before_none s at utf8_nil)

pub digit_some : (h d : ℕ) (m : List Char) {s u v w : List ℕ} {at a b r : ℕ} → (d ≡ 0 → ⊥) → Before s at (utf8 m) a u → Before u a (utf8 (digit (digit_of d) ∷ [])) b v
    → Before v b (utf8 (zero_if (ltb 0 h && eqb (h % 10) 0))) r w → Before s at (utf8 (digit_part h d m)) r w
unfolding digit_part
digit_some h d m n p q z = rw (eqb-false d 0 n) (before_then _ (zero_if (ltb 0 h && eqb (h % 10) 0)) (before_then m (digit (digit_of d) ∷ []) p q) z)

-- ---- the digits of a group
group_is : (g : ℕ) → group g
    ≡ digit_part (g / 10 / 10 / 10 / 10) (g / 10 / 10 / 10 % 10) (ten 千 ∷ [])
    ++ (digit_part (g / 10 / 10 / 10) (g / 10 / 10 % 10) (ten 百 ∷ []) ++ (digit_part (g / 10 / 10) (g / 10 % 10) (ten 十 ∷ []) ++ digit_part (g / 10) (g % 10) []))
unfolding group cut
group_is g = simp append_assoc

pub group_digits : (g : ℕ) {s u v w x : List ℕ} {at a b c r : ℕ} → Before s at (utf8 (digit_part (g / 10) (g % 10) [])) a u
    → Before u a (utf8 (digit_part (g / 10 / 10) (g / 10 % 10) (ten 十 ∷ []))) b v
    → Before v b (utf8 (digit_part (g / 10 / 10 / 10) (g / 10 / 10 % 10) (ten 百 ∷ []))) c w
    → Before w c (utf8 (digit_part (g / 10 / 10 / 10 / 10) (g / 10 / 10 / 10 % 10) (ten 千 ∷ []))) r x
    → Before s at (utf8 (group g)) r x
group_digits g p q y z = rw (group_is g) (before_then _ _ (before_then _ _ (before_then _ _ p q) y) z)

-- ---- a group
pub group_none : (s : List ℕ) (at h g : ℕ) (m : List Char) → g ≡ 0 → Before s at (utf8 (group_part h g m)) at s
unfolding group_part
group_none s at h g m e = rw e (before_none s at utf8_nil)

pub group_some : (h g : ℕ) (m : List Char) {s u v w : List ℕ} {at a b r : ℕ} → (g ≡ 0 → ⊥) → Before s at (utf8 m) a u → Before u a (utf8 (group g)) b v
    → Before v b (utf8 (zero_if (ltb 0 h && ltb g 1000))) r w → Before s at (utf8 (group_part h g m)) r w
unfolding group_part
group_some h g m n p q z = rw (eqb-false g 0 n) (before_then _ (zero_if (ltb 0 h && ltb g 1000)) (before_then m (group g) p q) z)

-- ---- the number
pub number_none : (n : ℕ) {s u : List ℕ} {at r : ℕ} → n ≡ 0 → Before s at (utf8 (digit 零 ∷ [])) r u → Before s at (utf8 (writing n)) r u
unfolding writing
number_none n e p = rw e p

number_is : (n : ℕ) → (n ≡ 0 → ⊥) → writing n
    ≡ group_part (n / 10000 / 10000 / 10000 / 10000) (n / 10000 / 10000 / 10000 % 10000) (large 兆 ∷ [])
    ++ (group_part (n / 10000 / 10000 / 10000) (n / 10000 / 10000 % 10000) (large 億 ∷ []) ++ (group_part (n / 10000 / 10000) (n / 10000 % 10000) (large 万 ∷ []) ++ group_part (n / 10000) (n % 10000) []))
unfolding writing cut
number_is n h = rw (eqb-false n 0 h) (simp append_assoc)

pub number_groups : (n : ℕ) {s u v w x : List ℕ} {at a b c r : ℕ} → (n ≡ 0 → ⊥) → Before s at (utf8 (group_part (n / 10000) (n % 10000) [])) a u
    → Before u a (utf8 (group_part (n / 10000 / 10000) (n / 10000 % 10000) (large 万 ∷ []))) b v
    → Before v b (utf8 (group_part (n / 10000 / 10000 / 10000) (n / 10000 / 10000 % 10000) (large 億 ∷ []))) c w
    → Before w c (utf8 (group_part (n / 10000 / 10000 / 10000 / 10000) (n / 10000 / 10000 / 10000 % 10000) (large 兆 ∷ []))) r x
    → Before s at (utf8 (writing n)) r x
number_groups n h p q y z = rw (number_is n h) (before_then _ _ (before_then _ _ (before_then _ _ p q) y) z)
