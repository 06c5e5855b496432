-- How far one wrong digit goes (02, S-9). Replacing one 一 to 九 of a numeral "by another of these nine keeps the numeral a numeral, and moves its reading's value by
-- the difference of the digits times the weight, up or down, also to above TOP": nothing here bounds a value.
-- The words are defined in `specs/Weights.antt` (weights, nines, sum, rest), `specs/Shape.antt` (SameShape, SameLine) and in the specs/ of `grammar` (Reading). Assumes nothing.
use Prim.Native.Nat.{ℕ, ◌+◌, ◌*◌, ◌≤◌, ◌<◌}
use mathlib.Core.Path.{◌≡◌, refl, sym, ap, ◌∙◌}
use mathlib.Core.Bool.{Bool, true, false, cond}
use mathlib.Core.List.{List, [], ◌∷◌, ◌++◌}
use native.Mathlib.Omega.{arith}
use lib.ListN.{length, get_or, length-append}
use Rattle.grammar.specs.Plain.{Digit, Char, digit, ten, large, digit_value}
use Rattle.grammar.specs.Grammar.{plainly, Reading, division_value, division_text}
use Rattle.table_grammar.proofs.Tests.{le_true}
use Rattle.table_grammar.proofs.Readings.{same_division}
use Rattle.weights.specs.Weights.{is_nine, nines, weights, sum, rest}
use Rattle.weights.specs.Shape.{SameShape, SameLine, same_end, same_char, other_digit}
use Rattle.weights.proofs.ShapeText.{refit_division}
use Rattle.weights.proofs.ShapeRules.{numeral_rules}
use Rattle.weights.proofs.Sums.{division_sum, division_fit, division_weights_same, rest_same, sum_at}

-- ---- what is said

-- the weight of the digit that stands after x in the line of the reading r: as many 一 to 九 stand before it as in x
abbrev pub weight_after : {w : List Char} → List Char → Reading w → ℕ
weight_after x r = get_or (weights r.division) (length (nines x)) 0

-- the reading q of the new line has the shape of r, and with it its weights; the value has moved by the difference of the digits times the weight
pub record Moved {w v : List Char} (r : Reading w) (q : Reading v) (old new weight : ℕ) : Type 0 where
  pub shape : SameShape r.division q.division
  pub same_weights : weights r.division ≡ weights q.division
  pub value : division_value q.division + old * weight ≡ division_value r.division + new * weight

-- ---- the value of a numeral is the sum of its 一 to 九, each times its weight, and of what stands without a digit
pub numeral_value : (w : List Char) (r : Reading w) → division_value r.division ≡ rest r.division + sum (nines w) (weights r.division)
numeral_value w r = let s : rest r.division + sum (nines w) (weights r.division) ≡ division_value r.division + 0 = rw r.whole at (division_sum r.division [] []) in omega arith

-- "a weight for each 一 to 九"
pub one_weight_each : (w : List Char) (r : Reading w) → length (weights r.division) ≡ length (nines w)
one_weight_each w r = sym (rw r.whole at (division_fit r.division [] [] refl))

-- the line's weights, whichever reading they are taken from
pub weights_one : (w : List Char) (r q : Reading w) → weights r.division ≡ weights q.division
weights_one w r q = ap weights (same_division plainly w r q)

-- ---- any number of wrong digits: a line of the same shape is a numeral, by a division of the same shape
same_nothing : (u : List Char) → SameLine [] u → [] ≡ u
same_nothing u same_end = refl

pub same_reading : (w v : List Char) → SameLine w v → (r : Reading w) → (q : Reading v) × SameShape r.division q.division
same_reading w v h r =
    let (e, u, i, k, t) = refit_division r.division [] v (rw r.whole h) in
    (record { division = e; whole = ap (division_text e) (same_nothing u k) ∙ t; rules = numeral_rules i r.rules }, i)

-- ---- one wrong digit
same_self : (w : List Char) → SameLine w w
same_self [] = same_end
same_self (c ∷ w) = same_char (same_self w)

one_other : (x y : List Char) (d e : Digit) → is_nine d ≡ is_nine e → SameLine (x ++ (digit d ∷ y)) (x ++ (digit e ∷ y))
one_other [] y d e g = other_digit g (same_self y)
one_other (c ∷ x) y d e g = same_char (one_other x y d e g)

cond_append : (b : Bool) (n : ℕ) (l m : List ℕ) → cond b (n ∷ (l ++ m)) (l ++ m) ≡ cond b (n ∷ l) l ++ m
cond_append true n l m = refl
cond_append false n l m = refl

pub nines_append : (x w : List Char) → nines (x ++ w) ≡ nines x ++ nines w
nines_append [] w = refl
nines_append (digit d ∷ x) w = rw (nines_append x w) (cond_append (is_nine d) (digit_value d) (nines x) (nines w))
nines_append (ten t ∷ x) w = nines_append x w
nines_append (large l ∷ x) w = nines_append x w

nines_around : (x y : List Char) (d : Digit) → 1 ≤ digit_value d → nines (x ++ (digit d ∷ y)) ≡ nines x ++ (digit_value d ∷ nines y)
nines_around x y d p = nines_append x (digit d ∷ y) ∙ rw (le_true p)

-- its weight stands in the list
pub weight_there : (x y : List Char) (d : Digit) → 1 ≤ digit_value d → (r : Reading (x ++ (digit d ∷ y))) → length (nines x) < length (weights r.division)
weight_there x y d p r = omega (arith, one_weight_each _ r, simp length-append at (ap length (nines_around x y d p)))

-- the value, with what the digit d after x adds to it set apart
apart : (x y : List Char) (d : Digit) → 1 ≤ digit_value d → (r : Reading (x ++ (digit d ∷ y)))
    → division_value r.division ≡ rest r.division + sum (nines x ++ (0 ∷ nines y)) (weights r.division) + digit_value d * weight_after x r
apart x y d p r =
    let s : division_value r.division ≡ rest r.division + sum (nines x ++ (digit_value d ∷ nines y)) (weights r.division) = rw (nines_around x y d p) at (numeral_value _ r) in
    omega (arith, sum_at (nines x) (digit_value d) (nines y) (weights r.division))

pub wrong_digit : (x y : List Char) (d e : Digit) → 1 ≤ digit_value d → 1 ≤ digit_value e → (r : Reading (x ++ (digit d ∷ y)))
    → (q : Reading (x ++ (digit e ∷ y))) × Moved r q (digit_value d) (digit_value e) (weight_after x r)
wrong_digit x y d e p p' r =
    let (q, i) = same_reading _ _ (one_other x y d e (le_true p ∙ sym (le_true p'))) r in
    let k : weights r.division ≡ weights q.division = division_weights_same i [] in
    let new = rw (← k, ← (rest_same i)) at (apart x y e p' q) in
    (q, record { shape = i; same_weights = k; value = omega (arith, apart x y d p r, new) })
