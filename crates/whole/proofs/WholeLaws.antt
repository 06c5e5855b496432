-- Laws of `of_nat` (`specs/Whole.antt`), for this crate's proofs and its callers'. No contract cites this file.
-- In order: the f64 of a whole number has its value; products and sums; comparison; casts and bits; no NaN, and no two with one f64.
-- Assumes nothing.
use Rattle.std.proofs.Common.{◌≡◌, ℕ, suc, ◌+◌, ◌*◌, ◌^◌, ◌<◌, ◌≤◌, Bool, true, false, not, ◌&&◌, ◌||◌, T, eqb, ltb, ℤ, pos, sym, ap, ◌∙◌, subst, true≢false, le_trans, le_of_eq, lt_of_lt_of_le, mul-le-mul_right, mul_assoc, mul_comm, add-mul, mul-lt-mul_of_pos_right, mul-pos, mul-one, mul_right_comm, le_of_mul-le-mul_right, mul_left_comm, arith, lit<, le→leb, eqb→eq, ltb→lt, lt→ltb, w64, to_z, of_z, le-ltb, lt-ltb}
use lib.Arith.{le→nltb}
use lib.Ieee.{Float, nan, inf, fin, binary64, neg, up, down, round, of_int, mul, add, sum, lt, eq, le, in_float, in_signed, to_unsigned, to_signed, fits, of_bits, to_bits, is_nan, nan_bits}
use lib.Ieee.Exact.{HasValue}
use lib.Ieee.Back.{round_whole, unsigned_back, positive_back}
use lib.Ieee.Scale.{round_same}
use lib.Ieee.Order.{round_mono}
use lib.Ieee.Fits.{down_pos, and_i, and_l, and_r}
use native.Mathlib.Decide.{dec_lt}
use mir.ValLaws.{to_z_pos}
use lib.Ieee.Bits.{is_true, is_false, of_bits-to_bits, nan_bits_is}
use lib.Ieee.Fits.{of_int-fits}
use Rattle.whole.specs.Whole.{TOP, of_nat}

-- up to 2 ^ 53 nothing is rounded: the f64 of n is n
pub of_nat-value : (n : ℕ) → n ≤ 2 ^ 53 → HasValue (of_nat n) false n 1
unfolding of_nat of_int
of_nat-value n h = round_whole binary64 false n h

-- a value n / 1: its numerator is n times its denominator
numerator : (m : ℕ) (e : ℤ) (n : ℕ) → m * up e * 1 ≡ n * down e → m * up e ≡ n * down e
numerator m e n h = sym (mul-one (m * up e)) ∙ h

-- ---- products and sums: rounded once, whatever their size
mul_at : (x y : Float) (m n : ℕ) → HasValue x false m 1 → HasValue y false n 1 → mul binary64 x y ≡ round binary64 false (m * n) 1
unfolding mul
mul_at nan y m n p q = absurd p
mul_at (inf s) y m n p q = absurd p
mul_at (fin s a e) nan m n p q = absurd q
mul_at (fin s a e) (inf t) m n p q = absurd q
mul_at (fin true a e) (fin t b d) m n p q = absurd (true≢false p.0)
mul_at (fin false a e) (fin true b d) m n p q = absurd (true≢false q.0)
mul_at (fin false a e) (fin false b d) m n p q =
    round_same binary64 false (a * up e * (b * up d)) (down e * down d) (m * n) 1 (mul-pos (down_pos e) (down_pos d)) (lit< tt)
    (let x = numerator a e m p.1 in
    let y = numerator b d n q.1 in
    mul-one _ ∙ ap (λ (z : ℕ). z * (b * up d)) x ∙ ap (λ (z : ℕ). m * down e * z) y ∙ simp (mul_assoc, mul_comm, mul_left_comm))

add_at : (x y : Float) (m n : ℕ) → HasValue x false m 1 → HasValue y false n 1 → add binary64 x y ≡ round binary64 false (m + n) 1
unfolding add sum
add_at nan y m n p q = absurd p
add_at (inf s) y m n p q = absurd p
add_at (fin s a e) nan m n p q = absurd q
add_at (fin s a e) (inf t) m n p q = absurd q
add_at (fin true a e) (fin t b d) m n p q = absurd (true≢false p.0)
add_at (fin false a e) (fin true b d) m n p q = absurd (true≢false q.0)
add_at (fin false a e) (fin false b d) m n p q =
    round_same binary64 false (a * up e * down d + b * up d * down e) (down e * down d) (m + n) 1 (mul-pos (down_pos e) (down_pos d)) (lit< tt)
    (let x = numerator a e m p.1 in
    let y = numerator b d n q.1 in
    mul-one _ ∙ ap (λ (z : ℕ). z * down d + b * up d * down e) x ∙ ap (λ (z : ℕ). m * down e * down d + z * down e) y
    ∙ simp (add-mul, mul_assoc, mul_comm, mul_left_comm))

pub of_nat-mul : {m n : ℕ} → m ≤ TOP → n ≤ TOP → mul binary64 (of_nat m) (of_nat n) ≡ of_nat (m * n)
unfolding of_nat of_int
of_nat-mul {m} {n} h k = mul_at _ _ m n (of_nat-value m (omega arith)) (of_nat-value n (omega arith))

pub of_nat-add : {m n : ℕ} → m ≤ TOP → n ≤ TOP → add binary64 (of_nat m) (of_nat n) ≡ of_nat (m + n)
unfolding of_nat of_int
of_nat-add {m} {n} h k = add_at _ _ m n (of_nat-value m (omega arith)) (of_nat-value n (omega arith))

-- ---- comparison
or_le : (x y : ℕ) (b : Bool) → T (ltb x y || (eqb x y && b)) → x ≤ y
or_le x y b h = go (ltb x y) (eqb x y) (ltb→lt x y) (eqb→eq x y) h
  where
    go : (p q : Bool) → (T p → x < y) → (T q → x ≡ y) → T (p || (q && b)) → x ≤ y
    go true q f g t = let l : x < y = f tt in omega arith
    go false true f g t = let l : x ≡ y = g tt in omega arith
    go false false f g t = absurd t

-- x < z where x is a, y is a + 1 and y ≤ z, z being any value, an infinity too
lt_le : (x y z : Float) (a : ℕ) → HasValue x false a 1 → HasValue y false (suc a) 1 → T (le y z) → T (lt x z)
unfolding le lt eq
lt_le nan y z a p q h = absurd p
lt_le (inf s) y z a p q h = absurd p
lt_le (fin true m e) y z a p q h = absurd (true≢false p.0)
lt_le (fin false m e) nan z a p q h = absurd q
lt_le (fin false m e) (inf s) z a p q h = absurd q
lt_le (fin false m e) (fin true n d) z a p q h = absurd (true≢false q.0)
lt_le (fin false m e) (fin false n d) nan a p q h = absurd h
lt_le (fin false m e) (fin false n d) (inf true) a p q h = absurd h
lt_le (fin false m e) (fin false n d) (inf false) a p q h = tt
lt_le (fin false m e) (fin false n d) (fin true k g) a p q h =
    let z : n * up d * down g ≡ 0 = eqb→eq _ _ (and_r (eqb (n * up d * down g) (k * up g * down d)) (eqb (n * up d * down g) 0) h) in
    let w : 0 < n * up d * down g = rw (numerator n d (suc a) q.1) (mul-pos (mul-pos (omega arith) (down_pos d)) (down_pos g)) in
    absurd (omega arith)
lt_le (fin false m e) (fin false n d) (fin false k g) a p q h =
    let l : suc a * down d * down g ≤ k * up g * down d = subst (λ (z : ℕ). z * down g ≤ k * up g * down d) (numerator n d (suc a) q.1) (or_le _ _ _ h) in
    let c : suc a * down g ≤ k * up g = le_of_mul-le-mul_right (le_trans (le_of_eq (mul_right_comm (suc a) (down g) (down d))) l) (down_pos d) in
    let s : a * down g < k * up g = lt_of_lt_of_le (mul-lt-mul_of_pos_right (omega arith) (down_pos g)) c in
    lt→ltb _ _ (subst (λ (z : ℕ). z < k * up g * down e) (mul_right_comm a (down g) (down e) ∙ ap (λ (z : ℕ). z * down g) (sym (numerator m e a p.1))) (mul-lt-mul_of_pos_right s (down_pos e)))

not_lt : (x y : Float) (a k : ℕ) → HasValue x false a 1 → HasValue y false k 1 → k ≤ a → T (not (lt x y))
unfolding lt
not_lt nan y a k p q h = absurd p
not_lt (inf s) y a k p q h = absurd p
not_lt (fin true m e) y a k p q h = absurd (true≢false p.0)
not_lt (fin false m e) nan a k p q h = absurd q
not_lt (fin false m e) (inf s) a k p q h = absurd q
not_lt (fin false m e) (fin true n d) a k p q h = absurd (true≢false q.0)
not_lt (fin false m e) (fin false n d) a k p q h =
    le→nltb (m * up e * down d) (n * up d * down e) (rw (numerator n d k q.1, numerator m e a p.1) (le_trans (mul-le-mul_right (down e) (mul-le-mul_right (down d) h)) (le_of_eq (mul_right_comm a (down d) (down e)))))

-- the order is that of the whole numbers, however large and however rounded the second
pub of_nat-lt : {m : ℕ} (n : ℕ) → m ≤ TOP → lt (of_nat m) (of_nat n) ≡ ltb m n
unfolding of_nat of_int
of_nat-lt {m} n h = go (dec_lt m n)
  where
    go : Dec (m < n) → lt (of_nat m) (of_nat n) ≡ ltb m n
    go (yes l) =
        is_true _ (lt_le _ (of_nat (suc m)) _ m (of_nat-value m (omega arith)) (of_nat-value (suc m) (omega arith)) (round_mono binary64 (suc m) 1 n 1 (lit< tt) (lit< tt) (omega arith)))
        ∙ sym (lt-ltb m n l)
    go (no l) = is_false _ (not_lt _ _ m n (of_nat-value m (omega arith)) (of_nat-value n (omega arith)) (omega arith)) ∙ sym (le-ltb m n (omega arith))

-- ---- casts and bits
pub of_nat-in_float : {n : ℕ} → n ≤ TOP → T (in_float binary64 (pos n))
unfolding in_float
of_nat-in_float {n} h = le→leb n (2 ^ 53) (omega arith)

pub of_nat-to_unsigned : {n : ℕ} → n ≤ TOP → to_unsigned 64 (of_nat n) ≡ n
unfolding of_nat
of_nat-to_unsigned {n} h = (unsigned_back binary64 64 n (of_nat-in_float h) (omega arith)).1

-- the same through i64, which a processor casts in one step
pub of_nat-to_signed : {n : ℕ} → n ≤ TOP → T (in_signed binary64 63 (of_nat n)) × (to_signed 63 (of_nat n) ≡ pos n)
unfolding of_nat
of_nat-to_signed {n} h = positive_back binary64 63 n (of_nat-in_float h) (omega arith)

pub signed_same : {n : ℕ} → n ≤ TOP → to_z w64 n ≡ pos n
signed_same {n} h = to_z_pos w64 n (omega arith)

pub back_through_signed : {n : ℕ} → n ≤ TOP → to_z w64 (of_z w64 (to_signed 63 (of_nat n))) ≡ pos n
back_through_signed h = ap (λ (z : ℤ). to_z w64 (of_z w64 z)) (of_nat-to_signed h).1 ∙ signed_same h

-- what a u64 can hold of an f64: above -1 and below 2 ^ 64
abbrev pub over : Float → Bool
over x = lt (fin true 1 (pos 0)) x

abbrev pub under : Float → Bool
under x = lt x (fin false 1 (pos 64))

-- the test of `whole_part`, with its limits as the source writes them
abbrev pub in_u64 : Float → Bool
in_u64 x = lt (neg (of_bits binary64 0x3FF0_0000_0000_0000)) x && lt x (of_bits binary64 0x43F0_0000_0000_0000)

pub in_u64_within : (x : Float) → in_u64 x ≡ true → T (over x) × T (under x)
unfolding neg of_bits
in_u64_within x h = let t = subst T (sym h) tt in (and_l (over x) (under x) t, and_r (over x) (under x) t)

value_in_u64 : (x : Float) (n : ℕ) → n ≤ TOP → HasValue x false n 1 → in_u64 x ≡ true
unfolding neg of_bits lt
value_in_u64 nan n h p = absurd p
value_in_u64 (inf s) n h p = absurd p
value_in_u64 (fin true m e) n h p = absurd (true≢false p.0)
value_in_u64 (fin false m e) n h p =
    let d = down_pos e in
    let l : n * down e < 2 ^ 64 * down e = mul-lt-mul_of_pos_right (omega arith) d in
    is_true _ (and_i (over (fin false m e)) (under (fin false m e))
    (lt→ltb 0 (1 * 2 ^ 0 * down e + m * up e * 1) (omega (arith, d))) (lt→ltb (m * up e * 1) (1 * 2 ^ 64 * down e) (omega (arith, l, p.1))))

pub of_nat-in_u64 : {n : ℕ} → n ≤ TOP → in_u64 (of_nat n) ≡ true
of_nat-in_u64 {n} h = value_in_u64 (of_nat n) n h (of_nat-value n (omega arith))

pub of_nat-injective : {m n : ℕ} → m ≤ TOP → n ≤ TOP → of_nat m ≡ of_nat n → m ≡ n
of_nat-injective h k e = sym (of_nat-to_unsigned h) ∙ ap (to_unsigned 64) e ∙ of_nat-to_unsigned k

pub of_nat-fits : (n : ℕ) → T (fits binary64 (of_nat n))
unfolding of_nat
of_nat-fits n = of_int-fits binary64 (pos n)

pub of_nat-bits_back : (n : ℕ) → of_bits binary64 (to_bits binary64 (of_nat n)) ≡ of_nat n
of_nat-bits_back n = of_bits-to_bits binary64 (of_nat n) (of_nat-fits n)

-- the bits of a whole number are no other's
pub of_nat-bits_injective : {m n : ℕ} → m ≤ TOP → n ≤ TOP → to_bits binary64 (of_nat m) ≡ to_bits binary64 (of_nat n) → m ≡ n
of_nat-bits_injective {m} {n} h k e = of_nat-injective h k (sym (of_nat-bits_back m) ∙ ap (of_bits binary64) e ∙ of_nat-bits_back n)

-- ---- no NaN
value_not_nan : (x : Float) (n : ℕ) → HasValue x false n 1 → T (not (is_nan x))
unfolding is_nan
value_not_nan nan n p = absurd p
value_not_nan (inf s) n p = tt
value_not_nan (fin s m e) n p = tt

pub of_nat-not_nan : {n : ℕ} → n ≤ TOP → T (not (is_nan (of_nat n)))
of_nat-not_nan {n} h = value_not_nan _ n (of_nat-value n (omega arith))

-- the bits are no NaN's, so that they may be read as an f64
pub of_nat-bits_not_nan : {n : ℕ} → n ≤ TOP → T (not (nan_bits binary64 (to_bits binary64 (of_nat n))))
of_nat-bits_not_nan {n} h = rw (nan_bits_is binary64 (to_bits binary64 (of_nat n)), of_nat-bits_back n) (of_nat-not_nan h)
