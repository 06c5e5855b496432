-- Laws of `decimal` and `digits_from` (`specs/Decimal.antt`), for this crate's proofs and its callers'. No contract cites this file.
-- In order: the text of one digit and of more; its length; rows of digits; the text and its number; a given number of digits; a loop that stores a text; bytes that are digits.
-- Assumes nothing.
use Rattle.std.proofs.Common.{◌≡◌, ℕ, zero, suc, ◌+◌, ◌-◌, ◌*◌, ◌/◌, ◌%◌, ◌^◌, ◌<◌, ◌≤◌, true, List, [], ◌∷◌, ◌++◌, map, length, get_or, set, sym, refl, ap, ◌∙◌, append_assoc, append-nil, le_refl, add-zero, add-suc, suc-add, zero-add, add-one, arith, length-append, pow-add, le-ltb, lt-ltb, le-leb}
use mathlib.Core.List.{map-append}
use native.Mathlib.Decide.{dec_lt}
use lib.ListN.{get_or-append}
use lib.Seq.{sets, get_or-append_seam}
use Rattle.whole.proofs.SetsLaws.{sets_set_before}
use Rattle.whole.specs.Whole.{TOP}
use Rattle.whole.specs.Decimal.{decimal, decimal_within, padded, ascii, digits_from, digits_value, is_digit, digit_of}

-- ---- the text, digit by digit
within_one : (k n : ℕ) → n < 10 → decimal_within k n ≡ (48 + n) ∷ []
unfolding decimal_within
within_one zero n h = refl
within_one (suc k) n h = rw (lt-ltb n 10 h, decimal_within)

within_more : (k n : ℕ) → 10 ≤ n → decimal_within (suc k) n ≡ decimal_within k (n / 10) ++ ((48 + n % 10) ∷ [])
unfolding decimal_within
within_more k n h = rw (le-ltb n 10 h, decimal_within)

-- more divisions than n change nothing
within_enough : (j k n : ℕ) → n ≤ j → n ≤ k → decimal_within j n ≡ decimal_within k n
within_enough zero k n h i = within_one zero n (omega arith) ∙ sym (within_one k n (omega arith))
within_enough (suc j) zero n h i = within_one (suc j) n (omega arith) ∙ sym (within_one zero n (omega arith))
within_enough (suc j) (suc k) n h i = go (dec_lt n 10) (λ l. within_enough j k (n / 10) (omega arith) (omega arith))
  where
    go : Dec (n < 10) → (10 ≤ n → decimal_within j (n / 10) ≡ decimal_within k (n / 10)) → decimal_within (suc j) n ≡ decimal_within (suc k) n
    go (yes l) f = within_one (suc j) n l ∙ sym (within_one (suc k) n l)
    go (no l) f =
        within_more j n (omega arith) ∙ ap (λ (t : List ℕ). t ++ ((48 + n % 10) ∷ [])) (f (omega arith)) ∙ sym (within_more k n (omega arith))

pub decimal_one : (n : ℕ) → n < 10 → decimal n ≡ (48 + n) ∷ []
unfolding decimal
decimal_one n h = within_one n n h

pub decimal_more : (n : ℕ) → 10 ≤ n → decimal n ≡ decimal (n / 10) ++ ((48 + n % 10) ∷ [])
unfolding decimal
decimal_more zero h = absurd (omega arith)
decimal_more (suc k) h =
    within_more k (suc k) h ∙ ap (λ (t : List ℕ). t ++ ((48 + suc k % 10) ∷ [])) (within_enough k (suc k / 10) (suc k / 10) (omega arith) (le_refl _))

-- a property of every number, by its digits
module _ (P : ℕ → Type 0) (one : (n : ℕ) → n < 10 → P n) (more : (n : ℕ) → 10 ≤ n → P (n / 10) → P n) where
  within_ind : (k n : ℕ) → n ≤ k → P n
  within_ind zero n h = one n (omega arith)
  within_ind (suc k) n h = go (dec_lt n 10) (λ l. within_ind k (n / 10) (omega arith))
    where
      go : Dec (n < 10) → (10 ≤ n → P (n / 10)) → P n
      go (yes l) f = one n l
      go (no l) f = more n (omega arith) (f (omega arith))

  pub decimal_ind : (n : ℕ) → P n
  decimal_ind n = within_ind n n (le_refl n)

-- ---- its length
pub length_decimal_one : (n : ℕ) → n < 10 → length (decimal n) ≡ 1
length_decimal_one n h = rw (decimal_one n h)

pub length_decimal_more : (n : ℕ) → 10 ≤ n → length (decimal n) ≡ length (decimal (n / 10)) + 1
length_decimal_more n h = rw (decimal_more n h) (length-append (decimal (n / 10)) _)

-- as many digits as the power of ten says
pub length_decimal_le : (k n : ℕ) → n < 10 ^ suc k → length (decimal n) ≤ suc k
length_decimal_le zero n h = rw (length_decimal_one n h) (le_refl 1)
length_decimal_le (suc k) n h = go (dec_lt n 10) (length_decimal_le k (n / 10) (less (10 ^ suc k) (pow-add 10 (suc k) 1)))
  where
    less : (p : ℕ) → 10 ^ (suc k + 1) ≡ p * 10 → n / 10 < p
    less p e = let e' : 10 ^ suc (suc k) ≡ 10 ^ (suc k + 1) = ap (λ (z : ℕ). 10 ^ z) (sym (add-one (suc k))) in omega arith

    go : Dec (n < 10) → length (decimal (n / 10)) ≤ suc k → length (decimal n) ≤ suc (suc k)
    go (yes l) i = omega (arith, length_decimal_one n l)
    go (no l) i = omega (arith, length_decimal_more n (omega arith))

-- a u64 has at most 20 digits, a value up to TOP at most 16
pub length_decimal_u64 : (n : ℕ) → n < 2 ^ 64 → length (decimal n) ≤ 20
length_decimal_u64 n h = length_decimal_le 19 n (omega arith)

pub length_decimal_top : (n : ℕ) → n ≤ TOP → length (decimal n) ≤ 16
length_decimal_top n h = length_decimal_le 15 n (omega arith)

pub length_decimal_pos : (n : ℕ) → 0 < length (decimal n)
length_decimal_pos = decimal_ind (λ n. 0 < length (decimal n)) (λ n h. omega (arith, length_decimal_one n h)) (λ n h i. omega (arith, length_decimal_more n h))

-- ---- rows of digits
pub digits_from-append : (v : ℕ) (ds es : List ℕ) → digits_from v (ds ++ es) ≡ digits_from (digits_from v ds) es
unfolding digits_from
digits_from-append v [] es = refl
digits_from-append v (d ∷ ds) es = digits_from-append (v * 10 + d) ds es

-- one digit more
pub digits_from-snoc : (v : ℕ) (ds : List ℕ) (d : ℕ) → digits_from v (ds ++ (d ∷ [])) ≡ digits_from v ds * 10 + d
unfolding digits_from
digits_from-snoc v ds d = digits_from-append v ds (d ∷ [])

-- ---- the text and its number
pub digits_value-decimal : (n : ℕ) → digits_value (map digit_of (decimal n)) ≡ n
unfolding digits_from
digits_value-decimal = decimal_ind (λ n. digits_value (map digit_of (decimal n)) ≡ n) one more
  where
    one : (n : ℕ) → n < 10 → digits_value (map digit_of (decimal n)) ≡ n
    one n h = rw (decimal_one n h) (omega arith)

    more : (n : ℕ) → 10 ≤ n → digits_value (map digit_of (decimal (n / 10))) ≡ n / 10 → digits_value (map digit_of (decimal n)) ≡ n
    more n h e = rw (decimal_more n h, map-append digit_of (decimal (n / 10)) _, digits_from-snoc, e) (omega arith)

pub decimal_injective : {m n : ℕ} → decimal m ≡ decimal n → m ≡ n
decimal_injective {m} {n} e = sym (digits_value-decimal m) ∙ ap (λ (t : List ℕ). digits_value (map digit_of t)) e ∙ digits_value-decimal n

-- ---- a given number of digits
pub length_padded : (k n : ℕ) → length (padded k n) ≡ k
unfolding padded
length_padded zero n = refl
length_padded (suc k) n = length-append (padded k (n / 10)) _ ∙ rw (length_padded k (n / 10)) (add-one k)

-- its own number of digits is the text
pub padded_decimal : (n : ℕ) → padded (length (decimal n)) n ≡ decimal n
unfolding padded
padded_decimal = decimal_ind (λ n. padded (length (decimal n)) n ≡ decimal n) one more
  where
    one : (n : ℕ) → n < 10 → padded (length (decimal n)) n ≡ decimal n
    one n h = let e : n % 10 ≡ n = omega arith in rw (decimal_one n h, e)

    more : (n : ℕ) → 10 ≤ n → padded (length (decimal (n / 10))) (n / 10) ≡ decimal (n / 10) → padded (length (decimal n)) n ≡ decimal n
    more n h e = rw (length_decimal_more n h, add-one, decimal_more n h, e)

-- the last digit goes over to what follows
pub padded_shift : (i rest : ℕ) (tail : List ℕ) → padded (suc i) rest ++ tail ≡ padded i (rest / 10) ++ ((48 + rest % 10) ∷ tail)
unfolding padded
padded_shift i rest tail = append_assoc (padded i (rest / 10)) _ tail

padded_after : (k v : ℕ) (ds : List ℕ) → ((i : ℕ) → i < length ds → get_or ds i 0 ≤ 9) → padded (k + length ds) (digits_from v ds) ≡ padded k v ++ ascii ds
unfolding digits_from
padded_after k v [] f = rw (add-zero k, append-nil)
padded_after k v (d ∷ ds) f =
    let digit : d ≤ 9 = f 0 (omega arith) in
    let front : (v * 10 + d) / 10 ≡ v = omega arith in
    let last : (v * 10 + d) % 10 ≡ d = omega arith in
    rw (add-suc k (length ds), ← suc-add k (length ds)) (padded_after (suc k) (v * 10 + d) ds (λ i h. f (suc i) (omega arith)))
    ∙ padded_shift k (v * 10 + d) (ascii ds)
    ∙ rw (front, last)

-- a row of digits is as many digits of its value
pub padded_digits : (ds : List ℕ) → ((i : ℕ) → i < length ds → get_or ds i 0 ≤ 9) → padded (length ds) (digits_value ds) ≡ ascii ds
unfolding padded
padded_digits ds f = ap (λ (k : ℕ). padded k (digits_value ds)) (sym (zero-add (length ds))) ∙ padded_after 0 0 ds f

-- ---- a loop that stores a text from its last digit
-- of text all but the first i digits, those of rest, are stored
pub record StoredFrom (s t : List ℕ) (at i rest : ℕ) (text : List ℕ) : Type 0 where
  pub tail : List ℕ
  pub all : padded i rest ++ tail ≡ text
  pub stored : t ≡ sets s (at + i) tail

pub stored_none : (s : List ℕ) (at i n : ℕ) → StoredFrom s s at i n (padded i n)
stored_none s at i n = record { tail = []; all = append-nil _; stored = refl }

pub stored_more : {s t : List ℕ} {at i rest : ℕ} {text : List ℕ} → 0 < i → StoredFrom s t at i rest text → StoredFrom s (set t (at + (i - 1)) (48 + rest % 10)) at (i - 1) (rest / 10) text
stored_more {i = zero} h r = absurd (omega arith)
stored_more {s} {at = at} {i = suc j} {rest = rest} h r =
    let e : suc j - 1 ≡ j = omega arith in
    rw e record {
      tail = (48 + rest % 10) ∷ r.tail;
      all = sym (padded_shift j rest r.tail) ∙ r.all;
      stored = rw (r.stored, add-suc at j) (sets_set_before s (suc (at + j)) r.tail (at + j) _ (omega arith));
    }

pub stored_all : {s t : List ℕ} {at i rest : ℕ} {text : List ℕ} → i ≤ 0 → StoredFrom s t at i rest text → t ≡ sets s at text
unfolding padded
stored_all {i = zero} h r = r.stored ∙ rw (add-zero, r.all)
stored_all {i = suc i} h r = absurd (omega arith)

-- ---- bytes that are digits
is_digit-yes : {b : ℕ} → 48 ≤ b → b ≤ 57 → is_digit b ≡ true
is_digit-yes h k = rw (le-leb _ _ h, le-leb _ _ k)

is_digit-ascii : (d : ℕ) → d ≤ 9 → is_digit (48 + d) ≡ true
is_digit-ascii d h = is_digit-yes {b = 48 + d} (omega arith) (omega arith)

-- every byte is an ASCII digit
abbrev pub AllDigits : List ℕ → Type 0
AllDigits bs = (i : ℕ) → i < length bs → is_digit (get_or bs i 0) ≡ true

all_digits_snoc : (bs : List ℕ) (b : ℕ) → AllDigits bs → is_digit b ≡ true → AllDigits (bs ++ (b ∷ []))
all_digits_snoc bs b f h i k = go (dec_lt i (length bs))
  where
    go : Dec (i < length bs) → is_digit (get_or (bs ++ (b ∷ [])) i 0) ≡ true
    go (yes l) = rw (get_or-append bs (b ∷ []) 0 i l) (f i l)
    go (no l) = let e : i ≡ length bs = omega (arith, simp length-append at k) in rw (e, get_or-append_seam bs b [] 0) h

pub decimal_digits : (n : ℕ) → AllDigits (decimal n)
decimal_digits = decimal_ind (λ n. AllDigits (decimal n)) one more
  where
    one : (n : ℕ) → n < 10 → AllDigits (decimal n)
    one n h = rw (decimal_one n h) (all_digits_snoc [] (48 + n) (λ i k. absurd (omega arith)) (is_digit-ascii n (omega arith)))

    more : (n : ℕ) → 10 ≤ n → AllDigits (decimal (n / 10)) → AllDigits (decimal n)
    more n h f = rw (decimal_more n h) (all_digits_snoc (decimal (n / 10)) (48 + n % 10) f (is_digit-ascii (n % 10) (omega arith)))

-- no leading zero but in "0"
pub decimal_first : (n : ℕ) → 0 < n → 48 < get_or (decimal n) 0 0
decimal_first = decimal_ind (λ n. 0 < n → 48 < get_or (decimal n) 0 0) one more
  where
    one : (n : ℕ) → n < 10 → 0 < n → 48 < get_or (decimal n) 0 0
    one n h k = rw (decimal_one n h) (omega arith)

    more : (n : ℕ) → 10 ≤ n → (0 < n / 10 → 48 < get_or (decimal (n / 10)) 0 0) → 0 < n → 48 < get_or (decimal n) 0 0
    more n h f k = rw (decimal_more n h, get_or-append (decimal (n / 10)) ((48 + n % 10) ∷ []) 0 0 (length_decimal_pos (n / 10))) (f (omega arith))
