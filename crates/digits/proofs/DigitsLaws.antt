-- Laws of `in_runs` (`specs/Digits.antt`) for starts that rise by ten or more, and that the 68 starts do. In order: the rule and its test; how many
-- starts are not above c; the runs by the last of these; a turn of the loop that counts them; `is_digit` by their number. Assumes nothing.
use mathlib.Core.Path.{◌≡◌, refl, sym, ap, ◌∙◌}
use mathlib.Core.Bool.{Bool, true, false, cond, ◌&&◌, ◌||◌, or-true}
use mathlib.Core.List.{List, [], ◌∷◌}
use Prim.Native.Nat.{ℕ, zero, suc, ◌+◌, ◌-◌, ◌≤◌, ◌<◌}
use native.Mathlib.Nat.{le_of_suc-le-suc, suc_inj}
use native.Mathlib.Omega.{arith}
use native.Mathlib.Numerals.{add-one}
use lib.Dec.{T, leb, ltb, leb→le}
use lib.Ieee.Fits.{and_l, and_r}
use lib.ListN.{length, get_or, drop, drop_of_length-le}
use lib.Seq.{drop-cons}
use borrow.Author.Tests.{le-leb, lt-leb, leb-true, leb-false, lt-ltb, le-ltb}
use Rattle.digits.specs.Digits.{starts, in_runs, is_digit, not_above, any_above, digit_test}
use Rattle.digits.specs.declared.DigitTest.{DigitTest}

-- ---- the rule: the first start is at least lo, and each later one at least ten above the one before it
unfoldable pub apart : ℕ → List ℕ → Bool
apart lo [] = true
apart lo (s ∷ ss) = leb lo s && apart (s + 10) ss

pub starts_apart : T (apart 0 starts)
unfolding starts apart
starts_apart = tt

pub starts_length : length starts ≡ 68
unfolding starts
starts_length = refl

module _ (lo s : ℕ) (ss : List ℕ) (t : T (apart lo (s ∷ ss))) where
  pub apart_first : lo ≤ s
  unfolding apart
  apart_first = leb→le lo s (and_l (leb lo s) (apart (s + 10) ss) t)

  pub apart_rest : T (apart (s + 10) ss)
  unfolding apart
  apart_rest = and_r (leb lo s) (apart (s + 10) ss) t

-- ---- how many of the starts ss are not above c, and whether one is
module _ (c : ℕ) where
  pub none_not_above : (lo : ℕ) (ss : List ℕ) → T (apart lo ss) → c < lo → not_above ss c ≡ 0
  unfolding not_above
  none_not_above lo [] t h = refl
  none_not_above lo (s ∷ ss) t h =
      let k = apart_first lo s ss t in
      rw (lt-leb s c (omega arith)) (none_not_above (s + 10) ss (apart_rest lo s ss t) (omega arith))

  none_from : (i lo : ℕ) (ss : List ℕ) → T (apart lo ss) → i < length ss → c < get_or ss i 0 → not_above (drop i ss) c ≡ 0
  unfolding not_above
  none_from i lo [] t h k = absurd (omega arith)
  none_from zero lo (s ∷ ss) t h k = rw (lt-leb s c k) (none_not_above (s + 10) ss (apart_rest lo s ss t) (omega arith))
  none_from (suc i) lo (s ∷ ss) t h k = none_from i (s + 10) ss (apart_rest lo s ss t) (le_of_suc-le-suc h) k

  pub some_above : (i : ℕ) (ss : List ℕ) → i < length ss → c < get_or ss i 0 → any_above ss c ≡ true
  unfolding any_above
  some_above i [] h k = absurd (omega arith)
  some_above zero (s ∷ ss) h k = rw (lt-ltb c s k)
  some_above (suc i) (s ∷ ss) h k = rw (some_above i ss (le_of_suc-le-suc h) k) (or-true (ltb c s))

  not_above_le : (ss : List ℕ) → not_above ss c ≤ length ss
  unfolding not_above
  not_above_le [] = omega arith
  not_above_le (s ∷ ss) = by (leb s c) (not_above_le ss)
    where
      by : (t : Bool) → not_above ss c ≤ length ss → cond t (suc (not_above ss c)) (not_above ss c) ≤ suc (length ss)
      by true h = omega arith
      by false h = omega arith

  pub all_not_above : (ss : List ℕ) → length ss ≡ not_above ss c → any_above ss c ≡ false
  unfolding not_above any_above
  all_not_above [] e = refl
  all_not_above (s ∷ ss) e = by (leb s c) refl e (λ q. all_not_above ss q)
    where
      by : (t : Bool) → leb s c ≡ t → suc (length ss) ≡ cond t (suc (not_above ss c)) (not_above ss c)
          → (length ss ≡ not_above ss c → any_above ss c ≡ false) → (ltb c s || any_above ss c) ≡ false
      by true l e rest = rw (le-ltb c s (leb-true s c l)) (rest (suc_inj e))
      by false l e rest = absurd (omega (arith, not_above_le ss))

  -- ---- the runs by the last start not above c
  -- c is in the run of the last of the first n starts
  abbrev by_last : List ℕ → ℕ → Bool
  by_last ss zero = false
  by_last ss (suc n) = leb c (get_or ss n 0 + 9)

  module _ (s : ℕ) (ss : List ℕ) (t : T (apart (s + 10) ss)) (later : in_runs ss c ≡ by_last ss (not_above ss c)) where
    past : leb c (s + 9) ≡ false → (n : ℕ) → by_last ss n ≡ by_last (s ∷ ss) (suc n)
    past e zero = sym e
    past e (suc n) = refl

    first_run : (a b : Bool) → leb s c ≡ a → leb c (s + 9) ≡ b
        → (a && b || in_runs ss c) ≡ by_last (s ∷ ss) (cond a (suc (not_above ss c)) (not_above ss c))
    first_run true true d e =
        let k = leb-true c (s + 9) e in
        rw (none_not_above (s + 10) ss t (omega arith)) (sym e)
    first_run true false d e = later ∙ past e (not_above ss c)
    first_run false b d e =
        let k = leb-false s c d in
        let none = none_not_above (s + 10) ss t (omega arith) in
        rw none (later ∙ ap (by_last ss) none)

  runs_by_last : (lo : ℕ) (ss : List ℕ) → T (apart lo ss) → in_runs ss c ≡ by_last ss (not_above ss c)
  unfolding in_runs not_above
  runs_by_last lo [] t = refl
  runs_by_last lo (s ∷ ss) t =
      let u = apart_rest lo s ss t in
      first_run s ss u (runs_by_last (s + 10) ss u) (leb s c) (leb c (s + 9)) refl refl

  -- the last start not above c stands in the table, and is not above c
  LastOf : List ℕ → Type 0
  LastOf ss = (n : ℕ) → not_above ss c ≡ suc n → (n < length ss) × (get_or ss n 0 ≤ c)

  module _ (s : ℕ) (ss : List ℕ) (t : T (apart (s + 10) ss)) (later : LastOf ss) where
    last_step : (b : Bool) → leb s c ≡ b → (n : ℕ) → cond b (suc (not_above ss c)) (not_above ss c) ≡ suc n → (n < suc (length ss)) × (get_or (s ∷ ss) n 0 ≤ c)
    unfolding LastOf
    last_step true d zero e = (omega arith, leb-true s c d)
    last_step true d (suc n) e = let h = later n (suc_inj e) in (omega arith, h.1)
    last_step false d n e =
        let k = leb-false s c d in
        absurd (omega (arith, none_not_above (s + 10) ss t (omega arith)))

  last_of : (lo : ℕ) (ss : List ℕ) → T (apart lo ss) → LastOf ss
  unfolding LastOf not_above
  last_of lo [] t n e = absurd (omega arith)
  last_of lo (s ∷ ss) t n e = let u = apart_rest lo s ss t in last_step s ss u (last_of (s + 10) ss u) (leb s c) refl n e

  within_ten : (s : ℕ) → s ≤ c → (b : Bool) → leb c (s + 9) ≡ b → leb (c - s) 9 ≡ b
  within_ten s h true e = le-leb (c - s) 9 (omega (arith, leb-true c (s + 9) e))
  within_ten s h false e = lt-leb (c - s) 9 (omega (arith, leb-false c (s + 9) e))

  -- ---- a turn of the loop: n starts were compared and are not above c
  abbrev pub Passed : ℕ → Type 0
  Passed n = n + not_above (drop n starts) c ≡ not_above starts c

  pub none_passed : Passed 0
  none_passed = omega arith

  module _ (n : ℕ) (so_far : Passed n) where
    pub one_more_lem : n < 68 → get_or starts n 0 ≤ c → Passed (n + 1)
    unfolding not_above
    one_more_lem h k =
        let j : n < length starts = omega (arith, starts_length) in
        let e = rw (drop-cons starts n 0 j, le-leb (get_or starts n 0) c k) at so_far in
        rw add-one (omega arith)

    pub first_above_lem : n < 68 → c < get_or starts n 0 → n ≡ not_above starts c
    first_above_lem h k = omega (arith, none_from n 0 starts starts_apart (omega (arith, starts_length)) k)

    pub no_more : 68 ≤ n → n ≡ not_above starts c
    unfolding not_above
    no_more h = omega (arith, rw (drop_of_length-le starts {i = n} (omega (arith, starts_length))) at so_far)

  -- the two starts that are compared before the loop
  pub first_passed : 0x30 ≤ c → Passed 1
  unfolding starts
  first_passed h = one_more_lem 0 none_passed (omega arith) h

  pub two_passed : 0x660 ≤ c → Passed 2
  unfolding starts
  two_passed h = one_more_lem 1 (first_passed (omega arith)) (omega arith) h

  -- ---- `is_digit` by the number of starts not above c
  module _ (n : ℕ) (e : n ≡ not_above starts c) where
    -- the table's bound, the difference that the code takes, and its test
    pub digit_last : (n ≡ 0 → ⊥) → (n ≤ 68) × (get_or starts (n - 1) 0 ≤ c) × (leb (c - get_or starts (n - 1) 0) 9 ≡ is_digit c)
    unfolding is_digit LastOf
    digit_last z =
        let k : not_above starts c ≡ suc (n - 1) = sym e ∙ omega arith in
        let l = last_of 0 starts starts_apart (n - 1) k in
        (omega (arith, starts_length), l.1, within_ten (get_or starts (n - 1) 0) l.1 _ refl ∙ sym (runs_by_last 0 starts starts_apart ∙ ap (by_last starts) k))

    pub digit_none : n ≡ 0 → is_digit c ≡ false
    unfolding is_digit
    digit_none z = runs_by_last 0 starts starts_apart ∙ ap (by_last starts) (sym e ∙ z)

  -- ---- the ways out of the loop: at the first start above c, before all others or behind one; at the table's end
  module _ (n : ℕ) (so_far : Passed n) where
    module _ (h : n < 68) (k : c < get_or starts n 0) where
      test_at : (d : Bool) (m : ℕ) → d ≡ is_digit c → m ≡ n + 1 → record { digit = d; compared = m } ≡ digit_test c
      test_at d m e q = rw (e, q, ← first_above_lem n so_far h k, some_above n starts (omega (arith, starts_length)) k)

      pub test_first : n ≡ 0 → record { digit = false; compared = 1 } ≡ digit_test c
      test_first z = test_at false 1 (sym (digit_none n (first_above_lem n so_far h k) z)) (omega arith)

      pub test_above : (n ≡ 0 → ⊥) → (get_or starts (n - 1) 0 ≤ c) × (record { digit = leb (c - get_or starts (n - 1) 0) 9; compared = n + 1 } ≡ digit_test c)
      test_above z = let l = digit_last n (first_above_lem n so_far h k) z in (l.1, test_at _ (n + 1) l.2 refl)

    pub test_last : n ≤ 68 → 68 ≤ n → (get_or starts 67 0 ≤ c) × (record { digit = leb (c - get_or starts 67 0) 9; compared = 68 } ≡ digit_test c)
    test_last h k =
        let z : n ≡ 68 = omega arith in
        let all : 68 ≡ not_above starts c = sym z ∙ no_more n so_far k in
        let l = digit_last 68 all (λ e. omega arith) in
        (l.1, rw (l.2, ← all, all_not_above starts (starts_length ∙ all)))

-- ---- for the callers, who ask whether c is a digit
pub tested : (c : ℕ) {r : DigitTest} → r ≡ digit_test c → r.digit ≡ is_digit c
tested c e = ap (λ (r : DigitTest). r.digit) e
