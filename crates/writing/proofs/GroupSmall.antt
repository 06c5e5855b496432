-- The digits of a group are the atoms of a small with the group's value: a 零 before a digit belongs to that digit's run.
-- In order: a digit and its run; the atoms so far; one digit more with 十, 百 or 千; the last digit; four digits.
-- In the signatures z says that a 零 stands before the group, and T is what the digits of h have written, the last of them worth u.
use Prim.Native.Nat.{ℕ, zero, suc, ◌+◌, ◌*◌, ◌/◌, ◌%◌, ◌≤◌, ◌<◌}
use mathlib.Core.Path.{◌≡◌, refl, sym, ◌∙◌}
use mathlib.Core.Bool.{Bool, true, false, ◌&&◌}
use mathlib.Core.List.{List, [], ◌∷◌, ◌++◌, append_assoc, append-nil}
use mathlib.Core.Option.{some}
use native.Mathlib.Omega.{arith}
use native.Mathlib.Nat.{mul-lt-mul_of_pos_right}
use lib.Dec.{eqb}
use lib.ListN.{length, get_or}
use Rattle.grammar.specs.Plain.{Digit, Ten, Char, digit, ten, digit_value, ten_value, 零, 十, 百, 千}
use Rattle.table_grammar.specs.Row.{Row, one, ◌▷◌, last}
use Rattle.grammar.specs.Grammar.{Atom, run, times, small, run_value, atom_value, atom_base, small_value, IsAtom, Follows, near_base, IsSmall, single_digit, run_text, atom_text, small_text}
use Rattle.table_grammar.proofs.Tests.{le_true, and_left, and_right, eqb-true, eqb-false}
use Rattle.grammar.proofs.ReadingWithin.{ten_least}
use Rattle.writing.specs.Writing.{cut, zero_if, digits, digit_of, digit_part, group}

-- ---- a digit and its run

-- the values count up from i
abbrev counting : ℕ → List Digit → Bool
counting i [] = true
counting i (x ∷ ds) = eqb (digit_value x) i && counting (suc i) ds

counting_at : (ds : List Digit) (i d : ℕ) → counting i ds ≡ true → d < length ds → digit_value (get_or ds d 零) ≡ i + d
counting_at [] i d c h = absurd (omega arith)
counting_at (x ∷ ds) i zero c h = omega (arith, eqb-true (digit_value x) i (and_left _ (counting (suc i) ds) c))
counting_at (x ∷ ds) i (suc d) c h = omega (arith, counting_at ds (suc i) d (and_right (eqb (digit_value x) i) _ c) (omega arith))

pub digit_value_lem : (d : ℕ) → d < 10 → digit_value (digit_of d) ≡ d
digit_value_lem d h = omega (arith, counting_at digits 0 d refl h)

-- the run of the digit d with the 零 before it, where there is one
abbrev run_of : Bool → ℕ → Row Digit
run_of true d = one 零 ▷ digit_of d
run_of false d = one (digit_of d)

run_value_lem : (z : Bool) (d : ℕ) → d < 10 → run_value (run_of z d) ≡ d
run_value_lem true d h = omega (arith, digit_value_lem d h)
run_value_lem false d h = digit_value_lem d h

run_text_lem : (z : Bool) (d : ℕ) (w : List Char) → run_text (run_of z d) w ≡ zero_if z ++ (digit (digit_of d) ∷ w)
run_text_lem true d w = refl
run_text_lem false d w = refl

-- ---- smalls

-- the atoms of a small that stands behind the 零, has the text T and the value v, and is not a single digit but where v is one and no 零 stands before it
pub record Group (z : Bool) (T : List Char) (v : ℕ) : Type 0 where
  pub row : Row Atom
  pub rules : IsSmall row
  pub text : (w : List Char) → small_text row w ≡ zero_if z ++ (T ++ w)
  pub value : small_value row ≡ v
  pub single : (z ≡ false → 10 ≤ v) → single_digit (small row) ≡ 0

-- the small goes on with atoms below b
record GoesOn (s : Row Atom) (b : ℕ) : Type 0 where
  near : ℕ
  is_near : near_base s ≡ some near
  room : b ≤ near
  follows : (a : Atom) → Follows (last s) a

-- one atom more, which makes the value x
more : {z : Bool} {T : List Char} {v b : ℕ} (g : Group z T v) → GoesOn g.row b → (a : Atom) (A : List Char) (x : ℕ) → IsAtom a → atom_value a < b → atom_base a < b
    → v + atom_value a ≡ x → ((w : List Char) → atom_text a w ≡ A ++ w) → Group z (T ++ A) x
more {z} {T} g o a A x ok value-below base-below sum e = record {
  row = g.row ▷ a;
  rules = (g.rules, o.follows a, ok, rw o.is_near (omega (arith, o.room), omega (arith, o.room)));
  text = λ w. g.text (atom_text a w) ∙ rw (e w, append_assoc T A w);
  value = rw g.value sum;
  single = λ _. refl;
}

-- ---- a digit's atom

-- the digit d, with a 零 before it or not, and 十, 百 or 千
module _ (z : Bool) (d : ℕ) (t : Ten) (d_small : d < 10) where
  times_text : (w : List Char) → atom_text (times (run_of z d) t) w ≡ zero_if z ++ ((digit (digit_of d) ∷ ten t ∷ []) ++ w)
  times_text w = run_text_lem z d (ten t ∷ w)

  times_value : atom_value (times (run_of z d) t) ≡ d * ten_value t
  times_value = rw (run_value_lem z d d_small)

  times_ok : 1 ≤ d → IsAtom (times (run_of z d) t)
  times_ok l = omega (arith, run_value_lem z d d_small)

one_open : (r : Row Digit) (t : Ten) → GoesOn (one (times r t)) (ten_value t)
one_open r t = record { near = ten_value t; is_near = refl; room = omega arith; follows = λ a. tt }

more_open : (s : Row Atom) (r : Row Digit) (t : Ten) → GoesOn (s ▷ times r t) (ten_value t)
more_open s r t = record { near = ten_value t; is_near = refl; room = omega arith; follows = λ a. tt }

-- ---- what a digit writes
part_zero : (h : ℕ) (m : List Char) → digit_part h 0 m ≡ []
unfolding digit_part
part_zero h m = refl

part_first : (d : ℕ) (m : List Char) → digit_part 0 (suc d) m ≡ digit (digit_of (suc d)) ∷ m
unfolding digit_part
part_first d m = rw (eqb-false (suc d) 0 (λ e. omega arith))

part_later : (h d : ℕ) (m : List Char) → 1 ≤ h → digit_part h (suc d) m ≡ zero_if (eqb (h % 10) 0) ++ (digit (digit_of (suc d)) ∷ m)
unfolding digit_part
part_later h d m l = rw (eqb-false (suc d) 0 (λ e. omega arith), le_true l)

-- ---- one digit more
data Digits (z : Bool) (T : List Char) (h u : ℕ) : Type 0 where
  nothing : h ≡ 0 → T ≡ [] → Digits z T h u
  atoms : 1 ≤ h → (g : Group z T (h * u)) → GoesOn g.row u → Digits z T h u

below : {d : ℕ} (u : ℕ) → d < 10 → 1 ≤ u → d * u < 10 * u
below u h l = mul-lt-mul_of_pos_right h l

-- a zero writes nothing
same_text : (T : List Char) (h : ℕ) (m : List Char) → T ++ digit_part h 0 m ≡ T
same_text T h m = rw (part_zero h m) (append-nil T)

same : {z : Bool} {T : List Char} {v : ℕ} (h x : ℕ) (m : List Char) → Group z T v → v ≡ x → Group z (T ++ digit_part h 0 m) x
same {z} {T} h x m g e = record { row = g.row; rules = g.rules; text = λ w. rw (same_text T h m) (g.text w); value = g.value ∙ e; single = rw e at g.single }

-- a digit with 十, 百 or 千
ten_digit : (z : Bool) (T : List Char) (n h d : ℕ) (t : Ten) → n ≡ 10 * h + d → d < 10
    → Digits z T h (10 * ten_value t) → Digits z (T ++ digit_part h d (ten t ∷ [])) n (ten_value t)
unfolding same more
ten_digit z T n h zero t e l (nothing h0 T0) = nothing (omega arith) (same_text T h (ten t ∷ []) ∙ T0)
ten_digit z T n h (suc d) t e l (nothing h0 T0) =
    let n-is : n ≡ suc d = omega arith in
    rw (h0, T0, part_first d (ten t ∷ []), n-is)
    (atoms (omega arith) (record {
      row = one (times (run_of z (suc d)) t);
      rules = times_ok z (suc d) t l (omega arith);
      text = times_text z (suc d) t l;
      value = times_value z (suc d) t l;
      single = λ _. refl;
    }) (one_open (run_of z (suc d)) t))
ten_digit z T n h zero t e l (atoms k g o) =
    atoms (omega arith) (same h (n * ten_value t) (ten t ∷ []) g (rw e (omega arith)))
    (record { near = o.near; is_near = o.is_near; room = omega (arith, o.room); follows = o.follows })
ten_digit z T n h (suc d) t e l (atoms k g o) =
    let q = eqb (h % 10) 0 in
    rw (part_later h d (ten t ∷ []) k)
    (atoms (omega arith)
    (more g o (times (run_of q (suc d)) t) (zero_if q ++ (digit (digit_of (suc d)) ∷ ten t ∷ [])) (n * ten_value t)
    (times_ok q (suc d) t l (omega arith))
    (rw (times_value q (suc d) t l) (below (ten_value t) l (ten_least t)))
    (omega (arith, ten_least t))
    (rw (times_value q (suc d) t l, e) (omega arith))
    (λ w. times_text q (suc d) t l w ∙ sym (append_assoc (zero_if q) (digit (digit_of (suc d)) ∷ ten t ∷ []) w)))
    (more_open g.row (run_of q (suc d)) t))

-- ---- the last digit
single_run : (z : Bool) (d : ℕ) → d < 10 → (z ≡ false → 10 ≤ d) → single_digit (small (one (run (run_of z d)))) ≡ 0
single_run true d h f = refl
single_run false d h f = absurd (omega (arith, f refl))

last_digit : (z : Bool) (T : List Char) (n h d : ℕ) → n ≡ 10 * h + d → d < 10 → 1 ≤ n → Digits z T h 10 → Group z (T ++ digit_part h d []) n
last_digit z T n h zero e l p (nothing h0 T0) = absurd (omega arith)
last_digit z T n h (suc d) e l p (nothing h0 T0) =
    let n-is : n ≡ suc d = omega arith in
    rw (h0, T0, part_first d [], n-is) (record {
      row = one (run (run_of z (suc d)));
      rules = tt;
      text = run_text_lem z (suc d);
      value = run_value_lem z (suc d) l;
      single = single_run z (suc d) l;
    })
last_digit z T n h zero e l p (atoms k g o) = same h n [] g (omega arith)
last_digit z T n h (suc d) e l p (atoms k g o) =
    let q = eqb (h % 10) 0 in
    rw (part_later h d [] k)
    (more g o (run (run_of q (suc d))) (zero_if q ++ (digit (digit_of (suc d)) ∷ [])) n tt
    (omega (arith, run_value_lem q (suc d) l))
    (omega arith)
    (omega (arith, run_value_lem q (suc d) l))
    (λ w. run_text_lem q (suc d) w ∙ sym (append_assoc (zero_if q) (digit (digit_of (suc d)) ∷ []) w)))

-- ---- four digits
pub group_small : (z : Bool) (g : ℕ) → 1 ≤ g → g < 10000 → Group z (group g) g
unfolding group cut
group_small z g l h =
    last_digit z _ g (g / 10) (g % 10) (omega arith) (omega arith) l
    (ten_digit z _ (g / 10) (g / 10 / 10) (g / 10 % 10) 十 (omega arith) (omega arith)
    (ten_digit z _ (g / 10 / 10) (g / 10 / 10 / 10) (g / 10 / 10 % 10) 百 (omega arith) (omega arith)
    (ten_digit z _ (g / 10 / 10 / 10) (g / 10 / 10 / 10 / 10) (g / 10 / 10 / 10 % 10) 千 (omega arith) (omega arith)
    (nothing (omega arith) refl))))
