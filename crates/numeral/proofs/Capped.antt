-- Sums and products that stop counting above TOP change no test, and no answer (`specs/Walk.antt`).
-- In order: capped numbers; tests; bases, which stay small; the states; a step; the answer.
use Prim.Native.Nat.{ℕ, zero, suc, ◌+◌, ◌*◌, ◌/◌, ◌≤◌, ◌<◌}
use mathlib.Core.Path.{◌≡◌, refl, sym, ap, ◌∙◌}
use mathlib.Core.Bool.{Bool, true, false, cond, ◌&&◌}
use mathlib.Core.List.{List, [], ◌∷◌}
use mathlib.Core.Option.{none, some}
use native.Mathlib.Omega.{arith}
use lib.Dec.{leb, ltb, eqb}
use borrow.Author.Tests.{le-leb, lt-leb, leb-true, leb-false, ne_eqb}
use Rattle.whole.specs.Whole.{TOP}
use Rattle.grammar.specs.Plain.{Digit, Ten, Large, Char, digit, ten, large, 零, 一, 二, 三, 四, 五, 六, 七, 八, 九, 十, 百, 千, 万, 億, 兆, digit_value, ten_value, large_value}
use Rattle.numeral.specs.declared.Blocks.{Blocks}
use Rattle.numeral.specs.declared.Atoms.{Atoms}
use Rattle.numeral.specs.Numeral.{State, in_numeral, in_small, failed, stands, nearest, fits, retagged, grown, another, with_digit, with_ten, to_small, to_block, step, reads, counted_value, counted_base, result, start, numeral_of}
use Rattle.numeral.specs.Field.{answered}
use Rattle.numeral.specs.Walk.{capped}

abbrev exact : ℕ → ℕ
exact n = n

-- ---- capped numbers
pub at_most_or_above : {G : Type 0} (a b : ℕ) → (a ≤ b → G) → (b < a → G) → G
at_most_or_above {G} a b f g = go (leb a b) refl
  where
    go : (t : Bool) → leb a b ≡ t → G
    go true e = f (leb-true a b e)
    go false e = g (leb-false a b e)

pub cap_small : (n : ℕ) → n ≤ TOP → capped n ≡ n
cap_small n h = omega arith

pub cap_plus : (a b : ℕ) → capped (capped a + capped b) ≡ capped (a + b)
cap_plus a b = omega arith

cap_plus_left : (a b : ℕ) → capped (capped a + b) ≡ capped (a + b)
cap_plus_left a b = omega arith

cap_times : (a k : ℕ) → capped (capped a * k) ≡ capped (a * k)
cap_times a zero = omega arith
cap_times a (suc k) = at_most_or_above a TOP (λ h. rw (cap_small a h)) (λ h. let e : capped a ≡ TOP + 1 = omega arith in rw e (omega arith))

-- ---- tests
same_leb : (a b c d : ℕ) → (a ≤ b → c ≤ d) → (c ≤ d → a ≤ b) → leb a b ≡ leb c d
same_leb a b c d f g = at_most_or_above a b
    (λ h. le-leb a b h ∙ sym (le-leb c d (f h)))
    (λ h. lt-leb a b h ∙ sym (lt-leb c d (at_most_or_above c d (λ k. let l = g k in absurd (omega arith)) (λ k. k))))

cap_below : (v n : ℕ) → n ≤ TOP → ltb (capped v) n ≡ ltb v n
cap_below v n h = same_leb (suc (capped v)) n (suc v) n (λ k. omega arith) (λ k. omega arith)

cap_some : (v : ℕ) → leb 1 (capped v) ≡ leb 1 v
cap_some v = same_leb 1 (capped v) 1 v (λ k. omega arith) (λ k. omega arith)

cap_zero : (v : ℕ) → eqb (capped v) 0 ≡ eqb v 0
cap_zero v = at_most_or_above v 0 (λ h. let e : v ≡ 0 = omega arith in rw e) (λ h. ne_eqb (capped v) 0 (λ e. omega arith) ∙ sym (ne_eqb v 0 (λ e. omega arith)))

-- ---- values of characters, and bases, which stay small
digit_small : (d : Digit) → digit_value d ≤ TOP
digit_small 零 = omega arith
digit_small 一 = omega arith
digit_small 二 = omega arith
digit_small 三 = omega arith
digit_small 四 = omega arith
digit_small 五 = omega arith
digit_small 六 = omega arith
digit_small 七 = omega arith
digit_small 八 = omega arith
digit_small 九 = omega arith

ten_small : (t : Ten) → ten_value t ≤ TOP
ten_small 十 = omega arith
ten_small 百 = omega arith
ten_small 千 = omega arith

large_small : (l : Large) → large_value l ≤ TOP
large_small 万 = omega arith
large_small 億 = omega arith
large_small 兆 = omega arith

pub record AtomsFit (s : Atoms) : Type 0 where
  pub near : s.near ≤ TOP
  pub base : s.base ≤ TOP

abbrev pub Fit : State → Type 0
Fit (in_numeral b) = b.base ≤ TOP
Fit (in_small b s) = (b.base ≤ TOP) × AtomsFit s
Fit failed = Unit {0}

-- ---- the states
abbrev pub cap_blocks : Blocks → Blocks
cap_blocks b = record { sum = capped b.sum; base = b.base }

abbrev pub cap_atoms : Atoms → Atoms
cap_atoms s = record { sum = capped s.sum; near = s.near; first = s.first; value = capped s.value; base = s.base; lone = s.lone }

abbrev pub cap_state : State → State
cap_state (in_numeral b) = in_numeral (cap_blocks b)
cap_state (in_small b s) = in_small (cap_blocks b) (cap_atoms s)
cap_state failed = failed

cap_stands : (s : Atoms) → AtomsFit s → stands (cap_atoms s) ≡ stands s
cap_stands s h = rw (cap_below s.value s.near h.near)

cap_nearest : (s : Atoms) → nearest (cap_atoms s) ≡ nearest s
cap_nearest s = rw (cap_zero s.value)

cap_fits : (b : Blocks) (v n : ℕ) → b.base ≤ TOP → fits (cap_blocks b) (capped v) n ≡ fits b v n
cap_fits b v n h = rw (cap_below v b.base h)

cap_retagged : (b : Blocks) (s : Atoms) → retagged (cap_blocks b) (cap_atoms s) ≡ retagged b s
cap_retagged b s = rw (cap_some s.value)

cap_another : (s : Atoms) (v n : ℕ) (lone : Bool) → v ≤ TOP → another capped (cap_atoms s) v n lone ≡ cap_atoms (another exact s v n lone)
cap_another s v n lone h = rw (cap_plus s.sum s.value, cap_nearest s, cap_small v h)

cap_digit : (s : Atoms) (d : ℕ) → d ≤ TOP → with_digit capped (cap_atoms s) d ≡ cap_atoms (with_digit exact s d)
cap_digit s d h = go (eqb s.base 1)
  where
    value : capped (10 * capped s.value + d) ≡ capped (10 * s.value + d)
    value = omega arith

    go : (t : Bool) → cond t (grown (cap_atoms s) (capped (10 * capped s.value + d)) 1) (another capped (cap_atoms s) d 1 true) ≡ cap_atoms (cond t (grown s (10 * s.value + d) 1) (another exact s d 1 true))
    go true = rw value
    go false = cap_another s d 1 true h

cap_ten : (s : Atoms) (n : ℕ) → n ≤ TOP → with_ten capped (cap_atoms s) n ≡ cap_atoms (with_ten exact s n)
cap_ten s n h = rw (cap_some s.value) (go (eqb s.base 1 && leb 1 s.value))
  where
    go : (t : Bool) → cond t (grown (cap_atoms s) (capped (capped s.value * n)) n) (another capped (cap_atoms s) n n false) ≡ cap_atoms (cond t (grown s (s.value * n) n) (another exact s n n false))
    go true = rw (cap_times s.value n)
    go false = cap_another s n n false h

cap_small_state : (b : Blocks) (s : Atoms) → AtomsFit s → to_small (cap_blocks b) (cap_atoms s) ≡ cap_state (to_small b s)
cap_small_state b s h = rw (cap_stands s h) (go (stands s))
  where
    go : (t : Bool) → cond t (in_small (cap_blocks b) (cap_atoms s)) failed ≡ cap_state (cond t (in_small b s) failed)
    go true = refl
    go false = refl

cap_block_state : (b : Blocks) (v n : ℕ) → b.base ≤ TOP → to_block capped (cap_blocks b) (capped v) n ≡ cap_state (to_block exact b v n)
cap_block_state b v n h = rw (cap_fits b v n h, cap_plus b.sum v) (go (fits b v n))
  where
    go : (t : Bool) → cond t (in_numeral (record { sum = capped (b.sum + v); base = n })) failed ≡ cap_state (cond t (in_numeral (record { sum = b.sum + v; base = n })) failed)
    go true = refl
    go false = refl

-- ---- a step
nearest_fit : (s : Atoms) → AtomsFit s → nearest s ≤ TOP
nearest_fit s h = go (s.lone && eqb s.value 0)
  where
    go : (t : Bool) → cond t s.near s.base ≤ TOP
    go true = h.near
    go false = h.base

digit_fit : (s : Atoms) (d : ℕ) → AtomsFit s → AtomsFit (with_digit exact s d)
digit_fit s d h = go (eqb s.base 1)
  where
    go : (t : Bool) → AtomsFit (cond t (grown s (10 * s.value + d) 1) (another exact s d 1 true))
    go true = record { near = h.near; base = omega arith }
    go false = record { near = nearest_fit s h; base = omega arith }

ten_fit : (s : Atoms) (n : ℕ) → n ≤ TOP → AtomsFit s → AtomsFit (with_ten exact s n)
ten_fit s n k h = go (eqb s.base 1 && leb 1 s.value)
  where
    go : (t : Bool) → AtomsFit (cond t (grown s (s.value * n) n) (another exact s n n false))
    go true = record { near = h.near; base = k }
    go false = record { near = nearest_fit s h; base = k }

cap_step : (a : State) (c : Char) → Fit a → step capped (cap_state a) c ≡ cap_state (step exact a c)
cap_step (in_numeral b) (digit d) h = rw (cap_small (digit_value d) (digit_small d))
cap_step (in_numeral b) (ten t) h = rw (cap_small (ten_value t) (ten_small t))
cap_step (in_numeral b) (large l) h = ap (λ (v : ℕ). to_block capped (cap_blocks b) v (large_value l)) (sym (cap_small (large_value l) (large_small l))) ∙ cap_block_state b (large_value l) (large_value l) h
cap_step (in_small b s) (digit d) h =
    ap (to_small (cap_blocks b)) (cap_digit s (digit_value d) (digit_small d)) ∙ cap_small_state b (with_digit exact s (digit_value d)) (digit_fit s (digit_value d) h.1)
cap_step (in_small b s) (ten t) h =
    ap (to_small (cap_blocks b)) (cap_ten s (ten_value t) (ten_small t)) ∙ cap_small_state b (with_ten exact s (ten_value t)) (ten_fit s (ten_value t) (ten_small t) h.1)
cap_step (in_small b s) (large l) h =
    ap (λ (v : ℕ). to_block capped (cap_blocks b) v (large_value l)) (rw (cap_plus s.sum s.value) (cap_times (s.sum + s.value) (large_value l)))
    ∙ cap_block_state b ((s.sum + s.value) * large_value l) (large_value l) h.0
cap_step failed (digit d) h = refl
cap_step failed (ten t) h = refl
cap_step failed (large l) h = refl

small_fit : (b : Blocks) (s : Atoms) → b.base ≤ TOP → AtomsFit s → Fit (to_small b s)
small_fit b s h k = go (stands s)
  where
    go : (t : Bool) → Fit (cond t (in_small b s) failed)
    go true = (h, k)
    go false = tt

block_fit : (b : Blocks) (v n : ℕ) → n ≤ TOP → Fit (to_block exact b v n)
block_fit b v n h = go (fits b v n)
  where
    go : (t : Bool) → Fit (cond t (in_numeral (record { sum = b.sum + v; base = n })) failed)
    go true = h
    go false = tt

step_fit : (a : State) (c : Char) → Fit a → Fit (step exact a c)
step_fit (in_numeral b) (digit d) h = (h, record { near = omega arith; base = omega arith })
step_fit (in_numeral b) (ten t) h = (h, record { near = omega arith; base = ten_small t })
step_fit (in_numeral b) (large l) h = block_fit b (large_value l) (large_value l) (large_small l)
step_fit (in_small b s) (digit d) h = small_fit b (with_digit exact s (digit_value d)) h.0 (digit_fit s (digit_value d) h.1)
step_fit (in_small b s) (ten t) h = small_fit b (with_ten exact s (ten_value t)) h.0 (ten_fit s (ten_value t) (ten_small t) h.1)
step_fit (in_small b s) (large l) h = block_fit b ((s.sum + s.value) * large_value l) (large_value l) (large_small l)
step_fit failed (digit d) h = tt
step_fit failed (ten t) h = tt
step_fit failed (large l) h = tt

pub cap_reads : (w : List Char) (a : State) → Fit a → reads capped (cap_state a) w ≡ cap_state (reads exact a w)
cap_reads [] a h = refl
cap_reads (c ∷ w) a h = ap (λ (x : State). reads capped x w) (cap_step a c h) ∙ cap_reads w (step exact a c) (step_fit a c h)

reads_fit : (w : List Char) (a : State) → Fit a → Fit (reads exact a w)
reads_fit [] a h = h
reads_fit (c ∷ w) a h = reads_fit w (step exact a c) (step_fit a c h)

-- ---- the answer
answer_cap : (v : ℕ) → answered (some (capped v)) ≡ answered (some v)
answer_cap v = at_most_or_above v TOP (λ h. rw (cap_small v h))
    (λ h. let e : capped v ≡ TOP + 1 = omega arith in rw (e, lt-leb v TOP h))

cap_counted : (b : Blocks) (s : Atoms) → counted_value capped (cap_blocks b) (cap_atoms s) ≡ capped (counted_value exact b s)
cap_counted b s = rw (cap_retagged b s) (go (retagged b s))
  where
    go : (t : Bool) → cond t (capped (capped s.value * (b.base / 10))) (capped (capped s.sum + capped s.value)) ≡ capped (cond t (s.value * (b.base / 10)) (s.sum + s.value))
    go true = cap_times s.value (b.base / 10)
    go false = cap_plus s.sum s.value

cap_result : (a : State) → Fit a → answered (result capped (cap_state a)) ≡ answered (result exact a)
cap_result (in_numeral b) h = go (eqb b.base 0)
  where
    go : (t : Bool) → answered (cond t none (some (capped b.sum))) ≡ answered (cond t none (some b.sum))
    go true = refl
    go false = answer_cap b.sum
cap_result (in_small b s) h =
    let v = counted_value exact b s in
    let n = counted_base exact b s in
    rw (cap_counted b s, cap_retagged b s, cap_fits b v n h.0, cap_plus b.sum v) (go (fits b v n) v)
  where
    go : (t : Bool) (v : ℕ) → answered (cond t (some (capped (b.sum + v))) none) ≡ answered (cond t (some (b.sum + v)) none)
    go true v = answer_cap (b.sum + v)
    go false v = refl
cap_result failed h = refl

-- what is answered is the numeral's
pub cap_numeral : (w : List Char) → answered (result capped (reads capped start w)) ≡ answered (numeral_of w)
cap_numeral w =
    ap (λ (a : State). answered (result capped a)) (cap_reads w start (omega arith)) ∙ cap_result (reads exact start w) (reads_fit w start (omega arith))
