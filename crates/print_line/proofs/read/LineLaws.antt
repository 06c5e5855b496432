-- Laws of `until_newline` (`specs/Line.antt`): parts of a line; what a read leaves.
-- No contract cites this file.
use mathlib.Core.Path.{◌≡◌, refl, sym, ap, ◌∙◌}
use mathlib.Core.Bool.{Bool, true, false, cond}
use mathlib.Core.List.{List, [], ◌∷◌, ◌++◌}
use Prim.Native.Nat.{ℕ, ◌+◌, ◌≤◌, ◌<◌}
use native.Mathlib.Numerals.{add-one}
use native.Mathlib.Omega.{arith}
use lib.Dec.{eqb}
use lib.ListN.{length, take, drop, get_or, drop_of_length-le, take-append-drop, length-append}
use lib.Seq.{drop-cons, take_all, take-take, length-take-le}
use borrow.Author.Tests.{eq-eqb, ne_eqb}
use Rattle.vectors.specs.Until.{until_byte}
use Rattle.print_line.specs.declared.read.Got.{Got}
use Rattle.print_line.specs.declared.read.Got.TheVariants as Got
use Rattle.print_line.specs.Line.{until_newline, OnALine, LineIs}

-- ---- parts of a line
pub until_short : (s : List ℕ) → length (until_newline s) ≤ length s
unfolding until_byte
until_short [] = omega arith
until_short (b ∷ s) = go (eqb b 10) (until_short s)
  where
    go : (t : Bool) → length (until_newline s) ≤ length s → length (cond t [] (b ∷ until_newline s)) ≤ length (b ∷ s)
    go true h = omega arith
    go false h = omega arith

-- a part without a newline is passed
until_behind : (a b : List ℕ) → OnALine a → until_newline (a ++ b) ≡ a ++ until_newline b
unfolding until_byte
until_behind [] b h = refl
until_behind (x ∷ a) b h = go (eqb x 10) h (until_behind a b)
  where
    go : (t : Bool) → cond t [] (x ∷ until_newline a) ≡ x ∷ a → (OnALine a → until_newline (a ++ b) ≡ a ++ until_newline b) → cond t [] (x ∷ until_newline (a ++ b)) ≡ x ∷ (a ++ until_newline b)
    go true h more = let z : ◌≡◌ {A = ℕ} 0 1 = cc in absurd (omega arith)
    go false h more = let q : until_newline a ≡ a = cc in ap (λ (l : List ℕ). x ∷ l) (more q)

-- a part with a newline decides
until_within : (a b : List ℕ) → length (until_newline a) < length a → until_newline (a ++ b) ≡ until_newline a
unfolding until_byte
until_within [] b h = absurd (omega arith)
until_within (x ∷ a) b h = go (eqb x 10) h (until_within a b)
  where
    go : (t : Bool) → length (cond t [] (x ∷ until_newline a)) < length (x ∷ a) → (length (until_newline a) < length a → until_newline (a ++ b) ≡ until_newline a)
        → cond t [] (x ∷ until_newline (a ++ b)) ≡ cond t [] (x ∷ until_newline a)
    go true h more = refl
    go false h more = ap (λ (l : List ℕ). x ∷ l) (more (omega arith))

-- where the line takes all, there is none
until_all : (a : List ℕ) → length a ≤ length (until_newline a) → OnALine a
unfolding until_byte
until_all [] h = refl
until_all (x ∷ a) h = go (eqb x 10) h (until_all a)
  where
    go : (t : Bool) → length (x ∷ a) ≤ length (cond t [] (x ∷ until_newline a)) → (length a ≤ length (until_newline a) → OnALine a) → cond t [] (x ∷ until_newline a) ≡ x ∷ a
    go true h more = absurd (omega arith)
    go false h more = ap (λ (l : List ℕ). x ∷ l) (more (omega arith))

pub no_byte : (s : List ℕ) → OnALine (take 0 s)
unfolding until_byte
no_byte s = refl

-- ---- the buffer s has n bytes of the line, and then those up to to; the line ends at end, seen from n
module _ (s : List ℕ) {n to end : ℕ} (so_far : OnALine (take n s)) (from : n ≤ to) (inside : to ≤ length s) (ends : end ≡ n + length (until_newline (drop n (take to s)))) where
  length_front : length (take to s) ≡ to
  length_front = length-take-le to s inside

  front_end : length (until_newline (take to s)) ≡ end
  front_end =
      let q = take-take n to s from in
      let p : until_newline (take to s) ≡ take n s ++ until_newline (drop n (take to s)) = ap until_newline (sym (take-append-drop n (take to s)) ∙ ap (λ (l : List ℕ). l ++ drop n (take to s)) q) ∙ until_behind (take n s) (drop n (take to s)) so_far in
      let l = length-take-le n s (omega arith) in
      let a = length-append (take n s) (until_newline (drop n (take to s))) in
      let b = ap length p in
      omega arith

  pub step_ends : end < to → (end ≡ length (until_newline s)) × (end ≤ length s)
  step_ends h =
      let l = length_front in
      let e = front_end in
      let w = until_within (take to s) (drop to s) (omega arith) in
      let q : until_newline s ≡ until_newline (take to s) = ap until_newline (sym (take-append-drop to s)) ∙ w in
      (sym (ap length q ∙ front_end), omega arith)

  pub step_goes : to ≤ end → OnALine (take to s)
  step_goes h = let l = length_front in let e = front_end in until_all (take to s) (omega arith)

-- ---- the line that was read
-- a buffer that is full of a line
pub line_full : (s : List ℕ) {n : ℕ} → n ≤ length s → length s ≤ n → OnALine (take n s) → n ≡ length (until_newline s)
line_full s {n} h k o =
    let q : take n s ≡ s = take_all n s k in
    let e : until_newline s ≡ s = rw q at o in
    let l = ap length e in
    omega arith

-- it is within the buffer
pub line_inside : (s : List ℕ) {r : Got} (k : ℕ) → LineIs s r → r ≡ Got.Line k → k ≤ length s
line_inside s k h e = let i : k ≡ length (until_newline s) = rw e at h in omega (arith, until_short s)

pub last_inside : (s : List ℕ) {r : Got} (k : ℕ) → LineIs s r → r ≡ Got.LastLine k → k ≤ length s
last_inside s k h e = (rw e at h).0
