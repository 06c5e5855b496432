-- Laws of `part` (`specs/Part.antt`), and of parts after a row of stores, for this crate's proofs and its callers'. No contract cites this file.
-- In order: length and elements; parts of parts; parts of `++`; a part where bytes were stored, and elsewhere; a loop that copies.
-- Assumes nothing.
use mathlib.Core.Path.{◌≡◌, refl, sym, ◌∙◌}
use mathlib.Core.Logic.{◌⊎◌, inl, inr}
use mathlib.Core.List.{List, [], ◌∷◌, ◌++◌, append_assoc}
use Prim.Native.Nat.{ℕ, zero, suc, ◌+◌, ◌-◌, ◌≤◌, ◌<◌}
use native.Mathlib.Nat.{zero-add, suc-add}
use native.Mathlib.Numerals.{add-one}
use native.Mathlib.Omega.{arith}
use lib.ListN.{length, take, drop, get_or, set, length-drop}
use lib.Seq.{sets, sets-eq, length-take-le, take_at, drop_at, take-add, take-take, take_all, take-suc, take-length, take-nil, drop-drop, drop-append-add, drop-set-lt, drop-set-add, take-set-le, get_or-take, get_or-drop}
use Rattle.whole.proofs.SetsLaws.{sets_append}
use Rattle.fields.specs.Part.{part}

-- ---- length and elements
pub length_part : (s : List ℕ) (at n : ℕ) → at + n ≤ length s → length (part s at n) ≡ n
unfolding part
length_part s at n h = length-take-le n (drop at s) (simp length-drop (omega arith))

pub part_at : (s : List ℕ) (at n i : ℕ) → i < n → get_or (part s at n) i 0 ≡ get_or s (at + i) 0
unfolding part
part_at s at n i h = rw (get_or-take n (drop at s) i 0 h, get_or-drop at s i 0)

pub part_all : (s : List ℕ) → part s 0 (length s) ≡ s
unfolding part
part_all s = take-length s

-- ---- parts of parts
pub part_add : (s : List ℕ) (at n m : ℕ) → part s at (n + m) ≡ part s at n ++ part s (at + n) m
unfolding part
part_add s at n m = take-add n m (drop at s) ∙ rw (drop-drop n at s)

pub part_take : (s : List ℕ) (at n m : ℕ) → m ≤ n → take m (part s at n) ≡ part s at m
unfolding part
part_take s at n m h = take-take m n (drop at s) h

pub part_of_drop : (s : List ℕ) (k at n : ℕ) → part (drop k s) at n ≡ part s (k + at) n
unfolding part
part_of_drop s k at n = rw (drop-drop at k s)

drop_take : (k n : ℕ) (s : List ℕ) → drop k (take (k + n) s) ≡ take n (drop k s)
drop_take zero n s = rw zero-add
drop_take (suc k) n [] = rw (take-nil (suc k + n), take-nil n)
drop_take (suc k) n (b ∷ s) = rw suc-add (drop_take k n s)

pub drop_part : (s : List ℕ) (at k n : ℕ) → drop k (part s at (k + n)) ≡ part s (at + k) n
unfolding part
drop_part s at k n = drop_take k n (drop at s) ∙ rw (drop-drop k at s)

pub part_of_take : (s : List ℕ) (k at n : ℕ) → at + n ≤ k → part (take k s) at n ≡ part s at n
unfolding part
part_of_take s k at n h =
    let e : k ≡ at + (k - at) = omega arith in
    rw (e, drop_take at (k - at) s) (take-take n (k - at) (drop at s) (omega arith))

pub part_of_part : (s : List ℕ) (at n i m : ℕ) → i + m ≤ n → part (part s at n) i m ≡ part s (at + i) m
unfolding part
part_of_part s at n i m h = part_of_take (drop at s) n i m h ∙ part_of_drop s at i m

-- ---- parts of two lists in a row
pub part_append_right : (a b : List ℕ) (at n : ℕ) → part (a ++ b) (length a + at) n ≡ part b at n
unfolding part
part_append_right a b at n = rw (drop-append-add a b at)

-- the first list itself
pub part_append_first : (a b : List ℕ) (n : ℕ) → length a ≡ n → part (a ++ b) 0 n ≡ a
unfolding part
part_append_first a b n l = take_at a b n l

-- ---- after a row of stores
-- what was stored is there
pub part_sets : (s : List ℕ) (at : ℕ) (bs : List ℕ) (n : ℕ) → length bs ≡ n → at + n ≤ length s → part (sets s at bs) at n ≡ bs
unfolding part
part_sets s at bs n l h = rw (sets-eq bs s at (rw l h), append_assoc, drop_at (take at s) _ at (length-take-le at s (omega arith)), take_at bs _ n l)

part_set_other : (s : List ℕ) (i v at n : ℕ) → (i < at) ⊎ (at + n ≤ i) → part (set s i v) at n ≡ part s at n
unfolding part
part_set_other s i v at n (inl h) = rw (drop-set-lt at s i v h)
part_set_other s i v at n (inr h) =
    let e : i ≡ at + (i - at) = omega arith in
    rw (e, drop-set-add at s (i - at) v, take-set-le n (drop at s) (i - at) v (omega arith))

-- what was stored elsewhere changes nothing
pub part_sets_other : (s : List ℕ) (i : ℕ) (bs : List ℕ) (at n : ℕ) → (i + length bs ≤ at) ⊎ (at + n ≤ i) → part (sets s i bs) at n ≡ part s at n
part_sets_other s i [] at n h = refl
part_sets_other s i (b ∷ bs) at n h = part_sets_other (set s i b) (suc i) bs at n (later h) ∙ part_set_other s i b at n (now h)
  where
    later : (i + suc (length bs) ≤ at) ⊎ (at + n ≤ i) → (suc i + length bs ≤ at) ⊎ (at + n ≤ suc i)
    later (inl k) = inl (omega arith)
    later (inr k) = inr (omega arith)

    now : (i + suc (length bs) ≤ at) ⊎ (at + n ≤ i) → (i < at) ⊎ (at + n ≤ i)
    now (inl k) = inl (omega arith)
    now (inr k) = inr k

-- what lies behind the stores stays
pub drop_sets : (s : List ℕ) (i : ℕ) (bs : List ℕ) (k : ℕ) → i + length bs ≤ k → drop k (sets s i bs) ≡ drop k s
drop_sets s i [] k h = refl
drop_sets s i (b ∷ bs) k h = drop_sets (set s i b) (suc i) bs k (omega arith) ∙ drop-set-lt k s i b (omega arith)

-- ---- a loop that copies: i bytes are stored
pub copy_turn : (out s : List ℕ) {now : List ℕ} (at i : ℕ) → i < length s → now ≡ sets out at (take i s) → set now (at + i) (get_or s i 0) ≡ sets out at (take (i + 1) s)
copy_turn out s at i h e =
    let l : length (take i s) ≡ i = length-take-le i s (omega arith) in
    sym (rw (add-one i, take-suc s i 0 h) (sets_append out at (take i s) (get_or s i 0 ∷ []) ∙ rw (l, e)))

pub copy_ends : (out s : List ℕ) {now : List ℕ} (at i : ℕ) → length s ≤ i → now ≡ sets out at (take i s) → now ≡ sets out at s
copy_ends out s at i h e = e ∙ rw (take_all i s h)
