-- Laws of `le`, `le_at` and `bytes_of` (`specs/Fields.antt`), for this crate's proofs and its callers'. No contract cites this file.
-- In order: what bytes say; the bytes of a number; what was written is read; a number in two halves; after a row of stores; bounds.
-- Assumes nothing.
use mathlib.Core.Path.{◌≡◌, refl, sym, ap, ◌∙◌, subst}
use mathlib.Core.Logic.{◌⊎◌}
use mathlib.Core.List.{List, [], ◌∷◌, ◌++◌}
use Prim.Native.Nat.{ℕ, zero, suc, ◌+◌, ◌*◌, ◌/◌, ◌%◌, ◌^◌, ◌≤◌, ◌<◌}
use native.Mathlib.Nat.{zero-add, suc-add, add-zero, mul_assoc, mul-add, one-mul, add_assoc}
use native.Mathlib.Numerals.{add-one}
use native.Mathlib.Omega.{arith}
use native.Mathlib.Decide.{dec_lt}
use lib.ListN.{length, take, drop, get_or, drop_of_length-le}
use lib.Seq.{drop-cons, sets}
use lib.Pow.{pow-add, pow_pos, field, mod-mod-pow, shr-shr, shr_lt}
use lib.Dec.{lit<}
use Rattle.whole.proofs.SetsLaws.{sets_then}
use Rattle.fields.specs.Part.{part}
use Rattle.fields.specs.Fields.{le, le_at, bytes_of}
use Rattle.fields.proofs.PartLaws.{length_part, part_add, part_of_drop, part_of_part, part_append_first, part_sets, part_sets_other}

-- ---- what bytes say
pub le_append : (a b : List ℕ) → le (a ++ b) ≡ le a + 2 ^ (8 * length a) * le b
unfolding le
le_append [] b = sym (zero-add _ ∙ one-mul (le b))
le_append (x ∷ a) b =
    let e : 8 * suc (length a) ≡ 8 + 8 * length a = omega arith in
    ap (λ (z : ℕ). x + 256 * z) (le_append a b)
    ∙ rw (e, pow-add 2 8 (8 * length a)) (ap (λ (z : ℕ). x + z) (mul-add 256 (le a) _) ∙ sym (add_assoc x (256 * le a) _) ∙ ap (λ (z : ℕ). x + 256 * le a + z) (sym (mul_assoc 256 (2 ^ (8 * length a)) (le b))))

pub le_at-one : (s : List ℕ) (at : ℕ) → at < length s → le_at s at 1 ≡ get_or s at 0
unfolding le_at le part
le_at-one s at h = rw (drop-cons s at 0 h) (add-zero _)

pub le_at-add : (s : List ℕ) (at v w : ℕ) → at + v ≤ length s → le_at s at (v + w) ≡ le_at s at v + 2 ^ (8 * v) * le_at s (at + v) w
unfolding le_at
le_at-add s at v w h = ap le (part_add s at v w) ∙ le_append (part s at v) (part s (at + v) w) ∙ rw (length_part s at v h)

-- it depends only on the bytes of the field
pub le_at-same : (s t : List ℕ) (at bt w : ℕ) → part s at w ≡ part t bt w → le_at s at w ≡ le_at t bt w
unfolding le_at
le_at-same s t at bt w e = ap le e

pub le_at-of_part : (s : List ℕ) (at n i w : ℕ) → i + w ≤ n → le_at (part s at n) i w ≡ le_at s (at + i) w
le_at-of_part s at n i w h = le_at-same _ _ _ _ _ (part_of_part s at n i w h)

pub le_at-of_drop : (s : List ℕ) (k at w : ℕ) → le_at (drop k s) at w ≡ le_at s (k + at) w
le_at-of_drop s k at w = le_at-same _ _ _ _ _ (part_of_drop s k at w)

-- ---- the bytes of a number
pub length-bytes_of : (w n : ℕ) → length (bytes_of w n) ≡ w
unfolding bytes_of
length-bytes_of zero n = refl
length-bytes_of (suc w) n = ap suc (length-bytes_of w (n / 256))

pub bytes_of-add : (v w n : ℕ) → bytes_of (v + w) n ≡ bytes_of v (n % 2 ^ (8 * v)) ++ bytes_of w (n / 2 ^ (8 * v))
unfolding bytes_of
bytes_of-add zero w n = let e : n / 1 ≡ n = omega arith in rw (zero-add, e)
bytes_of-add (suc v) w n =
    let e : 8 * suc v ≡ 8 * v + 8 = omega arith in
    let f : 8 * v + 8 ≡ 8 + 8 * v = omega arith in
    rw (suc-add v w, e, mod-mod-pow n (8 * v) 8, field n (8 * v) 8, f, ← shr-shr n 8 (8 * v)) (ap (λ (z : List ℕ). n % 256 ∷ z) (bytes_of-add v w (n / 256)))

pub le-bytes_of : (w n : ℕ) → n < 2 ^ (8 * w) → le (bytes_of w n) ≡ n
unfolding le bytes_of
le-bytes_of zero n h = omega arith
le-bytes_of (suc w) n h =
    let e : 8 * suc w ≡ 8 * w + 8 = omega arith in
    let k : n / 256 < 2 ^ (8 * w) = shr_lt (8 * w) 8 (rw e at h) in
    rw (le-bytes_of w (n / 256) k) (omega arith)

pub bytes_of-injective : (w : ℕ) {m n : ℕ} → m < 2 ^ (8 * w) → n < 2 ^ (8 * w) → bytes_of w m ≡ bytes_of w n → m ≡ n
bytes_of-injective w {m} {n} h k e = sym (le-bytes_of w m h) ∙ ap le e ∙ le-bytes_of w n k

-- ---- what was written is read
pub le_at-bytes_of : (w n : ℕ) (rest : List ℕ) → n < 2 ^ (8 * w) → le_at (bytes_of w n ++ rest) 0 w ≡ n
unfolding le_at
le_at-bytes_of w n rest h = ap le (part_append_first (bytes_of w n) rest w (length-bytes_of w n)) ∙ le-bytes_of w n h

pub le_at-sets : (s : List ℕ) (at w n : ℕ) → at + w ≤ length s → n < 2 ^ (8 * w) → le_at (sets s at (bytes_of w n)) at w ≡ n
unfolding le_at
le_at-sets s at w n h k = ap le (part_sets s at (bytes_of w n) w (length-bytes_of w n) h) ∙ le-bytes_of w n k

pub le_at-sets_other : (s : List ℕ) (i : ℕ) (bs : List ℕ) (at w : ℕ) → (i + length bs ≤ at) ⊎ (at + w ≤ i) → le_at (sets s i bs) at w ≡ le_at s at w
le_at-sets_other s i bs at w h = le_at-same _ _ _ _ _ (part_sets_other s i bs at w h)

-- ---- a number in two halves, at any width
pub halves : (s : List ℕ) (at w : ℕ) {lo hi : ℕ} → at + w ≤ length s → lo ≡ le_at s at w → hi ≡ le_at s (at + w) w → lo + 2 ^ (8 * w) * hi ≡ le_at s at (w + w)
halves s at w h p q = rw (p, q) (sym (le_at-add s at w w h))

pub put_halves : (s : List ℕ) (at w n : ℕ) {t u : List ℕ} → t ≡ sets s at (bytes_of w (n % 2 ^ (8 * w))) → u ≡ sets t (at + w) (bytes_of w (n / 2 ^ (8 * w))) → u ≡ sets s at (bytes_of (w + w) n)
put_halves s at w n p q =
    sets_then s at (at + w) (bytes_of w (n % 2 ^ (8 * w))) (bytes_of w (n / 2 ^ (8 * w))) p (rw (length-bytes_of w (n % 2 ^ (8 * w)))) q
    ∙ rw (bytes_of-add w w n)

-- ---- a number in w bytes is below 2 ^ (8 * w)
pub le_at-lt : (s : List ℕ) (at w : ℕ) → ((i : ℕ) → get_or s i 0 < 256) → le_at s at w < 2 ^ (8 * w)
unfolding le_at le part
le_at-lt s at zero f = lit< tt
le_at-lt s at (suc w) f = go (dec_lt at (length s)) (le_at-lt s (at + 1) w f)
  where
    p : 2 ^ (8 * suc w) ≡ 256 * 2 ^ (8 * w)
    p = let e : 8 * suc w ≡ 8 + 8 * w = omega arith in rw e (pow-add 2 8 (8 * w))

    below : {b n q : ℕ} → b < 256 → n < q → b + 256 * n < 256 * q
    below h k = omega arith

    go : Dec (at < length s) → le_at s (at + 1) w < 2 ^ (8 * w) → le_at s at (suc w) < 2 ^ (8 * suc w)
    go (yes h) r = rw (drop-cons s at 0 h, p) (below (f at) (subst (λ (n : ℕ). le (take w (drop n s)) < 2 ^ (8 * w)) (add-one at) r))
    go (no h) r = rw (drop_of_length-le s {i = at} (omega arith)) (pow_pos (8 * suc w))
