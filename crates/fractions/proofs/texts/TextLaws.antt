-- Texts in a buffer. No contract cites this file. Assumes nothing.
use mathlib.Core.Path.{◌≡◌, refl, sym, ap, ◌∙◌}
use mathlib.Core.List.{List, [], ◌∷◌, ◌++◌, append_assoc}
use Prim.Native.Nat.{ℕ, ◌+◌, ◌≤◌}
use native.Mathlib.Omega.{arith}
use lib.ListN.{length, take, set, length-append}
use lib.Seq.{sets, length-sets}
use Rattle.fields.specs.Part.{part}
use Rattle.fields.proofs.PartLaws.{part_sets}
use Rattle.whole.proofs.SetsLaws.{sets_then}
use Rattle.fractions.specs.NewTexts.{TextIs}

front : (s t : List ℕ) → length t ≤ length s → take (length t) (sets s 0 t) ≡ t
unfolding part
front s t h = part_sets s 0 t (length t) refl (omega arith)

-- a text that is stored at the front
pub text_front : (s t : List ℕ) {u : List ℕ} {r : ℕ} → u ≡ sets s 0 t → r ≡ length t → length t ≤ length s → length t ≤ 300 → TextIs u r t
text_front s t {u} {r} p e h k = let z = length-sets s 0 t in let y = ap length p in record { is = rw (p, e) (front s t h); len = e; room = omega arith; short = omega arith }

-- a byte behind it
pub byte_behind : (s t : List ℕ) (b : ℕ) {u v : List ℕ} {n : ℕ} → u ≡ sets s 0 t → n ≡ length t → v ≡ set u n b → v ≡ sets s 0 (t ++ (b ∷ []))
byte_behind s t b {n = n} p e q = sets_then s 0 n t (b ∷ []) p (omega arith) q

pub text_byte : (s t : List ℕ) (b : ℕ) {u v : List ℕ} {n : ℕ} → u ≡ sets s 0 t → n ≡ length t → v ≡ set u n b → length t + 1 ≤ length s → length t + 1 ≤ 300 → TextIs v (n + 1) (t ++ (b ∷ []))
text_byte s t b p e q h k = let z = length-append t (b ∷ []) in text_front s (t ++ (b ∷ [])) (byte_behind s t b p e q) (omega arith) (omega arith) (omega arith)

-- a byte and a second text behind it
pub text_two : (s t x : List ℕ) (b : ℕ) {u v y : List ℕ} {n r : ℕ} → u ≡ sets s 0 t → n ≡ length t → v ≡ set u n b → y ≡ sets v (n + 1) x → r ≡ n + 1 + length x
    → length t + 1 + length x ≤ length s → length t + 1 + length x ≤ 300 → TextIs y r (t ++ (b ∷ x))
text_two s t x b {n = n} p e q o k h m =
    let z = length-append t (b ∷ x) in
    let a = length-append t (b ∷ []) in
    text_front s (t ++ (b ∷ x)) (sets_then s 0 (n + 1) (t ++ (b ∷ [])) x (byte_behind s t b p e q) (omega arith) o ∙ ap (sets s 0) (append_assoc t (b ∷ []) x)) (omega arith) (omega arith) (omega arith)

-- such a text as a slice
pub text_count : {s : List ℕ} {r : ℕ} {t : List ℕ} → TextIs s r t → r ≡ length (take r s)
text_count q = q.len ∙ ap length (sym q.is)
