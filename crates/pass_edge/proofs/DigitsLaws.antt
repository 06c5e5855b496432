-- Laws of a row's digits with a point among them (`digits_text` of `pass_list`, specs/Edges.antt): the two parts that are written, and the text's length.
-- Assumes nothing.
use mathlib.Core.Path.{◌≡◌, sym, ap, ◌∙◌}
use mathlib.Core.List.{List, [], ◌∷◌, ◌++◌, append-nil, append_assoc}
use Prim.Native.Nat.{ℕ, zero, suc, ◌+◌, ◌-◌, ◌/◌, ◌%◌, ◌^◌, ◌≤◌, ◌<◌}
use native.Mathlib.Nat.{add-zero, add-suc, zero-add, mul_comm, pow-suc, div-div-eq-div-mul}
use native.Mathlib.Numerals.{add-one}
use native.Mathlib.Omega.{arith}
use lib.ListN.{length, set, length-append}
use lib.Seq.{sets, take-append_seam, drop-append_seam}
use Rattle.whole.specs.Decimal.{padded}
use Rattle.whole.proofs.DecimalLaws.{length_padded}
use Rattle.whole.proofs.SetsLaws.{sets_then}
use Rattle.passes.specs.DecimalPasses.{point_character}
use Rattle.pass_list.specs.Edges.{digits_text}
use Rattle.pass_edge.specs.Texts.{Front}

-- the last k digits, and those before
padded_parts : (a k v : ℕ) → padded (a + k) v ≡ padded a (v / 10 ^ k) ++ padded k v
unfolding padded
padded_parts a zero v = let e : v / 1 ≡ v = omega arith in rw (add-zero, e, append-nil)
padded_parts a (suc k) v =
    let e : v / 10 / 10 ^ k ≡ v / 10 ^ suc k = div-div-eq-div-mul v 10 (10 ^ k) ∙ ap (λ (n : ℕ). v / n) (mul_comm 10 (10 ^ k) ∙ sym (pow-suc 10 k)) in
    rw (add-suc a k, padded_parts a k (v / 10), e) (append_assoc (padded a (v / 10 ^ suc k)) (padded k (v / 10)) ((48 + v % 10) ∷ []))

-- the digits v over n places, the last k of them behind a point
module _ (k n v : ℕ) (some : 0 < k) (inside : suc k ≤ n) where
  abbrev pub pointed_text : List ℕ
  pointed_text = padded (n - 1 - k) (v / 10 ^ k) ++ (point_character ∷ padded k v)

  pub digits_parts : pointed_text ≡ digits_text k n v
  digits_parts = go k some inside
    where
      go : (k : ℕ) → 0 < k → suc k ≤ n → padded (n - 1 - k) (v / 10 ^ k) ++ (point_character ∷ padded k v) ≡ digits_text k n v
      go zero h i = absurd (omega arith)
      go (suc k) h i =
          let front = padded (n - 1 - suc k) (v / 10 ^ suc k) in
          let all : padded (n - 1) v ≡ front ++ padded (suc k) v = (let e : n - 1 ≡ n - 1 - suc k + suc k = omega arith in ap (λ (m : ℕ). padded m v) e ∙ padded_parts (n - 1 - suc k) (suc k) v) in
          let long : length (front ++ padded (suc k) v) - suc k ≡ length front = (let a = length-append front (padded (suc k) v) in let b = length_padded (suc k) v in omega arith) in
          rw (all, long, take-append_seam front (padded (suc k) v), drop-append_seam front (padded (suc k) v))

  pub length_pointed : length pointed_text ≡ n
  length_pointed =
      let a = length-append (padded (n - 1 - k) (v / 10 ^ k)) (point_character ∷ padded k v) in
      let b = length_padded (n - 1 - k) (v / 10 ^ k) in
      let c = length_padded k v in
      omega arith

  -- the part before, the point, and the part behind are written one after the other
  pub front_pointed : (s : List ℕ) {t u : List ℕ} → t ≡ sets s 0 (padded (n - 1 - k) (v / 10 ^ k)) → u ≡ sets (set t (n - 1 - k) point_character) (n - 1 - k + 1) (padded k v) → Front s u n (digits_text k n v)
  front_pointed s p q =
      rw (← digits_parts) record {
        wrote = sets_then s 0 (n - 1 - k) (padded (n - 1 - k) (v / 10 ^ k)) (point_character ∷ padded k v) p (sym (length_padded (n - 1 - k) (v / 10 ^ k)) ∙ sym (zero-add _)) (q ∙ rw (add-one (n - 1 - k)));
        long = sym length_pointed;
      }

pub length_digits : (k n v : ℕ) → (0 < k → suc (suc k) ≤ n) → length (digits_text k n v) ≡ n
length_digits zero n v h = length_padded n v
length_digits (suc k) n v h = let i = h (omega arith) in ap length (sym (digits_parts (suc k) n v (omega arith) (omega arith))) ∙ length_pointed (suc k) n v (omega arith) (omega arith)
