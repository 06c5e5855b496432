-- What the call answers and leaves in the output, case by case (`specs/Written.antt`). No contract cites this file.
use Prim.Native.Nat.{ℕ, ◌-◌, ◌≤◌, ◌<◌}
use mathlib.Core.Path.{◌≡◌, refl, sym, ap, ◌∙◌}
use mathlib.Core.Bool.{Bool, true, false, cond}
use mathlib.Core.List.{List, [], append-nil}
use native.Mathlib.Omega.{arith}
use borrow.Author.Tests.{lt-ltb, le-ltb, ltb-false}
use lib.Dec.{ltb}
use lib.ListN.{length, take, drop}
use lib.Seq.{sets, length-sets, take-length, drop-length}
use Rattle.whole.specs.Whole.{TOP}
use Rattle.writing.specs.Before.{Before}
use Rattle.writing.specs.Written.{numeral_bytes, written, stored, output}
use Rattle.std.specs.Prelude.{Result, Ok, Err}
use Rattle.writing.specs.declared.WriteRefusal.{WriteRefusal}

-- the answer r, and what is in the output s afterwards
abbrev pub Answers : ℕ → List ℕ → Result ℕ WriteRefusal → List ℕ → Type 0
Answers n s r t = (r ≡ written n (length s)) × (t ≡ output n s)

answers : (n : ℕ) (s : List ℕ) (r : Result ℕ WriteRefusal) → r ≡ written n (length s) → Answers n s r (stored n s r)
answers n s r e = (e, ap (stored n s) e)

pub above : (n : ℕ) (s : List ℕ) → TOP < n → Answers n s (Err WriteRefusal.AboveTop) s
above n s h = answers n s (Err WriteRefusal.AboveTop) (rw (lt-ltb TOP n h))

-- the buffer b of 192 bytes, at whose end the numeral was put, is now u
module _ (n : ℕ) (s b u : List ℕ) (r : ℕ) (small : n ≤ TOP) (put : Before b 192 (numeral_bytes n) r u) where
  pub too_short : length s < 192 - r → Answers n s (Err WriteRefusal.TooShort) s
  too_short h = answers n s (Err WriteRefusal.TooShort) (rw (le-ltb TOP n small, lt-ltb (length s) (length (numeral_bytes n)) (omega (arith, put.ends))))

  long : 192 - r ≡ length (numeral_bytes n)
  long = omega (arith, put.ends)

  pub fits : length b ≡ 192 → 192 - r ≤ length s → (t : List ℕ) → t ≡ sets s 0 (take (192 - r) (drop r u)) → Answers n s (Ok (192 - r)) t
  fits l h t e =
      let end : drop 192 b ≡ [] = rw (← l) (drop-length b) in
      let behind : drop r u ≡ numeral_bytes n = put.stands ∙ rw end (append-nil (numeral_bytes n)) in
      let text : take (192 - r) (drop r u) ≡ numeral_bytes n = rw (behind, long) (take-length (numeral_bytes n)) in
      let told : (Ok (192 - r)) ≡ written n (length s) = rw (le-ltb TOP n small, le-ltb (length s) (length (numeral_bytes n)) (omega (arith, put.ends))) (ap Ok long) in
      (told, e ∙ ap (sets s 0) text ∙ ap (stored n s) told)

-- a numeral that is stored has room
bytes_fit : (n room l : ℕ) → Ok l ≡ written n room → l ≤ room
bytes_fit n room l = go (ltb TOP n) (ltb room (length (numeral_bytes n))) refl
  where
    go : (a b : Bool) → ltb room (length (numeral_bytes n)) ≡ b → Ok l ≡ cond a (Err WriteRefusal.AboveTop) (cond b (Err WriteRefusal.TooShort) (Ok (length (numeral_bytes n)))) → l ≤ room
    go true b e h = absurd cc
    go false true e h = absurd cc
    go false false e h = let q : l ≡ length (numeral_bytes n) = cc in omega (arith, ltb-false room (length (numeral_bytes n)) e)

pub stored_fits : (n : ℕ) (s t : List ℕ) (l : ℕ) {r : Result ℕ WriteRefusal} → r ≡ Ok l → Answers n s r t → l ≤ length t
stored_fits n s t l q (e, o) =
    let told : (Ok l) ≡ written n (length s) = sym q ∙ e in
    let same : length t ≡ length s = ap length (o ∙ ap (stored n s) (sym told)) ∙ length-sets s 0 (numeral_bytes n) in
    omega (arith, bytes_fit n (length s) l told)
