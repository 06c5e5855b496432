-- Laws of characters that are put one before the other (`specs/Before.antt`), for the proofs of the code. No contract cites this file.
-- In order: what a mark stands for; characters before characters; three bytes stored.
use Prim.Native.Nat.{ℕ, suc, ◌+◌, ◌-◌, ◌/◌, ◌%◌, ◌≤◌, ◌<◌}
use mathlib.Core.Path.{◌≡◌, refl, ap, ◌∙◌}
use mathlib.Core.List.{List, [], ◌∷◌, ◌++◌, append_assoc}
use native.Mathlib.Omega.{arith}
use lib.Dec.{lit≤}
use lib.ListN.{length, take, drop, set, length-append}
use lib.Seq.{sets-eq, drop_at, length-take-le}
use Rattle.grammar.specs.Plain.{Char, code_point, utf8}
use Rattle.grammar.proofs.Sixteen.{each}
use Rattle.grammar.proofs.PlainText.{utf8_nil, utf8_append, three, char_three}
use Rattle.writing.specs.Before.{Mark, Before}
use Rattle.std.specs.Prelude.{Option, Some, None}

-- ---- what a mark stands for
char_small : (x : Char) → code_point x < 65536
char_small = each (λ x. code_point x < 65536) (lit≤ tt, lit≤ tt, lit≤ tt, lit≤ tt, lit≤ tt, lit≤ tt, lit≤ tt, lit≤ tt, lit≤ tt, lit≤ tt, lit≤ tt, lit≤ tt, lit≤ tt, lit≤ tt, lit≤ tt, lit≤ tt)

pub mark_small : (m : List Char) (o : Option ℕ) (c : ℕ) → Mark m o → o ≡ Some c → c < 65536
mark_small [] o c h q = absurd cc
mark_small (x ∷ []) o c h q = let e : c ≡ code_point x = cc in omega (arith, e, char_small x)
mark_small (x ∷ y ∷ m) o c h q = absurd h

pub mark_none : (m : List Char) (o : Option ℕ) → Mark m o → o ≡ None → utf8 m ≡ []
mark_none [] o h q = utf8_nil
mark_none (x ∷ []) o h q = absurd cc
mark_none (x ∷ y ∷ m) o h q = absurd h

mark_some : (m : List Char) (o : Option ℕ) (c : ℕ) → Mark m o → o ≡ Some c → utf8 m ≡ three c
mark_some [] o c h q = absurd cc
mark_some (x ∷ []) o c h q = let e : c ≡ code_point x = cc in rw e (char_three x)
mark_some (x ∷ y ∷ m) o c h q = absurd h

-- ---- characters before characters
pub before_none : (s : List ℕ) (at : ℕ) {t : List ℕ} → t ≡ [] → Before s at t at s
before_none s at e = rw e (record { ends = omega arith; stands = refl })

pub before_then : {s u v : List ℕ} {at a b : ℕ} (x y : List Char) → Before s at (utf8 x) a u → Before u a (utf8 y) b v → Before s at (utf8 (y ++ x)) b v
before_then {s = s} {at = at} x y p q = record {
  ends = rw (utf8_append y x) (omega (arith, p.ends, q.ends, length-append (utf8 y) (utf8 x)));
  stands = q.stands ∙ rw (p.stands, utf8_append y x, append_assoc (utf8 y) (utf8 x) (drop at s));
}

-- ---- three bytes stored
pub before_three : (s : List ℕ) (at x y z : ℕ) → 3 ≤ at → at ≤ length s
    → Before s at (x ∷ y ∷ z ∷ []) (at - 3) (set (set (set s (at - 3) x) (at - 2) y) (at - 1) z)
before_three s at x y z h k =
    let n = at - 3 in
    let t = x ∷ y ∷ z ∷ [] in
    let second : at - 2 ≡ suc n = omega arith in
    let third : at - 1 ≡ suc (suc n) = omega arith in
    let whole : n + length t ≡ at = omega arith in
    record {
      ends = whole;
      stands =
          rw (second, third)
          (ap (drop n) (sets-eq t s n (omega arith) ∙ append_assoc (take n s) t (drop (n + length t) s))
          ∙ drop_at (take n s) (t ++ drop (n + length t) s) n (length-take-le n s (omega arith))
          ∙ rw whole);
    }

-- a character's three bytes
pub before_mark : (s : List ℕ) (at : ℕ) (o : Option ℕ) (c : ℕ) (m : List Char) → 3 ≤ at → at ≤ length s → Mark m o → o ≡ Some c
    → Before s at (utf8 m) (at - 3) (set (set (set s (at - 3) (224 + c / 64 / 64)) (at - 2) (128 + c / 64 % 64)) (at - 1) (128 + c % 64))
before_mark s at o c m h k i q = rw (mark_some m o c i q) (before_three s at (224 + c / 64 / 64) (128 + c / 64 % 64) (128 + c % 64) h k)
