-- Laws of the offsets of an edge's fields (`specs/Layout.antt`). No contract cites this file.
use mathlib.Core.Path.{◌≡◌, refl}
use mathlib.Core.Bool.{Bool, true, false, cond}
use mathlib.Core.List.{List}
use Prim.Native.Nat.{ℕ, suc, ◌+◌, ◌*◌, ◌≤◌}
use native.Mathlib.Nat.{add-zero, le_trans, le_of_eq}
use borrow.Author.Tests.{eqb-true}
use native.Mathlib.Omega.{arith}
use lib.ListN.{length, get_or, drop_of_length-le}
use lib.Seq.{drop-cons, take-nil}
use Rattle.fields.specs.Fields.{le, le_at}
use Rattle.fields.specs.Part.{part}
use Rattle.edge.specs.Layout.{bit, stands, map_at, txt_at, string_end_if, fraction_at, base_at, mult_at, string_end, script_at, value_sAt, decimals_at, fields_end, next_at}

-- ---- numbers at the end of the list: bytes past it count as 0
pub le_at_past : (s : List ℕ) (at w : ℕ) → length s ≤ at → le_at s at w ≡ 0
unfolding le_at le part
le_at_past s at w h = rw (drop_of_length-le s {i = at} h, take-nil w)

pub le_at_last : (s : List ℕ) (at : ℕ) → length s ≡ suc at → le_at s at 2 ≡ get_or s at 0
unfolding le_at le part
le_at_last s at h = rw (drop-cons s at 0 (omega arith), drop_of_length-le s {i = suc at} (omega arith)) (add-zero _)

-- ---- a test whose answer is known
pub if_on : {A : Type 0} (b : Bool) (x y : A) {r : A} → b ≡ true → r ≡ x → r ≡ cond b x y
if_on b x y t e = rw t e

pub if_off : {A : Type 0} (b : Bool) (x y : A) {r : A} → b ≡ false → r ≡ y → r ≡ cond b x y
if_off b x y t e = rw t e

-- ---- where an edge ends, by bit 0 of its map
module _ (s : List ℕ) (at : ℕ) {m t h : ℕ} {b : Bool} (map : m ≡ map_at s at) (txt : t ≡ txt_at s at) (head : h ≡ string_end s t) (bit-0 : b ≡ stands 0 m) where
  pub next_numeric : {r : ℕ} → b ≡ true → r ≡ fields_end m s h → r ≡ next_at s at
  unfolding next_at
  next_numeric on e = if_on (stands 0 (map_at s at)) _ _ (cc) (cc)

  pub next_regular : b ≡ false → h ≡ next_at s at
  unfolding next_at
  next_regular off = if_off (stands 0 (map_at s at)) _ _ (cc) (cc)

-- ---- the fields of an edge that ends within n bytes are within them too
pub string_end_ge : (s : List ℕ) (at : ℕ) → at + 2 ≤ string_end s at
unfolding string_end
string_end_ge s at = omega arith

pub string_end_if_ge : (on : Bool) (s : List ℕ) (at : ℕ) → at ≤ string_end_if on s at
string_end_if_ge true s at = let h = string_end_ge s at in omega arith
string_end_if_ge false s at = omega arith

-- the fields of a numeric edge with map m, its value at v, within n bytes
pub record Within (m : ℕ) (s : List ℕ) (v n : ℕ) : Type 0 where
  pub value_at : v ≤ n
  pub value : stands 1 m ≡ true → v + 8 ≤ n
  pub fraction : stands 2 m ≡ true → fraction_at m v + 16 ≤ n
  pub base : stands 3 m ≡ true → base_at m v + 8 ≤ n
  pub mult : stands 4 m ≡ true → mult_at m v + 8 ≤ n
  pub script_offset : script_at m v ≤ n
  pub script : stands 5 m ≡ true → string_end s (script_at m v) ≤ n
  pub value_s_at : value_sAt m s v ≤ n
  pub value_s : stands 8 m ≡ true → string_end s (value_sAt m s v) ≤ n
  pub decimals_offset : decimals_at m s v ≤ n
  pub decimals : stands 9 m ≡ true → decimals_at m s v + 1 ≤ n

decimals_le : (m : ℕ) (s : List ℕ) (at n : ℕ) → fields_end m s at ≤ n → decimals_at m s (string_end s at) + bit 9 m ≤ n
unfolding fields_end
decimals_le m s at n h = h

module _ (m : ℕ) (s : List ℕ) (v n : ℕ) where
  decimals_ge : value_sAt m s v ≤ decimals_at m s v
  unfolding decimals_at
  decimals_ge = string_end_if_ge (stands 8 m) s (value_sAt m s v)

  value_s_on : stands 8 m ≡ true → string_end s (value_sAt m s v) ≤ decimals_at m s v
  unfolding decimals_at
  value_s_on on = le_of_eq (if_on (stands 8 m) _ _ on refl)

  value_s_ge : script_at m v ≤ value_sAt m s v
  unfolding value_sAt
  value_s_ge = string_end_if_ge (stands 5 m) s (script_at m v)

  script_on : stands 5 m ≡ true → string_end s (script_at m v) ≤ value_sAt m s v
  unfolding value_sAt
  script_on on = le_of_eq (if_on (stands 5 m) _ _ on refl)

  numbers_ge : value_sAt m s v ≤ n → mult_at m v + 8 * bit 4 m ≤ n
  unfolding script_at
  numbers_ge h = le_trans value_s_ge h

pub within : (m : ℕ) (s : List ℕ) (at n : ℕ) → fields_end m s at ≤ n → Within m s (string_end s at) n
within m s at n h =
    let i = decimals_le m s at n h in
    let j : decimals_at m s (string_end s at) ≤ n = omega arith in
    let l = le_trans (decimals_ge m s (string_end s at) n) j in
    let k = numbers_ge m s (string_end s at) n l in
    record {
      value_at = omega arith;
      value = λ on. omega (arith, eqb-true (bit 1 m) 1 on);
      fraction = λ on. omega (arith, eqb-true (bit 2 m) 1 on);
      base = λ on. omega (arith, eqb-true (bit 3 m) 1 on);
      mult = λ on. omega (arith, eqb-true (bit 4 m) 1 on);
      script_offset = le_trans (value_s_ge m s (string_end s at) n) l;
      script = λ on. le_trans (script_on m s (string_end s at) n on) l;
      value_s_at = l;
      value_s = λ on. le_trans (value_s_on m s (string_end s at) n on) j;
      decimals_offset = j;
      decimals = λ on. omega (arith, eqb-true (bit 9 m) 1 on);
    }

-- the same where the code holds the offset of the value
pub within_from : (m : ℕ) (s : List ℕ) (at n : ℕ) {v : ℕ} → v ≡ string_end s at → fields_end m s at ≤ n → Within m s v n
within_from m s at n e h = rw e (within m s at n h)

pub orig_within : (m : ℕ) (s : List ℕ) (at n : ℕ) → fields_end m s at ≤ n → at + 2 ≤ n
orig_within m s at n h = le_trans (string_end_ge s at) (within m s at n h).value_at

pub length_within : (s : List ℕ) (a n : ℕ) {x : ℕ} → x ≡ a → string_end s a ≤ n → x + 2 ≤ n
length_within s a n e h = let k = string_end_ge s a in omega arith

-- what stands there where a test holds, and what stands for it where it does not
pub told : {A : Type 0} (b : Bool) {r x y : A} → (b ≡ true → r ≡ x) → (b ≡ false → r ≡ y) → r ≡ cond b x y
told true on off = on refl
told false on off = off refl

-- what holds either way
pub either : {P : Type 0} (b : Bool) → (b ≡ true → P) → (b ≡ false → P) → P
either true on off = on refl
either false on off = off refl
