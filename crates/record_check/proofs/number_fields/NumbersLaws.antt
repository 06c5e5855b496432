-- Laws of the looks at the numbers of a record. No contract cites this file.
-- In order: what a number may be; the numbers of a record; its value.
use mathlib.Core.Path.{◌≡◌, refl}
use mathlib.Core.Bool.{Bool, true, false, ◌&&◌, false≢true}
use mathlib.Core.List.{List}
use mathlib.Core.Option.{Option, none, some}
use Prim.Native.Nat.{ℕ, ◌+◌, ◌≤◌}
use native.Mathlib.Omega.{arith}
use native.Mathlib.Decide.{dec_le}
use lib.ListN.{length}
use Rattle.fields.specs.Fields.{le_at}
use Rattle.table.specs.Layout.{Is, Fault, map_field, bit, number, fraction, optional, Numbers, read_numbers}
use Rattle.table.specs.Check.{all_of, small, positive, legal_ratio, legal_numbers}
use Rattle.table.specs.Answers.{optionally}
use Rattle.table.proofs.LayoutLaws.{no_fault, then_is, number_cut, number_is}
use Rattle.record_check.specs.Look.{from_least}
use Rattle.record_check.proofs.number.LookLaws.{Looked, from_zero}

all_small : (o : Option ℕ) → all_of (from_least 0) o ≡ all_of small o
unfolding all_of
all_small none = refl
all_small (some n) = from_zero n

all_positive : (o : Option ℕ) → all_of (from_least 1) o ≡ all_of positive o
unfolding all_of
all_positive none = refl
all_positive (some n) = refl

-- ---- the numbers of a record, one after the other
module _ (m : ℕ) (s : List ℕ) (at : ℕ) where
  pub value_fault : optional (bit m 1) (number 8) s at ≡ Fault → Fault ≡ map_field legal_numbers (read_numbers m s at)
  unfolding read_numbers
  value_fault e = rw e

  module _ {x : Bool} {a : ℕ} (v : Looked (all_of (from_least 0)) (optional (bit m 1) (number 8) s at) x a) where
    pub ratio_fault : optional (bit m 2) fraction s a ≡ Fault → Fault ≡ map_field legal_numbers (read_numbers m s at)
    unfolding read_numbers
    ratio_fault e = rw (v.is, e)

    module _ {y : Bool} {b : ℕ} (r : Looked (all_of legal_ratio) (optional (bit m 2) fraction s a) y b) where
      pub base_fault : optional (bit m 3) (number 8) s b ≡ Fault → Fault ≡ map_field legal_numbers (read_numbers m s at)
      unfolding read_numbers
      base_fault e = rw (v.is, r.is, e)

      module _ {z : Bool} {c : ℕ} (t : Looked (all_of (from_least 1)) (optional (bit m 3) (number 8) s b) z c) where
        pub mult_fault : optional (bit m 4) (number 8) s c ≡ Fault → Fault ≡ map_field legal_numbers (read_numbers m s at)
        unfolding read_numbers
        mult_fault e = rw (v.is, r.is, t.is, e)

        pub numbers_are : {w : Bool} {next : ℕ} → Looked (all_of (from_least 0)) (optional (bit m 4) (number 8) s c) w next → Is (((x && y) && z) && w) next ≡ map_field legal_numbers (read_numbers m s at)
        unfolding read_numbers legal_numbers
        numbers_are u = rw (v.is, r.is, t.is, u.is, ← all_small v.it, v.says, r.says, ← all_positive t.it, t.says, ← all_small u.it, u.says)

-- ---- the value by itself, for the rule of digits
opt_number : (b : Bool) (s : List ℕ) (at : ℕ) {o : Option ℕ} {next : ℕ} → optional b (number 8) s at ≡ Is o next → (o ≡ optionally b (le_at s at 8)) × (b ≡ true → at + 8 ≤ length s)
unfolding optional
opt_number true s at {o} {next} e = go (dec_le (at + 8) (length s))
  where
    go : Dec (at + 8 ≤ length s) → (o ≡ some (le_at s at 8)) × (true ≡ true → at + 8 ≤ length s)
    go (yes k) = let q = number_is s at 8 k in (let f : Is (some (le_at s at 8)) (at + 8) ≡ Is o next = rw q at e in cc, λ z. k)
    go (no k) = no_fault (rw (number_cut s at 8 (omega arith))) e
opt_number false s at e = (cc, λ z. absurd (false≢true z))

pub value_told : (m : ℕ) (s : List ℕ) (at : ℕ) {n : Numbers} {next : ℕ} → read_numbers m s at ≡ Is n next → (n.value ≡ optionally (bit m 1) (le_at s at 8)) × (bit m 1 ≡ true → at + 8 ≤ length s)
unfolding read_numbers
value_told m s at {n} e =
    let v = then_is (optional (bit m 1) (number 8) s at) _ e in
    let r = then_is (optional (bit m 2) fraction s v.next) _ v.rest in
    let b = then_is (optional (bit m 3) (number 8) s r.next) _ r.rest in
    let u = then_is (optional (bit m 4) (number 8) s b.next) _ b.rest in
    let q : record { value = v.value; fraction = r.value; base = b.value; mult = u.value } ≡ n = cc in
    let k = opt_number (bit m 1) s at v.first in
    (rw (← q) k.0, k.1)
