-- Laws of looks at fields (`specs/Look.antt`). No contract cites this file.
-- In order: what an answer told; a field that may be absent; a number; a fraction.
use mathlib.Core.Path.{◌≡◌, refl, sym, ap, ◌∙◌}
use mathlib.Core.Bool.{Bool, true, false, ◌&&◌}
use mathlib.Core.List.{List}
use mathlib.Core.Option.{none, some}
use Prim.Native.Nat.{ℕ, ◌+◌, ◌≤◌, ◌<◌}
use native.Mathlib.Omega.{arith}
use lib.ListN.{length}
use borrow.Author.Tests.{le-leb}
use Rattle.fields.specs.Fields.{le_at}
use Rattle.table.specs.Layout.{Field, Is, Fault, map_field, number, fraction, optional}
use Rattle.table.specs.Check.{all_of, small, positive, legal_ratio}
use Rattle.table.proofs.LayoutLaws.{number_cut, number_is, optional_absent, optional_there}
use Rattle.record_check.specs.Look.{from_least}

-- ---- what an answer told of a field f of which p is asked
pub record Looked {A B : Type 0} (p : A → B) (f : Field A) (b : B) (next : ℕ) : Type 0 where
  pub it : A
  pub is : f ≡ Is it next
  pub says : p it ≡ b

module _ {A B : Type 0} (p : A → B) where
  pub looked : (f : Field A) {b : B} {next : ℕ} → map_field p f ≡ Is b next → Looked p f b next
  looked (Is a m) {b} {next} e = let q : m ≡ next = cc in record { it = a; is = rw q; says = cc }
  looked Fault e = let z : ◌≡◌ {A = ℕ} 0 1 = cc in absurd (omega arith)

  pub look_fault : (f : Field A) → map_field p f ≡ Fault → f ≡ Fault
  look_fault (Is a m) e = let z : ◌≡◌ {A = ℕ} 0 1 = cc in absurd (omega arith)
  look_fault Fault e = refl

-- ---- a field that may be absent
module _ {A : Type 0} (q : A → Bool) (p : List ℕ → ℕ → Field A) (s : List ℕ) (at : ℕ) {b : Bool} where
  pub look_absent : b ≡ false → Is true at ≡ map_field (all_of q) (optional b p s at)
  unfolding all_of
  look_absent e = rw (optional_absent p s at e)

  look_there : b ≡ true → map_field q (p s at) ≡ map_field (all_of q) (optional b p s at)
  unfolding all_of
  look_there e = go (p s at) ∙ ap (map_field (all_of q)) (sym (optional_there p s at e))
    where
      go : (f : Field A) → map_field q f ≡ map_field (all_of q) (map_field some f)
      go (Is a next) = refl
      go Fault = refl

-- ---- a number
module _ (k : ℕ) (s : List ℕ) (at : ℕ) {b : Bool} (e : b ≡ true) where
  pub number_cut_off : length s < at + 8 → Fault ≡ map_field (all_of (from_least k)) (optional b (number 8) s at)
  number_cut_off h = ap (map_field (from_least k)) (sym (number_cut s at 8 h)) ∙ look_there (from_least k) (number 8) s at e

  pub number_there : {n : ℕ} → n ≡ le_at s at 8 → at + 8 ≤ length s → Is (from_least k n) (at + 8) ≡ map_field (all_of (from_least k)) (optional b (number 8) s at)
  number_there z h = rw z (ap (map_field (from_least k)) (sym (number_is s at 8 h)) ∙ look_there (from_least k) (number 8) s at e)

pub from_zero : (n : ℕ) → from_least 0 n ≡ small n
from_zero n = simp (le-leb 0 n (omega arith))

-- ---- a fraction
module _ (s : List ℕ) (at : ℕ) where
  pub numerator_fault : (b : Bool) → optional b (number 8) s at ≡ Fault → Fault ≡ map_field (all_of legal_ratio) (optional b fraction s at)
  unfolding optional fraction
  numerator_fault true e = rw (look_fault some (number 8 s at) e)
  numerator_fault false e = let z : ◌≡◌ {A = ℕ} 0 1 = cc in absurd (omega arith)

  pub denominator_fault : (b : Bool) {x : Bool} {mid : ℕ} → Looked (all_of (from_least 0)) (optional b (number 8) s at) x mid → optional b (number 8) s mid ≡ Fault
      → Fault ≡ map_field (all_of legal_ratio) (optional b fraction s at)
  unfolding optional fraction
  denominator_fault true {x} {mid} n e = rw ((looked some (number 8 s at) n.is).is, look_fault some (number 8 s mid) e)
  denominator_fault false n e = let z : ◌≡◌ {A = ℕ} 0 1 = cc in absurd (omega arith)

  pub ratio_is : (b : Bool) {x y : Bool} {mid next : ℕ} → Looked (all_of (from_least 0)) (optional b (number 8) s at) x mid
      → Looked (all_of (from_least 1)) (optional b (number 8) s mid) y next → Is (x && y) next ≡ map_field (all_of legal_ratio) (optional b fraction s at)
  unfolding optional fraction all_of
  ratio_is true {x} {y} {mid} {next} n d =
      let u = looked some (number 8 s at) n.is in
      let v = looked some (number 8 s mid) d.is in
      let a : small u.it ≡ x = sym (from_zero u.it) ∙ ap (all_of (from_least 0)) u.says ∙ n.says in
      let c : positive v.it ≡ y = ap (all_of (from_least 1)) v.says ∙ d.says in
      rw (u.is, v.is, a, c)
  ratio_is false {x} {y} {mid} {next} n d =
      let e : at ≡ mid = cc n.is in
      let f : mid ≡ next = cc d.is in
      let a : true ≡ x = ap (all_of (from_least 0)) (let o : none ≡ n.it = cc n.is in o) ∙ n.says in
      let c : true ≡ y = ap (all_of (from_least 1)) (let o : none ≡ d.it = cc d.is in o) ∙ d.says in
      rw (← a, ← c, ← f, ← e)
