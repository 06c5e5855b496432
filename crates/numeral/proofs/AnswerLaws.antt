-- The answer by the value of the line as a numeral (`answered` of `specs/Field.antt`), each answer both ways.
use Prim.Native.Nat.{ℕ, ◌≤◌, ◌<◌}
use mathlib.Core.Path.{◌≡◌, refl, sym, ap}
use mathlib.Core.Logic.{◌↔◌}
use mathlib.Core.Bool.{Bool, true, false, cond}
use mathlib.Core.Option.{Option, none, some, some-ne-none, some-injective}
use lib.Dec.{leb}
use borrow.Author.Tests.{le-leb, lt-leb, leb-true, leb-false}
use Rattle.whole.specs.Whole.{TOP}
use Rattle.numeral.specs.Field.{answered}
use Rattle.std.specs.Prelude.{Some, None, Ok, Err}
use Rattle.numeral.specs.declared.FieldRefusal.TheVariants as FieldRefusal

pub yes_of : (o : Option ℕ) (v : ℕ) → (answered o ≡ Ok (Some v)) ↔ ((o ≡ some v) × (v ≤ TOP))
yes_of none v = (λ e. absurd cc, λ h. absurd (some-ne-none v (sym h.0)))
yes_of (some n) v = (go (leb n TOP) refl, λ h. rw (some-injective n v h.0, le-leb v TOP h.1))
  where
    go : (t : Bool) → leb n TOP ≡ t → cond t (Ok (Some n)) (Err FieldRefusal.AboveTop) ≡ Ok (Some v) → (some n ≡ some v) × (v ≤ TOP)
    go true e h = let q : n ≡ v = cc in (ap some q, rw q at (leb-true n TOP e))
    go false e h = absurd cc

pub above_of : (o : Option ℕ) → (answered o ≡ Err FieldRefusal.AboveTop) ↔ ((v : ℕ) × (o ≡ some v) × (TOP < v))
above_of none = (λ e. absurd cc, λ h. absurd (some-ne-none h.0 (sym h.1)))
above_of (some n) = (go (leb n TOP) refl, λ h. rw (some-injective n h.0 h.1, lt-leb h.0 TOP h.2))
  where
    go : (t : Bool) → leb n TOP ≡ t → cond t (Ok (Some n)) (Err FieldRefusal.AboveTop) ≡ Err FieldRefusal.AboveTop → (v : ℕ) × (some n ≡ some v) × (TOP < v)
    go true e h = absurd cc
    go false e h = (n, refl, leb-false n TOP e)

pub no_of : (o : Option ℕ) → (answered o ≡ Ok None) ↔ (o ≡ none)
no_of none = (λ e. refl, λ e. refl)
no_of (some n) = (go (leb n TOP), λ e. absurd (some-ne-none n e))
  where
    go : (t : Bool) → cond t (Ok (Some n)) (Err FieldRefusal.AboveTop) ≡ Ok None → some n ≡ none
    go true e = absurd cc
    go false e = absurd cc

pub none_of : (o : Option ℕ) → ((v : ℕ) → o ≡ some v → ⊥) → o ≡ none
none_of none k = refl
none_of (some v) k = absurd (k v refl)
