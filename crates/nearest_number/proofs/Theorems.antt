-- What is promised of the nearest number (02, S-14) beyond the contract of `nearest_number`. In order: the order of numbers; which number is given; none; the call.
-- The definitions are in `specs/Nearest.antt` and `proofs/Given.antt`. Assumes nothing.
use Prim.Native.Nat.{ℕ, ◌≤◌}
use mathlib.Core.Path.{◌≡◌, refl, sym, ap, ◌∙◌}
use mathlib.Core.Bool.{true, false}
use mathlib.Core.List.{List, []}
use mathlib.Core.Option.{none, some}
use native.Mathlib.Omega.{arith}
use Rattle.text.specs.declared.Place.{Place}
use Rattle.text.specs.Line.{max_chars}
use Rattle.text.specs.declared.Offset.{Offset}
use Rattle.edge.specs.Edge.{Edge}
use Rattle.edge.specs.Layout.{edge_at}
use Rattle.paths.specs.Best.{Best, with_offsets, found}
use Rattle.paths.specs.Reading.{read_check}
use Rattle.paths.proofs.BestLaws.{Each}
use Rattle.paths.proofs.ReadingLaws.{Listed, spans_each}
use Rattle.nearest_number.specs.Nearest.{comes_first, nearest, nearest_number}
use Rattle.nearest_number.proofs.Given.{NoNumber, NotBefore, Given}
use Rattle.nearest_number.proofs.NearestLaws.{nearest_spans, nearest_found}
use Rattle.nearest_number.proofs.OrderLaws as Laws
use Rattle.std.specs.Prelude.{Option, Some, None, Ok}

-- ---- the order: two edges never come before each other, and an edge that comes before a second comes before every third that does not come before the second
pub order_turns : (p : ℕ) (e f : Edge) → comes_first p e f ≡ true → comes_first p f e ≡ false
order_turns = Laws.first_turns

pub order_on : (p : ℕ) (e f g : Edge) → comes_first p e f ≡ true → comes_first p g f ≡ false → comes_first p e g ≡ true
order_on = Laws.first_on

-- ---- the number given: no active numeric edge comes before it, and of those that it does not come before it is the first in the list
held_given : (p : ℕ) (xs : List (ℕ × Edge)) (b : Best) → nearest p xs ≡ b → Laws.Told p xs b
held_given p xs b e = rw e at (Laws.told p [] xs none tt)

pub nearest_given : (p : ℕ) (xs : List (ℕ × Edge)) (x : ℕ × Edge) → nearest p xs ≡ some x → Given p xs x
nearest_given p xs x = held_given p xs (some x)

pub given_nearest : (p : ℕ) (xs : List (ℕ × Edge)) (x : ℕ × Edge) → Given p xs x → nearest p xs ≡ some x
given_nearest p xs x = Laws.given_nearest p x

pub none_comes_before : (p : ℕ) (xs : List (ℕ × Edge)) (x : ℕ × Edge) → nearest p xs ≡ some x → Each (NotBefore p x) xs
none_comes_before p xs x e = Laws.none_before p x (nearest_given p xs x e)

-- ---- none exactly where no edge is numeric and active
pub nearest_none : (p : ℕ) (xs : List (ℕ × Edge)) → (nearest p xs ≡ none → NoNumber xs) × (NoNumber xs → nearest p xs ≡ none)
nearest_none p xs = (held_given p xs none, Laws.no_number_nearest p xs)

-- ---- the call: of a line of n characters and a listing of k edges that the checks do not refuse, and a place that is not above n
module _ (line s : List ℕ) (p : Place) {n k : ℕ} (readable : read_check line s ≡ Ok (n, k)) (within : p.0 ≤ n) where
  answered : (f : Option Offset) → nearest_number line s p ≡ Ok f → found (nearest p.0 (with_offsets k s 2)) ≡ f
  answered f e = let q = nearest_found line s p readable within refl ∙ e in cc

  pub call_given : (o : Offset) → nearest_number line s p ≡ Ok (Some o) → Given p.0 (with_offsets k s 2) (o.0, edge_at s o.0)
  unfolding found
  call_given o e = by (nearest p.0 (with_offsets k s 2)) refl (answered (Some o) e)
    where
      by : (b : Best) → nearest p.0 (with_offsets k s 2) ≡ b → found b ≡ Some o → Given p.0 (with_offsets k s 2) (o.0, edge_at s o.0)
      by none q f = let z : ◌≡◌ {A = ℕ} 0 1 = cc in absurd (omega arith)
      by (some (x, d)) q f =
          let g = nearest_given p.0 (with_offsets k s 2) (x, d) q in
          let here : record { 0 = x } ≡ o = cc in
          let listed = spans_each max_chars k s 2 (nearest_spans line s readable) in
          let edge : d ≡ edge_at s x = (Laws.each_at (Listed max_chars s) g.front (x, d) g.back (rw g.split at listed)).edge in
          rw (← here, ← edge) g

  pub call_none : (nearest_number line s p ≡ Ok None → NoNumber (with_offsets k s 2))
      × (NoNumber (with_offsets k s 2) → nearest_number line s p ≡ Ok None)
  unfolding found
  call_none =
      let xs = with_offsets k s 2 in
      ((λ e. by (nearest p.0 xs) refl (answered None e)), (λ h. sym (nearest_found line s p readable within (sym (ap found ((nearest_none p.0 xs).1 h))))))
    where
      by : (b : Best) → nearest p.0 (with_offsets k s 2) ≡ b → found b ≡ None → NoNumber (with_offsets k s 2)
      by none q f = (nearest_none p.0 (with_offsets k s 2)).0 q
      by (some x) q f = let z : ◌≡◌ {A = ℕ} 0 1 = cc in absurd (omega arith)
