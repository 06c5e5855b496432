-- A marker that stands at a place ends within the line. No contract cites this file. Assumes nothing.
use mathlib.Core.Bool.{cond}
use mathlib.Core.List.{List, [], ◌∷◌}
use Prim.Native.Nat.{ℕ, ◌+◌, ◌≤◌}
use native.Mathlib.Omega.{arith}
use lib.ListN.{length}
use lib.Dec.{eqb, leb}
use Rattle.text.specs.Text.{chars}
use Rattle.text.proofs.RowLaws.{cond_cases}
use Rattle.table.specs.Table.{Text, Table}
use Rattle.numbers.specs.Fractions.{stands_at, longest, larger, Marker, marker_at}
use Rattle.numbers.proofs.FoldLaws.{stands_fits}
use Rattle.fraction_choices.specs.Decision.{size_of}

module _ (w : List ℕ) (p : ℕ) (h : p ≤ length w) where
  longest_fits : (ms : List Text) → p + longest w p ms ≤ length w
  unfolding longest
  longest_fits [] = omega arith
  longest_fits (m ∷ ms) =
      let i = longest_fits ms in
      cond_cases (λ (z : ℕ). p + z ≤ length w) (leb (cond (stands_at w p m) (length (chars m)) 0) (longest w p ms)) (λ e. i)
      (λ e. cond_cases (λ (z : ℕ). p + z ≤ length w) (stands_at w p m) (stands_fits w p m h) (λ t. omega arith))

  pub marker_fits : (t : Table) → p + size_of (marker_at t w p) ≤ length w
  unfolding marker_at
  marker_fits t =
      let a = longest w p t.percentage_markers in
      let b = longest w p t.fraction_connectors in
      cond_cases (λ (m : Marker). p + size_of m ≤ length w) (eqb (larger a b) 0) (λ e. omega arith)
      (λ e. cond_cases (λ (m : Marker). p + size_of m ≤ length w) (leb b a) (λ x. longest_fits t.percentage_markers) (λ x. longest_fits t.fraction_connectors))
