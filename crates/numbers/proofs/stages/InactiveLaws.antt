-- Edges that were turned inactive: what of them stays. No contract cites this file.
-- In order: one edge; the i-th of a list. Assumes nothing.
use mathlib.Core.Path.{◌≡◌, refl, ap, ◌∙◌}
use mathlib.Core.Logic.{◌⊎◌, inl, inr}
use mathlib.Core.List.{List, [], ◌∷◌}
use mathlib.Core.Option.{Option, none, some, map}
use Prim.Native.Nat.{ℕ}
use native.Mathlib.Omega.{arith}
use lib.ListN.{length, get_or}
use Rattle.edge.specs.Edge.{Edge, Numeric}
use Rattle.lattice.specs.Lattice.{quiet, inactive, turn_off_at, turn_off}
use Rattle.lattice.specs.Kept.{no_edge}
use Rattle.lattice.proofs.TurnOffLaws.{length_turned, turned_at}

-- ---- one edge
pub inactive_start : (e : Edge) → (inactive e).start ≡ e.start
unfolding inactive
inactive_start e = refl

pub inactive_end : (e : Edge) → (inactive e).end ≡ e.end
unfolding inactive
inactive_end e = refl

pub inactive_txt : (e : Edge) → (inactive e).txt ≡ e.txt
unfolding inactive
inactive_txt e = refl

-- whatever of its data does not look at the bit: value, script, fraction, whether it is numeric
pub inactive_num : {A : Type 0} (f : Option Numeric → A) → ((x : Numeric) → f (some (quiet x)) ≡ f (some x)) → (e : Edge) → f (inactive e).num ≡ f e.num
unfolding inactive
inactive_num f h e = go e.num
  where
    go : (x : Option Numeric) → f (map quiet x) ≡ f x
    go none = refl
    go (some x) = h x

-- the data of an inactive edge are those of a numeric one, quiet
pub inactive_some : (e : Edge) (x : Numeric) → (inactive e).num ≡ some x → (y : Numeric) × (e.num ≡ some y) × (x ≡ quiet y)
unfolding inactive
inactive_some e x h = go e.num refl h
  where
    go : (o : Option Numeric) → e.num ≡ o → map quiet o ≡ some x → (y : Numeric) × (e.num ≡ some y) × (x ≡ quiet y)
    go none p q = let z : ◌≡◌ {A = ℕ} 0 1 = cc in absurd (omega arith)
    go (some y) p q = (y, p, cc)

pub inactive_twice : (e : Edge) → inactive (inactive e) ≡ inactive e
unfolding inactive
inactive_twice e = ap (λ (x : Option Numeric). record { start = e.start; end = e.end; type = e.type; txt = e.txt; num = x }) (go e.num)
  where
    go : (x : Option Numeric) → map quiet (map quiet x) ≡ map quiet x
    go none = refl
    go (some x) = refl

-- ---- the i-th of a list
pub length_turn_off : (es : List Edge) (is : List ℕ) → length (turn_off es is) ≡ length es
unfolding turn_off
length_turn_off es [] = refl
length_turn_off es (i ∷ is) = length_turn_off (turn_off_at es i) is ∙ length_turned es i

abbrev pub AsItWas : Edge → Edge → Type 0
AsItWas d e = (d ≡ e) ⊎ (d ≡ inactive e)

-- it is as it was, or inactive
pub turn_off_at_lem : (es : List Edge) (is : List ℕ) (j : ℕ) → AsItWas (get_or (turn_off es is) j no_edge) (get_or es j no_edge)
unfolding turn_off
turn_off_at_lem es [] j = inl refl
turn_off_at_lem es (i ∷ is) j = go (turn_off_at_lem (turn_off_at es i) is j) (turned_at (λ (d : Edge). AsItWas d (get_or es j no_edge)) es i j (inl refl) (inr refl))
  where
    go : {d c e : Edge} → AsItWas d c → AsItWas c e → AsItWas d e
    go (inl p) (inl q) = inl (p ∙ q)
    go (inl p) (inr q) = inr (p ∙ q)
    go (inr p) (inl q) = inr (p ∙ ap inactive q)
    go {e = e} (inr p) (inr q) = inr (p ∙ ap inactive q ∙ inactive_twice e)
