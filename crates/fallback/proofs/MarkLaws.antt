-- The marks of the fallback and the definition. No contract cites this file. Assumes nothing.
use mathlib.Core.Path.{◌≡◌, refl, sym}
use mathlib.Core.Bool.{Bool, true, false, ◌&&◌, ◌||◌}
use mathlib.Core.List.{List, [], ◌∷◌}
use Prim.Native.Nat.{ℕ, suc}
use native.Mathlib.Decide.{ℕ_discrete}
use lib.Dec.{eqb}
use borrow.Author.Tests.{eq-eqb, ne_eqb}
use Rattle.edge.specs.Edge.{Edge}
use Rattle.numbers.specs.Marks.{any_at}
use Rattle.numbers.specs.Fractions.{is_numeric}
use Rattle.numbers.specs.Fallback.{covered}
use Rattle.marks.specs.Marked.{one_place}

and_false_right : (b c : Bool) → (b && (false && c)) ≡ false
and_false_right true c = refl
and_false_right false c = refl

pub covers_agree : (es : List Edge) (p : ℕ) → any_at one_place (λ e. e.start) es p ≡ covered es p
unfolding any_at covered one_place
covers_agree [] p = refl
covers_agree (e ∷ es) p = go (ℕ_discrete p e.start) (covers_agree es p)
  where
    go : Dec (p ≡ e.start) → any_at one_place (λ d. d.start) es p ≡ covered es p
        → ((eqb e.start p && (is_numeric e && eqb e.end (suc e.start))) || any_at one_place (λ d. d.start) es p) ≡ ((is_numeric e && (eqb e.start p && eqb e.end (suc p))) || covered es p)
    go (yes y) i = rw (i, y, eq-eqb e.start e.start refl)
    go (no n) i = rw (i, ne_eqb e.start p (λ q. n (sym q)), and_false_right (is_numeric e) (eqb e.end (suc p)))
