-- On a plain line that is not refused 7 the edges after the fifth pass have values up to TOP.
use Prim.Native.Nat.{ℕ, suc, ◌≤◌}
use mathlib.Core.Path.{◌≡◌, refl}
use mathlib.Core.Bool.{false}
use mathlib.Core.List.{List, [], ◌∷◌}
use mathlib.Core.Option.{none, some}
use Rattle.whole.specs.Whole.{TOP}
use Rattle.passes.specs.NumEdge.{NumEdge, above, first_above}
use Rattle.passes.specs.Passes.{through, added_by, five}
use Rattle.passes.proofs.AboveLaws.{first_above_cons, first_above_head, above_le, through_within}
use Rattle.grammar.specs.Plain.{Char}
use Rattle.grammar.proofs.Sixteen.{each}
use Rattle.grammar.proofs.PlainEdges.{plain_edge, plain_edges}

char_within : (i : ℕ) (c : Char) → above (plain_edge i c) ≡ false
char_within i = each (λ c. above (plain_edge i c) ≡ false) (refl, refl, refl, refl, refl, refl, refl, refl, refl, refl, refl, refl, refl, refl, refl, refl)

plain_within : (w : List Char) (i : ℕ) → first_above (plain_edges i w) ≡ none
unfolding first_above
plain_within [] i = refl
plain_within (c ∷ w) i = first_above_cons (plain_edge i c) (plain_edges (suc i) w) (char_within i c) (plain_within w (suc i))

-- the value of the one edge
pub one_within : (w : List Char) (e : NumEdge) (n : ℕ) → first_above (added_by five (plain_edges 0 w)) ≡ none → through five (plain_edges 0 w) ≡ e ∷ [] → e.value ≡ some n → n ≤ TOP
one_within w e n h k v = rw v at (above_le e (first_above_head e [] (rw k at (through_within five (plain_edges 0 w) (plain_within w 0) h))))
