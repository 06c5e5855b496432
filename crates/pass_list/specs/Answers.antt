-- What a pass over a list answers, by the passes on stored edges (specs/StoredPass.antt). Definitions only.
--     pass_of p          the pass that the code's name p stands for
--     passed o k        what a pass answers: the place in o, or the count k
--     PassAnswerIs p l s r  a pass p over the stored edges l answered r and left the bytes s of the list
-- Assumes nothing.
use Rattle.std.specs.Prelude.{◌≡◌, List, ℕ, ◌≤◌, length, Result, Ok, Err}
use Rattle.std.proofs.Math.Option.{Option, none, some}
use Rattle.passes.specs.Passes as passes
use Rattle.pass_list.specs.declared.run.Pass.{Pass}
use Rattle.pass_list.specs.declared.run.Pass.TheVariants.{D1, G1, G2, G3, G4}
use Rattle.pass_list.specs.StoredEdge.{StoredEdge, AllSmall}
use Rattle.pass_list.specs.Stored.{stored_list_at}
use Rattle.pass_list.specs.StoredPass.{after, added, first_above}
use Rattle.text.specs.declared.Place.{Place}

abbrev pub pass_of : Pass → passes.Pass
pass_of D1 = passes.D1
pass_of G1 = passes.G1
pass_of G2 = passes.G2
pass_of G3 = passes.G3
pass_of G4 = passes.G4

-- refusal 7 names the place; otherwise the list has as many edges as the definition's
abbrev pub passed : Option ℕ → ℕ → Result ℕ Place
passed none k = Ok k
passed (some a) k = Err (record { 0 = a })

pub record PassAnswerIs (p : passes.Pass) (l : List StoredEdge) (s : List ℕ) (r : Result ℕ Place) : Type 0 where
  pub answer : r ≡ passed (first_above (added p l)) (length (after p l))
  -- with no value above TOP: the list, which is no longer than it was, and whose numbers are within 01's bounds
  pub list : first_above (added p l) ≡ none → stored_list_at s 0 (length (after p l)) ≡ after p l
  pub fewer : first_above (added p l) ≡ none → length (after p l) ≤ length l
  pub small : first_above (added p l) ≡ none → AllSmall (after p l)
