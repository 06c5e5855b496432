-- After the five passes (`specs/Stages.antt`). No contract cites this file. Assumes nothing.
use mathlib.Core.Path.{◌≡◌, sym, ap, ◌∙◌, subst}
use mathlib.Core.Bool.{Bool, true}
use mathlib.Core.List.{List, [], map}
use Prim.Native.Nat.{ℕ, ◌≤◌, ◌<◌}
use native.Mathlib.Omega.{arith}
use lib.ListN.{length, drop, get_or}
use Rattle.text.specs.declared.Place.{Place}
use Rattle.text.specs.Text.{chars}
use Rattle.text.proofs.TextLaws.{chars_scalars}
use Rattle.table.specs.Answers.{table_of}
use Rattle.table.specs.Table.{Table}
use Rattle.table.specs.declared.shape.Shape.{Shape}
use Rattle.passes.specs.Passes.{five}
use Rattle.pass_list.specs.StoredEdge.{StoredEdge}
use Rattle.pass_list.specs.Edges.{edge_of}
use Rattle.pass_list.specs.InTurn.{added_by}
use Rattle.edge.specs.Edge.{Edge}
use Rattle.edge.specs.Layout.{listed}
use Rattle.edge.specs.Check.{check_listing}
use Rattle.lattice.specs.declared.Lattice.{Lattice}
use Rattle.lattice.specs.Lattice.{add_all}
use Rattle.lattice.specs.Kept.{Holds, END}
use Rattle.lattice.proofs.HoldsLaws.{add_all_append}
use Rattle.numbers.specs.Ready.{Ready}
use Rattle.numbers.specs.CallEdge.{CallEdges}
use Rattle.characters.specs.Initial.{Initial}
use Rattle.characters.proofs.Theorems.{initial_five}
use Rattle.first_stages.proofs.given.GivenLaws.{given_call}
use Rattle.first_stages.proofs.PassedLaws.{with_edges_call}
use Rattle.first_stages.specs.Five.{listed_stored, behind, FivePasses}
use Rattle.numbers.specs.Call.{passes_by}
use Rattle.first_stages.specs.declared.chars.CharsAnswer.{CharsAnswer}
use Rattle.first_stages.specs.Stages.{CallPassed}
use Rattle.std.specs.Prelude.{Result, Ok, Err}

module _ (d : Bool) (line t : List ℕ) (h : Shape) (given : List ℕ) {n count : ℕ} (ready : Ready line t h n) (legal : check_listing true n given ≡ Ok count) (bytes : (j : ℕ) → get_or given j 0 < 256) (s : List ℕ) (r : CharsAnswer) (i : Initial d line t h (drop END s) r.count) where
  abbrev w : List ℕ
  w = chars line

  abbrev table : Table
  table = table_of t h

  abbrev first : List StoredEdge
  first = behind s r.count

  few_chars : length w ≤ 256
  few_chars = omega (arith, ready.few, ready.count)

  pub call_above : (u : List ℕ) (p : Place) → FivePasses w t s r.lattice r.count u (Err p) → CallPassed d line t h given u (Err p)
  unfolding FivePasses CallPassed
  call_above u p f = sym (initial_five d line t h (drop END s) r.count i).above ∙ f

  -- the edges of the characters, then the joined ones
  in_a_row : (es : List Edge) → add_all (add_all es (listed_stored w t first)) (listed_stored w t (added_by five first)) ≡ add_all es (passes_by d table w).edges
  in_a_row es =
      sym (add_all_append es (listed_stored w t first) (listed_stored w t (added_by five first))) ∙ ap (add_all es) (initial_five d line t h (drop END s) r.count i).edges

  given_edges_lem : CallEdges (length w) (listed given)
  given_edges_lem = rw ready.count (given_call n given bytes count legal)

  pub call_done : (u : List ℕ) (m : Lattice) (k : ℕ) → Holds s r.lattice (add_all (add_all [] (listed given)) (listed_stored w t first))
      → FivePasses w t s r.lattice r.count u (Ok (m, k)) → CallPassed d line t h given u (Ok (m, k))
  unfolding FivePasses CallPassed
  call_done u m k q f =
      let a = initial_five d line t h (drop END s) r.count i in
      let below = sym a.above ∙ f.below in
      let e = in_a_row (add_all [] (listed given)) in
      record {
        above = below;
        holds = subst (Holds u m) e (f.holds (add_all (add_all [] (listed given)) (listed_stored w t first)) q);
        call = with_edges_call d t table ready.checked w (chars_scalars line) few_chars below (listed given) given_edges_lem;
        fifth = ap (map (edge_of w t)) f.list ∙ a.fifth;
        sounds = f.sounds;
        few = f.few;
      }

  pub call_passed : (u : List ℕ) (x : Result (Lattice × ℕ) Place) → Holds s r.lattice (add_all (add_all [] (listed given)) (listed_stored w t first))
      → FivePasses w t s r.lattice r.count u x → CallPassed d line t h given u x
  call_passed u (Err p) q f = call_above u p f
  call_passed u (Ok (m, k)) q f = call_done u m k q f
