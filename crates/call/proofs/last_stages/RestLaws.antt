-- The stages after the passes are those of the definition (numbers/specs/Call.antt). Assumes nothing.
use mathlib.Core.Path.{◌≡◌, refl, sym, ap, subst}
use mathlib.Core.Bool.{Bool, true, false, ◌&&◌}
use mathlib.Core.List.{List, [], map}
use mathlib.Core.Option.{none}
use Prim.Native.Nat.{ℕ, suc}
use lib.Dec.{eqb}
use lib.ListN.{drop}
use Rattle.table.specs.Table.{Table}
use Rattle.edge.specs.Edge.{Edge}
use Rattle.pass_list.specs.Edges.{edge_of}
use Rattle.pass_list.specs.Stored.{stored_list_at}
use Rattle.lattice.specs.declared.Lattice.{Lattice}
use Rattle.lattice.specs.Lattice.{add_all}
use Rattle.lattice.specs.Kept.{Holds, END, SameBehind}
use Rattle.first_stages.specs.Bare.{bare}
use Rattle.first_stages.specs.Five.{behind}
use Rattle.first_stages.proofs.bare.BareLaws.{bare_above, bare_lattice, bare_decimal_above, bare_decimal_lattice}
use Rattle.numbers.specs.Signs.{signs}
use Rattle.numbers.specs.Call.{with_edges, after_passes, after_signs, lattice_by, decimal_lattice}
use Rattle.numbers.specs.Fallback.{fallback}
use Rattle.numbers.specs.CallEdge.{Legals, CallEdges}
use Rattle.numbers.specs.Separators.{separate}
use Rattle.numbers.proofs.stages.CallLaws.{inactive_legal, every_map_inactive}
use Rattle.separators.proofs.LegalLaws.{separate_legals}
use Rattle.passes.specs.NumEdge.{NumEdge}
use Rattle.pass_list.specs.StoredEdge.{StoredEdge, Every}
use Rattle.singles.specs.ByPlace.{barred_at, quiet_at}
use Rattle.singles.proofs.SinglePlaces.{Given}
use Rattle.singles.proofs.ByPlace.{stage_by_place}
use Rattle.call.specs.declared.stages.CallKind.{CallKind}
use Rattle.call.specs.declared.stages.CallKind.TheVariants.{First, WithoutSingles, WithDecimals}
use Rattle.call.specs.Kinds.{silences_singles, call_passes, call_lattice}
use Rattle.call.specs.Rest.{apart_by, rest_of}

pub rest_is : (k : CallKind) (t : Table) (w : List ℕ) (given : List Edge) → Every Given given
    → rest_of (silences_singles k) t w (call_passes k t w).fifth (with_edges (call_passes k t w) given) ≡ call_lattice k t w given
unfolding rest_of lattice_by decimal_lattice after_signs after_passes
rest_is First t w given g = refl
rest_is WithoutSingles t w given g = ap (λ (es : List Edge). add_all es (fallback es 0 w)) (sym (stage_by_place t w given g))
rest_is WithDecimals t w given g = refl

-- a bare line without given edges
module _ (t : Table) (w : List ℕ) (h : bare t.records w ≡ true) where
  pub bare_passes : (k : CallKind) → (call_passes k t w).above ≡ none
  bare_passes First = bare_above t w h
  bare_passes WithoutSingles = bare_above t w h
  bare_passes WithDecimals = bare_decimal_above t w h

  pub bare_finished : (k : CallKind) → call_lattice k t w [] ≡ []
  bare_finished First = bare_lattice t w h false
  bare_finished WithoutSingles = bare_lattice t w h true
  bare_finished WithDecimals = bare_decimal_lattice t w h

-- the list after G4 is read where a stage left it
pub signs_moved : (t : Table) (w b : List ℕ) (v u : List ℕ) (k : ℕ) → SameBehind u v → {x : List ℕ} {l : Lattice} (es : List Edge)
    → Holds x l (add_all es (signs t w (map (edge_of w b) (stored_list_at (drop END v) 0 k)))) → Holds x l (add_all es (signs t w (map (edge_of w b) (behind u k))))
signs_moved t w b v u k e {x} {l} es q = subst (λ (d : List ℕ). Holds x l (add_all es (signs t w (map (edge_of w b) (stored_list_at d 0 k))))) e q

-- the list is as it was
pub behind_same : (u v : List ℕ) (k : ℕ) → SameBehind u v → behind v k ≡ behind u k
behind_same u v k e = ap (λ (s : List ℕ). stored_list_at s 0 k) e

-- ---- F1, and singles that may not stand
module _ (w b : List ℕ) (u v : List ℕ) (k : ℕ) (e : SameBehind u v) {x : List ℕ} {l : Lattice} (es : List Edge) where
  pub apart_on : {silencing : Bool} → silencing ≡ true → Holds x l (map (quiet_at (map (edge_of w b) (behind v k))) (separate es)) → Holds x l (apart_by silencing (map (edge_of w b) (behind u k)) es)
  apart_on t q = rw t (subst (λ (fs : List StoredEdge). Holds x l (map (quiet_at (map (edge_of w b) fs)) (separate es))) (behind_same u v k e) q)

  pub apart_off : {silencing : Bool} → silencing ≡ false → Holds x l (separate es) → Holds x l (apart_by silencing (map (edge_of w b) (behind u k)) es)
  apart_off t q = rw t q

pub apart_legals : {n : ℕ} (silencing : Bool) (fs : List NumEdge) (es : List Edge) → CallEdges n es → Legals n (apart_by silencing fs es)
apart_legals true fs es c = every_map_inactive inactive_legal (λ (e : Edge). eqb e.end (suc e.start) && barred_at fs e.start) (separate es) (separate_legals es c)
apart_legals false fs es c = separate_legals es c
