-- The first stored edges and their edges (`specs/CharStage.antt`). No contract cites this file. Assumes nothing.
use mathlib.Core.Path.{◌≡◌, ap, ◌∙◌, subst}
use mathlib.Core.Bool.{Bool, ◌&&◌}
use mathlib.Core.List.{List}
use Prim.Native.Nat.{ℕ, ◌≤◌, ◌<◌}
use native.Mathlib.Omega.{arith}
use lib.ListN.{length, drop}
use Rattle.text.specs.Text.{chars}
use Rattle.fields.specs.Fields.{le_at}
use Rattle.table.specs.Table.{Record, find, is_none}
use Rattle.table.specs.Layout.{records_at}
use Rattle.table.specs.Answers.{table_of}
use Rattle.table.specs.declared.shape.Shape.{Shape}
use Rattle.passes.specs.DecimalPasses.{point_character}
use Rattle.pass_list.specs.StoredEdge.{StoredEdge}
use Rattle.pass_list.specs.Edges.{points_of}
use Rattle.pass_list.proofs.in_turn.EveryLaws.{every_map}
use Rattle.pass_list.specs.Kind.{kind_number}
use Rattle.lattice.specs.declared.Lattice.{Lattice}
use Rattle.lattice.specs.Kept.{END}
use Rattle.numbers.specs.Ready.{Ready}
use Rattle.characters.specs.Initial.{SoFar, points_count, Initial}
use Rattle.characters.proofs.InitialLaws.{said_same, said_initial}
use Rattle.first_stages.specs.Five.{behind, PassList}
use Rattle.first_stages.proofs.five_passes.RootLaws.{sounds_of}
use Rattle.first_stages.specs.declared.chars.CharsAnswer.{CharsAnswer}
use Rattle.first_stages.specs.CharStage.{Adding, FirstDone}

first_list_lem : (d : Bool) (line t : List ℕ) (h : Shape) (v : List ℕ) (n : ℕ) → length (chars line) ≤ 256 → Initial d line t h (drop END v) n → PassList (chars line) t 1 v n
first_list_lem d line t h v n few i =
    let f = i.few in
    record {
      sounds = record { marks = points_count d (table_of t h); each = sounds_of i.stored_edges.made i.small i.rooted };
      kinds = every_map (λ (x : StoredEdge). kind_number x.kind ≡ 0) (λ (x : StoredEdge). kind_number x.kind < 1) (λ x e. omega arith) (behind v n) i.stored_edges.kinds;
      few = omega arith;
    }

-- all characters were added, by the count that the table begins with, and points count as its records say
pub first_done : (d : Bool) (line t : List ℕ) (h : Shape) {n left : ℕ} → Ready line t h n → left ≡ le_at t 0 2 → (b : Bool) → b ≡ (d && is_none (find (records_at left t h.records) point_character))
    → (s : List ℕ) (l : Lattice) (u : List ℕ) (r : CharsAnswer) → Adding b line t (records_at left t h.records) (length (chars line)) s l u r → FirstDone d line t h s l u r
first_done d line t h {left = left} ready count b points s l u r a =
    let same : records_at left t h.records ≡ (table_of t h).records = said_same t h ready.checked count in
    let counts : b ≡ points_count d (table_of t h) = points ∙ ap (λ (rs : List Record). d && is_none (find rs point_character)) same in
    let so_far = subst (λ (x : Bool). SoFar (points_of x (chars line)) (chars line) t (records_at left t h.records) (length (chars line)) (drop END u) r.count) counts a.so_far in
    let i : Initial d line t h (drop END u) r.count = said_initial t h ready.checked count d line so_far in
    record { initial = i; list = first_list_lem d line t h u r.count (omega (arith, ready.few, ready.count)) i; holds = a.holds }
