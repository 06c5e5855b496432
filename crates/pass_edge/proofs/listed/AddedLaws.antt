-- A stored edge with its texts is added: what the crates above say of it by `add_texts`. Assumes nothing.
use mathlib.Core.List.{List}
use Prim.Native.Nat.{ℕ}
use Rattle.text.specs.Text.{chars}
use Rattle.table.specs.Table.{Text}
use Rattle.pass_list.specs.declared.record.PassEdge.{PassEdge}
use Rattle.pass_list.specs.StoredEdge.{StoredEdge}
use Rattle.edge.specs.Edge.{Edge}
use Rattle.lattice.specs.Lattice.{add}
use Rattle.lattice.specs.declared.Lattice.{Lattice}
use Rattle.lattice.specs.Kept.{Holds, SameBehind}
use Rattle.pass_edge.specs.Grounded.{StoredIs}
use Rattle.pass_edge.specs.Texts.{TextsAre}
use Rattle.pass_edge.specs.Adding.{listed_of, Addable, Added}

module _ {line t : List ℕ} {e : PassEdge} {ty tx : Text} (are : (x : StoredEdge) → StoredIs line t e x → TextsAre line t e ty tx x) where
  pub texts_there : {s : List ℕ} {l : Lattice} {offs : List ℕ} → Addable s l line offs t e → (x : StoredEdge) × TextsAre line t e ty tx x
  texts_there a = (a.stored_edge.0, are a.stored_edge.0 a.stored_edge.1)

  pub texts_added : {s u : List ℕ} {l r : Lattice}
      → SameBehind s u × ((es : List Edge) (x : StoredEdge) → Holds s l es → TextsAre line t e ty tx x → Holds u r (add es (listed_of (chars line) t x)))
      → Added line t e s l u r
  texts_added h = record { frame = h.0; holds = λ es x q is. h.1 es x q (are x is) }
