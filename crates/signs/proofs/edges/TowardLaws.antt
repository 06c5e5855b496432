-- Adding a list of edges to the lattice, some at a time: what a loop keeps. Assumes nothing.
--     Toward w₀ l₀ all w l rest   from the work space w₀ and its lattice l₀ on some of the edges all are added; with the rest it is what it shall be
use mathlib.Core.Path.{◌≡◌, refl, sym, ap, ◌∙◌}
use mathlib.Core.List.{List, [], ◌++◌}
use Prim.Native.Nat.{ℕ}
use lib.ListN.{length}
use Rattle.edge.specs.Edge.{Edge}
use Rattle.lattice.specs.declared.Lattice.{Lattice}
use Rattle.lattice.specs.Lattice.{add_all}
use Rattle.lattice.specs.Kept.{Holds, SameBehind}
use Rattle.lattice.proofs.HoldsLaws.{add_all_append}

pub record Toward (w₀ : List ℕ) (l₀ : Lattice) (all : List Edge) (w : List ℕ) (l : Lattice) (rest : List Edge) : Type 0 where
  pub long : length w ≡ length w₀
  pub frame : SameBehind w₀ w
  pub holds : (es : List Edge) → Holds w₀ l₀ es → (ds : List Edge) × Holds w l ds × (add_all ds rest ≡ add_all es all)

pub toward_start : (w : List ℕ) (l : Lattice) (all : List Edge) → Toward w l all w l all
toward_start w l all = record { long = refl; frame = refl; holds = λ es q. (es, q, refl) }

module _ {w₀ : List ℕ} {l₀ : Lattice} {all : List Edge} {w : List ℕ} {l : Lattice} {rest : List Edge} (t : Toward w₀ l₀ all w l rest) where
  -- the edges cs are added, more are left
  pub toward_next : (cs : List Edge) {more : List Edge} → rest ≡ cs ++ more → {v : List ℕ} {m : Lattice} → length v ≡ length w → SameBehind w v
      → ((es : List Edge) → Holds w l es → Holds v m (add_all es cs)) → Toward w₀ l₀ all v m more
  toward_next cs {more} e y f g = record {
    long = y ∙ t.long;
    frame = f ∙ t.frame;
    holds = λ es q. let d = t.holds es q in (add_all d.0 cs, g d.0 d.1, sym (add_all_append d.0 cs more) ∙ ap (add_all d.0) (sym e) ∙ d.2);
  }

  pub toward_end : [] ≡ rest → (es : List Edge) → Holds w₀ l₀ es → Holds w l (add_all es all)
  unfolding add_all
  toward_end e es q =
      let d = t.holds es q in
      let p : d.0 ≡ add_all es all = ap (add_all d.0) e ∙ d.2 in
      rw p at d.1
