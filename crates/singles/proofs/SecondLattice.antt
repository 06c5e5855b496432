-- 02, S-12: "The first call stays as it is; the second equals it but for the active bits of those edges", of the lattices. `proofs/ByPlace.antt` says which edges
-- those are, `proofs/SecondCall.antt` says it of the answers.
use mathlib.Core.Path.{◌≡◌, refl, sym, ap, ◌∙◌}
use mathlib.Core.Bool.{true}
use mathlib.Core.List.{List, map}
use Prim.Native.Nat.{ℕ}
use lib.ListN.{get_or, get_or-map}
use Rattle.table.specs.Table.{Table}
use Rattle.edge.specs.Edge.{Edge}
use Rattle.lattice.specs.Lattice.{add_all}
use Rattle.lattice.specs.Kept.{no_edge}
use Rattle.numbers.specs.Separators.{separate}
use Rattle.numbers.specs.Fallback.{fallback}
use Rattle.numbers.specs.Call.{after_signs, lattice_by, lattice_of}
use Rattle.numbers.specs.Singles.{silenced, silence, without_singles}
use Rattle.singles.proofs.SilenceLaws.{silence_regular, add_all_silenced, fallback_silenced, fallback_regular}

-- the edges that lose their active bit
abbrev pub those : Table → List ℕ → List Edge → List Edge
those t w given = silenced t w (after_signs t w given)

-- the first call's edges in the same order, those inactive
pub second_lattice : (t : Table) (w : List ℕ) (given : List Edge) → lattice_by true t w given ≡ map (silence (those t w given)) (lattice_of t w given)
unfolding lattice_by without_singles
second_lattice t w given =
    let ds = those t w given in
    let es = separate (after_signs t w given) in
    ap (add_all (map (silence ds) es)) (fallback_silenced ds es 0 w) ∙ add_all_silenced ds es (fallback es 0 w) (fallback_regular es 0 w)

-- edge by edge
pub second_at : (t : Table) (w : List ℕ) (given : List Edge) (i : ℕ) → get_or (lattice_by true t w given) i no_edge ≡ silence (those t w given) (get_or (lattice_of t w given) i no_edge)
second_at t w given i =
    let ds = those t w given in
    ap (λ (es : List Edge). get_or es i no_edge) (second_lattice t w given)
    ∙ ap (get_or (map (silence ds) (lattice_of t w given)) i) (sym (silence_regular ds no_edge refl))
    ∙ get_or-map (silence ds) (lattice_of t w given) i no_edge
