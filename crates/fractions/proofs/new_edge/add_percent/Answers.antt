-- `fractions::new_edge::add_percent` meets its contract: the text is composed, and the edge added. Assumes nothing.
use mathlib.Core.Path.{◌≡◌, ap, subst, ◌∙◌}
use mathlib.Core.List.{List, [], ◌∷◌, ◌++◌}
use Prim.Native.Nat.{ℕ}
use native.Mathlib.Omega.{arith}
use lib.ListN.{take}
use Rattle.whole.specs.Decimal.{decimal}
use Rattle.edge.specs.Edge.{Edge}
use Rattle.edge.specs.Write.{regular}
use Rattle.lattice.specs.Lattice.{add}
use Rattle.lattice.specs.Kept.{Holds}
use Rattle.numbers.specs.Fractions.{percentage_type}
use Rattle.fraction_choices.specs.Choice.{Two}
use Rattle.fractions.specs.NewParts.{HoldsCall}
use Rattle.fractions.specs.NewEdge.{percent_of}
use Rattle.fractions.proofs.texts.TextLaws.{text_count}
use Rattle.fractions.proofs.parts.WriteLaws.{regular_is}
use Rattle.lattice.proofs.HoldsLaws.{behind_same}
use Rattle.fractions.proofs.parts.EdgeLaws.{left_in, right_in, head_small}
use Rattle.fractions.proofs.new_edge.add_percent.Goals as goal

pub head_of-a-requires : goal.head_of-a-requires
head_of-a-requires c = let h = c.requires.0.1.1 in ((c.requires.0.0, (c.requires.0.1.0, h)), c.requires.1, left_in h c.requires.1 c.requires.0.1.2)

pub head_of-b-requires : goal.head_of-b-requires
head_of-b-requires c = let h = c.requires.0.1.1 in ((c.requires.0.0, (c.requires.0.1.0, h)), c.requires.1, right_in h c.requires.1 c.requires.0.1.2)

pub value_of-v-requires : goal.value_of-v-requires
value_of-v-requires c = let h = c.requires.0.1.1 in ((c.requires.0.0, (c.requires.0.1.0, h, c.requires.0.1.2.right_value)), c.requires.1, right_in h c.requires.1 c.requires.0.1.2)

pub slice_bounds-add_regular-end-2 : goal.slice_bounds-add_regular-end-2
slice_bounds-add_regular-end-2 c = text_count c.put_percent-n.ensures

pub add_regular-requires : goal.add_regular-requires
add_regular-requires c =
    let h = c.requires.0.1.1 in
    let t = c.requires.0.1.2 in
    let y = text_count c.put_percent-n.ensures in
    let z = c.put_percent-n.ensures.short in (
      (c.requires.0.1.0, h.holds),
      (head_small h c.requires.1 _ (left_in h c.requires.1 t) (c.head_of-a.ensures _ _ h)).0,
      (head_small h c.requires.1 _ (right_in h c.requires.1 t) (c.head_of-b.ensures _ _ h)).1,
      omega arith,
    )

pub shape_of-work : goal.shape_of-work
shape_of-work c = c.add_regular.auto.work

pub returns : goal.returns
returns c =
    let made : (n : ℕ) (es : List Edge) → HoldsCall n c.args.work.now c.args.lattice es → Two es c.args.left c.args.right → regular c.head_of-a.result.start.0 c.head_of-b.result.end.0 percentage_type (take c.put_percent-n.result c.put_percent-n.new.buf) ≡ percent_of es c.args.left c.args.right = λ n es h t.
    regular_is percentage_type (c.head_of-a.ensures _ _ h).start (c.head_of-b.ensures _ _ h).end
    (c.put_percent-n.ensures.is ∙ ap (λ (v : ℕ). decimal v ++ (37 ∷ [])) (c.value_of-v.ensures _ _ h t.right_value)) in
    (behind_same c.args.work.now c.add_regular.new.work c.add_regular.ensures.0, λ n es h t. subst (λ (e : Edge). Holds c.add_regular.new.work c.add_regular.result (add es e)) ((made _ _) h t) (c.add_regular.ensures.1 es h.holds))
