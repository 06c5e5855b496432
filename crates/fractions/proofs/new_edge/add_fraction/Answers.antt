-- `fractions::new_edge::add_fraction` meets its contract: the text is composed, the script copied, and the edge added. Assumes nothing.
use mathlib.Core.Path.{◌≡◌, subst, ◌∙◌}
use mathlib.Core.List.{List}
use Prim.Native.Nat.{ℕ}
use native.Mathlib.Omega.{arith}
use lib.ListN.{take, get_or}
use Rattle.edge.specs.Edge.{Edge}
use Rattle.lattice.specs.Lattice.{add}
use Rattle.lattice.specs.Kept.{no_edge, Holds}
use Rattle.fraction_choices.specs.Choice.{Two}
use Rattle.fractions.specs.NewParts.{HoldsCall, script_from, fraction_with}
use Rattle.fractions.specs.NewEdge.{fraction_of}
use Rattle.fractions.proofs.texts.TextLaws.{text_count}
use Rattle.fractions.proofs.new_edge.FractionLaws.{fraction_is}
use Rattle.lattice.proofs.HoldsLaws.{behind_same}
use Rattle.fractions.proofs.parts.EdgeLaws.{left_in, right_in, call_at, head_small, ScriptRead, script_read}
use Rattle.fractions.proofs.new_edge.add_fraction.Goals as goal

pub head_of-a-requires : goal.head_of-a-requires
head_of-a-requires c = let h = c.requires.0.1.1 in ((c.requires.0.0, (c.requires.0.1.0, h)), c.requires.1, left_in h c.requires.1 c.requires.0.1.2)

pub head_of-b-requires : goal.head_of-b-requires
head_of-b-requires c = let h = c.requires.0.1.1 in ((c.requires.0.0, (c.requires.0.1.0, h)), c.requires.1, right_in h c.requires.1 c.requires.0.1.2)

pub value_of-lv-requires : goal.value_of-lv-requires
value_of-lv-requires c = let h = c.requires.0.1.1 in ((c.requires.0.0, (c.requires.0.1.0, h, c.requires.0.1.2.left_value)), c.requires.1, left_in h c.requires.1 c.requires.0.1.2)

pub value_of-rv-requires : goal.value_of-rv-requires
value_of-rv-requires c = let h = c.requires.0.1.1 in ((c.requires.0.0, (c.requires.0.1.0, h, c.requires.0.1.2.right_value)), c.requires.1, right_in h c.requires.1 c.requires.0.1.2)

pub copy_script-s-requires : goal.copy_script-s-requires
copy_script-s-requires c =
    let script : (n : ℕ) (es : List Edge) → HoldsCall n c.args.work.now c.args.lattice es → Two es c.args.left c.args.right → ScriptRead c.args.work.now (get_or es c.args.right no_edge) c.head_of-b.result = λ n es h t. script_read (call_at h c.requires.1 _ (right_in h c.requires.1 t)) t.right_value (c.head_of-b.ensures _ _ h) in
    let r = (script _ _) c.requires.0.1.1 c.requires.0.1.2 in (r.inside, r.short)

pub lowest-q-requires : goal.lowest-q-requires
lowest-q-requires c = let v = c.value_of-lv.ensures _ _ c.requires.0.1.1 c.requires.0.1.2.left_value in omega (arith, c.requires.0.1.3)

pub slice_bounds-buf-end : goal.slice_bounds-buf-end
slice_bounds-buf-end c = c.put_fraction-n.ensures.room

pub slice_bounds-add_composed-end : goal.slice_bounds-add_composed-end
slice_bounds-add_composed-end c = text_count c.put_fraction-n.ensures

pub add_composed-requires : goal.add_composed-requires
add_composed-requires c =
    let h = c.requires.0.1.1 in
    let t = c.requires.0.1.2 in
    let y = text_count c.put_fraction-n.ensures in
    let z = c.put_fraction-n.ensures.short in (
      (c.requires.0.1.0, h.holds),
      (head_small h c.requires.1 _ (left_in h c.requires.1 t) (c.head_of-a.ensures _ _ h)).0,
      (head_small h c.requires.1 _ (right_in h c.requires.1 t) (c.head_of-b.ensures _ _ h)).1,
      omega arith,
      c.copy_script-s.ensures.1,
    )

pub shape_of-work : goal.shape_of-work
shape_of-work c = c.add_composed.auto.work

pub returns : goal.returns
returns c =
    let script : (n : ℕ) (es : List Edge) → HoldsCall n c.args.work.now c.args.lattice es → Two es c.args.left c.args.right → ScriptRead c.args.work.now (get_or es c.args.right no_edge) c.head_of-b.result = λ n es h t. script_read (call_at h c.requires.1 _ (right_in h c.requires.1 t)) t.right_value (c.head_of-b.ensures _ _ h) in
    let made : (n : ℕ) (es : List Edge) → HoldsCall n c.args.work.now c.args.lattice es → Two es c.args.left c.args.right → fraction_with c.head_of-a.result.start.0 c.head_of-b.result.end.0 (take c.put_fraction-n.result c.put_fraction-n.new.buf) (c.lowest-q.result.numerator, c.lowest-q.result.denominator) (script_from c.copy_script-s.new.buf c.copy_script-s.result) ≡ fraction_of es c.args.left c.args.right = λ n es h t.
    fraction_is _ _ (c.head_of-a.ensures _ _ h).start (c.head_of-b.ensures _ _ h).end (c.value_of-lv.ensures _ _ h t.left_value) (c.value_of-rv.ensures _ _ h t.right_value)
    c.put_fraction-n.ensures.is c.lowest-q.ensures (c.copy_script-s.ensures.0 ∙ ((script _ _) h t).is) in
    (behind_same c.args.work.now c.add_composed.new.work c.add_composed.ensures.0, λ n es h t. subst (λ (e : Edge). Holds c.add_composed.new.work c.add_composed.result (add es e)) ((made _ _) h t) (c.add_composed.ensures.1 es h.holds))
