-- `lattice_add::given::add_given` meets its contract: the bytes of the given edge are those of the edge that is read there, and a copy of them is added. Assumes nothing.
use Prim.Native.Nat.{◌+◌, ◌-◌}
use mathlib.Core.Path.{subst, ◌∙◌}
use native.Mathlib.Omega.{arith}
use Rattle.fields.specs.Part.{part}
use Rattle.fields.proofs.PartLaws.{length_part}
use Rattle.edge.specs.Edge.{Edge}
use Rattle.edge.specs.Layout.{edge_at}
use Rattle.lattice.specs.Kept.{Stands, AddingIs}
use Rattle.lattice_add.proofs.GivenLaws.{given_stands, given_size}
use Rattle.lattice_add.proofs.AddLaws.{Brought, copy_room, brought_copy, brought_nothing}
use Rattle.lattice_add.proofs.given.add_given.Goals as goal
use Rattle.lattice_add.proofs.given.add_given.Goals.{in-Into, in_default}

pub overflow_sub-to : goal.overflow_sub-to
overflow_sub-to c = omega (arith, given_size _ (λ j. (c.type_inv.given j).fits) _ _ c.requires.1 c.requires.2 c.requires.3)

pub overflow_sub-to-2 : goal.overflow_sub-to-2
overflow_sub-to-2 c = omega (arith, given_size _ (λ j. (c.type_inv.given j).fits) _ _ c.requires.1 c.requires.2 c.requires.3)

pub plan_add-plan-requires : goal.plan_add-plan-requires
plan_add-plan-requires c = (c.requires.0, (edge_at c.args.given.now c.args.at, given_stands _ (λ j. (c.type_inv.given j).fits) _ _ c.requires.1 c.requires.2 c.requires.3))

pub slice_bounds-copy_in-count : goal.slice_bounds-copy_in-count
slice_bounds-copy_in-count c = omega (arith, given_size _ (λ j. (c.type_inv.given j).fits) _ _ c.requires.1 c.requires.2 c.requires.3)

pub slice_bounds-copy_in-start : goal.slice_bounds-copy_in-start
slice_bounds-copy_in-start c = omega (arith, given_size _ (λ j. (c.type_inv.given j).fits) _ _ c.requires.1 c.requires.2 c.requires.3)

pub copy_in-requires : goal.copy_in-requires
unfolding part
copy_in-requires c =
    let E : Edge = edge_at c.args.given.now c.args.at in
    let size = given_size _ (λ j. (c.type_inv.given j).fits) _ _ c.requires.1 c.requires.2 c.requires.3 in
    let stands : Stands c.args.given.now c.args.at (c.args.to - c.args.at - 2) c.args.to E = given_stands _ (λ j. (c.type_inv.given j).fits) _ _ c.requires.1 c.requires.2 c.requires.3 in
    let l = length_part c.args.given.now c.args.at (c.args.to - c.args.at) (omega (arith, c.requires.3)) in
    let r = copy_room c.requires.0.1 E _ (subst (AddingIs c.args.lattice c.requires.0.0 E) c.in-Into.is (c.plan_add-plan.ensures _ E c.requires.0.1 stands)) stands in
    omega (arith, c.requires.0.1.room)

pub overflow_sub-to-3 : goal.overflow_sub-to-3
overflow_sub-to-3 c = omega (arith, given_size _ (λ j. (c.type_inv.given j).fits) _ _ c.requires.1 c.requires.2 c.requires.3)

pub add_planned-requires : goal.add_planned-requires
unfolding part
add_planned-requires c =
    let E : Edge = edge_at c.args.given.now c.args.at in
    let stands : Stands c.args.given.now c.args.at (c.args.to - c.args.at - 2) c.args.to E = given_stands _ (λ j. (c.type_inv.given j).fits) _ _ c.requires.1 c.requires.2 c.requires.3 in
    let plan = c.plan_add-plan.ensures _ E c.requires.0.1 stands in
    let made : Brought c.args.work.now c.match-plan.work c.args.lattice E c.plan_add-plan.result (c.args.lattice.len + (c.args.to - c.args.at)) =
    elim c.match-plan.branch [ in-Into w ↦ brought_copy c.requires.0.1 plan stands _ w.in-Into.is (w.work-is ∙ w.copy_in.ensures) | in_default w ↦ brought_nothing w.in_default.not-Into w.work-is ] in
    (c.requires.0.0, E, made.planned _ c.requires.0.1 plan)

pub returns : goal.returns
unfolding part
returns c =
    let E : Edge = edge_at c.args.given.now c.args.at in
    let stands : Stands c.args.given.now c.args.at (c.args.to - c.args.at - 2) c.args.to E = given_stands _ (λ j. (c.type_inv.given j).fits) _ _ c.requires.1 c.requires.2 c.requires.3 in
    let plan = c.plan_add-plan.ensures _ E c.requires.0.1 stands in
    let made : Brought c.args.work.now c.match-plan.work c.args.lattice E c.plan_add-plan.result (c.args.lattice.len + (c.args.to - c.args.at)) =
    elim c.match-plan.branch [ in-Into w ↦ brought_copy c.requires.0.1 plan stands _ w.in-Into.is (w.work-is ∙ w.copy_in.ensures) | in_default w ↦ brought_nothing w.in_default.not-Into w.work-is ] in
    (c.add_planned.ensures.0 ∙ made.frame, λ es q. c.add_planned.ensures.1 es E (made.planned es q (c.plan_add-plan.ensures es E q stands)))
