-- `lattice_add::add_edge` meets its contract: what is to be done is asked for, and done. Assumes nothing.
use Rattle.lattice_add.proofs.add_edge.Goals as goal

pub plan_add-plan-requires : goal.plan_add-plan-requires
plan_add-plan-requires c = c.requires

pub add_planned-requires : goal.add_planned-requires
add_planned-requires c =
    let q = c.requires.0 in
    let d = c.requires.1 in
    (q.0, d.0, record { holds = q.1; planned = c.plan_add-plan.ensures _ _ q.1 d.1; stands = λ b i. (_, d.1) })

pub returns : goal.returns
returns c = (c.add_planned.ensures.0, λ es e q d. c.add_planned.ensures.1 es e (record { holds = q; planned = c.plan_add-plan.ensures es e q d; stands = λ b i. (_, d) }))
