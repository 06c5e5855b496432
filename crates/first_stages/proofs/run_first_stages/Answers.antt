-- `first_stages::run_first_stages` meets its contract: each stage gives the next what it asks for. Assumes nothing.
use mathlib.Core.List.{[]}
use native.Mathlib.Omega.{arith}
use Rattle.edge.specs.Layout.{listed}
use Rattle.lattice.specs.Lattice.{add_all}
use Rattle.lattice.specs.Kept.{Holds}
use Rattle.first_stages.proofs.StageLaws.{call_passed}
use Rattle.first_stages.proofs.run_first_stages.Goals as goal

pub add_all_given-given-requires : goal.add_all_given-given-requires
add_all_given-given-requires c = let p = c.requires.2 in (([], c.empty-none.ensures.1), (p.0, p.2))

pub initialize_num_edges-first-requires : goal.initialize_num_edges-first-requires
initialize_num_edges-first-requires c =
    let held : Holds c.add_all_given-given.new.work c.add_all_given-given.result (add_all [] (listed c.args.edges.now)) = c.add_all_given-given.ensures.1 [] c.empty-none.ensures.1 in
    ((_, held), c.requires.0, omega (arith, c.requires.1, c.empty-none.auto.work, c.add_all_given-given.auto.work), (c.requires.2.0, c.requires.2.1), c.requires.3)

pub five_passes-requires : goal.five_passes-requires
five_passes-requires c =
    let held : Holds c.add_all_given-given.new.work c.add_all_given-given.result (add_all [] (listed c.args.edges.now)) = c.add_all_given-given.ensures.1 [] c.empty-none.ensures.1 in
    ((_, c.initialize_num_edges-first.ensures.holds _ held), c.requires.0, omega (arith, c.requires.2.1.few, c.requires.2.1.count), omega (arith, c.requires.1, c.empty-none.auto.work, c.add_all_given-given.auto.work, c.initialize_num_edges-first.auto.work), c.initialize_num_edges-first.ensures.list)

pub returns : goal.returns
returns c =
    let held : Holds c.add_all_given-given.new.work c.add_all_given-given.result (add_all [] (listed c.args.edges.now)) = c.add_all_given-given.ensures.1 [] c.empty-none.ensures.1 in
    call_passed c.args.decimals c.args.line.now c.args.table.now c.args.shape c.args.edges.now c.requires.2.1 c.requires.2.2 (λ j. (c.type_inv.edges j).fits) c.initialize_num_edges-first.new.work c.initialize_num_edges-first.result c.initialize_num_edges-first.ensures.initial
    c.five_passes.new.work c.five_passes.result (c.initialize_num_edges-first.ensures.holds _ held) c.five_passes.ensures
