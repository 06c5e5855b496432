-- `fraction_choices::choose` meets its contract: the tables keep the neighbours. Assumes nothing.
use mathlib.Core.List.{List}
use Rattle.edge.specs.Edge.{Edge}
use Rattle.fraction_choices.specs.Around.{HoldsLine, HoldsNeighbors}
use Rattle.fraction_choices.proofs.choose.Goals as goal

pub choose_all-requires : goal.choose_all-requires
choose_all-requires c =
    let around : (es : List Edge) → HoldsLine c.args.work.now c.args.lattice es → HoldsNeighbors c.args.work.now c.args.lattice c.neighbors.new.table c.neighbors-2.new.table es = λ es k. record { keeps = k; left = c.neighbors.ensures _ k; right = c.neighbors-2.ensures _ k } in
    (c.requires.0, c.requires.1, (c.requires.2.0, (around _) c.requires.2.1), c.requires.3)

pub returns : goal.returns
returns c =
    let around : (es : List Edge) → HoldsLine c.args.work.now c.args.lattice es → HoldsNeighbors c.args.work.now c.args.lattice c.neighbors.new.table c.neighbors-2.new.table es = λ es k. record { keeps = k; left = c.neighbors.ensures _ k; right = c.neighbors-2.ensures _ k } in
    λ es k. c.choose_all.ensures es ((around _) k)
