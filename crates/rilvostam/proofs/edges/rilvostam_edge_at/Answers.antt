-- `rilvostam::edges::rilvostam_edge_at` meets its contract, by whether a whole edge stands at the offset. Assumes nothing.
use mathlib.Core.Path.{sym, ap, ◌∙◌}
use Rattle.rilvostam.specs.EdgeNumbers.{edge_status, numbers_after, next_after}
use Rattle.rilvostam.proofs.edges.rilvostam_edge_at.Goals as goal

pub returns-in-Some : goal.returns-in-Some
returns-in-Some c =
    let e = sym c.in-Some.is ∙ c.whole_edge_at.ensures in
    record {
      status = ap edge_status e;
      numbers = c.numbers_of.ensures ∙ ap (numbers_after _) e;
      next = ap (next_after _) e;
    }

pub returns-in-None : goal.returns-in-None
returns-in-None c =
    let e = sym c.in-None.is ∙ c.whole_edge_at.ensures in
    record {
      status = ap edge_status e;
      numbers = ap (numbers_after _) e;
      next = ap (next_after _) e;
    }
