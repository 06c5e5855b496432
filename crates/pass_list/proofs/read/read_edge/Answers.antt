-- `read_edge` meets its contract: it reads the fields one by one. Assumes nothing.
use Rattle.pass_list.proofs.read.FieldLaws.{edge_read, stored_at-fits}
use Rattle.pass_list.proofs.read.read_edge.Goals as goal

pub returns : goal.returns
returns c =
    record {
      is = edge_read c.args.list.now c.args.at c.u16_at.ensures c.u16_at-2.ensures c.kind_at.ensures c.u64_at.ensures c.num_at.ensures;
      fits = stored_at-fits _ _ (λ j. (c.type_inv.list j).fits) c.requires.1;
    }
