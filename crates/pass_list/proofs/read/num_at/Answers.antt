-- `num_at` meets its contract: it reads the fields one by one. Assumes nothing.
use Rattle.pass_list.proofs.read.FieldLaws.{num_read, small_at}
use Rattle.pass_list.proofs.read.num_at.Goals as goal

pub exact_f64-requires : goal.exact_f64-requires
exact_f64-requires c = rw c.u64_at.ensures (small_at c.args.list.now c.args.at c.requires.1).value

pub exact_f64-requires-2 : goal.exact_f64-requires-2
exact_f64-requires-2 c = rw c.u64_at-2.ensures (small_at c.args.list.now c.args.at c.requires.1).mult

pub returns : goal.returns
returns c = num_read c.args.list.now c.args.at c.u16_at-map.ensures c.u64_at.ensures c.exact_f64.ensures c.u64_at-2.ensures c.exact_f64-2.ensures c.u64_at-3.ensures c.u64_at-4.ensures c.u64_at-5.ensures
