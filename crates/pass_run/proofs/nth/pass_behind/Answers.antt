-- `pass_run::nth::pass_behind` meets its contract: the part of the work space is lent to the pass, and comes back. Assumes nothing.
use Prim.Native.Nat.{◌-◌, ◌≤◌}
use native.Mathlib.Omega.{arith}
use lib.ListN.{length}
use borrow.Rule.Slice.PartMut.{take_put}
use Rattle.pass_run.proofs.nth.BehindLaws.{asked_behind, passed_behind}
use Rattle.pass_run.proofs.nth.pass_behind.Goals as goal

pub slice_bounds-run_pass-count : goal.slice_bounds-run_pass-count
slice_bounds-run_pass-count c = omega (arith, c.requires.0)

pub pass_of-requires : goal.pass_of-requires
pass_of-requires c = c.requires.2

pub run_pass-requires : goal.run_pass-requires
run_pass-requires c = asked_behind c.args.from c.args.work.now c.args.n c.requires.0 c.requires.1

pub returns : goal.returns
returns c =
    let from = c.args.from in
    let h : from ≤ length c.args.work.now = omega (arith, c.requires.0) in
    let z = passed_behind from c.args.work.now _ c.run_pass.new.list _ _ h c.run_pass.ensures in
    (take_put from (length c.args.work.now - from) c.args.work.now c.run_pass.new.list h, rw c.pass_of.ensures at z)
