-- `first_stages::five_passes::one_pass` meets its contract: the pass leaves the lattice as it is, and then the stored edges of its kind are added, where there are any. Assumes nothing.
use native.Mathlib.Omega.{arith}
use Rattle.std.proofs.lemmas.Result.{err_from_is_err_and}
use Rattle.text.proofs.TextLaws.{chars_scalars}
use Rattle.first_stages.proofs.five_passes.FrontLaws.{holds_front}
use Rattle.first_stages.proofs.five_passes.FiveLaws.{pass_small, pass_sounds, pass_few, one_above, one_added, one_kept}
use Rattle.first_stages.proofs.five_passes.one_pass.Goals as goal

pub pass_behind-requires : goal.pass_behind-requires
pass_behind-requires c = (omega (arith, c.requires.3, c.requires.4.few), pass_small (chars_scalars _) c.requires.5 c.requires.4, c.requires.5)

pub returns-in_err-k : goal.returns-in_err-k
returns-in_err-k c =
    let w = err_from_is_err_and c.from_residual.result c.from_residual.ensures.1 in
    rw (w.1, w.2) (one_above (chars_scalars _) c.requires.5 c.requires.4 c.pass_behind.new.work c.pass_behind.ensures.1 _ _ c.in_err-k.was)

pub returns-then-k-stored : goal.returns-then-k-stored
returns-then-k-stored c = one_kept (chars_scalars _) c.requires.5 c.requires.4 c.pass_behind.new.work c.pass_behind.ensures.1 c.in_ok-k.was c.args.lattice c.pass_behind.ensures.0 c.pass_behind.auto.work c.if-k-stored.true

pub add_of_kind-m-requires : goal.add_of_kind-m-requires
add_of_kind-m-requires c = (
  (_, holds_front c.args.work.now c.pass_behind.new.work c.pass_behind.ensures.0 c.pass_behind.auto.work c.requires.0.1),
  c.requires.1,
  c.requires.2,
  pass_sounds (chars_scalars _) c.requires.5 c.requires.4 c.pass_behind.new.work c.pass_behind.ensures.1 c.in_ok-k.was,
  omega (arith, pass_few (chars_scalars _) c.requires.5 c.requires.4 c.pass_behind.new.work c.pass_behind.ensures.1 c.in_ok-k.was, c.pass_behind.auto.work, c.requires.3),
  λ z. omega (arith, z),
)

pub returns : goal.returns
returns c = one_added (chars_scalars _) c.requires.5 c.requires.4 c.pass_behind.new.work c.pass_behind.ensures.1 c.in_ok-k.was c.args.lattice c.add_of_kind-m.new.work c.add_of_kind-m.result c.pass_behind.ensures.0 c.pass_behind.auto.work c.add_of_kind-m.ensures.0 c.add_of_kind-m.ensures.1
