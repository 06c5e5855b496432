use native.Mathlib.Omega.{arith}
use Rattle.fraction_choices.proofs.ChooseLaws.{chosen_start, chosen_more, chosen_ends}
use Rattle.fraction_choices.proofs.choose_all.Goals as goal

pub loop-p-init : goal.loop-p-init
loop-p-init c = chosen_start _ _ _ _ _ c.requires.3

pub choice_at-requires : goal.choice_at-requires
choice_at-requires c = let k = c.requires.0.count in let t = c.loop-p-test.true in ((c.args.places, c.requires.0), c.requires.1, c.requires.2, omega arith)

pub offset_bounds-choices-p : goal.offset_bounds-choices-p
offset_bounds-choices-p c = let f = c.requires.0.few in omega (arith, c.loop-p-test.true)

pub bounds-choices-p : goal.bounds-choices-p
bounds-choices-p c = let f = c.requires.0.few in omega (arith, c.loop-p-test.true)

pub loop-p-preserved : goal.loop-p-preserved
loop-p-preserved c = chosen_more c.loop-p.invariant c.loop-p-test.true c.requires.0.few c.choice_at.result c.choice_at.ensures

pub returns : goal.returns
returns c = chosen_ends c.loop-p.invariant c.loop-p-test.false
