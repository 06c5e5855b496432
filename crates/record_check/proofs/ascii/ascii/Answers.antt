-- `record_check::ascii::ascii` meets its contract: the three parts meet.
use mathlib.Core.Bool.{◌&&◌}
use native.Mathlib.Omega.{arith}
use Rattle.text.proofs.RowLaws.{and-true}
use Rattle.record_check.proofs.ascii.MaskLaws.{three_low}
use Rattle.record_check.proofs.ascii.ascii.Goals as goal

pub low_eight-requires : goal.low_eight-requires
low_eight-requires c =
    record {
      at_in_bounds = omega arith;
      bytes = c.requires.bytes;
    }

pub low_eight-requires-2 : goal.low_eight-requires-2
low_eight-requires-2 c =
    record {
      at_in_bounds = omega arith;
      bytes = c.requires.bytes;
    }

pub low_eight-requires-3 : goal.low_eight-requires-3
low_eight-requires-3 c =
    record {
      at_in_bounds = omega arith;
      bytes = c.requires.bytes;
    }

pub returns : goal.returns
returns c =
    λ e. (let two = and-true (c.low_eight.result && c.low_eight-2.result) c.low_eight-3.result e in
    let one = and-true c.low_eight.result c.low_eight-2.result two.0 in
    three_low _ _ _ c.requires.le_n.0 c.requires.le_n.1 (c.low_eight.ensures one.0) (c.low_eight-2.ensures one.1) (c.low_eight-3.ensures two.1))
