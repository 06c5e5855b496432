-- `text::sequence::common_len` meets its contract: a length is answered where the bytes were tested.
use native.Mathlib.Omega.{arith}
use Rattle.text.proofs.SequenceLaws.{common_one, common_three}
use Rattle.text.proofs.sequence.common_len.Goals as goal

pub returns-then-b-lt128 : goal.returns-then-b-lt128
returns-then-b-lt128 c = let a = c.args in common_one a.s.now a.at (omega (arith, c.if-s-at.false)) c.if-b-lt128.true

pub returns-then-between : goal.returns-then-between
returns-then-between c =
    let a = c.args in
    common_three a.s.now a.at (omega (arith, c.if-s-at-lt3.false)) c.between.ensures c.between-2.ensures c.between-3.ensures c.if-between.true
