-- `text::lead_byte::row_of` meets its contract: each arm of the match is an interval of lead bytes, over which antt computes `row_of`.
use native.Mathlib.Omega.{arith}
use Rattle.text.specs.Table.{row_of}
use Rattle.text.proofs.RowLaws.{row_at}
use Rattle.text.proofs.lead_byte.row_of.Goals as goal

pub returns-in-224 : goal.returns-in-224
unfolding row_of
returns-in-224 c = row_at 0xE0 1 _ tt c.args.b (omega arith) (omega arith)

pub returns-in-237 : goal.returns-in-237
unfolding row_of
returns-in-237 c = row_at 0xED 1 _ tt c.args.b (omega arith) (omega arith)

pub returns-in-240 : goal.returns-in-240
unfolding row_of
returns-in-240 c = row_at 0xF0 1 _ tt c.args.b (omega arith) (omega arith)

pub returns-in-244 : goal.returns-in-244
unfolding row_of
returns-in-244 c = row_at 0xF4 1 _ tt c.args.b (omega arith) (omega arith)

pub returns-in-0-to-127 : goal.returns-in-0-to-127
unfolding row_of
returns-in-0-to-127 c = row_at 0 0x80 _ tt c.args.b (omega arith) (omega arith)

pub returns-in-194-to-223 : goal.returns-in-194-to-223
unfolding row_of
returns-in-194-to-223 c = row_at 0xC2 30 _ tt c.args.b (omega arith) (omega arith)

pub returns-in-225-to-236 : goal.returns-in-225-to-236
unfolding row_of
returns-in-225-to-236 c = row_at 0xE1 12 _ tt c.args.b (omega arith) (omega arith)

pub returns-in-238-to-239 : goal.returns-in-238-to-239
unfolding row_of
returns-in-238-to-239 c = row_at 0xEE 2 _ tt c.args.b (omega arith) (omega arith)

pub returns-in-241-to-243 : goal.returns-in-241-to-243
unfolding row_of
returns-in-241-to-243 c = row_at 0xF1 3 _ tt c.args.b (omega arith) (omega arith)

pub returns-in_default : goal.returns-in_default
unfolding row_of
returns-in_default c = row_at 0x80 66 _ tt c.args.b (omega arith) (omega arith)

pub returns-in_default-2 : goal.returns-in_default-2
unfolding row_of
returns-in_default-2 c = row_at 0xF5 11 _ tt c.args.b (omega arith) (omega arith)
