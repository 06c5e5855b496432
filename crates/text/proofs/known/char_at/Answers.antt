-- `text::known::char_at` meets its contract: a character stands there, so comparisons of the lead byte tell its length, and the bytes behind it are there. Assumes nothing.
use mathlib.Core.Path.{refl}
use native.Mathlib.Omega.{arith}
use Rattle.text.proofs.known.KnownLaws.{inside, bytes_inside, bytes_char, one_at, two_at, three_at, four_at}
use Rattle.text.proofs.known.char_at.Goals as goal

pub bounds-s-at : goal.bounds-s-at
bounds-s-at c = inside c.requires

pub returns-then-b-lt128 : goal.returns-then-b-lt128
returns-then-b-lt128 c = bytes_char c.requires (one_at c.requires refl c.widen-lead.ensures c.if-b-lt128.true) refl

pub of_two-requires : goal.of_two-requires
of_two-requires c = (bytes_inside c.requires (two_at c.requires refl c.widen-lead.ensures c.if-b-lt128.false c.if-b-lt224.true), omega arith)

pub returns-then-b-lt224 : goal.returns-then-b-lt224
returns-then-b-lt224 c = bytes_char c.requires (two_at c.requires refl c.widen-lead.ensures c.if-b-lt128.false c.if-b-lt224.true) c.of_two.ensures

pub of_three-requires : goal.of_three-requires
of_three-requires c = (bytes_inside c.requires (three_at c.requires refl c.widen-lead.ensures c.if-b-lt224.false c.if-b-lt240.true), omega arith)

pub returns-then-b-lt240 : goal.returns-then-b-lt240
returns-then-b-lt240 c = bytes_char c.requires (three_at c.requires refl c.widen-lead.ensures c.if-b-lt224.false c.if-b-lt240.true) c.of_three.ensures

pub of_four-requires : goal.of_four-requires
of_four-requires c = (bytes_inside c.requires (four_at c.requires refl c.widen-lead.ensures c.if-b-lt240.false), omega arith)

pub returns : goal.returns
returns c = bytes_char c.requires (four_at c.requires refl c.widen-lead.ensures c.if-b-lt240.false) c.of_four.ensures
