-- `numeral::plain::glyph_at` meets its contract: the end, too few bytes for a character, or three bytes. Assumes nothing.
use native.Mathlib.Omega.{arith}
use Rattle.numeral.proofs.WalkLaws.{glyph_end, glyph_short, glyph_here}
use Rattle.numeral.proofs.plain.glyph_at.Goals as goal

pub returns-then-line-at : goal.returns-then-line-at
returns-then-line-at c = glyph_end _ _ c.if-line-at.true

pub returns-then-line-at-lt-SIZE : goal.returns-then-line-at-lt-SIZE
returns-then-line-at-lt-SIZE c = glyph_short _ _ c.if-line-at.false (omega (arith, c.if-line-at-lt-SIZE.true))

pub returns : goal.returns
returns c = glyph_here _ _ (omega (arith, c.if-line-at-lt-SIZE.false)) c.three.ensures c.glyph_of.ensures
