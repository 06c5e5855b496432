-- `numeral::read`: numeral, block and small meet their contracts, in one proof: each way out is a lemma of proofs/ReadLaws.antt.
use Rattle.std.proofs.Common.{not, refl, ap, ◌∙◌}
use Rattle.numeral.specs.Numeral.{in_numeral}
use Rattle.numeral.proofs.ReadLaws.{goes_on, numeral_digit, numeral_ten, numeral_large, small_digit, small_ten, small_large, small_other, small_end, small_stops, block_stops}
use Rattle.numeral.proofs.read.+block_numeral_small.Goals as goal

pub block-returns-then-not-fits : goal.block-returns-then-not-fits
block-returns-then-not-fits t c = let a = c.args in block_stops a.line.now a.at a.blocks a.value a.base c.fits.ensures (ap not c.if-not-fits.true)

pub numeral-returns-in-Digit : goal.numeral-returns-in-Digit
numeral-returns-in-Digit t c = let a = c.args in numeral_digit a.line.now a.at a.blocks c.glyph_at-glyph.ensures _ _ c.in-Digit.is _ c.first_atom.ensures c.small.ensures

pub numeral-returns-in-Ten : goal.numeral-returns-in-Ten
numeral-returns-in-Ten t c = let a = c.args in numeral_ten a.line.now a.at a.blocks c.glyph_at-glyph.ensures _ _ c.in-Ten.is _ c.first_atom-in-Ten.ensures c.small-in-Ten.ensures

pub numeral-returns-in-Large : goal.numeral-returns-in-Large
numeral-returns-in-Large t c = let a = c.args in numeral_large a.line.now a.at a.blocks c.glyph_at-glyph.ensures _ _ c.in-Large.is c.block.ensures

pub numeral-returns-in-Other : goal.numeral-returns-in-Other
numeral-returns-in-Other t c = let a = c.args in goes_on a.line.now a.at (in_numeral a.blocks) c.glyph_at-glyph.ensures c.in-Other.is

pub numeral-returns-in-End : goal.numeral-returns-in-End
numeral-returns-in-End t c = let a = c.args in c.ended.ensures ∙ goes_on a.line.now a.at (in_numeral a.blocks) c.glyph_at-glyph.ensures c.in-End.is

pub small-returns-then-not-stands : goal.small-returns-then-not-stands
small-returns-then-not-stands t c = let a = c.args in small_stops a.line.now a.at a.blocks a.atoms c.stands.ensures (ap not c.if-not-stands.true)

pub small-returns-in-Digit : goal.small-returns-in-Digit
small-returns-in-Digit t c =
    let a = c.args in
    small_digit a.line.now a.at a.blocks c.glyph_at-glyph.ensures _ a.atoms c.stands.ensures (ap not c.if-not-stands.false) _ c.in-Digit.is _ c.with_digit.ensures c.small.ensures

pub small-returns-in-Ten : goal.small-returns-in-Ten
small-returns-in-Ten t c =
    let a = c.args in
    small_ten a.line.now a.at a.blocks c.glyph_at-glyph.ensures _ a.atoms c.stands.ensures (ap not c.if-not-stands.false) _ c.in-Ten.is _ c.with_ten.ensures c.small-in-Ten.ensures

pub small-returns-in-Large : goal.small-returns-in-Large
small-returns-in-Large t c =
    let a = c.args in
    small_large a.line.now a.at a.blocks c.glyph_at-glyph.ensures _ a.atoms c.stands.ensures (ap not c.if-not-stands.false) _ c.in-Large.is _ _ c.total.ensures c.times.ensures c.block.ensures

pub small-returns-in-Other : goal.small-returns-in-Other
small-returns-in-Other t c =
    let a = c.args in
    small_other a.line.now a.at a.blocks c.glyph_at-glyph.ensures _ a.atoms c.stands.ensures (ap not c.if-not-stands.false) c.in-Other.is refl

pub small-returns-in-End : goal.small-returns-in-End
small-returns-in-End t c =
    let a = c.args in
    small_end a.line.now a.at a.blocks c.glyph_at-glyph.ensures _ a.atoms c.stands.ensures (ap not c.if-not-stands.false) c.in-End.is c.ended_small.ensures
