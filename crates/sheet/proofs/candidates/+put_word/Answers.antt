use Prim.Native.Nat.{◌-◌, ◌/◌}
use native.Mathlib.Omega.{arith}
use Rattle.sheet.proofs.CodeLaws.{word_none, word_empty, word_put, word_size}
use Rattle.sheet.proofs.candidates.+put_word.Goals as goal

pub returns-then-most-eq0 : goal.returns-then-most-eq0
returns-then-most-eq0 t c = word_none _ _ _ c.if-most-eq0.true

pub returns-then-number-eq0 : goal.returns-then-number-eq0
returns-then-number-eq0 t c = word_empty _ _ _ c.if-number-eq0.true

pub put_char-requires : goal.put_char-requires
put_char-requires t c =
    let a = c.args in
    (omega (arith, c.put_word-at.ensures.next, word_size (a.most - 1) ((a.number - 1) / 16)), omega arith)

pub returns : goal.returns
returns t c =
    let a = c.args in
    word_put a.most a.number (omega arith) (omega arith) c.put_word-at.ensures c.put_char.ensures
