-- `whole::decimal::put_decimal` meets its contract: the text of n is as many digits of n as it has bytes. Assumes nothing.
use Rattle.std.proofs.Common.{◌≡◌, ℕ, ap, ◌∙◌}
use lib.Seq.{sets}
use Rattle.whole.specs.Decimal.{decimal, padded}
use Rattle.whole.proofs.DecimalLaws.{padded_decimal}
use Rattle.whole.proofs.decimal.put_decimal.Goals as goal

pub returns : goal.returns
returns c =
    let a = c.args in
    let text : padded c.decimal_len-len.result a.n ≡ decimal a.n = ap (λ (k : ℕ). padded k a.n) c.decimal_len-len.ensures ∙ padded_decimal a.n in
    record {
      next = rw c.decimal_len-len.ensures;
      written = c.put_padded.ensures ∙ ap (sets a.out.now a.at) text;
    }
