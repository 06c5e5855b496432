-- `sheet::candidates::try_candidate` meets its contract: a candidate has a row where its text is a numeral of value at most TOP. Assumes nothing.
use Prim.Native.Nat.{ℕ}
use mathlib.Core.Path.{◌≡◌, ◌∙◌}
use Rattle.std.proofs.Common.{rules}
use Rattle.std.specs.Option.{option_map}
use Rattle.sheet.proofs.CodeLaws.{word_fits, word_taken, tried_put, tried_value}
use Rattle.sheet.proofs.candidates.try_candidate.Goals as goal

pub slice_bounds-value_within-end : goal.slice_bounds-value_within-end
slice_bounds-value_within-end c = word_fits c.args.index c.requires.0 c.put_word-len.ensures

pub slice_bounds-value_within-end-2 : goal.slice_bounds-value_within-end-2
slice_bounds-value_within-end-2 c = word_taken c.args.index c.requires.0 c.put_word-len.ensures

pub returns : goal.returns
returns c =
    let paired : c.map.result ≡ option_map (λ (v : ℕ). (c.put_word-len.result, v)) c.value_within.result = search rules in
    record {
      answer = paired ∙ tried_value c.args.index c.requires.0 c.put_word-len.ensures c.value_within.ensures;
      put = tried_put c.args.index c.requires.0 c.put_word-len.ensures;
    }
