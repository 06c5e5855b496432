-- `numeral::plain::glyph_of` meets its contract: the bytes of each of the sixteen, and any other.
use Rattle.grammar.specs.Plain.{digit, ten, large, 零, 一, 二, 三, 四, 五, 六, 七, 八, 九, 十, 百, 千, 万, 億, 兆}
use mathlib.Core.Path.{◌≡◌}
use Rattle.grammar.proofs.Sixteen.{each}
use Rattle.numeral.specs.Walk.{number}
use Rattle.numeral.proofs.WalkLaws.{number_glyph, no_glyph}
use Rattle.numeral.proofs.plain.glyph_of.Goals as goal

pub returns-in-15309750 : goal.returns-in-15309750
returns-in-15309750 c = number_glyph (digit 零) _ c.in-15309750.is

pub returns-in-14989440 : goal.returns-in-14989440
returns-in-14989440 c = number_glyph (digit 一) _ c.in-14989440.is

pub returns-in-14989964 : goal.returns-in-14989964
returns-in-14989964 c = number_glyph (digit 二) _ c.in-14989964.is

pub returns-in-14989449 : goal.returns-in-14989449
returns-in-14989449 c = number_glyph (digit 三) _ c.in-14989449.is

pub returns-in-15047579 : goal.returns-in-15047579
returns-in-15047579 c = number_glyph (digit 四) _ c.in-15047579.is

pub returns-in-14989972 : goal.returns-in-14989972
returns-in-14989972 c = number_glyph (digit 五) _ c.in-14989972.is

pub returns-in-15041965 : goal.returns-in-15041965
returns-in-15041965 c = number_glyph (digit 六) _ c.in-15041965.is

pub returns-in-14989443 : goal.returns-in-14989443
returns-in-14989443 c = number_glyph (digit 七) _ c.in-14989443.is

pub returns-in-15041963 : goal.returns-in-15041963
returns-in-15041963 c = number_glyph (digit 八) _ c.in-15041963.is

pub returns-in-14989725 : goal.returns-in-14989725
returns-in-14989725 c = number_glyph (digit 九) _ c.in-14989725.is

pub returns-in-15043969 : goal.returns-in-15043969
returns-in-15043969 c = number_glyph (ten 十) _ c.in-15043969.is

pub returns-in-15178174 : goal.returns-in-15178174
returns-in-15178174 c = number_glyph (ten 百) _ c.in-15178174.is

pub returns-in-15043971 : goal.returns-in-15043971
returns-in-15043971 c = number_glyph (ten 千) _ c.in-15043971.is

pub returns-in-14989447 : goal.returns-in-14989447
returns-in-14989447 c = number_glyph (large 万) _ c.in-14989447.is

pub returns-in-15041668 : goal.returns-in-15041668
returns-in-15041668 c = number_glyph (large 億) _ c.in-15041668.is

pub returns-in-15041926 : goal.returns-in-15041926
returns-in-15041926 c = number_glyph (large 兆) _ c.in-15041926.is

pub returns-in_default : goal.returns-in_default
returns-in_default c =
    let n = c.in_default.in_default-own.rest in
    no_glyph _ (each (λ k. c.args.bytes ≡ number k → ⊥) (
      n.0.0.0.0.0.0.0.0.0.0.0.0.0.0.0.1,
      n.0.0.0.0.0.0.0.0.0.0.0.0.0.0.1,
      n.0.0.0.0.0.0.0.0.0.0.0.0.0.1,
      n.0.0.0.0.0.0.0.0.0.0.0.0.1,
      n.0.0.0.0.0.0.0.0.0.0.0.1,
      n.0.0.0.0.0.0.0.0.0.0.1,
      n.0.0.0.0.0.0.0.0.0.1,
      n.0.0.0.0.0.0.0.0.1,
      n.0.0.0.0.0.0.0.1,
      n.0.0.0.0.0.0.1,
      n.0.0.0.0.0.1,
      n.0.0.0.0.1,
      n.0.0.0.1,
      n.0.0.1,
      n.0.1,
      n.1,
    ))
