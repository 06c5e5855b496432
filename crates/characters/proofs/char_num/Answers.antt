-- `char_num` meets its contract: a field of the record is there where its bit of the map is 1.
use Rattle.characters.specs.CharStored.{char_stored}
use Rattle.characters.proofs.char_num.Goals as goal

pub exact_f64-requires : goal.exact_f64-requires
unfolding char_stored
exact_f64-requires c = rw c.number_if-value.ensures c.requires.1.value

pub exact_f64-requires-2 : goal.exact_f64-requires-2
unfolding char_stored
exact_f64-requires-2 c = rw c.number_if.ensures c.requires.1.mult

pub is_digit_type-requires : goal.is_digit_type-requires
is_digit_type-requires c = c.requires.0.type_within

pub is_cjk-requires : goal.is_cjk-requires
is_cjk-requires c = c.requires.0.script_within

pub returns : goal.returns
unfolding char_stored
returns c =
    rw (
      c.exact_f64.ensures,
      c.number_if-value.ensures,
      c.exact_f64-2.ensures,
      c.number_if.ensures,
      c.number_if-2.ensures,
      c.is_digit_type.ensures,
      c.is_cjk.ensures,
    )
