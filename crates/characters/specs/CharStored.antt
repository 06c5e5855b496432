-- The stored edge of a character (01, "From characters to edges"): p is its record, which stands at the offset at of the table's bytes t. Definitions only.
--     number_if b n            the number n where b holds, else 0
--     char_stored t p at i c b the stored edge of the code point c at place i; b: a point without a record stands at its end, and counts (02, S-13)
-- proofs/CharLaws.antt shows that it stands for the definition's edge.
-- Assumes nothing.
use Rattle.std.specs.Prelude.{Bool, cond, ◌&&◌, ◌||◌, List, ℕ, ◌+◌, leb, eqb}
use Rattle.text.specs.Bytes.{same}
use Rattle.table.specs.Layout.{bit}
use Rattle.table.specs.Check.{is_digit_type}
use Rattle.fields.specs.Part.{part_of}
use Rattle.table.specs.declared.layout.NumProp.{NumProp}
use Rattle.passes.specs.Passes.{cjk}
use Rattle.pass_list.specs.StoredEdge.{StoredEdge}
use Rattle.pass_list.specs.declared.kind.Kind.TheVariants.{Character}

abbrev pub number_if : Bool → ℕ → ℕ
number_if b n = cond b n 0

-- the marks: type "digit" with a value 0 to 9; 零 or 〇; script cjk_bit
unfoldable pub char_stored : List ℕ → NumProp → ℕ → ℕ → ℕ → Bool → StoredEdge
char_stored t p at i c b = record {
  start = i;
  end = i + 1;
  kind = Character;
  record_offset = at;
  value = number_if (bit p.map 1) p.numbers.value;
  base = number_if (bit p.map 3) p.numbers.base;
  mult = number_if (bit p.map 4) p.numbers.mult;
  script_offset = p.script.at.0;
  script_len = p.script.len;
  has_value = bit p.map 1;
  has_base = bit p.map 3;
  has_mult = bit p.map 4;
  has_script = bit p.map 5;
  large_power = bit p.map 6;
  digit = is_digit_type (part_of t p.num_type) && bit p.map 1 && leb (number_if (bit p.map 1) p.numbers.value) 9;
  gap = eqb c 0x96F6 || eqb c 0x3007;
  cjk = bit p.map 5 && same (part_of t p.script) cjk;
  decimals = 0;
  point = b;
}
