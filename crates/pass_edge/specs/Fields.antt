-- The fields that a stored edge is listed with. Definitions only.
--     stored_fraction t k at   the fraction of a stored edge of kind k whose record stands at an offset of the table, in lowest terms, where it has one
--     record_fraction p        the fraction of the record that a NumProp stands for, in lowest terms, where it has one
--     parts f                 what stands above and below the line of the code's fraction f, or 0 twice where there is none
--     FractionIs f o          the code's f is the fraction o, where there is one
--     Listable offs e         the places of e have offsets that rise, its value is a whole number up to TOP with at most 15 decimals, and its multiplier is no NaN
--     stored_map e f           the listing's map for the edge e; f: it has a fraction
--     divided k v             the value v divided by the power of ten, where there are decimals
--     stored_fields ..         the fields of e: orig_txt between two places of the line, the script in the table, D1's digits at the front of a buffer
-- Assumes nothing.
use Rattle.std.specs.Prelude.{◌≡◌, Bool, cond, not, List, ℕ, zero, suc, ◌+◌, ◌*◌, ◌-◌, ◌^◌, ◌≤◌, T, eqb, ltb, Float, get_or}
use Rattle.std.specs.Prelude as std
use Rattle.std.specs.Option.{is_some}
use Rattle.std.proofs.Math.Option
use Rattle.std.proofs.Math.Option.{Option, none}
use Rattle.std.specs.Float.{binary64}
use Rattle.std.specs.Float.Ieee.{div, is_nan}
use Rattle.whole.specs.Whole.{TOP, of_nat}
use Rattle.table.specs.Layout.{bit}
use Rattle.table.specs.Answers.{optionally}
use Rattle.table.specs.declared.layout.NumProp.{NumProp}
use Rattle.passes.specs.Characters.{lowest}
use Rattle.pass_list.specs.declared.record.PassEdge.{PassEdge}
use Rattle.pass_list.specs.Edges.{of_record}
use Rattle.pass_list.specs.Kind.{kind_number}
use Rattle.fields.specs.declared.Part.{Part}
use Rattle.edge.specs.declared.NumFields.{NumFields}
use Rattle.edge.specs.View.{no_part}
use Rattle.edge.specs.Write.{fields_of}
use Rattle.passes.specs.declared.ratio.Ratio.{Ratio}
use Rattle.text.specs.Line.{max_chars}
use Rattle.fields.specs.Flag.{flag}

-- as `edge_of` has it
unfoldable pub stored_fraction : List ℕ → ℕ → ℕ → Option (ℕ × ℕ)
stored_fraction t k at = cond (eqb k 0) (of_record t at (λ r. Option.map lowest r.fraction) none) none

abbrev pub record_fraction : NumProp → Option (ℕ × ℕ)
record_fraction p = Option.map lowest (optionally (bit p.map 2) (p.numbers.numerator, p.numbers.denominator))

abbrev pub parts : std.Option Ratio → ℕ × ℕ
parts std.None = (0, 0)
parts (std.Some r) = (r.numerator, r.denominator)

abbrev pub FractionIs : std.Option Ratio → Option (ℕ × ℕ) → Type 0
FractionIs f o = optionally (is_some f) (parts f) ≡ o

pub record Listable (offs : List ℕ) (e : PassEdge) : Type 0 where
  pub starts : e.start.0 ≤ max_chars
  pub ends : e.end.0 ≤ max_chars
  pub rises : get_or offs e.start.0 0 ≤ get_or offs e.end.0 0
  -- what the digits say without the point
  pub digits : ℕ
  pub value : e.num.value ≡ of_nat digits
  pub small : digits ≤ TOP
  pub few : e.num.decimals ≤ 15
  pub mult : T (not (is_nan e.num.base_multiplier))

-- numeric and active, 1 and 128, and a bit for each field that is there
abbrev pub stored_map : PassEdge → Bool → ℕ
stored_map e f =
    129 + 2 * flag e.num.has_value + 4 * flag f + 8 * flag e.num.has_base + 16 * flag e.num.has_mult + 32 * flag e.num.has_script
    + 64 * flag e.num.large_power + 256 * flag (eqb (kind_number e.kind) 1) + 512 * flag (ltb 0 e.num.decimals)

-- 02, S-13: "divided in f64 by the power of ten"
abbrev pub divided : ℕ → Float → Float
divided zero v = v
divided (suc k) v = div binary64 v (of_nat (10 ^ suc k))

-- a part that is there, or none
abbrev pub part_or : Bool → ℕ → ℕ → Part
part_or b at len = cond b (record { at = record { 0 = at }; len = len }) no_part

unfoldable pub stored_fields : List ℕ → PassEdge → std.Option Ratio → ℕ → NumFields
unfolding fields_of
stored_fields offs e f len = fields_of (record {
  map = stored_map e (is_some f);
  value = divided e.num.decimals e.num.value;
  numerator = (parts f).0;
  denominator = (parts f).1;
  base = e.num.base;
  base_multiplier = e.num.base_multiplier;
  orig = record { at = record { 0 = get_or offs e.start.0 0 }; len = get_or offs e.end.0 0 - get_or offs e.start.0 0 };
  script = part_or e.num.has_script e.num.script.0 e.num.script_len;
  value_s = part_or (eqb (kind_number e.kind) 1) 0 len;
  decimals = e.num.decimals;
})
