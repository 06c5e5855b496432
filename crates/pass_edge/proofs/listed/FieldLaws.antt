-- Laws of a stored edge's fields. In order: the fraction; a numeric edge by its map and its fields; the stored edge's map; its fields; what can be written.
use mathlib.Core.Path.{◌≡◌, refl, sym, ap, ◌∙◌, subst}
use mathlib.Core.Bool.{Bool, true, false, cond, not}
use mathlib.Core.List.{List}
use Rattle.std.specs.Prelude as std
use Rattle.std.specs.Option.{is_some}
use mathlib.Core.Option
use mathlib.Core.Option.{Option, none, some, some-injective, some-ne-none}
use Prim.Native.Nat.{ℕ, zero, suc, ◌+◌, ◌*◌, ◌-◌, ◌≤◌, ◌<◌}
use native.Mathlib.Omega.{arith}
use lib.ListN.{length, get_or}
use lib.Dec.{T, eqb, ltb}
use lib.Ieee.{Float, binary64, to_bits, is_nan}
use borrow.Author.Tests.{eq-eqb, ne_eqb, eqb-true, lt-ltb}
use Rattle.whole.specs.Whole.{TOP, of_nat}
use Rattle.whole.proofs.WholeLaws.{of_nat-not_nan}
use Rattle.decimals.specs.Quotient.{quotient}
use Rattle.decimals.proofs.QuotientLaws.{quotient_not_nan}
use Rattle.fields.specs.Part.{part, part_of}
use Rattle.fields.proofs.PartLaws.{part_all}
use Rattle.fields.specs.Flag.{there, flag}
use Rattle.fields.proofs.FlagLaws.{flag_le, flag_stands}
use Rattle.text.specs.Text.{chars}
use Rattle.table.specs.Answers.{optionally}
use Rattle.pass_list.specs.declared.record.PassEdge.{PassEdge}
use Rattle.pass_list.specs.StoredEdge.{StoredEdge, pass_edge}
use Rattle.pass_list.specs.Edges.{between, row_text, edge_of, txt_of}
use Rattle.pass_list.specs.Kind.{kind_number}
use Rattle.numbers.specs.Ready.{Offsets}
use Rattle.edge.specs.declared.NumFields.{NumFields}
use Rattle.edge.specs.Edge.{Text, Numeric, f64_bits, numeric_map}
use Rattle.edge.specs.Layout.{bit, only}
use Rattle.edge.specs.View.{numeric_of}
use Rattle.edge.specs.Write.{numeric, fields_of, Writable}
use Rattle.edge.proofs.theorems.ReadBackLaws.{Bits, map_bits}
use Rattle.passes.specs.NumEdge.{NumEdge}
use Rattle.numbers.specs.Listed.{listed_with, listed_edge, quotient_bits, listed_by, listed_decimal}
use Rattle.passes.specs.declared.ratio.Ratio.{Ratio}
use Rattle.pass_edge.specs.Grounded.{LegalAt, Grounded, StoredIs}
use Rattle.pass_edge.specs.Texts.{char_type, type_of, TextsAre}
use Rattle.pass_edge.specs.Fields.{stored_fraction, parts, FractionIs, stored_map, divided, part_or, stored_fields, Listable}
use Rattle.pass_edge.specs.Adding.{listed_of}
use Rattle.pass_edge.proofs.TextLaws.{part_places, spans, Spans, between_short, txt_short, type_short, places_of, value_is, decimals_are}

-- ---- the fraction
pub fraction_joined : (t : List ℕ) (k at : ℕ) → (k ≡ 0 → ⊥) → none ≡ stored_fraction t k at
unfolding stored_fraction
fraction_joined t k at h = rw (ne_eqb k 0 h)

-- ---- a numeric edge by its map and its fields
only_there : {A : Type 0} (o : Option A) (v : A) (k : ℕ) → k ≡ there o → ((a : A) → o ≡ some a → v ≡ a) → only (eqb k 1) v ≡ o
only_there none v k e h = rw e
only_there (some a) v k e h = rw e (ap some (h a refl))

pub record FieldsAre (o c v : List ℕ) (d : NumFields) (n : Numeric) : Type 0 where
  pub map : d.map ≡ numeric_map n
  pub orig : part_of o d.orig ≡ n.orig
  pub value : (a : ℕ) → n.value ≡ some a → d.value ≡ a
  pub fraction : (a : ℕ × ℕ) → n.fraction ≡ some a → (d.numerator, d.denominator) ≡ a
  pub base : (a : ℕ) → n.base ≡ some a → d.base ≡ a
  pub mult : (a : ℕ) → n.mult ≡ some a → d.base_multiplier ≡ a
  pub script : (a : Text) → n.script ≡ some a → part_of c d.script ≡ a
  pub value_s : (a : Text) → n.value_s ≡ some a → part_of v d.value_s ≡ a
  pub decimals : (a : ℕ) → n.decimals ≡ some a → d.decimals ≡ a

bits_of : (d : NumFields) (n : Numeric) → d.map ≡ numeric_map n → Bits n d.map
bits_of d n e = subst (Bits n) (sym e) (map_bits n)

pub numeric_is : (o c v : List ℕ) (d : NumFields) (n : Numeric) → FieldsAre o c v d n → numeric_of o c v d ≡ n
unfolding numeric_of
numeric_is o c v d n f =
    let b = bits_of d n f.map in
    rw (
      f.orig,
      only_there n.value d.value (bit 1 d.map) b.value f.value,
      only_there n.fraction (d.numerator, d.denominator) (bit 2 d.map) b.fraction f.fraction,
      only_there n.base d.base (bit 3 d.map) b.base f.base,
      only_there n.mult d.base_multiplier (bit 4 d.map) b.mult f.mult,
      only_there n.script (part_of c d.script) (bit 5 d.map) b.script f.script,
      ap (λ (k : ℕ). eqb k 1) b.large ∙ flag_stands n.large,
      ap (λ (k : ℕ). eqb k 1) b.active ∙ flag_stands n.active,
      only_there n.value_s (part_of v d.value_s) (bit 8 d.map) b.value_s f.value_s,
      only_there n.decimals d.decimals (bit 9 d.map) b.decimals f.decimals,
    )

-- ---- the value that is listed
pub divided_is : (k n : ℕ) {v : Float} → v ≡ of_nat n → (k ≡ 0 → ⊥) → quotient n k ≡ divided k v
unfolding quotient
divided_is zero n e h = absurd (h refl)
divided_is (suc k) n e h = rw e

divided_not_nan : (k n : ℕ) → n ≤ TOP → k ≤ 15 → T (not (is_nan (divided k (of_nat n))))
divided_not_nan zero n h j = of_nat-not_nan h
divided_not_nan (suc k) n h j = rw (← (divided_is (suc k) n refl (λ e. omega arith))) (quotient_not_nan n (suc k) h j)

pub listed_not_nan : {offs : List ℕ} {e : PassEdge} {r : Float} → Listable offs e → r ≡ divided e.num.decimals e.num.value → T (not (is_nan r))
listed_not_nan {e = e} l is = rw (is, l.value) (divided_not_nan e.num.decimals l.digits l.small l.few)

-- ---- what a stored edge is listed as
-- the bits of the value n with k decimals, and the count
abbrev pub value_bits : ℕ → ℕ → ℕ
value_bits zero n = f64_bits n
value_bits (suc k) n = quotient_bits (suc k) n

abbrev pub count_of : ℕ → Option ℕ
count_of zero = none
count_of (suc k) = some (suc k)

unfoldable pub numeric_in : List ℕ → List ℕ → StoredEdge → Numeric
numeric_in w t x = record {
  orig = between w x.start x.end;
  value = Option.map (value_bits x.decimals) (optionally x.has_value x.value);
  fraction = stored_fraction t (kind_number x.kind) x.record_offset;
  base = optionally x.has_base x.base;
  mult = Option.map f64_bits (optionally x.has_mult x.mult);
  script = optionally x.has_script (part t x.script_offset x.script_len);
  large = x.large_power;
  active = true;
  value_s = cond (eqb (kind_number x.kind) 1) (some (row_text x)) none;
  decimals = count_of x.decimals;
}

listed_by_lem : (k : ℕ) (e : NumEdge) → listed_by k e ≡ listed_with (Option.map (value_bits k) e.value) (count_of k) e
unfolding listed_edge
listed_by_lem zero e = refl
listed_by_lem (suc k) e = refl

pub listed_is : (w t : List ℕ) (x : StoredEdge) → listed_of w t x ≡ record { start = x.start; end = x.end; type = type_of t x; txt = txt_of w t x; num = some (numeric_in w t x) }
unfolding listed_decimal edge_of numeric_in type_of char_type stored_fraction
listed_is w t x = listed_by_lem x.decimals (edge_of w t x)

-- ---- the stored edge's map
-- it is the sum of what the fields that are there are worth
pub map_summed : (e : PassEdge) (f : Bool) {v r b m s l d c : ℕ} → v ≡ 2 * flag e.num.has_value → r ≡ 4 * flag f → b ≡ 8 * flag e.num.has_base → m ≡ 16 * flag e.num.has_mult
    → s ≡ 32 * flag e.num.has_script → l ≡ 64 * flag e.num.large_power → d ≡ 256 * flag (eqb (kind_number e.kind) 1)
    → c ≡ 512 * flag (ltb 0 e.num.decimals) → 129 + v + r + b + m + s + l + d + c ≡ stored_map e f
map_summed e f hv hr hb hm hs hl hd hc = rw (hv, hr, hb, hm, hs, hl, hd, hc)

there_only : {A : Type 0} (b : Bool) (a : A) → there (optionally b a) ≡ flag b
there_only true a = refl
there_only false a = refl

there_map : {A B : Type 0} (g : A → B) (o : Option A) → there (Option.map g o) ≡ there o
there_map g none = refl
there_map g (some a) = refl

there_digits : (b : Bool) (t : Text) → there (cond b (some t) none) ≡ flag b
there_digits true t = refl
there_digits false t = refl

there_count : (k : ℕ) → there (count_of k) ≡ flag (ltb 0 k)
there_count zero = refl
there_count (suc k) = ap flag (sym (lt-ltb 0 (suc k) (omega arith)))

module _ (w t : List ℕ) (x : StoredEdge) (f : std.Option Ratio) (h : FractionIs f (stored_fraction t (kind_number x.kind) x.record_offset)) where
  pub map_listed : stored_map (pass_edge x) (is_some f) ≡ numeric_map (numeric_in w t x)
  unfolding numeric_map numeric_in
  map_listed =
      let fraction : there (stored_fraction t (kind_number x.kind) x.record_offset) ≡ flag (is_some f) = ap there (sym h) ∙ there_only (is_some f) (parts f) in
      rw (
        there_map (value_bits x.decimals) (optionally x.has_value x.value),
        there_only x.has_value x.value,
        fraction,
        there_only x.has_base x.base,
        there_map f64_bits (optionally x.has_mult x.mult),
        there_only x.has_mult x.mult,
        there_only x.has_script (part t x.script_offset x.script_len),
        there_digits (eqb (kind_number x.kind) 1) (row_text x),
        there_count x.decimals,
      )
      (omega arith)

pub map_small : (e : PassEdge) (f : Bool) → stored_map e f < 1024
map_small e f =
    omega (
      arith,
      flag_le e.num.has_value,
      flag_le f,
      flag_le e.num.has_base,
      flag_le e.num.has_mult,
      flag_le e.num.has_script,
      flag_le e.num.large_power,
      flag_le (eqb (kind_number e.kind) 1),
      flag_le (ltb 0 e.num.decimals),
    )

-- ---- the stored edge's fields
pub only_told : {A : Type 0} (b : Bool) (u a : A) → optionally b u ≡ some a → u ≡ a
only_told true u a e = some-injective u a e
only_told false u a e = absurd (some-ne-none a (sym e))

pub map_told : (g : ℕ → ℕ) (b : Bool) (u a : ℕ) → Option.map g (optionally b u) ≡ some a → g u ≡ a
map_told g true u a e = some-injective (g u) a e
map_told g false u a e = absurd (some-ne-none a (sym e))

script_told : (t : List ℕ) (b : Bool) (at n : ℕ) (a : Text) → optionally b (part t at n) ≡ some a → part_of t (part_or b at n) ≡ a
script_told t true at n a e = some-injective (part t at n) a e
script_told t false at n a e = absurd (some-ne-none a (sym e))

digits_told : (b : Bool) (txt u a : Text) → (b ≡ true → txt ≡ u) → cond b (some u) none ≡ some a → part_of txt (part_or b 0 (length txt)) ≡ a
digits_told true txt u a h e = part_all txt ∙ h refl ∙ some-injective u a e
digits_told false txt u a h e = absurd (some-ne-none a (sym e))

-- the bits of the value, divided
value_bits_lem : (k n : ℕ) → to_bits binary64 (divided k (of_nat n)) ≡ value_bits k n
unfolding f64_bits quotient
value_bits_lem zero n = refl
value_bits_lem (suc k) n = refl

pub count_told : (k a : ℕ) → count_of k ≡ some a → k ≡ a
count_told zero a e = absurd (some-ne-none a (sym e))
count_told (suc k) a e = some-injective (suc k) a e

txt_of_digits : (w t : List ℕ) (x : StoredEdge) → eqb (kind_number x.kind) 1 ≡ true → txt_of w t x ≡ row_text x
txt_of_digits w t x e = let k : kind_number x.kind ≡ 1 = eqb-true (kind_number x.kind) 1 e in rw (ne_eqb (kind_number x.kind) 0 (λ o. omega arith), e)

module _ (line offs t : List ℕ) (x : StoredEdge) (f : std.Option Ratio) {point : ℕ → Bool} (sound : Grounded point (chars line) t x) (o : Offsets line offs) (h : FractionIs f (stored_fraction t (kind_number x.kind) x.record_offset)) (txt : Text) (is : txt ≡ txt_of (chars line) t x) where
  pub fields_are : FieldsAre line t txt (stored_fields offs (pass_edge x) f (length txt)) (numeric_in (chars line) t x)
  unfolding stored_fields fields_of numeric_in f64_bits
  fields_are = record {
    map = map_listed (chars line) t x f h;
    orig = part_places line offs x.start x.end o (omega (arith, sound.made.ordered)) sound.made.inside;
    value = λ a e. value_bits_lem x.decimals x.value ∙ map_told (value_bits x.decimals) x.has_value x.value a e;
    fraction = λ a e. only_told (is_some f) (parts f) a (h ∙ e);
    base = only_told x.has_base x.base;
    mult = map_told f64_bits x.has_mult x.mult;
    script = script_told t x.has_script x.script_offset x.script_len;
    value_s = λ a e. digits_told (eqb (kind_number x.kind) 1) txt (row_text x) a (λ k. is ∙ txt_of_digits (chars line) t x k) e;
    decimals = count_told x.decimals;
  }

-- ---- what can be written
part_or_in : (b : Bool) (at n m : ℕ) → (b ≡ true → at + n ≤ m) → (part_or b at n).at.0 + (part_or b at n).len ≤ m
part_or_in true at n m h = h refl
part_or_in false at n m h = omega arith

part_or_len : (b : Bool) (at n m : ℕ) → (b ≡ true → n ≤ m) → (part_or b at n).len ≤ m
part_or_len true at n m h = h refl
part_or_len false at n m h = omega arith

pub record Room (ty txt : Text) (d : NumFields) : Type 0 where
  pub all : length ty + length txt + d.orig.len + d.script.len + d.value_s.len ≤ 1990

module _ (line offs t : List ℕ) (x : StoredEdge) (f : std.Option Ratio) {point : ℕ → Bool} (sound : Grounded point (chars line) t x) (o : Offsets line offs) (h : FractionIs f (stored_fraction t (kind_number x.kind) x.record_offset)) (txt : Text) (is : txt ≡ txt_of (chars line) t x) (few : length (chars line) ≤ 256) where
  orig_spans : Spans line offs x.start x.end
  orig_spans = spans line offs x.start x.end o (omega (arith, sound.made.ordered)) sound.made.inside

  orig_len : get_or offs x.end 0 - get_or offs x.start 0 ≤ 1024
  orig_len = omega (arith, orig_spans.long, between_short (chars line) x.start x.end, sound.made.inside)

  txt_len : length txt ≤ 256
  txt_len = rw is (txt_short (chars line) t x sound few)

  script_len : (part_or x.has_script x.script_offset x.script_len).len ≤ 60
  script_len = part_or_len x.has_script x.script_offset x.script_len 60 (λ k. (sound.rooted.script k).short)

  value_s_len : (part_or (eqb (kind_number x.kind) 1) 0 (length txt)).len ≤ 256
  value_s_len = part_or_len (eqb (kind_number x.kind) 1) 0 (length txt) 256 (λ k. txt_len)

  writable_stored_edge : Writable line t txt (stored_fields offs (pass_edge x) f (length txt))
  unfolding stored_fields fields_of
  writable_stored_edge =
      let d = stored_fields offs (pass_edge x) f (length txt) in
      record {
        numeric = eq-eqb (bit 0 d.map) 1 (bits_of d (numeric_in (chars line) t x) (map_listed (chars line) t x f h)).numeric;
        map = map_small (pass_edge x) (is_some f);
        orig = omega (arith, orig_spans.rises, orig_spans.within);
        script = λ k. part_or_in x.has_script x.script_offset x.script_len (length t) (λ b. (sound.rooted.script b).within);
        value_s = λ k. part_or_in (eqb (kind_number x.kind) 1) 0 (length txt) (length txt) (λ b. omega arith);
        orig_len = omega (arith, orig_len);
        script_len = omega (arith, script_len);
        value_s_len = omega (arith, value_s_len);
      }

  room_stored_edge : (ty : Text) → length ty ≤ 60 → Room ty txt (stored_fields offs (pass_edge x) f (length txt))
  unfolding stored_fields fields_of
  room_stored_edge ty l = record { all = omega (arith, l, txt_len, orig_len, script_len, value_s_len) }

-- ---- the same of the code's edge e
module _ (line offs t : List ℕ) (e : PassEdge) (x : StoredEdge) (h : StoredIs line t e x) (o : Offsets line offs) (few : length (chars line) ≤ 256) where
  pub listable : Listable offs e
  listable =
      let p = places_of line t e x h in
      record {
        starts = omega (arith, p.0, p.1);
        ends = omega (arith, p.1);
        rises = (spans line offs e.start.0 e.end.0 o p.0 p.1).rises;
        digits = x.value;
        value = value_is e x h.is;
        small = h.sound.small.value;
        few = rw (decimals_are e x h.is) h.sound.made.few_decimals;
        mult = rw (ap (λ (e : PassEdge). e.num.base_multiplier) h.is.is) (of_nat-not_nan h.sound.small.mult);
      }

module _ (line offs t : List ℕ) (e : PassEdge) (x : StoredEdge) (f : std.Option Ratio) (ty txt : Text) (a : TextsAre line t e ty txt x) (o : Offsets line offs) (few : length (chars line) ≤ 256) (h : FractionIs f (stored_fraction t (kind_number e.kind) e.record_at.0)) (d : NumFields) (is : d ≡ stored_fields offs e f (length txt)) where
  stored_edge_fraction : FractionIs f (stored_fraction t (kind_number x.kind) x.record_offset)
  stored_edge_fraction = h ∙ ap (λ (e : PassEdge). stored_fraction t (kind_number e.kind) e.record_at.0) a.stored_edge.is.is

  stored_edge_fields : stored_fields offs (pass_edge x) f (length txt) ≡ d
  stored_edge_fields = sym (is ∙ ap (λ (e : PassEdge). stored_fields offs e f (length txt)) a.stored_edge.is.is)

  pub writable : Writable line t txt d
  writable = subst (Writable line t txt) stored_edge_fields (writable_stored_edge line offs t x f a.stored_edge.sound o stored_edge_fraction txt a.txt few)

  pub room : Room ty txt d
  room =
      let short : length ty ≤ 60 = rw a.type (type_short (chars line) t x a.stored_edge.sound) in
      subst (Room ty txt) stored_edge_fields (room_stored_edge line offs t x f a.stored_edge.sound o stored_edge_fraction txt a.txt few ty short)

  pub edge_is : numeric e.start.0 e.end.0 ty txt line t txt d ≡ listed_of (chars line) t x
  edge_is =
      let fields : FieldsAre line t txt d (numeric_in (chars line) t x) = subst (λ (d : NumFields). FieldsAre line t txt d (numeric_in (chars line) t x)) stored_edge_fields (fields_are line offs t x f a.stored_edge.sound o stored_edge_fraction txt a.txt) in
      let num : numeric_of line t txt d ≡ numeric_in (chars line) t x = numeric_is line t txt d (numeric_in (chars line) t x) fields in
      let from : e.start.0 ≡ x.start = ap (λ (e : PassEdge). e.start.0) a.stored_edge.is.is in
      let to : e.end.0 ≡ x.end = ap (λ (e : PassEdge). e.end.0) a.stored_edge.is.is in
      rw (num, from, to, a.type, a.txt) (sym (listed_is (chars line) t x))

-- a character's record is legal
pub legal_there : (line t : List ℕ) (e : PassEdge) (x : StoredEdge) → StoredIs line t e x → kind_number e.kind ≡ 0 → LegalAt t e.record_at.0
legal_there line t e x h z =
    let k : kind_number e.kind ≡ kind_number x.kind = ap (λ (e : PassEdge). kind_number e.kind) h.is.is in
    let at : x.record_offset ≡ e.record_at.0 = sym (ap (λ (e : PassEdge). e.record_at.0) h.is.is) in
    subst (LegalAt t) at (h.sound.rooted.legal (sym k ∙ z))
