-- Laws of a stored edge's texts. In order: a character's bytes; a text at the front of a buffer; the txt and the type of a character whose record was checked;
-- bytes between two offsets, and the line's between two places; the names of the passes; the texts of a stored edge, and that they are short.
use mathlib.Core.Path.{◌≡◌, refl, sym, ap, ◌∙◌, subst}
use mathlib.Core.Bool.{Bool, true, false, cond}
use mathlib.Core.List.{List, [], ◌∷◌}
use mathlib.Core.Option
use mathlib.Core.Option.{Option, none, some}
use Prim.Native.Nat.{ℕ, suc, ◌+◌, ◌*◌, ◌-◌, ◌/◌, ◌%◌, ◌≤◌, ◌<◌}
use native.Mathlib.Omega.{arith}
use lib.ListN.{length, take, drop, get_or, length-append}
use lib.Dec.{eqb, ltb}
use borrow.Author.Tests.{eqb-true, eq-eqb, ne_eqb}
use Rattle.fields.specs.Part.{part}
use Rattle.fields.proofs.PartLaws.{length_part, part_sets}
use Rattle.text.specs.Sequence.{encode}
use Rattle.text.specs.Text.{chars, encodes, offset_of}
use Rattle.table.specs.Table.{Text}
use Rattle.whole.specs.Whole.{of_nat}
use Rattle.whole.specs.Decimal.{decimal}
use Rattle.whole.proofs.DecimalLaws.{length_decimal_top}
use Rattle.pass_list.specs.declared.record.PassEdge.{PassEdge}
use Rattle.pass_list.specs.StoredEdge.{StoredEdge, EdgeIs}
use Rattle.pass_list.specs.Edges.{between, digits_text, row_text, kind_name, txt_of, edge_of}
use Rattle.pass_list.specs.Kind.{kind_number}
use Rattle.numbers.specs.Ready.{Offsets}
use Rattle.pass_edge.proofs.places.PlacesLaws.{offset_rises, part_between}
use Rattle.text.proofs.PlaceLaws.{offset_le}
use Rattle.pass_edge.specs.Grounded.{LegalAt, Rooted, Grounded, StoredIs}
use Rattle.pass_edge.specs.Texts.{char_txt, char_type, type_of, Front}
use Rattle.pass_edge.proofs.DigitsLaws.{length_digits}
use Rattle.pass_edge.proofs.RecordLaws.{take_short, AtMost, record_short, type_end, Lies, type_lies, rom_lies, rom_absent}

-- ---- a character's bytes
encode_short : (c : ℕ) → length (encode c) ≤ 4
unfolding encode
encode_short c = go (ltb c 0x80) (ltb c 0x800) (ltb c 0x10000) _ _ _ _ _ _ _ _ _ _
  where
    go : (x y z : Bool) (a b d e f g h i j k : ℕ) → length (cond x (a ∷ []) (cond y (b ∷ d ∷ []) (cond z (e ∷ f ∷ g ∷ []) (h ∷ i ∷ j ∷ k ∷ [])))) ≤ 4
    go true y z a b d e f g h i j k = omega arith
    go false true z a b d e f g h i j k = omega arith
    go false false true a b d e f g h i j k = omega arith
    go false false false a b d e f g h i j k = omega arith

encodes_short : (cs : List ℕ) → length (encodes cs) ≤ 4 * length cs
unfolding encodes
encodes_short [] = omega arith
encodes_short (c ∷ cs) = simp length-append (omega (arith, encode_short c, encodes_short cs))

pub between_short : (w : List ℕ) (a b : ℕ) → length (between w a b) ≤ 4 * (b - a)
unfolding between
between_short w a b = omega (arith, encodes_short (take (b - a) (drop a w)), take_short (b - a) (drop a w))

-- ---- a text at the front of a buffer
pub front_is : {s u : List ℕ} {r : ℕ} {t v : Text} → t ≡ v → Front s u r t → Front s u r v
front_is {s} {u} {r} e h = subst (Front s u r) e h

-- it can be taken from there again
module _ {s u : List ℕ} {r : ℕ} {t : Text} (h : Front s u r t) (k : length t ≤ length s) where
  pub front_take : take r u ≡ t
  unfolding part
  front_take = rw (h.wrote, h.long) (part_sets s 0 t (length t) refl (omega arith))

-- ---- the txt and the type of a character whose record was checked, by the lengths that stand in it
module _ (t : List ℕ) (at : ℕ) (l : LegalAt t at) where
  pub type_part : char_type t at ≡ part t (at + 6) (get_or t (at + 5) 0)
  unfolding char_type
  type_part = rw l.reads (type_lies t at l.reads).0

  pub type_within : type_end t at ≤ length t
  type_within = (type_lies t at l.reads).1

  pub rom_part : (w : List ℕ) (a b : ℕ) → get_or t (at + 4) 0 / 1 % 2 ≡ 1 → Lies t (type_end t at) (char_txt w t at a b)
  unfolding char_txt
  rom_part w a b h = let (x, is, lies) = rom_lies t at l.reads (eq-eqb (get_or t (at + 4) 0 / 1 % 2) 1 h) in rw (l.reads, is) lies

  pub own_part : (w : List ℕ) (a b : ℕ) → (get_or t (at + 4) 0 / 1 % 2 ≡ 1 → ⊥) → char_txt w t at a b ≡ between w a b
  unfolding char_txt
  own_part w a b h = rw (l.reads, rom_absent t at l.reads (ne_eqb (get_or t (at + 4) 0 / 1 % 2) 1 h))

  pub type_fits : length (char_type t at) ≤ 60
  unfolding char_type
  type_fits = rw l.reads (record_short t at l.reads).type

-- ---- the bytes of s between two offsets, and where they are a length apart
pub cut_to : (s : List ℕ) (from to : ℕ) → take (to - from) (drop from s) ≡ part s from (to - from)
unfolding part
cut_to s from to = refl

pub cut : (s : List ℕ) (at n : ℕ) → take (at + n - at) (drop at s) ≡ part s at n
cut s at n = let e : at + n - at ≡ n = omega arith in cut_to s at (at + n) ∙ ap (part s at) e

-- the bytes of the line between two places, by the offsets
pub part_places : (line offs : List ℕ) (a b : ℕ) → Offsets line offs → a ≤ b → b ≤ length (chars line) → part line (get_or offs a 0) (get_or offs b 0 - get_or offs a 0) ≡ between (chars line) a b
part_places line offs a b o h k = rw (o.at a (omega arith), o.at b k) (part_between line a b h)

pub record Spans (line offs : List ℕ) (a b : ℕ) : Type 0 where
  pub rises : get_or offs a 0 ≤ get_or offs b 0
  pub within : get_or offs b 0 ≤ length line
  pub long : get_or offs b 0 - get_or offs a 0 ≡ length (between (chars line) a b)

pub spans : (line offs : List ℕ) (a b : ℕ) → Offsets line offs → a ≤ b → b ≤ length (chars line) → Spans line offs a b
spans line offs a b o h k =
    let x : get_or offs a 0 ≡ offset_of line a = o.at a (omega arith) in
    let y : get_or offs b 0 ≡ offset_of line b = o.at b k in
    let r : offset_of line a ≤ offset_of line b = offset_rises line a b h in
    let i : offset_of line b ≤ length line = offset_le line b in
    let l : length (part line (get_or offs a 0) (get_or offs b 0 - get_or offs a 0)) ≡ get_or offs b 0 - get_or offs a 0 = length_part line (get_or offs a 0) (get_or offs b 0 - get_or offs a 0) (omega arith) in
    record {
      rises = omega arith;
      within = omega arith;
      long = sym l ∙ ap length (part_places line offs a b o h k);
    }

-- ---- the texts of a stored edge x, which the code has as e
module _ (w t : List ℕ) (e : PassEdge) (x : StoredEdge) (h : EdgeIs e x) where
  pub kind_is : kind_number e.kind ≡ kind_number x.kind
  kind_is = ap (λ (e : PassEdge). kind_number e.kind) h.is

  pub txt_char : kind_number e.kind ≡ 0 → char_txt w t e.record_at.0 e.start.0 e.end.0 ≡ txt_of w t x
  unfolding char_txt
  txt_char z = let k : kind_number x.kind ≡ 0 = sym kind_is ∙ z in rw (eq-eqb (kind_number x.kind) 0 k, h.is)

  pub txt_digits : {v : ℕ} → (kind_number e.kind ≡ 0 → ⊥) → kind_number e.kind ≡ 1 → v ≡ x.value → digits_text e.num.decimals (e.end.0 - e.start.0) v ≡ txt_of w t x
  txt_digits n z q = let k : kind_number x.kind ≡ 1 = sym kind_is ∙ z in rw (ne_eqb (kind_number x.kind) 0 (λ o. omega arith), eq-eqb (kind_number x.kind) 1 k, h.is, q)

  pub txt_value : {v : ℕ} → (kind_number e.kind ≡ 0 → ⊥) → (kind_number e.kind ≡ 1 → ⊥) → v ≡ x.value → decimal v ≡ txt_of w t x
  txt_value n z q = rw (ne_eqb (kind_number x.kind) 0 (λ o. n (kind_is ∙ o)), ne_eqb (kind_number x.kind) 1 (λ o. z (kind_is ∙ o)), q)

  pub type_char : kind_number e.kind ≡ 0 → char_type t e.record_at.0 ≡ type_of t x
  unfolding type_of
  type_char z = let k : kind_number x.kind ≡ 0 = sym kind_is ∙ z in rw (eq-eqb (kind_number x.kind) 0 k, h.is)

  pub type_kind : (kind_number e.kind ≡ 0 → ⊥) → kind_name (kind_number e.kind) ≡ type_of t x
  unfolding type_of
  type_kind z = rw (ne_eqb (kind_number x.kind) 0 (λ o. z (kind_is ∙ o)), h.is)

-- the record of a character was checked
pub rooted_char : (t : List ℕ) (e : PassEdge) (x : StoredEdge) → EdgeIs e x → Rooted t x → kind_number e.kind ≡ 0 → LegalAt t e.record_at.0
rooted_char t e x h r z = let k : kind_number x.kind ≡ 0 = sym (kind_is [] t e x h) ∙ z in subst (LegalAt t) (ap (λ (e : PassEdge). e.record_at.0) (sym h.is)) (r.legal k)

-- ---- the txt of a sound stored edge is short
get_short : (o : Option Text) (d : Text) → AtMost o → length d ≤ 60 → length (Option.get_or o d) ≤ 60
get_short none d h k = k
get_short (some t) d h k = h

own_short : (w t : List ℕ) (at a b : ℕ) → LegalAt t at → b ≡ suc a → length (char_txt w t at a b) ≤ 60
unfolding char_txt
own_short w t at a b l o =
    rw l.reads (get_short l.prop.rom (between w a b) (record_short t at l.reads).rom (omega (arith, between_short w a b)))

-- a row's digits are as long as its span
pub row_inside : {point : ℕ → Bool} {w t : List ℕ} {x : StoredEdge} → Grounded point w t x → 0 < x.decimals → suc (suc x.decimals) ≤ x.end - x.start
row_inside s h = omega (arith, s.made.decimals_inside h)

pub row_length : {point : ℕ → Bool} {w t : List ℕ} {x : StoredEdge} → Grounded point w t x → length (row_text x) ≡ x.end - x.start
row_length {x = x} s = length_digits x.decimals (x.end - x.start) x.value (row_inside s)

pub txt_short : {point : ℕ → Bool} (w t : List ℕ) (x : StoredEdge) → Grounded point w t x → length w ≤ 256 → length (txt_of w t x) ≤ 256
unfolding char_txt
txt_short w t x s n = go (eqb (kind_number x.kind) 0) (eqb (kind_number x.kind) 1) refl
  where
    go : (b c : Bool) → eqb (kind_number x.kind) 0 ≡ b → length (cond b (char_txt w t x.record_offset x.start x.end) (cond c (row_text x) (decimal x.value))) ≤ 256
    go true c e = let k = eqb-true (kind_number x.kind) 0 e in omega (arith, own_short w t x.record_offset x.start x.end (s.rooted.legal k) (s.rooted.one k))
    go false true e = omega (arith, row_length s, s.made.inside)
    go false false e = omega (arith, length_decimal_top x.value s.small.value)

module _ (line t : List ℕ) (e : PassEdge) (x : StoredEdge) (h : StoredIs line t e x) where
  pub places_of : (e.start.0 ≤ e.end.0) × (e.end.0 ≤ length (chars line))
  places_of =
      let a : e.start.0 ≡ x.start = ap (λ (e : PassEdge). e.start.0) h.is.is in
      let b : e.end.0 ≡ x.end = ap (λ (e : PassEdge). e.end.0) h.is.is in
      (omega (arith, h.sound.made.ordered), omega (arith, h.sound.made.inside))

  -- a row's decimals
  pub decimals_few : (e.num.decimals ≤ 15) × (0 < e.num.decimals → suc (suc e.num.decimals) ≤ e.end.0 - e.start.0)
  decimals_few = rw h.is.is (h.sound.made.few_decimals, row_inside h.sound)

  pub char_fits : length (chars line) ≤ 256 → kind_number e.kind ≡ 0 → length (char_txt (chars line) t e.record_at.0 e.start.0 e.end.0) ≤ 256
  char_fits n z = rw (txt_char (chars line) t e x h.is z) (txt_short (chars line) t x h.sound n)

-- the value and the decimals of a stored edge, as the code has them
pub value_is : (e : PassEdge) (x : StoredEdge) → EdgeIs e x → e.num.value ≡ of_nat x.value
value_is e x h = ap (λ (e : PassEdge). e.num.value) h.is

pub decimals_are : (e : PassEdge) (x : StoredEdge) → EdgeIs e x → e.num.decimals ≡ x.decimals
decimals_are e x h = ap (λ (e : PassEdge). e.num.decimals) h.is

-- ---- the type of a sound stored edge
pub type_of_edge : (w t : List ℕ) (x : StoredEdge) → (edge_of w t x).type ≡ type_of t x
unfolding edge_of type_of char_type
type_of_edge w t x = refl

name_short : (k : ℕ) → length (kind_name k) ≤ 60
name_short k = go (eqb k 1) (eqb k 2) (eqb k 3) (eqb k 4)
  where
    go : (a b c d : Bool) → length {A = ℕ} (cond a (68 ∷ 49 ∷ []) (cond b (71 ∷ 49 ∷ []) (cond c (71 ∷ 50 ∷ []) (cond d (71 ∷ 51 ∷ []) (71 ∷ 52 ∷ []))))) ≤ 60
    go true b c d = omega arith
    go false true c d = omega arith
    go false false true d = omega arith
    go false false false true = omega arith
    go false false false false = omega arith

pub type_short : {point : ℕ → Bool} (w t : List ℕ) (x : StoredEdge) → Grounded point w t x → length (type_of t x) ≤ 60
unfolding type_of
type_short w t x s = go (eqb (kind_number x.kind) 0) refl
  where
    go : (b : Bool) → eqb (kind_number x.kind) 0 ≡ b → length (cond b (char_type t x.record_offset) (kind_name (kind_number x.kind))) ≤ 60
    go true e = type_fits t x.record_offset (s.rooted.legal (eqb-true (kind_number x.kind) 0 e))
    go false e = name_short (kind_number x.kind)
