-- The texts of a sound stored edge are UTF-8, and its fraction may be listed. In order: ASCII; decimal digits; the type; the txt; the fraction.
-- Assumes nothing.
use mathlib.Core.Path.{◌≡◌, refl, sym, ap, ◌∙◌, subst}
use mathlib.Core.Bool.{Bool, true, false, cond, ◌&&◌}
use mathlib.Core.List.{List, [], ◌∷◌}
use mathlib.Core.Option.{Option, none, some, get_or, map}
use Prim.Native.Nat.{ℕ, zero, suc, ◌+◌, ◌-◌, ◌/◌, ◌%◌, ◌^◌, ◌≤◌, ◌<◌}
use native.Mathlib.Omega.{arith}
use lib.ListN.{length, take, drop}
use lib.Dec.{eqb, ltb}
use borrow.Author.Tests.{ltb-true, leb-true, lt-ltb, le-leb, eqb-true}
use Rattle.whole.specs.Whole.{TOP}
use Rattle.whole.specs.Decimal.{decimal, padded}
use Rattle.whole.proofs.DecimalLaws.{padded_decimal}
use Rattle.text.specs.Sequence.{encode}
use Rattle.text.specs.Text.{encodes, Scalars, well_formed}
use Rattle.text.proofs.RowLaws.{and-true, is_within}
use Rattle.text.proofs.TextLaws.{encodes_well_formed, scalars_take, scalars_drop}
use Rattle.table.specs.Table.{Text, Record}
use Rattle.table.specs.Layout.{numbers_in}
use Rattle.table.specs.Check.{all_of, small, positive, legal_ratio, legal_texts, legal_numbers}
use Rattle.passes.specs.Characters.{lowest}
use Rattle.passes.specs.DecimalPasses.{point_character}
use Rattle.passes.proofs.ratio.RatioLaws.{lowest_at_most, lowest_positive}
use Rattle.edge.specs.Check.{each, sound_fraction}
use Rattle.pass_list.specs.StoredEdge.{StoredEdge, Every, nil, cons}
use Rattle.pass_list.specs.Edges.{between, digits_text, row_text, kind_name, txt_of}
use Rattle.pass_list.proofs.in_turn.EveryLaws.{every_append}
use Rattle.pass_list.specs.Kind.{kind_number}
use Rattle.pass_edge.specs.Grounded.{Grounded}
use Rattle.pass_edge.specs.Texts.{char_txt, char_type, type_of}
use Rattle.pass_edge.specs.Fields.{stored_fraction}
use Rattle.pass_edge.proofs.DigitsLaws.{digits_parts}
use Rattle.pass_edge.proofs.TextLaws.{row_inside}

-- ---- ASCII is UTF-8
abbrev Ascii : List ℕ → Type 0
Ascii = Every (λ b. b < 0x80)

encode_ascii : (b : ℕ) → b < 0x80 → encode b ≡ b ∷ []
unfolding encode
encode_ascii b h = rw (lt-ltb b 0x80 h)

encodes_ascii : (s : List ℕ) → Ascii s → encodes s ≡ s
unfolding encodes
encodes_ascii [] nil = refl
encodes_ascii (b ∷ s) (cons h k) = rw (encode_ascii b h, encodes_ascii s k)

scalars_ascii : (s : List ℕ) → Ascii s → Scalars s
scalars_ascii [] nil = tt
scalars_ascii (b ∷ s) (cons h k) = (rw (is_within 0 0xD7FF b (omega arith) (omega arith)), scalars_ascii s k)

ascii_formed : (s : List ℕ) → Ascii s → well_formed s ≡ true
ascii_formed s h = ap well_formed (sym (encodes_ascii s h)) ∙ encodes_well_formed s (scalars_ascii s h)

-- ---- decimal digits
padded_ascii : (k n : ℕ) → Ascii (padded k n)
unfolding padded
padded_ascii zero n = nil
padded_ascii (suc k) n = every_append (λ b. b < 0x80) (padded k (n / 10)) ((48 + n % 10) ∷ []) (padded_ascii k (n / 10)) (cons (omega arith) nil)

digits_ascii : (k n v : ℕ) → (0 < k → suc (suc k) ≤ n) → Ascii (digits_text k n v)
digits_ascii zero n v h = padded_ascii n v
digits_ascii (suc k) n v h =
    let i = h (omega arith) in
    subst Ascii (digits_parts (suc k) n v (omega arith) (omega arith))
    (every_append (λ b. b < 0x80) (padded (n - 1 - suc k) (v / 10 ^ suc k)) (point_character ∷ padded (suc k) v) (padded_ascii (n - 1 - suc k) (v / 10 ^ suc k)) (cons (omega arith) (padded_ascii (suc k) v)))

pub padded_formed : (k n : ℕ) → well_formed (padded k n) ≡ true
padded_formed k n = ascii_formed (padded k n) (padded_ascii k n)

pub decimal_formed : (n : ℕ) → well_formed (decimal n) ≡ true
decimal_formed n = ap well_formed (sym (padded_decimal n)) ∙ padded_formed (length (decimal n)) n

-- ---- the type
name_formed : (k : ℕ) → well_formed (kind_name k) ≡ true
name_formed k = go (eqb k 1) (eqb k 2) (eqb k 3) (eqb k 4)
  where
    two : (a b : ℕ) → a < 0x80 → b < 0x80 → well_formed (a ∷ b ∷ []) ≡ true
    two a b h k = ascii_formed (a ∷ b ∷ []) (cons h (cons k nil))

    go : (a b c d : Bool) → well_formed (cond a (68 ∷ 49 ∷ []) (cond b (71 ∷ 49 ∷ []) (cond c (71 ∷ 50 ∷ []) (cond d (71 ∷ 51 ∷ []) (71 ∷ 52 ∷ []))))) ≡ true
    go true b c d = two 68 49 (omega arith) (omega arith)
    go false true c d = two 71 49 (omega arith) (omega arith)
    go false false true d = two 71 50 (omega arith) (omega arith)
    go false false false true = two 71 51 (omega arith) (omega arith)
    go false false false false = two 71 52 (omega arith) (omega arith)

record_texts : (r : Record) → legal_texts r ≡ true → (well_formed r.type ≡ true) × (all_of well_formed r.rom ≡ true)
unfolding legal_texts
record_texts r h =
    let both = and-true (well_formed r.type) (all_of well_formed r.rom && all_of well_formed r.script) h in
    (both.0, (and-true (all_of well_formed r.rom) (all_of well_formed r.script) both.1).0)

module _ {point : ℕ → Bool} (w t : List ℕ) (x : StoredEdge) (s : Grounded point w t x) where
  pub type_formed : well_formed (type_of t x) ≡ true
  unfolding type_of char_type
  type_formed = go (eqb (kind_number x.kind) 0) refl
    where
      go : (b : Bool) → eqb (kind_number x.kind) 0 ≡ b → well_formed (cond b (char_type t x.record_offset) (kind_name (kind_number x.kind))) ≡ true
      go true e = let l = s.rooted.legal (eqb-true (kind_number x.kind) 0 e) in rw l.reads (record_texts l.prop l.texts).0
      go false e = name_formed (kind_number x.kind)

-- ---- the txt
-- a row of digits
pub row_formed : {point : ℕ → Bool} (w t : List ℕ) (x : StoredEdge) → Grounded point w t x → well_formed (row_text x) ≡ true
row_formed w t x s = ascii_formed (row_text x) (digits_ascii x.decimals (x.end - x.start) x.value (row_inside s))

pub between_formed : (w : List ℕ) (a b : ℕ) → Scalars w → well_formed (between w a b) ≡ true
unfolding between
between_formed w a b h = encodes_well_formed (take (b - a) (drop a w)) (scalars_take (b - a) (drop a w) (scalars_drop a w h))

get_formed : (o : Option Text) (d : Text) → all_of well_formed o ≡ true → well_formed d ≡ true → well_formed (get_or o d) ≡ true
unfolding all_of
get_formed none d h k = k
get_formed (some t) d h k = h

module _ {point : ℕ → Bool} (w t : List ℕ) (x : StoredEdge) (s : Grounded point w t x) (scalars : Scalars w) where
  pub txt_formed : well_formed (txt_of w t x) ≡ true
  unfolding char_txt
  txt_formed = go (eqb (kind_number x.kind) 0) (eqb (kind_number x.kind) 1) refl
    where
      go : (b c : Bool) → eqb (kind_number x.kind) 0 ≡ b → well_formed (cond b (char_txt w t x.record_offset x.start x.end) (cond c (row_text x) (decimal x.value))) ≡ true
      go true c e =
          let l = s.rooted.legal (eqb-true (kind_number x.kind) 0 e) in
          rw l.reads (get_formed l.prop.rom (between w x.start x.end) (record_texts l.prop l.texts).1 (between_formed w x.start x.end scalars))
      go false true e = row_formed w t x s
      go false false e = decimal_formed x.value

-- ---- the fraction
pub record FractionFits (p : ℕ × ℕ) : Type 0 where
  pub upper : p.0 ≤ TOP
  pub lower : p.1 ≤ TOP
  pub positive : 0 < p.1

abbrev pub AllFits : Option (ℕ × ℕ) → Type 0
AllFits none = Unit {0}
AllFits (some p) = FractionFits p

lowest_fits : (o : Option (ℕ × ℕ)) → all_of legal_ratio o ≡ true → AllFits (map lowest o)
unfolding all_of
lowest_fits none h = tt
lowest_fits (some (n, d)) h =
    let both = and-true (small n) (positive d) h in
    let below = and-true (ltb 0 d) (small d) both.1 in
    let up : n ≤ TOP = leb-true n TOP both.0 in
    let down : d ≤ TOP = leb-true d TOP below.1 in
    let most = lowest_at_most n d in
    record { upper = omega (arith, most.0); lower = omega (arith, most.1); positive = lowest_positive n d (ltb-true 0 d below.0) }

record_ratio : (r : Record) → legal_numbers (numbers_in r) ≡ true → all_of legal_ratio r.fraction ≡ true
unfolding legal_numbers
record_ratio r h =
    let three = (and-true ((all_of small r.value && all_of legal_ratio r.fraction) && all_of positive r.base) (all_of small r.mult) h).0 in
    let two = (and-true (all_of small r.value && all_of legal_ratio r.fraction) (all_of positive r.base) three).0 in
    (and-true (all_of small r.value) (all_of legal_ratio r.fraction) two).1

module _ {point : ℕ → Bool} (w t : List ℕ) (x : StoredEdge) (s : Grounded point w t x) where
  pub fraction_fits : AllFits (stored_fraction t (kind_number x.kind) x.record_offset)
  unfolding stored_fraction
  fraction_fits = go (eqb (kind_number x.kind) 0) refl
    where
      go : (b : Bool) → eqb (kind_number x.kind) 0 ≡ b → AllFits (cond b (stored_fraction t 0 x.record_offset) none)
      go true e = let l = s.rooted.legal (eqb-true (kind_number x.kind) 0 e) in rw l.reads (lowest_fits l.prop.fraction (record_ratio l.prop l.numbers))
      go false e = tt

pub fits_sound : (o : Option (ℕ × ℕ)) → AllFits o → each sound_fraction o ≡ true
fits_sound none h = refl
fits_sound (some p) h = rw (le-leb p.0 TOP h.upper, le-leb p.1 TOP h.lower, lt-ltb 0 p.1 h.positive)
