-- What the kinds of records say of their fields; how a character is found; and whose text is a gap.
-- In order: the three kinds of characters that numerals are made of; records and lines of a regular table; texts.
use Prim.Native.Nat.{ℕ, ◌≤◌, ◌<◌}
use mathlib.Core.Path.{◌≡◌, refl, sym, ap, ◌∙◌}
use mathlib.Core.Bool.{Bool, true, false, ◌&&◌, not, cond, false≢true}
use mathlib.Core.List.{List, [], ◌∷◌, ◌++◌, map}
use mathlib.Core.Option.{Option, none, some, some-injective, some-ne-none}
use native.Mathlib.Omega.{arith}
use lib.Dec.{leb, eqb}
use Rattle.text.specs.Bytes.{same}
use Rattle.text.specs.Sequence.{encode}
use Rattle.text.specs.Text.{encodes}
use Rattle.text.proofs.TextLaws.{encodes_append}
use Rattle.table.specs.Table.{Text, Record, find}
use Rattle.passes.specs.NumEdge.{or_zero}
use Rattle.passes.specs.Passes.{digit_type}
use Rattle.passes.specs.Renaming.{gap_char}
use Rattle.passes.proofs.Alike.{gap_text}
use Rattle.passes.proofs.GapTexts.{gaps_renamed, one_char}
use Rattle.table_grammar.proofs.Tests.{true_le, and_left, and_right, eqb-true}
use Rattle.table_grammar.specs.Grammar.{digit, ten, large}
use Rattle.table_grammar.specs.Kinds.{Char, Digit, Large, Ten, at_least, at_most, char_by, digit_record, entry_of, exactly, large_record, unit_record}

-- ---- the three kinds
pub most : (n : ℕ) (o : Option ℕ) → at_most n o ≡ true → (o ≡ some (or_zero o)) × (or_zero o ≤ n)
most n none e = absurd (false≢true e)
most n (some v) e = (refl, true_le v n e)

pub least : (n : ℕ) (o : Option ℕ) → at_least n o ≡ true → (o ≡ some (or_zero o)) × (n ≤ or_zero o)
least n none e = absurd (false≢true e)
least n (some v) e = (refl, true_le n v e)

exact : (n : ℕ) (o : Option ℕ) → exactly n o ≡ true → o ≡ some n
exact n none e = absurd (false≢true e)
exact n (some v) e = ap {B = Option ℕ} some (eqb-true v n e)

pub not-true : (b : Bool) → not b ≡ true → b ≡ false
not-true true e = absurd (false≢true e)
not-true false e = refl

pub not_le : (m n : ℕ) → n < m → leb m n ≡ false
not_le m n h = go (leb m n) refl
  where
    go : (b : Bool) → leb m n ≡ b → leb m n ≡ false
    go true e = let k : m ≤ n = true_le m n e in absurd (omega arith)
    go false e = e

pub record IsDigit (r : Record) : Type 0 where
  pub type : same r.type digit_type ≡ true
  pub value : r.value ≡ some (or_zero r.value)
  pub small : or_zero r.value ≤ 9
  pub base : r.base ≡ some 1
  pub large : r.large_power ≡ false

pub digit_law : (d : Digit) → IsDigit d.entry
digit_law d =
    let r = d.entry in
    let abc = and_left _ _ d.law in
    let ab = and_left _ _ abc in
    record {
      type = and_left _ _ ab;
      value = (most 9 r.value (and_right (same r.type digit_type) _ ab)).0;
      small = (most 9 r.value (and_right (same r.type digit_type) _ ab)).1;
      base = exact 1 r.base (and_right (same r.type digit_type && at_most 9 r.value) _ abc);
      large = not-true _ (and_right (same r.type digit_type && at_most 9 r.value && exactly 1 r.base) _ d.law);
    }

pub record IsUnit (r : Record) : Type 0 where
  pub value : r.value ≡ some (or_zero r.value)
  pub ten : 10 ≤ or_zero r.value
  pub base : r.base ≡ some (or_zero r.base)
  pub two : 2 ≤ or_zero r.base
  pub up_to : or_zero r.base ≤ or_zero r.value
  pub large : r.large_power ≡ false
  pub no_gap : gap_char r.code_point ≡ false

pub unit_law : (t : Ten) → IsUnit t.entry
unit_law t =
    let r = t.entry in
    let a = at_least 10 r.value in
    let b = at_least 2 r.base in
    let c = leb (or_zero r.base) (or_zero r.value) in
    let d = not r.large_power in
    let abcd = and_left (a && b && c && d) _ t.law in
    let abc = and_left (a && b && c) d abcd in
    let ab = and_left (a && b) c abc in
    record {
      value = (least 10 r.value (and_left a b ab)).0;
      ten = (least 10 r.value (and_left a b ab)).1;
      base = (least 2 r.base (and_right a b ab)).0;
      two = (least 2 r.base (and_right a b ab)).1;
      up_to = true_le _ _ (and_right (a && b) c abc);
      large = not-true _ (and_right (a && b && c) d abcd);
      no_gap = not-true _ (and_right (a && b && c && d) _ t.law);
    }

pub record IsLarge (r : Record) : Type 0 where
  pub value : r.value ≡ some (or_zero r.value)
  pub ten : 10 ≤ or_zero r.value
  pub base : r.base ≡ some (or_zero r.base)
  pub two : 2 ≤ or_zero r.base
  pub large : r.large_power ≡ true

pub large_law : (l : Large) → IsLarge l.entry
large_law l =
    let r = l.entry in
    let a = at_least 10 r.value in
    let b = at_least 2 r.base in
    let ab = and_left (a && b) r.large_power l.law in
    record {
      value = (least 10 r.value (and_left a b ab)).0;
      ten = (least 10 r.value (and_left a b ab)).1;
      base = (least 2 r.base (and_right a b ab)).0;
      two = (least 2 r.base (and_right a b ab)).1;
      large = and_right (a && b) r.large_power l.law;
    }

-- ---- found by their code points
pub found_code : (rs : List Record) (c : ℕ) (r : Record) → find rs c ≡ some r → r.code_point ≡ c
unfolding find
found_code [] c r e = absurd (some-ne-none r (sym e))
found_code (q ∷ rs) c r e = go (eqb q.code_point c) refl (found_code rs c r) e
  where
    go : (b : Bool) → eqb q.code_point c ≡ b → (find rs c ≡ some r → r.code_point ≡ c) → cond b (some q) (find rs c) ≡ some r → r.code_point ≡ c
    go true h ih e = rw (← (some-injective q r e)) (eqb-true _ _ h)
    go false h ih e = ih e

pub entry_of_lem : (r : Record) (a b c : Bool) (p : digit_record r ≡ a) (q : unit_record r ≡ b) (s : large_record r ≡ c) (x : Char) → char_by r a b c p q s ≡ some x → entry_of x ≡ r
entry_of_lem r true b c p q s x e = rw (← (some-injective (digit (record { entry = r; law = p })) x e))
entry_of_lem r false true c p q s x e = rw (← (some-injective (ten (record { entry = r; law = q })) x e))
entry_of_lem r false false true p q s x e = rw (← (some-injective (large (record { entry = r; law = s })) x e))
entry_of_lem r false false false p q s x e = absurd (some-ne-none x (sym e))

-- ---- the text of a gap is that of one gap character: shown by a renaming to a character that is a gap alike
abbrev alike : (b : Bool) → ℕ → ℕ
alike true c = 0x96F6
alike false c = 0x41

alike_gap : (b : Bool) (c : ℕ) → gap_char c ≡ b → gap_char (alike b c) ≡ gap_char c
alike_gap true c h = sym h
alike_gap false c h = sym h

pub gap_char_lem : (c : ℕ) → gap_text (encode c) ≡ gap_char c
unfolding encodes encode same
gap_char_lem c = go (gap_char c) refl
  where
    one_gap : (b : Bool) → gap_text (encodes (alike b c ∷ [])) ≡ b
    one_gap true = refl
    one_gap false = refl

    go : (b : Bool) → gap_char c ≡ b → gap_text (encode c) ≡ gap_char c
    go b h = sym (gaps_renamed (alike b) (encode c) (encodes (alike b c ∷ [])) (c, [], one_char c, refl, alike_gap b c h)) ∙ one_gap b ∙ sym h

-- the characters of a text, one at least
abbrev pub Spelled : Text → Type 0
Spelled x = (c : ℕ) × (cs : List ℕ) × (x ≡ encodes (c ∷ cs))

pub spelled_append : (x y : Text) → Spelled x → Spelled y → Spelled (x ++ y)
spelled_append x y (c, cs, p) (d, ds, q) = (c, cs ++ (d ∷ ds), rw (p, q) (sym (encodes_append (c ∷ cs) (d ∷ ds))))

two_chars : (c d : ℕ) (cs : List ℕ) → gap_text (encodes (c ∷ d ∷ cs)) ≡ false
unfolding encodes encode same
two_chars c d cs = go (gap_char c) refl
  where
    no_gap : (b : Bool) → gap_text (encodes (alike b c ∷ alike b d ∷ map (alike b) cs)) ≡ false
    no_gap true = refl
    no_gap false = refl

    go : (b : Bool) → gap_char c ≡ b → gap_text (encodes (c ∷ d ∷ cs)) ≡ false
    go b h = sym (gaps_renamed (alike b) (encodes (c ∷ d ∷ cs)) (encodes (alike b c ∷ alike b d ∷ map (alike b) cs)) (c, d ∷ cs, refl, refl, alike_gap b c h)) ∙ no_gap b

-- two texts in a row are no gap
pub no_gap_append : (x y : Text) → Spelled x → Spelled y → gap_text (x ++ y) ≡ false
no_gap_append x y (c, cs, p) (d, ds, q) = rw (p, q, ← (encodes_append (c ∷ cs) (d ∷ ds))) (row_gap cs)
  where
    row_gap : (cs : List ℕ) → gap_text (encodes (c ∷ (cs ++ (d ∷ ds)))) ≡ false
    row_gap [] = two_chars c d ds
    row_gap (b ∷ bs) = two_chars c b (bs ++ (d ∷ ds))
