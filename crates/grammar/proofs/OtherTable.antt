-- A table of the plain table's records under other characters (`specs/OtherCharacters.antt`) differs from the plain one by a renaming, as 02, S-11, asks of two tables.
-- In order: a record of the plain table is that of one of the sixteen; the renaming; the twin of a line of the sixteen.
use Prim.Native.Nat.{ℕ}
use mathlib.Core.Path.{◌≡◌, refl, sym, ap, ◌∙◌, subst}
use mathlib.Core.Bool.{Bool, true, false, cond}
use mathlib.Core.List.{List, [], ◌∷◌, map}
use mathlib.Core.Option.{some, some-ne-none, some-injective}
use lib.Dec.{eqb}
use borrow.Author.Tests.{eqb-true}
use Rattle.table.specs.Table.{Text, Record, Table, find}
use Rattle.whole.specs.Decimal.{decimal}
use Rattle.passes.specs.Renaming.{gap_char, renamed, Renaming, twin, Remaining}
use Rattle.grammar.specs.Plain.{Char, code_point, char_value, plain_record, plain_records, plain, sixteen}
use Rattle.grammar.specs.OtherCharacters.{code_of, record_of, table_of}
use Rattle.grammar.proofs.Sixteen.{each}
use Rattle.grammar.proofs.PlainEdges.{find_plain}

-- ---- the records of a list of characters
among : (record_of : Char → Record) (cs : List Char) (n : ℕ) (r : Record) → find (map record_of cs) n ≡ some r → (c : Char) × ((record_of c).code_point ≡ n) × (record_of c ≡ r)
unfolding find
among record_of [] n r h = absurd (some-ne-none r (sym h))
among record_of (c ∷ cs) n r h = go (eqb (record_of c).code_point n) refl h (among record_of cs n r)
  where
    go : (b : Bool) → eqb (record_of c).code_point n ≡ b → cond b (some (record_of c)) (find (map record_of cs) n) ≡ some r
        → (find (map record_of cs) n ≡ some r → (d : Char) × ((record_of d).code_point ≡ n) × (record_of d ≡ r)) → (d : Char) × ((record_of d).code_point ≡ n) × (record_of d ≡ r)
    go true e h ih = (c, eqb-true _ n e, some-injective _ r h)
    go false e h ih = ih h

-- what holds of each of the sixteen holds of every record of the plain table
by_char : (P : ℕ → Record → Type 0) → ((c : Char) → P (code_point c) (plain_record c)) → (n : ℕ) (r : Record) → find plain.records n ≡ some r → P n r
unfolding plain plain_records plain_record
by_char P h n r e = let (c, p, q) = among plain_record sixteen n r e in subst (λ (m : ℕ). P m r) p (subst (λ (s : Record). P (code_point c) s) q (h c))

found_plain : (c : Char) → find plain.records (code_point c) ≡ some (plain_record c)
unfolding plain
found_plain c = find_plain c

-- ---- the renaming
module _ (code : Char → ℕ) where
  pub code_of_lem : (c : Char) → code_of code (code_point c) ≡ code c
  unfolding code_of
  code_of_lem = each (λ c. code_of code (code_point c) ≡ code c) (refl, refl, refl, refl, refl, refl, refl, refl, refl, refl, refl, refl, refl, refl, refl, refl)

  -- the plain character for a character of the other table
  abbrev pub plain_among : List Char → ℕ → ℕ
  plain_among [] n = n
  plain_among (c ∷ cs) n = cond (eqb (code c) n) (code_point c) (plain_among cs n)

  -- of each of the sixteen: its record stands in the other table, its character goes back to the plain one, and it is a gap character where that one is
  pub record Suits (cs : List Char) : Type 0 where
    pub found : (c : Char) → find (table_of code cs).records (code c) ≡ some (record_of code c)
    pub back : (c : Char) → plain_among sixteen (code c) ≡ code_point c
    pub gaps : (c : Char) → gap_char (code c) ≡ gap_char (code_point c)

  module _ (cs : List Char) (suits : Suits cs) where
    there_and_back : (n : ℕ) (r : Record) → find plain.records n ≡ some r → plain_among sixteen (code_of code n) ≡ n
    there_and_back = by_char (λ n r. plain_among sixteen (code_of code n) ≡ n) (λ c. rw (code_of_lem c) (suits.back c))

    pub renaming : Renaming (code_of code) plain (table_of code cs)
    unfolding table_of record_of plain_record
    renaming = record {
      there = by_char (λ n r. find (table_of code cs).records (code_of code n) ≡ some (renamed (code_of code n) r)) (λ c. rw (code_of_lem c) (suits.found c));
      back = λ d s h. let (c, p, q) = among (record_of code) cs d s h in (code_point c, plain_record c, found_plain c, code_of_lem c ∙ p);
      one_to_one = λ c d r s h k e. sym (there_and_back c r h) ∙ ap (plain_among sixteen) e ∙ there_and_back d s k;
      has_rom = by_char (λ n r. (x : Text) × (r.rom ≡ some x)) (λ c. (decimal (char_value c), refl));
      gaps = by_char (λ n r. gap_char (code_of code n) ≡ gap_char n) (λ c. rw (code_of_lem c) (suits.gaps c));
    }

-- ---- a line of the sixteen
module _ (f : ℕ → ℕ) where
  pub twin_plain : (w : List Char) → twin f plain (map code_point w) ≡ map (λ (c : Char). f (code_point c)) w
  twin_plain [] = refl
  twin_plain (c ∷ w) = rw (found_plain c, twin_plain w)

pub none_remaining : (u : Table) (w : List Char) → Remaining plain u (map code_point w)
none_remaining u [] = tt
none_remaining u (c ∷ w) = ((λ h. absurd (some-ne-none _ (sym (found_plain c) ∙ h))), none_remaining u w)
