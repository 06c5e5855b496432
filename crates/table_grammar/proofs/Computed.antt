-- The grammar computed: of a line of characters, over any alphabet, the value of its reading where it has one. Since the members are found by chains (`proofs/Pieces.antt`), it
-- remains to test that all but the last are blocks and that each is below the one before it.
--     said A w       the value of the numeral w; none where w is no numeral
--     said_none      a line whose first two members are no block and what is below it is no numeral
--     said_reading   a reading's value is what is said; reading_said: what is said is a reading's value
use Prim.Native.Nat.{ℕ}
use mathlib.Core.Path.{◌≡◌, refl, sym, ap, ◌∙◌}
use mathlib.Core.Bool.{Bool, true, false, cond, ◌&&◌, false≢true}
use mathlib.Core.List.{List, [], ◌∷◌}
use mathlib.Core.Option.{Option, none, some, some-ne-none, some-injective}
use lib.Dec.{ltb}
use Rattle.table_grammar.specs.Row.{Row, one, ◌▷◌, ◌<>>◌, last}
use Rattle.table_grammar.specs.Grammar.{CharOf, MemberOf, small, block, lone, DivisionOf, Alphabet, member_base, IsMember, IsBlock, count_value, count_base, IsNumeral, division_value, ReadingOf}
use Rattle.table_grammar.proofs.Tests.{le_true, true_le, and_left, and_right}
use Rattle.table_grammar.proofs.ChainParts.{Along, Inside, along_row}
use Rattle.table_grammar.proofs.Pieces.{members, member_chars, chars_members}
use Rattle.table_grammar.proofs.Readings.{Apart₄, along₄, members_found, division_chars, build, row_of, row_build}

build_row : {A : Type 0} (r : Row A) (l : List A) → build r l <>> [] ≡ r <>> l
build_row r [] = refl
build_row r (a ∷ l) = build_row (r ▷ a) l

module _ {D T L : Type 0} (A : Alphabet D T L) where
  abbrev pub is_block : MemberOf D T L → Bool
  is_block (small s) = false
  is_block (block s l) = true
  is_block (lone l) = true

  -- m is below the base of the member n before it
  abbrev pub is_below : MemberOf D T L → MemberOf D T L → Bool
  is_below n m = ltb (count_value A (A.tenths n) (member_base A n) m) (member_base A n) && ltb (count_base A (A.tenths n) (member_base A n) m) (member_base A n)

  abbrev in_order : DivisionOf D T L → Bool
  in_order (one m) = true
  in_order (d ▷ m) = in_order d && (is_block (last d) && is_below (last d) m)

  abbrev value_of : Option (DivisionOf D T L) → Option ℕ
  value_of none = none
  value_of (some d) = cond (in_order d) (some (division_value A d)) none

  abbrev pub said : List (CharOf D T L) → Option ℕ
  said w = value_of (row_of (members A w))

  order_stays : (d : DivisionOf D T L) (ms : List (MemberOf D T L)) → in_order d ≡ false → in_order (build d ms) ≡ false
  order_stays d [] h = h
  order_stays d (m ∷ ms) h = order_stays (d ▷ m) ms (rw h)

  -- a line whose first two members are no block and what is below it is no numeral
  pub said_none : (w : List (CharOf D T L)) (n m : MemberOf D T L) (ms : List (MemberOf D T L)) → members A w ≡ n ∷ m ∷ ms → is_block n && is_below n m ≡ false → said w ≡ none
  said_none w n m ms h e = rw (h, order_stays (one n ▷ m) ms e)

  is_block_lem : (m : MemberOf D T L) → IsBlock m → is_block m ≡ true
  is_block_lem (small s) h = absurd h
  is_block_lem (block s l) h = refl
  is_block_lem (lone l) h = refl

  block_is : (m : MemberOf D T L) → is_block m ≡ true → IsBlock m
  block_is (small s) h = absurd (false≢true h)
  block_is (block s l) h = tt
  block_is (lone l) h = tt

  in_order_lem : (d : DivisionOf D T L) → IsNumeral A d → in_order d ≡ true
  in_order_lem (one m) h = refl
  in_order_lem (d ▷ m) h = rw (in_order_lem d h.0, is_block_lem (last d) h.1, le_true h.3, le_true h.4)

  order_in : (d : DivisionOf D T L) → Inside (IsMember A) (Apart₄ A) d → in_order d ≡ true → IsNumeral A d
  order_in (one m) i h = i
  order_in (d ▷ m) i h =
      let k : is_block (last d) && is_below (last d) m ≡ true = and_right (in_order d) _ h in
      let b : is_below (last d) m ≡ true = and_right (is_block (last d)) _ k in
      (order_in d i.0 (and_left _ _ h), block_is (last d) (and_left _ _ k), i.2, true_le _ _ (and_left _ _ b), true_le _ _ (and_right (ltb (count_value A (A.tenths (last d)) (member_base A (last d)) m) (member_base A (last d))) _ b))

  pub said_reading : (w : List (CharOf D T L)) (r : ReadingOf A w) → said w ≡ some (division_value A r.division)
  said_reading w r =
      let d = r.division in
      let found : row_of (members A w) ≡ some d = ap row_of (members_found A w d r.rules r.whole) ∙ row_build d [] in
      ap value_of found ∙ rw (in_order_lem d r.rules)

  pub reading_said : (w : List (CharOf D T L)) (v : ℕ) → said w ≡ some v → (r : ReadingOf A w) × (division_value A r.division ≡ v)
  reading_said w v e = go (members A w) refl (along₄ A w) e
    where
      by_test : (d : DivisionOf D T L) (b : Bool) → in_order d ≡ b → cond b (some (division_value A d)) none ≡ some v → (in_order d ≡ true) × (division_value A d ≡ v)
      by_test d true h e = (h, some-injective _ _ e)
      by_test d false h e = absurd (some-ne-none v (sym e))

      go : (ms : List (MemberOf D T L)) → members A w ≡ ms → Along (IsMember A) (Apart₄ A) ms → value_of (row_of ms) ≡ some v → (r : ReadingOf A w) × (division_value A r.division ≡ v)
      go [] h a e = absurd (some-ne-none v (sym e))
      go (m ∷ ms) h a e =
          let d = build (one m) ms in
          let row : d <>> [] ≡ m ∷ ms = build_row (one m) ms in
          let (o, value) = by_test d (in_order d) refl e in
          let inside : Inside (IsMember A) (Apart₄ A) d = (along_row (IsMember A) (Apart₄ A) d [] (rw row a)).0 in
          (record { division = d; whole = sym (division_chars A d []) ∙ ap (member_chars A) (row ∙ sym h) ∙ chars_members A w; rules = order_in d inside o }, value)
