-- Laws of the copy in which each character is tried (`Stands` of `specs/Tried.antt`), and of the rows that are put, for the proofs of `rows`.
-- In order: the copy; a character in it; its value; rows so far; the answer for the rows.
use Prim.Native.Nat.{ℕ, ◌+◌, ◌*◌, ◌≤◌, ◌<◌}
use mathlib.Core.Path.{◌≡◌, refl, sym, ap, ◌∙◌}
use mathlib.Core.List.{List, [], ◌∷◌, ◌++◌, map, map-append, append_assoc, append-nil}
use mathlib.Core.Option.{Option, none, some}
use native.Mathlib.Omega.{arith}
use native.Mathlib.Numerals.{add-one}
use lib.ListN.{length, take, drop, length-append}
use lib.Seq.{sets, sets-eq, take_at, drop_at, take-suc, take_all}
use borrow.Author.Tests.{lt-ltb, le-ltb}
use Rattle.text.specs.Text.{chars}
use Rattle.whole.specs.Decimal.{decimal}
use Rattle.whole.proofs.SetsLaws.{sets_then}
use Rattle.whole.proofs.DecimalLaws.{length_decimal_top}
use Rattle.edge.specs.Write.{Put}
use Rattle.grammar.specs.Plain.{Char, digit, utf8, 零}
use Rattle.grammar.proofs.PlainText.{utf8_append, utf8_length}
use Rattle.numeral.specs.Field.{field_of}
use Rattle.numeral.specs.Walk.{valued}
use Rattle.numeral.proofs.FieldLaws.{valued_some, valued_none}
use Rattle.sheet_rows.specs.Rows.{order, char_at, number_of, row_if, rows_of, row_of, row_bytes, rows_bytes}
use Rattle.sheet_rows.proofs.RowLaws.{numeral_within_lem, number_within, length_row, rows_bytes_more}
use Rattle.sheet_rows.proofs.CodeLaws.{row_is}
use Rattle.worn.specs.Worn.{serves, worn_rows, worn_bytes, unless_none, finished}
use Rattle.worn.specs.Marked.{mark_bytes, WornAt}
use Rattle.worn.specs.Tried.{Stands, AnswersRows}
use Rattle.worn.proofs.PartLaws.{found_short}
use Rattle.std.specs.Prelude.{Some, None, Ok, Err}
use Rattle.std.specs.Prelude as std
use Rattle.worn.specs.declared.WornRefusal.TheVariants as WornRefusal

-- ---- the copy
module _ (line : List ℕ) (at : ℕ) (w : WornAt line at) (short : length (chars line) ≤ 256) where
  line_size : length line ≡ at + 3 + 3 * length w.y
  line_size =
      let n = ap length w.text ∙ length-append (utf8 w.x) (mark_bytes ++ utf8 w.y) in
      omega (arith, n, length-append mark_bytes (utf8 w.y), utf8_length w.x, utf8_length w.y, w.place)

  pub copy_fits : length line ≤ 768
  copy_fits = omega (arith, line_size, found_short line w short, w.place)

  pub copy_stands : (b : List ℕ) {c : List ℕ} → length b ≡ 768 → c ≡ sets b 0 line → Stands c (length line) at w.x w.y
  copy_stands b l e = record {
    middle = mark_bytes;
    rest = drop (length line) b;
    all = e ∙ front ∙ ap (λ (t : List ℕ). t ++ drop (length line) b) w.text
        ∙ append_assoc (utf8 w.x) (mark_bytes ++ utf8 w.y) (drop (length line) b)
        ∙ ap (λ (t : List ℕ). utf8 w.x ++ t) (append_assoc mark_bytes (utf8 w.y) (drop (length line) b));
    three = refl;
    place = w.place;
    end = line_size;
    short = found_short line w short;
  }
    where
      front : sets b 0 line ≡ line ++ drop (length line) b
      front = let z : 0 + length line ≡ length line = omega arith in rw z at (sets-eq line b 0 (omega (arith, copy_fits)))

-- ---- a character in it
pub char_there : {s t : List ℕ} {at r : ℕ} (k : Char) → Put s t at r (utf8 (k ∷ [])) → Put s t at (at + 3) (utf8 (k ∷ []))
char_there k p = record { wrote = p.wrote; next = omega (arith, utf8_length (k ∷ [])) }

sets_middle : (p m r t : List ℕ) (at : ℕ) → length p ≡ at → length m ≡ length t → sets (p ++ (m ++ r)) at t ≡ p ++ (t ++ r)
sets_middle p m r t at a l =
    let size = length-append p (m ++ r) in let size-2 = length-append m r in let size-3 = length-append p m in
    let front : take at (p ++ (m ++ r)) ≡ p = take_at p (m ++ r) at a in
    let back : drop (at + length t) (p ++ (m ++ r)) ≡ r = ap (drop (at + length t)) (sym (append_assoc p m r)) ∙ drop_at (p ++ m) r (at + length t) (omega arith) in
    sets-eq t (p ++ (m ++ r)) at (omega arith) ∙ rw (front, back) (append_assoc p t r)

module _ (b : List ℕ) (len at : ℕ) (x y : List Char) (s : Stands b len at x y) where
  pub stands_fits : (at + 3 ≤ len) × (len ≤ length b)
  stands_fits =
      let n = ap length s.all ∙ length-append (utf8 x) (s.middle ++ (utf8 y ++ s.rest)) in
      (omega (arith, s.end), omega (arith, n, length-append s.middle (utf8 y ++ s.rest), length-append (utf8 y) s.rest, utf8_length x, utf8_length y, s.three, s.place, s.end))

  module _ (k : Char) {c : List ℕ} {r : ℕ} (p : Put b c at r (utf8 (k ∷ []))) where
    tried : c ≡ utf8 x ++ (utf8 (k ∷ []) ++ (utf8 y ++ s.rest))
    tried = p.wrote ∙ ap (λ (t : List ℕ). sets t at (utf8 (k ∷ []))) s.all
        ∙ sets_middle (utf8 x) s.middle (utf8 y ++ s.rest) (utf8 (k ∷ [])) at (omega (arith, utf8_length x, s.place)) (omega (arith, s.three, utf8_length (k ∷ [])))

    pub tried_stands : Stands c len at x y
    tried_stands = record { middle = utf8 (k ∷ []); rest = s.rest; all = tried; three = utf8_length (k ∷ []); place = s.place; end = s.end; short = s.short }

    -- the three bytes
    pub tried_char : (n : ℕ) → n ≡ 3 → take n (drop at c) ≡ utf8 (k ∷ [])
    tried_char n e =
        ap (λ (t : List ℕ). take n (drop at t)) tried ∙ ap (take n) (drop_at (utf8 x) (utf8 (k ∷ []) ++ (utf8 y ++ s.rest)) at (omega (arith, utf8_length x, s.place)))
        ∙ take_at (utf8 (k ∷ [])) (utf8 y ++ s.rest) n (utf8_length (k ∷ []) ∙ sym e)

    -- the line with the character
    tried_line : take len c ≡ utf8 (x ++ (k ∷ y))
    tried_line =
        let whole : utf8 (x ++ (k ∷ y)) ++ s.rest ≡ c =
        ap (λ (t : List ℕ). t ++ s.rest) (utf8_append x (k ∷ y) ∙ ap (λ (t : List ℕ). utf8 x ++ t) (utf8_append (k ∷ []) y))
        ∙ append_assoc (utf8 x) (utf8 (k ∷ []) ++ utf8 y) s.rest ∙ ap (λ (t : List ℕ). utf8 x ++ t) (append_assoc (utf8 (k ∷ [])) (utf8 y) s.rest) ∙ sym tried in
        ap (take len) (sym whole) ∙ take_at (utf8 (x ++ (k ∷ y))) s.rest len (omega (arith, utf8_length (x ++ (k ∷ y)), length-append x (k ∷ y), s.place, s.end))

    -- ---- its value
    pub tried_value : {f : std.Option ℕ} → f ≡ valued (number_of (field_of (take len c))) → f ≡ valued (serves x y k)
    tried_value e =
        e ∙ ap (λ (t : List ℕ). valued (number_of (field_of t))) tried_line
        ∙ ap valued (number_within (x ++ (k ∷ y)) (omega (arith, length-append x (k ∷ y), s.short)))

-- ---- rows so far
rows_last : {A : Type 0} (f : A → Option ℕ) (l : List A) (a : A) → rows_of f (l ++ (a ∷ [])) ≡ rows_of f l ++ row_if a (f a) []
unfolding rows_of
rows_last f [] a = refl
rows_last {A} f (b ∷ l) a = go (f b) (rows_last f l a)
  where
    go : (o : Option ℕ) → rows_of f (l ++ (a ∷ [])) ≡ rows_of f l ++ row_if a (f a) [] → row_if b o (rows_of f (l ++ (a ∷ []))) ≡ row_if b o (rows_of f l) ++ row_if a (f a) []
    go none h = h
    go (some v) h = ap (λ (rs : List (A × ℕ)). (b, v) ∷ rs) h

-- the rows of the first characters, as many as r
unfoldable pub so_far : List Char → List Char → ℕ → List (Char × ℕ)
so_far x y r = rows_of (serves x y) (take r order)

so_far_more : (x y : List Char) (r : ℕ) → r < 16 → so_far x y (r + 1) ≡ so_far x y r ++ row_if (char_at r) (serves x y (char_at r)) []
unfolding so_far
so_far_more x y r h = ap (λ (n : ℕ). rows_of (serves x y) (take n order)) (add-one r) ∙ ap (rows_of (serves x y)) (take-suc order r (digit 零) h) ∙ rows_last (serves x y) (take r order) (char_at r)

bytes_more : (rs : List (Char × ℕ)) (c : Char) (v : ℕ) → worn_bytes (rs ++ ((c, v) ∷ [])) ≡ worn_bytes rs ++ row_bytes (c ∷ [], v)
unfolding worn_bytes
bytes_more rs c v = ap rows_bytes (map-append _ rs ((c, v) ∷ [])) ∙ rows_bytes_more _ (c ∷ [], v)

pub record Rowing (x y : List Char) (s t b : List ℕ) (len at end r : ℕ) : Type 0 where
  pub stands : Stands b len at x y
  pub put : Put s t 0 end (worn_bytes (so_far x y r))
  pub few : r ≤ 16
  pub room : end ≤ 21 * r

pub rowing_start : (x y : List Char) (s b : List ℕ) (len at : ℕ) → Stands b len at x y → Rowing x y s s b len at 0 0
unfolding so_far worn_bytes rows_bytes rows_of
rowing_start x y s b len at h = record { stands = h; put = record { wrote = refl; next = refl }; few = omega arith; room = omega arith }

module _ (x y : List Char) (s t b : List ℕ) (len at end r : ℕ) (so : Rowing x y s t b len at end r) (h : r < 16) where
  module _ {c : List ℕ} {n : ℕ} (p : Put b c at n (utf8 (char_at r ∷ []))) {f : std.Option ℕ} (e : f ≡ valued (number_of (field_of (take len c)))) where
    pub rowing_none : f ≡ None → Rowing x y s t c len at end (r + 1)
    rowing_none k =
        let no : serves x y (char_at r) ≡ none = valued_none _ (sym (tried_value b len at x y so.stands (char_at r) p e) ∙ k) in
        let same : so_far x y r ≡ so_far x y (r + 1) = sym (so_far_more x y r h ∙ rw no (append-nil (so_far x y r))) in
        record {
          stands = tried_stands b len at x y so.stands (char_at r) p;
          put = rw same at so.put;
          few = omega arith;
          room = omega (arith, so.room);
        }

    module _ (v : ℕ) (k : f ≡ Some v) where
      yes : serves x y (char_at r) ≡ some v
      yes = valued_some _ v (sym (tried_value b len at x y so.stands (char_at r) p e) ∙ k)

      -- a row has at most 21 bytes
      pub row_small : length (decimal v) ≤ 16
      row_small = length_decimal_top v ((numeral_within_lem (x ++ (char_at r ∷ y)) v).0 yes).1

      pub rowing_row : {u m : List ℕ} {q : ℕ} → m ≡ utf8 (char_at r ∷ []) → Put t u end q (row_of m v) → Rowing x y s u c len at q (r + 1)
      rowing_row m z =
          let row = row_is (char_at r ∷ []) v m z in
          let rows : so_far x y (r + 1) ≡ so_far x y r ++ ((char_at r, v) ∷ []) = so_far_more x y r h ∙ rw yes in
          let bytes : worn_bytes (so_far x y (r + 1)) ≡ worn_bytes (so_far x y r) ++ row_bytes (char_at r ∷ [], v) = ap worn_bytes rows ∙ bytes_more (so_far x y r) (char_at r) v in
          let size = length-append (worn_bytes (so_far x y r)) (row_bytes (char_at r ∷ [], v)) in
          record {
            stands = tried_stands b len at x y so.stands (char_at r) p;
            put = rw bytes (record {
              wrote = sets_then s 0 end (worn_bytes (so_far x y r)) (row_bytes (char_at r ∷ [], v)) so.put.wrote so.put.next row.wrote;
              next = omega (arith, so.put.next, row.next, size);
            });
            few = omega arith;
            room = omega (arith, so.room, row.next, length_row (char_at r ∷ [], v), row_small);
          }

pub rowing_ends : (x y : List Char) (s t b : List ℕ) (len at end r : ℕ) → Rowing x y s t b len at end r → 16 ≤ r → Put s t 0 end (worn_bytes (worn_rows x y))
unfolding so_far worn_rows
rowing_ends x y s t b len at end r so h = rw (take_all r order h) at so.put

-- ---- the answer for the rows
none_written : (rs : List (Char × ℕ)) → length (worn_bytes rs) ≡ 0 → rs ≡ []
unfolding worn_bytes rows_bytes
none_written [] e = refl
none_written (r ∷ rs) e =
    absurd (omega (arith, e, length-append (row_bytes (r.0 ∷ [], r.1)) (rows_bytes (map (λ r. (r.0 ∷ [], r.1)) rs)), length_row (r.0 ∷ [], r.1)))

some_written : (rs : List (Char × ℕ)) → 0 < length (worn_bytes rs) → unless_none rs ≡ Ok (length (worn_bytes rs))
unfolding worn_bytes rows_bytes
some_written [] h = absurd (omega arith)
some_written (r ∷ rs) h = refl

module _ (t s : List ℕ) where
  pub rows_too_short : length s < length t → AnswersRows t s (Err WornRefusal.TooShort) s
  unfolding finished
  rows_too_short h rs e = (rw (lt-ltb (length s) (length (worn_bytes rs)) (omega (arith, ap length e))), refl)

  pub rows_nothing : length t ≡ 0 → AnswersRows t s (Err WornRefusal.NoneServes) s
  unfolding finished
  rows_nothing h rs e =
      let z : rs ≡ [] = none_written rs (sym (ap length e) ∙ h) in
      (rw (le-ltb (length s) (length (worn_bytes rs)) (omega (arith, ap length e)), z), refl)

  pub rows_written : length t ≤ length s → 0 < length t → {u : List ℕ} → u ≡ sets s 0 t → AnswersRows t s (Ok (length t)) u
  unfolding finished
  rows_written l h q rs e =
      (rw (le-ltb (length s) (length (worn_bytes rs)) (omega (arith, ap length e)), some_written rs (omega (arith, ap length e))) (ap (λ (w : List ℕ). (Ok (length w))) e), q ∙ ap (sets s 0) e)
