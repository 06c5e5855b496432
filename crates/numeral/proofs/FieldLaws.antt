-- Laws of the answer for a whole line (`specs/Field.antt`), for the proofs of this crate.
-- In order: values; characters of the plain table and code points; a line of such characters; any other line; what the code answers.
use Prim.Native.Nat.{ℕ, ◌≤◌, ◌<◌}
use mathlib.Core.Path.{◌≡◌, refl, sym, ap, ◌∙◌}
use mathlib.Core.Bool.{Bool, true, false, cond}
use mathlib.Core.List.{List, [], ◌∷◌, map}
use mathlib.Core.Option.{Option, none, some, some-ne-none, some-injective}
use native.Mathlib.Omega.{arith}
use lib.ListN.{length, drop, length-map}
use lib.Dec.{leb, eqb}
use borrow.Author.Tests.{eqb-true, le-leb, leb-true}
use Rattle.text.specs.Text.{chars, well_formed, encodes}
use Rattle.text.specs.Line.{line_check}
use Rattle.text.specs.declared.Offset.{Offset}
use Rattle.text.proofs.TextLaws.{well_formed_split}
use Rattle.grammar.specs.Plain.{Char, code_point, sixteen, utf8}
use Rattle.grammar.proofs.Sixteen.{each}
use Rattle.grammar.proofs.PlainText.{utf8_length}
use Rattle.grammar.proofs.Demand3.{IsLine, line_of}
use Rattle.numeral.specs.Numeral.{reads, result, start, numeral_of}
use Rattle.numeral.specs.Field.{plain_among, plain_char, behind, plain_line, answered, plain_field, checked, field_of}
use Rattle.numeral.specs.Walk.{capped, plain_text, valued, value_on, value_from}
use Rattle.numeral.proofs.Capped.{cap_numeral}
use Rattle.numeral.proofs.WalkLaws.{text_of, of_text}
use Rattle.std.specs.Prelude.{Some, None, Result, Ok, Err}
use Rattle.std.specs.Prelude as std
use Rattle.numeral.specs.declared.FieldRefusal.{FieldRefusal}
use Rattle.text.specs.declared.LineRefusal.{LineRefusal}

-- ---- values
pub valued_none : (o : Option ℕ) → valued o ≡ None → o ≡ none
valued_none none e = refl
valued_none (some v) e = absurd cc

pub valued_some : (o : Option ℕ) (n : ℕ) → valued o ≡ Some n → o ≡ some n
valued_some none n e = absurd cc
valued_some (some v) n e = let q : v ≡ n = cc in ap some q

-- ---- characters and code points
plain_code : (k : Char) → plain_char (code_point k) ≡ some k
unfolding plain_char plain_among
plain_code = each (λ k. plain_char (code_point k) ≡ some k) (refl, refl, refl, refl, refl, refl, refl, refl, refl, refl, refl, refl, refl, refl, refl, refl)

among_code : (ks : List Char) (c : ℕ) (k : Char) → plain_among ks c ≡ some k → c ≡ code_point k
unfolding plain_among
among_code [] c k e = absurd (some-ne-none k (sym e))
among_code (j ∷ ks) c k e = go (eqb c (code_point j)) refl e (among_code ks c k)
  where
    go : (t : Bool) → eqb c (code_point j) ≡ t → cond t (some j) (plain_among ks c) ≡ some k → (plain_among ks c ≡ some k → c ≡ code_point k) → c ≡ code_point k
    go true q e ih = eqb-true c (code_point j) q ∙ ap code_point (some-injective j k e)
    go false q e ih = ih e

code_plain : (c : ℕ) (k : Char) → plain_char c ≡ some k → c ≡ code_point k
unfolding plain_char
code_plain c k e = among_code sixteen c k e

pub plain_line_codes : (w : List Char) → plain_line (map code_point w) ≡ some w
unfolding plain_line
plain_line_codes [] = refl
plain_line_codes (k ∷ w) = rw (plain_code k, plain_line, plain_line_codes w)

pub line_plain : (cs : List ℕ) (w : List Char) → plain_line cs ≡ some w → cs ≡ map code_point w
unfolding plain_line
line_plain [] w e = ap (map code_point) (some-injective [] w e)
line_plain (c ∷ cs) w e = go (plain_char c) refl (plain_line cs) refl e (line_plain cs)
  where
    go : (o : Option Char) → plain_char c ≡ o → (q : Option (List Char)) → plain_line cs ≡ q → elim o [ some k ↦ behind k q | none ↦ none ] ≡ some w
        → ((w : List Char) → plain_line cs ≡ some w → cs ≡ map code_point w) → c ∷ cs ≡ map code_point w
    go none e q h k ih = absurd (some-ne-none w (sym k))
    go (some j) e none h k ih = absurd (some-ne-none w (sym k))
    go (some j) e (some u) h k ih = rw (code_plain c j e, ih u h) (ap (map code_point) (some-injective (j ∷ u) w k))

-- ---- a line of such characters, refused neither 2 nor 3
pub accepted_field : (line : List ℕ) → well_formed line ≡ true → length (chars line) ≤ 256 → field_of line ≡ plain_field (plain_line (chars line))
unfolding field_of
accepted_field line f h = rw (f, le-leb (length (chars line)) 256 h)

pub plain_field_lem : (line : List ℕ) (w : List Char) → IsLine line w → length (chars line) ≤ 256 → field_of line ≡ answered (numeral_of w)
plain_field_lem line w is h = accepted_field line is.is_well_formed h ∙ rw (is.characters, plain_line_codes w)

-- as bytes
pub utf8_field : (w : List Char) → length w ≤ 256 → field_of (utf8 w) ≡ answered (numeral_of w)
unfolding utf8
utf8_field w h = let is = line_of w in plain_field_lem _ w is (omega (arith, ap length is.characters ∙ length-map w code_point))

-- ---- any other line: refusal 2 or 3, or no
module _ (line : List ℕ) where
  well_formed_plain : (w : List Char) → well_formed line ≡ true → chars line ≡ map code_point w → line ≡ utf8 w
  unfolding utf8
  well_formed_plain w f e = well_formed_split line f ∙ ap encodes e

  pub no_numeral : ((w : List Char) → line ≡ utf8 w → length w ≤ 256 → answered (numeral_of w) ≡ Ok None) → checked (line_check line) (Ok None) ≡ field_of line
  unfolding field_of
  no_numeral h = go (plain_line (chars line)) refl
    where
      in_turn : (w : List Char) → chars line ≡ map code_point w → (t : Bool) → well_formed line ≡ t → (s : Bool) → leb (length (chars line)) 256 ≡ s
          → (x : Result ℕ LineRefusal) (y z : Offset) → checked (cond t (cond s x (Err (LineRefusal.TooLong y))) (Err (LineRefusal.IllFormed z))) (Ok None) ≡ checked (cond t (cond s x (Err (LineRefusal.TooLong y))) (Err (LineRefusal.IllFormed z))) (answered (numeral_of w))
      in_turn w e false f s k x y z = refl
      in_turn w e true f false k x y z = refl
      in_turn w e true f true k x y z = ap (checked x) (sym (h w (well_formed_plain w f e) (omega (arith, leb-true (length (chars line)) 256 k, ap length e ∙ length-map w code_point))))

      go : (o : Option (List Char)) → plain_line (chars line) ≡ o → checked (line_check line) (Ok None) ≡ checked (line_check line) (plain_field o)
      go none e = refl
      go (some w) e = in_turn w (line_plain (chars line) w e) (well_formed line) refl (leb (length (chars line)) 256) refl _ _ _

  -- ---- what the code answers
  pub checked_no : {c : Result ℕ LineRefusal} → c ≡ line_check line → checked c (Ok None) ≡ checked (line_check line) (Ok None)
  checked_no e = ap (λ (c : Result ℕ LineRefusal). checked c (Ok None)) e

  pub too_many_bytes : 768 < length line → {f : Result (std.Option ℕ) FieldRefusal} → f ≡ checked (line_check line) (Ok None) → f ≡ field_of line
  too_many_bytes h q = q ∙ no_numeral (λ w e k. absurd (omega (arith, ap length e ∙ utf8_length w)))

  pub no_value : {v : std.Option ℕ} → v ≡ value_from start (drop 0 line) → v ≡ None → {f : Result (std.Option ℕ) FieldRefusal} → f ≡ checked (line_check line) (Ok None) → f ≡ field_of line
  unfolding value_from
  no_value {v} e n q = q ∙ no_numeral (λ w is k. sym (cap_numeral w) ∙ nothing w is)
    where
      nothing : (w : List Char) → line ≡ utf8 w → answered (result capped (reads capped start w)) ≡ Ok None
      nothing w is = ap answered (valued_none (result capped (reads capped start w)) (sym e' ∙ n))
        where
          e' : v ≡ valued (result capped (reads capped start w))
          e' = e ∙ ap (value_on start) (ap plain_text is ∙ text_of w)

  pub a_value : {v : std.Option ℕ} → length line ≤ 768 → v ≡ value_from start (drop 0 line) → (n : ℕ) → v ≡ Some n → {f : Result (std.Option ℕ) FieldRefusal} → f ≡ answered (some n) → f ≡ field_of line
  unfolding value_from
  a_value {v} h e n q {f} a = go (plain_text line) refl
    where
      go : (o : Option (List Char)) → plain_text line ≡ o → f ≡ field_of line
      go none p = let z : (Some n) ≡ None = sym q ∙ e ∙ ap (value_on start) p in let y : ◌≡◌ {A = ℕ} 0 1 = cc in absurd (omega arith)
      go (some w) p =
          let r : result capped (reads capped start w) ≡ some n = valued_some _ n (sym (ap (value_on start) p) ∙ sym e ∙ q) in
          let is = of_text line w p in
          a ∙ ap answered (sym r) ∙ cap_numeral w ∙ sym (utf8_field w (omega (arith, ap length is ∙ utf8_length w))) ∙ ap field_of (sym is)
