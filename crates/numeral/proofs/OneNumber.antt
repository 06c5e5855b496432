-- S-4 (02). For a line that is not refused 2 or 3: yes with the value exactly for a numeral whose value is at most TOP, 7 exactly for a numeral whose value is
-- above TOP, no for every other line of table characters and for every line with another character; and where the five passes accept the line, the yes and the
-- value are theirs. The words are defined in `specs/Field.antt` (field_of), `specs/Numeral.antt` (numeral_of, Valued), and in `grammar` (Reading; IsLine and OneEdge, of its
-- demand 3). Assumes nothing.
use Prim.Native.Nat.{ℕ, ◌≤◌, ◌<◌}
use mathlib.Core.Path.{◌≡◌, refl, sym, ap, ◌∙◌}
use mathlib.Core.Logic.{◌↔◌}
use mathlib.Core.Bool.{true}
use mathlib.Core.List.{List, map}
use mathlib.Core.Option.{Option, none, some, some-ne-none, some-injective}
use lib.ListN.{length}
use Rattle.text.specs.Text.{well_formed, chars}
use Rattle.whole.specs.Whole.{TOP}
use Rattle.passes.specs.NumEdge.{NumEdge}
use Rattle.passes.specs.Passes.{above_at}
use Rattle.grammar.specs.Plain.{Char, code_point, plain, utf8}
use Rattle.grammar.specs.Grammar.{Reading, division_value}
use Rattle.grammar.proofs.Demand3.{IsLine, OneEdge, Settled, demand3}
use Rattle.numeral.specs.Numeral.{numeral_of, Valued}
use Rattle.numeral.specs.Field.{plain_line, answered, plain_field, field_of}
use Rattle.numeral.proofs.Sound.{sound_numeral}
use Rattle.numeral.proofs.Found.{found}
use Rattle.numeral.proofs.AnswerLaws.{yes_of, above_of, no_of, none_of}
use Rattle.numeral.proofs.FieldLaws.{accepted_field, plain_field_lem, utf8_field, line_plain}
use Rattle.std.specs.Prelude.{Some, None, Ok, Err}
use Rattle.numeral.specs.declared.FieldRefusal.TheVariants as FieldRefusal

-- ---- what is said

-- the line is refused neither 2 nor 3
pub record Accepted (line : List ℕ) : Type 0 where
  pub is_well_formed : well_formed line ≡ true
  pub not_long : length (chars line) ≤ 256

-- the answer for a line whose characters are w, all of the table; `Valued w v`: w has a reading of value v
pub record Answers (line : List ℕ) (w : List Char) : Type 0 where
  pub yes : (v : ℕ) → (field_of line ≡ Ok (Some v)) ↔ (Valued w v × (v ≤ TOP))
  pub above : (field_of line ≡ Err FieldRefusal.AboveTop) ↔ ((v : ℕ) × Valued w v × (TOP < v))
  pub no : (field_of line ≡ Ok None) ↔ (Reading w → ⊥)

-- ---- `numeral_of` is the grammar's
pub reading_value : (w : List Char) (r : Reading w) → numeral_of w ≡ some (division_value r.division)
reading_value w r = rw (← r.whole) (found r.division r.rules)

pub numeral_of_lem : (w : List Char) (v : ℕ) → (numeral_of w ≡ some v) ↔ Valued w v
numeral_of_lem w v = (sound_numeral w none tt v, λ h. reading_value w h.0 ∙ ap some h.1)

-- ---- the line
module _ (line : List ℕ) (w : List Char) (is : IsLine line w) (short : length (chars line) ≤ 256) where
  field_is : field_of line ≡ answered (numeral_of w)
  field_is = plain_field_lem line w is short

  pub answers : Answers line w
  answers = record {
    yes = λ v. (
      λ e. let (h, l) = (yes_of (numeral_of w) v).0 (sym field_is ∙ e) in ((numeral_of_lem w v).0 h, l),
      λ h. field_is ∙ (yes_of (numeral_of w) v).1 ((numeral_of_lem w v).1 h.0, h.1),
    );
    above = (
      λ e. let (v, h, l) = (above_of (numeral_of w)).0 (sym field_is ∙ e) in (v, (numeral_of_lem w v).0 h, l),
      λ h. field_is ∙ (above_of (numeral_of w)).1 (h.0, (numeral_of_lem w h.0).1 h.1, h.2),
    );
    no = (
      λ e r. some-ne-none _ (sym (reading_value w r) ∙ (no_of (numeral_of w)).0 (sym field_is ∙ e)),
      λ n. field_is ∙ (no_of (numeral_of w)).1 (none_of (numeral_of w) (λ v e. n ((numeral_of_lem w v).0 e).0)),
    );
  }

  -- "On every line of table characters that the five passes accept, its yes and its value are theirs."
  pub as_the_passes : above_at plain (chars line) ≡ none → (v : ℕ) → (field_of line ≡ Ok (Some v)) ↔ ((e : NumEdge) × OneEdge line e × (e.value ≡ some v))
  as_the_passes fine v = (
    λ h. let (r, q) = ((answers.yes v).0 h).0 in let (e, o) = s.one_edge.1 r in (e, o, (s.same_value e o r).value ∙ ap some q),
    λ h.
        let r = s.one_edge.0 (h.0, h.1) in
        let c = s.same_value h.0 h.1 r in
        let q : division_value r.division ≡ v = some-injective _ v (sym c.value ∙ h.2) in
        (answers.yes v).1 ((r, q), rw q at c.within),
  )
    where
      s : Settled line w
      s = demand3 line w is fine

-- "one with a character outside the table"
pub outside : (line : List ℕ) → Accepted line → ((w : List Char) → chars line ≡ map code_point w → ⊥) → field_of line ≡ Ok None
outside line a n = accepted_field line a.is_well_formed a.not_long ∙ go (plain_line (chars line)) refl
  where
    go : (o : Option (List Char)) → plain_line (chars line) ≡ o → plain_field o ≡ Ok None
    go none e = refl
    go (some w) e = absurd (n w (line_plain (chars line) w e))

-- the bytes of a numeral up to TOP are answered with its value
pub field_of_reading : (w : List Char) → length w ≤ 256 → (r : Reading w) (v : ℕ) → division_value r.division ≡ v → v ≤ TOP → field_of (utf8 w) ≡ Ok (Some v)
field_of_reading w h r v e l = utf8_field w h ∙ (yes_of (numeral_of w) v).1 (reading_value w r ∙ ap some e, l)
