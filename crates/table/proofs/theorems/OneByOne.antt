-- The strings of a table's list one by one (01: "percentage markers, fraction connectors, plus signs, minus signs"), as `table::layout::text_at` answers them:
-- each answer is the next string, with the offset of the one behind it. The first stands behind the list's count (`list_texts` of `table`). For callers that walk over a list. No contract cites this file.
use mathlib.Core.Path.{◌≡◌, refl, sym, ap, ◌∙◌}
use mathlib.Core.List.{List, [], ◌∷◌}
use Prim.Native.Nat.{ℕ, suc}
use Rattle.table.specs.Table.{Text, Table}
use Rattle.table.specs.Layout.{Field, on_field, text, many_at, texts_at, list_at}
use Rattle.table.specs.Check.{Fine, read_table}
use Rattle.fields.specs.Part.{part_of}
use Rattle.table.specs.Answers.{text_field, table_of, table_answer}
use Rattle.table.specs.declared.shape.Shape.{Shape}
use Rattle.std.specs.Prelude.{Option, Some, None, Ok}
use Rattle.fields.specs.declared.Part.{Part}

-- the strings from an answer on: it, and n behind it
abbrev pub from_answer : List ℕ → ℕ → Option (Part × ℕ) → List Text
from_answer s n (Some (p, next)) = part_of s p ∷ texts_at n s next
from_answer s n None = []

-- what `text_at` ensures of its answer r
pub one_by_one : (s : List ℕ) (at n : ℕ) (r : Option (Part × ℕ)) → text_field s r ≡ text s at → texts_at (suc n) s at ≡ from_answer s n r
unfolding many_at
one_by_one s at n r e = ap (λ (f : Field Text). on_field f (λ t next. t ∷ texts_at n s next) []) (sym e) ∙ go r
  where
    go : (r : Option (Part × ℕ)) → on_field (text_field s r) (λ t next. t ∷ texts_at n s next) [] ≡ from_answer s n r
    go (Some (p, next)) = refl
    go None = refl

-- the lists of a table that passed are those at the offsets of its shape
pub record Lists (s : List ℕ) (h : Shape) (t : Table) : Type 0 where
  pub percentages : t.percentage_markers ≡ list_at s h.percentages
  pub connectors : t.fraction_connectors ≡ list_at s h.connectors
  pub plus : t.plus_signs ≡ list_at s h.plus
  pub minus : t.minus_signs ≡ list_at s h.minus

pub table_lists : (s : List ℕ) (h : Shape) {t : Table} {end : ℕ} → table_answer s (Ok h) ≡ read_table s → read_table s ≡ Fine t end → Lists s h t
unfolding table_of
table_lists s h {t} {end} e f =
    let q : table_of s h ≡ t = cc (e ∙ f) in
    record {
      percentages = sym (ap (λ (x : Table). x.percentage_markers) q);
      connectors = sym (ap (λ (x : Table). x.fraction_connectors) q);
      plus = sym (ap (λ (x : Table). x.plus_signs) q);
      minus = sym (ap (λ (x : Table). x.minus_signs) q);
    }
