-- Laws of a character's texts and fraction, by its record. Assumes nothing.
use mathlib.Core.Path.{◌≡◌, sym, ap, ◌∙◌}
use mathlib.Core.List.{List}
use mathlib.Core.Option.{none}
use Prim.Native.Nat.{ℕ, ◌+◌, ◌/◌, ◌%◌}
use lib.ListN.{get_or}
use borrow.Author.Tests.{ne_eqb}
use Rattle.text.specs.Text.{chars}
use Rattle.table.specs.Table.{Text}
use Rattle.pass_list.specs.declared.record.PassEdge.{PassEdge}
use Rattle.pass_list.specs.StoredEdge.{StoredEdge}
use Rattle.pass_list.specs.Kind.{kind_number}
use Rattle.pass_edge.specs.Grounded.{LegalAt, StoredIs}
use Rattle.pass_edge.specs.Texts.{char_txt, char_type, TextsAre}
use Rattle.pass_edge.specs.Fields.{stored_fraction}
use Rattle.pass_edge.proofs.RecordLaws.{fraction_absent}
use Rattle.pass_edge.proofs.TextLaws.{txt_char, type_char}

pub no_fraction : (t : List ℕ) (at : ℕ) → LegalAt t at → (get_or t (at + 4) 0 / 4 % 2 ≡ 1 → ⊥) → none ≡ stored_fraction t 0 at
unfolding stored_fraction
no_fraction t at l h = rw (l.reads, fraction_absent t at l.reads (ne_eqb (get_or t (at + 4) 0 / 4 % 2) 1 h))

module _ (line t : List ℕ) (e : PassEdge) (z : kind_number e.kind ≡ 0) where
  pub char_fraction : stored_fraction t 0 e.record_at.0 ≡ stored_fraction t (kind_number e.kind) e.record_at.0
  char_fraction = ap (λ (k : ℕ). stored_fraction t k e.record_at.0) (sym z)

  pub char_texts : {ty tx : Text} → ty ≡ char_type t e.record_at.0 → tx ≡ char_txt (chars line) t e.record_at.0 e.start.0 e.end.0 → (x : StoredEdge) → StoredIs line t e x → TextsAre line t e ty tx x
  char_texts a b x h = record { stored_edge = h; type = a ∙ type_char (chars line) t e x h.is z; txt = b ∙ txt_char (chars line) t e x h.is z }
