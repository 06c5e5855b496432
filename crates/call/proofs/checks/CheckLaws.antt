-- Laws of the checks 2 to 6 (`specs/Checks.antt`). No contract cites this file.
-- In order: the checks 4 to 6; the line's. Assumes nothing.
use mathlib.Core.Path.{◌≡◌, refl, sym, ap, ◌∙◌}
use mathlib.Core.Bool.{true}
use mathlib.Core.List.{List}
use Prim.Native.Nat.{ℕ}
use lib.ListN.{length}
use borrow.Author.Tests.{le-leb}
use Rattle.text.specs.declared.Offset.{Offset}
use Rattle.text.specs.Text.{chars}
use Rattle.text.specs.Line.{max_chars, line_check}
use Rattle.text.proofs.line.LineLaws.{checked_line}
use Rattle.table.specs.Check.{Fine, Refused, cause_number, read_table}
use Rattle.table.specs.Answers.{table_of, table_answer}
use Rattle.table.specs.declared.shape.Shape.{Shape}
use Rattle.edge.specs.Check.{check_listing}
use Rattle.edge.specs.Layout.{listed}
use Rattle.numbers.specs.Call.{refused, Stages, after_line_check}
use Rattle.answers.specs.declared.Refusal.{Refusal}
use Rattle.answers.specs.declared.Refusal.TheVariants.{BadEdges}
use Rattle.answers.specs.Answers as Answers
use Rattle.answers.specs.Answers.{of_line}
use Rattle.call.specs.Checks.{table_refusal, of_table, Accepted, CallCheckIs, RestIs}
use Rattle.std.specs.Prelude.{Result, Ok, Err}
use Rattle.text.specs.declared.LineRefusal.{LineRefusal}
use Rattle.table.specs.declared.shape.TableRefusal.{TableRefusal}
use Rattle.table.specs.declared.shape.Cause.{Cause}

-- ---- the checks 4 to 6
-- the refusal says the number and the offset
abbrev Told : TableRefusal → Type 0
Told r = (cause_number r.cause ≡ Answers.number (of_table r)) × (r.at.0 ≡ Answers.place (of_table r))

pub table_told : (r : TableRefusal) → Told r
table_told r = by_cause r.cause r.at
  where
    by_cause : (cause : Cause) (at : Offset) → Told (record { cause = cause; at = at })
    by_cause Cause.Layout at = (refl, refl)
    by_cause Cause.Content at = (refl, refl)

-- the refusal by a cause is that by its number
number_told : (cause : Cause) (at : Offset) → table_refusal (cause_number cause) at ≡ of_table (record { cause = cause; at = at })
unfolding table_refusal
number_told Cause.Layout at = refl
number_told Cause.Content at = refl

pub by_number : (r : TableRefusal) → table_refusal (cause_number r.cause) r.at ≡ of_table r
by_number r = number_told r.cause r.at

refused_same : {a b c d : ℕ} → a ≡ c → b ≡ d → refused a b ≡ refused c d
refused_same e f = rw (e, f) refl

module _ (n : ℕ) (table given : List ℕ) where
  pub rest_table : {t : TableRefusal} {c : Result Shape TableRefusal} {r : Refusal} → table_answer table c ≡ read_table table → c ≡ Err t → r ≡ of_table t → RestIs n table given (Err r)
  unfolding RestIs
  rest_table {t} e f g =
      let read : read_table table ≡ Refused t.cause t.at.0 = sym e ∙ ap (table_answer table) f in
      let (n, at) = table_told t in
      λ stages w l out. rw (read, g) (refused_same n at)

  module _ {h : Shape} {c : Result Shape TableRefusal} (e : table_answer table c ≡ read_table table) (f : c ≡ Ok h) where
    read : read_table table ≡ Fine (table_of table h) (length table)
    read = sym e ∙ ap (table_answer table) f

    pub rest_edges : {at : _} {l : Result ℕ Offset} → l ≡ check_listing true n given → l ≡ Err at → RestIs n table given (Err (BadEdges at))
    unfolding RestIs
    rest_edges p q = λ stages w i out. rw (read, i, sym p ∙ q)

    pub rest_sound : {k : ℕ} {l : Result ℕ Offset} → l ≡ check_listing true n given → l ≡ Ok k → RestIs n table given (Ok (n, h, k))
    unfolding RestIs
    rest_sound p q = (refl, read, sym p ∙ q)

-- ---- the line
module _ (line table given : List ℕ) {c : Result ℕ LineRefusal} (e : c ≡ line_check line) where
  pub lent_refused : (r : LineRefusal) → c ≡ Err r → CallCheckIs line table given (Err (of_line r))
  unfolding CallCheckIs
  lent_refused (LineRefusal.IllFormed at) f = λ stages out. rw (sym e ∙ f)
  lent_refused (LineRefusal.TooLong at) f = λ stages out. rw (sym e ∙ f)

  pub lent_chars : {n : ℕ} → c ≡ Ok n → (r : Result (ℕ × Shape × ℕ) Refusal) → RestIs n table given r → CallCheckIs line table given r
  unfolding CallCheckIs RestIs
  lent_chars {n} f (Ok (m, h, k)) q =
      let l = checked_line line n (sym e ∙ f) in
      rw q.0 (record { ready = record { formed = l.2; count = sym l.0; few = l.1; checked = q.1 }; edges = q.2 })
  lent_chars {n} f (Err r) q = λ stages out. rw (sym e ∙ f) (q stages (chars line) (sym (checked_line line n (sym e ∙ f)).0) out)

-- ---- what is sound is answered by the stages
pub sound_answer : {line table given : List ℕ} {n : ℕ} {h : Shape} {k : ℕ} → Accepted line table given n h k → (stages : Stages) (out : ℕ) → after_line_check stages line table given out (line_check line) ≡ stages (table_of table h) (chars line) out (listed given)
sound_answer {line} {table} {given} {n} {h} {k} s stages out =
    let r = s.ready in
    let l : line_check line ≡ Ok n = rw (r.formed, r.count, le-leb n max_chars r.few) in
    rw (l, r.checked, r.count, s.edges)
