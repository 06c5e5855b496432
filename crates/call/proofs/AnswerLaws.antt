-- Laws of the call's answers (`specs/Answers.antt`). No contract cites this file.
-- In order: the stages' answers; the checks'. Assumes nothing.
use mathlib.Core.Path.{◌≡◌, refl, sym, ap, ◌∙◌, subst}
use mathlib.Core.List.{List}
use mathlib.Core.Option.{Option}
use Prim.Native.Nat.{ℕ, ◌≤◌, ◌<◌}
use lib.ListN.{length}
use borrow.Author.Tests.{lt-ltb, le-ltb}
use Rattle.text.specs.Text.{chars}
use Rattle.text.specs.Line.{line_check}
use Rattle.table.specs.Table.{Table}
use Rattle.table.specs.Answers.{table_of}
use Rattle.table.specs.declared.shape.Shape.{Shape}
use Rattle.edge.specs.Edge.{Edge}
use Rattle.edge.specs.Layout.{listed}
use Rattle.numbers.specs.Call.{finished, unless_above, Stages, after_checks, decimal_after_checks, after_line_check, answer_by}
use Rattle.answers.specs.declared.Refusal.{Refusal}
use Rattle.answers.specs.declared.Refusal.TheVariants.{ShortWork}
use Rattle.call.specs.declared.stages.CallKind.{CallKind}
use Rattle.call.specs.declared.stages.CallKind.TheVariants.{First, WithoutSingles, WithDecimals}
use Rattle.call.specs.Answers.{AnswerIs}
use Rattle.call.specs.Checks.{Accepted, CallCheckIs}
use Rattle.call.specs.Kinds.{call_passes, call_lattice, call_stages}
use Rattle.call.specs.Stages.{StagesAre, Leads}
use Rattle.call.proofs.checks.CheckLaws.{sound_answer}
use Rattle.std.specs.Prelude.{Result, Ok, Err}
use Rattle.lattice.specs.declared.Lattice.{Lattice}
use Rattle.text.specs.declared.Place.{Place}

-- ---- the stages
module _ (t : Table) (w : List ℕ) (given : List Edge) (u : List ℕ) (out : ℕ) where
  call_stages_lem : (k : CallKind) → call_stages k t w out given ≡ unless_above (call_passes k t w).above (finished out (call_lattice k t w given))
  unfolding after_checks decimal_after_checks
  call_stages_lem First = refl
  call_stages_lem WithoutSingles = refl
  call_stages_lem WithDecimals = refl

  pub stages_lead : (k : CallKind) (r : Result Lattice Place) → StagesAre k t w given u r → Leads u out r (call_stages k t w out given)
  unfolding StagesAre Leads
  stages_lead k (Err p) e = call_stages_lem k ∙ ap (λ (o : Option ℕ). unless_above o (finished out (call_lattice k t w given))) e
  stages_lead k (Ok l) (e, q) = (call_lattice k t w given, q, call_stages_lem k ∙ ap (λ (o : Option ℕ). unless_above o (finished out (call_lattice k t w given))) e)

-- ---- the checks
module _ (stages : Stages) (line table given out : List ℕ) (work : ℕ) where
  pub answer_short : work < 65536 → AnswerIs out out (Err ShortWork) (answer_by stages line table given work (length out))
  unfolding answer_by
  answer_short h = let e = lt-ltb work 65536 h in record { answer = rw e; output = rw e }

  by_line : 65536 ≤ work → answer_by stages line table given work (length out) ≡ after_line_check stages line table given (length out) (line_check line)
  unfolding answer_by
  by_line h = rw (le-ltb work 65536 h)

  pub answer_refused : 65536 ≤ work → (r : Refusal) → CallCheckIs line table given (Err r) → AnswerIs out out (Err r) (answer_by stages line table given work (length out))
  unfolding CallCheckIs
  answer_refused h r q = let e = by_line h ∙ q stages (length out) in record { answer = rw e; output = rw e }

  pub answer_sound : 65536 ≤ work → {n : ℕ} {h : Shape} {count : ℕ} → Accepted line table given n h count → (now : List ℕ) (r : Result ℕ Refusal)
      → AnswerIs out now r (stages (table_of table h) (chars line) (length out) (listed given)) → AnswerIs out now r (answer_by stages line table given work (length out))
  answer_sound k s now r q = subst (AnswerIs out now r) (sym (by_line k ∙ sound_answer s stages (length out))) q
