-- Laws of a line's answer, its listing left in the work space (`specs/Steps.antt`). No contract cites this file.
-- In order: a finished lattice; the stages; the checks of the line; a listing's bytes. Assumes nothing.
use mathlib.Core.Path.{◌≡◌, refl, sym, ap, ◌∙◌, subst}
use mathlib.Core.Bool.{true, false}
use mathlib.Core.List.{List}
use mathlib.Core.Option.{none, some}
use Prim.Native.Nat.{ℕ, ◌≤◌}
use native.Mathlib.Omega.{arith}
use lib.ListN.{length}
use borrow.Author.Tests.{le-ltb}
use Rattle.text.specs.declared.Place.{Place}
use Rattle.text.specs.Text.{chars}
use Rattle.text.specs.Line.{line_check}
use Rattle.text.proofs.line.LineLaws.{checked_line}
use Rattle.fields.specs.Fields.{le, le_at}
use Rattle.fields.specs.Part.{part}
use Rattle.table.specs.Table.{Table}
use Rattle.table.specs.Check.{Fine, read_table}
use Rattle.table.specs.Answers.{table_of}
use Rattle.table.specs.declared.shape.Shape.{Shape}
use Rattle.passes.specs.Passes.{above_at}
use Rattle.edge.specs.Edge.{Edge, listing_bytes}
use Rattle.edge.specs.Layout.{listed}
use Rattle.edge.specs.Check.{check_edges, check_listing}
use Rattle.lattice.specs.declared.Lattice.{Lattice}
use Rattle.lattice.specs.Lattice.{overfull, most_bytes}
use Rattle.lattice.specs.Kept.{Kept, Holds}
use Rattle.lattice.proofs.HoldsLaws.{kept_of_lem, over_of}
use Rattle.numbers.specs.Ready.{Ready}
use Rattle.numbers.specs.Call.{finished, lattice_by, after_checks, answer_by, no_edges}
use Rattle.answers.specs.Answers.{of_length, of_line}
use Rattle.call.specs.Checks.{Accepted}
use Rattle.call.proofs.checks.CheckLaws.{sound_answer}
use Rattle.lines.specs.Pages.{answer_for}
use Rattle.lines.specs.Steps.{Left}
use Rattle.std.specs.Prelude.{Result, Ok, Err}
use Rattle.text.specs.declared.LineRefusal.{LineRefusal}
use Rattle.answers.specs.declared.Refusal.{Refusal}

-- ---- a finished lattice
not_over : {w : List ℕ} {n len : ℕ} {es : List Edge} → Kept w n len es → overfull es ≡ false
unfolding overfull
not_over {es = es} q = rw (le-ltb 1024 (length es) (omega (arith, q.count, q.few)), le-ltb 32768 (length (listing_bytes es)) (omega (arith, q.size, q.short)))

module _ {u : List ℕ} {l : Lattice} {es : List Edge} (q : Holds u l es) where
  pub left_too_long : l.len ≡ 0 → Left u (Err Refusal.TooLong) (finished most_bytes es)
  unfolding part
  left_too_long f = rw (over_of q f) (record { answer = refl; listing = refl; short = omega arith })

  pub left_listing : (l.len ≡ 0 → ⊥) → Left u (Ok l.len) (finished most_bytes es)
  left_listing f =
      let k = kept_of_lem q f in
      let size = k.size in
      let short : length (listing_bytes es) ≤ 32768 = omega (arith, size, k.short) in
      rw (not_over k, le-ltb 32768 (length (listing_bytes es)) short)
      (record { answer = ap of_length size; listing = ap (part u 0) (sym size) ∙ k.listing; short = short })

-- ---- the stages
module _ (t : Table) (w : List ℕ) (given : List Edge) (u : List ℕ) where
  pub left_above : (p : Place) → above_at t w ≡ some p.0 → Left u (Err (Refusal.AboveTop p)) (after_checks false t w most_bytes given)
  unfolding after_checks part
  left_above p e = rw e (record { answer = refl; listing = refl; short = omega arith })

  pub left_made : (r : Result ℕ Refusal) → above_at t w ≡ none → Left u r (finished most_bytes (lattice_by false t w given)) → Left u r (after_checks false t w most_bytes given)
  unfolding after_checks
  left_made r e q = rw e q

-- ---- the checks of the line; the listing without edges passes its own
none_given : (n : ℕ) → check_listing true n no_edges ≡ Ok 0
unfolding check_listing check_edges le_at le part
none_given n = refl

pub accepted : {line table : List ℕ} {h : Shape} {n : ℕ} → Ready line table h n → Accepted line table no_edges n h 0
accepted {n = n} r = record { ready = r; edges = none_given n }

module _ (table line : List ℕ) {c : Result ℕ LineRefusal} (e : c ≡ line_check line) (u : List ℕ) where
  pub left_refused : (r : LineRefusal) → c ≡ Err r → Left u (Err (of_line r)) (answer_for table line)
  unfolding answer_by part
  left_refused (LineRefusal.IllFormed at) f = rw (sym e ∙ f) (record { answer = refl; listing = refl; short = omega arith })
  left_refused (LineRefusal.TooLong at) f = rw (sym e ∙ f) (record { answer = refl; listing = refl; short = omega arith })

  module _ (h : Shape) (t : read_table table ≡ Fine (table_of table h) (length table)) {n : ℕ} (f : c ≡ Ok n) where
    pub ready : Ready line table h n
    ready = let l = checked_line line n (sym e ∙ f) in record { formed = l.2; count = sym l.0; few = l.1; checked = t }

    pub left_chars : (r : Result ℕ Refusal) → Left u r (after_checks false (table_of table h) (chars line) most_bytes (listed no_edges)) → Left u r (answer_for table line)
    unfolding answer_by
    left_chars r q = subst (Left u r) (sym (sound_answer (accepted ready) (after_checks false) most_bytes)) q
