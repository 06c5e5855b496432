-- The edges that are made, as they are written and as they are defined. No contract cites this file.
-- In order: fractions; what a form makes. Assumes nothing.
use mathlib.Core.Path.{◌≡◌}
use mathlib.Core.Logic.{inl}
use mathlib.Core.List.{List, ◌∷◌, ◌++◌}
use mathlib.Core.Option.{Option}
use Prim.Native.Nat.{ℕ}
use Rattle.std.specs.Prelude as std
use Rattle.std.specs.Prelude.{Some, None}
use Rattle.edge.specs.Edge.{Text, Edge}
use Rattle.passes.specs.Characters.{lowest}
use Rattle.whole.specs.Decimal.{decimal}
use Rattle.lattice.specs.declared.Lattice.{Lattice}
use Rattle.lattice.specs.Lattice.{add}
use Rattle.lattice.specs.Kept.{Holds, AddingIs}
use Rattle.lattice.proofs.HoldsLaws.{add_nothing}
use Rattle.numbers.specs.Fractions.{Outcome, made, nothing, fraction_edge, script_of}
use Rattle.fraction_choices.specs.declared.decision.Form.TheVariants.{Percent, Fraction, TxtPercent}
use Rattle.fraction_choices.specs.declared.decision.Choice.{Choice}
use Rattle.fraction_choices.specs.Choice.{value_or, outcome_of}
use Rattle.fractions.specs.NewParts.{fraction_with, txt_percent_of}
use Rattle.fractions.specs.NewEdge.{percent_of, fraction_of, add_outcome}

-- ---- fractions

pub fraction_is : (d e : Edge) {a z left right : ℕ} {t : Text} {f : ℕ × ℕ} {script : Option Text} → a ≡ d.start → z ≡ e.end → left ≡ value_or d → right ≡ value_or e
    → t ≡ decimal right ++ (47 ∷ decimal left) → f ≡ lowest (right, left) → script ≡ script_of e.num → fraction_with a z t f script ≡ fraction_edge d (value_or d) e (value_or e)
unfolding fraction_with fraction_edge
fraction_is d e p q x y r g s = rw (p, q, r, g, s, x, y)

-- ---- what a choice makes, by its form
module _ {w : List ℕ} {l : Lattice} (es : List Edge) (p : ℕ) {m : std.Option Choice} where
  pub makes_percent : {c : Choice} → m ≡ Some c → c.form ≡ Percent → Holds w l (add es (percent_of es c.left c.right)) → Holds w l (add_outcome es (outcome_of es p m))
  unfolding outcome_of
  makes_percent d e h = rw (d, e) h

  pub makes_fraction : {c : Choice} → m ≡ Some c → c.form ≡ Fraction → Holds w l (add es (fraction_of es c.left c.right)) → Holds w l (add_outcome es (outcome_of es p m))
  unfolding outcome_of
  makes_fraction d e h = rw (d, e) h

  pub makes_txt : {c : Choice} → m ≡ Some c → c.form ≡ TxtPercent → Holds w l (add es (txt_percent_of es p c.right)) → Holds w l (add_outcome es (outcome_of es p m))
  unfolding outcome_of
  makes_txt d e h = rw (d, e) h

  pub makes_nothing : m ≡ None → Holds w l es → Holds w l (add_outcome es (outcome_of es p m))
  unfolding outcome_of
  makes_nothing e h = rw e h

-- a lattice that is full holds whatever is added
pub full_stays : {w : List ℕ} {l : Lattice} {es : List Edge} → Holds w l es → l.len ≡ 0 → (m : Outcome) → Holds w l (add_outcome es m)
unfolding AddingIs
full_stays q f (made e is) = add_nothing q e (inl f)
full_stays q f nothing = q
