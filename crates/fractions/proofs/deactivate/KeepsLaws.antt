-- Edges that turn inactive stay what a choice uses of them. No contract cites this file.
-- In order: one edge; a list; a choice over it; what a choice uses, by its form. Assumes nothing.
use mathlib.Core.Path.{◌≡◌, refl, sym, ◌∙◌, subst}
use mathlib.Core.Logic.{inl, inr}
use mathlib.Core.Bool.{true, false}
use mathlib.Core.List.{List}
use mathlib.Core.Option.{Option, none, some}
use Prim.Native.Nat.{ℕ, ◌≤◌, ◌<◌}
use native.Mathlib.Omega.{arith}
use lib.ListN.{length, get_or}
use Rattle.std.specs.Prelude as std
use Rattle.std.specs.Prelude.{Some, None}
use Rattle.edge.specs.Edge.{Edge, Numeric}
use Rattle.lattice.specs.Lattice.{inactive, turn_off}
use Rattle.lattice.specs.Kept.{no_edge}
use Rattle.numbers.proofs.stages.InactiveLaws.{inactive_start, inactive_end, inactive_txt, inactive_num, length_turn_off, AsItWas, turn_off_at_lem}
use Rattle.numbers.specs.Listed.{value_of, whole_value}
use Rattle.numbers.specs.Fractions.{is_numeric, script_of}
use Rattle.fraction_choices.specs.declared.decision.Form.{Form}
use Rattle.fraction_choices.specs.declared.decision.Form.TheVariants.{Percent, Fraction, TxtPercent}
use Rattle.fraction_choices.specs.declared.decision.Choice.{Choice}
use Rattle.fraction_choices.specs.Choice.{number_or, HasValue, Two, One, Ratio, Uses, UsesOf, Valid}

-- ---- one edge
pub record Same (e d : Edge) : Type 0 where
  pub start : d.start ≡ e.start
  pub end : d.end ≡ e.end
  pub txt : d.txt ≡ e.txt
  pub value : whole_value d ≡ whole_value e
  pub script : script_of d.num ≡ script_of e.num
  pub numeric : is_numeric d ≡ is_numeric e

pub same_refl : (e : Edge) → Same e e
same_refl e = record { start = refl; end = refl; txt = refl; value = refl; script = refl; numeric = refl }

same_inactive : (e : Edge) → Same e (inactive e)
unfolding whole_value
same_inactive e = record {
  start = inactive_start e;
  end = inactive_end e;
  txt = inactive_txt e;
  value = inactive_num value_of (λ x. refl) e;
  script = inactive_num script_of (λ x. refl) e;
  numeric = inactive_num (λ (x : Option Numeric). elim x [ none ↦ false | some y ↦ true ]) (λ x. refl) e;
}

same_as_it_was : {d e : Edge} → AsItWas d e → Same e d
same_as_it_was {e = e} (inl p) = rw p (same_refl e)
same_as_it_was {e = e} (inr p) = rw p (same_inactive e)

-- ---- a list
pub record Keeps (es fs : List Edge) : Type 0 where
  pub longer : length es ≤ length fs
  pub same : (i : ℕ) → i < length es → Same (get_or es i no_edge) (get_or fs i no_edge)

pub keeps_turn_off : (es : List Edge) (is : List ℕ) → Keeps es (turn_off es is)
keeps_turn_off es is = record { longer = let l = length_turn_off es is in omega arith; same = λ i h. same_as_it_was (turn_off_at_lem es is i) }

-- ---- a choice that may stand
module _ {es fs : List Edge} (k : Keeps es fs) where
  same_value : (i : ℕ) → i < length es → HasValue (get_or es i no_edge) → HasValue (get_or fs i no_edge)
  same_value i h v = (v.0, (k.same i h).value ∙ v.1)

  two_keeps : {i j : ℕ} → Two es i j → Two fs i j
  two_keeps {i} {j} t =
      let a = t.left in
      let b = t.right in
      let l = k.longer in
      record { left = omega arith; right = omega arith; left_value = same_value i t.left t.left_value; right_value = same_value j t.right t.right_value }

  one_keeps : {j : ℕ} → One es j → One fs j
  one_keeps {j} t = let b = t.right in let l = k.longer in record { right = omega arith; numeric = (k.same j t.right).numeric ∙ t.numeric }

  uses_keep : (f : Form) (i j : ℕ) → Uses f es i j → Uses f fs i j
  uses_keep Percent i j u = two_keeps u
  uses_keep Fraction i j u = record { two = two_keeps u.two; not_zero = subst (λ (x : Option ℕ). 0 < number_or x) (sym (k.same i u.two.left).value) u.not_zero }
  uses_keep TxtPercent i j u = one_keeps u

  pub valid_keeps : {m : std.Option Choice} → Valid es m → Valid fs m
  valid_keeps {m = None} v = record { uses = tt }
  valid_keeps {m = Some c} v = record { uses = uses_keep c.form c.left c.right v.uses }

-- ---- what a choice of a form uses
module _ {es : List Edge} {m : std.Option Choice} (v : Valid es m) {c : Choice} (d : m ≡ Some c) where
  abbrev uses_as : (f : Form) → c.form ≡ f → Uses f es c.left c.right
  uses_as f e = subst (λ (g : Form). Uses g es c.left c.right) e (subst (UsesOf es) d v.uses)

  pub uses_percent : c.form ≡ Percent → Two es c.left c.right
  uses_percent e = uses_as Percent e

  pub uses_fraction : c.form ≡ Fraction → Ratio es c.left c.right
  uses_fraction e = uses_as Fraction e

  pub uses_txt : c.form ≡ TxtPercent → One es c.right
  uses_txt e = uses_as TxtPercent e
