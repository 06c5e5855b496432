-- Edges that get others behind them stay what a choice uses of them, and a choice makes the same of them (`fractions::deactivate` has those that turn inactive). No contract cites this file.
-- In order: edges behind; what a choice makes of them. Assumes nothing.
use mathlib.Core.Path.{◌≡◌, refl, sym, ap, ◌∙◌}
use mathlib.Core.Bool.{Bool, true, false, cond}
use mathlib.Core.List.{List, [], ◌∷◌, ◌++◌, append-nil, append_assoc}
use Prim.Native.Nat.{ℕ}
use native.Mathlib.Omega.{arith}
use lib.ListN.{get_or, length-append, get_or-append}
use Rattle.std.specs.Prelude.{Option, Some, None}
use Rattle.whole.specs.Decimal.{decimal}
use Rattle.edge.specs.Edge.{Text, Edge}
use Rattle.lattice.specs.Lattice.{has, add, add_all}
use Rattle.lattice.specs.Kept.{no_edge}
use Rattle.numbers.specs.Fractions.{made, fraction_edge, percent_edge}
use Rattle.fraction_choices.specs.declared.decision.Form.{Form}
use Rattle.fraction_choices.specs.declared.decision.Form.TheVariants.{Percent, Fraction, TxtPercent}
use Rattle.fraction_choices.specs.declared.decision.Choice.{Choice}
use Rattle.fractions.proofs.new_edge.FractionLaws.{fraction_is}
use Rattle.fractions.proofs.deactivate.KeepsLaws.{Same, same_refl, Keeps}
use Rattle.fraction_choices.specs.Choice.{outcome_of, formed, number_or, value_or, Uses, Valid}

-- ---- edges behind
pub behind : (es ds : List Edge) → Keeps es (es ++ ds)
behind es ds = record { longer = let l = length-append es ds in omega arith; same = λ i h. rw (get_or-append es ds no_edge i h) (same_refl (get_or es i no_edge)) }

pub add_all_behind : (es cs : List Edge) → (ds : List Edge) × (add_all es cs ≡ es ++ ds)
unfolding add_all add
add_all_behind es [] = ([], sym (append-nil es))
add_all_behind es (c ∷ cs) = go (has es c) (add_all_behind es cs) (add_all_behind (es ++ (c ∷ [])) cs)
  where
    go : (t : Bool) → (ds : List Edge) × (add_all es cs ≡ es ++ ds) → (ds : List Edge) × (add_all (es ++ (c ∷ [])) cs ≡ (es ++ (c ∷ [])) ++ ds) → (ds : List Edge) × (add_all (cond t es (es ++ (c ∷ []))) cs ≡ es ++ ds)
    go true a b = a
    go false a b = (c ∷ b.0, b.1 ∙ append_assoc es (c ∷ []) b.0)

pub keeps_add_all : (es cs : List Edge) → Keeps es (add_all es cs)
keeps_add_all es cs = let r = add_all_behind es cs in rw r.1 (behind es r.0)

-- ---- what a choice makes
percent_parts : (is : List ℕ) {a b y z u v : ℕ} → a ≡ b → y ≡ z → u ≡ v → made (percent_edge a y (decimal u)) is ≡ made (percent_edge b z (decimal v)) is
percent_parts is p q r = rw (p, q, r)

txt_parts : (p : ℕ) (is : List ℕ) {y z : ℕ} {s t : Text} → y ≡ z → s ≡ t → made (percent_edge p y s) is ≡ made (percent_edge p z t) is
txt_parts p is q r = rw (q, r)

percent_same : (p i j : ℕ) {l r m s : Edge} → Same l m → Same r s → made (percent_edge m.start s.end (decimal (value_or s))) (i ∷ j ∷ []) ≡ made (percent_edge l.start r.end (decimal (value_or r))) (i ∷ j ∷ [])
percent_same p i j a b = percent_parts (i ∷ j ∷ []) a.start b.end (ap number_or b.value)

fraction_same : (i j : ℕ) {l r m s : Edge} → Same l m → Same r s → made (fraction_edge m (value_or m) s (value_or s)) (i ∷ j ∷ []) ≡ made (fraction_edge l (value_or l) r (value_or r)) (i ∷ j ∷ [])
fraction_same i j {l} {r} {m} {s} a b =
    ap (λ (e : Edge). made e (i ∷ j ∷ []))
    (sym (fraction_is m s refl refl refl refl refl refl refl) ∙ fraction_is l r a.start b.end (ap number_or a.value) (ap number_or b.value) refl refl b.script)

txt_same : (p j : ℕ) {r s : Edge} → Same r s → made (percent_edge p s.end s.txt) (j ∷ []) ≡ made (percent_edge p r.end r.txt) (j ∷ [])
txt_same p j b = txt_parts p (j ∷ []) b.end b.txt

module _ {es fs : List Edge} (k : Keeps es fs) (p : ℕ) where
  formed_keeps : (f : Form) (i j : ℕ) → Uses f es i j → formed f p i (get_or fs i no_edge) j (get_or fs j no_edge) ≡ formed f p i (get_or es i no_edge) j (get_or es j no_edge)
  formed_keeps Percent i j u = percent_same p i j (k.same i u.left) (k.same j u.right)
  formed_keeps Fraction i j u = fraction_same i j (k.same i u.two.left) (k.same j u.two.right)
  formed_keeps TxtPercent i j u = txt_same p j (k.same j u.right)

  pub made_keeps : {m : Option Choice} → Valid es m → outcome_of fs p m ≡ outcome_of es p m
  unfolding outcome_of
  made_keeps {m = None} v = refl
  made_keeps {m = Some c} v = formed_keeps c.form c.left c.right v.uses
