-- `ruled` meets its contract: the pass's rule, on the fields that it asks for. Assumes nothing.
use mathlib.Core.Path.{◌≡◌, refl, ap, ◌∙◌}
use mathlib.Core.Bool.{Bool, true, false, cond, not, ◌&&◌}
use Rattle.std.specs.Prelude.{Some, None}
use Rattle.whole.specs.Whole.{of_nat}
use Rattle.pass_list.specs.declared.record.PassEdge.{PassEdge}
use Rattle.pass_rules.specs.declared.chain.Chain.{Chain}
use Rattle.pass_list.specs.StoredEdge.{StoredEdge, EdgeIs}
use Rattle.pass_list.specs.StoredPass.{StoredChain, comparable}
use Rattle.pass_rules.specs.Chain.{ChainIs}
use Rattle.pass_rules.proofs.chain.ruled.Goals as goal
use Rattle.pass_rules.proofs.chain.ruled.Goals.{then-e, else-e}

left_is : (c : Chain) (x : StoredChain) → ChainIs c x → c.edge.num.value ≡ of_nat x.edge.value
left_is c x p = ap (λ (k : Chain). k.edge.num.value) p.is

right_is : (e : PassEdge) (y : StoredEdge) → EdgeIs e y → e.num.value ≡ of_nat y.value
right_is e y q = ap (λ (k : PassEdge). k.num.value) q.is

-- what is asked of fields together
module _ {c : Chain} {e : PassEdge} {x : StoredChain} {y : StoredEdge} (p : ChainIs c x) (q : EdgeIs e y) where
  plain_is : c.edge.num.has_value && not c.edge.num.large_power && not e.num.large_power ≡ x.edge.has_value && not x.edge.large_power && not y.large_power
  plain_is = rw (p.is, q.is)

  near_is : cond (e.num.has_value && e.num.has_base) c.near None ≡ cond (comparable x y) (Some x.near) None
  near_is = rw (p.is, q.is) (go x.has_near y.has_value y.has_base)
    where
      go : (a v b : Bool) → cond (v && b) (cond a (Some x.near) None) None ≡ cond (a && v && b) (Some x.near) None
      go true true true = refl
      go true true false = refl
      go true false b = refl
      go false true true = refl
      go false true false = refl
      go false false b = refl

  there_is : c.edge.num.has_value && e.num.has_value && e.num.has_base ≡ x.edge.has_value && y.has_value && y.has_base
  there_is = rw (p.is, q.is)

pub exact_u64-value-requires : goal.exact_u64-value-requires
exact_u64-value-requires c = let (y, q) = c.requires.1 in (y.value, q.fits.small.value, right_is _ y q)

pub exact_u64-left-requires : goal.exact_u64-left-requires
exact_u64-left-requires c = let (x, p) = c.requires.0 in (x.edge.value, p.fits.small.value, left_is _ x p)

pub returns-in-D1 : goal.returns-in-D1
returns-in-D1 c x y p q = rw c.in-D1.is (c.d1_rule.ensures x y (ap (λ (k : Chain). k.more) p.is) (ap (λ (k : Chain). k.edge.num.digit) p.is) (ap (λ (k : PassEdge). k.num.digit) q.is))

pub returns-in-G1 : goal.returns-in-G1
returns-in-G1 c x y p q = rw c.in-G1.is (c.g1_rule.ensures x y (ap (λ (k : Chain). k.more) p.is) (ap (λ (k : Chain). k.edge.num.base) p.is) (c.exact_u64-left.ensures x.edge.value p.fits.small.value (left_is _ x p)) (ap (λ (k : PassEdge). k.num.base) q.is) (ap (λ (k : PassEdge). k.num.large_power) q.is))

pub returns-after-e : goal.returns-after-e
returns-after-e c x y p q =
    let value = c.exact_u64-value.ensures y.value q.fits.small.value (right_is _ y q) in
    let near : c.if-e.near ≡ cond (c.args.e.num.has_value && c.args.e.num.has_base) c.args.c.near None = elim c.if-e.branch [
      | then-e w ↦ w.near-is ∙ rw w.if-e.true
      | else-e w ↦ w.near-is ∙ rw w.if-e.false
    ] in
    rw c.in-G2.is (c.g2_rule.ensures x y (plain_is p q) (near ∙ near_is p q) value (ap (λ (k : PassEdge). k.num.base) q.is) (ap (λ (k : PassEdge). k.num.gap) q.is))

pub returns-in-G3 : goal.returns-in-G3
returns-in-G3 c x y p q = rw c.in-G3.is (c.g3_rule.ensures x y (ap (λ (k : Chain). k.more) p.is) (ap (λ (k : Chain). k.edge.num.has_value) p.is) (ap (λ (k : Chain). k.edge.num.large_power) p.is) (ap (λ (k : PassEdge). k.num.has_value) q.is) (ap (λ (k : PassEdge). k.num.large_power) q.is))

pub returns-in-G4 : goal.returns-in-G4
returns-in-G4 c x y p q =
    let value = c.exact_u64-value.ensures y.value q.fits.small.value (right_is _ y q) in
    rw c.in-G4.is (c.g4_rule.ensures x y (there_is p q) (ap (λ (k : Chain). k.edge.num.base) p.is) value (ap (λ (k : PassEdge). k.num.base) q.is))
