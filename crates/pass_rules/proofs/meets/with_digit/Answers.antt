-- `with_digit` of the decimals meets its contract. Assumes nothing.
use mathlib.Core.Path.{◌≡◌, refl, sym, ap, ◌∙◌}
use mathlib.Core.Bool.{true}
use Prim.Native.Nat.{ℕ, zero, suc, ◌+◌}
use native.Mathlib.Numerals.{add-one}
use borrow.Author.Tests.{eq-eqb, ne_eqb}
use Rattle.passes.specs.DecimalPasses.{one_more}
use Rattle.pass_list.specs.declared.record.PassEdge.{PassEdge}
use Rattle.pass_list.specs.StoredEdge.{StoredEdge, pass_edge}
use Rattle.pass_list.specs.StoredPass.{StoredChain, touches}
use Rattle.pass_rules.proofs.meets.with_digit.Goals as goal

more : (k : ℕ) → (k ≡ 0 → ⊥) → k + 1 ≡ one_more k
more zero h = absurd (h refl)
more (suc k) h = add-one (suc k)

pub returns-then-last-e : goal.returns-then-last-e
returns-then-last-e c x y p q = rw (ne_eqb x.edge.end y.start (λ e. c.if-last-e.true (ap (λ (k : PassEdge). k.end.0) p ∙ e ∙ sym (ap (λ (k : PassEdge). k.start.0) q))))

pub returns-then-last-eq0 : goal.returns-then-last-eq0
returns-then-last-eq0 c x y p q =
    let touching : (x : StoredChain) (y : StoredEdge) → c.args.last ≡ pass_edge x.edge → c.args.e ≡ pass_edge y → touches x y ≡ true = λ x y p q. eq-eqb _ _ (sym (ap (λ (k : PassEdge). k.end.0) p) ∙ c.if-last-e.false ∙ ap (λ (k : PassEdge). k.start.0) q) in
    let z : x.edge.decimals ≡ 0 = sym (ap (λ (k : PassEdge). k.num.decimals) p) ∙ c.if-last-eq0.true in rw (touching x y p q, z)

pub returns : goal.returns
returns c x y p q =
    let touching : (x : StoredChain) (y : StoredEdge) → c.args.last ≡ pass_edge x.edge → c.args.e ≡ pass_edge y → touches x y ≡ true = λ x y p q. eq-eqb _ _ (sym (ap (λ (k : PassEdge). k.end.0) p) ∙ c.if-last-e.false ∙ ap (λ (k : PassEdge). k.start.0) q) in
    rw (touching x y p q, p) (more x.edge.decimals (λ z. c.if-last-eq0.false (ap (λ (k : PassEdge). k.num.decimals) p ∙ z)))
