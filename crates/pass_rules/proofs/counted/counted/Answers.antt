-- `counted` meets its contract: each pass counts the next edge its own way. Assumes nothing.
use mathlib.Core.Path.{◌≡◌, sym, ap, ◌∙◌}
use native.Mathlib.Omega.{arith}
use Rattle.pass_list.specs.declared.record.PassEdge.{PassEdge}
use Rattle.pass_list.specs.StoredEdge.{StoredEdge, EdgeIs}
use Rattle.pass_list.specs.StoredPass.{retags, with_numbers, counted}
use Rattle.pass_rules.proofs.counted.counted.Goals as goal

pub exact_u64-requires : goal.exact_u64-requires
exact_u64-requires c = let (y, q) = c.requires.1 in (y.value, q.fits.small.value, ap (λ (e : PassEdge). e.num.value) q.is)

pub retags-requires : goal.retags-requires
retags-requires c = let y = c.requires.1 in let s = y.1.fits.start in omega (arith, ap (λ (e : PassEdge). e.start.0) y.1.is)

pub returns-in-D1 : goal.returns-in-D1
unfolding counted with_numbers
returns-in-D1 c x y p q = rw (c.in-D1.is, q.is)

pub returns-then-retags : goal.returns-then-retags
unfolding counted
returns-then-retags c x y p q =
    let tested : (x y : StoredEdge) → EdgeIs c.args.last x → EdgeIs c.args.e y → c.retags.result ≡ retags x y = λ x y p q. c.retags.ensures x y p.is q.is (c.exact_u64.ensures y.value q.fits.small.value (ap (λ (e : PassEdge). e.num.value) q.is)) in
    rw (c.in-G4.is, sym (tested x y p q) ∙ c.if-retags.true) (c.retagged.ensures x y p q)

pub returns-else-retags : goal.returns-else-retags
unfolding counted
returns-else-retags c x y p q =
    let tested : (x y : StoredEdge) → EdgeIs c.args.last x → EdgeIs c.args.e y → c.retags.result ≡ retags x y = λ x y p q. c.retags.ensures x y p.is q.is (c.exact_u64.ensures y.value q.fits.small.value (ap (λ (e : PassEdge). e.num.value) q.is)) in
    rw (c.in-G4.is, sym (tested x y p q) ∙ c.if-retags.false, q.is)

pub returns-in-G1 : goal.returns-in-G1
unfolding counted
returns-in-G1 c x y p q = rw (c.in-G1.is, q.is)

pub returns-in-G2 : goal.returns-in-G2
unfolding counted
returns-in-G2 c x y p q = rw (c.in-G2.is, q.is)

pub returns-in-G3 : goal.returns-in-G3
unfolding counted
returns-in-G3 c x y p q = rw (c.in-G3.is, q.is)
