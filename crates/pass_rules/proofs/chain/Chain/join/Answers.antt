-- `Chain::join` meets its contract. Where the chain and the edge don't meet, where the rule or the decimals refuse and where the value is above TOP, one of its answers is
-- named by a law of `proofs/chain/ChainLaws.antt`. Assumes nothing.
use Rattle.std.proofs.Common.{not, Ok}
use mathlib.Core.Path.{◌≡◌, sym, ap, ◌∙◌}
use mathlib.Core.Bool.{Bool, true, false}
use native.Mathlib.Omega.{arith}
use borrow.Author.Tests.{not-true, not-false}
use Rattle.std.proofs.lemmas.Result.{err_from_is_err_and}
use Rattle.pass_list.specs.declared.run.Pass.{Pass}
use Rattle.pass_list.specs.declared.record.PassEdge.{PassEdge}
use Rattle.pass_rules.specs.declared.chain.Chain.{Chain}
use Rattle.pass_list.specs.StoredEdge.{StoredEdge, pass_edge, EdgeIs}
use Rattle.pass_list.specs.StoredPass.{StoredChain, meets, rule, decimals_fit, counted, joined_value, longer}
use Rattle.pass_list.specs.Answers.{pass_of}
use Rattle.pass_rules.specs.Chain.{ChainIs}
use Rattle.pass_rules.proofs.value.OverLaws.{over_apart, over_above, over_value}
use Rattle.pass_rules.proofs.chain.ChainLaws.{chain_edge, counted_fits, apart, refused, unfit, too_large, longer_answer}
use Rattle.pass_rules.proofs.chain.Chain.join.Goals as goal

-- what the calls say of the chain x and the next edge y
module _ (pass : Pass) {s : Chain} {e : PassEdge} {x : StoredChain} {y : StoredEdge} (p : ChainIs s x) (q : EdgeIs e y) where
  met : {b : Bool} → ((x : StoredChain) (y : StoredEdge) → s.edge ≡ pass_edge x.edge → e ≡ pass_edge y → b ≡ meets (pass_of pass) x y) → b ≡ meets (pass_of pass) x y
  met h = h x y (chain_edge p).is q.is

  as_counted : {r : PassEdge} → ((x y : StoredEdge) → EdgeIs s.edge x → EdgeIs e y → r ≡ pass_edge (counted (pass_of pass) x y)) → EdgeIs r (counted (pass_of pass) x.edge y)
  as_counted h = record { is = h x.edge y (chain_edge p) q; fits = counted_fits _ _ _ p.fits q.fits }

pub meets-requires : goal.meets-requires
meets-requires c = let (x, p) = c.requires.0 in omega (arith, p.fits.end, ap (λ (k : Chain). k.edge.end.0) p.is)

pub returns-then-not-meets : goal.returns-then-not-meets
returns-then-not-meets c x y p q = apart _ x y (sym (met _ p q c.meets.ensures) ∙ not-true _ (ap not c.if-not-meets.true))

pub counted-r-requires : goal.counted-r-requires
counted-r-requires c = let (x, p) = c.requires.0 in ((x.edge, chain_edge p), c.requires.1)

pub ruled-requires : goal.ruled-requires
ruled-requires c = let (x, p) = c.requires.0 in let (y, q) = c.requires.1 in ((x, p), (_, as_counted _ p q c.counted-r.ensures))

pub returns-then-not-ruled : goal.returns-then-not-ruled
returns-then-not-ruled c x y p q =
    let meeting : meets (pass_of c.args.pass) x y ≡ true = sym (met _ p q c.meets.ensures) ∙ not-false _ (ap not c.if-not-meets.false) in
    refused _ x y meeting (sym (c.ruled.ensures x _ p (as_counted _ p q c.counted-r.ensures)) ∙ not-true _ (ap not c.if-not-ruled.true))

pub value_over-requires : goal.value_over-requires
value_over-requires c = let (x, p) = c.requires.0 in let (y, q) = c.requires.1 in ((x.edge, chain_edge p), (_, as_counted _ p q c.counted-r.ensures))

pub joined_decimals-decimals-requires : goal.joined_decimals-decimals-requires
joined_decimals-decimals-requires c = let (x, p) = c.requires.0 in omega (arith, p.fits.decimals, ap (λ (k : Chain). k.edge.num.decimals) p.is)

pub returns-in_err-v : goal.returns-in_err-v
returns-in_err-v c x y p q =
    let meeting : meets (pass_of c.args.pass) x y ≡ true = sym (met _ p q c.meets.ensures) ∙ not-false _ (ap not c.if-not-meets.false) in
    let r = as_counted _ p q c.counted-r.ensures in
    let allowed : rule (pass_of c.args.pass) x (counted (pass_of c.args.pass) x.edge y) ≡ true = sym (c.ruled.ensures x _ p r) ∙ not-false _ (ap not c.if-not-ruled.false) in
    let v = over_above _ (joined_value (pass_of c.args.pass) x y) (sym (c.in_err-v.ensures x.edge _ (chain_edge p) r)) in
    let w = err_from_is_err_and c.from_residual.result c.from_residual.ensures.1 in
    w.1 ∙ too_large _ x y meeting allowed v.0 v.1

pub returns-in_default : goal.returns-in_default
returns-in_default c x y p q =
    let meeting : meets (pass_of c.args.pass) x y ≡ true = sym (met _ p q c.meets.ensures) ∙ not-false _ (ap not c.if-not-meets.false) in
    let r = as_counted _ p q c.counted-r.ensures in
    let allowed : rule (pass_of c.args.pass) x (counted (pass_of c.args.pass) x.edge y) ≡ true = sym (c.ruled.ensures x _ p r) ∙ not-false _ (ap not c.if-not-ruled.false) in
    unfit _ x y meeting allowed (over_apart _ (joined_value (pass_of c.args.pass) x y) (sym (c.in_ok-v.ensures x.edge _ (chain_edge p) r) ∙ ap Ok c.in_default.is))

-- the chain that is handed back: the next edge is a gap, or its base is the nearest
pub returns-then-not-e : goal.returns-then-not-e
unfolding longer
returns-then-not-e c x y p q =
    let meeting : meets (pass_of c.args.pass) x y ≡ true = sym (met _ p q c.meets.ensures) ∙ not-false _ (ap not c.if-not-meets.false) in
    let r = as_counted _ p q c.counted-r.ensures in
    let allowed : rule (pass_of c.args.pass) x (counted (pass_of c.args.pass) x.edge y) ≡ true = sym (c.ruled.ensures x _ p r) ∙ not-false _ (ap not c.if-not-ruled.false) in
    let v = over_value (decimals_fit (pass_of c.args.pass) x.edge (counted (pass_of c.args.pass) x.edge y)) (joined_value (pass_of c.args.pass) x y) (sym (c.in_ok-v.ensures x.edge _ (chain_edge p) r) ∙ ap Ok c.in-Some.is) in
    let joined = c.joined_edge-self.ensures x.edge (counted (pass_of c.args.pass) x.edge y) (joined_value (pass_of c.args.pass) x y) (chain_edge p).is r.is v.2 in
    let g : y.gap ≡ false = sym (ap (λ (e : PassEdge). e.num.gap) q.is) ∙ not-true _ c.if-not-e.true in
    ap Ok (rw (joined, c.joined_decimals-decimals.ensures x y (chain_edge p).is q.is, q.is, g)) ∙ longer_answer _ x y meeting allowed v.0 v.1

pub returns-else-not-e : goal.returns-else-not-e
unfolding longer
returns-else-not-e c x y p q =
    let meeting : meets (pass_of c.args.pass) x y ≡ true = sym (met _ p q c.meets.ensures) ∙ not-false _ (ap not c.if-not-meets.false) in
    let r = as_counted _ p q c.counted-r.ensures in
    let allowed : rule (pass_of c.args.pass) x (counted (pass_of c.args.pass) x.edge y) ≡ true = sym (c.ruled.ensures x _ p r) ∙ not-false _ (ap not c.if-not-ruled.false) in
    let v = over_value (decimals_fit (pass_of c.args.pass) x.edge (counted (pass_of c.args.pass) x.edge y)) (joined_value (pass_of c.args.pass) x y) (sym (c.in_ok-v.ensures x.edge _ (chain_edge p) r) ∙ ap Ok c.in-Some.is) in
    let joined = c.joined_edge-self.ensures x.edge (counted (pass_of c.args.pass) x.edge y) (joined_value (pass_of c.args.pass) x y) (chain_edge p).is r.is v.2 in
    let g : y.gap ≡ true = sym (ap (λ (e : PassEdge). e.num.gap) q.is) ∙ not-false _ c.if-not-e.false in
    ap Ok (rw (joined, c.joined_decimals-decimals.ensures x y (chain_edge p).is q.is, p.is, g)) ∙ longer_answer _ x y meeting allowed v.0 v.1
