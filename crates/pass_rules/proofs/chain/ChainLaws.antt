-- Laws of a chain and its next edge (`pass_list`, specs/StoredPass.antt and specs/Answers.antt), for this crate's proofs and its callers'. No contract
-- cites this file. In order: the base that the next is held against; an edge as it counts; the decimals of the edge over both; what `Chain::join` answers.
-- Assumes nothing.
use mathlib.Core.Path.{◌≡◌, refl, ap}
use mathlib.Core.Bool.{Bool, true, false, cond, ◌&&◌}
use mathlib.Core.Logic.{◌⊎◌, inl, inr}
use Prim.Native.Nat.{ℕ, zero, suc, ◌+◌, ◌*◌, ◌/◌, ◌^◌, ◌≤◌, ◌<◌}
use native.Mathlib.Nat.{mul-le-mul_right}
use native.Mathlib.Omega.{arith}
use lib.Dec.{leb, ltb, eqb}
use borrow.Author.Tests.{leb-true, eqb-true, ltb-true, lt-ltb, le-ltb}
use Rattle.whole.specs.Whole.{TOP}
use Rattle.text.proofs.RowLaws.{and-true, or-true}
use Rattle.passes.specs.Passes.{Pass, D1, G1, G2, G3, G4, power_of_ten}
use Rattle.pass_rules.specs.declared.chain.Chain.{Chain}
use Rattle.pass_list.specs.StoredEdge.{StoredEdge, Fits, EdgeIs}
use Rattle.pass_list.specs.StoredPass.{StoredChain, touches, over_point, meets, rule, decimals_fit, retaggable, retags, with_numbers, retagged, counted, joins, joined_value, joined_decimals, longer}
use Rattle.passes.specs.DecimalPasses.{one_more}
use Rattle.pass_rules.specs.Chain.{pass_chain, ChainIs, answer}
use Rattle.std.specs.Prelude as std
use Rattle.std.specs.Prelude.{Some, None, Ok, Err}
use Rattle.whole.specs.Answers.{above_top}

-- ---- the base that the next edge is held against: it is there, or not
pub near_there : (b : Bool) (n k : ℕ) → ◌≡◌ {A = std.Option ℕ} (Some k) (cond b (Some n) None) → (b ≡ true) × (k ≡ n)
near_there true n k e = (refl, cc)
near_there false n k e = absurd (let z : ◌≡◌ {A = ℕ} 0 1 = cc in omega arith)

pub near_none : (b : Bool) (n : ℕ) → ◌≡◌ {A = std.Option ℕ} None (cond b (Some n) None) → b ≡ false
near_none true n e = absurd (let z : ◌≡◌ {A = ℕ} 0 1 = cc in omega arith)
near_none false n e = refl

-- ---- an edge as it counts fits like the edge itself
numbers_fit : (e : StoredEdge) (v b : ℕ) → Fits e → v ≤ TOP → b ≤ TOP → Fits (with_numbers e v b)
unfolding with_numbers
numbers_fit e v b f h k =
    record { small = record { value = h; base = k; mult = f.small.mult }; start = f.start; end = f.end; record_offset = f.record_offset; script_offset = f.script_offset; script_len = f.script_len; decimals = f.decimals }

-- only a digit is retagged
retags_digit : (l e : StoredEdge) → retags l e ≡ true → e.value ≤ 9
unfolding retags
retags_digit l e t =
    let test = (and-true (retaggable l e) (power_of_ten l.base) t).0 in
    leb-true e.value 9 (and-true (l.cjk && leb 1000 l.base && eqb e.end (e.start + 1) && leb 1 e.value) (leb e.value 9) test).1

-- a digit times a tenth of the base is below the base
tenth_small : (v b : ℕ) → v ≤ 9 → b ≤ TOP → v * (b / 10) ≤ TOP
tenth_small v b h k = let p : v * (b / 10) ≤ 9 * (b / 10) = mul-le-mul_right (b / 10) h in omega arith

pub counted_fits : (p : Pass) (l e : StoredEdge) → Fits l → Fits e → Fits (counted p l e)
unfolding counted
counted_fits D1 l e f g = numbers_fit e e.value 1 g g.small.value (omega arith)
counted_fits G1 l e f g = g
counted_fits G2 l e f g = g
counted_fits G3 l e f g = g
counted_fits G4 l e f g = go (retags l e) refl
  where
    go : (b : Bool) → retags l e ≡ b → Fits (cond b (retagged l e) e)
    go true t = let s = f.small.base in numbers_fit e _ _ g (tenth_small e.value l.base (retags_digit l e t) s) (omega arith)
    go false t = g

-- ---- what `Chain::join` answers
pub chain_edge : {c : Chain} {x : StoredChain} → ChainIs c x → EdgeIs c.edge x.edge
chain_edge h = record { is = ap (λ (c : Chain). c.edge) h.is; fits = h.fits }

-- D1 takes no sixteenth decimal
pub few_decimals : (p : Pass) (x : StoredChain) (y : StoredEdge) → joins p x y ≡ true → joined_decimals p x y < 2 ^ 4
unfolding joins
few_decimals D1 x y j = go (touches x y) x.edge.decimals refl refl
  where
    few : (k : ℕ) → x.edge.decimals ≡ k → (((touches x y && ltb x.edge.decimals 15) ≡ true) ⊎ (over_point x y ≡ true)) → one_more k < 2 ^ 4
    few zero e h = omega arith
    few (suc k) e (inl h) = let a = ltb-true x.edge.decimals 15 (and-true (touches x y) (ltb x.edge.decimals 15) h).1 in omega arith
    few (suc k) e (inr h) =
        let a = (and-true x.edge.point (eqb x.edge.decimals 0 && eqb y.start (suc x.edge.end)) h).1 in
        let b = eqb-true x.edge.decimals 0 (and-true (eqb x.edge.decimals 0) (eqb y.start (suc x.edge.end)) a).0 in
        absurd (omega arith)

    go : (t : Bool) (k : ℕ) → touches x y ≡ t → x.edge.decimals ≡ k → cond t (one_more k) 1 < 2 ^ 4
    go true k t e = few k e (or-true (touches x y && ltb x.edge.decimals 15) (over_point x y) (and-true (meets D1 x y) _ j).0)
    go false k t e = omega arith
few_decimals G1 x y j = omega arith
few_decimals G2 x y j = omega arith
few_decimals G3 x y j = omega arith
few_decimals G4 x y j = omega arith

module _ (p : Pass) (x : StoredChain) (y : StoredEdge) where
  pub apart : meets p x y ≡ false → Ok None ≡ answer p x y
  unfolding answer joins
  apart t = rw t

  module _ (t : meets p x y ≡ true) where
    pub refused : rule p x (counted p x.edge y) ≡ false → Ok None ≡ answer p x y
    unfolding answer joins
    refused r = rw (t, r)

    module _ (r : rule p x (counted p x.edge y) ≡ true) where
      -- the decimals of both keep them apart
      pub unfit : decimals_fit p x.edge (counted p x.edge y) ≡ false → Ok None ≡ answer p x y
      unfolding answer joins
      unfit f = rw (t, r, f)

      module _ (f : decimals_fit p x.edge (counted p x.edge y) ≡ true) where
        pub too_large : TOP < joined_value p x y → Err above_top ≡ answer p x y
        unfolding answer joins
        too_large v = rw (t, r, f, lt-ltb TOP (joined_value p x y) v)

        pub longer_answer : joined_value p x y ≤ TOP → Ok (Some (pass_chain (longer p x y))) ≡ answer p x y
        unfolding answer joins
        longer_answer v = rw (t, r, f, le-ltb TOP (joined_value p x y) v)
