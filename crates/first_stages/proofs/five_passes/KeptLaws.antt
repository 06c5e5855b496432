-- A pass that keeps the count of the list joined nothing: each edge begins a chain and ends it. No contract cites this file.
-- In order: chains are no more than edges; as many chains as edges; the pass. Assumes nothing.
use mathlib.Core.Path.{◌≡◌, refl, sym, ap, ◌∙◌}
use mathlib.Core.Bool.{false}
use mathlib.Core.List.{List, [], ◌∷◌}
use mathlib.Core.Option.{Option, none, some}
use Prim.Native.Nat.{suc, ◌≤◌}
use native.Mathlib.Omega.{arith}
use lib.ListN.{length}
use Rattle.passes.specs.Chains.{from, chains}
use Rattle.passes.specs.Passes.{Pass}
use Rattle.passes.proofs.ChainsLaws.{from_nil, from_none, from_some}
use Rattle.pass_list.specs.StoredEdge.{StoredEdge}
use Rattle.pass_list.specs.StoredPass.{StoredChain, begin, next, chains_of, edges_of, joined_of, after, added}

length_edges : (cs : List StoredChain) → length (edges_of cs) ≡ length cs
length_edges [] = refl
length_edges (c ∷ cs) = ap suc (length_edges cs)

begin_single : (y : StoredEdge) → (begin y).more ≡ false
unfolding begin
begin_single y = refl

module _ (p : Pass) where
  abbrev chain_from : StoredChain → List StoredEdge → List StoredChain
  chain_from = from begin (next p)

  -- ---- chains are no more than edges
  from_few : (c : StoredChain) (l : List StoredEdge) → length (chain_from c l) ≤ suc (length l)
  from_few c [] = rw (from_nil begin (next p) c) (omega arith)
  from_few c (y ∷ l) = go (next p c y) refl (λ d. from_few d l)
    where
      go : (o : Option StoredChain) → next p c y ≡ o → ((d : StoredChain) → length (chain_from d l) ≤ suc (length l)) → length (chain_from c (y ∷ l)) ≤ suc (suc (length l))
      go none e r = let a = r (begin y) in rw (from_none begin (next p) c y l e) (omega arith)
      go (some t) e r = let a = r t in rw (from_some begin (next p) c t y l e) (omega arith)

  -- ---- as many chains as edges
  from_kept : (c : StoredChain) (l : List StoredEdge) → c.more ≡ false → length (chain_from c l) ≡ suc (length l) → joined_of (chain_from c l) ≡ []
  unfolding joined_of
  from_kept c [] m h = rw (from_nil begin (next p) c, m)
  from_kept c (y ∷ l) m h = go (next p c y) refl (from_kept (begin y) l (begin_single y))
    where
      go : (o : Option StoredChain) → next p c y ≡ o → (length (chain_from (begin y) l) ≡ suc (length l) → joined_of (chain_from (begin y) l) ≡ []) → joined_of (chain_from c (y ∷ l)) ≡ []
      go none e r = let a : suc (length (chain_from (begin y) l)) ≡ suc (suc (length l)) = sym (ap length (from_none begin (next p) c y l e)) ∙ h in rw (from_none begin (next p) c y l e, m) (r (omega arith))
      go (some t) e r = let a = from_few t l in let b : length (chain_from t l) ≡ suc (suc (length l)) = sym (ap length (from_some begin (next p) c t y l e)) ∙ h in absurd (omega arith)

  -- ---- the pass
  pub added_none : (l : List StoredEdge) → length (after p l) ≡ length l → added p l ≡ []
  unfolding after added chains_of chains joined_of
  added_none [] h = refl
  added_none (y ∷ l) h = from_kept (begin y) l (begin_single y) (sym (length_edges (chain_from (begin y) l)) ∙ h)
