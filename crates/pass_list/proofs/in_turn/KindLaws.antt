-- The stored edges that a pass joins are those of its kind in the list after it, where the list before it has stored edges of earlier kinds only.
-- In order: the chains' kinds; the joined stored edges; the kinds in the list after the pass.
use Prim.Native.Nat.{◌≤◌, ◌<◌}
use native.Mathlib.Omega.{arith}
use mathlib.Core.Path.{◌≡◌, refl, sym, ap, subst}
use mathlib.Core.Bool.{Bool, true, false, cond, true≢false, false≢true}
use mathlib.Core.List.{List, [], ◌∷◌}
use mathlib.Core.Option.{none, some, some-injective, some-ne-none}
use lib.Dec.{eqb}
use borrow.Author.Tests.{eq-eqb, ne_eqb}
use Rattle.passes.specs.Passes.{Pass}
use Rattle.pass_list.specs.StoredEdge.{StoredEdge, Every, nil, cons}
use Rattle.pass_list.specs.StoredPass.{StoredChain, kind_of, begin, joins, longer, over, next, chains_of, edges_of, joined_of, after, added}
use Rattle.pass_list.proofs.in_turn.Simulation.{chains_every}
use Rattle.pass_list.specs.InTurn.{of_kind}
use Rattle.pass_list.specs.Kind.{kind_number}

module _ (p : Pass) where
  abbrev pub Earlier : StoredEdge → Type 0
  Earlier x = kind_number x.kind < kind_of p

  record ChainKind (c : StoredChain) : Type 0 where
    pub joined : c.more ≡ true → kind_number c.edge.kind ≡ kind_of p
    pub single : c.more ≡ false → kind_number c.edge.kind < kind_of p

  begin_kind : (x : StoredEdge) → Earlier x → ChainKind (begin x)
  unfolding begin
  begin_kind x h = record { joined = λ e. absurd (false≢true e); single = λ e. h }

  longer_kind : (c : StoredChain) (x : StoredEdge) → ChainKind (longer p c x)
  unfolding longer over
  longer_kind c x = record { joined = λ e. refl; single = λ e. absurd (true≢false e) }

  next_kind : (c : StoredChain) (x : StoredEdge) (d : StoredChain) → next p c x ≡ some d → ChainKind d
  unfolding next
  next_kind c x d e = go (joins p c x) e
    where
      go : (b : Bool) → cond b (some (longer p c x)) none ≡ some d → ChainKind d
      go true e = subst ChainKind (some-injective (longer p c x) d e) (longer_kind c x)
      go false e = absurd (some-ne-none d (sym e))

  chains_kind : (l : List StoredEdge) → Every Earlier l → Every ChainKind (chains_of p l)
  unfolding chains_of
  chains_kind = chains_every begin (next p) Earlier ChainKind begin_kind (λ c x d k h e. next_kind c x d e)

  -- ---- the joined stored edges
  joined_of_kind : (cs : List StoredChain) → Every ChainKind cs → joined_of cs ≡ of_kind (kind_of p) (edges_of cs)
  unfolding joined_of of_kind
  joined_of_kind [] nil = refl
  joined_of_kind (c ∷ cs) (cons k h) = go c.more refl (joined_of_kind cs h)
    where
      rest : List StoredEdge
      rest = of_kind (kind_of p) (edges_of cs)

      go : (b : Bool) → c.more ≡ b → joined_of cs ≡ rest → cond b (c.edge ∷ joined_of cs) (joined_of cs) ≡ cond (eqb (kind_number c.edge.kind) (kind_of p)) (c.edge ∷ rest) rest
      go true e ih = rw (eq-eqb (kind_number c.edge.kind) (kind_of p) (k.joined e)) (ap {B = List StoredEdge} (λ r. c.edge ∷ r) ih)
      go false e ih = rw (ne_eqb (kind_number c.edge.kind) (kind_of p) (λ q. omega (arith, k.single e))) ih

  pub added_of_kind : (l : List StoredEdge) → Every Earlier l → added p l ≡ of_kind (kind_of p) (after p l)
  unfolding added after
  added_of_kind l h = joined_of_kind (chains_of p l) (chains_kind l h)

  -- ---- the kinds in the list after the pass: earlier ones for the next
  edges_kind : (cs : List StoredChain) → Every ChainKind cs → Every (λ x. kind_number x.kind ≤ kind_of p) (edges_of cs)
  edges_kind [] nil = nil
  edges_kind (c ∷ cs) (cons k h) = cons (go c.more refl) (edges_kind cs h)
    where
      go : (b : Bool) → c.more ≡ b → kind_number c.edge.kind ≤ kind_of p
      go true e = omega (arith, k.joined e)
      go false e = omega (arith, k.single e)

  pub after_kind : (l : List StoredEdge) → Every Earlier l → Every (λ x. kind_number x.kind ≤ kind_of p) (after p l)
  unfolding after
  after_kind l h = edges_kind (chains_of p l) (chains_kind l h)
