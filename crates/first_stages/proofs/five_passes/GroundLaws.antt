-- The five passes keep stored edges grounded (`pass_edge`, specs/Grounded.antt), where no joined edge has a value above TOP: of the definitions, without the code that runs them.
-- No contract cites this file.
-- In order: the numbers of a chain; one pass; the passes in turn. Assumes nothing.
use mathlib.Core.Path.{◌≡◌, refl, sym, subst, ◌∙◌}
use mathlib.Core.Bool.{Bool, true, false, cond}
use mathlib.Core.List.{List, [], ◌∷◌}
use mathlib.Core.Option.{Option, none, some, some-injective, some-ne-none}
use Prim.Native.Nat.{ℕ, ◌≤◌}
use native.Mathlib.Omega.{arith}
use lib.Dec.{ltb}
use borrow.Author.Tests.{ltb-false}
use Rattle.text.specs.Text.{Scalars}
use Rattle.whole.specs.Whole.{TOP}
use Rattle.passes.specs.Passes.{Pass, D1, G1, G2, G3, G4}
use Rattle.pass_list.specs.StoredEdge.{StoredEdge, Small, Every, AllSmall, nil, cons}
use Rattle.pass_list.specs.StoredPass.{StoredChain, begin, joins, longer, over, counted, with_numbers, retags, retagged, next, chains_of, edges_of, joined_of, after, added, first_above}
use Rattle.pass_list.specs.Edges.{points_of}
use Rattle.pass_list.specs.InTurn.{through, added_by}
use Rattle.pass_list.proofs.in_turn.Simulation.{chains_every, after_made}
use Rattle.pass_list.proofs.in_turn.InTurnLaws.{above_here, above_later}
use Rattle.pass_list.proofs.in_turn.EveryLaws.{every_append}
use Rattle.pass_edge.specs.Grounded.{Grounded, AllGrounded}
use Rattle.characters.proofs.Theorems.{point_there}
use Rattle.first_stages.proofs.five_passes.RootLaws.{after_rooted, sounds_of, sounds_made, sounds_small, sounds_rooted}

-- ---- the numbers of a chain: its base and its multiplier are within 01's bounds, and so is its value while nothing was joined
record Bounded (c : StoredChain) : Type 0 where
  pub base : c.edge.base ≤ TOP
  pub mult : c.edge.mult ≤ TOP
  pub value : c.more ≡ false → c.edge.value ≤ TOP

counted_base_lem : (p : Pass) (l x : StoredEdge) → l.base ≤ TOP → x.base ≤ TOP → (counted p l x).base ≤ TOP
unfolding counted with_numbers
counted_base_lem D1 l x h k = omega arith
counted_base_lem G1 l x h k = k
counted_base_lem G2 l x h k = k
counted_base_lem G3 l x h k = k
counted_base_lem G4 l x h k = go (retags l x)
  where
    go : (b : Bool) → (cond b (retagged l x) x).base ≤ TOP
    go true = omega arith
    go false = k

begin_bounded : (x : StoredEdge) → Small x → Bounded (begin x)
unfolding begin
begin_bounded x s = record { base = s.base; mult = s.mult; value = λ m. s.value }

longer_bounded : (p : Pass) (c : StoredChain) (x : StoredEdge) → Bounded c → Small x → Bounded (longer p c x)
unfolding longer over
longer_bounded p c x b s = record {
  base = counted_base_lem p c.edge x b.base s.base;
  mult = omega arith;
  value = λ m. absurd (let z : ◌≡◌ {A = ℕ} 0 1 = cc in omega arith);
}

next_bounded : (p : Pass) (c : StoredChain) (x : StoredEdge) (d : StoredChain) → Bounded c → Small x → next p c x ≡ some d → Bounded d
unfolding next
next_bounded p c x d b s e = go (joins p c x) e
  where
    go : (t : Bool) → cond t (some (longer p c x)) none ≡ some d → Bounded d
    go true e = subst Bounded (some-injective (longer p c x) d e) (longer_bounded p c x b s)
    go false e = absurd (some-ne-none d (sym e))

-- ---- one pass
edges_small : (cs : List StoredChain) → Every Bounded cs → first_above (joined_of cs) ≡ none → AllSmall (edges_of cs)
unfolding joined_of first_above
edges_small [] nil e = nil
edges_small (c ∷ cs) (cons b bs) e = go c.more refl (edges_small cs bs) e
  where
    below : (t : Bool) → ltb TOP c.edge.value ≡ t → (first_above (joined_of cs) ≡ none → AllSmall (edges_of cs)) → cond t (some c.edge.start) (first_above (joined_of cs)) ≡ none → AllSmall (edges_of (c ∷ cs))
    below true t more e = absurd (some-ne-none c.edge.start e)
    below false t more e = cons (record { value = ltb-false _ _ t; base = b.base; mult = b.mult }) (more e)

    go : (m : Bool) → c.more ≡ m → (first_above (joined_of cs) ≡ none → AllSmall (edges_of cs)) → first_above (cond m (c.edge ∷ joined_of cs) (joined_of cs)) ≡ none → AllSmall (edges_of (c ∷ cs))
    go true m more e = below (ltb TOP c.edge.value) refl more e
    go false m more e = cons (record { value = b.value m; base = b.base; mult = b.mult }) (more e)

after_small : (p : Pass) (l : List StoredEdge) → AllSmall l → first_above (added p l) ≡ none → AllSmall (after p l)
unfolding after added chains_of
after_small p l s e = edges_small (chains_of p l) (chains_every begin (next p) Small Bounded begin_bounded (next_bounded p) l s) e

-- what holds of the list after the pass holds of those of its edges that the pass joined
joined_every : {P : StoredEdge → Type 0} (cs : List StoredChain) → Every P (edges_of cs) → Every P (joined_of cs)
unfolding joined_of
joined_every [] nil = nil
joined_every {P} (c ∷ cs) (cons h hs) = go c.more (joined_every cs hs)
  where
    go : (m : Bool) → Every P (joined_of cs) → Every P (cond m (c.edge ∷ joined_of cs) (joined_of cs))
    go true r = cons h r
    go false r = r

-- b: points count
module _ (b : Bool) (w t : List ℕ) (scalars : Scalars w) where
  abbrev Sound : List StoredEdge → Type 0
  Sound = Every (Grounded (points_of b w) w t)

  after_sound : (p : Pass) (l : List StoredEdge) → Sound l → first_above (added p l) ≡ none → Sound (after p l)
  after_sound p l s e = sounds_of (after_made (points_of b w) w t scalars (point_there b w) p l (sounds_made s)) (after_small p l (sounds_small s) e) (after_rooted t p l (sounds_rooted s))

  added_sound : (p : Pass) (l : List StoredEdge) → Sound (after p l) → Sound (added p l)
  unfolding after added
  added_sound p l s = joined_every (chains_of p l) s

  -- ---- the passes in turn
  pub record PassesGrounded (ps : List Pass) (l : List StoredEdge) : Type 0 where
    pub last : Sound (through ps l)
    pub joined : Sound (added_by ps l)

  pub passes_grounded : (ps : List Pass) (l : List StoredEdge) → Sound l → first_above (added_by ps l) ≡ none → PassesGrounded ps l
  unfolding through added_by
  passes_grounded [] l s e = record { last = s; joined = nil }
  passes_grounded (p ∷ ps) l s e = go (first_above (added p l)) refl (passes_grounded ps (after p l))
    where
      go : (o : Option ℕ) → first_above (added p l) ≡ o → (Sound (after p l) → first_above (added_by ps (after p l)) ≡ none → PassesGrounded ps (after p l)) → PassesGrounded (p ∷ ps) l
      go (some a) f more = absurd (some-ne-none a (sym (above_here p ps l a f) ∙ e))
      go none f more =
          let kept = after_sound p l s f in
          let r = more kept (sym (above_later p ps l f) ∙ e) in
          record { last = r.last; joined = every_append (Grounded (points_of b w) w t) (added p l) (added_by ps (after p l)) (added_sound p l kept) r.joined }

-- a pass keeps the marks
pub after_grounded : (w t : List ℕ) → Scalars w → (p : Pass) (l : List StoredEdge) → AllGrounded w t l → first_above (added p l) ≡ none → AllGrounded w t (after p l)
after_grounded w t scalars p l s e = record { marks = s.marks; each = after_sound s.marks w t scalars p l s.each e }
