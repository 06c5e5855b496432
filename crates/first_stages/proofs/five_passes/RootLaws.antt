-- The passes keep stored edges rooted in the table: what is joined takes its script from its last part. No contract cites this file.
-- In order: one joined stored edge; a pass; sound stored edges. Assumes nothing.
use mathlib.Core.Path.{◌≡◌, sym, subst}
use mathlib.Core.Bool.{Bool, true, false, cond}
use mathlib.Core.List.{List, [], ◌∷◌}
use mathlib.Core.Option.{none, some, some-injective, some-ne-none}
use Prim.Native.Nat.{ℕ}
use native.Mathlib.Omega.{arith}
use Rattle.passes.specs.Passes.{Pass, D1, G1, G2, G3, G4}
use Rattle.pass_list.specs.StoredEdge.{StoredEdge, Every, AllSmall, nil, cons}
use Rattle.pass_list.specs.StoredPass.{StoredChain, kind_of, begin, joins, longer, over, counted, with_numbers, retags, retagged, joined_value, joined_decimals, next, chains_of, edges_of, after}
use Rattle.pass_list.specs.Edges.{WellMade}
use Rattle.pass_list.proofs.in_turn.Simulation.{chains_every}
use Rattle.pass_edge.specs.Grounded.{ScriptAt, Rooted, Grounded}

module _ (t : List ℕ) where
  abbrev Script : StoredEdge → Type 0
  Script x = x.has_script ≡ true → ScriptAt t x.script_offset x.script_len

  -- ---- one joined stored edge
  counted_script : (p : Pass) (l x : StoredEdge) → Script x → Script (counted p l x)
  unfolding counted with_numbers
  counted_script D1 l x h = h
  counted_script G1 l x h = h
  counted_script G2 l x h = h
  counted_script G3 l x h = h
  counted_script G4 l x h = go (retags l x)
    where
      go : (b : Bool) → Script (cond b (retagged l x) x)
      go true = h
      go false = h

  kind_of_lem : (p : Pass) → kind_of p ≡ 0 → ⊥
  kind_of_lem D1 e = omega arith
  kind_of_lem G1 e = omega arith
  kind_of_lem G2 e = omega arith
  kind_of_lem G3 e = omega arith
  kind_of_lem G4 e = omega arith

  over_rooted : (p : Pass) (l e : StoredEdge) (v k : ℕ) → Script e → Rooted t (over p l e v k)
  unfolding over
  over_rooted p l e v k h = record { legal = λ z. absurd (kind_of_lem p z); one = λ z. absurd (kind_of_lem p z); script = h }

  -- ---- a pass
  abbrev RootedChain : StoredChain → Type 0
  RootedChain c = Rooted t c.edge

  begin_rooted : (x : StoredEdge) → Rooted t x → RootedChain (begin x)
  unfolding begin
  begin_rooted x h = h

  longer_rooted : (p : Pass) (c : StoredChain) (x : StoredEdge) → Rooted t x → RootedChain (longer p c x)
  unfolding longer
  longer_rooted p c x h = over_rooted p c.edge (counted p c.edge x) (joined_value p c x) (joined_decimals p c x) (counted_script p c.edge x h.script)

  next_rooted : (p : Pass) (c : StoredChain) (x : StoredEdge) (d : StoredChain) → Rooted t x → next p c x ≡ some d → RootedChain d
  unfolding next
  next_rooted p c x d h e = go (joins p c x) e
    where
      go : (b : Bool) → cond b (some (longer p c x)) none ≡ some d → RootedChain d
      go true e = subst RootedChain (some-injective (longer p c x) d e) (longer_rooted p c x h)
      go false e = absurd (some-ne-none d (sym e))

  edges_rooted : (cs : List StoredChain) → Every RootedChain cs → Every (Rooted t) (edges_of cs)
  edges_rooted [] nil = nil
  edges_rooted (c ∷ cs) (cons r h) = cons r (edges_rooted cs h)

  pub after_rooted : (p : Pass) (l : List StoredEdge) → Every (Rooted t) l → Every (Rooted t) (after p l)
  unfolding after chains_of
  after_rooted p l h = edges_rooted (chains_of p l) (chains_every begin (next p) (Rooted t) RootedChain begin_rooted (λ c x d k h e. next_rooted p c x d h e) l h)

-- ---- sound stored edges
module _ {point : ℕ → Bool} {w t : List ℕ} where
  pub sounds_of : {l : List StoredEdge} → Every (WellMade point w t) l → AllSmall l → Every (Rooted t) l → Every (Grounded point w t) l
  sounds_of {l = []} nil nil nil = nil
  sounds_of {l = x ∷ l} (cons m ms) (cons s ss) (cons r rs) = cons (record { made = m; small = s; rooted = r }) (sounds_of ms ss rs)

  pub sounds_made : {l : List StoredEdge} → Every (Grounded point w t) l → Every (WellMade point w t) l
  sounds_made {l = []} nil = nil
  sounds_made {l = x ∷ l} (cons s ss) = cons s.made (sounds_made ss)

  pub sounds_small : {l : List StoredEdge} → Every (Grounded point w t) l → AllSmall l
  sounds_small {l = []} nil = nil
  sounds_small {l = x ∷ l} (cons s ss) = cons s.small (sounds_small ss)

  pub sounds_rooted : {l : List StoredEdge} → Every (Grounded point w t) l → Every (Rooted t) l
  sounds_rooted {l = []} nil = nil
  sounds_rooted {l = x ∷ l} (cons s ss) = cons s.rooted (sounds_rooted ss)
