-- A lattice that is over what a listing may hold stays so through every stage. No contract cites this file.
-- In order: a full lattice; edges added; edges turned inactive. Assumes nothing.
use mathlib.Core.Path.{◌≡◌, refl, ◌∙◌}
use mathlib.Core.Logic.{inl}
use mathlib.Core.Bool.{Bool, true, false, cond}
use mathlib.Core.List.{List, [], ◌∷◌, map}
use Prim.Native.Nat.{ℕ}
use native.Mathlib.Omega.{arith}
use lib.ListN.{length, length-append}
use Rattle.edge.specs.Edge.{Edge, edge_bytes, edges_bytes, listing_bytes}
use Rattle.lattice.specs.declared.Lattice.{Lattice}
use Rattle.lattice.specs.Lattice.{add, add_all, inactive, turn_off_at, turn_off, overfull}
use Rattle.lattice.specs.Kept.{Holds}
use Rattle.lattice.proofs.KeptLaws.{length_listing}
use Rattle.lattice.proofs.HoldsLaws.{over_add}
use Rattle.lattice.proofs.TurnOffLaws.{inactive_length, length_turned, turned_size}

-- ---- a full lattice stands for every list that is over
pub holds_full : {w : List ℕ} {l : Lattice} {es fs : List Edge} → Holds w l es → l.len ≡ 0 → overfull fs ≡ true → Holds w l fs
holds_full q f o = record { room = q.room; short = q.short; state = inl (f, o) }

-- ---- edges added
pub over_add_all : (es cs : List Edge) → overfull es ≡ true → overfull (add_all es cs) ≡ true
unfolding add_all
over_add_all es [] h = h
over_add_all es (c ∷ cs) h = over_add_all (add es c) cs (over_add es c h)

-- ---- edges turned inactive: as many, and as long
over_same : (es fs : List Edge) → length es ≡ length fs → length (edges_bytes es) ≡ length (edges_bytes fs) → overfull es ≡ overfull fs
unfolding overfull
over_same es fs l b =
    let s : length (listing_bytes es) ≡ length (listing_bytes fs) = let x = length_listing es in let y = length_listing fs in omega arith in
    rw (l, s)

pub over_turn_off : (es : List Edge) (is : List ℕ) → overfull (turn_off es is) ≡ overfull es
unfolding turn_off
over_turn_off es [] = refl
over_turn_off es (i ∷ is) = over_turn_off (turn_off_at es i) is ∙ over_same (turn_off_at es i) es (length_turned es i) (turned_size es i)

module _ (off : Edge → Bool) where
  pub length_map_inactive : (es : List Edge) → length (map (λ (e : Edge). cond (off e) (inactive e) e) es) ≡ length es
  length_map_inactive [] = refl
  length_map_inactive (e ∷ es) = let h = length_map_inactive es in omega arith

  same_size : (b : Bool) (e : Edge) → length (edge_bytes (cond b (inactive e) e)) ≡ length (edge_bytes e)
  same_size true e = inactive_length e
  same_size false e = refl

  size_map_inactive : (es : List Edge) → length (edges_bytes (map (λ (e : Edge). cond (off e) (inactive e) e) es)) ≡ length (edges_bytes es)
  unfolding edges_bytes
  size_map_inactive [] = refl
  size_map_inactive (e ∷ es) =
      let h = size_map_inactive es in
      let k = same_size (off e) e in
      let a = length-append (edge_bytes (cond (off e) (inactive e) e)) (edges_bytes (map (λ (d : Edge). cond (off d) (inactive d) d) es)) in
      let b = length-append (edge_bytes e) (edges_bytes es) in
      omega arith

  pub over_map_inactive : (es : List Edge) → overfull (map (λ (e : Edge). cond (off e) (inactive e) e) es) ≡ overfull es
  over_map_inactive es = over_same _ es (length_map_inactive es) (size_map_inactive es)
