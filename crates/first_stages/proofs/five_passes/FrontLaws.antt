-- A lattice stands in the first 39,424 bytes of its work space: what is behind them may change. No contract cites this file.
-- In order: what is read of those bytes; the lattice. Assumes nothing.
use mathlib.Core.Path.{◌≡◌, sym, ap, ◌∙◌}
use mathlib.Core.Logic.{◌⊎◌, inl, inr}
use mathlib.Core.Bool.{true}
use mathlib.Core.List.{List}
use Prim.Native.Nat.{ℕ, ◌+◌, ◌*◌, ◌≤◌}
use native.Mathlib.Omega.{arith}
use lib.ListN.{length, take}
use Rattle.fields.specs.Fields.{le, le_at}
use Rattle.fields.specs.Part.{part}
use Rattle.fields.proofs.PartLaws.{part_of_take}
use Rattle.edge.specs.Edge.{Edge}
use Rattle.lattice.specs.declared.Lattice.{Lattice}
use Rattle.lattice.specs.Lattice.{overfull}
use Rattle.lattice.specs.Kept.{END, OFFSETS, NEXTS, HEADS, cell, Kept, Holds}

module _ (w v : List ℕ) (front : take END v ≡ take END w) (long : length v ≡ length w) where
  part_front : (at n : ℕ) → at + n ≤ END → part v at n ≡ part w at n
  part_front at n h = sym (part_of_take v END at n h) ∙ ap (λ (s : List ℕ). part s at n) front ∙ part_of_take w END at n h

  cell_front : (base i : ℕ) → base + 2 * i + 2 ≤ END → cell v base i ≡ cell w base i
  unfolding le_at
  cell_front base i h = ap le (part_front (base + 2 * i) 2 h)

  kept_front : {n len : ℕ} {es : List Edge} → Kept w n len es → Kept v n len es
  kept_front {n} {len} {es} k =
      let r = k.room in
      let f = k.few in
      let s = k.short in
      record {
        room = omega arith;
        count = k.count;
        few = k.few;
        short = k.short;
        size = k.size;
        listing = part_front 0 len (omega arith) ∙ k.listing;
        fits = k.fits;
        offsets = λ i x. cell_front OFFSETS i (omega arith) ∙ k.offsets i x;
        nexts = λ i x. cell_front NEXTS i (omega arith) ∙ k.nexts i x;
        heads = λ i x. cell_front HEADS i (omega arith) ∙ k.heads i x;
      }

  pub holds_front : {l : Lattice} {es : List Edge} → Holds w l es → Holds v l es
  holds_front {l} {es} q = record { room = let r = q.room in omega arith; short = q.short; state = go q.state }
    where
      go : ((l.len ≡ 0) × (overfull es ≡ true)) ⊎ ((l.len ≡ 0 → ⊥) × Kept w l.count l.len es)
          → ((l.len ≡ 0) × (overfull es ≡ true)) ⊎ ((l.len ≡ 0 → ⊥) × Kept v l.count l.len es)
      go (inl x) = inl x
      go (inr x) = inr (x.0, kept_front x.1)
