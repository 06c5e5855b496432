-- The heads of the buckets are cleared, and a lattice without edges is kept. No contract cites this file. Assumes nothing.
use mathlib.Core.Path.{◌≡◌, refl, sym, ap, ◌∙◌}
use mathlib.Core.Logic.{inr}
use mathlib.Core.List.{List, [], ◌++◌}
use Prim.Native.Nat.{ℕ, ◌+◌, ◌*◌, ◌≤◌, ◌<◌}
use native.Mathlib.Omega.{arith}
use lib.ListN.{length, take, drop, get_or, replicate, length-replicate, length-drop, length-append}
use lib.Seq.{sets, length-sets, length-take-le}
use borrow.Rule.Slice.PartMut.{put_mid, post_of}
use Rattle.std.proofs.lemmas.Slice.{take-put_mid_below, drop-put_mid, between-put_mid}
use Rattle.std.proofs.lemmas.List.{get_or-replicate}
use Rattle.fields.specs.Fields.{bytes_of, le_at}
use Rattle.fields.specs.Part.{part}
use Rattle.fields.proofs.FieldsLaws.{length-bytes_of, le_at-one, le_at-add}
use Rattle.fields.proofs.PartLaws.{part_at, part_sets, drop_sets}
use Rattle.edge.specs.Edge.{listing_bytes, edges_bytes}
use Rattle.lattice.specs.Kept.{END, HEADS, cell, last_in, Holds, SameBehind}
use Rattle.lattice.proofs.KeptLaws.{listing_of_lem}

-- two bytes that are 0 say 0
zero_pair : (s : List ℕ) (at : ℕ) → at + 2 ≤ length s → get_or s at 0 ≡ 0 → get_or s (at + 1) 0 ≡ 0 → le_at s at 2 ≡ 0
zero_pair s at h p q =
    let one : le_at s at 1 ≡ 0 = le_at-one s at (omega arith) ∙ p in
    let two : le_at s (at + 1) 1 ≡ 0 = le_at-one s (at + 1) (omega arith) ∙ q in
    le_at-add s at 1 1 (omega arith) ∙ rw (one, two)

-- t is what clearing the heads of w₁ left, and w₁ what storing the count in w left
module _ (w w₁ t ys : List ℕ) (n : ℕ) (room : END ≤ length w) (counted : w₁ ≡ sets w 0 (bytes_of 2 0)) (filled : t ≡ put_mid HEADS 512 w₁ ys) (clear : ys ≡ replicate n 0) (all : n ≡ length (take 512 (drop HEADS w₁))) where
  same_length : length w₁ ≡ length w
  same_length = rw counted (length-sets w 0 (bytes_of 2 0))

  all_heads : n ≡ 512
  all_heads = let s = same_length in all ∙ length-take-le 512 (drop HEADS w₁) (omega (arith, length-drop HEADS w₁))

  long : length ys ≡ 512
  long = ap length clear ∙ length-replicate n 0 ∙ all_heads

  cleared_length : length t ≡ length w
  cleared_length =
      let s = same_length in
      let y = long in
      let behind = post_of HEADS 512 w₁ in
      ap length filled ∙ omega (arith, length-append (take HEADS w₁) (ys ++ behind), length-append ys behind, length-take-le HEADS w₁ (omega arith), length-drop 512 (drop HEADS w₁), length-drop HEADS w₁)

  pub cleared_frame : SameBehind w t
  cleared_frame =
      let l = length-bytes_of 2 0 in
      let s = same_length in
      ap (drop END) filled ∙ drop-put_mid HEADS 512 w₁ ys END (omega arith) (omega arith) long ∙ ap (drop END) counted ∙ drop_sets w 0 (bytes_of 2 0) END (omega arith)

  heads : part t HEADS 512 ≡ replicate n 0
  unfolding part
  heads = let s = same_length in ap (λ (z : List ℕ). take 512 (drop HEADS z)) filled ∙ between-put_mid HEADS 512 w₁ ys END (omega arith) long ∙ clear

  zero_at : (k : ℕ) → k < 512 → get_or t (HEADS + k) 0 ≡ 0
  zero_at k h = sym (part_at t HEADS 512 k h) ∙ ap (λ (z : List ℕ). get_or z k 0) heads ∙ get_or-replicate n k 0 0 (omega (arith, all_heads))

  zeros : (i : ℕ) → i < 256 → cell t HEADS i ≡ 0
  zeros i h =
      let l = cleared_length in
      let next : HEADS + 2 * i + 1 ≡ HEADS + (2 * i + 1) = omega arith in
      zero_pair t (HEADS + 2 * i) (omega arith) (zero_at (2 * i) (omega arith)) (rw next (zero_at (2 * i + 1) (omega arith)))

  count : part t 0 2 ≡ bytes_of 2 0
  unfolding part
  count =
      let s = same_length in
      ap (take 2) filled ∙ take-put_mid_below HEADS 512 w₁ ys 2 (omega arith) (omega arith) ∙ ap (take 2) counted ∙ part_sets w 0 (bytes_of 2 0) 2 (length-bytes_of 2 0) (omega arith)

no_edges_lem : 2 ≡ length (listing_bytes [])
unfolding listing_bytes edges_bytes bytes_of
no_edges_lem = refl

module _ (w w₁ t ys : List ℕ) (n : ℕ) (room : END ≤ length w) (counted : w₁ ≡ sets w 0 (bytes_of 2 0)) (filled : t ≡ put_mid HEADS 512 w₁ ys) (clear : ys ≡ replicate n 0) (all : n ≡ length (take 512 (drop HEADS w₁))) where
  pub all_cleared : Holds t (record { count = 0; len = 2 }) []
  unfolding edges_bytes last_in part
  all_cleared =
      let l = cleared_length w w₁ t ys n room counted filled clear all in
      record {
        room = omega arith;
        short = omega arith;
        state = inr (
          λ h. absurd (omega arith),
          record {
            room = omega arith;
            count = refl;
            few = omega arith;
            short = omega arith;
            size = no_edges_lem;
            listing = listing_of_lem t 2 [] refl (count w w₁ t ys n room counted filled clear all) refl;
            fits = λ i x. absurd (omega arith);
            offsets = λ i x. absurd (omega arith);
            nexts = λ i x. absurd (omega arith);
            heads = λ b x. zeros w w₁ t ys n room counted filled clear all b (omega arith);
          },
        );
      }
