-- One edge more in work space that keeps a lattice (`linked`). No contract cites this file. Assumes nothing.
use mathlib.Core.Path.{◌≡◌, refl, sym, ap, ◌∙◌, subst}
use mathlib.Core.Logic.{◌⊎◌, inl, inr}
use mathlib.Core.Bool.{Bool, true, false, cond}
use mathlib.Core.List.{List, [], ◌∷◌, ◌++◌}
use Prim.Native.Nat.{ℕ, ◌+◌, ◌*◌, ◌≤◌, ◌<◌}
use native.Mathlib.Numerals.{add-one}
use native.Mathlib.Omega.{arith}
use native.Mathlib.Decide.{dec_lt}
use lib.ListN.{length, get_or, take, drop, get_or-append}
use lib.Seq.{sets, length-sets, take-append-le, get_or-append_seam, take-length}
use lib.Dec.{eqb}
use borrow.Author.Count.{below_more}
use borrow.Author.Tests.{eq-eqb, eqb-true, eqb-false}
use Rattle.fields.specs.Fields.{bytes_of}
use Rattle.fields.specs.Part.{part}
use Rattle.fields.proofs.FieldsLaws.{length-bytes_of}
use Rattle.fields.proofs.PartLaws.{part_add, part_sets, part_sets_other, drop_sets}
use Rattle.edge.specs.Edge.{Edge, edge_bytes, edges_bytes}
use Rattle.lattice.specs.Kept.{END, OFFSETS, NEXTS, HEADS, cell, linked, Fits, Kept, Stands, no_edge, offset, last_in, bucket, SameBehind}
use Rattle.lattice.proofs.find.BucketLaws.{bucket_lt, last_le, last_more}
use Rattle.lattice.proofs.HoldsLaws.{length_snoc}
use Rattle.lattice.proofs.KeptLaws.{edges_snoc, length_edges_snoc, length_listing, kept_size, kept_bytes, listing_of_lem, cell_same, cell_other}

two : (v : ℕ) → length (bytes_of 2 v) ≡ 2
two v = length-bytes_of 2 v

module _ (w : List ℕ) (n len : ℕ) (es : List Edge) (q : Kept w n len es) (k to : ℕ) (e : Edge) (d : Stands w len k to e) (few : n < 1024) (short : to ≤ 32768) (b : ℕ) (in_bucket : b ≡ bucket e) where
  abbrev es' : List Edge
  es' = es ++ (e ∷ [])

  abbrev head : ℕ
  head = cell w HEADS b

  -- the work space after each of the four stores
  abbrev w1 : List ℕ
  w1 = sets w (OFFSETS + 2 * n) (bytes_of 2 len)

  abbrev w2 : List ℕ
  w2 = sets w1 (NEXTS + 2 * n) (bytes_of 2 head)

  abbrev w3 : List ℕ
  w3 = sets w2 (HEADS + 2 * b) (bytes_of 2 (n + 1))

  abbrev w4 : List ℕ
  w4 = sets w3 0 (bytes_of 2 (n + 1))

  b_lt : b < 256
  b_lt = bucket_lt e in_bucket

  length1 : length w1 ≡ length w
  length1 = length-sets w (OFFSETS + 2 * n) (bytes_of 2 len)

  length2 : length w2 ≡ length w
  length2 = length-sets w1 (NEXTS + 2 * n) (bytes_of 2 head) ∙ length1

  length3 : length w3 ≡ length w
  length3 = length-sets w2 (HEADS + 2 * b) (bytes_of 2 (n + 1)) ∙ length2

  length4 : length w4 ≡ length w
  length4 = length-sets w3 0 (bytes_of 2 (n + 1)) ∙ length3

  -- the edges before, and the new one
  get_or-old : (i : ℕ) → i < n → get_or es' i no_edge ≡ get_or es i no_edge
  get_or-old i x = get_or-append es (e ∷ []) no_edge i (omega (arith, q.count))

  get_or-new : get_or es' n no_edge ≡ e
  get_or-new = ap (λ (i : ℕ). get_or es' i no_edge) (sym q.count) ∙ get_or-append_seam es e [] no_edge

  offset_old : (i : ℕ) → i ≤ n → offset es' i ≡ offset es i
  unfolding offset
  offset_old i x = let c = q.count in rw (take-append-le i es (e ∷ []) (omega arith))

  offset_new : offset es' n ≡ len
  unfolding offset
  offset_new = offset_old n (omega arith) ∙ ap (λ (i : ℕ). 2 + length (edges_bytes (take i es))) (sym q.count) ∙ rw (take-length es) (sym (kept_size q))

  last_old : (z i : ℕ) → i ≤ n → last_in es' z i ≡ last_in es z i
  last_old z i x = let c = q.count in last_more es (e ∷ []) z i (omega arith)

  last_new : (z : ℕ) → last_in es' z (n + 1) ≡ cond (eqb (bucket e) z) (n + 1) (last_in es z n)
  unfolding last_in
  last_new z = rw (add-one n, get_or-new, last_old z n (omega arith))

  -- the count is stored last, before all cells
  uncounted : (base i : ℕ) → 2 ≤ base → cell w4 base i ≡ cell w3 base i
  uncounted base i x = let l = two (n + 1) in cell_other w3 0 (bytes_of 2 (n + 1)) base i (inl (omega arith))

  -- the edges are as they were
  below : (at m : ℕ) → 2 ≤ at → at + m ≤ OFFSETS → part w4 at m ≡ part w at m
  below at m y x =
      let l = two (n + 1) in
      part_sets_other w3 0 (bytes_of 2 (n + 1)) at m (inl (omega arith))
      ∙ part_sets_other w2 (HEADS + 2 * b) (bytes_of 2 (n + 1)) at m (inr (omega arith))
      ∙ part_sets_other w1 (NEXTS + 2 * n) (bytes_of 2 head) at m (inr (omega arith))
      ∙ part_sets_other w (OFFSETS + 2 * n) (bytes_of 2 len) at m (inr (omega arith))

  -- each list of cells is as it was, with one cell stored
  offsets_after : (i : ℕ) → i ≤ n → cell w4 OFFSETS i ≡ cell w1 OFFSETS i
  offsets_after i x =
      let f = few in
      uncounted OFFSETS i (omega arith) ∙ cell_other w2 (HEADS + 2 * b) (bytes_of 2 (n + 1)) OFFSETS i (inr (omega arith))
      ∙ cell_other w1 (NEXTS + 2 * n) (bytes_of 2 head) OFFSETS i (inr (omega arith))

  nexts_after : (i : ℕ) → i ≤ n → cell w4 NEXTS i ≡ cell w2 NEXTS i
  nexts_after i x = let f = few in uncounted NEXTS i (omega arith) ∙ cell_other w2 (HEADS + 2 * b) (bytes_of 2 (n + 1)) NEXTS i (inr (omega arith))

  nexts_before : (i : ℕ) → i < n → cell w1 NEXTS i ≡ cell w NEXTS i
  nexts_before i x = let l = two len in cell_other w (OFFSETS + 2 * n) (bytes_of 2 len) NEXTS i (inl (omega arith))

  heads_before : (z : ℕ) → cell w2 HEADS z ≡ cell w HEADS z
  heads_before z =
      let l = two len in
      let m = two head in
      cell_other w1 (NEXTS + 2 * n) (bytes_of 2 head) HEADS z (inl (omega arith)) ∙ cell_other w (OFFSETS + 2 * n) (bytes_of 2 len) HEADS z (inl (omega arith))

  heads_after : (z : ℕ) → z < 256 → (t : Bool) → eqb b z ≡ t → cell w4 HEADS z ≡ last_in es' z (n + 1)
  heads_after z x true t =
      let r = q.room in
      let l = length2 in
      let y = b_lt in
      let f = few in
      uncounted HEADS z (omega arith)
      ∙ rw (← eqb-true b z t) (cell_same w2 HEADS b (n + 1) (omega arith) (omega arith) ∙ sym (last_new b ∙ rw (← in_bucket, eq-eqb b b refl)))
  heads_after z x false t =
      uncounted HEADS z (omega arith) ∙ cell_other w2 (HEADS + 2 * b) (bytes_of 2 (n + 1)) HEADS z (apart (dec_lt b z)) ∙ heads_before z ∙ q.heads z x
      ∙ sym (last_new z ∙ rw (← in_bucket, t))
    where
      apart : Dec (b < z) → (HEADS + 2 * b + length (bytes_of 2 (n + 1)) ≤ HEADS + 2 * z) ⊎ (HEADS + 2 * z + 2 ≤ HEADS + 2 * b)
      apart (yes y) = let l = two (n + 1) in inl (omega arith)
      apart (no y) = let u = eqb-false b z t in inr (omega arith)

  to_is : to ≡ 2 + length (edges_bytes es')
  to_is = let g = length_edges_snoc es e in let z = kept_size q in let f = d.ends in omega arith

  edges_after_lem : part w4 2 (length (edges_bytes es')) ≡ edges_bytes es'
  edges_after_lem =
      let z = kept_size q in
      let g = to_is in
      let l = length_edges_snoc es e in
      let s = short in
      ap (part w4 2) l ∙ below 2 (length (edges_bytes es) + length (edge_bytes e)) (omega arith) (omega arith) ∙ part_add w 2 (length (edges_bytes es)) (length (edge_bytes e))
      ∙ rw (kept_bytes q, ← z, d.there) (sym (edges_snoc es e))

  count_after : length es' ≡ n + 1
  count_after = length_snoc es e ∙ ap (λ (m : ℕ). m + 1) q.count

  pub grown : Kept w4 (n + 1) to es'
  grown =
      let r = q.room in
      let l = length4 in
      let l1 = length1 in
      let l3 = length3 in
      let y = b_lt in
      let hl = last_le es b n in
      let hq = q.heads b b_lt in
      let f = few in
      let v = kept_size q in
      let z = to_is in
      record {
        room = omega arith;
        count = count_after;
        few = omega arith;
        short = short;
        size = z ∙ sym (length_listing es');
        listing = listing_of_lem w4 to es' z (part_sets w3 0 (bytes_of 2 (n + 1)) 2 (two (n + 1)) (omega arith) ∙ ap (bytes_of 2) (sym count_after)) edges_after_lem;
        fits = below_more (λ (i : ℕ). Fits (get_or es' i no_edge)) n (λ i x. subst Fits (sym (get_or-old i x)) (q.fits i x)) (subst Fits (sym get_or-new) d.fits);
        offsets = below_more (λ (i : ℕ). cell w4 OFFSETS i ≡ offset es' i) n
            (λ i x. offsets_after i (omega arith) ∙ cell_other w (OFFSETS + 2 * n) (bytes_of 2 len) OFFSETS i (inr (omega arith)) ∙ q.offsets i x ∙ sym (offset_old i (omega arith)))
            (offsets_after n (omega arith) ∙ cell_same w OFFSETS n len (omega arith) (omega (arith, q.short)) ∙ sym offset_new);
        nexts = below_more (λ (i : ℕ). cell w4 NEXTS i ≡ last_in es' (bucket (get_or es' i no_edge)) i) n
            (λ i x. nexts_after i (omega arith) ∙ cell_other w1 (NEXTS + 2 * n) (bytes_of 2 head) NEXTS i (inr (omega arith)) ∙ nexts_before i x ∙ q.nexts i x
            ∙ sym (rw (get_or-old i x, last_old (bucket (get_or es i no_edge)) i (omega arith))))
            (next_new (omega arith) (omega arith));
        heads = λ z x. heads_after z x (eqb b z) refl;
      }
    where
      next_new : NEXTS + 2 * n + 2 ≤ length w1 → head < 65536 → cell w4 NEXTS n ≡ last_in es' (bucket (get_or es' n no_edge)) n
      next_new x y = nexts_after n (omega arith) ∙ cell_same w1 NEXTS n head x y ∙ q.heads b b_lt ∙ sym (rw (get_or-new, ← in_bucket, last_old b n (omega arith)))

-- what stands from END on is as it was
pub link_frame : (w : List ℕ) {t : List ℕ} (n len b : ℕ) → n < 1024 → b < 256 → t ≡ linked w n len b → SameBehind w t
link_frame w n len b x y e =
    let h = cell w HEADS b in
    let p = two len in
    let q = two h in
    let r = two (n + 1) in
    let w1 = sets w (OFFSETS + 2 * n) (bytes_of 2 len) in
    let w2 = sets w1 (NEXTS + 2 * n) (bytes_of 2 h) in
    let w3 = sets w2 (HEADS + 2 * b) (bytes_of 2 (n + 1)) in
    ap (drop END) e ∙ drop_sets w3 0 (bytes_of 2 (n + 1)) END (omega arith) ∙ drop_sets w2 (HEADS + 2 * b) (bytes_of 2 (n + 1)) END (omega arith)
    ∙ drop_sets w1 (NEXTS + 2 * n) (bytes_of 2 h) END (omega arith) ∙ drop_sets w (OFFSETS + 2 * n) (bytes_of 2 len) END (omega arith)
