-- What stands where in work space that keeps a lattice (`Kept`). No contract cites this file.
-- In order: the bytes of edges; cells; the listing; the i-th edge. Assumes nothing.
use mathlib.Core.Path.{◌≡◌, refl, sym, ap, ◌∙◌}
use mathlib.Core.Logic.{◌⊎◌}
use mathlib.Core.List.{List, [], ◌∷◌, ◌++◌, append_assoc, append-nil}
use mathlib.Core.Option.{Option, none, some}
use Prim.Native.Nat.{ℕ, suc, ◌+◌, ◌*◌, ◌≤◌, ◌<◌}
use native.Mathlib.Omega.{arith}
use lib.ListN.{length, get_or, take, drop, length-append, take-append-drop}
use lib.Seq.{sets, split_at, take_at, drop_at, drop-drop, drop-append_seam}
use Rattle.fields.specs.Fields.{le, le_at, bytes_of}
use Rattle.fields.specs.Part.{part}
use Rattle.fields.proofs.FieldsLaws.{length-bytes_of, le-bytes_of, le_at-sets, le_at-sets_other}
use Rattle.fields.proofs.PartLaws.{part_add, part_take, drop_part}
use Rattle.fields.specs.Flag.{bytes_if}
use Rattle.fields.proofs.FlagLaws.{there_le, flag_le}
use Rattle.edge.specs.Edge.{Edge, Numeric, numeric_map, map_of, str, numeric_bytes, head_bytes, edge_bytes, edges_bytes, listing_bytes}
use Rattle.lattice.specs.Kept.{cell, key, no_edge, offset, Kept}

-- ---- the bytes of edges
abbrev pub fields_bytes : Edge → List ℕ
fields_bytes e = bytes_if numeric_bytes e.num

pub edge_parts_lem : (e : Edge) → edge_bytes e ≡ bytes_of 2 (map_of e.num) ++ (key e ++ fields_bytes e)
unfolding edge_bytes head_bytes key
edge_parts_lem e = append_assoc (bytes_of 2 (map_of e.num)) (bytes_of 2 e.start ++ (bytes_of 2 e.end ++ (str e.type ++ str e.txt))) (fields_bytes e)

pub length_edge : (e : Edge) → length (edge_bytes e) ≡ 2 + length (key e) + length (fields_bytes e)
length_edge e =
    let a = length-bytes_of 2 (map_of e.num) in
    ap length (edge_parts_lem e) ∙ length-append (bytes_of 2 (map_of e.num)) (key e ++ fields_bytes e) ∙ rw (a, length-append (key e) (fields_bytes e)) (omega arith)

pub edges_append : (a b : List Edge) → edges_bytes (a ++ b) ≡ edges_bytes a ++ edges_bytes b
unfolding edges_bytes
edges_append [] b = refl
edges_append (e ∷ a) b = rw (edges_append a b) (sym (append_assoc (edge_bytes e) (edges_bytes a) (edges_bytes b)))

pub edges_snoc : (es : List Edge) (e : Edge) → edges_bytes (es ++ (e ∷ [])) ≡ edges_bytes es ++ edge_bytes e
unfolding edges_bytes
edges_snoc es e = edges_append es (e ∷ []) ∙ ap (λ (z : List ℕ). edges_bytes es ++ z) (append-nil (edge_bytes e))

pub length_edges_snoc : (es : List Edge) (e : Edge) → length (edges_bytes (es ++ (e ∷ []))) ≡ length (edges_bytes es) + length (edge_bytes e)
length_edges_snoc es e = ap length (edges_snoc es e) ∙ length-append (edges_bytes es) (edge_bytes e)

pub edges_split : (es : List Edge) (i : ℕ) → i < length es → edges_bytes es ≡ edges_bytes (take i es) ++ (edge_bytes (get_or es i no_edge) ++ edges_bytes (drop (suc i) es))
unfolding edges_bytes
edges_split es i h = ap edges_bytes (split_at es i no_edge h) ∙ edges_append (take i es) (get_or es i no_edge ∷ drop (suc i) es)

pub length_listing : (es : List Edge) → length (listing_bytes es) ≡ 2 + length (edges_bytes es)
unfolding listing_bytes
length_listing es = let l = length-bytes_of 2 (length es) in length-append (bytes_of 2 (length es)) (edges_bytes es) ∙ rw l

-- a map fits its two bytes
pub map_lt : (n : Option Numeric) → map_of n < 1024
unfolding numeric_map
map_lt none = omega arith
map_lt (some n) =
    omega (arith, there_le n.value, there_le n.fraction, there_le n.base, there_le n.mult, there_le n.script, flag_le n.large, flag_le n.active, there_le n.value_s, there_le n.decimals)

-- ---- cells
pub cell_same : (s : List ℕ) (base i v : ℕ) → base + 2 * i + 2 ≤ length s → v < 65536 → cell (sets s (base + 2 * i) (bytes_of 2 v)) base i ≡ v
cell_same s base i v h k = le_at-sets s (base + 2 * i) 2 v h k

pub cell_other : (s : List ℕ) (at : ℕ) (bs : List ℕ) (base i : ℕ) → (at + length bs ≤ base + 2 * i) ⊎ (base + 2 * i + 2 ≤ at) → cell (sets s at bs) base i ≡ cell s base i
cell_other s at bs base i h = le_at-sets_other s at bs (base + 2 * i) 2 h

-- ---- the listing
-- a list that begins with a part
pub begins : (w : List ℕ) (at : ℕ) (bs : List ℕ) → part w at (length bs) ≡ bs → drop at w ≡ bs ++ drop (length bs) (drop at w)
unfolding part
begins w at bs e = sym (take-append-drop (length bs) (drop at w)) ∙ ap (λ (z : List ℕ). z ++ drop (length bs) (drop at w)) e

module _ {w : List ℕ} {n len : ℕ} {es : List Edge} (q : Kept w n len es) where
  pub kept_size : len ≡ 2 + length (edges_bytes es)
  kept_size = q.size ∙ length_listing es

  pub kept_bytes : part w 2 (length (edges_bytes es)) ≡ edges_bytes es
  unfolding listing_bytes
  kept_bytes =
      let s = kept_size in
      sym (drop_part w 0 2 (length (edges_bytes es))) ∙ ap (λ (z : ℕ). drop 2 (part w 0 z)) (sym s) ∙ ap (drop 2) q.listing
      ∙ drop_at (bytes_of 2 (length es)) (edges_bytes es) 2 (length-bytes_of 2 (length es))

  pub kept_count : part w 0 2 ≡ bytes_of 2 (length es)
  unfolding listing_bytes
  kept_count =
      let s = kept_size in
      sym (part_take w 0 len 2 (omega arith)) ∙ ap (take 2) q.listing ∙ take_at (bytes_of 2 (length es)) (edges_bytes es) 2 (length-bytes_of 2 (length es))

-- the count and the edges make a listing
pub listing_of_lem : (w : List ℕ) (len : ℕ) (es : List Edge) → len ≡ 2 + length (edges_bytes es) → part w 0 2 ≡ bytes_of 2 (length es) → part w 2 (length (edges_bytes es)) ≡ edges_bytes es
    → part w 0 len ≡ listing_bytes es
unfolding listing_bytes
listing_of_lem w len es s c b = ap (part w 0) s ∙ part_add w 0 2 (length (edges_bytes es)) ∙ rw (c, b)

-- ---- the i-th edge
module _ {w : List ℕ} {n len : ℕ} {es : List Edge} (q : Kept w n len es) (i : ℕ) (h : i < n) where
  pub edge_begins : (x : List ℕ) × (drop (offset es i) w ≡ edge_bytes (get_or es i no_edge) ++ x)
  unfolding offset
  edge_begins =
      let e = get_or es i no_edge in
      let a = edges_bytes (take i es) in
      let k : length es ≡ n = q.count in
      let t = drop (length (edges_bytes es)) (drop 2 w) in
      let r = edges_bytes (drop (suc i) es) in
      let p : drop 2 w ≡ a ++ (edge_bytes e ++ (r ++ t)) =
      begins w 2 (edges_bytes es) (kept_bytes q) ∙ ap (λ (z : List ℕ). z ++ t) (edges_split es i (omega arith))
      ∙ append_assoc a (edge_bytes e ++ r) t ∙ ap (λ (z : List ℕ). a ++ z) (append_assoc (edge_bytes e) r t) in
      (r ++ t, sym (drop-drop (length a) 2 w) ∙ ap (drop (length a)) p ∙ drop-append_seam a (edge_bytes e ++ (r ++ t)))

  -- its bytes
  pub edge_stands : part w (offset es i) (length (edge_bytes (get_or es i no_edge))) ≡ edge_bytes (get_or es i no_edge)
  unfolding part
  edge_stands = let x = edge_begins in ap (take (length (edge_bytes (get_or es i no_edge)))) x.1 ∙ take_at (edge_bytes (get_or es i no_edge)) x.0 _ refl

  -- its map
  pub map_stands : le_at w (offset es i) 2 ≡ map_of (get_or es i no_edge).num
  unfolding le_at part
  map_stands =
      let e = get_or es i no_edge in
      let x = edge_begins in
      let m = map_of e.num in
      let l = map_lt e.num in
      ap (λ (z : List ℕ). le (take 2 z)) (x.1 ∙ ap (λ (z : List ℕ). z ++ x.0) (edge_parts_lem e) ∙ append_assoc (bytes_of 2 m) (key e ++ fields_bytes e) x.0)
      ∙ ap le (take_at (bytes_of 2 m) _ 2 (length-bytes_of 2 m)) ∙ le-bytes_of 2 m (omega arith)

  -- it ends within the listing
  pub offset_in : offset es i + length (edge_bytes (get_or es i no_edge)) ≤ len
  unfolding offset
  offset_in =
      let a : length es ≡ n = q.count in
      let e = get_or es i no_edge in
      let b = ap length (edges_split es i (omega arith)) ∙ length-append (edges_bytes (take i es)) (edge_bytes e ++ edges_bytes (drop (suc i) es)) in
      let c = length-append (edge_bytes e) (edges_bytes (drop (suc i) es)) in
      let s = kept_size q in
      omega arith

  pub map_in : offset es i + 2 ≤ len
  map_in = let a = offset_in in let b = length_edge (get_or es i no_edge) in omega arith
