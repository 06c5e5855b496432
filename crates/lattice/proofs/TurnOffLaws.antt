-- An edge turns inactive where it stands: its map loses a bit, and nothing else changes. No contract cites this file.
-- In order: the map; the edge; the list; the work space. Assumes nothing.
use mathlib.Core.Path.{◌≡◌, refl, sym, ap, ◌∙◌}
use mathlib.Core.Logic.{inl, inr}
use mathlib.Core.Bool.{Bool, true, false}
use mathlib.Core.List.{List, [], ◌∷◌, ◌++◌, append_assoc}
use mathlib.Core.Option.{Option, none, some, map}
use Prim.Native.Nat.{ℕ, zero, suc, ◌+◌, ◌*◌, ◌-◌, ◌/◌, ◌%◌, ◌≤◌, ◌<◌}
use native.Mathlib.Omega.{arith}
use lib.ListN.{length, get_or, take, drop, length-append}
use lib.Seq.{sets, length-sets}
use lib.Dec.{eqb}
use Rattle.fields.specs.Fields.{le_at, bytes_of}
use Rattle.fields.specs.Part.{part}
use Rattle.fields.proofs.FieldsLaws.{length-bytes_of}
use Rattle.fields.proofs.PartLaws.{part_add, part_sets, part_sets_other, length_part, drop_sets}
use Rattle.fields.specs.Flag.{there, flag, bytes_if}
use Rattle.fields.proofs.FlagLaws.{there_le, flag_le}
use Rattle.edge.specs.Edge.{Edge, Numeric, numeric_map, map_of, numeric_bytes, edge_bytes, edges_bytes}
use Rattle.lattice.specs.declared.Lattice.{Lattice}
use Rattle.lattice.specs.Lattice.{quiet, inactive, turn_off_at}
use Rattle.lattice.specs.Kept.{END, OFFSETS, NEXTS, HEADS, key, bucket, no_edge, last_in, offset, inactive_map, Fits, Kept, Holds, SameBehind}
use Rattle.lattice.proofs.KeyLaws.{cut}
use Rattle.lattice.proofs.KeptLaws.{fields_bytes, edge_parts_lem, length_edge, edges_split, length_listing, map_stands, map_in, kept_size, kept_bytes, kept_count, listing_of_lem, cell_other}
use Rattle.lattice.proofs.HoldsLaws.{kept_of_lem}

-- ---- the map
pub map_on : (m : ℕ) → eqb (m / 128 % 2) 1 ≡ true → m - 128 ≡ inactive_map m
unfolding inactive_map
map_on m e = rw e

pub map_off : (m : ℕ) → eqb (m / 128 % 2) 1 ≡ false → m ≡ inactive_map m
unfolding inactive_map
map_off m e = rw e

-- low is the bits below active's, high and top the two above
active_bit : (low high top a : ℕ) → low < 128 → a ≤ 1 → (low + 128 * a + 256 * high + 512 * top) / 128 % 2 ≡ a
active_bit low high top a h k = omega arith

map_bit : (b : Bool) (low high top : ℕ) → low < 128 → inactive_map (low + 128 * flag b + 256 * high + 512 * top) ≡ low + 128 * 0 + 256 * high + 512 * top
unfolding inactive_map
map_bit true low high top h = rw (active_bit low high top 1 h (omega arith)) (omega arith)
map_bit false low high top h = rw (active_bit low high top 0 h (omega arith))

quiet_map : (n : Numeric) → numeric_map (quiet n) ≡ inactive_map (numeric_map n)
unfolding numeric_map
quiet_map n =
    sym (map_bit n.active _ (there n.value_s) (there n.decimals)
    (omega (arith, there_le n.value, there_le n.fraction, there_le n.base, there_le n.mult, there_le n.script, flag_le n.large)))

-- ---- the edge
pub inactive_map_lem : (e : Edge) → map_of (inactive e).num ≡ inactive_map (map_of e.num)
unfolding inactive inactive_map
inactive_map_lem e = go e.num
  where
    go : (x : Option Numeric) → map_of (map quiet x) ≡ inactive_map (map_of x)
    go none = refl
    go (some n) = quiet_map n

pub inactive_fields : (e : Edge) → fields_bytes (inactive e) ≡ fields_bytes e
unfolding inactive numeric_bytes
inactive_fields e = go e.num
  where
    go : (x : Option Numeric) → bytes_if numeric_bytes (map quiet x) ≡ bytes_if numeric_bytes x
    go none = refl
    go (some n) = refl

pub inactive_key : (e : Edge) → key (inactive e) ≡ key e
unfolding inactive key
inactive_key e = refl

inactive_parts : (e : Edge) → edge_bytes (inactive e) ≡ bytes_of 2 (map_of (inactive e).num) ++ (key e ++ fields_bytes e)
inactive_parts e = edge_parts_lem (inactive e) ∙ rw (inactive_key e, inactive_fields e)

pub inactive_length : (e : Edge) → length (edge_bytes (inactive e)) ≡ length (edge_bytes e)
inactive_length e = length_edge (inactive e) ∙ rw (inactive_key e, inactive_fields e) (sym (length_edge e))

inactive_fits : (e : Edge) → Fits e → Fits (inactive e)
unfolding inactive
inactive_fits e f = record { start = f.start; end = f.end; type = f.type; txt = f.txt }

-- ---- the list
pub length_turned : (es : List Edge) (i : ℕ) → length (turn_off_at es i) ≡ length es
unfolding turn_off_at
length_turned [] i = refl
length_turned (e ∷ es) zero = refl
length_turned (e ∷ es) (suc i) = ap suc (length_turned es i)

-- every edge is as it was, or the same edge inactive
pub turned_at : (P : Edge → Type 0) (es : List Edge) (i j : ℕ) → P (get_or es j no_edge) → P (inactive (get_or es j no_edge)) → P (get_or (turn_off_at es i) j no_edge)
unfolding turn_off_at
turned_at P [] i j p q = p
turned_at P (e ∷ es) zero zero p q = q
turned_at P (e ∷ es) zero (suc j) p q = p
turned_at P (e ∷ es) (suc i) zero p q = p
turned_at P (e ∷ es) (suc i) (suc j) p q = turned_at P es i j p q

turned_bucket : (es : List Edge) (i j : ℕ) → bucket (get_or (turn_off_at es i) j no_edge) ≡ bucket (get_or es j no_edge)
turned_bucket es i j = turned_at (λ (e : Edge). bucket e ≡ bucket (get_or es j no_edge)) es i j refl (rw (inactive_key (get_or es j no_edge)))

turned_last : (es : List Edge) (i b k : ℕ) → last_in (turn_off_at es i) b k ≡ last_in es b k
unfolding last_in
turned_last es i b zero = refl
turned_last es i b (suc k) = rw (turned_bucket es i k, turned_last es i b k)

take_turned : (es : List Edge) (i j : ℕ) → length (edges_bytes (take j (turn_off_at es i))) ≡ length (edges_bytes (take j es))
unfolding turn_off_at edges_bytes
take_turned es i zero = refl
take_turned [] i (suc j) = refl
take_turned (e ∷ es) zero (suc j) =
    let a = inactive_length e in
    let b = length-append (edge_bytes (inactive e)) (edges_bytes (take j es)) in
    let c = length-append (edge_bytes e) (edges_bytes (take j es)) in
    omega arith
take_turned (e ∷ es) (suc i) (suc j) =
    let a = take_turned es i j in
    let b = length-append (edge_bytes e) (edges_bytes (take j (turn_off_at es i))) in
    let c = length-append (edge_bytes e) (edges_bytes (take j es)) in
    omega arith

pub turned_offset : (es : List Edge) (i j : ℕ) → offset (turn_off_at es i) j ≡ offset es j
unfolding offset
turned_offset es i j = rw (take_turned es i j)

pub turned_size : (es : List Edge) (i : ℕ) → length (edges_bytes (turn_off_at es i)) ≡ length (edges_bytes es)
unfolding turn_off_at edges_bytes
turned_size [] i = refl
turned_size (e ∷ es) zero =
    let a = inactive_length e in
    let b = length-append (edge_bytes (inactive e)) (edges_bytes es) in
    let c = length-append (edge_bytes e) (edges_bytes es) in
    omega arith
turned_size (e ∷ es) (suc i) =
    let a = turned_size es i in
    let b = length-append (edge_bytes e) (edges_bytes (turn_off_at es i)) in
    let c = length-append (edge_bytes e) (edges_bytes es) in
    omega arith

-- the bytes: those before the map, the map, those behind it
turned_bytes : (es : List Edge) (i : ℕ) → i < length es
    → edges_bytes (turn_off_at es i) ≡ edges_bytes (take i es) ++ (edge_bytes (inactive (get_or es i no_edge)) ++ edges_bytes (drop (suc i) es))
unfolding turn_off_at edges_bytes
turned_bytes [] i h = absurd (omega arith)
turned_bytes (e ∷ es) zero h = refl
turned_bytes (e ∷ es) (suc i) h = rw (turned_bytes es i (omega arith)) (sym (append_assoc (edge_bytes e) (edges_bytes (take i es)) _))

-- ---- the work space
offset_ge : (es : List Edge) (i : ℕ) → 0 + 2 ≤ offset es i
unfolding offset
offset_ge es i = omega arith

bytes_set : (w : List ℕ) (es : List Edge) (i : ℕ) → i < length es → 2 + length (edges_bytes es) ≤ length w → part w 2 (length (edges_bytes es)) ≡ edges_bytes es
    → part (sets w (offset es i) (bytes_of 2 (map_of (inactive (get_or es i no_edge)).num))) 2 (length (edges_bytes (turn_off_at es i))) ≡ edges_bytes (turn_off_at es i)
unfolding offset
bytes_set w es i h r p =
    let e = get_or es i no_edge in
    let m = map_of e.num in
    let m' = map_of (inactive e).num in
    let before = edges_bytes (take i es) in
    let at = 2 + length before in
    let t = sets w at (bytes_of 2 m') in
    let tail = (key e ++ fields_bytes e) ++ edges_bytes (drop (suc i) es) in
    let two = length-bytes_of 2 m' in
    let split : edges_bytes es ≡ before ++ (bytes_of 2 m ++ tail) =
    edges_split es i h ∙ ap (λ (z : List ℕ). before ++ (z ++ edges_bytes (drop (suc i) es))) (edge_parts_lem e) ∙ ap (λ (z : List ℕ). before ++ z) (append_assoc (bytes_of 2 m) (key e ++ fields_bytes e) (edges_bytes (drop (suc i) es))) in
    let len : length (edges_bytes es) ≡ length before + (2 + length tail) =
    ap length split ∙ length-append before (bytes_of 2 m ++ tail) ∙ ap (λ (z : ℕ). length before + z) (length-append (bytes_of 2 m) tail ∙ ap (λ (z : ℕ). z + length tail) (length-bytes_of 2 m)) in
    let q : part w 2 (length before) ++ part w at (2 + length tail) ≡ before ++ (bytes_of 2 m ++ tail) = sym (part_add w 2 (length before) (2 + length tail)) ∙ ap (part w 2) (sym len) ∙ p ∙ split in
    let c = cut (part w 2 (length before)) before _ _ (length_part w 2 (length before) (omega arith)) q in
    let d = cut (part w at 2) (bytes_of 2 m) _ _ (length_part w at 2 (omega arith) ∙ sym (length-bytes_of 2 m)) (sym (part_add w at 2 (length tail)) ∙ c.1) in
    ap (part t 2) (turned_size es i ∙ len)
    ∙ part_add t 2 (length before) (2 + length tail)
    ∙ ap (λ (z : List ℕ). part t 2 (length before) ++ z) (part_add t at 2 (length tail))
    ∙ rw (part_sets_other w at (bytes_of 2 m') 2 (length before) (inr (omega arith)), part_sets w at (bytes_of 2 m') 2 two (omega arith), part_sets_other w at (bytes_of 2 m') (at + 2) (length tail) (inl (omega arith)), c.0, d.1)
    (sym (turned_bytes es i h ∙ ap (λ (z : List ℕ). before ++ (z ++ edges_bytes (drop (suc i) es))) (inactive_parts e)
    ∙ ap (λ (z : List ℕ). before ++ z) (append_assoc (bytes_of 2 m') (key e ++ fields_bytes e) (edges_bytes (drop (suc i) es)))))

module _ {w : List ℕ} {n len : ℕ} {es : List Edge} (q : Kept w n len es) (i : ℕ) (x : i < n) where
  pub kept_turned : Kept (sets w (offset es i) (bytes_of 2 (map_of (inactive (get_or es i no_edge)).num))) n len (turn_off_at es i)
  kept_turned =
      let m = map_of (inactive (get_or es i no_edge)).num in
      let r = q.room in
      let k = q.count in
      let v = q.short in
      let y = map_in q i x in
      let two = length-bytes_of 2 m in
      let o = offset es i in
      let l = length-sets w o (bytes_of 2 m) in
      let z = turned_size es i in
      let s = kept_size q in
      let c = length_turned es i in
      let size : len ≡ 2 + length (edges_bytes (turn_off_at es i)) = omega arith in
      record {
        room = omega arith;
        count = c ∙ k;
        few = q.few;
        short = v;
        size = size ∙ sym (length_listing (turn_off_at es i));
        listing = listing_of_lem (sets w o (bytes_of 2 m)) len (turn_off_at es i) size (part_sets_other w o (bytes_of 2 m) 0 2 (inr (offset_ge es i)) ∙ kept_count q ∙ ap (bytes_of 2) (sym c)) (bytes_set w es i (omega arith) (omega arith) (kept_bytes q));
        fits = λ j a. turned_at Fits es i j (q.fits j a) (inactive_fits (get_or es j no_edge) (q.fits j a));
        offsets = λ j a. cell_other w o (bytes_of 2 m) OFFSETS j (inl (omega arith)) ∙ q.offsets j a ∙ sym (turned_offset es i j);
        nexts = λ j a. cell_other w o (bytes_of 2 m) NEXTS j (inl (omega arith)) ∙ q.nexts j a ∙ sym (rw (turned_bucket es i j, turned_last es i (bucket (get_or es j no_edge)) j));
        heads = λ b a. cell_other w o (bytes_of 2 m) HEADS b (inl (omega arith)) ∙ q.heads b a ∙ sym (turned_last es i b n);
      }

-- at is the offset that was read, m the map, and m' what is stored
module _ {w : List ℕ} {l : Lattice} {es : List Edge} (q : Holds w l es) (f : (l.len ≡ 0 → ⊥)) (i : ℕ) (x : i < l.count) {at m m' : ℕ} (here : at ≡ offset es i) (read : m ≡ le_at w at 2) (off : m' ≡ inactive_map m) {t : List ℕ} (wrote : t ≡ sets w at (bytes_of 2 m')) where
  pub holds_turned : Holds t l (turn_off_at es i)
  holds_turned =
      let k = kept_of_lem q f in
      let e : m' ≡ map_of (inactive (get_or es i no_edge)).num = off ∙ ap inactive_map (read ∙ ap (λ (z : ℕ). le_at w z 2) here ∙ map_stands k i x) ∙ sym (inactive_map_lem (get_or es i no_edge)) in
      let g = kept_turned k i x in
      rw (wrote, e, here) (record { room = g.room; short = q.short; state = inr (f, g) })

  pub turned_frame : SameBehind w t
  turned_frame =
      let k = kept_of_lem q f in
      let y = map_in k i x in
      let s = k.short in
      let two = length-bytes_of 2 m' in
      ap (drop END) wrote ∙ drop_sets w at (bytes_of 2 m') END (omega arith)
