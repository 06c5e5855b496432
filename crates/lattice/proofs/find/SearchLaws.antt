-- What a comparison of keys says, whether an equal edge is there, and the room for one more. No contract cites this file.
-- In order: parts that are too short; a key in an edge; edge by edge; what is to be done with an edge. Assumes nothing.
use mathlib.Core.Path.{◌≡◌, refl, sym, ap, ◌∙◌}
use mathlib.Core.Bool.{Bool, true, false, or-true}
use mathlib.Core.List.{List, [], ◌∷◌, ◌++◌, append_assoc}
use Prim.Native.Nat.{ℕ, suc, ◌+◌, ◌-◌, ◌≤◌, ◌<◌, zero}
use native.Mathlib.Omega.{arith}
use lib.ListN.{length, get_or, take, drop, take-append-drop, length-take, length-drop}
use lib.Seq.{take_at, drop_at, drop-drop}
use Rattle.text.specs.Bytes.{same}
use Rattle.text.proofs.BytesLaws.{same_true, same_false, same_lengths}
use Rattle.fields.specs.Fields.{bytes_of}
use Rattle.fields.specs.Part.{part}
use Rattle.fields.proofs.FieldsLaws.{length-bytes_of}
use Rattle.fields.proofs.PartLaws.{length_part}
use Rattle.edge.specs.Edge.{Edge, map_of, edge_bytes}
use Rattle.lattice.specs.Lattice.{same_key, has}
use Rattle.lattice.specs.Kept.{key, no_edge, offset, Kept, Keyed, Stands, Holds, AddingIs, bucket}
use Rattle.lattice.specs.declared.Lattice.{Lattice}
use Rattle.lattice.specs.declared.Adding.TheVariants.{TooMuch, Into}
use Rattle.lattice.proofs.KeyLaws.{key_cut, same_key_lem}
use Rattle.lattice.proofs.KeptLaws.{fields_bytes, edge_parts_lem, length_edge, length_edges_snoc, begins, edge_begins, kept_size}
use Rattle.lattice.proofs.HoldsLaws.{kept_of_lem, length_snoc, over_many, over_long}

-- ---- a part that would run past the end is another
pub parts_short : (w : List ℕ) (a : ℕ) (s : List ℕ) (b n : ℕ) → length w - a < n → b + n ≤ length s → false ≡ same (part w a n) (part s b n)
unfolding part
parts_short w a s b n h k =
    let p = length-take n (drop a w) in
    let q = length-drop a w in
    let r = length_part s b n k in
    same_lengths (take n (drop a w)) (take n (drop b s)) (λ e. omega arith)

-- ---- a key in an edge
behind_map : (e : Edge) (x : List ℕ) → drop 2 (edge_bytes e ++ x) ≡ key e ++ (fields_bytes e ++ x)
behind_map e x =
    rw (edge_parts_lem e, append_assoc (bytes_of 2 (map_of e.num)) (key e ++ fields_bytes e) x, drop_at (bytes_of 2 (map_of e.num)) ((key e ++ fields_bytes e) ++ x) 2 (length-bytes_of 2 (map_of e.num)))
    (append_assoc (key e) (fields_bytes e) x)

pub stands_keyed : (s : List ℕ) (at n to : ℕ) (e : Edge) → Stands s at n to e → Keyed s (at + 2) n e
unfolding part
stands_keyed s at n to e q =
    let x = drop (length (edge_bytes e)) (drop at s) in
    let k = q.keyed in
    let l = length_edge e in
    let f = q.ends in
    let i = q.inside in
    record {
      fits = q.fits;
      there = ap (take n) (sym (drop-drop 2 at s) ∙ ap (drop 2) (begins s at (edge_bytes e) q.there) ∙ behind_map e x) ∙ take_at (key e) (fields_bytes e ++ x) n (sym k);
      inside = omega arith;
    }

module _ {w : List ℕ} {n len : ℕ} {es : List Edge} (q : Kept w n len es) (i : ℕ) (h : i < n) where
  key_begins : (x : List ℕ) × (drop (offset es i + 2) w ≡ key (get_or es i no_edge) ++ x)
  key_begins = let x = edge_begins q i h in (fields_bytes (get_or es i no_edge) ++ x.0, sym (drop-drop 2 (offset es i) w) ∙ ap (drop 2) x.1 ∙ behind_map (get_or es i no_edge) x.0)

  -- what comparing its key with another says
  pub key_told : (s : List ℕ) (at m : ℕ) (e : Edge) → Keyed s at m e → (off : ℕ) → off ≡ offset es i → (r : Bool) → r ≡ same (part w (off + 2) m) (part s at m) → r ≡ same_key (get_or es i no_edge) e
  unfolding part
  key_told s at m e d off o true r =
      let c = get_or es i no_edge in
      let x = key_begins in
      let p : take m (key c ++ x.0) ≡ key e = ap (take m) (sym x.1 ∙ ap (λ (z : ℕ). drop (z + 2) w) (sym o)) ∙ same_true _ _ (sym r) ∙ d.there in
      sym (key_cut c e x.0 (drop m (key c ++ x.0)) (q.fits i h) d.fits (sym (take-append-drop m (key c ++ x.0)) ∙ ap (λ (z : List ℕ). z ++ drop m (key c ++ x.0)) p))
  key_told s at m e d off o false r = go (same_key (get_or es i no_edge) e) refl
    where
      go : (b : Bool) → same_key (get_or es i no_edge) e ≡ b → false ≡ same_key (get_or es i no_edge) e
      go false u = sym u
      go true u =
          let c = get_or es i no_edge in
          let x = key_begins in
          let k : key c ≡ key e = same_key_lem c e u in
          let l : length (key c) ≡ m = ap length (k ∙ sym d.there) ∙ length_part s at m d.inside in
          absurd (same_false _ _ (sym r) (ap (λ (z : ℕ). take m (drop (z + 2) w)) o ∙ ap (take m) x.1 ∙ take_at (key c) x.0 m l ∙ k ∙ sym d.there))

-- ---- whether an equal edge is there, edge by edge
pub has_none : (es : List Edge) (c : Edge) → ((i : ℕ) → i < length es → same_key (get_or es i no_edge) c ≡ false) → has es c ≡ false
unfolding has
has_none [] c f = refl
has_none (e ∷ es) c f = rw (f 0 (omega arith)) (has_none es c (λ i h. f (suc i) (omega arith)))

pub has_some : (es : List Edge) (c : Edge) (i : ℕ) → i < length es → same_key (get_or es i no_edge) c ≡ true → has es c ≡ true
unfolding has
has_some [] c i h p = absurd (omega arith)
has_some (e ∷ es) c zero h p = rw p
has_some (e ∷ es) c (suc i) h p = rw (has_some es c i (omega arith) p) (or-true (same_key e c))

-- ---- what is to be done with an edge
module _ {w : List ℕ} {l : Lattice} {es : List Edge} (q : Holds w l es) (e : Edge) (f : (l.len ≡ 0 → ⊥)) (h : has es e ≡ false) where
  pub too_many : 1024 ≤ l.count → AddingIs l es e TooMuch
  unfolding AddingIs
  too_many x = let k = (kept_of_lem q f).count in let d = length_snoc es e in (f, h, over_many (es ++ (e ∷ [])) (omega arith))

  pub too_long_lem : 32768 - l.len < length (edge_bytes e) → AddingIs l es e TooMuch
  unfolding AddingIs
  too_long_lem x = let k = kept_size (kept_of_lem q f) in let d = length_edges_snoc es e in (f, h, over_long (es ++ (e ∷ [])) (omega arith))

  pub into : (b : ℕ) → l.count < 1024 → length (edge_bytes e) ≤ 32768 - l.len → b ≡ bucket e → AddingIs l es e (Into b)
  unfolding AddingIs
  into b x y p = let s = q.short in (f, h, x, omega arith, p)
