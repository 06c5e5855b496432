-- The bytes of a regular edge that is given in a listing are those of the edge that is read there. No contract cites this file.
-- In order: bytes that a number says; strings; the edge. Assumes nothing.
use mathlib.Core.Path.{◌≡◌, refl, sym, ap, ◌∙◌, subst}
use mathlib.Core.List.{List, [], ◌∷◌, ◌++◌}
use Prim.Native.Nat.{ℕ, suc, ◌+◌, ◌*◌, ◌-◌, ◌/◌, ◌%◌, ◌≤◌, ◌<◌}
use native.Mathlib.Omega.{arith}
use lib.ListN.{length, get_or}
use Rattle.fields.specs.Fields.{le, le_at, bytes_of}
use Rattle.fields.specs.Part.{part}
use Rattle.fields.proofs.FieldsLaws.{le_at-lt}
use Rattle.fields.proofs.PartLaws.{length_part, part_at, part_add}
use Rattle.edge.specs.Edge.{str, head_bytes, edge_bytes}
use Rattle.edge.specs.Layout.{map_at, text_at, string_end, txt_at, head_end, next_at, edge_at}
use Rattle.edge.specs.Write.{regular}
use Rattle.edge.proofs.WriteLaws.{regular_bytes}
use Rattle.lattice.specs.Kept.{key, Fits, Stands}
use Rattle.lattice.proofs.KeptLaws.{length_edge}

-- ---- bytes
bytes_of-le : (bs : List ℕ) → ((i : ℕ) → i < length bs → get_or bs i 0 < 256) → bytes_of (length bs) (le bs) ≡ bs
unfolding bytes_of le
bytes_of-le [] f = refl
bytes_of-le (b ∷ bs) f =
    let h : b < 256 = f 0 (omega arith) in
    let p : (b + 256 * le bs) % 256 ≡ b = omega arith in
    let q : (b + 256 * le bs) / 256 ≡ le bs = omega arith in
    rw (p, q, bytes_of-le bs (λ i k. f (suc i) (omega arith)))

string_ends : (s : List ℕ) (at : ℕ) → string_end s at ≡ at + (2 + le_at s at 2)
unfolding string_end
string_ends s at = omega arith

-- parts in a row
join : (s : List ℕ) (at n k m : ℕ) {a b : List ℕ} → k ≡ at + n → part s at n ≡ a → part s k m ≡ b → part s at (n + m) ≡ a ++ b
join s at n k m e p q = part_add s at n m ∙ rw (← e, p, q)

module _ (s : List ℕ) (bytes : (i : ℕ) → get_or s i 0 < 256) where
  pub number_there : (at w : ℕ) → at + w ≤ length s → part s at w ≡ bytes_of w (le_at s at w)
  unfolding le_at
  number_there at w h =
      let l = length_part s at w h in
      sym (bytes_of-le (part s at w) (λ i k. rw (part_at s at w i (omega arith)) (bytes (at + i)))) ∙ ap (λ (n : ℕ). bytes_of n (le (part s at w))) l

  -- ---- strings
  string_there : (at : ℕ) → string_end s at ≤ length s → part s at (2 + le_at s at 2) ≡ str (text_at s at)
  unfolding str text_at string_end
  string_there at h =
      let l = length_part s (at + 2) (le_at s at 2) h in
      join s at 2 (at + 2) (le_at s at 2) refl (number_there at 2 (omega arith) ∙ ap (bytes_of 2) (sym l)) refl

  -- ---- the edge
  head_there : (at : ℕ) → head_end s at ≤ length s
      → part s at (2 + (2 + (2 + ((2 + le_at s (at + 6) 2) + (2 + le_at s (txt_at s at) 2))))) ≡ head_bytes (map_at s at) (le_at s (at + 2) 2) (le_at s (at + 4) 2) (text_at s (at + 6)) (text_at s (txt_at s at))
  unfolding head_bytes
  head_there at h =
      let t = string_ends s (at + 6) in
      let x = string_ends s (txt_at s at) in
      join s at 2 (at + 2) _ refl (number_there at 2 (omega arith))
      (join s (at + 2) 2 (at + 4) _ (omega arith) (number_there (at + 2) 2 (omega arith))
      (join s (at + 4) 2 (at + 6) _ (omega arith) (number_there (at + 4) 2 (omega arith))
      (join s (at + 6) (2 + le_at s (at + 6) 2) (txt_at s at) (2 + le_at s (txt_at s at) 2) (omega arith) (string_there (at + 6) (omega arith)) (string_there (txt_at s at) h))))

  module _ (at to : ℕ) (map : map_at s at ≡ 0) (next : to ≡ next_at s at) (inside : to ≤ length s) where
    regular_at : edge_at s at ≡ regular (le_at s (at + 2) 2) (le_at s (at + 4) 2) (text_at s (at + 6)) (text_at s (txt_at s at))
    unfolding edge_at
    regular_at = rw map

    ends_there : to ≡ head_end s at
    unfolding next_at
    ends_there = next ∙ rw map

    size : to ≡ at + (2 + (2 + (2 + ((2 + le_at s (at + 6) 2) + (2 + le_at s (txt_at s at) 2)))))
    unfolding string_end
    size = let e = ends_there in omega arith

    bytes_there : part s at (to - at) ≡ edge_bytes (edge_at s at)
    bytes_there =
        let e = size in
        let n : to - at ≡ 2 + (2 + (2 + ((2 + le_at s (at + 6) 2) + (2 + le_at s (txt_at s at) 2)))) = omega arith in
        ap (part s at) n ∙ head_there at (subst (λ (z : ℕ). z ≤ length s) ends_there inside) ∙ rw (map, regular_at) (sym (regular_bytes _ _ _ _))

    length_there : length (edge_bytes (edge_at s at)) ≡ to - at
    length_there = sym (ap length bytes_there) ∙ length_part s at (to - at) (let e = size in omega arith)

    no_fields_lem : length (edge_bytes (edge_at s at)) ≡ 2 + length (key (edge_at s at))
    no_fields_lem = rw regular_at (length_edge (regular (le_at s (at + 2) 2) (le_at s (at + 4) 2) (text_at s (at + 6)) (text_at s (txt_at s at))) ∙ omega arith)

    text_fits : (a : ℕ) → string_end s a ≤ length s → length (text_at s a) < 65536
    unfolding text_at string_end
    text_fits a h = let l = length_part s (a + 2) (le_at s a 2) h in let b = le_at-lt s a 2 bytes in omega arith

    fits_there : Fits (edge_at s at)
    fits_there =
        let e = size in
        let x = ends_there in
        let y = string_ends s (txt_at s at) in
        rw regular_at
        (record {
          start = le_at-lt s (at + 2) 2 bytes;
          end = le_at-lt s (at + 4) 2 bytes;
          type = text_fits (at + 6) (omega arith);
          txt = text_fits (txt_at s at) (omega arith);
        })

    pub given_stands : Stands s at (to - at - 2) to (edge_at s at)
    given_stands =
        let l = length_there in
        let k = no_fields_lem in
        let e = size in
        record { fits = fits_there; there = ap (part s at) l ∙ bytes_there; keyed = omega arith; ends = omega arith; inside = inside }

    -- room for its map
    pub given_size : at + 2 ≤ to
    given_size = let e = size in omega arith
