-- Laws of places and offsets (`specs/Text.antt`), for this crate's proofs and its callers'.
-- In order: the offset of a place; the part from one place to another; the character at a place; `Reached`, which a loop over a line keeps; the end of a walk.
use mathlib.Core.Path.{◌≡◌, refl, sym, ap, ◌∙◌}
use mathlib.Core.Bool.{true}
use mathlib.Core.List.{List, [], ◌∷◌, ◌++◌, append_assoc, append-nil}
use Prim.Native.Nat.{ℕ, ◌+◌, ◌-◌, ◌≤◌, ◌<◌}
use native.Mathlib.Numerals.{add-one}
use native.Mathlib.Omega.{arith}
use lib.ListN.{length, take, drop, get_or, length-append, length-drop, take-append-drop}
use lib.Seq.{drop-drop, take-add, take-nil, take_all, take_at, drop-append_seam, length-take-le, drop-cons, get_or-drop}
use Rattle.text.specs.declared.Seq.TheVariants.{Char}
use Rattle.text.specs.Sequence.{seq, encode}
use Rattle.text.specs.Text.{chars, left, well_formed, encodes, offset_of, part_of}
use Rattle.text.specs.Line.{walked}
use Rattle.text.proofs.EncodeLaws.{seq_char, seq_encode, encode_pos}
use Rattle.text.proofs.TextLaws.{chars_char, text_split, chars_left, chars_scalars, chars_encodes, encodes_append, well_formed_split, scalars_drop, scalars_at}

module _ (s : List ℕ) where
  -- ---- the offset of a place
  split_at_place : (p : ℕ) → s ≡ encodes (take p (chars s)) ++ (encodes (drop p (chars s)) ++ left s)
  split_at_place p =
      text_split s
      ∙ ap (λ (cs : List ℕ). encodes cs ++ left s) (sym (take-append-drop p (chars s)))
      ∙ rw (encodes_append, append_assoc)

  pub offset_drop : (p : ℕ) → drop (offset_of s p) s ≡ encodes (drop p (chars s)) ++ left s
  offset_drop p = ap (drop (offset_of s p)) (split_at_place p) ∙ drop-append_seam (encodes (take p (chars s))) _

  pub offset_le : (p : ℕ) → offset_of s p ≤ length s
  offset_le p = omega (arith, ap length (split_at_place p) ∙ length-append (encodes (take p (chars s))) _)

  -- the end, and places behind it
  pub offset_end : well_formed s ≡ true → (p : ℕ) → length (chars s) ≤ p → offset_of s p ≡ length s
  offset_end h p k = rw (take_all p (chars s) k) (ap length (sym (well_formed_split s h)))

  -- ---- the part from place a to place b
  module _ (a b : ℕ) (h : a ≤ b) where
    take_part : take b (chars s) ≡ take a (chars s) ++ take (b - a) (drop a (chars s))
    take_part = let e : b ≡ a + (b - a) = omega arith in ap (λ (n : ℕ). take n (chars s)) e ∙ take-add a (b - a) (chars s)

    pub offset_part : offset_of s b ≡ offset_of s a + length (part_of s a b)
    offset_part = ap (λ (cs : List ℕ). length (encodes cs)) take_part ∙ rw (encodes_append, length-append)

    drop_part : drop (offset_of s a) s ≡ part_of s a b ++ (encodes (drop (b - a) (drop a (chars s))) ++ left s)
    drop_part =
        offset_drop a
        ∙ ap (λ (cs : List ℕ). encodes cs ++ left s) (sym (take-append-drop (b - a) (drop a (chars s))))
        ∙ rw (encodes_append, append_assoc)

    pub part_bytes : take (offset_of s b - offset_of s a) (drop (offset_of s a) s) ≡ part_of s a b
    part_bytes =
        let e : length (part_of s a b) ≡ offset_of s b - offset_of s a = omega (arith, offset_part) in
        ap (take (offset_of s b - offset_of s a)) drop_part ∙ take_at (part_of s a b) _ (offset_of s b - offset_of s a) e

  -- ---- the character at a place
  module _ (p : ℕ) (h : p < length (chars s)) where
    drop_char : drop p (chars s) ≡ get_or (chars s) p 0 ∷ drop (p + 1) (chars s)
    drop_char = rw add-one (drop-cons (chars s) p 0 h)

    pub char_at_place : seq (drop (offset_of s p) s) ≡ Char (get_or (chars s) p 0) (length (encode (get_or (chars s) p 0)))
    unfolding encodes
    char_at_place =
        ap seq (offset_drop p ∙ ap (λ (cs : List ℕ). encodes cs ++ left s) drop_char ∙ rw append_assoc)
        ∙ seq_encode (get_or (chars s) p 0) (encodes (drop (p + 1) (chars s)) ++ left s) (scalars_at p (chars s) (chars_scalars s) h)

    pub part_char : part_of s p (p + 1) ≡ encode (get_or (chars s) p 0)
    unfolding encodes
    part_char = let e : p + 1 - p ≡ 1 = omega arith in rw (e, drop_char, append-nil)

    pub offset_next : offset_of s (p + 1) ≡ offset_of s p + length (encode (get_or (chars s) p 0))
    offset_next = offset_part p (p + 1) (omega arith) ∙ rw part_char

-- ---- a loop over a line
-- at is the offset of place n, and the text from there on has the characters from place n on
pub record Reached (s : List ℕ) (n at : ℕ) : Type 0 where
  pub behind : drop n (chars s) ≡ chars (drop at s)
  pub places : length (take n (chars s)) ≡ n
  pub offset : offset_of s n ≡ at
  pub inside : at ≤ length s

pub reached_start : (s : List ℕ) → Reached s 0 0
unfolding encodes
reached_start s = record { behind = refl; places = refl; offset = refl; inside = omega arith }

-- every place is reached at its offset
pub reached_place : (s : List ℕ) (p : ℕ) → p ≤ length (chars s) → Reached s p (offset_of s p)
reached_place s p h =
    record {
      behind =
          sym
          (ap chars (offset_drop s p)
          ∙ chars_encodes (drop p (chars s)) (left s) (scalars_drop p _ (chars_scalars s))
          ∙ rw (chars_left, append-nil));
      places = length-take-le p (chars s) h;
      offset = refl;
      inside = offset_le s p;
    }

module _ (s : List ℕ) (n at : ℕ) (r : Reached s n at) where
  -- how many characters are from here on
  pub reached_count : length (chars s) ≡ n + length (chars (drop at s))
  reached_count =
      sym (ap length (take-append-drop n (chars s)))
      ∙ length-append (take n (chars s)) (drop n (chars s))
      ∙ rw (r.places, r.behind)

  module _ (c l : ℕ) (e : seq (drop at s) ≡ Char c l) where
    pub char_fits : (1 ≤ l) × (at + l ≤ length s)
    char_fits =
        let i = seq_char (drop at s) c l e in
        let h = simp (length-append, length-drop) at (ap length i.split) in
        let k = r.inside in
        (omega (arith, encode_pos c, i.size), omega (arith, encode_pos c, i.size))

    next : chars (drop at s) ≡ c ∷ chars (drop (at + l) s)
    next = chars_char (drop at s) c l e ∙ rw (drop-drop l at s)

    pub reached_here : (n < length (chars s)) × (get_or (chars s) n 0 ≡ c)
    reached_here =
        let z : n + 0 ≡ n = omega arith in
        (omega (arith, reached_count, ap length next), sym (ap (λ (i : ℕ). get_or (chars s) i 0) z) ∙ sym (get_or-drop n (chars s) 0 0) ∙ rw (r.behind, next))

    take_next : take (n + 1) (chars s) ≡ take n (chars s) ++ (c ∷ [])
    take_next = take-add n 1 (chars s) ∙ rw (r.behind, next)

    pub reached_char : Reached s (n + 1) (at + l)
    unfolding encodes
    reached_char =
        record {
          behind = sym (drop-drop 1 n (chars s)) ∙ rw (r.behind, next);
          places = rw (take_next, length-append, r.places);
          offset = rw (take_next, encodes_append, length-append, append-nil, r.offset, (seq_char (drop at s) c l e).size);
          inside = char_fits.1;
        }

  -- a walk ends here: with enough characters, or where no more are
  pub walk_enough : (most : ℕ) → n ≤ most → most ≤ n → record { count = n; at = record { 0 = at } } ≡ walked s most
  walk_enough most h k = let e : most ≡ n = omega arith in rw e (rw (r.places, r.offset))

  pub walk_stops : (most : ℕ) → n ≤ most → chars (drop at s) ≡ [] → record { count = n; at = record { 0 = at } } ≡ walked s most
  walk_stops most h e =
      let all : take most (chars s) ≡ take n (chars s) = take_past in
      rw all (rw (r.places, r.offset))
    where
      take_past : take most (chars s) ≡ take n (chars s)
      take_past =
          let m : most ≡ n + (most - n) = omega arith in
          rw m (take-add n (most - n) (chars s) ∙ rw (r.behind, e, take-nil, append-nil))
