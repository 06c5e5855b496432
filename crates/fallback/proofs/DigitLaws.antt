-- Laws of the fallback's edges (`specs/Marks.antt`). No contract cites this file.
-- In order: the edge of one character; edges added to a full lattice; a character's first byte; the walk over the line; marks and the definition; a line without a digit; the edges are legal.
-- Assumes nothing.
use mathlib.Core.Path.{◌≡◌, refl, sym, ap, ◌∙◌, subst}
use mathlib.Core.Logic.{inl}
use mathlib.Core.Bool.{Bool, true, false, cond, ◌&&◌, ◌||◌, not, and-false, true≢false}
use mathlib.Core.List.{List, [], ◌∷◌, ◌++◌, append_assoc}
use Prim.Native.Nat.{ℕ, suc, ◌+◌, ◌/◌, ◌≤◌, ◌<◌}
use native.Mathlib.Numerals.{add-one}
use native.Mathlib.Omega.{arith}
use lib.ListN.{length, drop, get_or, drop_of_length-le}
use lib.Seq.{get_or-drop}
use mathlib.Core.Option.{some-ne-none}
use lib.Dec.{leb, ltb}
use borrow.Author.Tests.{leb-true, lt-ltb, ltb-false, lt-leb, le-leb}
use Rattle.text.specs.Sequence.{trail_byte, encode}
use Rattle.text.specs.Text.{chars, left, encodes, well_formed, offset_of}
use Rattle.text.proofs.RowLaws.{and-true}
use Rattle.text.proofs.TextLaws.{text_split, encodes_well_formed}
use Rattle.text.proofs.SequenceLaws.{drop_at}
use Rattle.text.proofs.EncodeLaws.{encode_pos}
use Rattle.text.proofs.PlaceLaws.{offset_drop, offset_le, offset_next}
use Rattle.edge.specs.Edge.{Edge}
use Rattle.edge.specs.Write.{regular}
use Rattle.edge.specs.Check.{allowed, sound}
use Rattle.edge.specs.Legal.{Legal}
use Rattle.pass_list.specs.StoredEdge.{nil, cons}
use Rattle.numbers.specs.CallEdge.{Legals}
use Rattle.numbers.proofs.stages.CallLaws.{add_all_legals}
use Rattle.lattice.specs.declared.Lattice.{Lattice}
use Rattle.lattice.specs.Lattice.{add, add_all}
use Rattle.lattice.specs.Kept.{Holds, AddingIs, SameBehind}
use Rattle.lattice.proofs.HoldsLaws.{add_all_append, add_nothing}
use Rattle.numbers.specs.Fallback.{covered, num_type, ascii_digit, fallback}
use Rattle.fallback.specs.Marks.{any_digit}
use Rattle.fallback.specs.Marks.{digit_edge, unmarked}

-- ---- the edge of one character
above : (c : ℕ) → 57 < c → ascii_digit c ≡ false
above c h = rw (lt-leb c 57 h) (and-false (leb 48 c))

module _ (c p : ℕ) (m : Bool) where
  above_digits : 57 < c → digit_edge c p m ≡ []
  unfolding digit_edge
  above_digits h = rw (above c h)

  pub add_digit_none : {w : List ℕ} {l : Lattice} → (m || not (ascii_digit c)) ≡ true → (es : List Edge) → Holds w l es → Holds w l (add_all es (digit_edge c p m))
  unfolding add_all digit_edge
  add_digit_none t es q = rw (go m (ascii_digit c) t) q
    where
      go : (n a : Bool) → (n || not a) ≡ true → (a && not n) ≡ false
      go true a t = and-false a
      go false true t = absurd (true≢false (sym t))
      go false false t = refl

  pub add_digit_one : {w : List ℕ} {l : Lattice} → (m || not (ascii_digit c)) ≡ false → (es : List Edge) → Holds w l (add es (regular p (p + 1) num_type (c ∷ []))) → Holds w l (add_all es (digit_edge c p m))
  unfolding add_all digit_edge
  add_digit_one t es q = rw (go m (ascii_digit c) t, sym (add-one p)) q
    where
      go : (n a : Bool) → (n || not a) ≡ false → (a && not n) ≡ true
      go true a t = absurd (true≢false t)
      go false true t = refl
      go false false t = absurd (true≢false t)

-- ---- edges added to a lattice that is full
pub full_add_all : {w : List ℕ} {l : Lattice} (es cs : List Edge) → l.len ≡ 0 → Holds w l es → Holds w l (add_all es cs)
unfolding add_all AddingIs
full_add_all es [] f q = q
full_add_all es (c ∷ cs) f q = full_add_all (add es c) cs f (add_nothing q c (inl f))

-- ---- the first byte of a character, in its place: it is that of an ASCII digit exactly if the character is one
first_digit : (c : ℕ) (s : List ℕ) (p : ℕ) (m : Bool) → digit_edge (get_or (encode c ++ s) 0 0) p m ≡ digit_edge c p m
unfolding encode
first_digit c s p m = go (ltb c 0x80) refl (ltb c 0x800) (ltb c 0x10000)
  where
    longer : (b : ℕ) → 57 < b → ltb c 0x80 ≡ false → digit_edge b p m ≡ digit_edge c p m
    longer b h e = let k = ltb-false c 0x80 e in above_digits b p m h ∙ sym (above_digits c p m (omega arith))

    go : (x : Bool) → ltb c 0x80 ≡ x → (y z : Bool)
        → digit_edge (get_or (cond x (c ∷ []) (cond y ((0xC0 + c / 64) ∷ trail_byte c ∷ []) (cond z ((0xE0 + c / 64 / 64) ∷ trail_byte (c / 64) ∷ trail_byte c ∷ []) ((0xF0 + c / 64 / 64 / 64) ∷ trail_byte (c / 64 / 64) ∷ trail_byte (c / 64) ∷ trail_byte c ∷ []))) ++ s) 0 0) p m ≡ digit_edge c p m
    go true e y z = refl
    go false e true z = longer (0xC0 + c / 64) (omega arith) e
    go false e false true = longer (0xE0 + c / 64 / 64) (omega arith) e
    go false e false false = longer (0xF0 + c / 64 / 64 / 64) (omega arith) e

module _ (line : List ℕ) (p : ℕ) (h : p < length (chars line)) where
  pub place_inside : offset_of line p < length line
  place_inside = omega (arith, offset_next line p h, encode_pos (get_or (chars line) p 0), offset_le line (p + 1))

  from_place : drop p (chars line) ≡ get_or (chars line) p 0 ∷ drop (p + 1) (chars line)
  from_place = drop_at (chars line) p h

  first_byte : (m : Bool) → digit_edge (get_or line (offset_of line p) 0) p m ≡ digit_edge (get_or (chars line) p 0) p m
  unfolding encodes
  first_byte m =
      let z : offset_of line p ≡ offset_of line p + 0 = omega arith in
      let d : drop (offset_of line p) line ≡ encode (get_or (chars line) p 0) ++ (encodes (drop (p + 1) (chars line)) ++ left line) =
      offset_drop line p ∙ ap (λ (cs : List ℕ). encodes cs ++ left line) from_place ∙ append_assoc (encode (get_or (chars line) p 0)) _ (left line) in
      let b : get_or line (offset_of line p) 0 ≡ get_or (encode (get_or (chars line) p 0) ++ (encodes (drop (p + 1) (chars line)) ++ left line)) 0 0 =
      ap (λ (i : ℕ). get_or line i 0) z ∙ sym (get_or-drop (offset_of line p) line 0 0) ∙ ap (λ (s : List ℕ). get_or s 0 0) d in
      ap (λ (x : ℕ). digit_edge x p m) b ∙ first_digit (get_or (chars line) p 0) _ p m

-- ---- the walk: with the characters from place p on, the lattice is what it shall be
pub record Walking (w₀ : List ℕ) (l₀ : Lattice) (line : List ℕ) (marks : List Bool) (w : List ℕ) (l : Lattice) (p : ℕ) : Type 0 where
  pub long : length w ≡ length w₀
  pub frame : SameBehind w₀ w
  pub holds : (es : List Edge) → Holds w₀ l₀ es
      → (ds : List Edge) × Holds w l ds × (add_all ds (unmarked marks p (drop p (chars line))) ≡ add_all es (unmarked marks 0 (chars line)))

pub walk_start : (w : List ℕ) (l : Lattice) (line : List ℕ) (marks : List Bool) → Walking w l line marks w l 0
walk_start w l line marks = record { long = refl; frame = refl; holds = λ es q. (es, q, refl) }

module _ {w₀ : List ℕ} {l₀ : Lattice} {line : List ℕ} {marks : List Bool} {w : List ℕ} {l : Lattice} {p : ℕ} (a : Walking w₀ l₀ line marks w l p) where
  pub walk_next : p < length (chars line) → {at : ℕ} → at ≡ offset_of line p → {v : List ℕ} {m : Lattice} → length v ≡ length w → SameBehind w v
      → ((es : List Edge) → Holds w l es → Holds v m (add_all es (digit_edge (get_or line at 0) p (get_or marks p false)))) → Walking w₀ l₀ line marks v m (p + 1)
  unfolding unmarked
  walk_next h {at} here {v} {m} y f g =
      let k = get_or marks p false in
      let cs = digit_edge (get_or (chars line) p 0) p k in
      let e : digit_edge (get_or line at 0) p k ≡ cs = ap (λ (i : ℕ). digit_edge (get_or line i 0) p k) here ∙ first_byte line p h k in
      record {
        long = y ∙ a.long;
        frame = f ∙ a.frame;
        holds = λ es q. let x = a.holds es q in (
          add_all x.0 cs,
          subst (λ (ds : List Edge). Holds v m (add_all x.0 ds)) e (g x.0 x.1),
          sym (add_all_append x.0 cs (unmarked marks (p + 1) (drop (p + 1) (chars line))))
              ∙ rw (add-one p) (sym (ap (λ (ds : List ℕ). add_all x.0 (unmarked marks p ds)) (rw (add-one p) at (from_place line p h))) ∙ x.2),
        );
      }

  pub walk_end : length (chars line) ≤ p → (es : List Edge) → Holds w₀ l₀ es → Holds w l (add_all es (unmarked marks 0 (chars line)))
  unfolding add_all unmarked
  walk_end h es q =
      let x = a.holds es q in
      let d : x.0 ≡ add_all es (unmarked marks 0 (chars line)) = (rw (drop_of_length-le (chars line) {i = p} h) at x.2) in
      rw d at x.1

-- ---- with the marks of the lattice's edges these are the definition's
pub marks_say : (es : List Edge) (marks : List Bool) → ((p : ℕ) → p < 256 → get_or marks p false ≡ covered es p) → (p : ℕ) (w : List ℕ) → p + length w ≤ 256 → unmarked marks p w ≡ fallback es p w
unfolding unmarked fallback digit_edge
marks_say es marks m p [] h = refl
marks_say es marks m p (c ∷ w) h =
    rw (m p (omega arith), marks_say es marks m (suc p) w (omega arith)) (go (ascii_digit c && not (covered es p)))
  where
    go : (b : Bool) → cond b (regular p (suc p) num_type (c ∷ []) ∷ []) [] ++ fallback es (suc p) w ≡ cond b (regular p (suc p) num_type (c ∷ []) ∷ fallback es (suc p) w) (fallback es (suc p) w)
    go true = refl
    go false = refl

-- the two: what the walk over the line adds
pub marks_add : {w : List ℕ} {l : Lattice} (es : List Edge) (marks : List Bool) (cs : List ℕ) → ((p : ℕ) → p < 256 → get_or marks p false ≡ covered es p) → length cs ≤ 256
    → Holds w l (add_all es (unmarked marks 0 cs)) → Holds w l (add_all es (fallback es 0 cs))
marks_add es marks cs m h q = rw (marks_say es marks m 0 cs (omega arith)) at q

-- ---- a line without a digit
-- no byte is a digit's: then none is in a part
none_each : (b : ℕ) (s : List ℕ) → any_digit (b ∷ s) ≡ false → (ascii_digit b ≡ false) × (any_digit s ≡ false)
unfolding any_digit
none_each b s = go (ascii_digit b)
  where
    go : (d : Bool) → d || any_digit s ≡ false → (d ≡ false) × (any_digit s ≡ false)
    go true e = absurd (true≢false e)
    go false e = (refl, e)

none_behind : (s t : List ℕ) → any_digit (s ++ t) ≡ false → any_digit t ≡ false
none_behind [] t e = e
none_behind (b ∷ s) t e = none_behind s t (none_each b (s ++ t) e).1

-- nor is the character that they begin with
none_first : (c : ℕ) (s : List ℕ) → any_digit (encode c ++ s) ≡ false → ascii_digit c ≡ false
unfolding encode
none_first c s = go (ltb c 0x80) refl _
  where
    go : (x : Bool) → ltb c 0x80 ≡ x → (long : List ℕ) → any_digit (cond x (c ∷ []) long ++ s) ≡ false → ascii_digit c ≡ false
    go true e long n = (none_each c s n).0
    go false e long n = let k = ltb-false c 0x80 e in above c (omega arith)

-- so nothing is added
none_fallback : (es : List Edge) (p : ℕ) (cs s : List ℕ) → any_digit (encodes cs ++ s) ≡ false → fallback es p cs ≡ []
unfolding fallback encodes
none_fallback es p [] s n = refl
none_fallback es p (c ∷ cs) s n =
    let m = rw append_assoc at n in
    rw (none_first c (encodes cs ++ s) m) (none_fallback es (suc p) cs s (none_behind (encode c) (encodes cs ++ s) m))

pub none_add : {w : List ℕ} {l : Lattice} (es : List Edge) (line : List ℕ) → any_digit line ≡ false → Holds w l es → Holds w l (add_all es (fallback es 0 (chars line)))
unfolding add_all
none_add es line n q = rw (none_fallback es 0 (chars line) (left line) (ap any_digit (sym (text_split line)) ∙ n)) q

-- ---- the edges may be listed
text_num : well_formed num_type ≡ true
unfolding encodes encode
text_num = encodes_well_formed (110 ∷ 117 ∷ 109 ∷ []) (refl, (refl, (refl, tt)))

-- an ASCII digit is its own text
text_digit : (c : ℕ) → ascii_digit c ≡ true → well_formed (c ∷ []) ≡ true
unfolding encodes encode
text_digit c t =
    let b = and-true (leb 48 c) (leb c 57) t in
    let x = leb-true c 57 b.1 in
    rw (lt-ltb c 128 (omega arith)) at (encodes_well_formed (c ∷ []) (rw (le-leb 0 c (omega arith), le-leb c 0xD7FF (omega arith)), tt))

digit_legal : (n c p : ℕ) → ascii_digit c ≡ true → p < n → n ≤ 256 → Legal false n (regular p (suc p) num_type (c ∷ []))
unfolding sound allowed
digit_legal n c p t h k =
    record {
      fits = record { start = omega arith; end = omega arith; type = omega arith; txt = omega arith; num = λ x e. absurd (some-ne-none x (sym e)) };
      map = refl;
      content = rw (lt-ltb p (suc p) (omega arith), le-leb (suc p) n (omega arith), text_num, text_digit c t);
    }

fallback_legal : (n : ℕ) (es : List Edge) (p : ℕ) (w : List ℕ) → p + length w ≤ n → n ≤ 256 → Legals n (fallback es p w)
unfolding fallback
fallback_legal n es p [] h k = nil
fallback_legal n es p (c ∷ w) h k = go (ascii_digit c) refl (not (covered es p)) (fallback_legal n es (suc p) w (omega arith) k)
  where
    go : (a : Bool) → ascii_digit c ≡ a → (b : Bool) → Legals n (fallback es (suc p) w)
        → Legals n (cond (a && b) (regular p (suc p) num_type (c ∷ []) ∷ fallback es (suc p) w) (fallback es (suc p) w))
    go true t true ls = cons (digit_legal n c p t (omega arith) k) ls
    go true t false ls = ls
    go false t b ls = ls

-- so the lattice's edges stay such
pub fallback_legals : {n : ℕ} {es : List Edge} (w : List ℕ) → length w ≤ n → n ≤ 256 → Legals n es → Legals n (add_all es (fallback es 0 w))
fallback_legals {n} {es} w h k ls = add_all_legals ls (fallback_legal n es 0 w (omega arith) k)
