-- Laws of the way to the one □ (`specs/Marked.antt`), for the proofs of this crate.
-- In order: a character at the start of some bytes; □ there; how far the characters of the plain table go; the one □.
use Prim.Native.Nat.{ℕ, suc, ◌+◌, ◌*◌, ◌-◌, ◌≤◌, ◌<◌}
use mathlib.Core.Path.{◌≡◌, refl, sym, ap, ◌∙◌}
use mathlib.Core.Bool.{Bool, true, false}
use mathlib.Core.Logic.{◌⊎◌, inl, inr}
use mathlib.Core.List.{List, [], ◌∷◌, ◌++◌, append_assoc, append-nil}
use mathlib.Core.Option.{Option, none, some, some-ne-none}
use native.Mathlib.Omega.{arith}
use lib.ListN.{length, take, drop, length-append, length-drop, drop_of_length-le}
use lib.Seq.{drop-drop, drop_at, take-length}
use lib.Dec.{eqb}
use Rattle.grammar.specs.Plain.{Char, digit, ten, large, sixteen, utf8}
use Rattle.std.specs.List.{starts_with}
use Rattle.std.proofs.lemmas.Bool.Decides.{Decides-eqb}
use Rattle.std.proofs.lemmas.Slice.Eq.{starts_is}
use Rattle.grammar.proofs.PlainText.{utf8_nil, utf8_append, utf8_length, char_three}
use Rattle.numeral.specs.declared.Glyph.{Glyph}
use Rattle.numeral.specs.Walk.{glyph, glyph_if, glyph_at, by_bytes, plain_text}
use Rattle.numeral.proofs.WalkLaws.{text_of, of_text}
use Rattle.worn.specs.Marked.{plain_glyph, is_plain, mark_bytes, is_mark, worn_text, PlainTo, WornAt}

-- ---- a character at the start of some bytes
module _ {g : Glyph} (s : List ℕ) (e : g ≡ glyph_at s) where
  pub other_plain : (g ≡ Glyph.Other) ⊎ (g ≡ Glyph.End) → false ≡ is_plain s
  unfolding is_plain
  other_plain (inl q) = ap plain_glyph (sym q ∙ e)
  other_plain (inr q) = ap plain_glyph (sym q ∙ e)

  pub some_plain : (g ≡ Glyph.Other → ⊥) → (g ≡ Glyph.End → ⊥) → true ≡ is_plain s
  unfolding is_plain
  some_plain o d = go g refl ∙ ap plain_glyph e
    where
      go : (h : Glyph) → g ≡ h → true ≡ plain_glyph g
      go (Glyph.Digit v) q = ap plain_glyph (sym q)
      go (Glyph.Ten v) q = ap plain_glyph (sym q)
      go (Glyph.Large v) q = ap plain_glyph (sym q)
      go Glyph.Other q = absurd (o q)
      go Glyph.End q = absurd (d q)

glyph_plain : (k : Char) → plain_glyph (glyph k) ≡ true
glyph_plain (digit d) = refl
glyph_plain (ten t) = refl
glyph_plain (large l) = refl

-- the character k is there, and what is behind it
pub record Begins (s : List ℕ) (k : Char) : Type 0 where
  pub bytes : s ≡ utf8 (k ∷ []) ++ drop 3 s
  pub room : 3 ≤ length s

pub plain_begins : (s : List ℕ) → is_plain s ≡ true → (k : Char) × Begins s k
unfolding plain_text is_plain
plain_begins [] e = absurd cc
plain_begins (a ∷ []) e = absurd cc
plain_begins (a ∷ b ∷ []) e = absurd cc
plain_begins (a ∷ b ∷ c ∷ s) e = go (by_bytes sixteen a b c) refl e
  where
    go : (o : Option Char) → by_bytes sixteen a b c ≡ o → plain_glyph (glyph_if o) ≡ true → (k : Char) × Begins (a ∷ b ∷ c ∷ s) k
    go none h t = absurd cc
    go (some k) h t = (k, record { bytes = ap (λ (u : List ℕ). u ++ s) (of_text (a ∷ b ∷ c ∷ []) (k ∷ []) (rw h)); room = omega arith })

begins_plain : (k : Char) (t : List ℕ) → is_plain (utf8 (k ∷ []) ++ t) ≡ true
unfolding plain_text is_plain
begins_plain k t = go _ _ _ (char_three k)
  where
    go : (a b c : ℕ) → utf8 (k ∷ []) ≡ a ∷ b ∷ c ∷ [] → is_plain (utf8 (k ∷ []) ++ t) ≡ true
    go a b c e = rw e (found (by_bytes sixteen a b c) refl)
      where
        found : (o : Option Char) → by_bytes sixteen a b c ≡ o → plain_glyph (glyph_if o) ≡ true
        found none h = absurd (some-ne-none (k ∷ []) (sym (text_of (k ∷ [])) ∙ rw (e, h)))
        found (some j) h = glyph_plain j

-- ---- □
pub mark_not_plain : (t : List ℕ) → is_plain (mark_bytes ++ t) ≡ false
unfolding by_bytes is_plain
mark_not_plain t = refl

nothing_plain : is_plain [] ≡ false
unfolding is_plain
nothing_plain = refl

pub mark_here : (t : List ℕ) → is_mark (mark_bytes ++ t) ≡ true
unfolding is_mark
mark_here t = refl

pub mark_bytes_lem : (s : List ℕ) → is_mark s ≡ true → s ≡ mark_bytes ++ drop 3 s
unfolding is_mark
mark_bytes_lem s e = (starts_is Decides-eqb s mark_bytes _ refl).0 e

-- as the code asks it
pub mark_at : (s : List ℕ) (at : ℕ) → starts_with eqb (take (length s - at) (drop at s)) mark_bytes ≡ is_mark (drop at s)
unfolding is_mark
mark_at s at =
    let all : take (length s - at) (drop at s) ≡ drop at s = rw (← (length-drop at s)) (take-length (drop at s)) in
    ap (λ (t : List ℕ). starts_with eqb t mark_bytes) all

-- ---- how far the characters of the plain table go
pub record PlainSo (s : List ℕ) (from at : ℕ) : Type 0 where
  pub chars : List Char
  pub stand : drop from s ≡ utf8 chars ++ drop at s
  pub inside : at ≤ length s

pub plain_start : (s : List ℕ) (from : ℕ) → from ≤ length s → PlainSo s from from
plain_start s from h = record { chars = []; stand = rw utf8_nil; inside = h }

module _ (s : List ℕ) (from at : ℕ) (so : PlainSo s from at) where
  pub plain_room : is_plain (drop at s) ≡ true → at + 3 ≤ length s
  plain_room e = omega (arith, (plain_begins (drop at s) e).1.room, length-drop at s)

  pub plain_next : is_plain (drop at s) ≡ true → PlainSo s from (at + 3)
  plain_next e =
      let (k, b) = plain_begins (drop at s) e in
      record {
        chars = so.chars ++ (k ∷ []);
        stand = so.stand ∙ ap (λ (t : List ℕ). utf8 so.chars ++ t) (b.bytes ∙ ap (λ (t : List ℕ). utf8 (k ∷ []) ++ t) (drop-drop 3 at s))
            ∙ sym (append_assoc (utf8 so.chars) (utf8 (k ∷ [])) (drop (at + 3) s)) ∙ ap (λ (t : List ℕ). t ++ drop (at + 3) s) (sym (utf8_append so.chars (k ∷ [])));
        inside = plain_room e;
      }

  pub plain_ends : is_plain (drop at s) ≡ false → PlainTo s from at
  plain_ends e = record { chars = so.chars; stand = so.stand; inside = so.inside; ends = e }

-- the characters w, then t: one character, then the others
one_more_lem : (k : Char) (w : List Char) (t : List ℕ) → utf8 (k ∷ w) ++ t ≡ utf8 (k ∷ []) ++ (utf8 w ++ t)
one_more_lem k w t = ap (λ (l : List ℕ). l ++ t) (utf8_append (k ∷ []) w) ∙ append_assoc (utf8 (k ∷ [])) (utf8 w) t

drop_one : (k : Char) (t : List ℕ) → drop 3 (utf8 (k ∷ []) ++ t) ≡ t
drop_one k t = drop_at (utf8 (k ∷ [])) t 3 (utf8_length (k ∷ []))

not_both : (s : List ℕ) → is_plain s ≡ true → is_plain s ≡ false → ⊥
not_both s h p = let z : ◌≡◌ {A = Bool} true false = sym h ∙ p in let y : ◌≡◌ {A = ℕ} 0 1 = cc in omega arith

-- with how many characters of the plain table a text begins is never in doubt
plain_once : (w x : List Char) (t u : List ℕ) → utf8 w ++ t ≡ utf8 x ++ u → is_plain t ≡ false → is_plain u ≡ false → (length w ≡ length x) × (t ≡ u)
plain_once [] [] t u e p q = (refl, rw utf8_nil at e)
plain_once [] (k ∷ x) t u e p q =
    absurd (not_both t (ap is_plain (ap (λ (l : List ℕ). l ++ t) (sym utf8_nil) ∙ e ∙ one_more_lem k x u) ∙ begins_plain k (utf8 x ++ u)) p)
plain_once (j ∷ w) [] t u e p q =
    absurd (not_both u (ap is_plain (ap (λ (l : List ℕ). l ++ u) (sym utf8_nil) ∙ sym e ∙ one_more_lem j w t) ∙ begins_plain j (utf8 w ++ t)) q)
plain_once (j ∷ w) (k ∷ x) t u e p q =
    let rest = sym (drop_one j (utf8 w ++ t)) ∙ ap (drop 3) (sym (one_more_lem j w t) ∙ e ∙ one_more_lem k x u) ∙ drop_one k (utf8 x ++ u) in
    let (n, r) = plain_once w x t u rest p q in
    (ap suc n, r)

-- ---- the one □
module _ (s : List ℕ) (at : ℕ) (to : PlainTo s 0 at) where
  -- the line with □ between x and y: □ stands at the offset
  worn_there : (x y : List Char) → s ≡ worn_text x y → (at ≡ 3 * length x) × (drop at s ≡ mark_bytes ++ utf8 y)
  worn_there x y e =
      let (n, r) = plain_once to.chars x (drop at s) (mark_bytes ++ utf8 y) (sym to.stand ∙ e) to.ends (mark_not_plain (utf8 y)) in
      let size = ap length to.stand in
      (omega (arith, n, size, length-append (utf8 to.chars) (drop at s), utf8_length to.chars, length-drop at s, to.inside), r)

  pub no_mark : is_mark (drop at s) ≡ false → (x y : List Char) → s ≡ worn_text x y → ⊥
  no_mark f x y e =
      let z : ◌≡◌ {A = Bool} true false = sym (mark_here (utf8 y)) ∙ sym (ap is_mark (worn_there x y e).1) ∙ f in
      let i : ◌≡◌ {A = ℕ} 0 1 = cc in omega arith

  module _ (here : is_mark (drop at s) ≡ true) where
    behind : drop at s ≡ mark_bytes ++ drop (at + 3) s
    behind = mark_bytes_lem (drop at s) here ∙ ap (λ (t : List ℕ). mark_bytes ++ t) (drop-drop 3 at s)

    pub mark_room : at + 3 ≤ length s
    mark_room = omega (arith, ap length behind, length-append mark_bytes (drop (at + 3) s), length-drop at s, to.inside)

    module _ (end : ℕ) (rest : PlainTo s (at + 3) end) where
      pub not_alone : end < length s → (x y : List Char) → s ≡ worn_text x y → ⊥
      not_alone h x y e =
          let y-there : drop (at + 3) s ≡ utf8 y = sym (ap (drop 3) behind) ∙ ap (drop 3) (worn_there x y e).1 in
          let (n, r) = plain_once rest.chars y (drop end s) [] (sym rest.stand ∙ y-there ∙ sym (append-nil (utf8 y))) rest.ends nothing_plain in
          omega (arith, ap length r, length-drop end s)

      pub alone : length s ≤ end → WornAt s at
      alone h =
          let nothing : drop end s ≡ [] = drop_of_length-le s h in
          let y-there : drop (at + 3) s ≡ utf8 rest.chars = rest.stand ∙ rw nothing (append-nil (utf8 rest.chars)) in
          let text : s ≡ worn_text to.chars rest.chars = to.stand ∙ ap (λ (t : List ℕ). utf8 to.chars ++ t) (behind ∙ ap (λ (t : List ℕ). mark_bytes ++ t) y-there) in
          record { x = to.chars; y = rest.chars; text = text; place = (worn_there to.chars rest.chars text).0 }
