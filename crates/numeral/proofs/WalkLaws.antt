-- Laws of the way over a line (`specs/Walk.antt`), for the proofs of this crate.
-- In order: three bytes as one number; the bytes of characters; the character at the start of some bytes; at an offset of the line.
use Prim.Native.Nat.{ℕ, suc, ◌+◌, ◌≤◌, ◌<◌}
use mathlib.Core.Path.{◌≡◌, refl, sym, ap, ◌∙◌}
use mathlib.Core.Bool.{Bool, true, false, cond, ◌&&◌}
use mathlib.Core.List.{List, [], ◌∷◌, ◌++◌}
use mathlib.Core.Option.{Option, none, some, some-ne-none, some-injective}
use native.Mathlib.Omega.{arith}
use lib.ListN.{length, drop, get_or, length-drop, drop_of_length-le}
use lib.Seq.{drop-drop, drop-cons}
use lib.Dec.{eqb}
use borrow.Author.Tests.{eqb-true, eqb-false, eq-eqb, ne_eqb}
use Rattle.grammar.specs.Plain.{Char, digit, ten, large, code_point, sixteen, utf8}
use Rattle.grammar.proofs.Sixteen.{each}
use Rattle.table_grammar.proofs.Tests.{and_left, and_right}
use Rattle.grammar.proofs.PlainText.{utf8_nil, utf8_append, char_three}
use Rattle.numeral.specs.declared.Glyph.{Glyph}
use Rattle.numeral.specs.Numeral.{State, failed, step, take_digit, take_ten, take_large, result}
use Rattle.numeral.specs.Field.{behind}
use Rattle.numeral.specs.Walk.{capped, glyph, three, first, second, third, number, by_number, glyph_if, glyph_of, ThreeAt, by_bytes, glyph_at, onto, plain_text, valued, value_on, value_from}
use Rattle.numeral.proofs.Sound.{reads_failed}
use Rattle.std.specs.Prelude.{None}

-- ---- three bytes as one number
byte_char : (k : Char) → (first (code_point k) < 256) × (second (code_point k) < 256) × (third (code_point k) < 256)
byte_char k = (small k, omega arith, omega arith)
  where
    small : (k : Char) → first (code_point k) < 256
    small = each (λ k. first (code_point k) < 256) (omega arith, omega arith, omega arith, omega arith, omega arith, omega arith, omega arith, omega arith, omega arith, omega arith, omega arith, omega arith, omega arith, omega arith, omega arith, omega arith)

module _ (a b c : ℕ) (ha : a < 256) (hb : b < 256) (hc : c < 256) where
  -- two numbers of three bytes are equal where the bytes are
  same_three : (x y z : ℕ) → x < 256 → y < 256 → z < 256 → eqb (three a b c) (three x y z) ≡ (eqb a x && eqb b y && eqb c z)
  same_three x y z hx hy hz = go (eqb a x) refl (eqb b y) refl (eqb c z) refl
    where
      go : (p : Bool) → eqb a x ≡ p → (q : Bool) → eqb b y ≡ q → (r : Bool) → eqb c z ≡ r → eqb (three a b c) (three x y z) ≡ (p && q && r)
      go true ep true eq true er = eq-eqb (three a b c) (three x y z) (let h = eqb-true a x ep in let i = eqb-true b y eq in let j = eqb-true c z er in omega arith)
      go false ep q eq r er = ne_eqb (three a b c) (three x y z) (λ e. eqb-false a x ep (omega arith))
      go true ep false eq r er = ne_eqb (three a b c) (three x y z) (λ e. eqb-false b y eq (let h = eqb-true a x ep in omega arith))
      go true ep true eq false er = ne_eqb (three a b c) (three x y z) (λ e. eqb-false c z er (let h = eqb-true a x ep in let i = eqb-true b y eq in omega arith))

  by_bytes_lem : (ks : List Char) → by_number ks (three a b c) ≡ by_bytes ks a b c
  unfolding by_number by_bytes
  by_bytes_lem [] = refl
  by_bytes_lem (k ∷ ks) = let h = byte_char k in rw (same_three _ _ _ h.0 h.1 h.2, by_bytes_lem ks)

-- ---- the bytes of characters
of_number : (k : Char) → by_number sixteen (number k) ≡ some k
unfolding by_number
of_number = each (λ k. by_number sixteen (number k) ≡ some k) (refl, refl, refl, refl, refl, refl, refl, refl, refl, refl, refl, refl, refl, refl, refl, refl)

number_of : (ks : List Char) (n : ℕ) (k : Char) → by_number ks n ≡ some k → n ≡ number k
unfolding by_number
number_of [] n k e = absurd (some-ne-none k (sym e))
number_of (j ∷ ks) n k e = go (eqb n (number j)) refl e (number_of ks n k)
  where
    go : (t : Bool) → eqb n (number j) ≡ t → cond t (some j) (by_number ks n) ≡ some k → (by_number ks n ≡ some k → n ≡ number k) → n ≡ number k
    go true q e ih = eqb-true n (number j) q ∙ ap number (some-injective j k e)
    go false q e ih = ih e

pub number_glyph : (k : Char) (n : ℕ) → n ≡ number k → glyph k ≡ glyph_of n
number_glyph k n e = rw (e, of_number k)

pub no_glyph : (n : ℕ) → ((k : Char) → n ≡ number k → ⊥) → Glyph.Other ≡ glyph_of n
no_glyph n h = go (by_number sixteen n) refl
  where
    go : (o : Option Char) → by_number sixteen n ≡ o → Glyph.Other ≡ glyph_if o
    go none e = refl
    go (some k) e = absurd (h k (number_of sixteen n k e))

pub of_bytes : (k : Char) → by_bytes sixteen (first (code_point k)) (second (code_point k)) (third (code_point k)) ≡ some k
unfolding by_bytes
of_bytes = each (λ k. by_bytes sixteen (first (code_point k)) (second (code_point k)) (third (code_point k)) ≡ some k) (refl, refl, refl, refl, refl, refl, refl, refl, refl, refl, refl, refl, refl, refl, refl, refl)

bytes_of : (ks : List Char) (a b c : ℕ) (k : Char) → by_bytes ks a b c ≡ some k → a ∷ b ∷ c ∷ [] ≡ utf8 (k ∷ [])
unfolding by_bytes
bytes_of [] a b c k e = absurd (some-ne-none k (sym e))
bytes_of (j ∷ ks) a b c k e = go (eqb a x && eqb b y && eqb c z) refl e (bytes_of ks a b c k)
  where
    x : ℕ
    x = first (code_point j)

    y : ℕ
    y = second (code_point j)

    z : ℕ
    z = third (code_point j)

    go : (t : Bool) → (eqb a x && eqb b y && eqb c z) ≡ t → cond t (some j) (by_bytes ks a b c) ≡ some k → (by_bytes ks a b c ≡ some k → a ∷ b ∷ c ∷ [] ≡ utf8 (k ∷ [])) → a ∷ b ∷ c ∷ [] ≡ utf8 (k ∷ [])
    go true q e ih =
        let ab = and_left (eqb a x && eqb b y) (eqb c z) q in
        let ea = eqb-true a x (and_left (eqb a x) (eqb b y) ab) in
        let eb = eqb-true b y (and_right (eqb a x) (eqb b y) ab) in
        let ec = eqb-true c z (and_right (eqb a x && eqb b y) (eqb c z) q) in
        rw (ea, eb, ec) (sym (char_three j)) ∙ ap (λ (i : Char). utf8 (i ∷ [])) (some-injective j k e)
    go false q e ih = ih e

-- a text of plain characters, and no other, is read as them
text_step : (a b c : ℕ) (s : List ℕ) → plain_text (a ∷ b ∷ c ∷ s) ≡ onto (by_bytes sixteen a b c) (plain_text s)
unfolding plain_text
text_step a b c s = refl

text_nil : plain_text [] ≡ some []
unfolding plain_text
text_nil = refl

pub text_of : (w : List Char) → plain_text (utf8 w) ≡ some w
text_of [] = ap plain_text utf8_nil ∙ text_nil
text_of (k ∷ w) =
    ap plain_text (utf8_append (k ∷ []) w ∙ ap (λ (t : List ℕ). t ++ utf8 w) (char_three k)) ∙ text_step _ _ _ (utf8 w)
    ∙ rw (of_bytes k, text_of w)

pub of_text : (s : List ℕ) (w : List Char) → plain_text s ≡ some w → s ≡ utf8 w
unfolding plain_text
of_text [] w e = sym utf8_nil ∙ ap utf8 (some-injective [] w e)
of_text (a ∷ []) w e = absurd (some-ne-none w (sym e))
of_text (a ∷ b ∷ []) w e = absurd (some-ne-none w (sym e))
of_text (a ∷ b ∷ c ∷ s) w e = go (by_bytes sixteen a b c) refl (plain_text s) refl e (of_text s)
  where
    go : (o : Option Char) → by_bytes sixteen a b c ≡ o → (q : Option (List Char)) → plain_text s ≡ q → onto o q ≡ some w
        → ((w : List Char) → plain_text s ≡ some w → s ≡ utf8 w) → a ∷ b ∷ c ∷ s ≡ utf8 w
    go none e q h k ih = absurd (some-ne-none w (sym k))
    go (some j) e none h k ih = absurd (some-ne-none w (sym k))
    go (some j) e (some u) h k ih =
        ap (λ (t : List ℕ). a ∷ b ∷ c ∷ t) (ih u h) ∙ ap (λ (t : List ℕ). t ++ utf8 u) (bytes_of sixteen a b c j e) ∙ sym (utf8_append (j ∷ []) u)
        ∙ ap utf8 (some-injective (j ∷ u) w k)

-- ---- the character at the start of some bytes
data Starts (s : List ℕ) : Glyph → Type 0 where
  ends : plain_text s ≡ some [] → Starts s Glyph.End
  other : plain_text s ≡ none → Starts s Glyph.Other
  plain : (k : Char) → plain_text s ≡ behind k (plain_text (drop 3 s)) → 3 ≤ length s → Starts s (glyph k)

starts : (s : List ℕ) → Starts s (glyph_at s)
unfolding plain_text
starts [] = ends refl
starts (a ∷ []) = other refl
starts (a ∷ b ∷ []) = other refl
starts (a ∷ b ∷ c ∷ s) = go (by_bytes sixteen a b c) refl
  where
    go : (o : Option Char) → by_bytes sixteen a b c ≡ o → Starts (a ∷ b ∷ c ∷ s) (glyph_if o)
    go none e = other (text_step a b c s ∙ rw e)
    go (some k) e = plain k (text_step a b c s ∙ rw e) (omega arith)

-- ---- what the code finds at an offset
pub glyph_end : (s : List ℕ) (at : ℕ) → length s ≤ at → Glyph.End ≡ glyph_at (drop at s)
glyph_end s at h = rw (drop_of_length-le s h)

short : (t : List ℕ) → 1 ≤ length t → length t < 3 → Glyph.Other ≡ glyph_at t
short [] h k = absurd (omega arith)
short (a ∷ []) h k = refl
short (a ∷ b ∷ []) h k = refl
short (a ∷ b ∷ c ∷ t) h k = absurd (omega arith)

pub glyph_short : (s : List ℕ) (at : ℕ) → at < length s → length s < at + 3 → Glyph.Other ≡ glyph_at (drop at s)
glyph_short s at h k = short (drop at s) (omega (arith, length-drop at s)) (omega (arith, length-drop at s))

pub glyph_here : (s : List ℕ) (at : ℕ) → at + 3 ≤ length s → {n : ℕ} → ThreeAt s at n → {g : Glyph} → g ≡ glyph_of n → g ≡ glyph_at (drop at s)
glyph_here s at h t q =
    q ∙ ap glyph_of t.number ∙ ap glyph_if (by_bytes_lem _ _ _ t.first t.second t.third sixteen) ∙ sym (ap glyph_at split)
  where
    split : drop at s ≡ get_or s at 0 ∷ get_or s (at + 1) 0 ∷ get_or s (at + 2) 0 ∷ drop (at + 3) s
    split =
        let one : at + 1 ≡ suc at = omega arith in
        let two : at + 2 ≡ suc (suc at) = omega arith in
        let all : at + 3 ≡ suc (suc (suc at)) = omega arith in
        rw (one, two, all, drop-cons s at 0 (omega arith), drop-cons s (suc at) 0 (omega arith), drop-cons s (suc (suc at)) 0 (omega arith))

-- ---- reading on behind it
module _ (line : List ℕ) (at : ℕ) (a : State) where
  -- the character there has room, and is taken
  pub record Taken (b : State) : Type 0 where
    pub room : at + 3 ≤ length line
    pub rest : value_from b (drop (at + 3) line) ≡ value_from a (drop at line)

  on_behind : (k : Char) (o : Option (List Char)) → value_on (step capped a k) o ≡ value_on a (behind k o)
  on_behind k none = refl
  on_behind k (some w) = refl

  taken : (k : Char) → plain_text (drop at line) ≡ behind k (plain_text (drop 3 (drop at line))) → 3 ≤ length (drop at line) → Taken (step capped a k)
  unfolding value_from
  taken k e h = record {
    room = omega (arith, length-drop at line);
    rest = rw (e, ← (drop-drop 3 at line)) (on_behind k (plain_text (drop 3 (drop at line))));
  }

  -- what holds where the glyph there is g
  abbrev pub Goes : Glyph → Type 0
  Goes (Glyph.Digit v) = Taken (take_digit capped a v)
  Goes (Glyph.Ten v) = Taken (take_ten capped a v)
  Goes (Glyph.Large v) = Taken (take_large capped a v)
  Goes Glyph.Other = None ≡ value_from a (drop at line)
  Goes Glyph.End = valued (result capped a) ≡ value_from a (drop at line)

  goes : (g : Glyph) → Starts (drop at line) g → Goes g
  unfolding value_from
  goes _ (ends h) = rw h
  goes _ (other h) = rw h
  goes _ (plain (digit d) h r) = taken (digit d) h r
  goes _ (plain (ten t) h r) = taken (ten t) h r
  goes _ (plain (large l) h r) = taken (large l) h r

  pub at_glyph : {g : Glyph} → g ≡ glyph_at (drop at line) → Goes g
  at_glyph e = rw e (goes (glyph_at (drop at line)) (starts (drop at line)))

-- a line that is none any more stays so
pub from_failed : (s : List ℕ) → None ≡ value_from failed s
unfolding value_from
from_failed s = go (plain_text s)
  where
    go : (o : Option (List Char)) → None ≡ value_on failed o
    go none = refl
    go (some w) = sym (ap (λ (x : State). valued (result capped x)) (reads_failed capped w))
