-- Laws of a text as characters (`specs/Text.antt`), for this crate's proofs and its callers'.
-- In order: a step of `decode`; every text by cases; a text is its characters' bytes and what is left; texts one after the other; some of the characters.
use mathlib.Core.Path.{◌≡◌, refl, sym, ap, ◌∙◌, subst}
use mathlib.Core.Bool.{true, true≢false}
use mathlib.Core.List.{List, [], ◌∷◌, ◌++◌, append_assoc, append-nil}
use Prim.Native.Nat.{ℕ, zero, suc, ◌-◌, ◌≤◌, ◌<◌}
use native.Mathlib.Omega.{arith}
use lib.ListN.{length, take, drop, get_or, length-drop}
use lib.Seq.{drop-append_seam}
use Rattle.text.specs.declared.Seq.{Seq}
use Rattle.text.specs.declared.Seq.TheVariants.{Char, Ill, End}
use Rattle.text.specs.Sequence.{seq, scalar, encode}
use Rattle.text.specs.Text.{Text, Scalars, decode, chars, left, is_nil, well_formed, encodes}
use Rattle.text.proofs.EncodeLaws.{seq_char, seq_end_nil, seq_encode, encode_pos}

-- ---- a step
decode_skip : (k : ℕ) (s : List ℕ) → decode k s ≡ decode 0 (drop k s)
unfolding decode
decode_skip zero s = refl
decode_skip (suc k) [] = refl
decode_skip (suc k) (b ∷ s) = decode_skip k s

seq_nil : seq [] ≡ End
unfolding seq
seq_nil = refl

-- the text by what stands at its start
decode_char : (s : List ℕ) (c l : ℕ) → seq s ≡ Char c l → decode 0 s ≡ record { chars = c ∷ chars (drop l s); left = left (drop l s) }
unfolding decode chars left
decode_char [] c l e = let z : ◌≡◌ {A = ℕ} 0 1 = cc seq_nil in absurd (omega arith)
decode_char (b ∷ s) c zero e = absurd (omega (arith, encode_pos c, (seq_char (b ∷ s) c 0 e).size))
decode_char (b ∷ s) c (suc l) e = let m : suc l - 1 ≡ l = omega arith in rw (e, m, decode_skip l s)

decode_ill : (s : List ℕ) → seq s ≡ Ill → decode 0 s ≡ record { chars = []; left = s }
unfolding decode
decode_ill [] e = refl
decode_ill (b ∷ s) e = rw e

module _ (s : List ℕ) where
  module _ (c l : ℕ) (e : seq s ≡ Char c l) where
    pub chars_char : chars s ≡ c ∷ chars (drop l s)
    unfolding chars
    chars_char = ap (λ (t : Text). t.chars) (decode_char s c l e)

    pub left_char : left s ≡ left (drop l s)
    unfolding left
    left_char = ap (λ (t : Text). t.left) (decode_char s c l e)

  module _ (e : seq s ≡ Ill) where
    pub chars_ill : chars s ≡ []
    unfolding chars
    chars_ill = ap (λ (t : Text). t.chars) (decode_ill s e)

    pub left_ill : left s ≡ s
    unfolding left
    left_ill = ap (λ (t : Text). t.left) (decode_ill s e)

pub chars_nil : chars [] ≡ []
unfolding chars decode
chars_nil = refl

pub left_nil : left [] ≡ []
unfolding left decode
left_nil = refl

pub chars_end : (s : List ℕ) → seq s ≡ End → chars s ≡ []
chars_end s e = rw (seq_end_nil s e) chars_nil

-- a character's bytes in front of a text
module _ (c : ℕ) (s : List ℕ) (h : scalar c ≡ true) where
  pub chars_cons : chars (encode c ++ s) ≡ c ∷ chars s
  chars_cons = chars_char (encode c ++ s) c (length (encode c)) (seq_encode c s h) ∙ rw (drop-append_seam (encode c) s)

  pub left_cons : left (encode c ++ s) ≡ left s
  left_cons = left_char (encode c ++ s) c (length (encode c)) (seq_encode c s h) ∙ rw (drop-append_seam (encode c) s)

-- ---- every text is empty, begins ill-formed, or is a character's bytes and a text
module _ (P : List ℕ → Type 0) (nil : P []) (bad : (s : List ℕ) → seq s ≡ Ill → P s) (step : (c : ℕ) (s : List ℕ) → scalar c ≡ true → P s → P (encode c ++ s)) where
  text_within : (n : ℕ) (s : List ℕ) → length s ≤ n → P s
  text_within zero [] h = nil
  text_within zero (b ∷ s) h = absurd (omega arith)
  text_within (suc n) s h = by_seq (λ t. text_within n t) (seq s) refl
    where
      by_seq : ((t : List ℕ) → length t ≤ n → P t) → (q : Seq) → seq s ≡ q → P s
      by_seq ih End e = rw (seq_end_nil s e) nil
      by_seq ih Ill e = bad s e
      by_seq ih (Char c l) e =
          let i = seq_char s c l e in
          let shorter : length (drop l s) ≤ n = rw (length-drop l s) (omega (arith, encode_pos c, i.size)) in
          subst P (sym i.split) (step c (drop l s) i.is_scalar (ih (drop l s) shorter))

  pub by_text : (s : List ℕ) → P s
  by_text s = text_within (length s) s (omega arith)

-- ---- a text is its characters' bytes and what is left; the characters are scalar values
pub text_split : (s : List ℕ) → s ≡ encodes (chars s) ++ left s
unfolding encodes
text_split =
    by_text (λ s. s ≡ encodes (chars s) ++ left s)
    (rw (chars_nil, left_nil))
    (λ s e. rw (chars_ill s e, left_ill s e))
    (λ c s h ih. rw (chars_cons c s h, left_cons c s h, append_assoc) (ap (λ (t : List ℕ). encode c ++ t) ih))

pub chars_scalars : (s : List ℕ) → Scalars (chars s)
chars_scalars =
    by_text (λ s. Scalars (chars s))
    (rw chars_nil tt)
    (λ s e. rw (chars_ill s e) tt)
    (λ c s h ih. rw (chars_cons c s h) (h, ih))

-- what is left has no character in front
pub chars_left : (s : List ℕ) → chars (left s) ≡ []
chars_left =
    by_text (λ s. chars (left s) ≡ [])
    (rw left_nil chars_nil)
    (λ s e. rw (left_ill s e) (chars_ill s e))
    (λ c s h ih. rw (left_cons c s h) ih)

-- ---- texts one after the other
pub encodes_one : (c : ℕ) → encodes (c ∷ []) ≡ encode c
unfolding encodes
encodes_one c = append-nil (encode c)

pub encodes_append : (cs ds : List ℕ) → encodes (cs ++ ds) ≡ encodes cs ++ encodes ds
unfolding encodes
encodes_append [] ds = refl
encodes_append (c ∷ cs) ds = rw (encodes_append cs ds, append_assoc)

-- characters' bytes in front of a text
pub chars_encodes : (cs s : List ℕ) → Scalars cs → chars (encodes cs ++ s) ≡ cs ++ chars s
unfolding encodes
chars_encodes [] s h = refl
chars_encodes (c ∷ cs) s h = rw append_assoc (chars_cons c (encodes cs ++ s) h.0 ∙ ap (λ (t : List ℕ). c ∷ t) (chars_encodes cs s h.1))

pub left_encodes : (cs s : List ℕ) → Scalars cs → left (encodes cs ++ s) ≡ left s
unfolding encodes
left_encodes [] s h = refl
left_encodes (c ∷ cs) s h = rw append_assoc (left_cons c (encodes cs ++ s) h.0 ∙ left_encodes cs s h.1)

is_nil_lem : (s : List ℕ) → is_nil s ≡ true → s ≡ []
is_nil_lem [] e = refl
is_nil_lem (x ∷ s) e = absurd (true≢false (sym e))

module _ (s : List ℕ) (h : well_formed s ≡ true) where
  -- a well-formed text is its characters' bytes
  pub well_formed_split : s ≡ encodes (chars s)
  well_formed_split = text_split s ∙ ap (λ (t : List ℕ). encodes (chars s) ++ t) (is_nil_lem (left s) h) ∙ append-nil (encodes (chars s))

  pub chars_append : (t : List ℕ) → chars (s ++ t) ≡ chars s ++ chars t
  chars_append t = ap (λ (u : List ℕ). chars (u ++ t)) well_formed_split ∙ chars_encodes (chars s) t (chars_scalars s)

  pub left_append : (t : List ℕ) → left (s ++ t) ≡ left t
  left_append t = ap (λ (u : List ℕ). left (u ++ t)) well_formed_split ∙ left_encodes (chars s) t (chars_scalars s)

-- the bytes of scalar values are well-formed, and are those characters
module _ (cs : List ℕ) (h : Scalars cs) where
  pub encodes_chars : chars (encodes cs) ≡ cs
  encodes_chars = ap chars (sym (append-nil (encodes cs))) ∙ chars_encodes cs [] h ∙ rw (chars_nil, append-nil)

  pub encodes_well_formed : well_formed (encodes cs) ≡ true
  encodes_well_formed = ap well_formed (sym (append-nil (encodes cs))) ∙ ap is_nil (left_encodes cs [] h ∙ left_nil)

pub encodes_injective : (cs ds : List ℕ) → Scalars cs → Scalars ds → encodes cs ≡ encodes ds → cs ≡ ds
encodes_injective cs ds h k e = sym (encodes_chars cs h) ∙ ap chars e ∙ encodes_chars ds k

-- ---- some of the characters
pub scalars_take : (n : ℕ) (cs : List ℕ) → Scalars cs → Scalars (take n cs)
scalars_take zero cs h = tt
scalars_take (suc n) [] h = tt
scalars_take (suc n) (c ∷ cs) h = (h.0, scalars_take n cs h.1)

pub scalars_drop : (n : ℕ) (cs : List ℕ) → Scalars cs → Scalars (drop n cs)
scalars_drop zero cs h = h
scalars_drop (suc n) [] h = tt
scalars_drop (suc n) (c ∷ cs) h = scalars_drop n cs h.1

pub scalars_at : (n : ℕ) (cs : List ℕ) → Scalars cs → n < length cs → scalar (get_or cs n 0) ≡ true
scalars_at n [] h k = absurd (omega arith)
scalars_at zero (c ∷ cs) h k = h.0
scalars_at (suc n) (c ∷ cs) h k = scalars_at n cs h.1 (omega arith)
