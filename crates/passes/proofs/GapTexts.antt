-- The text of a gap is that of one gap character: of no two characters, and of no other one. So the texts of characters and of the same renamed are gaps alike.
-- In order: the bytes of a character; the text of a gap; texts of renamed characters.
use Prim.Native.Nat.{ℕ, ◌+◌, ◌*◌, ◌-◌, ◌/◌, ◌≤◌, ◌<◌}
use mathlib.Core.Path.{◌≡◌, refl, sym, ◌∙◌}
use mathlib.Core.Bool.{Bool, true, false, ◌&&◌, ◌||◌, cond, and-false, true≢false}
use mathlib.Core.List.{List, [], ◌∷◌, ◌++◌, map, append-nil, map-append}
use native.Mathlib.Omega.{arith}
use lib.Dec.{eqb, ltb}
use borrow.Author.Tests.{ltb-true, eq-eqb, eqb-true}
use Rattle.text.specs.Bytes.{same}
use Rattle.text.specs.Sequence.{encode, trail_byte}
use Rattle.text.specs.Text.{encodes, is_nil}
use Rattle.text.proofs.RowLaws.{and-true}
use Rattle.text.proofs.BytesLaws.{same_true, same_refl}
use Rattle.text.proofs.TextLaws.{encodes_append}
use Rattle.table.specs.Table.{Text}
use Rattle.passes.proofs.Alike.{gap_text}
use Rattle.passes.specs.Renaming.{gap_char}

-- ---- the bytes of a character

-- the four sizes of a character's bytes
by_size_lem : (c : ℕ) (P : List ℕ → Type 0) → (c < 0x80 → P (c ∷ [])) → (c < 0x800 → P ((0xC0 + c / 64) ∷ trail_byte c ∷ []))
    → (c < 0x10000 → P ((0xE0 + c / 64 / 64) ∷ trail_byte (c / 64) ∷ trail_byte c ∷ []))
    → P ((0xF0 + c / 64 / 64 / 64) ∷ trail_byte (c / 64 / 64) ∷ trail_byte (c / 64) ∷ trail_byte c ∷ []) → P (encode c)
unfolding encode
by_size_lem c P one two three four =
    by_test (ltb c 0x80) (λ e. one (ltb-true c 0x80 e)) (by_test (ltb c 0x800) (λ e. two (ltb-true c 0x800 e)) (by_test (ltb c 0x10000) (λ e. three (ltb-true c 0x10000 e)) four))
  where
    by_test : (t : Bool) {x y : List ℕ} → (t ≡ true → P x) → P y → P (cond t x y)
    by_test true f g = f refl
    by_test false f g = g

-- a text of three bytes that begins with a character is that character's
three_bytes : (c : ℕ) (s : List ℕ) (x y z : ℕ) → 0xE0 ≤ x → x < 0xF0 → encode c ++ s ≡ x ∷ y ∷ z ∷ []
    → (x ≡ 0xE0 + c / 64 / 64) × (y ≡ trail_byte (c / 64)) × (z ≡ trail_byte c) × (s ≡ [])
three_bytes c s x y z l g =
    by_size_lem c (λ bs. bs ++ s ≡ x ∷ y ∷ z ∷ [] → (x ≡ 0xE0 + c / 64 / 64) × (y ≡ trail_byte (c / 64)) × (z ≡ trail_byte c) × (s ≡ []))
    (λ h e. let q : c ≡ x = cc in absurd (omega arith))
    (λ h e. let q : 0xC0 + c / 64 ≡ x = cc in absurd (omega arith))
    (λ h e. (cc, cc, cc, cc))
    (λ e. let q : 0xF0 + c / 64 / 64 / 64 ≡ x = cc in absurd (omega arith))

same_bool : (a b : Bool) → (a ≡ true → b ≡ true) → (b ≡ true → a ≡ true) → a ≡ b
same_bool true b f g = sym (f refl)
same_bool false true f g = g refl
same_bool false false f g = refl

is_nil_lem : (s : List ℕ) → is_nil s ≡ true → s ≡ []
is_nil_lem [] e = refl
is_nil_lem (x ∷ s) e = absurd (true≢false (sym e))

-- ---- the text of a gap

-- g is a character of the three bytes x, y and z
same_char : (g x y z : ℕ) → encode g ≡ x ∷ y ∷ z ∷ [] → 0xE0 ≤ x → x < 0xF0 → (g ≡ 0x1000 * (x - 0xE0) + 0x40 * (y - 0x80) + (z - 0x80))
    → (c : ℕ) (s : List ℕ) → same (encode c ++ s) (encode g) ≡ eqb c g && is_nil s
same_char g x y z e l k is c s = same_bool _ _
    (λ h. let (p, q, r, n) = three_bytes c s x y z l k (same_true (encode c ++ s) (encode g) h ∙ e) in
    let i : c ≡ g = omega arith in
    rw (eq-eqb c g i, n))
    (λ h. let (p, q) = and-true (eqb c g) (is_nil s) h in
    rw (eqb-true c g p, is_nil_lem s q, append-nil (encode g)) (same_refl (encode g)))

gap_text_lem : (c : ℕ) (s : List ℕ) → gap_text (encode c ++ s) ≡ gap_char c && is_nil s
gap_text_lem c s =
    rw (same_char 0x96F6 0xE9 0x9B 0xB6 (unfold encode in refl) (omega arith) (omega arith) refl c s, same_char 0x3007 0xE3 0x80 0x87 (unfold encode in refl) (omega arith) (omega arith) refl c s)
    (go (eqb c 0x96F6) (eqb c 0x3007) (is_nil s))
  where
    go : (a b n : Bool) → (a && n) || (b && n) ≡ (a || b) && n
    go true b true = refl
    go true b false = and-false b
    go false b n = refl

not_nil : (c : ℕ) (s : List ℕ) → is_nil (encode c ++ s) ≡ false
not_nil c s = by_size_lem c (λ bs. is_nil (bs ++ s) ≡ false) (λ h. refl) (λ h. refl) (λ h. refl) refl

-- ---- the texts of characters, and of the same renamed
module _ (f : ℕ → ℕ) where
  abbrev pub Renamed : Text → Text → Type 0
  Renamed x x' = (c : ℕ) × (cs : List ℕ) × (x ≡ encodes (c ∷ cs)) × (x' ≡ encodes (map f (c ∷ cs))) × (gap_char (f c) ≡ gap_char c)

  pub in_a_row : (x x' y y' : Text) → Renamed x x' → Renamed y y' → Renamed (x ++ y) (x' ++ y')
  in_a_row x x' y y' (c, cs, p, p', g) (d, ds, q, q', _) =
      (c, cs ++ (d ∷ ds), rw (p, q) (sym (encodes_append (c ∷ cs) (d ∷ ds))), rw (p', q', map-append f cs (d ∷ ds)) (sym (encodes_append (f c ∷ map f cs) (f d ∷ map f ds))), g)

  nil_renamed : (cs : List ℕ) → is_nil (encodes (map f cs)) ≡ is_nil (encodes cs)
  unfolding encodes
  nil_renamed [] = refl
  nil_renamed (c ∷ cs) = rw (not_nil (f c) (encodes (map f cs)), not_nil c (encodes cs))

  pub gaps_renamed : (x x' : Text) → Renamed x x' → gap_text x' ≡ gap_text x
  unfolding encodes
  gaps_renamed x x' (c, cs, p, p', g) = rw (p, p', gap_text_lem c (encodes cs), gap_text_lem (f c) (encodes (map f cs)), nil_renamed cs, g)

pub one_char : (c : ℕ) → encode c ≡ encodes (c ∷ [])
unfolding encodes
one_char c = sym (append-nil (encode c))
