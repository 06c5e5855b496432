-- Encoding and decoding agree: what `seq` reads as c is `encode c`, of a scalar value c, and the bytes of a scalar value are read as it.
-- In order: the bytes of a code point by its size; what `seq` reads is an encoding; `seq` reads every encoding.
use mathlib.Core.Path.{◌≡◌, refl, ap, ◌∙◌, subst}
use mathlib.Core.Bool.{true}
use mathlib.Core.List.{List, [], ◌∷◌, ◌++◌}
use mathlib.Core.Logic.{◌⊎◌, inl, inr, ⊎_elim}
use Prim.Native.Nat.{ℕ, zero, suc, ◌+◌, ◌/◌, ◌%◌, ◌≤◌, ◌<◌}
use native.Mathlib.Omega.{arith}
use lib.ListN.{length, drop, length-append}
use lib.Seq.{append_snoc, drop-append_seam}
use lib.Dec.{ltb}
use borrow.Author.Tests.{le-leb, lt-leb, lt-ltb, le-ltb, ltb-true, ltb-false}
use Rattle.text.specs.declared.Row.{Row}
use Rattle.text.specs.declared.Seq.{Seq}
use Rattle.text.specs.declared.Seq.TheVariants.{Char, Ill, End}
use Rattle.text.specs.Table.{row, row_of, within, trail, six}
use Rattle.text.specs.Sequence.{trailing, by_size, seq, scalar, encode, trail_byte}
use Rattle.text.proofs.RowLaws.{cond_cases, or-true, within_is, is_within, row_at, by_row, by_three, by_four}

-- ---- the bytes of a code point, by its size
module _ (c : ℕ) where
  pub by_size_lem : (P : List ℕ → Type 0) → (c < 0x80 → P (c ∷ [])) → (0x80 ≤ c → c < 0x800 → P ((0xC0 + c / 64) ∷ trail_byte c ∷ []))
      → (0x800 ≤ c → c < 0x10000 → P ((0xE0 + c / 64 / 64) ∷ trail_byte (c / 64) ∷ trail_byte c ∷ []))
      → (0x10000 ≤ c → P ((0xF0 + c / 64 / 64 / 64) ∷ trail_byte (c / 64 / 64) ∷ trail_byte (c / 64) ∷ trail_byte c ∷ []))
      → P (encode c)
  unfolding encode
  by_size_lem P one two three four =
      cond_cases P (ltb c 0x80) (λ t. one (ltb-true c 0x80 t))
      (λ f. cond_cases P (ltb c 0x800) (λ t. two (ltb-false c 0x80 f) (ltb-true c 0x800 t))
      (λ f. cond_cases P (ltb c 0x10000) (λ t. three (ltb-false c 0x800 f) (ltb-true c 0x10000 t)) (λ f. four (ltb-false c 0x10000 f))))

  encode_one : c < 0x80 → encode c ≡ c ∷ []
  unfolding encode
  encode_one h = simp (lt-ltb c 0x80 h)

  encode_two : 0x80 ≤ c → c < 0x800 → encode c ≡ (0xC0 + c / 64) ∷ trail_byte c ∷ []
  unfolding encode
  encode_two h k = simp (le-ltb c 0x80 h, lt-ltb c 0x800 k)

  encode_three : 0x800 ≤ c → c < 0x10000 → encode c ≡ (0xE0 + c / 64 / 64) ∷ trail_byte (c / 64) ∷ trail_byte c ∷ []
  unfolding encode
  encode_three h k = simp (le-ltb c 0x80 (omega arith), le-ltb c 0x800 h, lt-ltb c 0x10000 k)

  encode_four : 0x10000 ≤ c → encode c ≡ (0xF0 + c / 64 / 64 / 64) ∷ trail_byte (c / 64 / 64) ∷ trail_byte (c / 64) ∷ trail_byte c ∷ []
  unfolding encode
  encode_four h = simp (le-ltb c 0x80 (omega arith), le-ltb c 0x800 (omega arith), le-ltb c 0x10000 h)

  scalar_low : c ≤ 0xD7FF → scalar c ≡ true
  scalar_low h = simp (is_within 0 0xD7FF c (omega arith) h)

  scalar_high : 0xE000 ≤ c → c ≤ 0x10FFFF → scalar c ≡ true
  scalar_high h k = simp (le-leb 0 c (omega arith), lt-leb c 0xD7FF (omega arith), is_within 0xE000 0x10FFFF c h k)

-- ---- what is read at the start of s: a character's own bytes
pub record IsChar (s : List ℕ) (c l : ℕ) : Type 0 where
  pub split : s ≡ encode c ++ drop l s
  pub size : length (encode c) ≡ l
  pub is_scalar : scalar c ≡ true

data Sound (s : List ℕ) : Seq → Type 0 where
  char : {c l : ℕ} → IsChar s c l → Sound s (Char c l)
  ill : Sound s Ill
  end : s ≡ [] → Sound s End

-- n bytes more, the first from lo to hi, complete the bytes bs with the bits c to those of a scalar value
abbrev Good : ℕ → ℕ → ℕ → ℕ → List ℕ → Type 0
Good zero lo hi c bs = (encode c ≡ bs) × (scalar c ≡ true)
Good (suc n) lo hi c bs = (x : ℕ) → lo ≤ x → x ≤ hi → Good n 0x80 0xBF (six c x) (bs ++ (x ∷ []))

trailing_sound : (n lo hi c : ℕ) (bs s : List ℕ) → Good n lo hi c bs → Sound (bs ++ s) (trailing n lo hi c (length bs) s)
unfolding trailing
trailing_sound zero lo hi c bs s g = char {c = c} {l = length bs} (record { split = rw (drop-append_seam bs s, g.0); size = ap length g.0; is_scalar = g.1 })
trailing_sound (suc n) lo hi c bs [] g = ill
trailing_sound (suc n) lo hi c bs (x ∷ s) g =
    cond_cases (Sound (bs ++ x ∷ s)) (within lo hi x)
    (λ t. let h = within_is lo hi x t in
    let r = trailing_sound n 0x80 0xBF (six c x) (bs ++ (x ∷ [])) s (g x h.0 h.1) in
    rw (append_snoc bs x s, length-append) at r)
    (λ t. ill)

module _ (b x y z : ℕ) where
  two_bytes : 0xC2 ≤ b → b ≤ 0xDF → 0x80 ≤ x → x ≤ 0xBF → encode (six (b % 32) x) ≡ b ∷ x ∷ []
  two_bytes h1 h2 h3 h4 =
      let c : ℕ = six (b % 32) x in
      let p : 0xC0 + c / 64 ≡ b = omega arith in
      let q : trail_byte c ≡ x = omega arith in
      encode_two c (omega arith) (omega arith) ∙ cc

  three_bytes : 0xE0 ≤ b → b ≤ 0xEF → 0x80 ≤ x → x ≤ 0xBF → 0x80 ≤ y → y ≤ 0xBF → 0x800 ≤ six (six (b % 16) x) y → encode (six (six (b % 16) x) y) ≡ b ∷ x ∷ y ∷ []
  three_bytes h1 h2 h3 h4 h5 h6 long =
      let c : ℕ = six (six (b % 16) x) y in
      let p : 0xE0 + c / 64 / 64 ≡ b = omega arith in
      let q : trail_byte (c / 64) ≡ x = omega arith in
      let r : trail_byte c ≡ y = omega arith in
      encode_three c long (omega arith) ∙ cc

  four_bytes : 0xF0 ≤ b → b ≤ 0xF4 → 0x80 ≤ x → x ≤ 0xBF → 0x80 ≤ y → y ≤ 0xBF → 0x80 ≤ z → z ≤ 0xBF → 0x10000 ≤ six (six (six (b % 8) x) y) z
      → encode (six (six (six (b % 8) x) y) z) ≡ b ∷ x ∷ y ∷ z ∷ []
  four_bytes h1 h2 h3 h4 h5 h6 h7 h8 long =
      let c : ℕ = six (six (six (b % 8) x) y) z in
      let p : 0xF0 + c / 64 / 64 / 64 ≡ b = omega arith in
      let q : trail_byte (c / 64 / 64) ≡ x = omega arith in
      let r : trail_byte (c / 64) ≡ y = omega arith in
      let t : trail_byte c ≡ z = omega arith in
      encode_four c long ∙ cc

-- the rows of three and of four bytes, by what their limits rule out: overlong forms, surrogates and what is above 0x10FFFF
module _ (b lo hi : ℕ) (s : List ℕ) where
  three_sound : (0xE0 ≤ b) × (b ≤ 0xEF) × (0x80 ≤ lo) × (hi ≤ 0xBF)
      → ((x y : ℕ) → lo ≤ x → x ≤ hi → 0x80 ≤ y → y ≤ 0xBF → let c = six (six (b % 16) x) y in (0x800 ≤ c) × (scalar c ≡ true))
      → Sound (b ∷ s) (trailing 2 lo hi (b % 16) 1 s)
  three_sound h f =
      trailing_sound 2 lo hi (b % 16) (b ∷ []) s
      (λ x p q y r t. let g = f x y p q r t in (three_bytes b x y 0 h.0 h.1 (omega arith) (omega arith) r t g.0, g.1))

  four_sound : (0xF0 ≤ b) × (b ≤ 0xF4) × (0x80 ≤ lo) × (hi ≤ 0xBF)
      → ((x y z : ℕ) → lo ≤ x → x ≤ hi → 0x80 ≤ y → y ≤ 0xBF → 0x80 ≤ z → z ≤ 0xBF
      → let c = six (six (six (b % 8) x) y) z in (0x10000 ≤ c) × (c ≤ 0x10FFFF))
      → Sound (b ∷ s) (trailing 3 lo hi (b % 8) 1 s)
  four_sound h f =
      trailing_sound 3 lo hi (b % 8) (b ∷ []) s
      (λ x p q y r t z u v. let g = f x y z p q r t u v in
      (four_bytes b x y z h.0 h.1 (omega arith) (omega arith) r t u v g.0, scalar_high (six (six (six (b % 8) x) y) z) (omega arith) g.1))

seq_sound : (s : List ℕ) → Sound s (seq s)
unfolding seq by_size
seq_sound [] = end refl
seq_sound (b ∷ s) =
    by_row b (λ r. Sound (b ∷ s) (by_size r.0 r.1 r.2 b s))
    (λ h. trailing_sound 0 0 0 b (b ∷ []) s (encode_one b (omega arith), scalar_low b (omega arith)))
    (λ h k. trailing_sound 1 0x80 0xBF (b % 32) (b ∷ []) s (λ x p q. (two_bytes b x 0 0 h k p q, scalar_low (six (b % 32) x) (omega arith))))
    (λ e. three_sound b 0xA0 0xBF s (omega arith) (λ x y p q r t. (omega arith, scalar_low (six (six (b % 16) x) y) (omega arith))))
    (λ h k. three_sound b 0x80 0xBF s (omega arith) (λ x y p q r t. (omega arith, scalar_low (six (six (b % 16) x) y) (omega arith))))
    (λ e. three_sound b 0x80 0x9F s (omega arith) (λ x y p q r t. (omega arith, scalar_low (six (six (b % 16) x) y) (omega arith))))
    (λ h k. three_sound b 0x80 0xBF s (omega arith)
    (λ x y p q r t. (omega arith, scalar_high (six (six (b % 16) x) y) (omega arith) (omega arith))))
    (λ e. four_sound b 0x90 0xBF s (omega arith) (λ x y z p q r t u v. (omega arith, omega arith)))
    (λ h k. four_sound b 0x80 0xBF s (omega arith) (λ x y z p q r t u v. (omega arith, omega arith)))
    (λ e. four_sound b 0x80 0x8F s (omega arith) (λ x y z p q r t u v. (omega arith, omega arith)))
    (λ h k. ill)

-- the same for each answer of `seq`
module _ (s : List ℕ) where
  pub seq_char : (c l : ℕ) → seq s ≡ Char c l → IsChar s c l
  seq_char c l e = is_char (subst (Sound s) e (seq_sound s))
    where
      is_char : Sound s (Char c l) → IsChar s c l
      is_char (char h) = h

  pub seq_end_nil : seq s ≡ End → s ≡ []
  seq_end_nil e = is_end (subst (Sound s) e (seq_sound s))
    where
      is_end : Sound s End → s ≡ []
      is_end (end h) = h

-- ---- the bytes of a scalar value are read as it
scalar_is : (c : ℕ) → scalar c ≡ true → (c ≤ 0xD7FF) ⊎ ((0xE000 ≤ c) × (c ≤ 0x10FFFF))
scalar_is c e = ⊎_elim (λ p. inl (within_is 0 0xD7FF c p).1) (λ q. inr (within_is 0xE000 0x10FFFF c q)) (or-true (within 0 0xD7FF c) _ e)

scalar_top : (c : ℕ) → scalar c ≡ true → c ≤ 0x10FFFF
scalar_top c e = ⊎_elim (λ l. omega arith) (λ g. g.1) (scalar_is c e)

six_back : (c : ℕ) → six (c / 64) (trail_byte c) ≡ c
six_back c = omega arith

is_trail : (c : ℕ) → trail (trail_byte c) ≡ true
is_trail c = is_within 0x80 0xBF (trail_byte c) (omega arith) (omega arith)

module _ (c : ℕ) (s : List ℕ) where
  read_two : c < 0x800 → trailing 1 0x80 0xBF ((0xC0 + c / 64) % 32) 1 (trail_byte c ∷ s) ≡ Char c 2
  unfolding trailing
  read_two h =
      let e : (0xC0 + c / 64) % 32 ≡ c / 64 = omega arith in
      rw (is_trail c, e, six_back c)

  module _ (lo hi : ℕ) where
    read_three : c < 0x10000 → lo ≤ trail_byte (c / 64) → trail_byte (c / 64) ≤ hi
        → trailing 2 lo hi ((0xE0 + c / 64 / 64) % 16) 1 (trail_byte (c / 64) ∷ trail_byte c ∷ s) ≡ Char c 3
    unfolding trailing
    read_three h l g =
        let e : (0xE0 + c / 64 / 64) % 16 ≡ c / 64 / 64 = omega arith in
        rw (is_within lo hi (trail_byte (c / 64)) l g, is_trail c, e, six_back (c / 64), six_back c)

    read_four : c ≤ 0x10FFFF → lo ≤ trail_byte (c / 64 / 64) → trail_byte (c / 64 / 64) ≤ hi
        → trailing 3 lo hi ((0xF0 + c / 64 / 64 / 64) % 8) 1 (trail_byte (c / 64 / 64) ∷ trail_byte (c / 64) ∷ trail_byte c ∷ s) ≡ Char c 4
    unfolding trailing
    read_four h l g =
        let e : (0xF0 + c / 64 / 64 / 64) % 8 ≡ c / 64 / 64 / 64 = omega arith in
        rw (is_within lo hi (trail_byte (c / 64 / 64)) l g, is_trail (c / 64), is_trail c, e, six_back (c / 64 / 64), six_back (c / 64), six_back c)

  -- the lead byte b and the bytes t behind it are read as c
  abbrev ReadAs : ℕ → List ℕ → ℕ → Row → Type 0
  ReadAs b t n r = by_size r.0 r.1 r.2 b t ≡ Char c n

  lead_three : 0x800 ≤ c → c < 0x10000 → scalar c ≡ true
      → ReadAs (0xE0 + c / 64 / 64) (trail_byte (c / 64) ∷ trail_byte c ∷ s) 3 (row_of (0xE0 + c / 64 / 64))
  unfolding by_size
  lead_three h k sc =
      by_three (0xE0 + c / 64 / 64) (ReadAs (0xE0 + c / 64 / 64) (trail_byte (c / 64) ∷ trail_byte c ∷ s) 3) (omega arith) (omega arith)
      (λ e. read_three 0xA0 0xBF k (omega arith) (omega arith))
      (λ l g. read_three 0x80 0xBF k (omega arith) (omega arith))
      (λ e. read_three 0x80 0x9F k (omega arith) (⊎_elim (λ l. omega arith) (λ g. omega arith) (scalar_is c sc)))
      (λ l g. read_three 0x80 0xBF k (omega arith) (omega arith))

  lead_four : 0x10000 ≤ c → c ≤ 0x10FFFF
      → ReadAs (0xF0 + c / 64 / 64 / 64) (trail_byte (c / 64 / 64) ∷ trail_byte (c / 64) ∷ trail_byte c ∷ s) 4 (row_of (0xF0 + c / 64 / 64 / 64))
  unfolding by_size
  lead_four h k =
      by_four (0xF0 + c / 64 / 64 / 64) (ReadAs (0xF0 + c / 64 / 64 / 64) (trail_byte (c / 64 / 64) ∷ trail_byte (c / 64) ∷ trail_byte c ∷ s) 4) (omega arith) (omega arith)
      (λ e. read_four 0x90 0xBF k (omega arith) (omega arith))
      (λ l g. read_four 0x80 0xBF k (omega arith) (omega arith))
      (λ e. read_four 0x80 0x8F k (omega arith) (omega arith))

  pub seq_encode : scalar c ≡ true → seq (encode c ++ s) ≡ Char c (length (encode c))
  unfolding seq by_size row_of
  seq_encode sc =
      by_size_lem c (λ bs. seq (bs ++ s) ≡ Char c (length bs))
      (λ h. rw (← row_at 0 0x80 (row 1 0 0) tt c (omega arith) h))
      (λ h k. rw (← row_at 0xC2 30 (row 2 0x80 0xBF) tt (0xC0 + c / 64) (omega arith) (omega arith)) (read_two k))
      (λ h k. lead_three h k sc)
      (λ h. lead_four h (scalar_top c sc))

pub encode_pos : (c : ℕ) → 1 ≤ length (encode c)
encode_pos c = by_size_lem c (λ bs. 1 ≤ length bs) (λ h. omega arith) (λ h k. omega arith) (λ h k. omega arith) (λ h. omega arith)
