-- Laws of bytes as they count (`specs/Marks.antt`), for this crate's proofs.
-- In order: the bytes in front; the byte that counts at an offset; a walk over line and marker; the bytes of characters count as those that the characters count as; the last byte of a text. Assumes nothing.
use mathlib.Core.Path.{◌≡◌, refl, sym, ap, ◌∙◌}
use mathlib.Core.Bool.{Bool, true, false, ◌&&◌, ◌||◌, true≢false}
use mathlib.Core.Logic.{⊎_elim}
use mathlib.Core.List.{List, [], ◌∷◌, ◌++◌}
use Prim.Native.Nat.{ℕ, suc, ◌+◌, ◌*◌, ◌-◌, ◌/◌, ◌%◌, ◌≤◌, ◌<◌}
use native.Mathlib.Omega.{arith}
use lib.ListN.{length, drop, get_or, length-drop, drop_of_length-le}
use lib.Dec.{leb, ltb, eqb}
use borrow.Author.Tests.{le-leb, lt-ltb, le-ltb, leb-true, eqb-true, eqb-false, eq-eqb, ne_eqb}
use Rattle.text.specs.Bytes.{same}
use Rattle.text.specs.Table.{within}
use Rattle.text.specs.Sequence.{scalar, encode, trail_byte}
use Rattle.text.specs.Text.{encodes, Scalars}
use Rattle.text.proofs.RowLaws.{cond_cases, or-true, within_is}
use Rattle.text.proofs.EncodeLaws.{by_size_lem}
use Rattle.text.proofs.SequenceLaws.{drop_at}
use Rattle.numbers.specs.Folded.{is_wide, fold, folded}
use Rattle.numbers.proofs.FoldLaws.{by_width, fold_low}
use Rattle.markers.specs.Marks.{wide_bytes, folded_bytes, begins, bytes_at}

-- ---- the bytes in front
not_wide : (a b c : ℕ) → (a ≡ 0xEF → 12161 ≤ b * 64 + c → b * 64 + c ≤ 12254 → ⊥) → wide_bytes a b c ≡ false
not_wide a b c n = go (eqb a 0xEF) (leb 12161 (b * 64 + c)) (leb (b * 64 + c) 12254) refl refl refl
  where
    go : (x y z : Bool) → eqb a 0xEF ≡ x → leb 12161 (b * 64 + c) ≡ y → leb (b * 64 + c) 12254 ≡ z → (x && (y && z)) ≡ false
    go false y z e f g = refl
    go true false z e f g = refl
    go true true false e f g = refl
    go true true true e f g = absurd (n (eqb-true a 0xEF e) (leb-true 12161 (b * 64 + c) f) (leb-true (b * 64 + c) 12254 g))

front : (a b c : ℕ) (s : List ℕ) → wide_bytes a b c ≡ false → folded_bytes (a ∷ b ∷ c ∷ s) ≡ a ∷ folded_bytes (b ∷ c ∷ s)
unfolding folded_bytes
front a b c s e = rw e

front_wide : (b c : ℕ) (s : List ℕ) → 12161 ≤ b * 64 + c → b * 64 + c ≤ 12254 → folded_bytes (0xEF ∷ b ∷ c ∷ s) ≡ (b * 64 + c - 12128) ∷ folded_bytes s
unfolding folded_bytes
front_wide b c s h k = rw (le-leb 12161 (b * 64 + c) h, le-leb (b * 64 + c) 12254 k)

front_other : (a : ℕ) (s : List ℕ) → (a ≡ 0xEF → ⊥) → folded_bytes (a ∷ s) ≡ a ∷ folded_bytes s
unfolding folded_bytes
front_other a [] n = refl
front_other a (b ∷ []) n = refl
front_other a (b ∷ c ∷ s) n = front a b c s (not_wide a b c (λ e h k. n e))

front_short : (a : ℕ) (s : List ℕ) → length s < 2 → folded_bytes (a ∷ s) ≡ a ∷ folded_bytes s
unfolding folded_bytes
front_short a [] h = refl
front_short a (b ∷ []) h = refl
front_short a (b ∷ c ∷ s) h = absurd (omega arith)

-- ---- the byte that counts at an offset
module _ (s : List ℕ) (at : ℕ) where
  three_at : at + 2 < length s → drop at s ≡ get_or s at 0 ∷ get_or s (at + 1) 0 ∷ get_or s (at + 2) 0 ∷ drop (at + 3) s
  three_at h =
      let e : at + 1 + 1 ≡ at + 2 = omega arith in
      let f : at + 2 + 1 ≡ at + 3 = omega arith in
      drop_at s at (omega arith) ∙ rw (drop_at s (at + 1) (omega arith), e, drop_at s (at + 2) h, f)

  two_behind : at + 2 < length s → drop (at + 1) s ≡ get_or s (at + 1) 0 ∷ get_or s (at + 2) 0 ∷ drop (at + 3) s
  two_behind h =
      let e : at + 1 + 1 ≡ at + 2 = omega arith in
      let f : at + 2 + 1 ≡ at + 3 = omega arith in
      rw (drop_at s (at + 1) (omega arith), e, drop_at s (at + 2) h, f)

  -- the byte b and what is behind n bytes
  abbrev pub Counts : ℕ → ℕ → Type 0
  Counts b n = (0 < n) × (at + n ≤ length s) × (folded_bytes (drop at s) ≡ b ∷ folded_bytes (drop (at + n) s))

  module _ (h : at < length s) where
    pub counts_other : (get_or s at 0 ≡ 0xEF → ⊥) → Counts (get_or s at 0) 1
    counts_other n = (omega arith, omega arith, rw (drop_at s at h) (front_other (get_or s at 0) (drop (at + 1) s) n))

    pub counts_short : length s - at < 3 → Counts (get_or s at 0) 1
    counts_short k = (omega arith, omega arith, rw (drop_at s at h) (front_short (get_or s at 0) (drop (at + 1) s) (rw length-drop (omega arith))))

  module _ (h : 3 ≤ length s - at) {code : ℕ} (e : code ≡ get_or s (at + 1) 0 * 64 + get_or s (at + 2) 0) where
    pub counts_outside : (12161 ≤ code → code ≤ 12254 → ⊥) → Counts (get_or s at 0) 1
    counts_outside n = (
      omega arith,
      omega arith,
      rw (three_at (omega arith), two_behind (omega arith))
          (front (get_or s at 0) (get_or s (at + 1) 0) (get_or s (at + 2) 0) (drop (at + 3) s) (not_wide (get_or s at 0) (get_or s (at + 1) 0) (get_or s (at + 2) 0) (λ x a b. n (omega arith) (omega arith)))),
    )

    pub counts_wide : get_or s at 0 ≡ 0xEF → 12161 ≤ code → code ≤ 12254 → Counts (code - 12128) 3
    counts_wide x a b = (
      omega arith,
      omega arith,
      rw (three_at (omega arith), x, e) (front_wide (get_or s (at + 1) 0) (get_or s (at + 2) 0) (drop (at + 3) s) (omega arith) (omega arith)),
    )

-- a test that neither of two bytes begins a wide character
pub neither_leads : (a b : ℕ) → (eqb a 0xEF || eqb b 0xEF) ≡ false → (a ≡ 0xEF → ⊥) × (b ≡ 0xEF → ⊥)
neither_leads a b e = go (eqb a 0xEF) (eqb b 0xEF) (eqb-false a 0xEF) (eqb-false b 0xEF) e
  where
    go : (x y : Bool) → (x ≡ false → a ≡ 0xEF → ⊥) → (y ≡ false → b ≡ 0xEF → ⊥) → (x || y) ≡ false → (a ≡ 0xEF → ⊥) × (b ≡ 0xEF → ⊥)
    go false false f g h = (f refl, g refl)
    go false true f g h = absurd (true≢false h)
    go true y f g h = absurd (true≢false h)

-- ---- a walk over the line from the offset at on and over m, which are at the offsets here and next: what is left of both says whether m stands
no_bytes : (s : List ℕ) → 0 < length s → false ≡ begins [] (folded_bytes s)
unfolding folded_bytes same
no_bytes [] h = absurd (omega arith)
no_bytes (a ∷ []) h = refl
no_bytes (a ∷ b ∷ []) h = refl
no_bytes (a ∷ b ∷ c ∷ s) h = cond_cases (λ (x : List ℕ). false ≡ begins [] x) (wide_bytes a b c) (λ e. refl) (λ e. refl)

module _ (line : List ℕ) (at : ℕ) (m : List ℕ) where
  pub record Walk (here next : ℕ) : Type 0 where
    pub in_line : here ≤ length line
    pub in_mark : next ≤ length m
    pub says : begins (folded_bytes (drop here line)) (folded_bytes (drop next m)) ≡ bytes_at line at m

  pub walk_starts : at ≤ length line → Walk at 0
  walk_starts h = record { in_line = h; in_mark = omega arith; says = refl }

  module _ (here next : ℕ) (w : Walk here next) where
    pub walk_short : length line ≤ here → next < length m → false ≡ bytes_at line at m
    unfolding folded_bytes
    walk_short h k =
        no_bytes (drop next m) (rw length-drop (omega arith))
        ∙ ap (λ (x : List ℕ). begins (folded_bytes x) (folded_bytes (drop next m))) (sym (drop_of_length-le line h)) ∙ w.says

    pub walk_ends : length m ≤ next → true ≡ bytes_at line at m
    unfolding folded_bytes same
    walk_ends h = ap (λ (x : List ℕ). begins (folded_bytes (drop here line)) (folded_bytes x)) (sym (drop_of_length-le m h)) ∙ w.says

    module _ {x k y n : ℕ} (f : Counts line here x k) (g : Counts m next y n) where
      both_next : eqb x y && begins (folded_bytes (drop (here + k) line)) (folded_bytes (drop (next + n) m)) ≡ bytes_at line at m
      unfolding same
      both_next = rw (f.2, g.2) at w.says

      pub walk_differs : (x ≡ y → ⊥) → false ≡ bytes_at line at m
      walk_differs d = rw (ne_eqb x y d) at both_next

      pub walk_turns : x ≡ y → Walk (here + k) (next + n)
      walk_turns e = record { in_line = f.1; in_mark = g.1; says = rw (eq-eqb x y e) at both_next }

-- ---- characters: their bytes, as they count, are the bytes of those that they count as
module _ (c : ℕ) where
  -- the byte that holds six bits is no first byte
  trail_front : (s : List ℕ) → folded_bytes (trail_byte c ∷ s) ≡ trail_byte c ∷ folded_bytes s
  trail_front s = front_other (trail_byte c) s (λ e. omega arith)

module _ (c : ℕ) (s : List ℕ) where
  narrow_three : 0x800 ≤ c → c < 0x10000 → (0xFF01 ≤ c → c ≤ 0xFF5E → ⊥)
      → folded_bytes ((0xE0 + c / 64 / 64) ∷ trail_byte (c / 64) ∷ trail_byte c ∷ s) ≡ (0xE0 + c / 64 / 64) ∷ trail_byte (c / 64) ∷ trail_byte c ∷ folded_bytes s
  narrow_three h k n =
      front (0xE0 + c / 64 / 64) (trail_byte (c / 64)) (trail_byte c) s (not_wide (0xE0 + c / 64 / 64) (trail_byte (c / 64)) (trail_byte c) (λ e a b. n (omega arith) (omega arith)))
      ∙ ap (λ (x : List ℕ). (0xE0 + c / 64 / 64) ∷ x) (trail_front (c / 64) (trail_byte c ∷ s) ∙ ap (λ (x : List ℕ). trail_byte (c / 64) ∷ x) (trail_front c s))

  narrow_char : c ≤ 0x10FFFF → (0xFF01 ≤ c → c ≤ 0xFF5E → ⊥) → folded_bytes (encode c ++ s) ≡ encode c ++ folded_bytes s
  narrow_char t n =
      by_size_lem c (λ bs. folded_bytes (bs ++ s) ≡ bs ++ folded_bytes s)
      (λ h. front_other c s (λ e. omega arith))
      (λ h k. front_other (0xC0 + c / 64) (trail_byte c ∷ s) (λ e. omega arith) ∙ ap (λ (x : List ℕ). (0xC0 + c / 64) ∷ x) (trail_front c s))
      (λ h k. narrow_three h k n)
      (λ h.
      front_other (0xF0 + c / 64 / 64 / 64) (trail_byte (c / 64 / 64) ∷ trail_byte (c / 64) ∷ trail_byte c ∷ s) (λ e. omega arith)
      ∙ ap (λ (x : List ℕ). (0xF0 + c / 64 / 64 / 64) ∷ x)
      (trail_front (c / 64 / 64) (trail_byte (c / 64) ∷ trail_byte c ∷ s)
      ∙ ap (λ (x : List ℕ). trail_byte (c / 64 / 64) ∷ x) (trail_front (c / 64) (trail_byte c ∷ s) ∙ ap (λ (x : List ℕ). trail_byte (c / 64) ∷ x) (trail_front c s))))

  wide_char : 0xFF01 ≤ c → c ≤ 0xFF5E → folded_bytes (encode c ++ s) ≡ encode (c - 0xFEE0) ++ folded_bytes s
  unfolding encode
  wide_char h k =
      let one : ltb (c - 0xFEE0) 0x80 ≡ true = lt-ltb (c - 0xFEE0) 0x80 (omega arith) in
      let lead : 0xE0 + c / 64 / 64 ≡ 0xEF = omega arith in
      let code : trail_byte (c / 64) * 64 + trail_byte c - 12128 ≡ c - 0xFEE0 = omega arith in
      rw (one, le-ltb c 0x80 (omega arith), le-ltb c 0x800 (omega arith), lt-ltb c 0x10000 (omega arith), lead)
      (front_wide (trail_byte (c / 64)) (trail_byte c) s (omega arith) (omega arith) ∙ rw code)

pub folded_encodes : (cs : List ℕ) → Scalars cs → folded_bytes (encodes cs) ≡ encodes (folded cs)
unfolding encodes folded_bytes
folded_encodes [] h = refl
folded_encodes (c ∷ cs) h =
    by_width c (λ x. folded_bytes (encode c ++ encodes cs) ≡ encode x ++ folded_bytes (encodes cs)) (wide_char c (encodes cs))
    (λ e. narrow_char c (encodes cs) (scalar_top c h.0) (not_between c e))
    ∙ ap (λ (x : List ℕ). encode (fold c) ++ x) (folded_encodes cs h.1)
  where
    scalar_top : (c : ℕ) → scalar c ≡ true → c ≤ 0x10FFFF
    scalar_top c e = ⊎_elim (λ p. omega (arith, within_is 0 0xD7FF c p)) (λ q. (within_is 0xE000 0x10FFFF c q).1) (or-true (within 0 0xD7FF c) _ e)

    not_between : (c : ℕ) → is_wide c ≡ false → 0xFF01 ≤ c → c ≤ 0xFF5E → ⊥
    not_between c e h k = true≢false (sym (rw (le-leb 0xFF01 c h, le-leb c 0xFF5E k)) ∙ e)

-- ---- the last byte of a text, or d where it has none: its lowest five bits are those of its last character, and of what that counts as
abbrev pub last_of : ℕ → List ℕ → ℕ
last_of d [] = d
last_of d (b ∷ s) = last_of b s

pub last_at : (s : List ℕ) → get_or s (length s - 1) 0 ≡ last_of 0 s
last_at [] = refl
last_at (b ∷ s) = ap (λ (i : ℕ). get_or (b ∷ s) i 0) (sub_one (length s)) ∙ go b s
  where
    sub_one : (n : ℕ) → suc n - 1 ≡ n
    sub_one n = omega arith

    go : (b : ℕ) (s : List ℕ) → get_or (b ∷ s) (length s) 0 ≡ last_of b s
    go b [] = refl
    go b (c ∷ s) = go c s

last_append : (d : ℕ) (s t : List ℕ) → last_of d (s ++ t) ≡ last_of (last_of d s) t
last_append d [] t = refl
last_append d (b ∷ s) t = last_append b s t

low_encode : (d c : ℕ) → last_of d (encode c) % 32 ≡ c % 32
low_encode d c = by_size_lem c (λ bs. last_of d bs % 32 ≡ c % 32) (λ h. refl) (λ h k. omega arith) (λ h k. omega arith) (λ h. omega arith)

pub low_counts : (cs ds : List ℕ) → folded cs ≡ folded ds → (a b : ℕ) → a % 32 ≡ b % 32 → last_of a (encodes cs) % 32 ≡ last_of b (encodes ds) % 32
unfolding encodes
low_counts [] [] e a b h = h
low_counts [] (d ∷ ds) e a b h = absurd (omega (arith, ap length e))
low_counts (c ∷ cs) [] e a b h = absurd (omega (arith, ap length e))
low_counts (c ∷ cs) (d ∷ ds) e a b h =
    let q : fold c ≡ fold d = cc in
    let r : folded cs ≡ folded ds = cc in
    let k : last_of a (encode c) % 32 ≡ last_of b (encode d) % 32 = low_encode a c ∙ sym (fold_low c) ∙ ap (λ (x : ℕ). x % 32) q ∙ fold_low d ∙ sym (low_encode b d) in
    rw (last_append a (encode c) (encodes cs), last_append b (encode d) (encodes ds)) (low_counts cs ds r (last_of a (encode c)) (last_of b (encode d)) k)
