-- Where `fields_at` finds the fields of a numeric edge, and that they are the definition's (`edge`'s `specs/View.antt`). No contract cites this file.
use mathlib.Core.Path.{◌≡◌, refl, ap, ◌∙◌}
use mathlib.Core.Bool.{Bool, true, false}
use mathlib.Core.List.{List}
use Prim.Native.Nat.{ℕ, ◌+◌, ◌*◌, ◌≤◌, ◌<◌}
use native.Mathlib.Omega.{arith}
use borrow.Author.Tests.{eqb-true, eqb-false}
use lib.ListN.{length}
use lib.Dec.{eqb}
use Rattle.fields.specs.Fields.{le_at}
use Rattle.fields.specs.declared.Part.{Part}
use Rattle.edge.specs.View.{part_at, number_if, byte_if, part_if, fields_at}
use Rattle.edge.specs.Layout.{bit, stands, fraction_at, base_at, mult_at, string_end, string_end_if, script_at, value_sAt, decimals_at, fields_end}
use Rattle.edge.proofs.LayoutLaws.{if_on, if_off, Within, within_from}

-- ---- the value stands behind orig_txt
module _ (m : ℕ) (s : List ℕ) (at : ℕ) {o : Part} (orig : o ≡ part_at s at) where
  pub value_is : o.at.0 + o.len ≡ string_end s at
  unfolding string_end
  value_is = rw orig refl

  pub inside : fields_end m s at ≤ length s → Within m s (o.at.0 + o.len) (length s)
  inside h = within_from m s at (length s) value_is h

-- ---- behind a text whose bit is k
module _ (s : List ℕ) (at : ℕ) {b : Bool} {p : Part} (read : p ≡ part_if b s at) where
  len_on : b ≡ true → p.len ≡ le_at s at 2
  len_on on = rw (read, on) refl

  len_off : b ≡ false → p.len ≡ 0
  len_off off = rw (read, off) refl

text_if_ends : (s : List ℕ) (k at : ℕ) → k < 2 → {p : Part} → p ≡ part_if (eqb k 1) s at → at + 2 * k + p.len ≡ string_end_if (eqb k 1) s at
unfolding string_end
text_if_ends s k at l {p} read = go (eqb k 1) refl
  where
    go : (b : Bool) → eqb k 1 ≡ b → at + 2 * k + p.len ≡ string_end_if (eqb k 1) s at
    go true on = if_on (eqb k 1) _ _ on (omega (arith, eqb-true k 1 on, len_on s _ read on))
    go false off = if_off (eqb k 1) _ _ off (omega (arith, eqb-false k 1 off, len_off s _ read off))

-- ---- value_s stands behind script, the count of decimals behind value_s
module _ (m : ℕ) (s : List ℕ) (v : ℕ) {p : Part} (read : p ≡ part_if (stands 5 m) s (mult_at m v + 8 * bit 4 m)) where
  pub value_s_is : mult_at m v + 8 * bit 4 m + 2 * bit 5 m + p.len ≡ value_sAt m s v
  unfolding value_sAt script_at
  value_s_is = text_if_ends s (bit 5 m) _ (omega arith) read

  pub decimals_is : {q : Part} → q ≡ part_if (stands 8 m) s (mult_at m v + 8 * bit 4 m + 2 * bit 5 m + p.len)
      → mult_at m v + 8 * bit 4 m + 2 * bit 5 m + p.len + 2 * bit 8 m + q.len ≡ decimals_at m s v
  unfolding decimals_at
  decimals_is behind = text_if_ends s (bit 8 m) _ (omega arith) behind ∙ ap (string_end_if (stands 8 m) s) value_s_is

pub value_s_within : (m : ℕ) (s : List ℕ) (at : ℕ) {o p : Part} → o ≡ part_at s at → p ≡ part_if (stands 5 m) s (mult_at m (o.at.0 + o.len) + 8 * bit 4 m)
    → fields_end m s at ≤ length s → mult_at m (o.at.0 + o.len) + 8 * bit 4 m + 2 * bit 5 m + p.len ≤ length s
value_s_within m s at orig read h = omega (arith, value_s_is m s _ read, (inside m s at orig h).value_s_at)

module _ (m : ℕ) (s : List ℕ) (at : ℕ) {o p q : Part} (orig : o ≡ part_at s at) (read : p ≡ part_if (stands 5 m) s (mult_at m (o.at.0 + o.len) + 8 * bit 4 m))
    (behind : q ≡ part_if (stands 8 m) s (mult_at m (o.at.0 + o.len) + 8 * bit 4 m + 2 * bit 5 m + p.len)) (h : fields_end m s at ≤ length s) where
  pub decimals_within : mult_at m (o.at.0 + o.len) + 8 * bit 4 m + 2 * bit 5 m + p.len + 2 * bit 8 m + q.len ≤ length s
  decimals_within = omega (arith, decimals_is m s _ read behind, (inside m s at orig h).decimals_offset)

  pub decimals_there : stands 9 m ≡ true → mult_at m (o.at.0 + o.len) + 8 * bit 4 m + 2 * bit 5 m + p.len + 2 * bit 8 m + q.len + 1 ≤ length s
  decimals_there on = omega (arith, decimals_is m s _ read behind, (inside m s at orig h).decimals on)

-- ---- the fields, from what the code reads
pub fields_read : (m : ℕ) (s : List ℕ) (at : ℕ) {a b c d e i : ℕ} {o f g : Part} → o ≡ part_at s at
    → f ≡ part_if (stands 5 m) s (mult_at m (o.at.0 + o.len) + 8 * bit 4 m) → g ≡ part_if (stands 8 m) s (mult_at m (o.at.0 + o.len) + 8 * bit 4 m + 2 * bit 5 m + f.len)
    → a ≡ number_if (stands 1 m) s (o.at.0 + o.len) → b ≡ number_if (stands 2 m) s (fraction_at m (o.at.0 + o.len)) → c ≡ number_if (stands 2 m) s (fraction_at m (o.at.0 + o.len) + 8)
    → d ≡ number_if (stands 3 m) s (base_at m (o.at.0 + o.len)) → e ≡ number_if (stands 4 m) s (mult_at m (o.at.0 + o.len))
    → i ≡ byte_if (stands 9 m) s (mult_at m (o.at.0 + o.len) + 8 * bit 4 m + 2 * bit 5 m + f.len + 2 * bit 8 m + g.len)
    → record { map = m; value = a; numerator = b; denominator = c; base = d; base_multiplier = e; orig = o; script = f; value_s = g; decimals = i } ≡ fields_at m s at
unfolding fields_at script_at
fields_read m s at o f g a b c d e i =
    let vs = g ∙ ap (part_if (stands 8 m) s) (value_s_is m s _ f) in
    let ds = i ∙ ap (byte_if (stands 9 m) s) (decimals_is m s _ f g) in
    rw (a, b, c, d, e, ds, vs, f, value_is m s at o, o)
