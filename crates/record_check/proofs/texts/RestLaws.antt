-- Laws of `specs/Rest.antt`. No contract cites this file.
-- In order: nothing taken off; some and then more; nothing left; a character's bytes; one, two and three of them.
use mathlib.Core.Path.{◌≡◌, refl, sym, ap, ◌∙◌}
use mathlib.Core.Bool.{true}
use mathlib.Core.List.{List, [], ◌∷◌, ◌++◌}
use Prim.Native.Nat.{ℕ, ◌+◌, ◌-◌, ◌*◌, ◌/◌, ◌≤◌, ◌<◌}
use native.Mathlib.Omega.{arith}
use lib.ListN.{length, get_or}
use borrow.Author.Tests.{le-leb, lt-ltb, le-ltb}
use Rattle.fields.specs.Part.{part}
use Rattle.fields.proofs.PartLaws.{part_add}
use Rattle.text.specs.Table.{within}
use Rattle.text.specs.Text.{well_formed, is_nil}
use Rattle.text.specs.Sequence.{scalar, trail_byte, encode}
use Rattle.text.proofs.RowLaws.{within_is}
use Rattle.text.proofs.TextLaws.{left_cons, left_nil}
use Rattle.table.proofs.ContentLaws.{part_cons}
use Rattle.record_check.specs.Rest.{Trail, Rest}

module _ (s : List ℕ) (from end : ℕ) where
  pub rest_start : from ≤ end → Rest s from end from
  rest_start h = record { behind = omega arith; before = h; same = refl }

  pub rest_more : (at : ℕ) {next : ℕ} → Rest s from end at → Rest s at end next → Rest s from end next
  rest_more at p q = record { behind = omega (arith, p.behind, q.behind); before = q.before; same = p.same ∙ q.same }

  pub rest_all : (at : ℕ) → Rest s from end at → end ≤ at → well_formed (part s from (end - from)) ≡ true
  unfolding part
  rest_all at p h = p.same ∙ (let z : end - at ≡ 0 = omega arith in rw (z, left_nil))

-- ---- k bytes that are those of the scalar value x
module _ (s : List ℕ) (at end : ℕ) (w : end ≤ length s) where
  rest_char : (k x : ℕ) → at + k ≤ end → x ≤ 0xD7FF → part s at k ≡ encode x → Rest s at end (at + k)
  rest_char k x h l e =
      let n : end - at ≡ k + (end - (at + k)) = omega arith in
      let v : scalar x ≡ true = simp (le-leb 0 x (omega arith), le-leb x 0xD7FF l) in
      record {
        behind = omega arith;
        before = h;
        same = ap well_formed (ap (part s at) n ∙ part_add s at k (end - (at + k)) ∙ ap (λ (t : List ℕ). t ++ part s (at + k) (end - (at + k))) e) ∙ ap is_nil (left_cons x (part s (at + k) (end - (at + k))) v);
      }

  pub rest_one : at < end → get_or s at 0 < 0x80 → Rest s at end (at + 1)
  unfolding part encode
  rest_one h l =
      let b = get_or s at 0 in
      let e : encode b ≡ b ∷ [] = simp (lt-ltb b 0x80 l) in
      rest_char 1 b (omega arith) (omega arith) (part_cons s at 0 (at + 1) (omega arith) (omega arith) ∙ sym e)

  pub rest_two : within 0xC2 0xDF (get_or s at 0) ≡ true → Trail s (at + 1) end → Rest s at end (at + 2)
  unfolding part encode
  rest_two f t =
      let b = get_or s at 0 in
      let c = get_or s (at + 1) 0 in
      let first = within_is 0xC2 0xDF b f in
      let second = within_is 0x80 0xBF c t.is in
      let x = (b - 0xC0) * 64 + (c - 0x80) in
      let lead : 0xC0 + x / 64 ≡ b = omega arith in
      let trail : trail_byte x ≡ c = omega arith in
      let e : encode x ≡ (0xC0 + x / 64) ∷ trail_byte x ∷ [] = simp (le-ltb x 0x80 (omega arith), lt-ltb x 0x800 (omega arith)) in
      rest_char 2 x (omega (arith, t.before)) (omega arith) (rw (part_cons s at 1 (at + 1) (omega (arith, t.before)) (omega arith), part_cons s (at + 1) 0 (at + 2) (omega (arith, t.before)) (omega arith)) (sym (e ∙ rw (lead, trail))))

  pub rest_three : within 0xE1 0xEC (get_or s at 0) ≡ true → Trail s (at + 1) end → Trail s (at + 2) end → Rest s at end (at + 3)
  unfolding part encode
  rest_three f t u =
      let b = get_or s at 0 in
      let c = get_or s (at + 1) 0 in
      let d = get_or s (at + 2) 0 in
      let first = within_is 0xE1 0xEC b f in
      let second = within_is 0x80 0xBF c t.is in
      let third = within_is 0x80 0xBF d u.is in
      let x = ((b - 0xE0) * 64 + (c - 0x80)) * 64 + (d - 0x80) in
      let lead : 0xE0 + x / 64 / 64 ≡ b = omega arith in
      let middle : trail_byte (x / 64) ≡ c = omega arith in
      let trail : trail_byte x ≡ d = omega arith in
      let e : encode x ≡ (0xE0 + x / 64 / 64) ∷ trail_byte (x / 64) ∷ trail_byte x ∷ [] = simp (le-ltb x 0x80 (omega arith), le-ltb x 0x800 (omega arith), lt-ltb x 0x10000 (omega arith)) in
      rest_char 3 x (omega (arith, u.before)) (omega arith) (rw (
        part_cons s at 2 (at + 1) (omega (arith, u.before)) (omega arith),
        part_cons s (at + 1) 1 (at + 2) (omega (arith, u.before)) (omega arith),
        part_cons s (at + 2) 0 (at + 3) (omega (arith, u.before)) (omega arith),
      ) (sym (e ∙ rw (lead, middle, trail))))
