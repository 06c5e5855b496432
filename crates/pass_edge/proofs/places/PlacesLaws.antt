-- Laws of the offsets of places (`numbers/specs/Ready.antt`, `pass_list/specs/Edges.antt`), for this crate's proofs and its callers'.
-- In order: offsets rise; the part of a line between two places; the table of offsets as a walk fills it.
use mathlib.Core.Path.{◌≡◌, sym, ap, ◌∙◌}
use mathlib.Core.Bool.{true}
use mathlib.Core.List.{List, []}
use Prim.Native.Nat.{ℕ, ◌+◌, ◌-◌, ◌≤◌, ◌<◌}
use native.Mathlib.Omega.{arith}
use lib.ListN.{length, drop, get_or, set}
use lib.Seq.{get_or-set_same, get_or-set_other}
use borrow.Author.Count.{below_more}
use Rattle.fields.specs.Part.{part}
use Rattle.text.specs.Text.{chars, well_formed, offset_of}
use Rattle.text.proofs.PlaceLaws.{Reached, reached_count, offset_part, part_bytes}
use Rattle.pass_list.specs.Edges.{between}
use Rattle.numbers.specs.Ready.{Offsets}

module _ (s : List ℕ) (a b : ℕ) (h : a ≤ b) where
  -- ---- offsets rise, and stay within the line
  pub offset_rises : offset_of s a ≤ offset_of s b
  offset_rises = omega (arith, offset_part s a b h)

  -- ---- the part of the line between two places is the bytes of the characters between them
  pub part_between : part s (offset_of s a) (offset_of s b - offset_of s a) ≡ between (chars s) a b
  unfolding part between
  part_between = part_bytes s a b h

-- ---- the offsets of the first n places are filled in
abbrev pub Filled : List ℕ → List ℕ → ℕ → Type 0
Filled s offs n = (p : ℕ) → p < n → get_or offs p 0 ≡ offset_of s p

module _ (s : List ℕ) (n at : ℕ) (r : Reached s n at) (offs : List ℕ) where
  -- a walk is at place n, of the line's places
  pub reached_bound : n ≤ length (chars s)
  reached_bound = omega (arith, reached_count s n at r)

  pub filled_next : n < length offs → Filled s offs n → Filled s (set offs n at) (n + 1)
  filled_next h f =
      below_more (λ p. get_or (set offs n at) p 0 ≡ offset_of s p) n
      (λ p k. get_or-set_other offs n p at 0 (λ e. omega arith) ∙ f p k)
      (get_or-set_same offs n at 0 h ∙ sym r.offset)

  -- no character is left: the place is the end
  pub filled_end : well_formed s ≡ true → chars (drop at s) ≡ [] → Filled s offs (n + 1) → Offsets s offs
  filled_end w e f = record { formed = w; at = λ p h. f p (omega (arith, reached_count s n at r, ap length e)) }
