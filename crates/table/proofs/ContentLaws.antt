-- Laws of the content of `specs/Check.antt`, by the way that a test goes. No contract cites this file.
-- In order: code points; a part by its first byte; a string of a list.
use mathlib.Core.Path.{◌≡◌}
use mathlib.Core.Bool.{true, false}
use mathlib.Core.List.{List, ◌∷◌}
use Prim.Native.Nat.{ℕ, suc, ◌+◌, ◌≤◌, ◌<◌}
use native.Mathlib.Omega.{arith}
use lib.ListN.{length, get_or}
use lib.Seq.{drop-cons}
use lib.Dec.{leb}
use borrow.Author.Tests.{le-leb, lt-leb, lt-ltb, le-ltb}
use Rattle.fields.specs.Part.{part}
use Rattle.fields.proofs.PartLaws.{length_part}
use Rattle.text.specs.Text.{well_formed}
use Rattle.table.specs.Check.{legal_mark, legal_code_point}

-- ---- code points
module _ (least c : ℕ) where
  pub code_low : c < least → false ≡ legal_code_point least c
  unfolding legal_code_point
  code_low h = simp (lt-leb least c h)

  module _ (h : least ≤ c) where
    pub code_first : c ≤ 0xD7FF → true ≡ legal_code_point least c
    unfolding legal_code_point
    code_first k = simp (le-leb least c h, le-leb 0 c (omega arith), le-leb c 0xD7FF k)

    pub code_surrogate : 0xD7FF < c → c < 0xE000 → false ≡ legal_code_point least c
    unfolding legal_code_point
    code_surrogate k l = simp (le-leb least c h, le-leb 0 c (omega arith), lt-leb c 0xD7FF k, lt-leb 0xE000 c l)

    pub code_last : 0xD7FF < c → 0xE000 ≤ c → leb c 0x10FFFF ≡ legal_code_point least c
    unfolding legal_code_point
    code_last k l = simp (le-leb least c h, le-leb 0 c (omega arith), lt-leb c 0xD7FF k, le-leb 0xE000 c l)

-- ---- a part, by its first byte
pub part_cons : (s : List ℕ) (at n next : ℕ) → at < length s → suc at ≡ next → part s at (suc n) ≡ get_or s at 0 ∷ part s next n
unfolding part
part_cons s at n next h e = rw (drop-cons s at 0 h, e)

-- ---- a string of a list
module _ (s : List ℕ) (at n : ℕ) (w : at + n ≤ length s) where
  pub mark_empty : n ≡ 0 → false ≡ legal_mark (part s at n)
  unfolding legal_mark
  mark_empty e = simp (length_part s at n w, le-ltb 0 n (omega arith))

  pub mark_is : (n ≡ 0 → ⊥) → well_formed (part s at n) ≡ legal_mark (part s at n)
  unfolding legal_mark
  mark_is e = simp (length_part s at n w, lt-ltb 0 n (omega arith))
