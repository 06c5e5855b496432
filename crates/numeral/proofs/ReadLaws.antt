-- What numeral, block and small answer on each way out, in plain variables. r is the answer of the call that reads on.
-- In order: the glyph at an offset; reading on behind it; a small that stands or not; a block that fits or not; the whole line.
use Prim.Native.Nat.{ℕ, ◌+◌, ◌*◌}
use mathlib.Core.Path.{◌≡◌, refl, sym, ap, ◌∙◌}
use mathlib.Core.Bool.{Bool, true, false, not}
use mathlib.Core.List.{List}
use lib.ListN.{drop}
use borrow.Author.Tests.{not-true, not-false}
use Rattle.numeral.specs.declared.Blocks.{Blocks}
use Rattle.numeral.specs.declared.Atoms.{Atoms}
use Rattle.numeral.specs.declared.Glyph.{Glyph}
use Rattle.numeral.specs.Numeral.{State, in_numeral, in_small, failed, opening, stands, fits, with_digit, with_ten, total, to_small, with_block, to_block, result}
use Rattle.numeral.specs.Walk.{capped, glyph_at, valued, value_from}
use Rattle.numeral.proofs.WalkLaws.{Taken, Goes, at_glyph, from_failed}
use Rattle.std.specs.Prelude.{Option, None}

module _ (line : List ℕ) (at : ℕ) where
  -- ---- the glyph there, as the call answers and the match tells
  pub goes_on : (a : State) {g h : Glyph} → g ≡ glyph_at (drop at line) → g ≡ h → Goes line at a h
  goes_on a e q = at_glyph line at a (sym q ∙ e)

  -- ---- reading on behind it
  module _ (a : State) (r : Option ℕ) where
    pub read_on : {x : State} (y : State) → Taken line at a x → y ≡ x → r ≡ value_from y (drop (at + 3) line) → r ≡ value_from a (drop at line)
    read_on y h e er = er ∙ ap (λ (z : State). value_from z (drop (at + 3) line)) e ∙ h.rest

  module _ (b : Blocks) {g : Glyph} (e : g ≡ glyph_at (drop at line)) (r : Option ℕ) where
    pub numeral_digit : (v : ℕ) → g ≡ Glyph.Digit v → (f : Atoms) → f ≡ opening v 1 true → r ≡ value_from (to_small b f) (drop (at + 3) line) → r ≡ value_from (in_numeral b) (drop at line)
    numeral_digit v q f ef = read_on (in_numeral b) r (to_small b f) (goes_on (in_numeral b) e q) (ap (to_small b) ef)

    pub numeral_ten : (v : ℕ) → g ≡ Glyph.Ten v → (f : Atoms) → f ≡ opening v v false → r ≡ value_from (to_small b f) (drop (at + 3) line) → r ≡ value_from (in_numeral b) (drop at line)
    numeral_ten v q f ef = read_on (in_numeral b) r (to_small b f) (goes_on (in_numeral b) e q) (ap (to_small b) ef)

    pub numeral_large : (v : ℕ) → g ≡ Glyph.Large v → r ≡ value_from (to_block capped b v v) (drop (at + 3) line) → r ≡ value_from (in_numeral b) (drop at line)
    numeral_large v q = read_on (in_numeral b) r (to_block capped b v v) (goes_on (in_numeral b) e q) refl

    -- ---- a small that stands
    module _ (s : Atoms) {t : Bool} (et : t ≡ stands s) (ok : not t ≡ false) where
      pub small_is : in_small b s ≡ to_small b s
      small_is = rw (← et, not-false t ok)

      stood : r ≡ value_from (in_small b s) (drop at line) → r ≡ value_from (to_small b s) (drop at line)
      stood er = er ∙ ap (λ (z : State). value_from z (drop at line)) small_is

      pub small_digit : (v : ℕ) → g ≡ Glyph.Digit v → (f : Atoms) → f ≡ with_digit capped s v → r ≡ value_from (to_small b f) (drop (at + 3) line) → r ≡ value_from (to_small b s) (drop at line)
      small_digit v q f ef er = stood (read_on (in_small b s) r (to_small b f) (goes_on (in_small b s) e q) (ap (to_small b) ef) er)

      pub small_ten : (v : ℕ) → g ≡ Glyph.Ten v → (f : Atoms) → f ≡ with_ten capped s v → r ≡ value_from (to_small b f) (drop (at + 3) line) → r ≡ value_from (to_small b s) (drop at line)
      small_ten v q f ef er = stood (read_on (in_small b s) r (to_small b f) (goes_on (in_small b s) e q) (ap (to_small b) ef) er)

      pub small_large : (v : ℕ) → g ≡ Glyph.Large v → (x y : ℕ) → x ≡ total capped s → y ≡ capped (x * v) → r ≡ value_from (to_block capped b y v) (drop (at + 3) line) → r ≡ value_from (to_small b s) (drop at line)
      small_large v q x y ex ey er = stood (read_on (in_small b s) r (to_block capped b y v) (goes_on (in_small b s) e q) (rw (ey, ex)) er)

      pub small_other : g ≡ Glyph.Other → r ≡ None → r ≡ value_from (to_small b s) (drop at line)
      small_other q er = stood (er ∙ goes_on (in_small b s) e q)

      pub small_end : g ≡ Glyph.End → r ≡ valued (result capped (in_small b s)) → r ≡ value_from (to_small b s) (drop at line)
      small_end q er = stood (er ∙ goes_on (in_small b s) e q)

  pub small_stops : (b : Blocks) (s : Atoms) {t : Bool} → t ≡ stands s → not t ≡ true → None ≡ value_from (to_small b s) (drop at line)
  small_stops b s {t} et bad = from_failed _ ∙ ap (λ (z : State). value_from z (drop at line)) (stopped et)
    where
      stopped : t ≡ stands s → failed ≡ to_small b s
      stopped et = rw (← et, not-true t bad)

  -- ---- a block that fits or not
  module _ (b : Blocks) (v n : ℕ) {t : Bool} (et : t ≡ fits b v n) where
    pub block_goes : not t ≡ false → (x : Blocks) (r : Option ℕ) → x ≡ with_block capped b v n → r ≡ value_from (in_numeral x) (drop at line) → r ≡ value_from (to_block capped b v n) (drop at line)
    block_goes ok x r ex er = er ∙ ap (λ (z : State). value_from z (drop at line)) (rw (← et, not-false t ok, ex))

    pub block_stops : not t ≡ true → None ≡ value_from (to_block capped b v n) (drop at line)
    block_stops bad = from_failed _ ∙ ap (λ (z : State). value_from z (drop at line)) (rw (← et, not-true t bad))
