-- A numeral read character by character from the left (02, S-4: "read the field straight from the grammar: numeral, block and small call each other in a cycle
-- as the text goes on"). `proofs/OneNumber.antt` says that these are the grammar's numerals and values. Definitions only.
--     State              what is being read: a member's beginning, a small, or no numeral any more
--     step, reads        the state after a character; after a list of them
--     result             the value of what is read, where it is a numeral as it stands
--     numeral_of w        the value of the numeral w; none where w is no numeral
--     Valued w v         for the theorems: the grammar has a reading of w whose value is v
-- Sums and products go through `cap`: in `numeral_of` they stay as they are; `specs/Walk.antt`, which says what the code does, stops counting above TOP.
-- Assumes nothing.
use Rattle.std.specs.Prelude.{ℕ, ◌+◌, ◌*◌, ◌/◌, ◌≡◌, Bool, true, false, cond, ◌&&◌, ◌||◌, not, List, [], ◌∷◌, leb, ltb, eqb}
use Rattle.std.proofs.Math.Option.{Option, none, some}
use Rattle.grammar.specs.Plain.{Char, digit, ten, large, digit_value, ten_value, large_value}
use Rattle.grammar.specs.Grammar.{Reading, division_value}
use Rattle.numeral.specs.declared.Blocks.{Blocks}
use Rattle.numeral.specs.declared.Atoms.{Atoms}

pub data State : Type 0 where
  in_numeral : Blocks → State
  in_small : Blocks → Atoms → State
  failed : State

-- ---- the tests

-- "each later one has value and base below the base of that small's nearest earlier atom that isn't a lone 零, and with no such atom nothing follows"
abbrev pub stands : Atoms → Bool
stands s = s.first || (ltb s.value s.near && ltb s.base s.near)

-- that base for an atom behind the last one
abbrev pub nearest : Atoms → ℕ
nearest s = cond (s.lone && eqb s.value 0) s.near s.base

-- "each member after the first has value and base below the base before it"
abbrev pub fits : Blocks → ℕ → ℕ → Bool
fits b v n = eqb b.base 0 || (ltb v b.base && ltb n b.base)

-- "A last small that is a single 一 to 九 after a block"
abbrev pub retagged : Blocks → Atoms → Bool
retagged b s = not (eqb b.base 0) && (s.first && (s.lone && leb 1 s.value))

-- ---- a small's first atom, as its first character has it
abbrev pub opening : ℕ → ℕ → Bool → Atoms
opening v n lone = record { sum = 0; near = 0; first = true; value = v; base = n; lone = lone }

-- the last atom goes on: it is now of value v and base n
abbrev pub grown : Atoms → ℕ → ℕ → Atoms
grown s v n = record { sum = s.sum; near = s.near; first = s.first; value = v; base = n; lone = false }

-- in a small, where its last atom may stand
abbrev pub to_small : Blocks → Atoms → State
to_small b s = cond (stands s) (in_small b s) failed

module _ (cap : ℕ → ℕ) where
  -- a next atom begins
  abbrev pub another : Atoms → ℕ → ℕ → Bool → Atoms
  another s v n lone = record { sum = cap (s.sum + s.value); near = nearest s; first = false; value = v; base = n; lone = lone }

  -- "A run is a maximal stretch of 零 to 九: its decimal value": a digit goes on with a run, and begins one behind any other atom
  abbrev pub with_digit : Atoms → ℕ → Atoms
  with_digit s d = cond (eqb s.base 1) (grown s (cap (10 * s.value + d)) 1) (another s d 1 true)

  -- "a run of value ≥ 1 followed by 十, 百 or 千 (product, that base); or one of these three not directly after such a run"
  abbrev pub with_ten : Atoms → ℕ → Atoms
  with_ten s n = cond (eqb s.base 1 && leb 1 s.value) (grown s (cap (s.value * n)) n) (another s n n false)

  -- behind a block of value v and base n
  abbrev pub with_block : Blocks → ℕ → ℕ → Blocks
  with_block b v n = record { sum = cap (b.sum + v); base = n }

  abbrev pub to_block : Blocks → ℕ → ℕ → State
  to_block b v n = cond (fits b v n) (in_numeral (with_block b v n)) failed

  -- a small's value: "the sum"
  abbrev pub total : Atoms → ℕ
  total s = cap (s.sum + s.value)

  -- ---- the next character, by its value
  abbrev pub take_digit : State → ℕ → State
  take_digit (in_numeral b) v = in_small b (opening v 1 true)
  take_digit (in_small b s) v = to_small b (with_digit s v)
  take_digit failed v = failed

  abbrev pub take_ten : State → ℕ → State
  take_ten (in_numeral b) v = in_small b (opening v v false)
  take_ten (in_small b s) v = to_small b (with_ten s v)
  take_ten failed v = failed

  -- "A block is a small directly followed by 万, 億 or 兆 (product, that base), or such a character with no small directly before it."
  abbrev pub take_large : State → ℕ → State
  take_large (in_numeral b) v = to_block b v v
  take_large (in_small b s) v = to_block b (cap (total s * v)) v
  take_large failed v = failed

  abbrev pub step : State → Char → State
  step a (digit d) = take_digit a (digit_value d)
  step a (ten t) = take_ten a (ten_value t)
  step a (large l) = take_large a (large_value l)

  abbrev pub reads : State → List Char → State
  reads a [] = a
  reads a (c ∷ w) = reads (step a c) w

  -- "counts as digit times base/10, with base/10"; any other last small as it is
  abbrev pub counted_value : Blocks → Atoms → ℕ
  counted_value b s = cond (retagged b s) (cap (s.value * (b.base / 10))) (total s)

  abbrev pub counted_base : Blocks → Atoms → ℕ
  counted_base b s = cond (retagged b s) (b.base / 10) s.base

  -- "A numeral is one or more blocks, or these then one small, or one small"
  abbrev pub result : State → Option ℕ
  result (in_numeral b) = cond (eqb b.base 0) none (some b.sum)
  result (in_small b s) = cond (fits b (counted_value b s) (counted_base b s)) (some (cap (b.sum + counted_value b s))) none
  result failed = none

-- nothing is read yet
abbrev pub start : State
start = in_numeral (record { sum = 0; base = 0 })

abbrev pub numeral_of : List Char → Option ℕ
numeral_of w = result (λ n. n) (reads (λ n. n) start w)

-- ---- for the theorems
abbrev pub Valued : List Char → ℕ → Type 0
Valued w v = (r : Reading w) × (division_value r.division ≡ v)
