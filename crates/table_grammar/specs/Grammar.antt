-- The grammar of numerals (01, "Grammar") over the characters of any alphabet: digits in the place of 零 to 九, units in the place of 十百千, large powers in the place of
-- 万億兆. It names no pass. 01's own grammar is that of the sixteen plain characters (crate `grammar`, specs/Grammar.antt), a table's that of its records
-- (`specs/TableGrammar.antt`). Definitions only.
--     CharOf D T L         a character: a digit, a unit or a large power
--     AtomOf, MemberOf, DivisionOf   a division of a line, down to its runs
--     Alphabet D T L       what the grammar asks of the characters
--     run_value, atom_value, small_value, member_value   values; atom_base, small_base, member_base: bases
--     IsAtom, IsSmall, IsMember, IsNumeral           the rules
--     division_value A d    the value of the division d, the sum of its members as they count
--     division_text d w     the characters of d, then w
--     ReadingOf A w        a reading of the line w: a division of the whole of w by the rules; w is a numeral where it has one
--     Assumes nothing.
use Rattle.std.specs.Prelude.{ℕ, ◌+◌, ◌*◌, ◌/◌, ◌≤◌, ◌<◌, ◌≡◌, Bool, false, cond, ◌&&◌, List, [], ◌∷◌, leb}
use Rattle.std.proofs.Math.Option.{Option, none, some}
use Rattle.table_grammar.specs.Row.{Row, one, ◌▷◌, last}

-- ---- characters and divisions
pub data CharOf (D T L : Type 0) : Type 0 where
  digit : D → CharOf D T L
  ten : T → CharOf D T L
  large : L → CharOf D T L

-- "a run; or a run .. followed by" a unit; or a unit alone. A run is its digits.
pub data AtomOf (D T : Type 0) : Type 0 where
  run : Row D → AtomOf D T
  times : Row D → T → AtomOf D T
  power : T → AtomOf D T

-- A small, which is "one or more atoms"; a block: "a small directly followed by" a large power, or "such a character" alone.
pub data MemberOf (D T L : Type 0) : Type 0 where
  small : Row (AtomOf D T) → MemberOf D T L
  block : Row (AtomOf D T) → L → MemberOf D T L
  lone : L → MemberOf D T L

abbrev pub DivisionOf : Type 0 → Type 0 → Type 0 → Type 0
DivisionOf D T L = Row (MemberOf D T L)

-- the values and bases of the characters; whether a digit alone is "a lone 零"; and whether "a single 一 to 九 after a block" counts by base/10 after this block
pub record Alphabet (D T L : Type 0) : Type 0 where
  pub digit_value : D → ℕ
  pub ten_value : T → ℕ
  pub ten_base : T → ℕ
  pub large_value : L → ℕ
  pub large_base : L → ℕ
  pub is_zero : D → Bool
  pub tenths : MemberOf D T L → Bool

-- ---- the characters of a division, before those of a list
module _ {D T L : Type 0} where
  abbrev pub run_text : Row D → List (CharOf D T L) → List (CharOf D T L)
  run_text (one d) w = digit d ∷ w
  run_text (r ▷ d) w = run_text r (digit d ∷ w)

  abbrev pub atom_text : AtomOf D T → List (CharOf D T L) → List (CharOf D T L)
  atom_text (run r) w = run_text r w
  atom_text (times r t) w = run_text r (ten t ∷ w)
  atom_text (power t) w = ten t ∷ w

  abbrev pub small_text : Row (AtomOf D T) → List (CharOf D T L) → List (CharOf D T L)
  small_text (one a) w = atom_text a w
  small_text (s ▷ a) w = small_text s (atom_text a w)

  abbrev pub member_text : MemberOf D T L → List (CharOf D T L) → List (CharOf D T L)
  member_text (small s) w = small_text s w
  member_text (block s l) w = small_text s (large l ∷ w)
  member_text (lone l) w = large l ∷ w

  abbrev pub division_text : DivisionOf D T L → List (CharOf D T L) → List (CharOf D T L)
  division_text (one m) w = member_text m w
  division_text (d ▷ m) w = division_text d (member_text m w)

  abbrev pub IsBlock : MemberOf D T L → Type 0
  IsBlock (small s) = ⊥
  IsBlock (block s l) = Unit {0}
  IsBlock (lone l) = Unit {0}

-- "value and base below the base of that .. atom, and with no such atom nothing follows"
abbrev pub Below : Option ℕ → ℕ → ℕ → Type 0
Below none v b = ⊥
Below (some n) v b = (v < n) × (b < n)

module _ {D T L : Type 0} (A : Alphabet D T L) where
  -- ---- values and bases

  -- A run: "its decimal value"
  abbrev pub run_value : Row D → ℕ
  run_value (one d) = A.digit_value d
  run_value (r ▷ d) = 10 * run_value r + A.digit_value d

  -- a run's value; "product"; the character's
  abbrev pub atom_value : AtomOf D T → ℕ
  atom_value (run r) = run_value r
  atom_value (times r t) = run_value r * A.ten_value t
  atom_value (power t) = A.ten_value t

  -- a run: "base 1"; a product: "that base"; the character's
  abbrev pub atom_base : AtomOf D T → ℕ
  atom_base (run r) = 1
  atom_base (times r t) = A.ten_base t
  atom_base (power t) = A.ten_base t

  -- A small: "Its value is the sum, its base the last atom's."
  abbrev pub small_value : Row (AtomOf D T) → ℕ
  small_value (one a) = atom_value a
  small_value (s ▷ a) = small_value s + atom_value a

  abbrev pub small_base : Row (AtomOf D T) → ℕ
  small_base s = atom_base (last s)

  -- A block: "product, that base"
  abbrev pub member_value : MemberOf D T L → ℕ
  member_value (small s) = small_value s
  member_value (block s l) = small_value s * A.large_value l
  member_value (lone l) = A.large_value l

  abbrev pub member_base : MemberOf D T L → ℕ
  member_base (small s) = small_base s
  member_base (block s l) = A.large_base l
  member_base (lone l) = A.large_base l

  -- ---- the rules

  -- An atom: before its unit stands "a run of value ≥ 1".
  abbrev pub IsAtom : AtomOf D T → Type 0
  IsAtom (run r) = Unit {0}
  IsAtom (times r t) = 1 ≤ run_value r
  IsAtom (power t) = Unit {0}

  -- One atom directly after another. A run is "a maximal stretch of" digits, so no digit follows it (`proofs/Maximal.antt`: that is maximality in the line);
  -- and a unit alone stands "not directly after such a run", one of value ≥ 1.
  abbrev pub Follows : AtomOf D T → AtomOf D T → Type 0
  Follows (run r) (run q) = ⊥
  Follows (run r) (times q t) = ⊥
  Follows (run r) (power t) = run_value r ≡ 0
  Follows (times r t) a = Unit {0}
  Follows (power t) a = Unit {0}

  -- "a lone 零": the run of this one character
  abbrev pub lone_zero : AtomOf D T → Bool
  lone_zero (run (one d)) = A.is_zero d
  lone_zero (run (r ▷ d)) = false
  lone_zero (times r t) = false
  lone_zero (power t) = false

  -- the base of the "nearest earlier atom that isn't a lone 零", for what comes after s
  abbrev pub near_base : Row (AtomOf D T) → Option ℕ
  near_base (one a) = cond (lone_zero a) none (some (atom_base a))
  near_base (s ▷ a) = cond (lone_zero a) (near_base s) (some (atom_base a))

  -- A small: "one or more atoms; each later one has value and base below .."
  abbrev pub IsSmall : Row (AtomOf D T) → Type 0
  IsSmall (one a) = IsAtom a
  IsSmall (s ▷ a) = IsSmall s × Follows (last s) a × IsAtom a × Below (near_base s) (atom_value a) (atom_base a)

  abbrev pub IsMember : MemberOf D T L → Type 0
  IsMember (small s) = IsSmall s
  IsMember (block s l) = IsSmall s
  IsMember (lone l) = Unit {0}

  -- the digit of a small that is a single digit from 1 on; 0 for any other member
  abbrev pub single_digit : MemberOf D T L → ℕ
  single_digit (small (one (run (one d)))) = A.digit_value d
  single_digit (small (one (run (r ▷ d)))) = 0
  single_digit (small (one (times r t))) = 0
  single_digit (small (one (power t))) = 0
  single_digit (small (s ▷ a)) = 0
  single_digit (block s l) = 0
  single_digit (lone l) = 0

  -- what a member counts as after a block of base n: where p says so of the block, "a single 一 to 九 after a block counts as digit times base/10, with base/10"
  abbrev pub count_value : Bool → ℕ → MemberOf D T L → ℕ
  count_value p n m = cond (p && leb 1 (single_digit m)) (single_digit m * (n / 10)) (member_value m)

  abbrev pub count_base : Bool → ℕ → MemberOf D T L → ℕ
  count_base p n m = cond (p && leb 1 (single_digit m)) (n / 10) (member_base m)

  -- A numeral: "one or more blocks, or these then one small, or one small; each member after the first has value and base below the base before it." All before the
  -- last are blocks, so that a small stands last, and a large power alone has "no small directly before it".
  abbrev pub IsNumeral : DivisionOf D T L → Type 0
  IsNumeral (one m) = IsMember m
  IsNumeral (d ▷ m) =
      IsNumeral d × IsBlock (last d) × IsMember m
      × (count_value (A.tenths (last d)) (member_base (last d)) m < member_base (last d))
      × (count_base (A.tenths (last d)) (member_base (last d)) m < member_base (last d))

  -- "A reading's value, and so the numeral's, is the sum."
  abbrev pub division_value : DivisionOf D T L → ℕ
  division_value (one m) = member_value m
  division_value (d ▷ m) = division_value d + count_value (A.tenths (last d)) (member_base (last d)) m

  -- "A reading is a division of the whole line into members, atoms and runs by these rules"
  pub record ReadingOf (w : List (CharOf D T L)) : Type 0 where
    pub division : DivisionOf D T L
    pub whole : division_text division [] ≡ w
    pub rules : IsNumeral division
