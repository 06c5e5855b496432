-- The parts of a division that are read when a state of `specs/Numeral.antt` is reached, and the state for these parts.
-- In order: the states of parts; what a digit and what 十, 百 or 千 make of a small; tests and the grammar's rules; blocks.
use Prim.Native.Nat.{ℕ, ◌+◌, ◌*◌, ◌<◌}
use mathlib.Core.Path.{◌≡◌, refl}
use mathlib.Core.Bool.{Bool, true, false, cond, ◌&&◌}
use mathlib.Core.List.{List, ◌∷◌}
use mathlib.Core.Option.{Option, none, some}
use native.Mathlib.Omega.{arith}
use native.Mathlib.Nat.{zero-add}
use lib.Dec.{leb, ltb, eqb}
use Rattle.grammar.specs.Plain.{Digit, Ten, Large, Char, digit, ten, 十, 百, 千, 万, 億, 兆, digit_value, ten_value, large_value}
use Rattle.table_grammar.specs.Row.{Row, one, ◌▷◌, last}
use Rattle.grammar.specs.Grammar.{Atom, run, times, power, Member, small, block, lone, Division, run_value, atom_value, atom_base, small_value, small_base, member_value, member_base, Follows, lone_zero, near_base, Below, IsSmall, IsMember, IsBlock, single_digit, count_value, count_base, IsNumeral, division_value, small_text, member_text, division_text}
use Rattle.table_grammar.proofs.Tests.{le_true, true_le, false_lt, and_left, and_right}
use Rattle.numeral.specs.declared.Blocks.{Blocks}
use Rattle.numeral.specs.declared.Atoms.{Atoms}
use Rattle.numeral.specs.Numeral.{stands, nearest, fits, another, with_digit, with_ten, counted_value, counted_base}

-- ---- the states of parts
abbrev pub is_lone : Atom → Bool
is_lone (run (one d)) = true
is_lone (run (r ▷ d)) = false
is_lone (times r t) = false
is_lone (power t) = false

abbrev pub or_zero : Option ℕ → ℕ
or_zero none = 0
or_zero (some n) = n

abbrev pub atoms_of : Row Atom → Atoms
atoms_of (one a) = record { sum = 0; near = 0; first = true; value = atom_value a; base = atom_base a; lone = is_lone a }
atoms_of (s ▷ a) = record { sum = small_value s; near = or_zero (near_base s); first = false; value = atom_value a; base = atom_base a; lone = is_lone a }

-- the members before: none, or blocks
abbrev pub blocks_of : Option Division → Blocks
blocks_of none = record { sum = 0; base = 0 }
blocks_of (some d) = record { sum = division_value d; base = member_base (last d) }

abbrev pub Blocked : Option Division → Type 0
Blocked none = Unit {0}
Blocked (some d) = IsNumeral d × IsBlock (last d)

abbrev pub before_text : Option Division → List Char → List Char
before_text none w = w
before_text (some d) w = division_text d w

-- ---- an atom behind a small

pub sum_is : (s : Row Atom) → (atoms_of s).sum + (atoms_of s).value ≡ small_value s
sum_is (one a) = zero-add (atom_value a)
sum_is (s ▷ a) = refl

near_last : (a : Atom) (n : Option ℕ) → cond (is_lone a && eqb (atom_value a) 0) (or_zero n) (atom_base a) ≡ or_zero (cond (lone_zero a) n (some (atom_base a)))
near_last (run (one d)) n = go (eqb (digit_value d) 0)
  where
    go : (b : Bool) → cond b (or_zero n) 1 ≡ or_zero (cond b n (some 1))
    go true = refl
    go false = refl
near_last (run (r ▷ d)) n = refl
near_last (times r t) n = refl
near_last (power t) n = refl

pub nearest_is : (s : Row Atom) → nearest (atoms_of s) ≡ or_zero (near_base s)
nearest_is (one a) = near_last a none
nearest_is (s ▷ a) = near_last a (near_base s)

pub another_is : (s : Row Atom) (a : Atom) → another (λ n. n) (atoms_of s) (atom_value a) (atom_base a) (is_lone a) ≡ atoms_of (s ▷ a)
another_is s a = rw (sum_is s, nearest_is s)

-- ---- a digit, and 十, 百 or 千, behind a small
pub ten_no_run : (t : Ten) → eqb (ten_value t) 1 ≡ false
ten_no_run 十 = refl
ten_no_run 百 = refl
ten_no_run 千 = refl

abbrev pub plus_digit : Row Atom → Digit → Row Atom
plus_digit (one (run r)) d = one (run (r ▷ d))
plus_digit (one (times r t)) d = one (times r t) ▷ run (one d)
plus_digit (one (power t)) d = one (power t) ▷ run (one d)
plus_digit (s ▷ run r) d = s ▷ run (r ▷ d)
plus_digit (s ▷ times r t) d = s ▷ times r t ▷ run (one d)
plus_digit (s ▷ power t) d = s ▷ power t ▷ run (one d)

pub digit_is : (s : Row Atom) (d : Digit) → with_digit (λ n. n) (atoms_of s) (digit_value d) ≡ atoms_of (plus_digit s d)
digit_is (one (run r)) d = refl
digit_is (one (times r t)) d = rw (ten_no_run t) (another_is (one (times r t)) (run (one d)))
digit_is (one (power t)) d = rw (ten_no_run t) (another_is (one (power t)) (run (one d)))
digit_is (s ▷ run r) d = refl
digit_is (s ▷ times r t) d = rw (ten_no_run t) (another_is (s ▷ times r t) (run (one d)))
digit_is (s ▷ power t) d = rw (ten_no_run t) (another_is (s ▷ power t) (run (one d)))

pub digit_text : (s : Row Atom) (d : Digit) (w : List Char) → small_text (plus_digit s d) w ≡ small_text s (digit d ∷ w)
digit_text (one (run r)) d w = refl
digit_text (one (times r t)) d w = refl
digit_text (one (power t)) d w = refl
digit_text (s ▷ run r) d w = refl
digit_text (s ▷ times r t) d w = refl
digit_text (s ▷ power t) d w = refl

abbrev pub plus_ten : Row Atom → Ten → Row Atom
plus_ten (one (run r)) t = cond (leb 1 (run_value r)) (one (times r t)) (one (run r) ▷ power t)
plus_ten (one (times r q)) t = one (times r q) ▷ power t
plus_ten (one (power q)) t = one (power q) ▷ power t
plus_ten (s ▷ run r) t = cond (leb 1 (run_value r)) (s ▷ times r t) (s ▷ run r ▷ power t)
plus_ten (s ▷ times r q) t = s ▷ times r q ▷ power t
plus_ten (s ▷ power q) t = s ▷ power q ▷ power t

pub ten_is : (s : Row Atom) (t : Ten) → with_ten (λ n. n) (atoms_of s) (ten_value t) ≡ atoms_of (plus_ten s t)
ten_is (one (run r)) t = go (leb 1 (run_value r))
  where
    go : (b : Bool) → cond b (atoms_of (one (times r t))) (another (λ n. n) (atoms_of (one (run r))) (ten_value t) (ten_value t) false) ≡ atoms_of (cond b (one (times r t)) (one (run r) ▷ power t))
    go true = refl
    go false = another_is (one (run r)) (power t)
ten_is (one (times r q)) t = rw (ten_no_run q) (another_is (one (times r q)) (power t))
ten_is (one (power q)) t = rw (ten_no_run q) (another_is (one (power q)) (power t))
ten_is (s ▷ run r) t = go (leb 1 (run_value r))
  where
    go : (b : Bool) → cond b (atoms_of (s ▷ times r t)) (another (λ n. n) (atoms_of (s ▷ run r)) (ten_value t) (ten_value t) false) ≡ atoms_of (cond b (s ▷ times r t) (s ▷ run r ▷ power t))
    go true = refl
    go false = another_is (s ▷ run r) (power t)
ten_is (s ▷ times r q) t = rw (ten_no_run q) (another_is (s ▷ times r q) (power t))
ten_is (s ▷ power q) t = rw (ten_no_run q) (another_is (s ▷ power q) (power t))

pub ten_text_lem : (s : Row Atom) (t : Ten) (w : List Char) → small_text (plus_ten s t) w ≡ small_text s (ten t ∷ w)
ten_text_lem (one (run r)) t w = go (leb 1 (run_value r))
  where
    go : (b : Bool) → small_text (cond b (one (times r t)) (one (run r) ▷ power t)) w ≡ small_text (one (run r)) (ten t ∷ w)
    go true = refl
    go false = refl
ten_text_lem (one (times r q)) t w = refl
ten_text_lem (one (power q)) t w = refl
ten_text_lem (s ▷ run r) t w = go (leb 1 (run_value r))
  where
    go : (b : Bool) → small_text (cond b (s ▷ times r t) (s ▷ run r ▷ power t)) w ≡ small_text (s ▷ run r) (ten t ∷ w)
    go true = refl
    go false = refl
ten_text_lem (s ▷ times r q) t w = refl
ten_text_lem (s ▷ power q) t w = refl

-- ---- the tests and the grammar's rules
pub stands_below : (s : Row Atom) (a : Atom) → stands (atoms_of (s ▷ a)) ≡ true → Below (near_base s) (atom_value a) (atom_base a)
stands_below s a = go (near_base s)
  where
    go : (n : Option ℕ) → ltb (atom_value a) (or_zero n) && ltb (atom_base a) (or_zero n) ≡ true → Below n (atom_value a) (atom_base a)
    go none e = let h : atom_value a < 0 = true_le _ _ (and_left (ltb (atom_value a) 0) _ e) in absurd (omega arith)
    go (some n) e = (true_le _ _ (and_left (ltb (atom_value a) n) _ e), true_le _ _ (and_right (ltb (atom_value a) n) _ e))

pub below_stands : (s : Row Atom) (a : Atom) → Below (near_base s) (atom_value a) (atom_base a) → stands (atoms_of (s ▷ a)) ≡ true
below_stands s a = go (near_base s)
  where
    go : (n : Option ℕ) → Below n (atom_value a) (atom_base a) → ltb (atom_value a) (or_zero n) && ltb (atom_base a) (or_zero n) ≡ true
    go none h = absurd h
    go (some n) h = rw (le_true h.0, le_true h.1)

-- what may follow an atom does not turn on how long a run is
pub follows_any : (a : Atom) (r q : Row Digit) → Follows a (run r) → Follows a (run q)
follows_any (run p) r q f = f
follows_any (times p t) r q f = tt
follows_any (power t) r q f = tt

pub follows_times : (a : Atom) (r : Row Digit) (t : Ten) → Follows a (run r) → Follows a (times r t)
follows_times (run p) r t f = f
follows_times (times p q) r t f = tt
follows_times (power q) r t f = tt

pub times_follows : (a : Atom) (r : Row Digit) (t : Ten) → Follows a (times r t) → Follows a (run r)
times_follows (run p) r t f = f
times_follows (times p q) r t f = tt
times_follows (power q) r t f = tt

no_value : (v : ℕ) → leb 1 v ≡ false → v ≡ 0
no_value v e = let l : v < 1 = false_lt 1 v e in omega arith

pub digit_rules : (s : Row Atom) (d : Digit) → IsSmall s → stands (atoms_of (plus_digit s d)) ≡ true → IsSmall (plus_digit s d)
digit_rules (one (run r)) d i e = tt
digit_rules (one (times r t)) d i e = (i, tt, tt, stands_below (one (times r t)) (run (one d)) e)
digit_rules (one (power t)) d i e = (i, tt, tt, stands_below (one (power t)) (run (one d)) e)
digit_rules (s ▷ run r) d i e = (i.0, follows_any (last s) r (r ▷ d) i.1, tt, stands_below s (run (r ▷ d)) e)
digit_rules (s ▷ times r t) d i e = (i, tt, tt, stands_below (s ▷ times r t) (run (one d)) e)
digit_rules (s ▷ power t) d i e = (i, tt, tt, stands_below (s ▷ power t) (run (one d)) e)

pub ten_rules : (s : Row Atom) (t : Ten) → IsSmall s → stands (atoms_of (plus_ten s t)) ≡ true → IsSmall (plus_ten s t)
ten_rules (one (run r)) t i e = go (leb 1 (run_value r)) refl e
  where
    go : (b : Bool) → leb 1 (run_value r) ≡ b → stands (atoms_of (cond b (one (times r t)) (one (run r) ▷ power t))) ≡ true → IsSmall (cond b (one (times r t)) (one (run r) ▷ power t))
    go true h e = true_le 1 _ h
    go false h e = (tt, no_value (run_value r) h, tt, stands_below (one (run r)) (power t) e)
ten_rules (one (times r q)) t i e = (i, tt, tt, stands_below (one (times r q)) (power t) e)
ten_rules (one (power q)) t i e = (i, tt, tt, stands_below (one (power q)) (power t) e)
ten_rules (s ▷ run r) t i e = go (leb 1 (run_value r)) refl e
  where
    go : (b : Bool) → leb 1 (run_value r) ≡ b → stands (atoms_of (cond b (s ▷ times r t) (s ▷ run r ▷ power t))) ≡ true → IsSmall (cond b (s ▷ times r t) (s ▷ run r ▷ power t))
    go true h e = (i.0, follows_times (last s) r t i.1, true_le 1 _ h, stands_below s (times r t) e)
    go false h e = (i, no_value (run_value r) h, tt, stands_below (s ▷ run r) (power t) e)
ten_rules (s ▷ times r q) t i e = (i, tt, tt, stands_below (s ▷ times r q) (power t) e)
ten_rules (s ▷ power q) t i e = (i, tt, tt, stands_below (s ▷ power q) (power t) e)

-- ---- blocks
large_based : (l : Large) → eqb (large_value l) 0 ≡ false
large_based 万 = refl
large_based 億 = refl
large_based 兆 = refl

pub block_based : (m : Member) → IsBlock m → eqb (member_base m) 0 ≡ false
block_based (small s) h = absurd h
block_based (block s l) h = large_based l
block_based (lone l) h = large_based l

-- one member more
abbrev pub plus : Option Division → Member → Division
plus none m = one m
plus (some d) m = d ▷ m

pub plus_text : (o : Option Division) (m : Member) (w : List Char) → division_text (plus o m) w ≡ before_text o (member_text m w)
plus_text none m w = refl
plus_text (some d) m w = refl

pub plus_is : (o : Option Division) (m : Member) → IsBlock m → record { sum = (blocks_of o).sum + member_value m; base = member_base m } ≡ blocks_of (some (plus o m))
plus_is o (small s) h = absurd h
plus_is none (block s l) h = rw zero-add
plus_is none (lone l) h = rw zero-add
plus_is (some d) (block s l) h = refl
plus_is (some d) (lone l) h = refl

-- a member that is not counted as digit times base/10
module _ (d : Division) (m : Member) (h : IsBlock (last d)) where
  pub fits_below : (v n : ℕ) → fits (blocks_of (some d)) v n ≡ true → (v < member_base (last d)) × (n < member_base (last d))
  fits_below v n e = let t : ltb v (member_base (last d)) && ltb n (member_base (last d)) ≡ true = rw (block_based (last d) h) at e in (true_le _ _ (and_left (ltb v (member_base (last d))) _ t), true_le _ _ (and_right (ltb v (member_base (last d))) _ t))

  pub below_fits : (v n : ℕ) → (v < member_base (last d)) × (n < member_base (last d)) → fits (blocks_of (some d)) v n ≡ true
  below_fits v n k = rw (block_based (last d) h, le_true k.0, le_true k.1)

pub plus_rules : (o : Option Division) (m : Member) → Blocked o → IsMember m → IsBlock m → fits (blocks_of o) (member_value m) (member_base m) ≡ true → Blocked (some (plus o m))
plus_rules o (small s) g i h e = absurd h
plus_rules none (block s l) g i h e = (i, tt)
plus_rules none (lone l) g i h e = (tt, tt)
plus_rules (some d) (block s l) g i h e = let k = fits_below d (block s l) g.1 _ _ e in ((g.0, g.1, i, k.0, k.1), tt)
plus_rules (some d) (lone l) g i h e = let k = fits_below d (lone l) g.1 _ _ e in ((g.0, g.1, tt, k.0, k.1), tt)

-- ---- a last small behind blocks
single_is : (s : Row Atom) → ((atoms_of s).first && ((atoms_of s).lone && leb 1 (atoms_of s).value)) ≡ leb 1 (single_digit (small s))
single_is (one (run (one d))) = refl
single_is (one (run (r ▷ d))) = refl
single_is (one (times r t)) = refl
single_is (one (power t)) = refl
single_is (s ▷ a) = refl

single_value : (s : Row Atom) (x : ℕ) → cond (leb 1 (single_digit (small s))) ((atoms_of s).value * x) ((atoms_of s).sum + (atoms_of s).value) ≡ cond (leb 1 (single_digit (small s))) (single_digit (small s) * x) (small_value s)
single_value (one (run (one d))) x = rw zero-add
single_value (one (run (r ▷ d))) x = zero-add _
single_value (one (times r t)) x = zero-add _
single_value (one (power t)) x = zero-add _
single_value (s ▷ a) x = refl

single_base : (s : Row Atom) (n : ℕ) → cond (leb 1 (single_digit (small s))) n (atoms_of s).base ≡ cond (leb 1 (single_digit (small s))) n (small_base s)
single_base (one a) n = refl
single_base (s ▷ a) n = refl

module _ (d : Division) (s : Row Atom) (h : IsBlock (last d)) where
  pub counted_value_lem : counted_value (λ n. n) (blocks_of (some d)) (atoms_of s) ≡ count_value (member_base (last d)) (small s)
  counted_value_lem = rw (block_based (last d) h, single_is s) (single_value s _)

  pub counted_base_lem : counted_base (λ n. n) (blocks_of (some d)) (atoms_of s) ≡ count_base (member_base (last d)) (small s)
  counted_base_lem = rw (block_based (last d) h, single_is s) (single_base s _)
