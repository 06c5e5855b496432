-- Every numeral is read to its value (the grammar's `IsNumeral`, `specs/Numeral.antt`).
-- In order: a small's first atom; an atom behind a small; a small; blocks; a division.
use Prim.Native.Nat.{ℕ, ◌*◌, ◌≤◌, ◌<◌}
use mathlib.Core.Path.{◌≡◌, refl, ap, ◌∙◌}
use mathlib.Core.Bool.{true}
use mathlib.Core.List.{List, [], ◌∷◌}
use mathlib.Core.Option.{Option, none, some}
use native.Mathlib.Omega.{arith}
use native.Mathlib.Nat.{zero-add}
use Rattle.grammar.specs.Plain.{Digit, Ten, Char, digit, ten, large, 十, 百, 千, ten_value}
use Rattle.table_grammar.specs.Row.{Row, one, ◌▷◌, last}
use Rattle.grammar.specs.Grammar.{Atom, run, times, power, Member, small, block, lone, Division, run_value, atom_value, atom_base, IsAtom, Follows, near_base, Below, IsSmall, IsMember, IsBlock, IsNumeral, member_value, member_base, count_value, count_base, division_value, run_text, atom_text, small_text, member_text, division_text}
use Rattle.table_grammar.proofs.Tests.{le_true}
use Rattle.numeral.specs.declared.Blocks.{Blocks}
use Rattle.numeral.specs.declared.Atoms.{Atoms}
use Rattle.numeral.specs.Numeral.{State, in_numeral, in_small, fits, to_small, to_block, reads, result, start}
use Rattle.numeral.proofs.Parts.{atoms_of, blocks_of, sum_is, plus_digit, digit_is, plus_ten, ten_is, follows_any, times_follows, below_stands, block_based, plus, plus_is, below_fits, counted_value_lem, counted_base_lem}

abbrev exact : ℕ → ℕ
exact n = n

-- ---- a small's first atom
module _ (b : Blocks) where
  first_run : (r : Row Digit) (w : List Char) → reads exact (in_numeral b) (run_text r w) ≡ reads exact (in_small b (atoms_of (one (run r)))) w
  first_run (one d) w = refl
  first_run (r ▷ d) w = first_run r (digit d ∷ w)

  first_atom : (a : Atom) (w : List Char) → IsAtom a → reads exact (in_numeral b) (atom_text a w) ≡ reads exact (in_small b (atoms_of (one a))) w
  first_atom (run r) w i = first_run r w
  first_atom (times r t) w i = first_run r (ten t ∷ w) ∙ rw (le_true i)
  first_atom (power t) w i = refl

-- ---- an atom behind a small

-- its characters are a new atom's
new_digit : (s : Row Atom) (d : Digit) → Follows (last s) (run (one d)) → plus_digit s d ≡ s ▷ run (one d)
new_digit (one (run r)) d f = absurd f
new_digit (one (times r t)) d f = refl
new_digit (one (power t)) d f = refl
new_digit (s ▷ run r) d f = absurd f
new_digit (s ▷ times r t) d f = refl
new_digit (s ▷ power t) d f = refl

new_ten : (s : Row Atom) (t : Ten) → Follows (last s) (power t) → plus_ten s t ≡ s ▷ power t
new_ten (one (run r)) t f = rw f
new_ten (one (times r q)) t f = refl
new_ten (one (power q)) t f = refl
new_ten (s ▷ run r) t f = rw f
new_ten (s ▷ times r q) t f = refl
new_ten (s ▷ power q) t f = refl

-- and stay below the base while it grows
below_less : (n : Option ℕ) (v x b c : ℕ) → v ≤ x → b ≤ c → Below n x c → Below n v b
below_less none v x b c l k h = h
below_less (some n) v x b c l k h = (omega arith, omega arith)

ten_more : (t : Ten) (v : ℕ) → (v ≤ v * ten_value t) × (1 ≤ ten_value t)
ten_more 十 v = (omega arith, omega arith)
ten_more 百 v = (omega arith, omega arith)
ten_more 千 v = (omega arith, omega arith)

module _ (b : Blocks) (s : Row Atom) where
  -- a state that stands is reached
  next_state : (x : Atoms) (a : Atom) → x ≡ atoms_of (s ▷ a) → Below (near_base s) (atom_value a) (atom_base a) → to_small b x ≡ in_small b (atoms_of (s ▷ a))
  next_state x a e h = rw (e, below_stands s a h)

  next_run : (r : Row Digit) (w : List Char) → Follows (last s) (run r) → Below (near_base s) (run_value r) 1
      → reads exact (in_small b (atoms_of s)) (run_text r w) ≡ reads exact (in_small b (atoms_of (s ▷ run r))) w
  next_run (one d) w f h = ap (λ (a : State). reads exact a w) (next_state _ (run (one d)) (digit_is s d ∙ ap atoms_of (new_digit s d f)) h)
  next_run (r ▷ d) w f h =
      next_run r (digit d ∷ w) (follows_any (last s) (r ▷ d) r f) (below_less (near_base s) (run_value r) (run_value (r ▷ d)) 1 1 (omega arith) (omega arith) h)
      ∙ ap (λ (a : State). reads exact a w) (next_state _ (run (r ▷ d)) refl h)

  next_atom : (a : Atom) (w : List Char) → Follows (last s) a → IsAtom a → Below (near_base s) (atom_value a) (atom_base a)
      → reads exact (in_small b (atoms_of s)) (atom_text a w) ≡ reads exact (in_small b (atoms_of (s ▷ a))) w
  next_atom (run r) w f i h = next_run r w f h
  next_atom (times r t) w f i h =
      let m = ten_more t (run_value r) in
      next_run r (ten t ∷ w) (times_follows (last s) r t f) (below_less (near_base s) (run_value r) (run_value r * ten_value t) 1 (ten_value t) m.0 m.1 h)
      ∙ ap (λ (a : State). reads exact a w) (next_state _ (times r t) (ten_is (s ▷ run r) t ∙ rw (le_true i)) h)
  next_atom (power t) w f i h = ap (λ (a : State). reads exact a w) (next_state _ (power t) (ten_is s t ∙ ap atoms_of (new_ten s t f)) h)

-- ---- a small
found_small : (b : Blocks) (s : Row Atom) (w : List Char) → IsSmall s → reads exact (in_numeral b) (small_text s w) ≡ reads exact (in_small b (atoms_of s)) w
found_small b (one a) w i = first_atom b a w i
found_small b (s ▷ a) w i = found_small b s (atom_text a w) i.0 ∙ next_atom b s a w i.1 i.2 i.3

-- ---- blocks
block_state : (o : Option Division) (m : Member) → IsBlock m → fits (blocks_of o) (member_value m) (member_base m) ≡ true
    → to_block exact (blocks_of o) (member_value m) (member_base m) ≡ in_numeral (blocks_of (some (plus o m)))
block_state o m h e = rw e (ap in_numeral (plus_is o m h))

found_block : (o : Option Division) (m : Member) (w : List Char) → IsMember m → IsBlock m → fits (blocks_of o) (member_value m) (member_base m) ≡ true
    → reads exact (in_numeral (blocks_of o)) (member_text m w) ≡ reads exact (in_numeral (blocks_of (some (plus o m)))) w
found_block o (small s) w i h e = absurd h
found_block o (block s l) w i h e = found_small (blocks_of o) s (large l ∷ w) i ∙ rw (sum_is s) (ap (λ (a : State). reads exact a w) (block_state o (block s l) h e))
found_block o (lone l) w i h e = ap (λ (a : State). reads exact a w) (block_state o (lone l) h e)

block_fits : (d : Division) (m : Member) → IsBlock (last d) → IsBlock m
    → (count_value (member_base (last d)) m < member_base (last d)) × (count_base (member_base (last d)) m < member_base (last d))
    → fits (blocks_of (some d)) (member_value m) (member_base m) ≡ true
block_fits d (small s) g h l = absurd h
block_fits d (block s k) g h l = below_fits d (block s k) g _ _ l
block_fits d (lone k) g h l = below_fits d (lone k) g _ _ l

found_blocks : (d : Division) (w : List Char) → IsNumeral d → IsBlock (last d) → reads exact start (division_text d w) ≡ reads exact (in_numeral (blocks_of (some d))) w
found_blocks (one m) w i h = found_block none m w i h refl
found_blocks (d ▷ m) w i h = found_blocks d (member_text m w) i.0 i.1 ∙ found_block (some d) m w i.2 h (block_fits d m i.1 h (i.3, i.4))

-- ---- a division
blocks_result : (d : Division) → IsNumeral d → IsBlock (last d) → result exact (reads exact start (division_text d [])) ≡ some (division_value d)
blocks_result d i h = ap (result exact) (found_blocks d [] i h) ∙ rw (block_based (last d) h)

pub found : (d : Division) → IsNumeral d → result exact (reads exact start (division_text d [])) ≡ some (division_value d)
found (one (small s)) i = ap (result exact) (found_small _ s [] i) ∙ ap some (zero-add _ ∙ sum_is s)
found (one (block s l)) i = blocks_result (one (block s l)) i tt
found (one (lone l)) i = blocks_result (one (lone l)) i tt
found (d ▷ small s) i =
    ap (result exact) (found_blocks d (small_text s []) i.0 i.1 ∙ found_small (blocks_of (some d)) s [] i.2)
    ∙ rw (counted_value_lem d s i.1, counted_base_lem d s i.1, below_fits d (small s) i.1 _ _ (i.3, i.4))
found (d ▷ block s l) i = blocks_result (d ▷ block s l) i tt
found (d ▷ lone l) i = blocks_result (d ▷ lone l) i tt
