-- A written plot number is a numeral of the grammar, with the number it came from as its value.
-- In order: what a group writes; one block more; the last group; the whole.
-- In the signatures T is what the groups of h have written, the last of them worth u.
use Prim.Native.Nat.{ℕ, zero, suc, ◌+◌, ◌*◌, ◌/◌, ◌%◌, ◌≤◌, ◌<◌}
use mathlib.Core.Path.{◌≡◌, refl, sym, ◌∙◌}
use mathlib.Core.Bool.{Bool, false}
use mathlib.Core.List.{List, [], ◌∷◌, ◌++◌, append_assoc, append-nil}
use native.Mathlib.Omega.{arith}
use native.Mathlib.Nat.{mul-lt-mul_of_pos_right}
use lib.Dec.{ltb, lit≤}
use Rattle.grammar.specs.Plain.{Large, Char, large, large_value, 零, 十, 百, 千, 万, 億, 兆}
use Rattle.table_grammar.specs.Row.{one, ◌▷◌, last}
use Rattle.grammar.specs.Grammar.{Atom, run, times, power, atom_base, Member, small, block, Division, member_base, single_digit, member_value, member_text, IsMember, IsBlock, IsNumeral, division_value, division_text, Reading}
use Rattle.table_grammar.proofs.Tests.{le_true, false_lt, eqb-false}
use Rattle.writing.specs.Writing.{cut, zero_if, group, group_part, writing, NoneCounted}
use Rattle.grammar.proofs.ReadingWithin.{large_least}
use Rattle.writing.proofs.GroupSmall.{Group, group_small}

-- ---- what a group writes
part_zero : (h : ℕ) (m : List Char) → group_part h 0 m ≡ []
unfolding group_part
part_zero h m = refl

part_first : (g : ℕ) (m : List Char) → 1 ≤ g → group_part 0 g m ≡ group g ++ m
unfolding group_part
part_first g m l = rw (eqb-false g 0 (λ e. omega arith))

part_later : (h g : ℕ) (m : List Char) → 1 ≤ h → 1 ≤ g → group_part h g m ≡ zero_if (ltb g 1000) ++ (group g ++ m)
unfolding group_part
part_later h g m k l = rw (eqb-false g 0 (λ e. omega arith), le_true k)

-- ---- numerals

-- the members of a numeral with the text T and the value v
pub record Numeral (T : List Char) (v : ℕ) : Type 0 where
  pub division : Division
  pub rules : IsNumeral division
  pub text : (w : List Char) → division_text division w ≡ T ++ w
  pub value : division_value division ≡ v
  pub counts : NoneCounted division

-- it goes on with members below b
record GoesOn (d : Division) (b : ℕ) : Type 0 where
  ends : IsBlock (last d)
  room : b ≤ member_base (last d)

-- one member more, which is no single digit
more : {T : List Char} {v b : ℕ} (g : Numeral T v) → GoesOn g.division b → (m : Member) (A : List Char) (x : ℕ) → IsMember m → member_value m < b → member_base m < b
    → single_digit m ≡ 0 → v + member_value m ≡ x → ((w : List Char) → member_text m w ≡ A ++ w) → Numeral (T ++ A) x
more {T} {v} g o m A x ok value-below base-below s sum e = record {
  division = g.division ▷ m;
  rules = (g.rules, o.ends, ok, rw s (omega (arith, o.room)), rw s (omega (arith, o.room)));
  text = λ w. g.text (member_text m w) ∙ rw (e w, append_assoc T A w);
  value = rw (s, g.value) sum;
  counts = (g.counts, s);
}

-- ---- one group more
data Groups (T : List Char) (h u : ℕ) : Type 0 where
  nothing : h ≡ 0 → T ≡ [] → Groups T h u
  blocks : 1 ≤ h → (g : Numeral T (h * u)) → GoesOn g.division u → Groups T h u

-- a zero group writes nothing
same_text : (T : List Char) (h : ℕ) (m : List Char) → T ++ group_part h 0 m ≡ T
same_text T h m = rw (part_zero h m) (append-nil T)

same : {T : List Char} {v : ℕ} (h x : ℕ) (m : List Char) → Numeral T v → v ≡ x → Numeral (T ++ group_part h 0 m) x
same {T} h x m g e = record { division = g.division; rules = g.rules; text = λ w. rw (same_text T h m) (g.text w); value = g.value ∙ e; counts = g.counts }

-- the member of a group with or without a 零 before it, that is followed by 万, 億 or 兆
module _ {z : Bool} {T : List Char} {v : ℕ} (g : Group z T v) (l : Large) where
  block_text : (w : List Char) → member_text (block g.row l) w ≡ zero_if z ++ ((T ++ (large l ∷ [])) ++ w)
  block_text w = g.text (large l ∷ w) ∙ rw (append_assoc T (large l ∷ []) w)

  block_value : member_value (block g.row l) ≡ v * large_value l
  block_value = rw g.value

large_group : (T : List Char) (n h g : ℕ) (l : Large) → n ≡ 10000 * h + g → g < 10000
    → Groups T h (10000 * large_value l) → Groups (T ++ group_part h g (large l ∷ [])) n (large_value l)
unfolding same more
large_group T n h zero l e b (nothing h0 T0) = nothing (omega arith) (same_text T h (large l ∷ []) ∙ T0)
large_group T n h (suc g) l e b (nothing h0 T0) =
    let n-is : n ≡ suc g = omega arith in
    let s = group_small false (suc g) (omega arith) b in
    rw (h0, T0, part_first (suc g) (large l ∷ []) (omega arith), n-is)
    (blocks (omega arith)
    (record { division = one (block s.row l); rules = s.rules; text = block_text s l; value = block_value s l; counts = tt })
    (record { ends = tt; room = omega arith }))
large_group T n h zero l e b (blocks k g o) =
    blocks (omega arith) (same h (n * large_value l) (large l ∷ []) g (rw e (omega arith)))
    (record { ends = o.ends; room = omega (arith, o.room) })
large_group T n h (suc c) l e b (blocks k g o) =
    let z = ltb (suc c) 1000 in
    let s = group_small z (suc c) (omega arith) b in
    rw (part_later h (suc c) (large l ∷ []) k (omega arith))
    (blocks (omega arith)
    (more g o (block s.row l) (zero_if z ++ (group (suc c) ++ (large l ∷ []))) (n * large_value l) s.rules
    (rw (block_value s l) (mul-lt-mul_of_pos_right b (omega (arith, large_least l))))
    (omega (arith, large_least l))
    refl
    (rw (block_value s l, e) (omega arith))
    (λ w. block_text s l w ∙ sym (append_assoc (zero_if z) (group (suc c) ++ (large l ∷ [])) w)))
    (record { ends = tt; room = omega arith }))

-- ---- the last group
small_base_lem : (a : Atom) → atom_base a < 10000
small_base_lem (run r) = lit≤ tt
small_base_lem (times r 十) = lit≤ tt
small_base_lem (times r 百) = lit≤ tt
small_base_lem (times r 千) = lit≤ tt
small_base_lem (power 十) = lit≤ tt
small_base_lem (power 百) = lit≤ tt
small_base_lem (power 千) = lit≤ tt

not_single : (g : ℕ) → ltb g 1000 ≡ false → 10 ≤ g
not_single g e = omega (arith, false_lt (suc g) 1000 e)

last_group : (T : List Char) (n h g : ℕ) → n ≡ 10000 * h + g → g < 10000 → 1 ≤ n → Groups T h 10000 → Numeral (T ++ group_part h g []) n
last_group T n h zero e b p (nothing h0 T0) = absurd (omega arith)
last_group T n h (suc g) e b p (nothing h0 T0) =
    let n-is : n ≡ suc g = omega arith in
    let s = group_small false (suc g) (omega arith) b in
    rw (h0, T0, part_first (suc g) [] (omega arith), n-is)
    (record { division = one (small s.row); rules = s.rules; text = λ w. rw (append-nil (group (suc g))) (s.text w); value = s.value; counts = tt })
last_group T n h zero e b p (blocks k g o) = same h n [] g (omega arith)
last_group T n h (suc c) e b p (blocks k g o) =
    let z = ltb (suc c) 1000 in
    let s = group_small z (suc c) (omega arith) b in
    rw (part_later h (suc c) [] k (omega arith), append-nil (group (suc c)))
    (more g o (small s.row) (zero_if z ++ group (suc c)) n s.rules
    (omega (arith, s.value))
    (small_base_lem (last s.row))
    (s.single (not_single (suc c)))
    (omega (arith, s.value))
    (λ w. s.text w ∙ sym (append_assoc (zero_if z) (group (suc c)) w)))

-- ---- the whole

-- what can be written: sixteen digits
pub writing_numeral : (n : ℕ) → n < 10000000000000000 → Numeral (writing n) n
unfolding writing cut
writing_numeral zero b = record { division = one (small (one (run (one 零)))); rules = tt; text = λ w. refl; value = refl; counts = tt }
writing_numeral (suc c) b =
    let n = suc c in
    rw (eqb-false n 0 (λ e. omega arith))
    (last_group _ n (n / 10000) (n % 10000) (omega arith) (omega arith) (omega arith)
    (large_group _ (n / 10000) (n / 10000 / 10000) (n / 10000 % 10000) 万 (omega arith) (omega arith)
    (large_group _ (n / 10000 / 10000) (n / 10000 / 10000 / 10000) (n / 10000 / 10000 % 10000) 億 (omega arith) (omega arith)
    (large_group _ (n / 10000 / 10000 / 10000) (n / 10000 / 10000 / 10000 / 10000) (n / 10000 / 10000 / 10000 % 10000) 兆 (omega arith) (omega arith)
    (nothing (omega arith) refl)))))

-- the writing of n has a reading of value n
pub writing_reads : (n : ℕ) → n < 10000000000000000 → (r : Reading (writing n)) × (division_value r.division ≡ n) × NoneCounted r.division
writing_reads n b =
    let p = writing_numeral n b in
    (record { division = p.division; whole = p.text [] ∙ append-nil (writing n); rules = p.rules }, p.value, p.counts)
