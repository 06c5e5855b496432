-- What is read to a value is a numeral of that value (`specs/Numeral.antt`, the grammar's `Reading`).
-- In order: where the tests pass; the end of the line; character by character.
use Prim.Native.Nat.{ℕ, ◌+◌}
use mathlib.Core.Path.{◌≡◌, refl, sym, ap, ◌∙◌}
use mathlib.Core.Bool.{Bool, true, false, cond}
use mathlib.Core.List.{List, [], ◌∷◌}
use mathlib.Core.Option.{Option, none, some, some-ne-none, some-injective}
use native.Mathlib.Nat.{zero-add}
use Rattle.grammar.specs.Plain.{Char, digit, ten, large, large_value}
use Rattle.table_grammar.specs.Row.{Row, one, ◌▷◌, last}
use Rattle.grammar.specs.Grammar.{Atom, run, power, small, block, lone, Division, IsSmall, division_value, small_text, member_value, member_base, count_value, count_base}
use Rattle.numeral.specs.declared.Blocks.{Blocks}
use Rattle.numeral.specs.declared.Atoms.{Atoms}
use Rattle.numeral.specs.Numeral.{State, in_numeral, in_small, failed, stands, fits, to_small, to_block, reads, result, Valued}
use Rattle.numeral.proofs.Parts.{atoms_of, blocks_of, Blocked, before_text, sum_is, plus_digit, digit_is, digit_text, digit_rules, plus_ten, ten_is, ten_text_lem, ten_rules, block_based, plus, plus_text, plus_is, plus_rules, fits_below, counted_value_lem, counted_base_lem}

abbrev exact : ℕ → ℕ
exact n = n

-- ---- where the tests pass
pub reads_failed : (cap : ℕ → ℕ) (w : List Char) → reads cap failed w ≡ failed
reads_failed cap [] = refl
reads_failed cap (digit d ∷ w) = reads_failed cap w
reads_failed cap (ten t ∷ w) = reads_failed cap w
reads_failed cap (large l ∷ w) = reads_failed cap w

nothing : (w : List Char) (v : ℕ) → result exact (reads exact failed w) ≡ some v → ⊥
nothing w v h = some-ne-none v (sym h ∙ ap (result exact) (reads_failed exact w))

small_passed : (b : Blocks) (s : Atoms) (w : List Char) (v : ℕ) → result exact (reads exact (to_small b s) w) ≡ some v
    → (stands s ≡ true) × (result exact (reads exact (in_small b s) w) ≡ some v)
small_passed b s w v = go (stands s)
  where
    go : (t : Bool) → result exact (reads exact (cond t (in_small b s) failed) w) ≡ some v → (t ≡ true) × (result exact (reads exact (in_small b s) w) ≡ some v)
    go true h = (refl, h)
    go false h = absurd (nothing w v h)

block_passed : (b : Blocks) (x n : ℕ) (w : List Char) (v : ℕ) → result exact (reads exact (to_block exact b x n) w) ≡ some v
    → (fits b x n ≡ true) × (result exact (reads exact (in_numeral (record { sum = b.sum + x; base = n })) w) ≡ some v)
block_passed b x n w v = go (fits b x n)
  where
    after : State
    after = in_numeral (record { sum = b.sum + x; base = n })

    go : (t : Bool) → result exact (reads exact (cond t after failed) w) ≡ some v → (t ≡ true) × (result exact (reads exact after w) ≡ some v)
    go true h = (refl, h)
    go false h = absurd (nothing w v h)

some_of : {A : Type 0} (t : Bool) (x y : A) → cond t (some x) none ≡ some y → (t ≡ true) × (x ≡ y)
some_of true x y h = (refl, some-injective x y h)
some_of false x y h = absurd (some-ne-none y (sym h))

-- ---- the end of the line
end_numeral : (o : Option Division) → Blocked o → (v : ℕ) → result exact (in_numeral (blocks_of o)) ≡ some v → Valued (before_text o []) v
end_numeral none g v h = absurd (some-ne-none v (sym h))
end_numeral (some d) g v h = (
  record { division = d; whole = refl; rules = g.0 },
  some-injective (division_value d) v (rw (block_based (last d) g.1) at h),
)

end_small : (o : Option Division) (s : Row Atom) → Blocked o → IsSmall s → (v : ℕ) → result exact (in_small (blocks_of o) (atoms_of s)) ≡ some v → Valued (before_text o (small_text s [])) v
end_small none s g i v h = (
  record { division = one (small s); whole = refl; rules = i },
  sym (sum_is s) ∙ sym (zero-add _) ∙ some-injective _ v h,
)
end_small (some d) s g i v h =
    let x = count_value (member_base (last d)) (small s) in
    let n = count_base (member_base (last d)) (small s) in
    let k : cond (fits (blocks_of (some d)) x n) (some (division_value d + x)) none ≡ some v = rw (counted_value_lem d s g.1, counted_base_lem d s g.1) at h in
    let (t, e) = some_of (fits (blocks_of (some d)) x n) (division_value d + x) v k in
    let l = fits_below d (small s) g.1 x n t in
    (record { division = d ▷ small s; whole = refl; rules = (g.0, g.1, i, l.0, l.1) }, e)

-- ---- character by character
mutual
  pub sound_numeral : (w : List Char) (o : Option Division) → Blocked o → (v : ℕ) → result exact (reads exact (in_numeral (blocks_of o)) w) ≡ some v → Valued (before_text o w) v
  sound_numeral [] o g v h = end_numeral o g v h
  sound_numeral (digit d ∷ w) o g v h = sound_small w o (one (run (one d))) g tt v h
  sound_numeral (ten t ∷ w) o g v h = sound_small w o (one (power t)) g tt v h
  sound_numeral (large l ∷ w) o g v h =
      let (f, k) = block_passed (blocks_of o) (large_value l) (large_value l) w v h in
      rw (← (plus_text o (lone l) w)) (sound_numeral w (some (plus o (lone l))) (plus_rules o (lone l) g tt tt f) v (rw (plus_is o (lone l) tt) at k))

  sound_small : (w : List Char) (o : Option Division) (s : Row Atom) → Blocked o → IsSmall s → (v : ℕ) → result exact (reads exact (in_small (blocks_of o) (atoms_of s)) w) ≡ some v → Valued (before_text o (small_text s w)) v
  sound_small [] o s g i v h = end_small o s g i v h
  sound_small (digit d ∷ w) o s g i v h =
      let (t, k) = small_passed (blocks_of o) (atoms_of (plus_digit s d)) w v (rw (digit_is s d) at h) in
      rw (← (digit_text s d w)) (sound_small w o (plus_digit s d) g (digit_rules s d i t) v k)
  sound_small (ten t ∷ w) o s g i v h =
      let (e, k) = small_passed (blocks_of o) (atoms_of (plus_ten s t)) w v (rw (ten_is s t) at h) in
      rw (← (ten_text_lem s t w)) (sound_small w o (plus_ten s t) g (ten_rules s t i e) v k)
  sound_small (large l ∷ w) o s g i v h =
      let (f, k) = block_passed (blocks_of o) (member_value (block s l)) (large_value l) w v (rw (sum_is s) at h) in
      rw (← (plus_text o (block s l) w)) (sound_numeral w (some (plus o (block s l))) (plus_rules o (block s l) g i tt f) v (rw (plus_is o (block s l) tt) at k))
