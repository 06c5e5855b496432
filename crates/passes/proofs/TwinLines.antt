-- Lines and their twins (02, S-11: "a one-to-one renaming of characters") go together one by one: two lines with the same twin are the same, and every line whose remaining
-- characters have a record in neither table is a twin. The words are defined in `specs/Renaming.antt`. Assumes nothing.
use Prim.Native.Nat.{ℕ}
use mathlib.Core.Path.{◌≡◌, refl, sym, ◌∙◌}
use mathlib.Core.List.{List, [], ◌∷◌}
use mathlib.Core.Option.{Option, none, some, some-ne-none}
use Rattle.table.specs.Table.{Record, Table, find}
use Rattle.passes.specs.Renaming.{Renaming, twin_char, twin, Remaining}

module _ (f : ℕ → ℕ) (t u : Table) (R : Renaming f t u) where
  same_char : (c d : ℕ) → (find t.records c ≡ none → find u.records c ≡ none) → (find t.records d ≡ none → find u.records d ≡ none)
      → twin_char f c (find t.records c) ≡ twin_char f d (find t.records d) → c ≡ d
  same_char c d p q e = go (find t.records c) (find t.records d) refl refl e
    where
      go : (o o' : Option Record) → find t.records c ≡ o → find t.records d ≡ o' → twin_char f c o ≡ twin_char f d o' → c ≡ d
      go none none h k e = e
      go none (some s) h k e = absurd (some-ne-none _ (sym (R.there d s k) ∙ rw (← e) (p h)))
      go (some r) none h k e = absurd (some-ne-none _ (sym (R.there c r h) ∙ rw e (q k)))
      go (some r) (some s) h k e = R.one_to_one c d r s h k e

  -- lines with the same twin are the same line
  pub same_line : (w v : List ℕ) → Remaining t u w → Remaining t u v → twin f t w ≡ twin f t v → w ≡ v
  same_line [] [] p q e = refl
  same_line [] (d ∷ v) p q e = absurd cc
  same_line (c ∷ w) [] p q e = absurd cc
  same_line (c ∷ w) (d ∷ v) p q e =
      let x : twin_char f c (find t.records c) ≡ twin_char f d (find t.records d) = cc in
      let y : twin f t w ≡ twin f t v = cc in
      let h = same_char c d p.0 q.0 x in
      let k = same_line w v p.1 q.1 y in
      rw (h, k)

  of_char : (d : ℕ) → (find u.records d ≡ none → find t.records d ≡ none)
      → (c : ℕ) × (find t.records c ≡ none → find u.records c ≡ none) × (twin_char f c (find t.records c) ≡ d)
  of_char d p = go (find u.records d) refl
    where
      go : (o : Option Record) → find u.records d ≡ o → (c : ℕ) × (find t.records c ≡ none → find u.records c ≡ none) × (twin_char f c (find t.records c) ≡ d)
      go none h = (d, (λ _. h), rw (p h))
      go (some s) h = let (c, r, k, e) = R.back d s h in (c, (λ n. absurd (some-ne-none r (sym k ∙ n))), rw k e)

  -- every line whose remaining characters have a record in neither table is a twin
  pub line_of_twin : (v : List ℕ) → Remaining u t v → (w : List ℕ) × Remaining t u w × (twin f t w ≡ v)
  line_of_twin [] p = ([], tt, refl)
  line_of_twin (d ∷ v) p =
      let (c, h, e) = of_char d p.0 in
      let (w, k, q) = line_of_twin v p.1 in
      (c ∷ w, (h, k), rw (e, q))
