-- One character worn off the stone (02, S-10).
--     rows_iff       a row is there exactly where its character between x and y makes a numeral of the row's value, at most TOP
--     rows_in_order  the rows stand in the sheet's order, so that each character has one at most
--     rows_336       no rows have more than 336 bytes
--     row_iff        the same as rows_iff of a line: exactly where the line with □ replaced by the character has a reading of that value, up to TOP
--     twelve_iff     of the lines that are refused neither 2 nor 3, 12 for those without just one □ or with another character outside the table, and no other
--     thirteen_iff   13 for a line with such a □ for which none of the sixteen serves, whatever the output's length, and for no other
-- The words are defined in `specs/Worn.antt`, and `Valued w v`, a reading of w with the value v, in `numeral` (specs/Numeral.antt). Of proofs: `codes w`, the code points of
-- the characters w (proofs/PartLaws); `Accepted line`, a line refused neither 2 nor 3 (numeral, proofs/OneNumber); `Rises R l`, each element of l stands in R to all behind it
-- (sheet_rows, proofs/Rising). Assumes nothing.
use Prim.Native.Nat.{ℕ, ◌≤◌, ◌<◌}
use mathlib.Core.Path.{◌≡◌, refl, sym, ap, ◌∙◌}
use mathlib.Core.Logic.{◌↔◌}
use mathlib.Core.List.Memᴰ
use mathlib.Core.List.{List, [], ◌∷◌, ◌++◌, Memᴰ}
use mathlib.Core.Option.{Option, none, some}
use native.Mathlib.Omega.{arith}
use lib.ListN.{length}
use Rattle.text.specs.Text.{chars}
use Rattle.whole.specs.Whole.{TOP}
use Rattle.grammar.specs.Plain.{Char}
use Rattle.numeral.specs.Numeral.{Valued}
use Rattle.numeral.proofs.OneNumber.{Accepted}
use Rattle.sheet_rows.specs.Rows.{order, rank}
use Rattle.sheet_rows.proofs.Rising.{Rises}
use Rattle.sheet_rows.proofs.RowLaws.{order_rises, order_all, rows_in_lem, rows_has, rows_rise, rows_at_most, numeral_within_lem}
use Rattle.worn.specs.Worn.{mark, parts, serves, worn_rows, worn_bytes, finished, with_parts, worn_codes, worn, parts_rows, line_rows}
use Rattle.worn.proofs.PartLaws.{codes, parts_in, parts_has}
use Rattle.worn.proofs.FinishedLaws.{accepted_worn, between_worn, finished_marked, finished_none, none_finished, rows_size}
use Rattle.std.specs.Prelude.{Err}
use Rattle.worn.specs.declared.WornRefusal.TheVariants as WornRefusal

-- ---- the line with □ between the characters x and y
module _ (x y : List Char) where
  -- "each of the sixteen characters that makes the line a numeral not above TOP, with the value"
  pub rows_iff : (c : Char) (v : ℕ) → Memᴰ (c, v) (worn_rows x y) ↔ (Valued (x ++ (c ∷ y)) v × (v ≤ TOP))
  unfolding worn_rows
  rows_iff c v = (
    λ m. (numeral_within_lem (x ++ (c ∷ y)) v).0 (rows_in_lem (serves x y) order c v m).1,
    λ n. rows_has (serves x y) order c v (order_all c) ((numeral_within_lem (x ++ (c ∷ y)) v).1 n),
  )

  -- "in the proof sheet's order"
  pub rows_in_order : Rises (λ r s. rank r.0 < rank s.0) (worn_rows x y)
  unfolding worn_rows
  rows_in_order = rows_rise (serves x y) (λ c d. rank c < rank d) order order_rises

  -- "none of the sixteen serves"
  abbrev pub NoneServe : Type 0
  NoneServe = (c : Char) (v : ℕ) → Valued (x ++ (c ∷ y)) v → v ≤ TOP → ⊥

  pub none_iff : (worn_rows x y ≡ []) ↔ NoneServe
  none_iff = (λ e c v r t. Memᴰ.not-nil (rw e at ((rows_iff c v).1 (r, t))), go (worn_rows x y) refl)
    where
      go : (rs : List (Char × ℕ)) → worn_rows x y ≡ rs → NoneServe → worn_rows x y ≡ []
      go [] e h = e
      go (r ∷ rs) e h = let (q, t) = (rows_iff r.0 r.1).0 (rw e (Memᴰ.head refl)) in absurd (h r.0 r.1 q t)

  -- an output of so many bytes is never too short
  pub rows_336 : length (worn_bytes (worn_rows x y)) ≤ 336
  unfolding worn_rows
  rows_336 = omega (arith, rows_size (worn_rows x y) (λ c v m. ((rows_iff c v).0 m).1), rows_at_most (serves x y) order)

-- ---- a line

-- the line's characters are x, □ and y
abbrev pub Between : List ℕ → List Char → List Char → Type 0
Between line x y = chars line ≡ codes x ++ (mark ∷ codes y)

pub row_iff : (line : List ℕ) (c : Char) (v : ℕ) → Memᴰ (c, v) (line_rows line) ↔ ((x : List Char) × (y : List Char) × Between line x y × Valued (x ++ (c ∷ y)) v × (v ≤ TOP))
unfolding line_rows
row_iff line c v = (go (parts (chars line)) refl, λ h. rw (h.2, parts_has h.0 h.1) ((rows_iff h.0 h.1 c v).1 (h.3, h.4)))
  where
    go : (o : Option (List Char × List Char)) → parts (chars line) ≡ o → Memᴰ (c, v) (parts_rows o) → (x : List Char) × (y : List Char) × Between line x y × Valued (x ++ (c ∷ y)) v × (v ≤ TOP)
    go none e m = absurd (Memᴰ.not-nil m)
    go (some p) e m = let (r, t) = (rows_iff p.0 p.1 c v).0 m in (p.0, p.1, parts_in (chars line) p.0 p.1 e, r, t)

module _ (line : List ℕ) (fine : Accepted line) (room : ℕ) where
  between : (x y : List Char) → Between line x y → worn line room ≡ finished (worn_rows x y) room
  between x y b = accepted_worn line fine room ∙ ap (λ (cs : List ℕ). worn_codes cs room) b ∙ between_worn x y room

  pub twelve_iff : (worn line room ≡ Err WornRefusal.NotOneMark) ↔ ((x y : List Char) → Between line x y → ⊥)
  unfolding worn_codes
  twelve_iff = (λ e x y b. finished_marked (worn_rows x y) room (sym (between x y b) ∙ e), λ h. accepted_worn line fine room ∙ go (parts (chars line)) refl h)
    where
      go : (o : Option (List Char × List Char)) → parts (chars line) ≡ o → ((x y : List Char) → Between line x y → ⊥) → with_parts o room ≡ Err WornRefusal.NotOneMark
      go none e h = refl
      go (some p) e h = absurd (h p.0 p.1 (parts_in (chars line) p.0 p.1 e))

  pub thirteen_iff : (worn line room ≡ Err WornRefusal.NoneServes) ↔ ((x : List Char) × (y : List Char) × Between line x y × NoneServe x y)
  unfolding worn_codes
  thirteen_iff = (
    λ e. go (parts (chars line)) refl (sym (accepted_worn line fine room) ∙ e),
    λ (x, y, b, h). between x y b ∙ ap (λ (rs : List (Char × ℕ)). finished rs room) ((none_iff x y).1 h) ∙ none_finished room,
  )
    where
      go : (o : Option (List Char × List Char)) → parts (chars line) ≡ o → with_parts o room ≡ Err WornRefusal.NoneServes → (x : List Char) × (y : List Char) × Between line x y × NoneServe x y
      go none e k = absurd cc
      go (some p) e k = (p.0, p.1, parts_in (chars line) p.0 p.1 e, (none_iff p.0 p.1).0 (finished_none (worn_rows p.0 p.1) room k))
