-- What the call answers and leaves in the output, case by case (`specs/Worn.antt`); and for callers, that rows have room. No contract cites this file.
use Prim.Native.Nat.{ℕ, ◌≤◌}
use mathlib.Core.Path.{◌≡◌, refl, sym, ap, ◌∙◌}
use mathlib.Core.Bool.{Bool, true, false, cond}
use mathlib.Core.List.{List, [], ◌∷◌}
use mathlib.Core.Option.{Option, none, some}
use native.Mathlib.Omega.{arith}
use lib.Dec.{ltb}
use lib.ListN.{length, take}
use lib.Seq.{length-sets}
use borrow.Author.Tests.{ltb-false}
use Rattle.text.specs.Text.{chars, well_formed}
use Rattle.text.specs.Line.{line_check}
use Rattle.text.proofs.line.LineLaws.{checked_line}
use Rattle.edge.specs.Write.{Put}
use Rattle.grammar.specs.Plain.{Char}
use Rattle.sheet_rows.proofs.CodeLaws.{put_read}
use Rattle.worn.specs.Worn.{parts, worn_rows, worn_bytes, unless_none, finished, with_parts, worn_codes, checked, worn, line_rows, stored, output}
use Rattle.worn.specs.Marked.{worn_text, WornAt}
use Rattle.worn.specs.Tried.{AnswersRows}
use Rattle.worn.proofs.PartLaws.{found_parts, no_parts}
use Rattle.std.specs.Prelude.{Result, Ok, Err}
use Rattle.text.specs.declared.LineRefusal.{LineRefusal}
use Rattle.worn.specs.declared.WornRefusal.{WornRefusal}

module _ (line s : List ℕ) where
  -- the answer r for a line that is refused neither 2 nor 3, and the output afterwards
  abbrev pub Answers : Result ℕ WornRefusal → List ℕ → Type 0
  Answers r u = (r ≡ worn_codes (chars line) (length s)) × (u ≡ stored (line_rows line) s r)

  pub no_mark_answer : well_formed line ≡ true → ((x y : List Char) → line ≡ worn_text x y → ⊥) → Answers (Err WornRefusal.NotOneMark) s
  unfolding worn_codes
  no_mark_answer f h = (rw (no_parts line f h), refl)

  pub rows_answer : {at : ℕ} (w : WornAt line at) {b t : List ℕ} {n : ℕ} → Put b t 0 n (worn_bytes (worn_rows w.x w.y)) → n ≤ length b → {r : Result ℕ WornRefusal} {u : List ℕ} → AnswersRows (take n t) s r u → Answers r u
  unfolding worn_codes line_rows
  rows_answer w {b} put room a = let (e, o) = a (worn_rows w.x w.y) (put_read b _ put room) in (e ∙ rw (found_parts line w), o ∙ rw (found_parts line w))

  -- ---- the whole call
  pub refused : {r : LineRefusal} → Err r ≡ line_check line → (Err (WornRefusal.Line r) ≡ worn line (length s)) × (s ≡ output line s)
  unfolding worn output
  refused {r} e =
      let told : Err (WornRefusal.Line r) ≡ worn line (length s) = ap (λ (c : Result ℕ LineRefusal). checked c (worn_codes (chars line) (length s))) e in
      (told, ap (stored (line_rows line) s) told)

  module _ (n : ℕ) (e : Ok n ≡ line_check line) where
    pub accepted : (well_formed line ≡ true) × (length (chars line) ≤ 256)
    accepted = let (count, few, fine) = checked_line line n (sym e) in (fine, rw count at few)

    pub answered : {r : Result ℕ WornRefusal} {u : List ℕ} → Answers r u → (r ≡ worn line (length s)) × (u ≡ output line s)
    unfolding worn output
    answered a = let told = a.0 ∙ ap (λ (c : Result ℕ LineRefusal). checked c (worn_codes (chars line) (length s))) e in (told, a.1 ∙ ap (stored (line_rows line) s) told)

-- ---- for callers: rows that are stored have room
finished_fit : (rs : List (Char × ℕ)) (room n : ℕ) → finished rs room ≡ Ok n → n ≤ room
unfolding finished
finished_fit rs room n = go (ltb room (length (worn_bytes rs))) refl rs refl
  where
    go : (b : Bool) → ltb room (length (worn_bytes rs)) ≡ b → (l : List (Char × ℕ)) → rs ≡ l → cond b (Err WornRefusal.TooShort) (unless_none l) ≡ Ok n → n ≤ room
    go true f l q e = absurd cc
    go false f [] q e = absurd cc
    go false f (r ∷ l) q e =
        let size : length (worn_bytes (r ∷ l)) ≡ n = cc in
        omega (arith, size, ap (λ (l : List (Char × ℕ)). length (worn_bytes l)) q, ltb-false room (length (worn_bytes rs)) f)

pub rows_fit : (line : List ℕ) (room n : ℕ) → worn line room ≡ Ok n → n ≤ room
unfolding worn worn_codes
rows_fit line room n = go (line_check line) (parts (chars line))
  where
    go : (c : Result ℕ LineRefusal) (o : Option (List Char × List Char)) → checked c (with_parts o room) ≡ Ok n → n ≤ room
    go (Err (LineRefusal.IllFormed at)) o e = absurd cc
    go (Err (LineRefusal.TooLong at)) o e = absurd cc
    go (Ok k) none e = absurd cc
    go (Ok k) (some p) e = finished_fit (worn_rows p.0 p.1) room n e

pub rows_held : (line s : List ℕ) {t : List ℕ} (n : ℕ) {r : Result ℕ WornRefusal} → r ≡ Ok n → (r ≡ worn line (length s)) × (t ≡ output line s) → n ≤ length t
unfolding output
rows_held line s n q a =
    let told : worn line (length s) ≡ Ok n = sym a.0 ∙ q in
    let same = ap length (a.1 ∙ ap (stored (line_rows line) s) told) ∙ length-sets s 0 (worn_bytes (line_rows line)) in
    omega (arith, rows_fit line (length s) n told, same)
