-- The candidates by number (`sheet_counts`, specs/Numbered.antt) are the candidates (`specs/Sheet.antt`), and rows from one of them on.
-- In order: words that end with each character; all words of at most n characters; the candidates; rows from one of them on; as many as are counted.
use Prim.Native.Nat.{ℕ, zero, suc, ◌+◌, ◌*◌, ◌-◌, ◌/◌, ◌%◌, ◌≤◌, ◌<◌}
use mathlib.Core.Path.{◌≡◌, refl, sym, ap, ◌∙◌}
use mathlib.Core.Bool.{Bool, true, false}
use mathlib.Core.List.{List, [], ◌∷◌, ◌++◌, map, append-nil}
use mathlib.Core.Option.{Option, none, some}
use native.Mathlib.Omega.{arith}
use lib.Dec.{ltb}
use lib.ListN.{length, get_or, drop, drop_of_length-le, length-drop, get_or-append}
use lib.Seq.{drop-cons, drop-drop, get_or-append-add}
use borrow.Author.Tests.{ltb-true, ltb-false}
use Rattle.grammar.specs.Plain.{Char, digit, 零}
use Rattle.sheet_rows.specs.Rows.{order, char_at, numeral_within, row_if, rows_of}
use Rattle.sheet_counts.specs.Numbered.{word_of, candidate, one, rows_in}
use Rattle.sheet.specs.Sheet.{prefixed, words, candidates, sheet}
use Rattle.sheet.specs.Walk.{At}

-- ---- words that end with each character

-- w with each of the sixteen behind it
abbrev endings : List Char → List (List Char)
endings w = map (λ c. w ++ (c ∷ [])) order

unfoldable ended : List (List Char) → List (List Char)
ended [] = []
ended (w ∷ ws) = endings w ++ ended ws

ended_append : (ws us : List (List Char)) → ended (ws ++ us) ≡ ended ws ++ ended us
unfolding ended
ended_append [] us = refl
ended_append (w ∷ ws) us = rw (ended_append ws us)

ended_map : (c : Char) (ws : List (List Char)) → ended (map (λ w. c ∷ w) ws) ≡ map (λ w. c ∷ w) (ended ws)
unfolding ended
ended_map c [] = refl
ended_map c (w ∷ ws) = rw (ended_map c ws)

ended_prefixed : (cs : List Char) (ws : List (List Char)) → ended (prefixed cs ws) ≡ prefixed cs (ended ws)
unfolding ended
ended_prefixed [] ws = refl
ended_prefixed (c ∷ cs) ws = ended_append (map (λ w. c ∷ w) ws) (prefixed cs ws) ∙ rw (ended_map c ws, ended_prefixed cs ws)

ended_words : (n : ℕ) → ended (words n) ≡ words (suc n)
unfolding ended words
ended_words zero = refl
ended_words (suc n) = ended_prefixed order (words n) ∙ ap (prefixed order) (ended_words n)

length_ended : (ws : List (List Char)) → length (ended ws) ≡ 16 * length ws
unfolding ended
length_ended [] = refl
length_ended (w ∷ ws) = omega (arith, length_ended ws)

-- the i-th of sixteen
at_order : (cs : List Char) (w : List Char) (i : ℕ) → i < length cs → get_or (map (λ c. w ++ (c ∷ [])) cs) i [] ≡ w ++ (get_or cs i (digit 零) ∷ [])
at_order [] w i h = absurd (omega arith)
at_order (c ∷ cs) w zero h = refl
at_order (c ∷ cs) w (suc i) h = at_order cs w i (omega arith)

ended_at : (ws : List (List Char)) (i : ℕ) → i < 16 * length ws → get_or (ended ws) i [] ≡ get_or ws (i / 16) [] ++ (char_at (i % 16) ∷ [])
unfolding ended
ended_at [] i h = absurd (omega arith)
ended_at (w ∷ ws) i h = go (ltb i 16) refl (ended_at ws (i - 16))
  where
    go : (b : Bool) → ltb i 16 ≡ b → (i - 16 < 16 * length ws → get_or (ended ws) (i - 16) [] ≡ get_or ws ((i - 16) / 16) [] ++ (char_at ((i - 16) % 16) ∷ []))
        → get_or (endings w ++ ended ws) i [] ≡ get_or (w ∷ ws) (i / 16) [] ++ (char_at (i % 16) ∷ [])
    go true e ih =
        let l = ltb-true i 16 e in
        let q : i / 16 ≡ 0 = omega arith in
        let r : i % 16 ≡ i = omega arith in
        get_or-append (endings w) (ended ws) [] i l ∙ at_order order w i l ∙ rw (q, r)
    go false e ih =
        let l = ltb-false i 16 e in
        let s : i ≡ length (endings w) + (i - 16) = omega arith in
        let q : i / 16 ≡ suc ((i - 16) / 16) = omega arith in
        let r : i % 16 ≡ (i - 16) % 16 = omega arith in
        ap (λ (k : ℕ). get_or (endings w ++ ended ws) k []) s ∙ get_or-append-add (endings w) (ended ws) (i - 16) [] ∙ ih (omega arith) ∙ rw (q, r)

-- ---- all words of at most m characters
unfoldable up_to : ℕ → List (List Char)
up_to zero = [] ∷ []
up_to (suc m) = [] ∷ ended (up_to m)

up_to_at : (m n : ℕ) → n < length (up_to m) → get_or (up_to m) n [] ≡ word_of m n
unfolding up_to word_of
up_to_at zero zero h = refl
up_to_at zero (suc n) h = absurd (omega arith)
up_to_at (suc m) zero h = refl
up_to_at (suc m) (suc n) h =
    let l = length_ended (up_to m) in
    ended_at (up_to m) n (omega arith) ∙ ap (λ (w : List Char). w ++ (char_at (n % 16) ∷ [])) (up_to_at m (n / 16) (omega arith))

length_up_to : (m : ℕ) → length (up_to (suc m)) ≡ 16 * length (up_to m) + 1
unfolding up_to
length_up_to m = omega (arith, length_ended (up_to m))

up_to_none : length (up_to 0) ≡ 1
unfolding up_to
up_to_none = refl

-- ---- the candidates
ended_first : (us : List (List Char)) → ended ([] ∷ us) ≡ words 1 ++ ended us
unfolding ended words
ended_first us = refl

ended_nil : ended [] ≡ []
unfolding ended
ended_nil = refl

candidates_are : [] ∷ candidates ≡ up_to 4
unfolding candidates up_to
candidates_are = simp (ended_first, ended_nil, append-nil, ended_append, ended_words)

pub length_candidates : length candidates ≡ 69904
length_candidates = omega (arith, ap length candidates_are, length_up_to 3, length_up_to 2, length_up_to 1, length_up_to 0, up_to_none)

-- the candidate at i, and those behind it
pub candidates_drop : (i : ℕ) → i < 69904 → drop i candidates ≡ candidate i ∷ drop (suc i) candidates
unfolding candidate
candidates_drop i h =
    drop-cons candidates i [] (omega (arith, length_candidates))
    ∙ ap (λ (w : List Char). w ∷ drop (suc i) candidates) (ap (λ (l : List (List Char)). get_or l (suc i) []) candidates_are ∙ up_to_at 4 (suc i) (omega (arith, length_candidates, ap length candidates_are)))

-- ---- rows from a candidate on

pub at_front : At 0 0
unfolding sheet
at_front = record { rest = refl }

pub rows_first : (i : ℕ) → i < 69904 → rows_of numeral_within (drop i candidates) ≡ row_if (candidate i) (numeral_within (candidate i)) (rows_of numeral_within (drop (suc i) candidates))
unfolding rows_of
rows_first i h = rw (candidates_drop i h)

-- behind a candidate that has no row, or has one
pub at_none : (i p : ℕ) → i < 69904 → numeral_within (candidate i) ≡ none → At i p → At (suc i) p
at_none i p h e a = record { rest = a.rest ∙ rows_first i h ∙ rw e }

pub at_row : (i p v : ℕ) → i < 69904 → numeral_within (candidate i) ≡ some v → At i p → drop p sheet ≡ (candidate i, v) ∷ rows_of numeral_within (drop (suc i) candidates)
at_row i p v h e a = a.rest ∙ rows_first i h ∙ rw e

drop_tail : {A : Type 0} (p : ℕ) (l : List A) (a : A) (t : List A) → drop p l ≡ a ∷ t → drop (p + 1) l ≡ t
drop_tail p l a t e = sym (drop-drop 1 p l) ∙ ap (drop 1) e

pub at_some : (i p v : ℕ) → i < 69904 → numeral_within (candidate i) ≡ some v → At i p → At (suc i) (p + 1)
at_some i p v h e a = record { rest = drop_tail p sheet (candidate i, v) _ (at_row i p v h e a) }

-- behind k candidates
at_is : {i j p q : ℕ} → i ≡ j → p ≡ q → At i p → At j q
at_is e f a = rw (← e, ← f) a

pub at_more : (k i p : ℕ) → k + i ≤ 69904 → At i p → At (i + k) (p + rows_in k i)
unfolding rows_in
at_more zero i p h a = at_is (omega arith) (omega arith) a
at_more (suc k) i p h a = go (numeral_within (candidate i)) refl (λ q. at_more k (suc i) q (omega arith))
  where
    go : (o : Option ℕ) → numeral_within (candidate i) ≡ o → ((q : ℕ) → At (suc i) q → At (suc i + k) (q + rows_in k (suc i))) → At (i + suc k) (p + (one o + rows_in k (suc i)))
    go none e ih = at_is (omega arith) (omega arith) (ih p (at_none i p (omega arith) e a))
    go (some v) e ih = at_is (omega arith) (omega arith) (ih (p + 1) (at_some i p v (omega arith) e a))

-- ---- as many as are counted
pub rows_left : (k i : ℕ) → k + i ≡ 69904 → length (rows_of numeral_within (drop i candidates)) ≡ rows_in k i
unfolding rows_in rows_of
rows_left zero i h = rw (drop_of_length-le candidates {i = i} (omega (arith, length_candidates)))
rows_left (suc k) i h = ap length (rows_first i (omega arith)) ∙ go (numeral_within (candidate i)) (rows_left k (suc i) (omega arith))
  where
    go : (o : Option ℕ) → length (rows_of numeral_within (drop (suc i) candidates)) ≡ rows_in k (suc i) → length (row_if (candidate i) o (rows_of numeral_within (drop (suc i) candidates))) ≡ one o + rows_in k (suc i)
    go none e = omega arith
    go (some v) e = omega arith

-- ---- the end of the candidates
pub at_end : (i p q : ℕ) → 69904 ≤ i → p ≤ q → At i p → At i q
unfolding rows_of
at_end i p q h l a =
    let e : drop i candidates ≡ [] = drop_of_length-le candidates {i = i} (omega (arith, length_candidates)) in
    let none_left : drop p sheet ≡ [] = a.rest ∙ rw e in
    let k : length sheet ≤ q = omega (arith, sym (length-drop p sheet) ∙ ap length none_left) in
    record { rest = drop_of_length-le sheet {i = q} k ∙ rw e }
