-- Laws of words (`specs/Sheet.antt`): all words of a length are there, and they rise.
-- In order: characters before words; words of one length; the candidates; no word stands before itself.
use Prim.Native.Nat.{ℕ, zero, suc, ◌≤◌, ◌<◌}
use mathlib.Core.Path.{◌≡◌, refl, sym, ap, ◌∙◌}
use mathlib.Core.Logic.{◌⊎◌, inl, inr}
use mathlib.Core.List.Memᴰ
use mathlib.Core.List.{List, [], ◌∷◌, ◌++◌, map, Memᴰ}
use native.Mathlib.Omega.{arith}
use lib.ListN.{length}
use Rattle.grammar.specs.Plain.{Char}
use Rattle.sheet_rows.specs.Rows.{order, rank}
use Rattle.sheet_rows.proofs.Rising.{Rises, rises_append, rises_in}
use Rattle.sheet_rows.proofs.RowLaws.{order_rises, order_all}
use Rattle.sheet.specs.Sheet.{prefixed, words, candidates, Earlier, Before}

-- ---- characters before words

-- u is one of cs, then one of ws
record Prefixed (cs : List Char) (ws : List (List Char)) (u : List Char) : Type 0 where
  pub first : Char
  pub rest : List Char
  pub is : u ≡ first ∷ rest
  pub first_in : Memᴰ first cs
  pub rest_in : Memᴰ rest ws

prefixed_in : (cs : List Char) (ws : List (List Char)) (u : List Char) → Memᴰ u (prefixed cs ws) → Prefixed cs ws u
prefixed_in [] ws u m = absurd (Memᴰ.not-nil m)
prefixed_in (c ∷ cs) ws u m = go (Memᴰ.append_cases (map (λ w. c ∷ w) ws) m) (prefixed_in cs ws u)
  where
    go : Memᴰ u (map (λ w. c ∷ w) ws) ⊎ Memᴰ u (prefixed cs ws) → (Memᴰ u (prefixed cs ws) → Prefixed cs ws u) → Prefixed (c ∷ cs) ws u
    go (inl k) below = let (w, n, e) = Memᴰ.of_map (λ w. c ∷ w) ws k in record { first = c; rest = w; is = sym e; first_in = Memᴰ.head refl; rest_in = n }
    go (inr k) below = let b = below k in record { first = b.first; rest = b.rest; is = b.is; first_in = Memᴰ.tail b.first_in; rest_in = b.rest_in }

prefixed_has : (cs : List Char) (ws : List (List Char)) (c : Char) (w : List Char) → Memᴰ c cs → Memᴰ w ws → Memᴰ (c ∷ w) (prefixed cs ws)
prefixed_has [] ws c w m n = elim m [ ]
prefixed_has (d ∷ cs) ws c w (Memᴰ.head e) n = Memᴰ.append_left {s = map (λ w. d ∷ w) ws} (prefixed cs ws) (rw e (Memᴰ.map (λ w. d ∷ w) n))
prefixed_has (d ∷ cs) ws c w (Memᴰ.tail m) n = Memᴰ.append_right (map (λ w. d ∷ w) ws) (prefixed_has cs ws c w m n)

-- behind one character they stay in order
same_first : (c : Char) (ws : List (List Char)) → Rises Earlier ws → Rises Earlier (map (λ w. c ∷ w) ws)
same_first c [] h = tt
same_first c (w ∷ ws) h = (λ u m. let (v, n, e) = Memᴰ.of_map (λ w. c ∷ w) ws m in rw (← e) (inr (refl, h.0 v n)), same_first c ws h.1)

prefixed_rises : (cs : List Char) (ws : List (List Char)) → Rises (λ c d. rank c < rank d) cs → Rises Earlier ws → Rises Earlier (prefixed cs ws)
prefixed_rises [] ws h k = tt
prefixed_rises (c ∷ cs) ws h k = rises_append Earlier (map (λ w. c ∷ w) ws) (prefixed cs ws) (same_first c ws k) (prefixed_rises cs ws h.1 k) across
  where
    across : (v u : List Char) → Memᴰ v (map (λ w. c ∷ w) ws) → Memᴰ u (prefixed cs ws) → Earlier v u
    across v u m n =
        let (w, i, e) = Memᴰ.of_map (λ w. c ∷ w) ws m in
        let b = prefixed_in cs ws u n in
        rw (← e, b.is) (inl (h.0 b.first b.first_in))

-- ---- words of one length
pub word_length : (n : ℕ) (w : List Char) → Memᴰ w (words n) → length w ≡ n
unfolding words
word_length zero w m = ap length (Memᴰ.eq_of_singleton m)
word_length (suc n) w m = let b = prefixed_in order (words n) w m in ap length b.is ∙ ap suc (word_length n b.rest b.rest_in)

pub word_there : (w : List Char) → Memᴰ w (words (length w))
unfolding words
word_there [] = Memᴰ.head refl
word_there (c ∷ w) = prefixed_has order (words (length w)) c w (order_all c) (word_there w)

pub words_rise : (n : ℕ) → Rises Earlier (words n)
unfolding words
words_rise zero = (λ u m. absurd (Memᴰ.not-nil m), tt)
words_rise (suc n) = prefixed_rises order (words n) order_rises (words_rise n)

-- ---- the candidates

-- the words of n characters, and of those behind
abbrev Long : ℕ → ℕ → List (List Char) → Type 0
Long m n ws = (w : List Char) → Memᴰ w ws → (m ≤ length w) × (length w ≤ n)

long_words : (n : ℕ) → Long n n (words n)
long_words n w m = let e = word_length n w m in (omega arith, omega arith)

long_more : (n k : ℕ) (ws : List (List Char)) → n < k → Long (suc n) k ws → Long n k (words n ++ ws)
long_more n k ws l h w m = go (Memᴰ.append_cases (words n) m)
  where
    go : Memᴰ w (words n) ⊎ Memᴰ w ws → (n ≤ length w) × (length w ≤ k)
    go (inl i) = let e = word_length n w i in (omega arith, omega arith)
    go (inr i) = let b = h w i in (omega arith, omega arith)

before_words : (n : ℕ) → Rises Before (words n)
before_words n = rises_in Earlier Before (words n) (λ w u i j e. inr (word_length n w i ∙ sym (word_length n u j), e)) (words_rise n)

before_more : (n k : ℕ) (ws : List (List Char)) → Long (suc n) k ws → Rises Before ws → Rises Before (words n ++ ws)
before_more n k ws h r = rises_append Before (words n) ws (before_words n) r (λ w u i j. inl (omega (arith, word_length n w i, (h u j).0)))

long_three : Long 3 4 (words 3 ++ words 4)
long_three = long_more 3 4 (words 4) (omega arith) (long_words 4)

long_two : Long 2 4 (words 2 ++ (words 3 ++ words 4))
long_two = long_more 2 4 (words 3 ++ words 4) (omega arith) long_three

pub candidates_rise : Rises Before candidates
unfolding candidates
candidates_rise = before_more 1 4 _ long_two (before_more 2 4 _ long_three (before_more 3 4 _ (long_words 4) (before_words 4)))

-- a word is among those of its length
word_in : (n : ℕ) (w : List Char) → length w ≡ n → Memᴰ w (words n)
word_in n w e = rw e at (word_there w)

pub candidate_there : (w : List Char) → 1 ≤ length w → length w ≤ 4 → Memᴰ w candidates
unfolding candidates
candidate_there w l h = go (length w) refl l h
  where
    go : (n : ℕ) → length w ≡ n → 1 ≤ n → n ≤ 4 → Memᴰ w (words 1 ++ (words 2 ++ (words 3 ++ words 4)))
    go zero e a b = absurd (omega arith)
    go (suc zero) e a b = Memᴰ.append_left _ (word_in 1 w e)
    go (suc (suc zero)) e a b = Memᴰ.append_right (words 1) (Memᴰ.append_left _ (word_in 2 w e))
    go (suc (suc (suc zero))) e a b = Memᴰ.append_right (words 1) (Memᴰ.append_right (words 2) (Memᴰ.append_left _ (word_in 3 w e)))
    go (suc (suc (suc (suc zero)))) e a b = Memᴰ.append_right (words 1) (Memᴰ.append_right (words 2) (Memᴰ.append_right (words 3) (word_in 4 w e)))
    go (suc (suc (suc (suc (suc n))))) e a b = absurd (omega arith)

-- behind the two laws that tell of order and whole: it holds of other lists as well
pub candidate_length : (w : List Char) → Memᴰ w candidates → (1 ≤ length w) × (length w ≤ 4)
unfolding candidates
candidate_length w m = long_more 1 4 (words 2 ++ (words 3 ++ words 4)) (omega arith) long_two w m

-- ---- no word stands before itself
not_earlier : (w : List Char) → Earlier w w → ⊥
not_earlier [] e = e
not_earlier (c ∷ w) (inl l) = omega arith
not_earlier (c ∷ w) (inr e) = not_earlier w e.1

pub not_before : (w : List Char) → Before w w → ⊥
not_before w (inl l) = omega arith
not_before w (inr e) = not_earlier w e.1
