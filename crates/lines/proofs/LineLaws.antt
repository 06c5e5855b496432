-- Laws of the lines of a list of bytes (`specs/Lines.antt`). No contract cites this file.
-- In order: bytes before lines; a turn of the walk to a line's end; bytes that are skipped; the lines behind the first. Assumes nothing.
use Prim.Native.Nat.{ℕ, zero, suc, ◌+◌, ◌-◌, ◌≤◌, ◌<◌}
use mathlib.Core.Path.{◌≡◌, refl, sym, ap, ◌∙◌, subst}
use mathlib.Core.Bool.{Bool, true, false, cond, not, ◌&&◌}
use mathlib.Core.List.{List, [], ◌∷◌, ◌++◌}
use native.Mathlib.Omega.{arith}
use native.Mathlib.Decide.{dec_lt}
use lib.Dec.{eqb}
use lib.ListN.{length, take, drop, get_or, drop_of_length-le, length-drop}
use lib.Seq.{take-suc, get_or-drop}
use borrow.Author.Tests.{eq-eqb, ne_eqb, eqb-false, not-true}
use Rattle.text.proofs.RowLaws.{and-true}
use Rattle.text.proofs.SequenceLaws.{drop_at}
use Rattle.fields.specs.Part.{part}
use Rattle.fields.proofs.PartLaws.{length_part}
use Rattle.lines.specs.Lines.{newline, Line, line, longer, lines_of, NoNewline, LineAt}

-- ---- bytes without a newline before lines
abbrev pub onto : List ℕ → List Line → List Line
onto [] ls = ls
onto (b ∷ t) ls = longer b (onto t ls)

onto_snoc : (t : List ℕ) (b : ℕ) (ls : List Line) → onto (t ++ (b ∷ [])) ls ≡ onto t (longer b ls)
onto_snoc [] b ls = refl
onto_snoc (c ∷ t) b ls = ap (longer c) (onto_snoc t b ls)

onto_newline : (t : List ℕ) (ls : List Line) → onto t (line [] 1 ∷ ls) ≡ line t (length t + 1) ∷ ls
onto_newline [] ls = refl
onto_newline (b ∷ t) ls = ap (longer b) (onto_newline t ls) ∙ ap (λ (n : ℕ). line (b ∷ t) n ∷ ls) (omega arith)

onto_end : (t : List ℕ) → 1 ≤ length t → onto t [] ≡ line t (length t) ∷ []
onto_end [] h = absurd (omega arith)
onto_end (b ∷ []) h = refl
onto_end (b ∷ (c ∷ t)) h = ap (longer b) (onto_end (c ∷ t) (omega arith))

lines_newline : (b : ℕ) (s : List ℕ) → b ≡ newline → lines_of (b ∷ s) ≡ line [] 1 ∷ lines_of s
unfolding lines_of
lines_newline b s e = rw (eq-eqb b newline e)

lines_other : (b : ℕ) (s : List ℕ) → (b ≡ newline → ⊥) → lines_of (b ∷ s) ≡ longer b (lines_of s)
unfolding lines_of
lines_other b s e = rw (ne_eqb b newline e)

pub lines_none : lines_of [] ≡ []
unfolding lines_of
lines_none = refl

-- ---- the walk to the end of the line from at on: no newline stands before i
pub record Walking (s : List ℕ) (at i : ℕ) : Type 0 where
  pub from : at ≤ i
  pub inside : i ≤ length s
  pub so_far : lines_of (drop at s) ≡ onto (part s at (i - at)) (lines_of (drop i s))

walk_start : (s : List ℕ) (at : ℕ) → at ≤ length s → Walking s at at
unfolding part
walk_start s at h = let z : at - at ≡ 0 = omega arith in record { from = omega arith; inside = h; so_far = rw z refl }

module _ (s : List ℕ) (at i : ℕ) (w : Walking s at i) where
  size : length (part s at (i - at)) ≡ i - at
  size = length_part s at (i - at) (omega (arith, w.from, w.inside))

  part_more : i < length s → part s at (i + 1 - at) ≡ part s at (i - at) ++ (get_or s i 0 ∷ [])
  unfolding part
  part_more h =
      let n : i + 1 - at ≡ suc (i - at) = omega (arith, w.from) in
      let k : at + (i - at) ≡ i = omega (arith, w.from) in
      ap (λ (m : ℕ). take m (drop at s)) n ∙ take-suc (drop at s) (i - at) 0 (omega (arith, length-drop at s, w.from))
      ∙ ap (λ (b : ℕ). take (i - at) (drop at s) ++ (b ∷ [])) (get_or-drop at s (i - at) 0 ∙ ap (λ (m : ℕ). get_or s m 0) k)

  pub walk_newline : i < length s → get_or s i 0 ≡ newline → LineAt s at (record { end = i; next = i + 1 })
  walk_newline h e = record {
    first =
        w.so_far
        ∙ ap (onto (part s at (i - at))) (ap lines_of (drop_at s i h) ∙ lines_newline (get_or s i 0) (drop (i + 1) s) e)
        ∙ onto_newline (part s at (i - at)) (lines_of (drop (i + 1) s))
        ∙ ap (λ (n : ℕ). line (part s at (i - at)) n ∷ lines_of (drop (i + 1) s)) (omega (arith, size, w.from));
    from = w.from;
    inside = w.inside;
    further = omega (arith, w.from);
    within = omega arith;
  }

  pub walk_on : i < length s → (get_or s i 0 ≡ newline → ⊥) → Walking s at (i + 1)
  walk_on h e = record {
    from = omega (arith, w.from);
    inside = omega arith;
    so_far =
        w.so_far
        ∙ ap (onto (part s at (i - at))) (ap lines_of (drop_at s i h) ∙ lines_other (get_or s i 0) (drop (i + 1) s) e)
        ∙ sym (onto_snoc (part s at (i - at)) (get_or s i 0) (lines_of (drop (i + 1) s)))
        ∙ ap (λ (t : List ℕ). onto t (lines_of (drop (i + 1) s))) (sym (part_more h));
  }

  pub walk_end : at < length s → length s ≤ i → LineAt s at (record { end = i; next = i })
  walk_end f h =
      let none : lines_of (drop i s) ≡ [] = ap lines_of (drop_of_length-le s h) ∙ lines_none in
      record {
        first =
            w.so_far ∙ ap (onto (part s at (i - at))) none ∙ onto_end (part s at (i - at)) (omega (arith, size))
            ∙ ap (λ (n : ℕ). line (part s at (i - at)) n ∷ []) size ∙ ap (λ (ls : List Line). line (part s at (i - at)) (i - at) ∷ ls) (sym none);
        from = w.from;
        inside = w.inside;
        further = omega arith;
        within = w.inside;
      }

-- ---- bytes that are skipped
module _ (s : List ℕ) where
  pub none_start : (at : ℕ) → NoNewline s at at
  none_start at = record { other = λ i z k. absurd (omega arith) }

  pub none_join : (a b c : ℕ) → NoNewline s a b → NoNewline s b c → NoNewline s a c
  none_join a b c p q = record { other = λ i z k. go i z k (dec_lt i b) }
    where
      go : (i : ℕ) → a ≤ i → i < c → Dec (i < b) → get_or s i 0 ≡ newline → ⊥
      go i z k (yes v) = p.other i z v
      go i z k (no v) = q.other i (omega arith) k

  pub none_one : (i : ℕ) → not (eqb (get_or s i 0) newline) ≡ true → NoNewline s i (i + 1)
  none_one i e = record { other = λ j z k. (let h : i ≡ j = omega arith in subst (λ (m : ℕ). get_or s m 0 ≡ newline → ⊥) h (eqb-false _ _ (not-true _ e))) }

  -- one byte more that was compared
  pub none_more : (i k : ℕ) (b : Bool) → (b ≡ true → NoNewline s i (i + k)) → (b && not (eqb (get_or s (i + k) 0) newline)) ≡ true → NoNewline s i (i + suc k)
  none_more i k b p e =
      let t = and-true b (not (eqb (get_or s (i + k) 0) newline)) e in
      let n : i + k + 1 ≡ i + suc k = omega arith in
      subst (NoNewline s i) n (none_join i (i + k) (i + k + 1) (p t.0) (none_one (i + k) t.1))

  pub walk_skipped : (at i : ℕ) → at ≤ i → i ≤ length s → NoNewline s at i → Walking s at i
  walk_skipped at i f h p = let n : at + (i - at) ≡ i = omega arith in subst (Walking s at) n (go (i - at) (omega arith))
    where
      go : (k : ℕ) → at + k ≤ i → Walking s at (at + k)
      go zero l = let n : at ≡ at + 0 = omega arith in subst (Walking s at) n (walk_start s at (omega arith))
      go (suc k) l =
          let n : at + k + 1 ≡ at + suc k = omega arith in
          subst (Walking s at) n (walk_on s at (at + k) (go k (omega arith)) (omega arith) (p.other (at + k) (omega arith) (omega arith)))

-- ---- the lines behind the first
pub lines_behind : (s : List ℕ) (l : Line) (ls : List Line) → lines_of s ≡ l ∷ ls → lines_of (drop l.size s) ≡ ls
unfolding lines_of
lines_behind [] l ls e = absurd (let z : ◌≡◌ {A = ℕ} 0 1 = cc in omega arith)
lines_behind (b ∷ s) l ls e = go (eqb b newline) (lines_of s) refl (lines_behind s) e
  where
    go : (t : Bool) (ms : List Line) → lines_of s ≡ ms → ((k : Line) (ks : List Line) → lines_of s ≡ k ∷ ks → lines_of (drop k.size s) ≡ ks)
        → cond t (line [] 1 ∷ lines_of s) (longer b ms) ≡ l ∷ ls → lines_of (drop l.size (b ∷ s)) ≡ ls
    go true ms m ih e = let n : 1 ≡ l.size = cc in let r : lines_of s ≡ ls = cc in rw (sym n) r
    go false [] m ih e = let n : 1 ≡ l.size = cc in let r : ◌≡◌ {A = List Line} [] ls = cc in rw (sym n) (m ∙ r)
    go false (k ∷ ks) m ih e = let n : suc k.size ≡ l.size = cc in let r : ks ≡ ls = cc in rw (sym n) (ih k ks m ∙ r)
