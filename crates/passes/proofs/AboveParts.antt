-- Where the first joined edge above TOP is (refusal 7) in a list of two parts that never touch.
-- In order: options; the first above TOP of two lists; of the edges that passes join.
use Prim.Native.Nat.{ℕ, ◌+◌, ◌<◌}
use mathlib.Core.Path.{◌≡◌, refl, sym, ◌∙◌}
use mathlib.Core.Bool.{Bool, true, false, cond}
use mathlib.Core.List.{List, [], ◌∷◌, ◌++◌, map}
use mathlib.Core.Option
use mathlib.Core.Option.{Option, none, some, or_else, some-ne-none}
use Rattle.passes.specs.NumEdge.{NumEdge, above, first_above}
use Rattle.passes.specs.Passes.{Pass, after, added, added_by}
use Rattle.passes.proofs.AboveLaws.{first_above_left, first_above_right}
use Rattle.passes.specs.Moved.{moved}
use Rattle.passes.proofs.ChainsAlike.{Each}
use Rattle.passes.proofs.Apart.{Within, after_within, first_above_moved, after_parts, added_parts}

first_above_append : (l m : List NumEdge) → first_above (l ++ m) ≡ or_else (first_above l) (first_above m)
unfolding first_above or_else
first_above_append [] m = refl
first_above_append (e ∷ l) m = rw (first_above_append l m) (go (above e))
  where
    go : (t : Bool) → cond t (some e.start) (or_else (first_above l) (first_above m)) ≡ or_else (cond t (some e.start) (first_above l)) (first_above m)
    go true = refl
    go false = refl

map_or_else : {A B : Type 0} (f : A → B) (x y : Option A) → Option.map f (or_else x y) ≡ or_else (Option.map f x) (Option.map f y)
unfolding or_else
map_or_else f none y = refl
map_or_else f (some a) y = refl

or_else_none : {A : Type 0} (x : Option A) → or_else x none ≡ x
unfolding or_else
or_else_none none = refl
or_else_none (some a) = refl

map_none : {A B : Type 0} (f : A → B) (x : Option A) → Option.map f x ≡ none → x ≡ none
map_none f none h = refl
map_none f (some a) h = absurd (some-ne-none (f a) h)

-- ---- the joined edges of a list of two parts, the second moved by k
module _ (k n : ℕ) (less : n < k) where
  above_parts : (p : Pass) (ps : List Pass) (l m : List NumEdge) → Each (Within n) l
      → first_above (added_by (p ∷ ps) (l ++ map (moved k) m))
      ≡ or_else (or_else (first_above (added p l)) (Option.map (λ i. k + i) (first_above (added p m)))) (first_above (added_by ps (after p l ++ map (moved k) (after p m))))
  unfolding added_by
  above_parts p ps l m h =
      rw (after_parts k n less p l m h, added_parts k n less p l m h, ← first_above_moved k (added p m), ← first_above_append (added p l) (map (moved k) (added p m)))
      (first_above_append (added p l ++ map (moved k) (added p m)) _)

  -- it is the second part's where the first part has none
  pub above_second : (ps : List Pass) (l m : List NumEdge) → Each (Within n) l → first_above (added_by ps l) ≡ none
      → first_above (added_by ps (l ++ map (moved k) m)) ≡ Option.map (λ i. k + i) (first_above (added_by ps m))
  unfolding added_by first_above or_else
  above_second [] l m h q = refl
  above_second (p ∷ ps) l m h q =
      above_parts p ps l m h
      ∙ rw (
        first_above_left (added p l) (added_by ps (after p l)) q,
        above_second ps (after p l) (after p m) (after_within n p l h) (first_above_right (added p l) (added_by ps (after p l)) q),
        first_above_append (added p m) (added_by ps (after p m)),
      )
      (sym (map_or_else (λ i. k + i) (first_above (added p m)) (first_above (added_by ps (after p m)))))

  -- it is the first part's where the second part has none
  pub above_first : (ps : List Pass) (l m : List NumEdge) → Each (Within n) l → first_above (added_by ps m) ≡ none
      → first_above (added_by ps (l ++ map (moved k) m)) ≡ first_above (added_by ps l)
  unfolding added_by first_above
  above_first [] l m h q = refl
  above_first (p ∷ ps) l m h q =
      above_parts p ps l m h
      ∙ rw (
        first_above_left (added p m) (added_by ps (after p m)) q,
        above_first ps (after p l) (after p m) (after_within n p l h) (first_above_right (added p m) (added_by ps (after p m)) q),
        or_else_none (first_above (added p l)),
      )
      (sym (first_above_append (added p l) (added_by ps (after p l))))

  -- neither part has one where the whole has none
  pub above_none : (ps : List Pass) (l m : List NumEdge) → Each (Within n) l → first_above (added_by ps (l ++ map (moved k) m)) ≡ none
      → (first_above (added_by ps l) ≡ none) × (first_above (added_by ps m) ≡ none)
  unfolding added_by first_above or_else
  above_none [] l m h q = (refl, refl)
  above_none (p ∷ ps) l m h q =
      let here : first_above (added p l ++ map (moved k) (added p m)) ≡ none = rw (added_parts k n less p l m h) at (first_above_left (added p (l ++ map (moved k) m)) _ q) in
      let later : first_above (added_by ps (after p l ++ map (moved k) (after p m))) ≡ none = rw (after_parts k n less p l m h) at (first_above_right (added p (l ++ map (moved k) m)) _ q) in
      let first : first_above (added p l) ≡ none = first_above_left (added p l) _ here in
      let second : first_above (added p m) ≡ none = map_none _ (first_above (added p m)) (sym (first_above_moved k (added p m)) ∙ first_above_right (added p l) _ here) in
      let (x, y) = above_none ps (after p l) (after p m) (after_within n p l h) later in
      (first_above_append (added p l) (added_by ps (after p l)) ∙ rw first x, first_above_append (added p m) (added_by ps (after p m)) ∙ rw second y)
