-- Laws of `from` and `chains` (`specs/Chains.antt`), for the proof of a pass's loop and for theorems on passes. No contract cites this file.
-- In order: the clauses of `from` as laws; a turn of a loop that takes the list from the left; two rules of which one follows the other along a map.
use mathlib.Core.Path.{◌≡◌, refl, ap, sym, ◌∙◌}
use mathlib.Core.List.{List, [], ◌∷◌, map}
use mathlib.Core.Option
use mathlib.Core.Option.{Option, none, some}
use Rattle.passes.specs.Chains.{from, chains}

module _ {A S : Type 0} (begin : A → S) (next : S → A → Option S) where
  -- the list begins a chain
  pub chains_cons : (a : A) (l : List A) → chains begin next (a ∷ l) ≡ from begin next (begin a) l
  unfolding chains
  chains_cons a l = refl

  -- nothing is left
  pub from_nil : (s : S) → from begin next s [] ≡ s ∷ []
  unfolding from
  from_nil s = refl

  -- the chain ends before a
  pub from_none : (s : S) (a : A) (l : List A) → next s a ≡ none → from begin next s (a ∷ l) ≡ s ∷ from begin next (begin a) l
  unfolding from
  from_none s a l e = rw (e, from)

  -- the chain takes a
  pub from_some : (s t : S) (a : A) (l : List A) → next s a ≡ some t → from begin next s (a ∷ l) ≡ from begin next t l
  unfolding from
  from_some s t a l e = rw (e, from)

  -- at least one chain is made
  pub from_not_empty : (s : S) (l : List A) → (t : S) × (ts : List S) × (from begin next s l ≡ t ∷ ts)
  unfolding from
  from_not_empty s [] = (s, [], refl)
  from_not_empty s (a ∷ l) = go (next s a) refl (λ t. from_not_empty t l)
    where
      go : (o : Option S) → next s a ≡ o → ((t : S) → (u : S) × (us : List S) × (from begin next t l ≡ u ∷ us)) → (t : S) × (ts : List S) × (from begin next s (a ∷ l) ≡ t ∷ ts)
      go none e ih = (s, from begin next (begin a) l, from_none s a l e)
      go (some t) e ih = let (u, us, h) = ih t in (u, us, rw (from_some s t a l e) h)

-- ---- along a map
module _ {A B S C : Type 0} (begin : A → S) (next : S → A → Option S) (begin' : B → C) (next' : C → B → Option C) (f : A → B) (g : S → C)
    (begin-map : (a : A) → begin' (f a) ≡ g (begin a)) (Next-map : (s : S) (a : A) → next' (g s) (f a) ≡ Option.map g (next s a)) where
  from_map : (l : List A) (s : S) → from begin' next' (g s) (map f l) ≡ map g (from begin next s l)
  unfolding from
  from_map [] s = refl
  from_map (a ∷ l) s = go (next s a) refl (from_map l)
    where
      go : (o : Option S) → next s a ≡ o → ((t : S) → from begin' next' (g t) (map f l) ≡ map g (from begin next t l))
          → from begin' next' (g s) (f a ∷ map f l) ≡ map g (from begin next s (a ∷ l))
      go none e ih =
          from_none begin' next' (g s) (f a) (map f l) (Next-map s a ∙ ap (Option.map g) e)
          ∙ ap {B = List C} (λ (c : C). g s ∷ from begin' next' c (map f l)) (begin-map a)
          ∙ ap {B = List C} (λ r. g s ∷ r) (ih (begin a))
          ∙ sym (ap (map g) (from_none begin next s a l e))
      go (some t) e ih =
          from_some begin' next' (g s) (g t) (f a) (map f l) (Next-map s a ∙ ap (Option.map g) e) ∙ ih t ∙ sym (ap (map g) (from_some begin next s t a l e))

  pub chains_map : (l : List A) → chains begin' next' (map f l) ≡ map g (chains begin next l)
  unfolding chains
  chains_map [] = refl
  chains_map (a ∷ l) = ap (λ (c : C). from begin' next' c (map f l)) (begin-map a) ∙ from_map l (begin a)
