-- Two laws of `chains` (of passes), for any rule.
-- In order: lists that are related one by one; two rules that go alike on such lists; a list in two parts that never touch.
use mathlib.Core.Path.{◌≡◌, refl, ap}
use mathlib.Core.List.{List, [], ◌∷◌, ◌++◌, map}
use mathlib.Core.Option.{Option, none, some}
use Rattle.passes.specs.Chains.{from, chains}
use Rattle.passes.proofs.ChainsLaws.{from_none, from_some}

-- ---- related one by one
abbrev pub Paired : {A B : Type 0} → (A → B → Type 0) → List A → List B → Type 0
Paired R [] [] = Unit {0}
Paired R [] (b ∷ ys) = ⊥
Paired R (a ∷ xs) [] = ⊥
Paired R (a ∷ xs) (b ∷ ys) = R a b × Paired R xs ys

-- both have no value, or both have one, and the two are related
abbrev pub Both : {A B : Type 0} → (A → B → Type 0) → Option A → Option B → Type 0
Both R none none = Unit {0}
Both R none (some b) = ⊥
Both R (some a) none = ⊥
Both R (some a) (some b) = R a b

pub paired_append : {A B : Type 0} (R : A → B → Type 0) (xs xs' : List A) (ys ys' : List B)
    → Paired R xs ys → Paired R xs' ys' → Paired R (xs ++ xs') (ys ++ ys')
paired_append R [] xs' [] ys' h k = k
paired_append R [] xs' (b ∷ ys) ys' h k = absurd h
paired_append R (a ∷ xs) xs' [] ys' h k = absurd h
paired_append R (a ∷ xs) xs' (b ∷ ys) ys' h k = (h.0, paired_append R xs xs' ys ys' h.1 k)

module _ {A B C D : Type 0} (R : A → B → Type 0) (Q : C → D → Type 0) (f : A → C) (g : B → D) (to : (a : A) (b : B) → R a b → Q (f a) (g b)) where
  pub paired_map : (xs : List A) (ys : List B) → Paired R xs ys → Paired Q (map f xs) (map g ys)
  paired_map [] [] h = tt
  paired_map [] (b ∷ ys) h = absurd h
  paired_map (a ∷ xs) [] h = absurd h
  paired_map (a ∷ xs) (b ∷ ys) h = (to a b h.0, paired_map xs ys h.1)

-- ---- rules that go alike
module _ {A B S C : Type 0} (begin : A → S) (next : S → A → Option S) (begin' : B → C) (next' : C → B → Option C)
    (R : A → B → Type 0) (Q : S → C → Type 0) (alike-begin : (a : A) (b : B) → R a b → Q (begin a) (begin' b))
    (Alike-next : (s : S) (c : C) (a : A) (b : B) → Q s c → R a b → Both Q (next s a) (next' c b)) where
  from_alike : (xs : List A) (ys : List B) (s : S) (c : C) → Q s c → Paired R xs ys → Paired Q (from begin next s xs) (from begin' next' c ys)
  unfolding from
  from_alike [] [] s c q h = (q, tt)
  from_alike [] (b ∷ ys) s c q h = absurd h
  from_alike (a ∷ xs) [] s c q h = absurd h
  from_alike (a ∷ xs) (b ∷ ys) s c q (r, rest) =
      go (next s a) (next' c b) refl refl (Alike-next s c a b q r) (λ s c q. from_alike xs ys s c q rest)
    where
      go : (o : Option S) (o' : Option C) → next s a ≡ o → next' c b ≡ o' → Both Q o o'
          → ((s : S) (c : C) → Q s c → Paired Q (from begin next s xs) (from begin' next' c ys))
          → Paired Q (from begin next s (a ∷ xs)) (from begin' next' c (b ∷ ys))
      go none none e e' h ih = rw (e, e', from) (q, ih (begin a) (begin' b) (alike-begin a b r))
      go none (some d) e e' h ih = absurd h
      go (some t) none e e' h ih = absurd h
      go (some t) (some d) e e' h ih = rw (e, e', from) (ih t d h)

  pub chains_alike : (xs : List A) (ys : List B) → Paired R xs ys → Paired Q (chains begin next xs) (chains begin' next' ys)
  unfolding chains
  chains_alike [] [] h = tt
  chains_alike [] (b ∷ ys) h = absurd h
  chains_alike (a ∷ xs) [] h = absurd h
  chains_alike (a ∷ xs) (b ∷ ys) h = from_alike xs ys (begin a) (begin' b) (alike-begin a b h.0) h.1

-- ---- a list in two parts

-- P holds of each
abbrev pub Each : {A : Type 0} → (A → Type 0) → List A → Type 0
Each P [] = Unit {0}
Each P (a ∷ l) = P a × Each P l

pub each_map : {A B : Type 0} (P : A → Type 0) (Q : B → Type 0) (f : A → B) → ((a : A) → P a → Q (f a)) → (l : List A) → Each P l → Each Q (map f l)
each_map P Q f to [] h = tt
each_map P Q f to (a ∷ l) h = (to a h.0, each_map P Q f to l h.1)

-- `In` holds of the edges of the first part and `Ends` of their chains, and such a chain takes none of the second part
module _ {A S : Type 0} (begin : A → S) (next : S → A → Option S) (In : A → Type 0) (Ends : S → Type 0)
    (ends-begin : (a : A) → In a → Ends (begin a)) (Ends-next : (s t : S) (a : A) → Ends s → In a → next s a ≡ some t → Ends t) where
  from_ends : (l : List A) (s : S) → Ends s → Each In l → Each Ends (from begin next s l)
  unfolding from
  from_ends [] s k h = (k, tt)
  from_ends (a ∷ l) s k (i, h) = go (next s a) refl (λ t k. from_ends l t k h)
    where
      go : (o : Option S) → next s a ≡ o → ((t : S) → Ends t → Each Ends (from begin next t l)) → Each Ends (from begin next s (a ∷ l))
      go none e ih = rw (from_none begin next s a l e) (k, ih (begin a) (ends-begin a i))
      go (some t) e ih = rw (from_some begin next s t a l e) (ih t (Ends-next s t a k i e))

  -- the chains of the first part are as `Ends` says
  pub chains_ends : (l : List A) → Each In l → Each Ends (chains begin next l)
  unfolding chains
  chains_ends [] h = tt
  chains_ends (a ∷ l) (i, h) = from_ends l (begin a) (ends-begin a i) h

  module _ (Out : A → Type 0) (stops : (s : S) (b : A) → Ends s → Out b → next s b ≡ none) where
    from_apart : (l m : List A) (s : S) → Ends s → Each In l → Each Out m → from begin next s (l ++ m) ≡ from begin next s l ++ chains begin next m
    unfolding from chains
    from_apart [] [] s k h o = refl
    from_apart [] (b ∷ m) s k h o = from_none begin next s b m (stops s b k o.0)
    from_apart (a ∷ l) m s k (i, h) o = go (next s a) refl (λ t k. from_apart l m t k h o)
      where
        go : (x : Option S) → next s a ≡ x → ((t : S) → Ends t → from begin next t (l ++ m) ≡ from begin next t l ++ chains begin next m)
            → from begin next s (a ∷ l ++ m) ≡ from begin next s (a ∷ l) ++ chains begin next m
        go none e ih = rw (e, from) (ap {B = List S} (λ r. s ∷ r) (ih (begin a) (ends-begin a i)))
        go (some t) e ih = rw (e, from) (ih t (Ends-next s t a k i e))

    -- the chains of the whole are the chains of the parts
    pub chains_apart : (l m : List A) → Each In l → Each Out m → chains begin next (l ++ m) ≡ chains begin next l ++ chains begin next m
    unfolding chains
    chains_apart [] m h o = refl
    chains_apart (a ∷ l) m (i, h) o = from_apart l m (begin a) (ends-begin a i) h o
