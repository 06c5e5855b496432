-- What holds of the chains of any rule (`chains` of passes). `parts` says what a chain is made of.
-- In order: what holds along a list; the chains' parts are the list again, and each chain stops before the next; such chains are found again; two rules that go
-- alike on lists that are related one by one.
use mathlib.Core.Path.{◌≡◌, refl, ap, ◌∙◌}
use mathlib.Core.Bool.{Bool, true, false, cond}
use mathlib.Core.List.{List, [], ◌∷◌, map}
use mathlib.Core.Option.{Option, none, some}
use Prim.Native.Nat.{ℕ}
use Rattle.passes.proofs.ChainsLaws.{from_none}
use Rattle.passes.proofs.ChainsAlike.{Both}
use Rattle.passes.specs.Chains.{from, chains}
use Rattle.table_grammar.specs.Row.{Row, one, ◌▷◌, ◌<>>◌, last, head}

-- ---- of options

-- what holds of the value, where there is one
abbrev pub OnSome : {A : Type 0} → (A → Type 0) → Option A → Type 0
OnSome P none = Unit {0}
OnSome P (some a) = P a

pub on_cond : {A : Type 0} (P : A → Type 0) (b : Bool) (a : A) → (b ≡ true → P a) → OnSome P (cond b (some a) none)
on_cond P true a f = f refl
on_cond P false a f = tt

-- ---- along a list

pub head_row : {A : Type 0} (r : Row A) (l : List A) → (m : List A) × (r <>> l ≡ head r ∷ m)
head_row (one a) l = (l, refl)
head_row (r ▷ a) l = head_row r (a ∷ l)

-- the parts of all, in a row
module _ {A S : Type 0} (parts : S → Row A) where
  abbrev pub flat : List S → List A
  flat [] = []
  flat (s ∷ ss) = parts s <>> flat ss

-- `ok` holds of each, and `stop` of each and the one after it
abbrev pub Next : {A : Type 0} → (A → A → Type 0) → A → List A → Type 0
Next stop a [] = Unit {0}
Next stop a (b ∷ l) = stop a b

abbrev pub Along : {A : Type 0} → (A → Type 0) → (A → A → Type 0) → List A → Type 0
Along ok stop [] = Unit {0}
Along ok stop (a ∷ l) = ok a × Next stop a l × Along ok stop l

-- the same of a row
abbrev pub Inside : {A : Type 0} → (A → Type 0) → (A → A → Type 0) → Row A → Type 0
Inside ok stop (one a) = ok a
Inside ok stop (r ▷ a) = Inside ok stop r × stop (last r) a × ok a

module _ {A : Type 0} (ok : A → Type 0) (stop : A → A → Type 0) where
  pub along_row : (r : Row A) (l : List A) → Along ok stop (r <>> l) → Inside ok stop r × Next stop (last r) l × Along ok stop l
  along_row (one a) l h = h
  along_row (r ▷ a) l h = let (i, s, (o, n, k)) = along_row r (a ∷ l) h in ((i, s, o), n, k)

  pub row_along : (r : Row A) (l : List A) → Inside ok stop r → Next stop (last r) l → Along ok stop l → Along ok stop (r <>> l)
  row_along (one a) l i n k = (i, n, k)
  row_along (r ▷ a) l i n k = row_along r (a ∷ l) i.0 i.1 (i.2, n, k)

  pub along_flat : {S : Type 0} (parts : S → Row A) (L : List S) → Along ok stop (flat parts L)
      → Along (λ s. Inside ok stop (parts s)) (λ s t. stop (last (parts s)) (head (parts t))) L
  along_flat parts [] h = tt
  along_flat parts (s ∷ []) h = let (i, n, k) = along_row (parts s) [] h in (i, tt, tt)
  along_flat parts (s ∷ t ∷ L) h =
      let (i, n, k) = along_row (parts s) (parts t <>> flat parts L) h in
      (i, rw (head_row (parts t) (flat parts L)).1 at n, along_flat parts (t ∷ L) k)

  pub flat_along : {S : Type 0} (parts : S → Row A) (L : List S)
      → Along (λ s. Inside ok stop (parts s)) (λ s t. stop (last (parts s)) (head (parts t))) L → Along ok stop (flat parts L)
  flat_along parts [] h = tt
  flat_along parts (s ∷ []) h = row_along (parts s) [] h.0 tt tt
  flat_along parts (s ∷ t ∷ L) h =
      row_along (parts s) (parts t <>> flat parts L) h.0 (rw (head_row (parts t) (flat parts L)).1 h.1) (flat_along parts (t ∷ L) h.2)

module _ {A : Type 0} (ok ok' : A → Type 0) (stop stop' : A → A → Type 0) where
  pub along_zip : (l : List A) → Along ok stop l → Along ok' stop' l → Along (λ a. ok a × ok' a) (λ a b. stop a b × stop' a b) l
  along_zip [] h k = tt
  along_zip (a ∷ []) h k = ((h.0, k.0), tt, tt)
  along_zip (a ∷ b ∷ l) h k = ((h.0, k.0), (h.1, k.1), along_zip (b ∷ l) h.2 k.2)

module _ {A : Type 0} {ok ok' : A → Type 0} {stop stop' : A → A → Type 0} where
  pub along_map : ((a : A) → ok a → ok' a) → ((a b : A) → ok a → ok b → stop a b → stop' a b) → (l : List A) → Along ok stop l → Along ok' stop' l
  along_map f g [] h = tt
  along_map f g (a ∷ []) h = (f a h.0, tt, tt)
  along_map f g (a ∷ b ∷ l) h = (f a h.0, g a b h.0 h.2.0 h.1, along_map f g (b ∷ l) h.2)

-- ---- the chains of a list

-- every chain is as `Ok` says, and does not go on with what comes after it
module _ {A S : Type 0} (next : S → A → Option S) (parts : S → Row A) where
  abbrev pub Stop : S → S → Type 0
  Stop s t = next s (head (parts t)) ≡ none

  abbrev pub Good : (S → Type 0) → List S → Type 0
  Good Ok l = Along Ok Stop l

module _ {A S : Type 0} (begin : A → S) (next : S → A → Option S) (parts : S → Row A) (Ok : S → Type 0)
    (parts-begin : (a : A) → parts (begin a) ≡ one a) (ok_begin : (a : A) → Ok (begin a))
    (law : (s : S) (a : A) → Ok s → OnSome (λ t. (parts t ≡ parts s ▷ a) × Ok t) (next s a)) where
  -- the chains are the list again
  flat_from : (l : List A) (s : S) → Ok s → flat parts (from begin next s l) ≡ parts s <>> l
  unfolding from
  flat_from [] s ok = refl
  flat_from (a ∷ l) s ok = go (next s a) refl (law s a ok) (flat_from l)
    where
      go : (o : Option S) → next s a ≡ o → OnSome (λ t. (parts t ≡ parts s ▷ a) × Ok t) o
          → ((t : S) → Ok t → flat parts (from begin next t l) ≡ parts t <>> l) → flat parts (from begin next s (a ∷ l)) ≡ parts s <>> (a ∷ l)
      go none e h ih = rw (e, from, ih (begin a) (ok_begin a), parts-begin a)
      go (some t) e h ih = rw (e, from, ih t h.1, h.0)

  pub flat_chains : (l : List A) → flat parts (chains begin next l) ≡ l
  unfolding from chains
  flat_chains [] = refl
  flat_chains (a ∷ l) = rw (flat_from l (begin a) (ok_begin a), parts-begin a)

  -- the chains are good; the first begins xs the open one did
  good_from_lem : (l : List A) (s : S) → Ok s
      → (t : S) × (ts : List S) × (from begin next s l ≡ t ∷ ts) × (head (parts t) ≡ head (parts s)) × Good next parts Ok (t ∷ ts)
  unfolding from
  good_from_lem [] s ok = (s, [], refl, refl, (ok, tt, tt))
  good_from_lem (a ∷ l) s ok = go (next s a) refl (law s a ok) (good_from_lem l)
    where
      go : (o : Option S) → next s a ≡ o → OnSome (λ t. (parts t ≡ parts s ▷ a) × Ok t) o
          → ((t : S) → Ok t → (u : S) × (us : List S) × (from begin next t l ≡ u ∷ us) × (head (parts u) ≡ head (parts t)) × Good next parts Ok (u ∷ us))
          → (t : S) × (ts : List S) × (from begin next s (a ∷ l) ≡ t ∷ ts) × (head (parts t) ≡ head (parts s)) × Good next parts Ok (t ∷ ts)
      go none e h ih =
          let (u, us, eq, hd, gd) = ih (begin a) (ok_begin a) in
          (s, u ∷ us, rw (e, from, eq), refl, (ok, rw (hd, parts-begin a) e, gd))
      go (some t) e h ih =
          let (u, us, eq, hd, gd) = ih t h.1 in
          (u, us, rw (e, from) eq, rw (hd, h.0), gd)

  pub good_chains : (l : List A) → Good next parts Ok (chains begin next l)
  unfolding chains
  good_chains [] = tt
  good_chains (a ∷ l) = let (u, us, eq, hd, gd) = good_from_lem l (begin a) (ok_begin a) in rw eq gd

  -- what holds along the list holds inside the chains and between them, and each chain stops before the next
  pub chains_along : (ok : A → Type 0) (stop : A → A → Type 0) (l : List A) → Along ok stop l
      → Along (λ s. Inside ok stop (parts s) × Ok s) (λ s t. stop (last (parts s)) (head (parts t)) × Stop next parts s t) (chains begin next l)
  chains_along ok stop l h = along_zip _ Ok _ (Stop next parts) (chains begin next l) (along_flat ok stop parts (chains begin next l) (rw (flat_chains l) h)) (good_chains l)

-- ---- good chains are found again: `resume` says that the chain of its own parts is the chain
module _ {A S : Type 0} (begin : A → S) (next : S → A → Option S) (parts : S → Row A) (Ok : S → Type 0)
    (resume : (s : S) → Ok s → (l : List A) → chains begin next (parts s <>> l) ≡ from begin next s l) where
  pub chains_flat : (ss : List S) → Good next parts Ok ss → chains begin next (flat parts ss) ≡ ss
  unfolding chains from
  chains_flat [] g = refl
  chains_flat (s ∷ []) g = resume s g.0 []
  chains_flat (s ∷ t ∷ ss) (ok, stop, g) =
      let (m, eq) = head_row (parts t) (flat parts ss) in
      let ih : chains begin next (flat parts (t ∷ ss)) ≡ t ∷ ss = chains_flat (t ∷ ss) g in
      resume s ok _ ∙ rw (eq, from_none begin next s (head (parts t)) m stop) (ap {B = List S} (λ r. s ∷ r) (rw eq at ih))

-- ---- two rules that go alike on lists that are related one by one
module _ {A B : Type 0} (R : ℕ → A → B → ℕ → Type 0) where
  -- related one by one, each from where the one before it ends
  abbrev pub Tiles : ℕ → List A → List B → ℕ → Type 0
  Tiles i [] [] n = i ≡ n
  Tiles i [] (b ∷ ys) n = ⊥
  Tiles i (a ∷ xs) [] n = ⊥
  Tiles i (a ∷ xs) (b ∷ ys) n = (j : ℕ) × R i a b j × Tiles j xs ys n

module _ {A B S C : Type 0} (begin : A → S) (next : S → A → Option S) (begin' : B → C) (next' : C → B → Option C)
    (R : ℕ → A → B → ℕ → Type 0) (Q : ℕ → S → C → ℕ → Type 0)
    (sim-begin : (i j : ℕ) (a : A) (b : B) → R i a b j → Q i (begin a) (begin' b) j)
    (sim-next : (i j k : ℕ) (s : S) (c : C) (a : A) (b : B) → Q i s c j → R j a b k → Both (λ t d. Q i t d k) (next s a) (next' c b)) where
  sim_from : (xs : List A) (ys : List B) (i j n : ℕ) (s : S) (c : C) → Q i s c j → Tiles R j xs ys n → Tiles Q i (from begin next s xs) (from begin' next' c ys) n
  unfolding from
  sim_from [] [] i j n s c q h = (j, q, h)
  sim_from [] (b ∷ ys) i j n s c q h = absurd h
  sim_from (a ∷ xs) [] i j n s c q h = absurd h
  sim_from (a ∷ xs) (b ∷ ys) i j n s c q (k, r, rest) = go (next s a) (next' c b) refl refl (sim-next i j k s c a b q r) (sim_from xs ys)
    where
      go : (o : Option S) (o' : Option C) → next s a ≡ o → next' c b ≡ o' → Both (λ t d. Q i t d k) o o'
          → ((i j n : ℕ) (s : S) (c : C) → Q i s c j → Tiles R j xs ys n → Tiles Q i (from begin next s xs) (from begin' next' c ys) n)
          → Tiles Q i (from begin next s (a ∷ xs)) (from begin' next' c (b ∷ ys)) n
      go none none e e' h ih = rw (e, e', from) (j, q, ih j k n (begin a) (begin' b) (sim-begin j k a b r) rest)
      go none (some d) e e' h ih = absurd h
      go (some t) none e e' h ih = absurd h
      go (some t) (some d) e e' h ih = rw (e, e', from) (ih i k n t d h rest)

  pub sim : (xs : List A) (ys : List B) (i n : ℕ) → Tiles R i xs ys n → Tiles Q i (chains begin next xs) (chains begin' next' ys) n
  unfolding chains
  sim [] [] i n h = h
  sim [] (b ∷ ys) i n h = absurd h
  sim (a ∷ xs) [] i n h = absurd h
  sim (a ∷ xs) (b ∷ ys) i n (j, r, rest) = sim_from xs ys i j n (begin a) (begin' b) (sim-begin i j a b r) rest

-- the same list, looked at through a function
module _ {A B C : Type 0} (R : ℕ → A → B → ℕ → Type 0) (Q : ℕ → A → C → ℕ → Type 0) (f : B → C)
    (look : (i j : ℕ) (a : A) (b : B) → R i a b j → Q i a (f b) j) where
  pub tiles_map : (xs : List A) (ys : List B) (i n : ℕ) → Tiles R i xs ys n → Tiles Q i xs (map f ys) n
  tiles_map [] [] i n h = h
  tiles_map [] (b ∷ ys) i n h = absurd h
  tiles_map (a ∷ xs) [] i n h = absurd h
  tiles_map (a ∷ xs) (b ∷ ys) i n (j, r, rest) = (j, look i j a b r, tiles_map xs ys j n rest)
