-- The passes on a list in two parts that never touch: the edges of the first end at place n at the latest, those of the second begin after n.
-- In order: a pass; the second part moved; edges of a line's characters.
use Prim.Native.Nat.{ℕ, suc, ◌+◌, ◌≤◌, ◌<◌}
use mathlib.Core.Path.{◌≡◌, refl, sym, ap, ◌∙◌}
use mathlib.Core.Bool.{Bool, true, false, cond}
use mathlib.Core.List.{List, [], ◌∷◌, ◌++◌, map, map-append}
use mathlib.Core.Option
use mathlib.Core.Option.{Option, none, some, some-ne-none, some-injective}
use native.Mathlib.Omega.{arith}
use native.Mathlib.Nat.{add-suc, add-zero}
use lib.ListN.{length}
use borrow.Author.Tests.{ne_eqb}
use Rattle.table.specs.Table.{Text, Record, find}
use Rattle.passes.specs.NumEdge.{NumEdge, first_above}
use Rattle.passes.specs.Characters.{char_edge, with_edge, char_edges}
use Rattle.passes.specs.Chains.{chains}
use Rattle.passes.specs.Passes.{Pass, D1, G1, G2, G3, G4, Chain, begin, longer, joins, joined, over, over_digits, next, chains_of, joined_of, after, added, through}
use Rattle.passes.specs.Moved.{moved}
use Rattle.passes.proofs.ChainsAlike.{Paired, Each, each_map, chains_ends, chains_apart}
use Rattle.passes.proofs.Alike.{Alike, after_alike, added_alike, first_above_alike}

-- ---- a pass
joined_end : (p : Pass) (l r : NumEdge) → (joined p l r).end ≡ r.end
unfolding joined over over_digits
joined_end D1 l r = refl
joined_end G1 l r = refl
joined_end G2 l r = refl
joined_end G3 l r = refl
joined_end G4 l r = refl

-- a chain ends where the edge ends that it took last
next_end : (p : Pass) (c t : Chain) (e : NumEdge) → next p c e ≡ some t → t.edge.end ≡ e.end
unfolding next longer
next_end p c t e h = go (joins p c e) h
  where
    go : (b : Bool) → cond b (some (longer c e (joined p c.edge e))) none ≡ some t → t.edge.end ≡ e.end
    go true h = ap (λ (x : Chain). x.edge.end) (sym (some-injective _ t h)) ∙ joined_end p c.edge e
    go false h = absurd (some-ne-none t (sym h))

-- a chain that ends before the edge begins does not take it
next_stops : (p : Pass) (c : Chain) (e : NumEdge) → c.edge.end < e.start → next p c e ≡ none
unfolding next
next_stops p c e h = rw (ne_eqb c.edge.end e.start (λ q. omega arith))

joined_of_append : (cs ds : List Chain) → joined_of (cs ++ ds) ≡ joined_of cs ++ joined_of ds
unfolding joined_of
joined_of_append [] ds = refl
joined_of_append (c ∷ cs) ds = rw (joined_of_append cs ds) (go c.more)
  where
    go : (m : Bool) → cond m (c.edge ∷ (joined_of cs ++ joined_of ds)) (joined_of cs ++ joined_of ds) ≡ cond m (c.edge ∷ joined_of cs) (joined_of cs) ++ joined_of ds
    go true = refl
    go false = refl

module _ (n : ℕ) where
  abbrev pub Within : NumEdge → Type 0
  Within e = e.end ≤ n

  abbrev pub Beyond : NumEdge → Type 0
  Beyond e = n < e.start

  abbrev ChainWithin : Chain → Type 0
  ChainWithin c = c.edge.end ≤ n

  within_begin : (e : NumEdge) → Within e → ChainWithin (begin e)
  unfolding begin
  within_begin e h = h

  within_next : (p : Pass) (c t : Chain) (e : NumEdge) → ChainWithin c → Within e → next p c e ≡ some t → ChainWithin t
  within_next p c t e h k q = rw (next_end p c t e q) k

  -- a pass stays within the place where its list stayed
  pub after_within : (p : Pass) (l : List NumEdge) → Each Within l → Each Within (after p l)
  unfolding after chains_of
  after_within p l h =
      each_map ChainWithin Within (λ c. c.edge) (λ c k. k) (chains begin (next p) l) (chains_ends begin (next p) Within ChainWithin within_begin (within_next p) l h)

  pub through_within : (ps : List Pass) (l : List NumEdge) → Each Within l → Each Within (through ps l)
  unfolding through
  through_within [] l h = h
  through_within (p ∷ ps) l h = through_within ps (after p l) (after_within p l h)

  chains_of_apart : (p : Pass) (l m : List NumEdge) → Each Within l → Each Beyond m → chains_of p (l ++ m) ≡ chains_of p l ++ chains_of p m
  unfolding chains_of
  chains_of_apart p l m h o =
      chains_apart begin (next p) Within ChainWithin within_begin (within_next p) Beyond (λ c e k q. next_stops p c e (omega arith)) l m h o

  pub after_apart : (p : Pass) (l m : List NumEdge) → Each Within l → Each Beyond m → after p (l ++ m) ≡ after p l ++ after p m
  unfolding after
  after_apart p l m h o = rw (chains_of_apart p l m h o) (map-append (λ (c : Chain). c.edge) (chains_of p l) (chains_of p m))

  pub added_apart : (p : Pass) (l m : List NumEdge) → Each Within l → Each Beyond m → added p (l ++ m) ≡ added p l ++ added p m
  unfolding added
  added_apart p l m h o = rw (chains_of_apart p l m h o) (joined_of_append (chains_of p l) (chains_of p m))

-- ---- the second part moved by k
in_a_row : (a a' b b' : Text) → a ≡ a' → b ≡ b' → a ++ b ≡ a' ++ b'
in_a_row a a' b b' h q = rw (h, q)

module _ (k : ℕ) where
  moved_alike : (l : List NumEdge) → Paired (Alike k ◌≡◌) l (map (moved k) l)
  moved_alike [] = tt
  moved_alike (e ∷ l) = ((e.orig_txt, refl, refl), moved_alike l)

  alike_moved : (l l' : List NumEdge) → Paired (Alike k ◌≡◌) l l' → l' ≡ map (moved k) l
  alike_moved [] [] h = refl
  alike_moved [] (e' ∷ l') h = absurd h
  alike_moved (e ∷ l) [] h = absurd h
  alike_moved (e ∷ l) (e' ∷ l') ((x, o, q), h) = rw (q, ← o, ← alike_moved l l' h)

  after_moved : (p : Pass) (l : List NumEdge) → after p (map (moved k) l) ≡ map (moved k) (after p l)
  after_moved p l = alike_moved (after p l) _ (after_alike k ◌≡◌ in_a_row (λ a a' h. rw h) p l (map (moved k) l) (moved_alike l))

  added_moved : (p : Pass) (l : List NumEdge) → added p (map (moved k) l) ≡ map (moved k) (added p l)
  added_moved p l = alike_moved (added p l) _ (added_alike k ◌≡◌ in_a_row (λ a a' h. rw h) p l (map (moved k) l) (moved_alike l))

  pub first_above_moved : (l : List NumEdge) → first_above (map (moved k) l) ≡ Option.map (λ i. k + i) (first_above l)
  first_above_moved l = first_above_alike k ◌≡◌ l (map (moved k) l) (moved_alike l)

  module _ (n : ℕ) (less : n < k) where
    beyond_moved : (m : List NumEdge) → Each (Beyond n) (map (moved k) m)
    beyond_moved [] = tt
    beyond_moved (e ∷ m) = (omega arith, beyond_moved m)

    pub after_parts : (p : Pass) (l m : List NumEdge) → Each (Within n) l → after p (l ++ map (moved k) m) ≡ after p l ++ map (moved k) (after p m)
    after_parts p l m h = after_apart n p l (map (moved k) m) h (beyond_moved m) ∙ rw (after_moved p m)

    pub added_parts : (p : Pass) (l m : List NumEdge) → Each (Within n) l → added p (l ++ map (moved k) m) ≡ added p l ++ map (moved k) (added p m)
    added_parts p l m h = added_apart n p l (map (moved k) m) h (beyond_moved m) ∙ rw (added_moved p m)

    pub through_parts : (ps : List Pass) (l m : List NumEdge) → Each (Within n) l → through ps (l ++ map (moved k) m) ≡ through ps l ++ map (moved k) (through ps m)
    unfolding through
    through_parts [] l m h = refl
    through_parts (p ∷ ps) l m h = rw (after_parts p l m h) (through_parts ps (after p l) (after p m) (after_within n p l h))

-- ---- the edges of characters
with_edge_append : (i c : ℕ) (o : Option Record) (l m : List NumEdge) → with_edge i c o (l ++ m) ≡ with_edge i c o l ++ m
with_edge_append i c none l m = refl
with_edge_append i c (some r) l m = refl

module _ (rs : List Record) where
  pub char_edges_within : (a : List ℕ) (i : ℕ) → Each (Within (i + length a)) (char_edges rs i a)
  unfolding char_edges char_edge
  char_edges_within [] i = tt
  char_edges_within (x ∷ a) i =
      let same_place : suc i + length a ≡ i + suc (length a) = omega arith in
      with_edge_within (find rs x) (rw same_place at (char_edges_within a (suc i)))
    where
      with_edge_within : (o : Option Record) → Each (Within (i + suc (length a))) (char_edges rs (suc i) a) → Each (Within (i + suc (length a))) (with_edge i x o (char_edges rs (suc i) a))
      with_edge_within none h = h
      with_edge_within (some r) h = (omega arith, h)

  -- the edges after a character without a record
  pub char_edges_parts : (a : List ℕ) (c : ℕ) (b : List ℕ) (i : ℕ) → find rs c ≡ none → char_edges rs i (a ++ c ∷ b) ≡ char_edges rs i a ++ char_edges rs (suc (i + length a)) b
  unfolding char_edges
  char_edges_parts [] c b i h = rw (h, add-zero i)
  char_edges_parts (x ∷ a) c b i h =
      let same_place : suc (suc i + length a) ≡ suc (i + suc (length a)) = omega arith in
      rw (char_edges_parts a c b (suc i) h, same_place) (with_edge_append i x (find rs x) _ _)

  pub char_edges_moved : (w : List ℕ) (k i : ℕ) → char_edges rs (k + i) w ≡ map (moved k) (char_edges rs i w)
  unfolding char_edges char_edge
  char_edges_moved [] k i = refl
  char_edges_moved (c ∷ w) k i = rw (← add-suc k i, char_edges_moved w k (suc i)) (go (find rs c))
    where
      go : (o : Option Record) → with_edge (k + i) c o (map (moved k) (char_edges rs (suc i) w)) ≡ map (moved k) (with_edge i c o (char_edges rs (suc i) w))
      go none = refl
      go (some r) = rw (add-suc k i)
