-- Where no joined edge has a value above TOP (no refusal 7), no edge of the later lists has.
-- In order: `first_above` of lists; of one pass; of passes in turn.
use Prim.Native.Nat.{◌≤◌}
use mathlib.Core.Path.{◌≡◌, refl, sym, ap, ◌∙◌}
use mathlib.Core.Bool.{Bool, true, false, cond, true≢false}
use mathlib.Core.List.{List, [], ◌∷◌, ◌++◌}
use mathlib.Core.Option.{Option, none, some, some-ne-none, some-injective}
use lib.Dec.{nltb→le}
use Rattle.whole.specs.Whole.{TOP}
use Rattle.passes.specs.NumEdge.{NumEdge, or_zero, above, first_above}
use Rattle.passes.specs.Chains.{from, chains}
use Rattle.passes.specs.Passes.{Pass, Chain, begin, longer, joins, joined, next, chains_of, edges_of, joined_of, after, added, through, added_by}
use Rattle.passes.proofs.ChainsLaws.{from_none, from_some}

pub first_above_cons : (e : NumEdge) (es : List NumEdge) → above e ≡ false → first_above es ≡ none → first_above (e ∷ es) ≡ none
unfolding first_above
first_above_cons e es h k = rw h k

pub first_above_head : (e : NumEdge) (es : List NumEdge) → first_above (e ∷ es) ≡ none → above e ≡ false
unfolding first_above
first_above_head e es h = go (above e) h
  where
    go : (b : Bool) → cond b (some e.start) (first_above es) ≡ none → b ≡ false
    go true h = absurd (some-ne-none _ h)
    go false h = refl

pub first_above_tail : (e : NumEdge) (es : List NumEdge) → first_above (e ∷ es) ≡ none → first_above es ≡ none
unfolding first_above
first_above_tail e es h = go (above e) h
  where
    go : (b : Bool) → cond b (some e.start) (first_above es) ≡ none → first_above es ≡ none
    go true h = absurd (some-ne-none _ h)
    go false h = h

pub first_above_left : (es fs : List NumEdge) → first_above (es ++ fs) ≡ none → first_above es ≡ none
first_above_left [] fs h = unfold first_above in refl
first_above_left (e ∷ es) fs h = first_above_cons e es (first_above_head e (es ++ fs) h) (first_above_left es fs (first_above_tail e (es ++ fs) h))

pub first_above_right : (es fs : List NumEdge) → first_above (es ++ fs) ≡ none → first_above fs ≡ none
first_above_right [] fs h = h
first_above_right (e ∷ es) fs h = first_above_right es fs (first_above_tail e (es ++ fs) h)

pub above_le : (e : NumEdge) → above e ≡ false → or_zero e.value ≤ TOP
above_le e h = nltb→le TOP (or_zero e.value) (rw h tt)

-- ---- one pass

-- an edge that is not joined is not above TOP
abbrev Within : Chain → Type 0
Within c = c.more ≡ false → above c.edge ≡ false

within_cons : (c : Chain) (cs : List Chain) → Within c → (first_above (joined_of cs) ≡ none → first_above (edges_of cs) ≡ none)
    → first_above (joined_of (c ∷ cs)) ≡ none → first_above (edges_of (c ∷ cs)) ≡ none
unfolding joined_of
within_cons c cs w k h = go c.more w h
  where
    go : (b : Bool) → (b ≡ false → above c.edge ≡ false) → first_above (cond b (c.edge ∷ joined_of cs) (joined_of cs)) ≡ none → first_above (c.edge ∷ edges_of cs) ≡ none
    go true w h = first_above_cons _ _ (first_above_head _ _ h) (k (first_above_tail _ _ h))
    go false w h = first_above_cons _ _ (w refl) (k h)

-- a chain that took an edge is one of two and more
pub next_more : (p : Pass) (c t : Chain) (e : NumEdge) → next p c e ≡ some t → t.more ≡ true
unfolding next longer
next_more p c t e h = go (joins p c e) h
  where
    go : (b : Bool) → cond b (some (longer c e (joined p c.edge e))) none ≡ some t → t.more ≡ true
    go true h = ap (λ (x : Chain). x.more) (sym (some-injective _ t h))
    go false h = absurd (some-ne-none t (sym h))

within_from : (p : Pass) (l : List NumEdge) (c : Chain) → first_above l ≡ none → Within c
    → first_above (joined_of (from begin (next p) c l)) ≡ none → first_above (edges_of (from begin (next p) c l)) ≡ none
unfolding from begin joined_of
within_from p [] c h w k = within_cons c [] w (λ k. k) k
within_from p (e ∷ l) c h w k = go (next p c e) refl (λ t. within_from p l t (first_above_tail e l h))
  where
    go : (o : Option Chain) → next p c e ≡ o
        → ((t : Chain) → Within t → first_above (joined_of (from begin (next p) t l)) ≡ none → first_above (edges_of (from begin (next p) t l)) ≡ none)
        → first_above (edges_of (from begin (next p) c (e ∷ l))) ≡ none
    go none q ih =
        rw (from_none begin (next p) c e l q)
        (within_cons c (from begin (next p) (begin e) l) w (ih (begin e) (λ _. first_above_head e l h)) (rw (from_none begin (next p) c e l q) at k))
    go (some t) q ih =
        rw (from_some begin (next p) c t e l q)
        (ih t (λ m. absurd (true≢false (sym (next_more p c t e q) ∙ m))) (rw (from_some begin (next p) c t e l q) at k))

pub after_within : (p : Pass) (l : List NumEdge) → first_above l ≡ none → first_above (added p l) ≡ none → first_above (after p l) ≡ none
unfolding added after chains_of chains begin joined_of
after_within p [] h k = k
after_within p (e ∷ l) h k = within_from p l (begin e) (first_above_tail e l h) (λ _. first_above_head e l h) k

-- ---- passes in turn
pub through_within : (ps : List Pass) (l : List NumEdge) → first_above l ≡ none → first_above (added_by ps l) ≡ none → first_above (through ps l) ≡ none
unfolding through added_by
through_within [] l h k = h
through_within (p ∷ ps) l h k =
    through_within ps (after p l) (after_within p l h (first_above_left (added p l) _ k)) (first_above_right (added p l) _ k)
