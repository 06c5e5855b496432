-- Laws of a pass's loop (`pass_list`, specs/StoredPass.antt and specs/Answers.antt), the same for all five passes. No contract cites this file.
-- In order: what `next` says of a chain; the longer chain; lists; a chain above TOP; what a pass answers; the k-th edge; the edges to be read; the chain that
-- an edge begins; the loop over a chain and the loop over the list, each with its invariant and each way out.
-- Assumes nothing.
use mathlib.Core.Path.{◌≡◌, refl, sym, ap, ◌∙◌, subst}
use mathlib.Core.Logic.{inl}
use mathlib.Core.Bool.{Bool, true, false, cond}
use mathlib.Core.List.{List, [], ◌∷◌, ◌++◌, append_assoc, append-nil}
use mathlib.Core.Option.{Option, none, some}
use Prim.Native.Nat.{ℕ, zero, suc, ◌+◌, ◌*◌, ◌-◌, ◌≤◌, ◌<◌}
use native.Mathlib.Nat.{lt_of_lt_of_le, add-zero}
use native.Mathlib.Numerals.{add-one}
use native.Mathlib.Omega.{arith}
use lib.ListN.{length, take, drop, get_or, set}
use lib.Seq.{sets}
use lib.Dec.{ltb}
use borrow.Author.Tests.{lt-ltb, le-ltb, ltb-true, ltb-false}
use Rattle.whole.specs.Whole.{TOP}
use Rattle.passes.specs.Chains.{from, chains}
use Rattle.passes.proofs.ChainsLaws.{chains_cons, from_nil, from_none, from_some}
use Rattle.text.proofs.RowLaws.{and-true}
use Rattle.passes.specs.Passes.{Pass, D1, G1, G2, G3, G4}
use Rattle.pass_list.specs.declared.record.PassEdge.{PassEdge}
use Rattle.pass_rules.specs.declared.chain.Chain.{Chain}
use Rattle.fields.specs.Part.{part}
use Rattle.fields.proofs.PartLaws.{length_part, part_at, part_take, part_sets, part_sets_other, drop_sets, copy_turn, copy_ends}
use Rattle.pass_list.specs.StoredEdge.{StoredEdge, Small, nil, cons, AllSmall, Fits, EdgeIs}
use Rattle.pass_list.specs.Layout.{SIZE}
use Rattle.pass_list.specs.Stored.{record_bytes, stored_at, stored_list_at}
use Rattle.pass_list.specs.StoredPass.{StoredChain, begin, meets, g1_rule, g3_rule, rule, counted, joins, joined_value, longer, next, over, chains_of, edges_of, joined_of, after, added, first_above}
use Rattle.pass_list.specs.Answers.{PassAnswerIs}
use Rattle.pass_rules.specs.Chain.{pass_chain, ChainIs, answer}
use Rattle.pass_run.specs.Ended.{Ended}
use Rattle.text.specs.declared.Place.{Place}
use Rattle.pass_run.specs.Run.{First, Ran, RunIs}
use Rattle.pass_list.proofs.NextLaws.{joins_of_next}
use Rattle.pass_rules.proofs.chain.ChainLaws.{counted_fits, few_decimals}
use Rattle.pass_list.proofs.StoredLaws.{stored_edge_behind, stored_edges_cons, stored_edges_none, stored_edges_snoc, stored_edges_other, length_stored_edges, stored_edges_put, behind_put, behind_next}
use Rattle.std.specs.Prelude.{Some, None, Result, Ok, Err}
use Rattle.whole.specs.Answers.{above_top}

-- ---- what `Chain::join` answers says of the chain
module _ (p : Pass) (x : StoredChain) (y : StoredEdge) where
  pub says_longer : (j : Chain) → answer p x y ≡ Ok (Some j) → (next p x y ≡ some (longer p x y)) × (j ≡ pass_chain (longer p x y)) × (joined_value p x y ≤ TOP)
  unfolding answer next
  says_longer j e = go (joins p x y) (ltb TOP (joined_value p x y)) refl e
    where
      go : (a b : Bool) → ltb TOP (joined_value p x y) ≡ b → cond a (cond b (Err above_top) (Ok (Some (pass_chain (longer p x y))))) (Ok None) ≡ Ok (Some j)
          → (cond a (some (longer p x y)) none ≡ some (longer p x y)) × (j ≡ pass_chain (longer p x y)) × (joined_value p x y ≤ TOP)
      go true true t e = absurd (let z : ◌≡◌ {A = ℕ} 0 1 = cc in omega arith)
      go true false t e = (refl, cc, ltb-false _ _ t)
      go false b t e = absurd (let z : ◌≡◌ {A = ℕ} 0 1 = cc in omega arith)

  pub says_ends : answer p x y ≡ Ok None → next p x y ≡ none
  unfolding answer next
  says_ends e = go (joins p x y) (ltb TOP (joined_value p x y)) e
    where
      go : (a b : Bool) → cond a (cond b (Err above_top) (Ok (Some (pass_chain (longer p x y))))) (Ok None) ≡ Ok None → cond a (some (longer p x y)) none ≡ none
      go true true e = absurd (let z : ◌≡◌ {A = ℕ} 0 1 = cc in omega arith)
      go true false e = absurd (let z : ◌≡◌ {A = ℕ} 0 1 = cc in omega arith)
      go false b e = refl

  pub says_above : answer p x y ≡ Err above_top → (next p x y ≡ some (longer p x y)) × (TOP < joined_value p x y)
  unfolding answer next
  says_above e = go (joins p x y) (ltb TOP (joined_value p x y)) refl e
    where
      go : (a b : Bool) → ltb TOP (joined_value p x y) ≡ b → cond a (cond b (Err above_top) (Ok (Some (pass_chain (longer p x y))))) (Ok None) ≡ Err above_top
          → (cond a (some (longer p x y)) none ≡ some (longer p x y)) × (TOP < joined_value p x y)
      go true true t e = (refl, ltb-true _ _ t)
      go true false t e = absurd (let z : ◌≡◌ {A = ℕ} 0 1 = cc in omega arith)
      go false b t e = absurd (let z : ◌≡◌ {A = ℕ} 0 1 = cc in omega arith)

-- ---- the longer chain
pub longer_fits : (p : Pass) (x : StoredChain) (y : StoredEdge) → joins p x y ≡ true → Fits x.edge → Fits y → joined_value p x y ≤ TOP → Fits (longer p x y).edge
unfolding longer over
longer_fits p x y j f g h =
    let r = counted_fits p x.edge y f g in
    record { small = record { value = h; base = r.small.base; mult = omega arith }; start = f.start; end = r.end; record_offset = omega arith; script_offset = r.script_offset; script_len = r.script_len; decimals = few_decimals p x y j }

ruled : (p : Pass) (x : StoredChain) (y : StoredEdge) → joins p x y ≡ true → rule p x (counted p x.edge y) ≡ true
unfolding joins
ruled p x y j = (and-true (rule p x (counted p x.edge y)) _ (and-true (meets p x y) _ j).1).0

-- a chain of two and more that takes another edge has no lower value: only sums and rows of digits go on
pub joined_grows : (p : Pass) (x : StoredChain) (y : StoredEdge) → x.more ≡ true → joins p x y ≡ true → x.edge.value ≤ joined_value p x y
unfolding joins g1_rule g3_rule
joined_grows D1 x y m j = omega arith
joined_grows G1 x y m j = absurd (let f : false ≡ true = sym (rw m) ∙ ruled G1 x y j in let z : ◌≡◌ {A = ℕ} 0 1 = cc in omega arith)
joined_grows G2 x y m j = omega arith
joined_grows G3 x y m j = absurd (let f : false ≡ true = sym (rw m) ∙ ruled G3 x y j in let z : ◌≡◌ {A = ℕ} 0 1 = cc in omega arith)
joined_grows G4 x y m j = omega arith

-- ---- lists
edges_append : (a b : List StoredChain) → edges_of (a ++ b) ≡ edges_of a ++ edges_of b
edges_append [] b = refl
edges_append (c ∷ a) b = ap (λ (l : List StoredEdge). c.edge ∷ l) (edges_append a b)

joined_append : (a b : List StoredChain) → joined_of (a ++ b) ≡ joined_of a ++ joined_of b
unfolding joined_of
joined_append [] b = refl
joined_append (c ∷ a) b = rw (joined_append a b) (go c.more)
  where
    go : (m : Bool) → cond m (c.edge ∷ (joined_of a ++ joined_of b)) (joined_of a ++ joined_of b) ≡ cond m (c.edge ∷ joined_of a) (joined_of a) ++ joined_of b
    go true = refl
    go false = refl

above_append : (a b : List StoredEdge) → first_above a ≡ none → first_above (a ++ b) ≡ first_above b
unfolding first_above
above_append [] b h = refl
above_append (x ∷ a) b h = go (ltb TOP x.value) (above_append a b) h
  where
    go : (t : Bool) → (first_above a ≡ none → first_above (a ++ b) ≡ first_above b) → cond t (some x.start) (first_above a) ≡ none → cond t (some x.start) (first_above (a ++ b)) ≡ first_above b
    go true r h = absurd (let z : ◌≡◌ {A = ℕ} 0 1 = cc in omega arith)
    go false r h = r h

small_append : (a b : List StoredEdge) → AllSmall a → AllSmall b → AllSmall (a ++ b)
small_append [] b nil t = t
small_append (x ∷ a) b (cons h s) t = cons h (small_append a b s t)

-- one chain whose value is at most TOP
one_below : (c : StoredChain) → c.edge.value ≤ TOP → first_above (joined_of (c ∷ [])) ≡ none
unfolding first_above joined_of
one_below c h = go c.more
  where
    go : (m : Bool) → first_above (cond m (c.edge ∷ []) []) ≡ none
    go true = rw (le-ltb TOP c.edge.value h)
    go false = refl

-- a joined edge above TOP comes first
first_above_lem : (c : StoredChain) (l : List StoredChain) → c.more ≡ true → TOP < c.edge.value → first_above (joined_of (c ∷ l)) ≡ some c.edge.start
unfolding first_above joined_of
first_above_lem c l m h = rw (m, lt-ltb TOP c.edge.value h)

-- ---- the longer chain
longer_more : (p : Pass) (x : StoredChain) (y : StoredEdge) → (longer p x y).more ≡ true
unfolding longer
longer_more p x y = refl

longer_start : (p : Pass) (x : StoredChain) (y : StoredEdge) → (longer p x y).edge.start ≡ x.edge.start
unfolding longer over
longer_start p x y = refl

longer_value : (p : Pass) (x : StoredChain) (y : StoredEdge) → (longer p x y).edge.value ≡ joined_value p x y
unfolding longer over
longer_value p x y = refl

-- ---- a chain whose value is above TOP ends so
module _ (p : Pass) where
  abbrev chain_from : StoredChain → List StoredEdge → List StoredChain
  chain_from = from begin (next p)

  pub from_above : (x : StoredChain) (l : List StoredEdge) → x.more ≡ true → TOP < x.edge.value → first_above (joined_of (chain_from x l)) ≡ some x.edge.start
  from_above x [] m h = rw (from_nil begin (next p) x) (first_above_lem x [] m h)
  from_above x (y ∷ l) m h = go (next p x y) refl (from_above (longer p x y) l (longer_more p x y))
    where
      go : (o : Option StoredChain) → next p x y ≡ o → (TOP < (longer p x y).edge.value → first_above (joined_of (chain_from (longer p x y) l)) ≡ some (longer p x y).edge.start)
          → first_above (joined_of (chain_from x (y ∷ l))) ≡ some x.edge.start
      go none e r = rw (from_none begin (next p) x y l e) (first_above_lem x _ m h)
      go (some t) e r =
          let j = joins_of_next p x y t e in
          let v : TOP < (longer p x y).edge.value = rw (longer_value p x y) (lt_of_lt_of_le h (joined_grows p x y m j.0)) in
          rw (from_some begin (next p) x t y l e, j.1) (r v ∙ rw (longer_start p x y))

-- ---- what a pass answers
passed_above : (p : Pass) (l : List StoredEdge) (u : List ℕ) (a : ℕ) → first_above (joined_of (chains_of p l)) ≡ some a → PassAnswerIs p l u (Err (record { 0 = a }))
unfolding added
passed_above p l u a e =
    let no : (first_above (joined_of (chains_of p l)) ≡ none) → ⊥ = λ n. let z : ◌≡◌ {A = ℕ} 0 1 = cc in omega arith in
    record { answer = rw e; list = λ n. absurd (no n); fewer = λ n. absurd (no n); small = λ n. absurd (no n) }

passed_all : (p : Pass) (l : List StoredEdge) (u : List ℕ) (k : ℕ) (cs : List StoredChain) → cs ≡ chains_of p l → stored_list_at u 0 k ≡ edges_of cs → first_above (joined_of cs) ≡ none → AllSmall (edges_of cs) → k ≤ length l
    → PassAnswerIs p l u (Ok k)
unfolding added after
passed_all p l u k cs all stored below small few =
    let c : length (edges_of (chains_of p l)) ≡ k = rw (← all, ← stored) (length_stored_edges u 0 k) in
    record {
      answer = rw (← all, below, ← stored, length_stored_edges u 0 k);
      list = λ n. rw c (stored ∙ ap edges_of all);
      fewer = λ n. rw c few;
      small = λ n. rw (← all) small;
    }

-- ---- the k-th edge, written before those that are still to be read
pub ended_put : (t : List ℕ) {u : List ℕ} (k i : ℕ) (x : StoredEdge) → Fits x → k < i → i * SIZE ≤ length t → u ≡ sets t (k * SIZE) (record_bytes x) → Ended t k i x u
ended_put t k i x f h room w = record { stored = rw w (stored_edges_put t k x f (omega arith)); rest = rw w (behind_put t t i k x h refl) }

-- the edge stands in its place
pub ended_stands : (t : List ℕ) (k i : ℕ) → k ≡ i → Ended t k (i + 1) (stored_at t (i * SIZE)) t
ended_stands t k i e = let z : 0 + k ≡ i = omega arith in record { stored = stored_edges_snoc t 0 k ∙ rw z; rest = refl }

-- a turn of the loop that copies a record to an earlier place
module _ (s : List ℕ) (to from : ℕ) (apart : to + SIZE ≤ from) (room : from + SIZE ≤ length s) where
  pub moved_turn : {now : List ℕ} (j : ℕ) → j < SIZE → now ≡ sets s to (take j (part s from SIZE)) → set now (to + j) (get_or now (from + j) 0) ≡ sets s to (take (j + 1) (part s from SIZE))
  moved_turn {now} j h e =
      let l = length_part s from SIZE room in
      let q : length (take j (part s from SIZE)) ≡ j = rw (part_take s from SIZE j (omega arith)) (length_part s from j (omega arith)) in
      let r : get_or now (from + j) 0 ≡ get_or (part s from SIZE) j 0 =
      sym (part_at now from SIZE j h) ∙ ap (λ (z : List ℕ). get_or z j 0) (ap (λ (z : List ℕ). part z from SIZE) e ∙ part_sets_other s to (take j (part s from SIZE)) from SIZE (inl (omega arith))) in
      ap (set now (to + j)) r ∙ copy_turn s (part s from SIZE) to j (omega arith) e

  pub moved_ends : {now : List ℕ} (j : ℕ) → SIZE ≤ j → now ≡ sets s to (take j (part s from SIZE)) → now ≡ sets s to (part s from SIZE)
  moved_ends j h e = let l = length_part s from SIZE room in copy_ends s (part s from SIZE) to j (omega arith) e

-- its bytes are copied there
pub ended_moved : (t : List ℕ) {u : List ℕ} (k i : ℕ) → k < i → (i + 1) * SIZE ≤ length t → u ≡ sets t (k * SIZE) (part t (i * SIZE) SIZE) → Ended t k (i + 1) (stored_at t (i * SIZE)) u
unfolding stored_at
ended_moved t {u} k i h room w =
    let l = length_part t (i * SIZE) SIZE (omega arith) in
    let z : (0 + k) * SIZE ≡ k * SIZE = omega arith in
    let there : part (sets t (k * SIZE) (part t (i * SIZE) SIZE)) (k * SIZE) SIZE ≡ part t (i * SIZE) SIZE = part_sets t (k * SIZE) (part t (i * SIZE) SIZE) SIZE l (omega arith) in
    record {
      stored = rw w (stored_edges_snoc (sets t (k * SIZE) (part t (i * SIZE) SIZE)) 0 k ∙ rw (z, stored_edges_other t (k * SIZE) (part t (i * SIZE) SIZE) 0 k (omega arith), there));
      rest = rw w (drop_sets t (k * SIZE) (part t (i * SIZE) SIZE) ((i + 1) * SIZE) (omega arith));
    }

-- ---- edges that are still to be read
stored_edges_behind : (s t : List ℕ) (i n : ℕ) → drop (i * SIZE) t ≡ drop (i * SIZE) s → stored_list_at t i n ≡ stored_list_at s i n
unfolding stored_list_at
stored_edges_behind s t i zero e = refl
stored_edges_behind s t i (suc n) e = rw (stored_edge_behind s t (i * SIZE) e, stored_edges_behind s t (suc i) n (rw add-one at (behind_next s t i e)))

one_small : {x : StoredEdge} {l : List StoredEdge} → AllSmall (x ∷ l) → Small x
one_small (cons x a) = x

small_later : (s : List ℕ) (i d n : ℕ) → AllSmall (stored_list_at s i (d + n)) → AllSmall (stored_list_at s (i + d) n)
unfolding stored_list_at
small_later s i zero n a = let e : 0 + n ≡ n = omega arith in let b : AllSmall (stored_list_at s i n) = rw e at a in rw add-zero b
small_later s i (suc d) n a =
    let e : i + suc d ≡ suc i + d = omega arith in
    let f : suc d + n ≡ suc (d + n) = omega arith in
    rw e (small_later s (suc i) d n (tail (rw f at a)))
  where
    tail : {x : StoredEdge} {l : List StoredEdge} → AllSmall (x ∷ l) → AllSmall l
    tail (cons x a) = a

-- from the j-th on
small_behind : (s : List ℕ) (i j n : ℕ) → i ≤ j → j ≤ n → AllSmall (stored_list_at s i (n - i)) → AllSmall (stored_list_at s j (n - j))
small_behind s i j n h k a =
    let e : n - i ≡ (j - i) + (n - j) = omega arith in
    let f : i + (j - i) ≡ j = omega arith in
    rw f at (small_later s i (j - i) (n - j) (rw e at a))

-- the j-th of them
pub small_one : (s : List ℕ) (i j n : ℕ) → i ≤ j → j < n → AllSmall (stored_list_at s i (n - i)) → Small (stored_at s (j * SIZE))
small_one s i j n h k a = one_small (rw (stored_edges_cons s j n k) at (small_behind s i j n h (omega arith) a))

-- ---- the chain that an edge begins
begin_edge : (y : StoredEdge) → (begin y).edge ≡ y
unfolding begin
begin_edge y = refl

begin_is : {e : StoredEdge} {c : Chain} (f : Fits e) → c ≡ pass_chain (begin e) → ChainIs c (begin e)
unfolding begin
begin_is f h = record { is = h; fits = f }

chains_none : (p : Pass) → chains_of p [] ≡ []
unfolding chains_of chains
chains_none p = refl

chains_first : (p : Pass) (y : StoredEdge) (l : List StoredEdge) → chains_of p (y ∷ l) ≡ from begin (next p) (begin y) l
unfolding chains_of
chains_first p y l = chains_cons begin (next p) y l

-- the chain c is open before the j-th of n edges: it ends there where it doesn't take that one, or where there is none
module _ (p : Pass) (s : List ℕ) (n j : ℕ) (c : StoredChain) where
  ends_before_lem : (j < n → next p c (stored_at s (j * SIZE)) ≡ none) → from begin (next p) c (stored_list_at s j (n - j)) ≡ c ∷ chains_of p (stored_list_at s j (n - j))
  ends_before_lem f = go (ltb j n) refl
    where
      go : (b : Bool) → ltb j n ≡ b → from begin (next p) c (stored_list_at s j (n - j)) ≡ c ∷ chains_of p (stored_list_at s j (n - j))
      go true t = let h = ltb-true _ _ t in rw (stored_edges_cons s j n h) (from_none begin (next p) c _ _ (f h) ∙ rw (chains_first p (stored_at s (j * SIZE)) (stored_list_at s (j + 1) (n - (j + 1)))))
      go false t = rw (stored_edges_none s j n (ltb-false _ _ t), chains_none p) (from_nil begin (next p) c)

-- ---- the loop over a chain: c is open before the j-th edge
pub record Open (p : Pass) (s : List ℕ) (n i : ℕ) (c : Chain) (j : ℕ) : Type 0 where
  pub later : i < j
  pub inside : j ≤ n
  pub model : StoredChain
  pub is : ChainIs c model
  pub so_far : from begin (next p) model (stored_list_at s j (n - j)) ≡ chains_of p (stored_list_at s i (n - i))

module _ (p : Pass) (s : List ℕ) (n i : ℕ) where
  pub opens : (c : Chain) {e : PassEdge} → i < n → EdgeIs e (stored_at s (i * SIZE)) → c ≡ pass_chain (begin (stored_at s (i * SIZE))) → Open p s n i c (i + 1)
  opens c h e b = record { later = omega arith; inside = omega arith; model = begin (stored_at s (i * SIZE)); is = begin_is e.fits b; so_far = sym (ap (chains_of p) (stored_edges_cons s i n h) ∙ chains_first p _ _) }

  module _ (c : Chain) (j : ℕ) (g : Open p s n i c j) where
    abbrev y : StoredEdge
    y = stored_at s (j * SIZE)

    -- it ends there, where it does not take the edge there
    closed : (j < n → next p g.model y ≡ none) → First p s n i j g.model.edge
    closed f = record { later = g.later; inside = g.inside; chain = g.model; edge = refl; chains = sym g.so_far ∙ ends_before_lem p s n j g.model f }

    pub closes : n ≤ j → First p s n i j g.model.edge
    closes h = closed (λ k. absurd (omega arith))

    pub ends : answer p g.model y ≡ Ok None → First p s n i j g.model.edge
    ends e = closed (λ k. says_ends p g.model y e)

    module _ (h : j < n) where
      open_next : from begin (next p) g.model (y ∷ stored_list_at s (j + 1) (n - (j + 1))) ≡ chains_of p (stored_list_at s i (n - i))
      open_next = rw (← (stored_edges_cons s j n h)) g.so_far

      pub takes : (d : Chain) → Fits y → answer p g.model y ≡ Ok (Some d) → Open p s n i d (j + 1)
      takes d f e =
          let a = says_longer p g.model y d e in
          let l = g.later in
          record {
            later = omega arith;
            inside = omega arith;
            model = longer p g.model y;
            is = record { is = a.1; fits = longer_fits p g.model y (joins_of_next p g.model y (longer p g.model y) a.0).0 g.is.fits f a.2 };
            so_far = sym (from_some begin (next p) g.model (longer p g.model y) y _ a.0) ∙ open_next;
          }

      pub above : answer p g.model y ≡ Err above_top → first_above (added p (stored_list_at s i (n - i))) ≡ some c.edge.start.0
      unfolding added
      above e =
          let a = says_above p g.model y e in
          let z = longer p g.model y in
          let v : TOP < z.edge.value = rw (longer_value p g.model y) a.1 in
          rw (g.is.is, ← open_next, from_some begin (next p) g.model z y (stored_list_at s (j + 1) (n - (j + 1))) a.0) (from_above p z _ (longer_more p g.model y) v ∙ rw (longer_start p g.model y))

-- what was answered of it
module _ (p : Pass) (s t : List ℕ) (n k i : ℕ) {r : Result ℕ Place} (h : RunIs p s n k i t r) where
  pub ran_to : {j : ℕ} → r ≡ Ok j → Ran p s n k i t j
  unfolding RunIs
  ran_to e = rw e at h

  pub ran_above : {a : Place} → r ≡ Err a → first_above (added p (stored_list_at s i (n - i))) ≡ some a.0
  unfolding RunIs
  ran_above e = rw e at h

-- an edge that takes no neighbour is a chain of its own
pub first_alone : (p : Pass) (s : List ℕ) (n i : ℕ) → i < n → (i + 1 < n → next p (begin (stored_at s (i * SIZE))) (stored_at s ((i + 1) * SIZE)) ≡ none) → First p s n i (i + 1) (stored_at s (i * SIZE))
first_alone p s n i h f = record {
  later = omega arith;
  inside = omega arith;
  chain = begin (stored_at s (i * SIZE));
  edge = begin_edge (stored_at s (i * SIZE));
  chains = ap (chains_of p) (stored_edges_cons s i n h) ∙ chains_first p _ _ ∙ ends_before_lem p s n (i + 1) (begin (stored_at s (i * SIZE))) f;
}

-- ---- the loop over the list: the edges over k chains are written, and the i-th of n edges is read next
pub record Going (p : Pass) (s : List ℕ) (n : ℕ) (t : List ℕ) (i k : ℕ) : Type 0 where
  pub behind : k ≤ i
  pub inside : i ≤ n
  pub long : length t ≡ length s
  -- the chains that ended
  pub done : List StoredChain
  pub stored : stored_list_at t 0 k ≡ edges_of done
  pub below : first_above (joined_of done) ≡ none
  pub small : AllSmall (edges_of done)
  -- what is to be read
  pub rest : AllSmall (stored_list_at t i (n - i))
  pub so_far : done ++ chains_of p (stored_list_at t i (n - i)) ≡ chains_of p (stored_list_at s 0 n)

module _ (p : Pass) (s : List ℕ) (n : ℕ) where
  pub begins : AllSmall (stored_list_at s 0 n) → Going p s n s 0 0
  unfolding stored_list_at joined_of first_above
  begins a = let e : n - 0 ≡ n = omega arith in record { behind = omega arith; inside = omega arith; long = refl; done = []; stored = refl; below = refl; small = nil; rest = rw e a; so_far = rw e }

  module _ (t : List ℕ) (i k : ℕ) (g : Going p s n t i k) where
    pub goes_on : (u : List ℕ) (j : ℕ) → length u ≡ length t → Ran p t n k i u j → Going p s n u j (k + 1)
    goes_on u j kept r =
        let b = g.behind in
        let f = r.first in
        let l = f.later in
        let c = f.chain in
        let same : stored_list_at u j (n - j) ≡ stored_list_at t j (n - j) = stored_edges_behind t u j (n - j) r.ended.rest in
        let small : Small c.edge = subst Small (sym f.edge) r.small in
        record {
          behind = omega arith;
          inside = f.inside;
          long = kept ∙ g.long;
          done = g.done ++ (c ∷ []);
          stored = r.ended.stored ∙ rw (g.stored, ← f.edge, edges_append g.done (c ∷ []));
          below = rw (joined_append g.done (c ∷ []), above_append (joined_of g.done) (joined_of (c ∷ [])) g.below) (one_below c small.value);
          small = rw (edges_append g.done (c ∷ [])) (small_append _ _ g.small (cons small nil));
          rest = rw same (small_behind t i j n (omega arith) f.inside g.rest);
          so_far = rw same (append_assoc g.done (c ∷ []) _ ∙ rw (← f.chains) g.so_far);
        }

    pub stops : (u : List ℕ) (a : ℕ) → first_above (added p (stored_list_at t i (n - i))) ≡ some a → PassAnswerIs p (stored_list_at s 0 n) u (Err (record { 0 = a }))
    unfolding added
    stops u a e = passed_above p (stored_list_at s 0 n) u a (rw (← g.so_far, joined_append g.done (chains_of p (stored_list_at t i (n - i))), above_append (joined_of g.done) (joined_of (chains_of p (stored_list_at t i (n - i)))) g.below) e)

    pub finishes : n ≤ i → PassAnswerIs p (stored_list_at s 0 n) t (Ok k)
    finishes h =
        let b = g.behind in
        let d = g.inside in
        let all : g.done ≡ chains_of p (stored_list_at s 0 n) = rw (stored_edges_none t i n h, chains_none p, append-nil) at g.so_far in
        passed_all p (stored_list_at s 0 n) t k g.done all g.stored g.below g.small (rw (length_stored_edges s 0 n) (omega arith))
