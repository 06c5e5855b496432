-- The edges of the passes that are one place long are those of characters, one for each place. No contract cites this file.
-- In order: lists; one pass; the passes; the characters. Assumes nothing.
use mathlib.Core.Path.{◌≡◌, refl, sym, ap, ◌∙◌, subst}
use mathlib.Core.Logic.{◌⊎◌, inl, inr}
use mathlib.Core.Bool.{Bool, true, false, cond, ◌&&◌}
use mathlib.Core.List.Memᴰ
use mathlib.Core.List.{List, [], ◌∷◌, Memᴰ}
use mathlib.Core.Option.{Option, none, some}
use Prim.Native.Nat.{ℕ, suc, ◌≤◌, ◌<◌}
use native.Mathlib.Omega.{arith}
use borrow.Author.Tests.{eqb-true}
use Rattle.text.proofs.RowLaws.{and-true}
use Rattle.table.specs.Table.{Record, Table, find}
use Rattle.passes.specs.NumEdge.{NumEdge}
use Rattle.passes.specs.Characters.{char_edge, with_edge, char_edges, first_list}
use Rattle.passes.specs.Passes.{Pass, D1, G1, G2, G3, G4, Chain, begin, longer, touches, rule, over, over_digits, joined, next, chains_of, edges_of, joined_of, after, added, through, added_by, five, fifth_list, joined_edges}
use Rattle.pass_list.specs.StoredEdge.{Every, nil, cons}
use Rattle.pass_list.proofs.in_turn.Simulation.{chains_every}
use Rattle.pass_list.proofs.in_turn.EveryLaws.{every_append}

-- ---- lists
module _ {A : Type 0} {P : A → Type 0} where
  pub every_at : {x : A} {l : List A} → Every P l → Memᴰ x l → P x
  every_at nil m = elim m [ ]
  every_at (cons p h) (Memᴰ.head e) = subst P (sym e) p
  every_at (cons p h) (Memᴰ.tail m) = every_at h m

  every_mem : (l : List A) → ((x : A) → Memᴰ x l → P x) → Every P l
  every_mem [] f = nil
  every_mem (x ∷ l) f = cons (f x (Memᴰ.head refl)) (every_mem l (λ y m. f y (Memᴰ.tail m)))

-- ---- one pass
pub record Placed (first : List NumEdge) (x : NumEdge) : Type 0 where
  pub rises : x.start < x.end
  pub own : x.end ≡ suc x.start → Memᴰ x first

joined_start : (p : Pass) (l r : NumEdge) → (joined p l r).start ≡ l.start
unfolding joined over over_digits
joined_start D1 l r = refl
joined_start G1 l r = refl
joined_start G2 l r = refl
joined_start G3 l r = refl
joined_start G4 l r = refl

joined_end : (p : Pass) (l r : NumEdge) → (joined p l r).end ≡ r.end
unfolding joined over over_digits
joined_end D1 l r = refl
joined_end G1 l r = refl
joined_end G2 l r = refl
joined_end G3 l r = refl
joined_end G4 l r = refl

module _ (first : List NumEdge) where
  joined_placed : (p : Pass) (l r : NumEdge) → l.end ≡ r.start → Placed first l → Placed first r → Placed first (joined p l r)
  joined_placed p l r e a b =
      let s = joined_start p l r in
      let z = joined_end p l r in
      let f = a.rises in
      let g = b.rises in
      record { rises = omega arith; own = λ h. absurd (omega arith) }

  next_placed : (p : Pass) (c d : Chain) (e : NumEdge) → next p c e ≡ some d → Placed first c.edge → Placed first e → Placed first d.edge
  unfolding next longer
  next_placed p c d e = go (touches c e && rule p c e) refl
    where
      go : (b : Bool) → (touches c e && rule p c e) ≡ b → cond b (some (longer c e (joined p c.edge e))) none ≡ some d → Placed first c.edge → Placed first e → Placed first d.edge
      go true t h q k =
          let is : longer c e (joined p c.edge e) ≡ d = cc in
          subst (λ (x : Chain). Placed first x.edge) is (joined_placed p c.edge e (eqb-true c.edge.end e.start (and-true (touches c e) (rule p c e) t).0) q k)
      go false t h q k = let z : ◌≡◌ {A = ℕ} 0 1 = cc in absurd (omega arith)

  begin_placed : (e : NumEdge) → Placed first e → Placed first (begin e).edge
  unfolding begin
  begin_placed e h = h

  chains_placed : (p : Pass) (l : List NumEdge) → Every (Placed first) l → Every (λ (c : Chain). Placed first c.edge) (chains_of p l)
  unfolding chains_of
  chains_placed p l h = chains_every begin (next p) (Placed first) (λ (c : Chain). Placed first c.edge) begin_placed (λ c e d q k t. next_placed p c d e t q k) l h

  edges_placed : (cs : List Chain) → Every (λ (c : Chain). Placed first c.edge) cs → Every (Placed first) (edges_of cs)
  edges_placed [] nil = nil
  edges_placed (c ∷ cs) (cons p h) = cons p (edges_placed cs h)

  more_placed : (cs : List Chain) → Every (λ (c : Chain). Placed first c.edge) cs → Every (Placed first) (joined_of cs)
  unfolding joined_of
  more_placed [] nil = nil
  more_placed (c ∷ cs) (cons p h) = go c.more (more_placed cs h)
    where
      go : (b : Bool) → Every (Placed first) (joined_of cs) → Every (Placed first) (cond b (c.edge ∷ joined_of cs) (joined_of cs))
      go true k = cons p k
      go false k = k

  -- ---- the passes
  after_placed : (p : Pass) (l : List NumEdge) → Every (Placed first) l → Every (Placed first) (after p l)
  unfolding after
  after_placed p l h = edges_placed (chains_of p l) (chains_placed p l h)

  pub through_placed : (ps : List Pass) (l : List NumEdge) → Every (Placed first) l → Every (Placed first) (through ps l)
  unfolding through
  through_placed [] l h = h
  through_placed (p ∷ ps) l h = through_placed ps (after p l) (after_placed p l h)

  pub added_placed : (ps : List Pass) (l : List NumEdge) → Every (Placed first) l → Every (Placed first) (added_by ps l)
  unfolding added_by added
  added_placed [] l h = nil
  added_placed (p ∷ ps) l h = every_append (Placed first) _ _ (more_placed (chains_of p l) (chains_placed p l h)) (added_placed ps (after p l) (after_placed p l h))

-- ---- the characters
pub record CharAt (i : ℕ) (x : NumEdge) : Type 0 where
  pub from : i ≤ x.start
  pub one : x.end ≡ suc x.start

char_later : (i : ℕ) (x : NumEdge) → CharAt (suc i) x → CharAt i x
char_later i x p = let f = p.from in record { from = omega arith; one = p.one }

char_here_lem : (i c : ℕ) (r : Record) → CharAt i (char_edge i c r)
unfolding char_edge
char_here_lem i c r = record { from = omega arith; one = refl }

chars_later : (i : ℕ) {l : List NumEdge} → Every (CharAt (suc i)) l → Every (CharAt i) l
chars_later i nil = nil
chars_later i (cons {x = x} p h) = cons (char_later i x p) (chars_later i h)

chars_at : (rs : List Record) (i : ℕ) (w : List ℕ) → Every (CharAt i) (char_edges rs i w)
unfolding char_edges
chars_at rs i [] = nil
chars_at rs i (c ∷ w) = go (find rs c) (chars_later i (chars_at rs (suc i) w))
  where
    go : (o : Option Record) → Every (CharAt i) (char_edges rs (suc i) w) → Every (CharAt i) (with_edge i c o (char_edges rs (suc i) w))
    go none h = h
    go (some r) h = cons (char_here_lem i c r) h

-- no two at one place
pub one_char : (rs : List Record) (i : ℕ) (w : List ℕ) (x y : NumEdge) → Memᴰ x (char_edges rs i w) → Memᴰ y (char_edges rs i w) → x.start ≡ y.start → x ≡ y
unfolding char_edges char_edge
one_char rs i [] x y m n e = absurd (Memᴰ.not-nil m)
one_char rs i (c ∷ w) x y m n e = go (find rs c) (λ p q. one_char rs (suc i) w x y p q e) m n
  where
    rest : (z : NumEdge) → Memᴰ z (char_edges rs (suc i) w) → i < z.start
    rest z m = (every_at (chars_at rs (suc i) w) m).from

    cases : (r : Record) → (Memᴰ x (char_edges rs (suc i) w) → Memᴰ y (char_edges rs (suc i) w) → x ≡ y)
        → (x ≡ char_edge i c r) ⊎ Memᴰ x (char_edges rs (suc i) w) → (y ≡ char_edge i c r) ⊎ Memᴰ y (char_edges rs (suc i) w) → x ≡ y
    cases r ih (inl p) (inl q) = p ∙ sym q
    cases r ih (inl p) (inr q) = let s = ap (λ (z : NumEdge). z.start) p in let k = rest y q in absurd (omega arith)
    cases r ih (inr p) (inl q) = let s = ap (λ (z : NumEdge). z.start) q in let k = rest x p in absurd (omega arith)
    cases r ih (inr p) (inr q) = ih p q

    go : (o : Option Record) → (Memᴰ x (char_edges rs (suc i) w) → Memᴰ y (char_edges rs (suc i) w) → x ≡ y)
        → Memᴰ x (with_edge i c o (char_edges rs (suc i) w)) → Memᴰ y (with_edge i c o (char_edges rs (suc i) w)) → x ≡ y
    go none ih p q = ih p q
    go (some r) ih p q = cases r ih (Memᴰ.cases_cons p) (Memᴰ.cases_cons q)

pub first_placed : (t : Table) (w : List ℕ) → Every (Placed (first_list t w)) (first_list t w)
first_placed t w = every_mem (first_list t w) (λ x m. let o = (every_at (chars_at t.records 0 w) m).one in record { rises = omega arith; own = λ h. m })

pub fifth_placed : (t : Table) (w : List ℕ) → Every (Placed (first_list t w)) (fifth_list t w)
fifth_placed t w = through_placed (first_list t w) five (first_list t w) (first_placed t w)

pub joined_edges_placed : (t : Table) (w : List ℕ) → Every (Placed (first_list t w)) (joined_edges t w)
joined_edges_placed t w = added_placed (first_list t w) five (first_list t w) (first_placed t w)
