-- What D1 to G3 make of a line of characters, as pieces of a division: chains of characters, of tokens, of pieces, of parts. A is the alphabet.
--     level 1, D1   Token: a run's digits, a unit or a large power
--     level 2, G1   Piece: an atom or a large power
--     level 3, G2   Part: a row of atoms or a large power
--     level 4, G3   Member
-- At each level k: begin-k and next-k make the chains, parts-k is what a piece is made of, Ok-k is what holds of it; next-parts-k says that a chain which goes on
-- has one part more, resume-k that the chain of a piece's parts is the piece.
use Prim.Native.Nat.{ℕ}
use mathlib.Core.Path.{◌≡◌, refl, ◌∙◌}
use mathlib.Core.Bool.{Bool, true, cond, ◌&&◌}
use mathlib.Core.List.{List, ◌∷◌}
use mathlib.Core.Option.{Option, none, some}
use lib.Dec.{leb, ltb}
use Rattle.passes.specs.Chains.{from, chains}
use Rattle.table_grammar.specs.Row.{Row, one, ◌▷◌, ◌<>>◌}
use Rattle.table_grammar.proofs.ChainParts.{OnSome, on_cond, flat, flat_chains}
use Rattle.table_grammar.specs.Grammar.{CharOf, digit, ten, large, AtomOf, run, times, power, MemberOf, small, block, lone, Alphabet, run_value, atom_value, atom_base, IsAtom, lone_zero, near_base}
use Rattle.table_grammar.proofs.Tests.{le_true, true_le}

abbrev pub row_map : {A B : Type 0} → (A → B) → Row A → Row B
row_map f (one a) = one (f a)
row_map f (r ▷ a) = row_map f r ▷ f a

pub data TokenOf (D T L : Type 0) : Type 0 where
  digits : Row D → TokenOf D T L
  ten₁ : T → TokenOf D T L
  large₁ : L → TokenOf D T L

pub data PieceOf (D T L : Type 0) : Type 0 where
  atom : AtomOf D T → PieceOf D T L
  large₂ : L → PieceOf D T L

pub data PartOf (D T L : Type 0) : Type 0 where
  atoms : Row (AtomOf D T) → PartOf D T L
  large₃ : L → PartOf D T L

module _ {D T L : Type 0} (A : Alphabet D T L) where
  -- ---- level 1
  abbrev pub begin₁ : CharOf D T L → TokenOf D T L
  begin₁ (digit d) = digits (one d)
  begin₁ (ten t) = ten₁ t
  begin₁ (large l) = large₁ l

  abbrev pub next₁ : TokenOf D T L → CharOf D T L → Option (TokenOf D T L)
  next₁ (digits r) (digit d) = some (digits (r ▷ d))
  next₁ (digits r) (ten t) = none
  next₁ (digits r) (large l) = none
  next₁ (ten₁ t) c = none
  next₁ (large₁ l) c = none

  abbrev pub parts₁ : TokenOf D T L → Row (CharOf D T L)
  parts₁ (digits r) = row_map digit r
  parts₁ (ten₁ t) = one (ten t)
  parts₁ (large₁ l) = one (large l)

  abbrev pub Ok₁ : TokenOf D T L → Type 0
  Ok₁ t = Unit {0}

  pub parts_begin₁ : (c : CharOf D T L) → parts₁ (begin₁ c) ≡ one c
  parts_begin₁ (digit d) = refl
  parts_begin₁ (ten t) = refl
  parts_begin₁ (large l) = refl

  pub next_parts₁ : (s : TokenOf D T L) (c : CharOf D T L) → Ok₁ s → OnSome (λ t. (parts₁ t ≡ parts₁ s ▷ c) × Ok₁ t) (next₁ s c)
  next_parts₁ (digits r) (digit d) h = (refl, tt)
  next_parts₁ (digits r) (ten t) h = tt
  next_parts₁ (digits r) (large l) h = tt
  next_parts₁ (ten₁ t) c h = tt
  next_parts₁ (large₁ l) c h = tt

  resume_run : (r : Row D) (l : List (CharOf D T L)) → chains begin₁ next₁ (row_map digit r <>> l) ≡ from begin₁ next₁ (digits r) l
  unfolding from chains
  resume_run (one d) l = refl
  resume_run (r ▷ d) l = resume_run r (digit d ∷ l)

  pub resume₁ : (s : TokenOf D T L) → Ok₁ s → (l : List (CharOf D T L)) → chains begin₁ next₁ (parts₁ s <>> l) ≡ from begin₁ next₁ s l
  unfolding from chains
  resume₁ (digits r) h l = resume_run r l
  resume₁ (ten₁ t) h l = refl
  resume₁ (large₁ k) h l = refl

  -- ---- level 2
  abbrev pub begin₂ : TokenOf D T L → PieceOf D T L
  begin₂ (digits r) = atom (run r)
  begin₂ (ten₁ t) = atom (power t)
  begin₂ (large₁ l) = large₂ l

  abbrev pub next₂ : PieceOf D T L → TokenOf D T L → Option (PieceOf D T L)
  next₂ (atom (run r)) (digits q) = none
  next₂ (atom (run r)) (ten₁ t) = cond (leb 1 (run_value A r)) (some (atom (times r t))) none
  next₂ (atom (run r)) (large₁ l) = none
  next₂ (atom (times r t)) u = none
  next₂ (atom (power t)) u = none
  next₂ (large₂ l) u = none

  abbrev pub parts₂ : PieceOf D T L → Row (TokenOf D T L)
  parts₂ (atom (run r)) = one (digits r)
  parts₂ (atom (times r t)) = one (digits r) ▷ ten₁ t
  parts₂ (atom (power t)) = one (ten₁ t)
  parts₂ (large₂ l) = one (large₁ l)

  abbrev pub Ok₂ : PieceOf D T L → Type 0
  Ok₂ (atom a) = IsAtom A a
  Ok₂ (large₂ l) = Unit {0}

  pub parts_begin₂ : (c : TokenOf D T L) → parts₂ (begin₂ c) ≡ one c
  parts_begin₂ (digits r) = refl
  parts_begin₂ (ten₁ t) = refl
  parts_begin₂ (large₁ l) = refl

  pub ok_begin₂ : (c : TokenOf D T L) → Ok₂ (begin₂ c)
  ok_begin₂ (digits r) = tt
  ok_begin₂ (ten₁ t) = tt
  ok_begin₂ (large₁ l) = tt

  pub next_parts₂ : (s : PieceOf D T L) (c : TokenOf D T L) → Ok₂ s → OnSome (λ t. (parts₂ t ≡ parts₂ s ▷ c) × Ok₂ t) (next₂ s c)
  next_parts₂ (atom (run r)) (digits q) h = tt
  next_parts₂ (atom (run r)) (ten₁ t) h = on_cond _ (leb 1 (run_value A r)) (atom (times r t)) (λ e. (refl, true_le 1 (run_value A r) e))
  next_parts₂ (atom (run r)) (large₁ l) h = tt
  next_parts₂ (atom (times r t)) u h = tt
  next_parts₂ (atom (power t)) u h = tt
  next_parts₂ (large₂ l) u h = tt

  pub resume₂ : (s : PieceOf D T L) → Ok₂ s → (l : List (TokenOf D T L)) → chains begin₂ next₂ (parts₂ s <>> l) ≡ from begin₂ next₂ s l
  unfolding from chains
  resume₂ (atom (run r)) h l = refl
  resume₂ (atom (times r t)) h l = let e : leb 1 (run_value A r) ≡ true = le_true h in rw (e, from)
  resume₂ (atom (power t)) h l = refl
  resume₂ (large₂ k) h l = refl

  -- ---- level 3
  abbrev pub begin₃ : PieceOf D T L → PartOf D T L
  begin₃ (atom a) = atoms (one a)
  begin₃ (large₂ l) = large₃ l

  abbrev pub joins : Option ℕ → AtomOf D T → Bool
  joins none a = lone_zero A a
  joins (some n) a = ltb (atom_value A a) n && ltb (atom_base A a) n

  abbrev pub next₃ : PartOf D T L → PieceOf D T L → Option (PartOf D T L)
  next₃ (atoms s) (atom a) = cond (joins (near_base A s) a) (some (atoms (s ▷ a))) none
  next₃ (atoms s) (large₂ l) = none
  next₃ (large₃ l) p = none

  abbrev pub parts₃ : PartOf D T L → Row (PieceOf D T L)
  parts₃ (atoms s) = row_map atom s
  parts₃ (large₃ l) = one (large₂ l)

  abbrev pub Joined : Row (AtomOf D T) → Type 0
  Joined (one a) = Unit {0}
  Joined (s ▷ a) = Joined s × (joins (near_base A s) a ≡ true)

  abbrev pub Ok₃ : PartOf D T L → Type 0
  Ok₃ (atoms s) = Joined s
  Ok₃ (large₃ l) = Unit {0}

  pub parts_begin₃ : (c : PieceOf D T L) → parts₃ (begin₃ c) ≡ one c
  parts_begin₃ (atom a) = refl
  parts_begin₃ (large₂ l) = refl

  pub ok_begin₃ : (c : PieceOf D T L) → Ok₃ (begin₃ c)
  ok_begin₃ (atom a) = tt
  ok_begin₃ (large₂ l) = tt

  pub next_parts₃ : (s : PartOf D T L) (c : PieceOf D T L) → Ok₃ s → OnSome (λ t. (parts₃ t ≡ parts₃ s ▷ c) × Ok₃ t) (next₃ s c)
  next_parts₃ (atoms s) (atom a) h = on_cond _ (joins (near_base A s) a) (atoms (s ▷ a)) (λ e. (refl, (h, e)))
  next_parts₃ (atoms s) (large₂ l) h = tt
  next_parts₃ (large₃ l) p h = tt

  resume_row : (s : Row (AtomOf D T)) → Joined s → (l : List (PieceOf D T L)) → chains begin₃ next₃ (row_map atom s <>> l) ≡ from begin₃ next₃ (atoms s) l
  unfolding from chains
  resume_row (one a) h l = refl
  resume_row (s ▷ a) h l = resume_row s h.0 (atom a ∷ l) ∙ rw (h.1, from)

  pub resume₃ : (s : PartOf D T L) → Ok₃ s → (l : List (PieceOf D T L)) → chains begin₃ next₃ (parts₃ s <>> l) ≡ from begin₃ next₃ s l
  unfolding from chains
  resume₃ (atoms s) h l = resume_row s h l
  resume₃ (large₃ k) h l = refl

  -- ---- level 4
  abbrev pub begin₄ : PartOf D T L → MemberOf D T L
  begin₄ (atoms s) = small s
  begin₄ (large₃ l) = lone l

  abbrev pub next₄ : MemberOf D T L → PartOf D T L → Option (MemberOf D T L)
  next₄ (small s) (atoms t) = none
  next₄ (small s) (large₃ l) = some (block s l)
  next₄ (block s l) p = none
  next₄ (lone l) p = none

  abbrev pub parts₄ : MemberOf D T L → Row (PartOf D T L)
  parts₄ (small s) = one (atoms s)
  parts₄ (block s l) = one (atoms s) ▷ large₃ l
  parts₄ (lone l) = one (large₃ l)

  abbrev pub Ok₄ : MemberOf D T L → Type 0
  Ok₄ m = Unit {0}

  pub parts_begin₄ : (c : PartOf D T L) → parts₄ (begin₄ c) ≡ one c
  parts_begin₄ (atoms s) = refl
  parts_begin₄ (large₃ l) = refl

  pub next_parts₄ : (s : MemberOf D T L) (c : PartOf D T L) → Ok₄ s → OnSome (λ t. (parts₄ t ≡ parts₄ s ▷ c) × Ok₄ t) (next₄ s c)
  next_parts₄ (small s) (atoms t) h = tt
  next_parts₄ (small s) (large₃ l) h = (refl, tt)
  next_parts₄ (block s l) p h = tt
  next_parts₄ (lone l) p h = tt

  pub resume₄ : (s : MemberOf D T L) → Ok₄ s → (l : List (PartOf D T L)) → chains begin₄ next₄ (parts₄ s <>> l) ≡ from begin₄ next₄ s l
  unfolding from chains
  resume₄ (small s) h l = refl
  resume₄ (block s k) h l = refl
  resume₄ (lone k) h l = refl

  -- ---- the four in turn
  abbrev pub tokens : List (CharOf D T L) → List (TokenOf D T L)
  tokens w = chains begin₁ next₁ w

  abbrev pub pieces : List (CharOf D T L) → List (PieceOf D T L)
  pieces w = chains begin₂ next₂ (tokens w)

  abbrev pub smalls : List (CharOf D T L) → List (PartOf D T L)
  smalls w = chains begin₃ next₃ (pieces w)

  abbrev pub members : List (CharOf D T L) → List (MemberOf D T L)
  members w = chains begin₄ next₄ (smalls w)

  abbrev pub member_chars : List (MemberOf D T L) → List (CharOf D T L)
  member_chars L = flat parts₁ (flat parts₂ (flat parts₃ (flat parts₄ L)))

  pub chars_members : (w : List (CharOf D T L)) → member_chars (members w) ≡ w
  chars_members w = rw (flat_chains begin₄ next₄ parts₄ Ok₄ parts_begin₄ (λ c. tt) next_parts₄ (smalls w), flat_chains begin₃ next₃ parts₃ Ok₃ parts_begin₃ ok_begin₃ next_parts₃ (pieces w), flat_chains begin₂ next₂ parts₂ Ok₂ parts_begin₂ ok_begin₂ next_parts₂ (tokens w), flat_chains begin₁ next₁ parts₁ Ok₁ parts_begin₁ (λ c. tt) next_parts₁ w)
