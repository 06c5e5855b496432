-- The members that `proofs/Pieces.antt` makes of a line: each is one by the grammar, and every reading's members are found again, so that two readings are the same.
-- In order: from the chains to the grammar, level by level; from the grammar to the chains; the characters of a division; one reading.
use Prim.Native.Nat.{ℕ, ◌<◌}
use mathlib.Core.Path.{◌≡◌, refl, sym, ap, ◌∙◌}
use mathlib.Core.Bool.{Bool, true, false, cond}
use mathlib.Core.List.{List, [], ◌∷◌}
use mathlib.Core.Option.{Option, none, some, some-ne-none, some-injective}
use native.Mathlib.Omega.{arith}
use lib.Dec.{leb, ltb}
use Rattle.passes.specs.Chains.{chains}
use Rattle.table_grammar.specs.Row.{Row, one, ◌▷◌, ◌<>>◌, last, head}
use Rattle.table_grammar.proofs.ChainParts.{Along, Next, Inside, flat, Stop, good_chains, chains_along, chains_flat, flat_along, along_map}
use Rattle.table_grammar.specs.Grammar.{CharOf, digit, AtomOf, run, times, power, MemberOf, small, block, lone, DivisionOf, Alphabet, run_value, atom_value, atom_base, Follows, lone_zero, near_base, Below, IsSmall, IsMember, IsBlock, IsNumeral, run_text, atom_text, small_text, member_text, division_text, ReadingOf}
use Rattle.table_grammar.proofs.Pieces.{row_map, TokenOf, digits, PieceOf, atom, large₂, PartOf, atoms, large₃, begin₁, next₁, parts₁, Ok₁, parts_begin₁, next_parts₁, resume₁, begin₂, next₂, parts₂, Ok₂, parts_begin₂, ok_begin₂, next_parts₂, resume₂, begin₃, next₃, parts₃, Ok₃, parts_begin₃, ok_begin₃, next_parts₃, resume₃, begin₄, next₄, parts₄, Ok₄, parts_begin₄, next_parts₄, resume₄, joins, Joined, tokens, pieces, smalls, members, member_chars}
use Rattle.table_grammar.proofs.Tests.{le_true, true_le, false_lt, and_left, and_right}

head_map : {A B : Type 0} (f : A → B) (r : Row A) → head (row_map f r) ≡ f (head r)
head_map f (one a) = refl
head_map f (r ▷ a) = head_map f r

pub last_map : {A B : Type 0} (f : A → B) (r : Row A) → last (row_map f r) ≡ f (last r)
last_map f (one a) = refl
last_map f (r ▷ a) = refl

no_cond : {A : Type 0} (b : Bool) (a : A) → cond b (some a) none ≡ none → b ≡ false
no_cond true a e = absurd (some-ne-none _ e)
no_cond false a e = refl

-- ---- a row is known by its list
abbrev pub build : {A : Type 0} → Row A → List A → Row A
build r [] = r
build r (a ∷ l) = build (r ▷ a) l

abbrev pub row_of : {A : Type 0} → List A → Option (Row A)
row_of [] = none
row_of (a ∷ l) = some (build (one a) l)

pub row_build : {A : Type 0} (r : Row A) (l : List A) → row_of (r <>> l) ≡ some (build r l)
row_build (one a) l = refl
row_build (r ▷ a) l = row_build r (a ∷ l)

pub row_inj : {A : Type 0} (r q : Row A) → r <>> [] ≡ q <>> [] → r ≡ q
row_inj r q e = some-injective r q (sym (row_build r []) ∙ ap row_of e ∙ row_build q [])

module _ {D T L : Type 0} (A : Alphabet D T L) where
  -- ---- from the chains to the grammar: level 2, atoms
  abbrev pub After₂ : PieceOf D T L → PieceOf D T L → Type 0
  After₂ (atom a) (atom b) = Follows A a b
  After₂ (atom a) (large₂ l) = Unit {0}
  After₂ (large₂ l) q = Unit {0}

  no_digit : (r q : Row D) → next₁ A (digits r) (head (row_map digit q)) ≡ none → ⊥
  no_digit r q e = some-ne-none _ (rw (head_map {B = CharOf D T L} digit q) at e)

  no_times : (v : ℕ) (p : PieceOf D T L) → cond (leb 1 v) (some p) none ≡ none → v ≡ 0
  no_times v p e = let l : v < 1 = false_lt 1 v (no_cond (leb 1 v) p e) in omega arith

  after₂ : (p q : PieceOf D T L) → Stop (next₁ A) (parts₁ A) (last (parts₂ A p)) (head (parts₂ A q)) → Stop (next₂ A) (parts₂ A) p q → After₂ p q
  after₂ (atom (run r)) (atom (run q)) e h = no_digit r q e
  after₂ (atom (run r)) (atom (times q t)) e h = no_digit r q e
  after₂ (atom (run r)) (atom (power t)) e h = no_times (run_value A r) (atom (times r t)) h
  after₂ (atom (run r)) (large₂ l) e h = tt
  after₂ (atom (times r t)) (atom b) e h = tt
  after₂ (atom (times r t)) (large₂ l) e h = tt
  after₂ (atom (power t)) (atom b) e h = tt
  after₂ (atom (power t)) (large₂ l) e h = tt
  after₂ (large₂ l) q e h = tt

  along₂ : (w : List (CharOf D T L)) → Along (Ok₂ A) After₂ (pieces A w)
  along₂ w =
      along_map (λ p h. h.1) (λ p q h k e. after₂ p q e.0 e.1) (pieces A w)
      (chains_along (begin₂ A) (next₂ A) (parts₂ A) (Ok₂ A) (parts_begin₂ A) (ok_begin₂ A) (next_parts₂ A) (Ok₁ A) (Stop (next₁ A) (parts₁ A)) (tokens A w)
      (good_chains (begin₁ A) (next₁ A) (parts₁ A) (Ok₁ A) (parts_begin₁ A) (λ c. tt) (next_parts₁ A) w))

  -- ---- level 3, smalls
  abbrev pub OkPart : PartOf D T L → Type 0
  OkPart (atoms s) = IsSmall A s
  OkPart (large₃ l) = Unit {0}

  -- two smalls that touch: the second does not go on with the first
  abbrev pub SmallsApart : Row (AtomOf D T) → Row (AtomOf D T) → Type 0
  SmallsApart s t = Follows A (last s) (head t) × (joins A (near_base A s) (head t) ≡ false)

  abbrev pub Apart₃ : PartOf D T L → PartOf D T L → Type 0
  Apart₃ (atoms s) (atoms t) = SmallsApart s t
  Apart₃ (atoms s) (large₃ l) = Unit {0}
  Apart₃ (large₃ l) q = Unit {0}

  is_zero : (b : Bool) (o : Option ℕ) (n : ℕ) → cond b o (some n) ≡ none → b ≡ true
  is_zero true o n e = refl
  is_zero false o n e = absurd (some-ne-none _ e)

  near_none : (s : Row (AtomOf D T)) → near_base A s ≡ none → lone_zero A (last s) ≡ true
  near_none (one a) e = is_zero (lone_zero A a) none (atom_base A a) e
  near_none (s ▷ a) e = is_zero (lone_zero A a) (near_base A s) (atom_base A a) e

  -- no lone 零 follows another
  zero_zero : (a b : AtomOf D T) → lone_zero A a ≡ true → lone_zero A b ≡ true → Follows A a b → ⊥
  zero_zero (run r) (run q) h k f = f
  zero_zero (run r) (times q t) h k f = f
  zero_zero (run r) (power t) h k f = let z : ◌≡◌ {A = ℕ} 0 1 = cc in omega arith
  zero_zero (times r t) b h k f = let z : ◌≡◌ {A = ℕ} 0 1 = cc in omega arith
  zero_zero (power t) b h k f = let z : ◌≡◌ {A = ℕ} 0 1 = cc in omega arith

  below : (s : Row (AtomOf D T)) (a : AtomOf D T) → Follows A (last s) a → joins A (near_base A s) a ≡ true → Below (near_base A s) (atom_value A a) (atom_base A a)
  below s a f e = go (near_base A s) refl e
    where
      go : (n : Option ℕ) → near_base A s ≡ n → joins A n a ≡ true → Below n (atom_value A a) (atom_base A a)
      go none h e = zero_zero (last s) a (near_none s h) e f
      go (some n) h e = (true_le _ _ (and_left _ _ e), true_le _ _ (and_right (ltb (atom_value A a) n) _ e))

  small_of : (s : Row (AtomOf D T)) → Inside (Ok₂ A) After₂ (row_map atom s) → Joined A s → IsSmall A s
  small_of (one a) i j = i
  small_of (s ▷ a) i j =
      let f : Follows A (last s) a = rw (last_map {B = PieceOf D T L} atom s) at i.1 in
      (small_of s i.0 j.0, f, i.2, below s a f j.1)

  ok_part : (p : PartOf D T L) → Inside (Ok₂ A) After₂ (parts₃ A p) × Ok₃ A p → OkPart p
  ok_part (atoms s) h = small_of s h.0 h.1
  ok_part (large₃ l) h = tt

  apart₃ : (p q : PartOf D T L) → After₂ (last (parts₃ A p)) (head (parts₃ A q)) → Stop (next₃ A) (parts₃ A) p q → Apart₃ p q
  apart₃ (atoms s) (atoms t) a e = (rw (last_map {B = PieceOf D T L} atom s, head_map {B = PieceOf D T L} atom t) at a, no_cond (joins A (near_base A s) (head t)) (atoms (s ▷ head t)) (rw (head_map {B = PieceOf D T L} atom t) at e))
  apart₃ (atoms s) (large₃ l) a e = tt
  apart₃ (large₃ l) q a e = tt

  along₃ : (w : List (CharOf D T L)) → Along OkPart Apart₃ (smalls A w)
  along₃ w =
      along_map ok_part (λ p q h k e. apart₃ p q e.0 e.1) (smalls A w)
      (chains_along (begin₃ A) (next₃ A) (parts₃ A) (Ok₃ A) (parts_begin₃ A) (ok_begin₃ A) (next_parts₃ A) (Ok₂ A) After₂ (pieces A w) (along₂ w))

  -- ---- level 4, members
  abbrev pub Apart₄ : MemberOf D T L → MemberOf D T L → Type 0
  Apart₄ (small s) (small t) = SmallsApart s t
  Apart₄ (small s) (block t l) = SmallsApart s t
  Apart₄ (small s) (lone l) = ⊥
  Apart₄ (block s l) m = Unit {0}
  Apart₄ (lone l) m = Unit {0}

  ok_member : (m : MemberOf D T L) → Inside OkPart Apart₃ (parts₄ A m) × Ok₄ A m → IsMember A m
  ok_member (small s) h = h.0
  ok_member (block s l) h = h.0.0
  ok_member (lone l) h = tt

  apart₄ : (m n : MemberOf D T L) → Apart₃ (last (parts₄ A m)) (head (parts₄ A n)) → Stop (next₄ A) (parts₄ A) m n → Apart₄ m n
  apart₄ (small s) (small t) a e = a
  apart₄ (small s) (block t l) a e = a
  apart₄ (small s) (lone l) a e = some-ne-none _ e
  apart₄ (block s l) m a e = tt
  apart₄ (lone l) m a e = tt

  pub along₄ : (w : List (CharOf D T L)) → Along (IsMember A) Apart₄ (members A w)
  along₄ w =
      along_map ok_member (λ p q h k e. apart₄ p q e.0 e.1) (members A w)
      (chains_along (begin₄ A) (next₄ A) (parts₄ A) (Ok₄ A) (parts_begin₄ A) (λ c. tt) (next_parts₄ A) OkPart Apart₃ (smalls A w) (along₃ w))

  -- ---- from the grammar to the chains
  abbrev Ends : MemberOf D T L → MemberOf D T L → Type 0
  Ends m n = IsBlock m

  numeral_along : (d : DivisionOf D T L) (ms : List (MemberOf D T L)) → IsNumeral A d → Next Ends (last d) ms → Along (IsMember A) Ends ms → Along (IsMember A) Ends (d <>> ms)
  numeral_along (one m) ms h n k = (h, n, k)
  numeral_along (d ▷ m) ms h n k = numeral_along d (m ∷ ms) h.0 h.1 (h.2, n, k)

  abbrev Alternate : PartOf D T L → PartOf D T L → Type 0
  Alternate (atoms s) (atoms t) = ⊥
  Alternate (atoms s) (large₃ l) = Unit {0}
  Alternate (large₃ l) q = Unit {0}

  ends_stop : (m n : MemberOf D T L) → IsBlock m → Stop (next₄ A) (parts₄ A) m n
  ends_stop (small s) n h = absurd h
  ends_stop (block s l) n h = refl
  ends_stop (lone l) n h = refl

  member_parts : (m : MemberOf D T L) → IsMember A m → Inside OkPart Alternate (parts₄ A m)
  member_parts (small s) h = h
  member_parts (block s l) h = (h, tt, tt)
  member_parts (lone l) h = tt

  ends_alternate : (m n : MemberOf D T L) → IsBlock m → Alternate (last (parts₄ A m)) (head (parts₄ A n))
  ends_alternate (small s) n h = absurd h
  ends_alternate (block s l) n h = tt
  ends_alternate (lone l) n h = tt

  joined : (s : Row (AtomOf D T)) → IsSmall A s → Joined A s
  joined (one a) h = tt
  joined (s ▷ a) h = (joined s h.0, go (near_base A s) h.3)
    where
      go : (n : Option ℕ) → Below n (atom_value A a) (atom_base A a) → joins A n a ≡ true
      go none h = absurd h
      go (some n) h = rw (le_true h.0, le_true h.1)

  part_ok : (p : PartOf D T L) → OkPart p → Ok₃ A p
  part_ok (atoms s) h = joined s h
  part_ok (large₃ l) h = tt

  alternate_stop : (p q : PartOf D T L) → Alternate p q → Stop (next₃ A) (parts₃ A) p q
  alternate_stop (atoms s) (atoms t) h = absurd h
  alternate_stop (atoms s) (large₃ l) h = refl
  alternate_stop (large₃ l) q h = refl

  small_pieces : (s : Row (AtomOf D T)) → IsSmall A s → Inside (Ok₂ A) After₂ (row_map atom s)
  small_pieces (one a) h = h
  small_pieces (s ▷ a) h = (small_pieces s h.0, rw (last_map {B = PieceOf D T L} atom s) h.1, h.2)

  part_pieces : (p : PartOf D T L) → OkPart p → Inside (Ok₂ A) After₂ (parts₃ A p)
  part_pieces (atoms s) h = small_pieces s h
  part_pieces (large₃ l) h = tt

  alternate_after : (p q : PartOf D T L) → Alternate p q → After₂ (last (parts₃ A p)) (head (parts₃ A q))
  alternate_after (atoms s) (atoms t) h = absurd h
  alternate_after (atoms s) (large₃ l) h = rw (last_map {B = PieceOf D T L} atom s) tt
  alternate_after (large₃ l) q h = tt

  after_stop₂ : (p q : PieceOf D T L) → After₂ p q → Stop (next₂ A) (parts₂ A) p q
  after_stop₂ (atom (run r)) (atom (run q)) h = absurd h
  after_stop₂ (atom (run r)) (atom (times q t)) h = absurd h
  after_stop₂ (atom (run r)) (atom (power t)) h = rw h
  after_stop₂ (atom (run r)) (large₂ l) h = refl
  after_stop₂ (atom (times r t)) q h = refl
  after_stop₂ (atom (power t)) q h = refl
  after_stop₂ (large₂ l) q h = refl

  piece_tokens : (p : PieceOf D T L) → Ok₂ A p → Inside (Ok₁ A) (Stop (next₁ A) (parts₁ A)) (parts₂ A p)
  piece_tokens (atom (run r)) h = tt
  piece_tokens (atom (times r t)) h = (tt, refl, tt)
  piece_tokens (atom (power t)) h = tt
  piece_tokens (large₂ l) h = tt

  after_stop₁ : (p q : PieceOf D T L) → After₂ p q → Stop (next₁ A) (parts₁ A) (last (parts₂ A p)) (head (parts₂ A q))
  after_stop₁ (atom (run r)) (atom (run q)) h = absurd h
  after_stop₁ (atom (run r)) (atom (times q t)) h = absurd h
  after_stop₁ (atom (run r)) (atom (power t)) h = refl
  after_stop₁ (atom (run r)) (large₂ l) h = refl
  after_stop₁ (atom (times r t)) q h = refl
  after_stop₁ (atom (power t)) q h = refl
  after_stop₁ (large₂ l) q h = refl

  -- a division by the grammar is found again
  pub members_again : (d : DivisionOf D T L) → IsNumeral A d → members A (member_chars A (d <>> [])) ≡ d <>> []
  members_again d h =
      let L4 = d <>> [] in
      let a4 : Along (IsMember A) Ends L4 = numeral_along d [] h tt tt in
      let L3 = flat (parts₄ A) L4 in
      let a3 : Along OkPart Alternate L3 = flat_along OkPart Alternate (parts₄ A) L4 (along_map member_parts (λ m n _ _ e. ends_alternate m n e) L4 a4) in
      let L2 = flat (parts₃ A) L3 in
      let a2 : Along (Ok₂ A) After₂ L2 = flat_along (Ok₂ A) After₂ (parts₃ A) L3 (along_map part_pieces (λ m n _ _ e. alternate_after m n e) L3 a3) in
      let L1 = flat (parts₂ A) L2 in
      let a1 : Along (Ok₁ A) (Stop (next₁ A) (parts₁ A)) L1 = flat_along (Ok₁ A) (Stop (next₁ A) (parts₁ A)) (parts₂ A) L2 (along_map piece_tokens (λ m n _ _ e. after_stop₁ m n e) L2 a2) in
      let e1 : tokens A (flat (parts₁ A) L1) ≡ L1 = chains_flat (begin₁ A) (next₁ A) (parts₁ A) (Ok₁ A) (resume₁ A) L1 a1 in
      let e2 : chains (begin₂ A) (next₂ A) L1 ≡ L2 = chains_flat (begin₂ A) (next₂ A) (parts₂ A) (Ok₂ A) (resume₂ A) L2 (along_map (λ p k. k) (λ m n _ _ e. after_stop₂ m n e) L2 a2) in
      let e3 : chains (begin₃ A) (next₃ A) L2 ≡ L3 = chains_flat (begin₃ A) (next₃ A) (parts₃ A) (Ok₃ A) (resume₃ A) L3 (along_map part_ok (λ m n _ _ e. alternate_stop m n e) L3 a3) in
      let e4 : chains (begin₄ A) (next₄ A) L3 ≡ L4 = chains_flat (begin₄ A) (next₄ A) (parts₄ A) (Ok₄ A) (resume₄ A) L4 (along_map (λ p k. tt) (λ m n _ _ e. ends_stop m n e) L4 a4) in
      rw (e1, e2, e3, e4)

  -- ---- the characters of a division are those of its parts
  run_chars : (r : Row D) (w : List (CharOf D T L)) → row_map digit r <>> w ≡ run_text r w
  run_chars (one d) w = refl
  run_chars (r ▷ d) w = run_chars r (digit d ∷ w)

  atom_chars : (a : AtomOf D T) (X : List (TokenOf D T L)) → flat (parts₁ A) (parts₂ A (atom a) <>> X) ≡ atom_text a (flat (parts₁ A) X)
  atom_chars (run r) X = run_chars r _
  atom_chars (times r t) X = run_chars r _
  atom_chars (power t) X = refl

  small_chars : (s : Row (AtomOf D T)) (X : List (PieceOf D T L)) → flat (parts₁ A) (flat (parts₂ A) (row_map atom s <>> X)) ≡ small_text s (flat (parts₁ A) (flat (parts₂ A) X))
  small_chars (one a) X = atom_chars a (flat (parts₂ A) X)
  small_chars (s ▷ a) X = small_chars s (atom a ∷ X) ∙ ap (small_text s) (atom_chars a (flat (parts₂ A) X))

  member_chars_lem : (m : MemberOf D T L) (ms : List (MemberOf D T L)) → member_chars A (m ∷ ms) ≡ member_text m (member_chars A ms)
  member_chars_lem (small s) ms = small_chars s _
  member_chars_lem (block s l) ms = small_chars s _
  member_chars_lem (lone l) ms = refl

  pub division_chars : (d : DivisionOf D T L) (ms : List (MemberOf D T L)) → member_chars A (d <>> ms) ≡ division_text d (member_chars A ms)
  division_chars (one m) ms = member_chars_lem m ms
  division_chars (d ▷ m) ms = division_chars d (m ∷ ms) ∙ ap (division_text d) (member_chars_lem m ms)

  pub members_found : (w : List (CharOf D T L)) (d : DivisionOf D T L) → IsNumeral A d → division_text d [] ≡ w → members A w ≡ d <>> []
  members_found w d h e = rw (← e) (rw (← (division_chars d [])) (members_again d h))

  -- ---- one reading
  pub same_division : (w : List (CharOf D T L)) (x y : ReadingOf A w) → x.division ≡ y.division
  same_division w x y = row_inj _ _ (sym (members_found w x.division x.rules x.whole) ∙ members_found w y.division y.rules y.whole)
