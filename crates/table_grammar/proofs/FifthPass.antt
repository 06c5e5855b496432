-- G4 on the members of a line: a member joins the chain exactly where the grammar says so, and it counts as the grammar says.
-- In order: the edge of a single digit from 1 on; what an edge counts as after a chain; after a block; after a small, where nothing joins; the chain over all members.
-- In the signatures C says that the chain's edge counts as the division d, R that the next edge is the member m's, N that d is a numeral, S that m, after the last
-- member of d, is not one that an earlier pass joins to it, M that m is a member by the rules.
use Prim.Native.Nat.{ℕ, suc, ◌+◌, ◌*◌, ◌/◌, ◌≤◌, ◌<◌}
use mathlib.Core.Path.{◌≡◌, refl, sym, ap, ◌∙◌, subst}
use mathlib.Core.Bool.{Bool, true, false, cond, ◌&&◌, and-true, and-false, true≢false, false≢true}
use mathlib.Core.List.{List, [], ◌∷◌, map}
use mathlib.Core.Option.{Option, none, some}
use native.Mathlib.Omega.{arith}
use native.Mathlib.Nat.{mul-le-mul_right, mul-le-mul_left}
use lib.Dec.{leb, ltb, eqb}
use Rattle.passes.specs.NumEdge.{NumEdge}
use Rattle.passes.specs.Chains.{from, chains}
use Rattle.passes.proofs.ChainsLaws.{from_not_empty}
use Rattle.passes.specs.Passes.{G4, Chain, cjk, is_script, begin, longer, touches, over, joined, next, g4_rule, retags, counted_value, counted_base, power_of_ten}
use Rattle.table_grammar.specs.Row.{Row, one, ◌▷◌, ◌<>>◌, last, head}
use Rattle.table_grammar.specs.Grammar.{run, times, power, small, block, lone, atom_value, atom_base, small_value, small_base, member_value, member_base, IsAtom, Follows, lone_zero, near_base, IsSmall, IsMember, IsBlock, single_digit, count_value, count_base, IsNumeral, division_value}
use Rattle.table_grammar.specs.Kinds.{Digit, Large, Ten, digit_value, large_base, large_value, ten_value}
use Rattle.table_grammar.specs.TableGrammar.{kinds, Atom, Member, Division}
use Rattle.table_grammar.proofs.ChainParts.{OnSome, on_cond, Tiles, Next, Along}
use Rattle.table_grammar.proofs.Tests.{le_true, true_le, and_left, and_right, eqb_self, eqb-true, eqb-false, regroup}
use Rattle.table_grammar.proofs.KindLaws.{digit_law, unit_law, large_law, not_le}
use Rattle.table_grammar.proofs.Readings.{SmallsApart, Apart₄}
use Rattle.table_grammar.proofs.FourPasses.{member_script, MemberEdge, member_view, run_size, atom_size, small_size}

-- ---- the edge of a single digit from 1 on

-- one place long
one_place_lem : (j k s : ℕ) → k ≡ j + s → eqb k (suc j) ≡ eqb s 1
one_place_lem j k s h = go (eqb s 1) refl
  where
    go : (b : Bool) → eqb s 1 ≡ b → eqb k (suc j) ≡ b
    go true e = let p : s ≡ 1 = eqb-true s 1 e in let q : k ≡ suc j = omega arith in rw q (eqb_self (suc j))
    go false e = eqb-false k (suc j) (λ q. let p : s ≡ 1 = omega arith in true≢false (sym (rw p at (sym e)) ∙ refl))

run_size_pos : (r : Row Digit) → 1 ≤ run_size r
run_size_pos (one d) = omega arith
run_size_pos (r ▷ d) = omega arith

atom_size_pos : (a : Atom) → 1 ≤ atom_size a
atom_size_pos (run r) = run_size_pos r
atom_size_pos (times r t) = omega arith
atom_size_pos (power t) = omega arith

small_size_pos : (s : Row Atom) → 1 ≤ small_size s
small_size_pos (one a) = atom_size_pos a
small_size_pos (s ▷ a) = omega (arith, atom_size_pos a)

abbrev size : Member → ℕ
size m = (member_view m).size

abbrev val : Member → ℕ
val m = (member_view m).value

ten_over : (t : Ten) → leb (ten_value t) 9 ≡ false
ten_over t = not_le (ten_value t) 9 (unit_law t).ten

large_over : (l : Large) → leb (large_value l) 9 ≡ false
large_over l = not_le (large_value l) 9 (large_law l).ten

digit_small : (d : Digit) → leb (digit_value d) 9 ≡ true
digit_small d = le_true (digit_law d).small

long : (m : Member) → 2 ≤ size m → eqb (size m) 1 && leb 1 (val m) && leb (val m) 9 ≡ false
long m h = rw (eqb-false (size m) 1 (λ e. omega arith))

-- an edge is one exactly where its member is
single_test : (m : Member) → eqb (size m) 1 && leb 1 (val m) && leb (val m) 9 ≡ leb 1 (single_digit kinds m)
single_test (small (one (run (one d)))) = rw (digit_small d, and-true (leb 1 (digit_value d)))
single_test (small (one (run (r ▷ d)))) = long (small (one (run (r ▷ d)))) (omega (arith, run_size_pos r))
single_test (small (one (times r t))) = long (small (one (times r t))) (omega (arith, run_size_pos r))
single_test (small (one (power t))) = rw (ten_over t, and-false (leb 1 (ten_value t)))
single_test (small (s ▷ a)) = long (small (s ▷ a)) (omega (arith, small_size_pos s, atom_size_pos a))
single_test (block s l) = long (block s l) (omega (arith, small_size_pos s))
single_test (lone l) = rw (large_over l, and-false (leb 1 (large_value l)))

single_is : (m : Member) → leb 1 (single_digit kinds m) ≡ true → (d : Digit) × (1 ≤ digit_value d) × (m ≡ small (one (run (one d))))
single_is (small (one (run (one d)))) e = (d, true_le 1 _ e, refl)
single_is (small (one (run (r ▷ d)))) e = absurd (false≢true e)
single_is (small (one (times r t))) e = absurd (false≢true e)
single_is (small (one (power t))) e = absurd (false≢true e)
single_is (small (s ▷ a)) e = absurd (false≢true e)
single_is (block s l) e = absurd (false≢true e)
single_is (lone l) e = absurd (false≢true e)

single_val : (m : Member) → leb 1 (single_digit kinds m) ≡ true → val m ≡ single_digit kinds m
single_val m e = let (d, _, h) = single_is m e in rw h

val_member : (m : Member) → (val m ≡ member_value kinds m) × ((member_view m).base ≡ member_base kinds m) × ((member_view m).script ≡ member_script m)
val_member (small s) = (refl, refl, refl)
val_member (block s l) = (refl, refl, refl)
val_member (lone l) = (refl, refl, refl)

-- ---- what an edge counts as after a chain

-- a single digit after the member m counts by the tenth part of its base
abbrev tenths : Member → Bool
tenths m = kinds.tenths m

-- what the member m counts as after the member l
abbrev after_value : Member → Member → ℕ
after_value l m = count_value kinds (tenths l) (member_base kinds l) m

abbrev after_base : Member → Member → ℕ
after_base l m = count_base kinds (tenths l) (member_base kinds l) m

-- the base of a division, as its last member counts
abbrev pub total_base : Division → ℕ
total_base (one m) = member_base kinds m
total_base (d ▷ m) = after_base (last d) m

-- the edge e, over the places from i to j, counts as the division d
pub record Counts (i : ℕ) (d : Division) (e : NumEdge) (j : ℕ) : Type 0 where
  pub start : e.start ≡ i
  pub end : e.end ≡ j
  pub value : e.value ≡ some (division_value kinds d)
  pub base : e.base ≡ some (total_base d)
  pub script : e.script ≡ member_script (last d)

-- a single digit counts by the tenth part of the base
abbrev is_high : Division → Bool
is_high d = is_script (member_script (last d)) cjk && leb 1000 (total_base d) && power_of_ten (total_base d)

-- what the member m counts as after the chain d
abbrev as_value : Division → Member → ℕ
as_value d m = cond (is_high d && leb 1 (single_digit kinds m)) (single_digit kinds m * (total_base d / 10)) (member_value kinds m)

abbrev as_base : Division → Member → ℕ
as_base d m = cond (is_high d && leb 1 (single_digit kinds m)) (total_base d / 10) (member_base kinds m)

pick_value : (m : Member) (p q : Bool) (b : ℕ) → leb 1 (single_digit kinds m) ≡ q
    → cond (p && q) (some (val m * (b / 10))) (some (val m)) ≡ some (cond (p && q) (single_digit kinds m * (b / 10)) (member_value kinds m))
pick_value m true true b h = rw (single_val m h)
pick_value m true false b h = rw (val_member m).0
pick_value m false q b h = rw (val_member m).0

pick_base : (m : Member) (p : Bool) (b : ℕ) → cond p (some (b / 10)) (some (member_view m).base) ≡ some (cond p (b / 10) (member_base kinds m))
pick_base m true b = refl
pick_base m false b = rw (val_member m).1

module _ (i j k : ℕ) (d : Division) (m : Member) (c : Chain) (e : NumEdge) (C : Counts i d c.edge j) (R : MemberEdge j m e k) where
  retag : retags c.edge e ≡ is_high d && leb 1 (single_digit kinds m)
  unfolding retags
  retag =
      rw (C.script, C.base, R.start, R.end, one_place_lem j k (size m) R.width, R.value)
      (regroup (is_high d) _ _ _ ∙ ap (λ b. is_high d && b) (single_test m))

  value_as : counted_value c.edge e ≡ some (as_value d m)
  unfolding counted_value
  value_as = rw (retag, C.base, R.value) (pick_value m (is_high d) _ _ refl)

  base_as : counted_base c.edge e ≡ some (as_base d m)
  unfolding counted_base
  base_as = rw (retag, C.base, R.base) (pick_base m (is_high d && leb 1 (single_digit kinds m)) (total_base d))

  rule_as : g4_rule c e ≡ ltb (as_value d m) (total_base d) && ltb (as_base d m) (total_base d)
  unfolding g4_rule
  rule_as = rw (value_as, base_as, C.value, C.base)

-- ---- after a block: the member joins where the grammar says so
block_base : (d : Division) → IsBlock (last d) → total_base d ≡ member_base kinds (last d)
block_base (one m) h = refl
block_base (d ▷ small s) h = absurd h
block_base (d ▷ block s l) h = rw (and-false (tenths (last d)))
block_base (d ▷ lone l) h = rw (and-false (tenths (last d)))

member_high : (m : Member) → IsBlock m → is_script (member_script m) cjk && leb 1000 (member_base kinds m) && power_of_ten (member_base kinds m) ≡ tenths m
member_high (small s) h = absurd h
member_high (block s l) h = refl
member_high (lone l) h = refl

block_high : (d : Division) → IsBlock (last d) → is_high d ≡ tenths (last d)
block_high d h = rw (block_base d h) (member_high (last d) h)

abbrev is_below : Member → Member → Bool
is_below l m = ltb (after_value l m) (member_base kinds l) && ltb (after_base l m) (member_base kinds l)

module _ (i j k : ℕ) (d : Division) (m : Member) (c : Chain) (e : NumEdge) (C : Counts i d c.edge j) (R : MemberEdge j m e k) (B : IsBlock (last d)) where
  same_value : as_value d m ≡ after_value (last d) m
  same_value = rw (block_high d B, block_base d B)

  same_base : as_base d m ≡ after_base (last d) m
  same_base = rw (block_high d B, block_base d B)

  block_rule : g4_rule c e ≡ is_below (last d) m
  block_rule = rule_as i j k d m c e C R ∙ rw (same_value, same_base, block_base d B)

  block_counts : Counts i (d ▷ m) (longer c e (joined G4 c.edge e)).edge k
  unfolding longer joined over
  block_counts = record {
    start = C.start;
    end = R.end;
    value = rw (value_as i j k d m c e C R, C.value, same_value);
    base = base_as i j k d m c e C R ∙ rw same_base;
    script = R.script ∙ (val_member m).2;
  }

-- ---- after a small: nothing joins
total_small : (d : Division) (s : Row Atom) → last d ≡ small s → leb 1 (single_digit kinds (small s)) ≡ false → total_base d ≡ small_base kinds s
total_small (one m) s e z = rw e
total_small (d ▷ m) s e z = rw (e, z, and-false (tenths (last d)))

after_digit : (d : Digit) (a : Atom) → 1 ≤ digit_value d → Follows kinds (run (one d)) a → ⊥
after_digit d (run r) h f = f
after_digit d (times r t) h f = f
after_digit d (power t) h f = omega arith

after_single : (s : Row Atom) (a : Atom) → leb 1 (single_digit kinds (small s)) ≡ true → Follows kinds (last s) a → ⊥
after_single s a e f = let (d, p, h) = single_is (small s) e in let q : s ≡ one (run (one d)) = cc in after_digit d a p (rw q at f)

lone_base : (a : Atom) → lone_zero kinds a ≡ true → atom_base kinds a ≡ 1
lone_base (run r) e = refl
lone_base (times r t) e = absurd (false≢true e)
lone_base (power t) e = absurd (false≢true e)

not_lone : (a : Atom) → 2 ≤ atom_base kinds a → lone_zero kinds a ≡ false
not_lone a h = go (lone_zero kinds a) refl
  where
    go : (z : Bool) → lone_zero kinds a ≡ z → lone_zero kinds a ≡ false
    go true e = let q : atom_base kinds a ≡ 1 = lone_base a e in absurd (omega arith)
    go false e = e

near_some : (s : Row Atom) → 2 ≤ small_base kinds s → near_base kinds s ≡ some (small_base kinds s)
near_some (one a) h = rw (not_lone a h)
near_some (s ▷ a) h = rw (not_lone a h)

head_le : (t : Row Atom) → atom_value kinds (head t) ≤ small_value kinds t
head_le (one a) = omega arith
head_le (t ▷ a) = omega (arith, head_le t)

head_atom : (t : Row Atom) → IsSmall kinds t → IsAtom kinds (head t)
head_atom (one a) h = h
head_atom (t ▷ a) h = head_atom t h.0

base_lt : (a : Atom) (b : ℕ) → IsAtom kinds a → 1 < b → atom_value kinds a < b → atom_base kinds a < b
base_lt (run r) b h k l = k
base_lt (times r t) b h k l = omega (arith, mul-le-mul_right (ten_value t) h, (unit_law t).up_to)
base_lt (power t) b h k l = omega (arith, (unit_law t).up_to)

atom_base_pos : (a : Atom) → 1 ≤ atom_base kinds a
atom_base_pos (run r) = omega arith
atom_base_pos (times r t) = omega (arith, (unit_law t).two)
atom_base_pos (power t) = omega (arith, (unit_law t).two)

single_head : (t : Row Atom) → leb 1 (single_digit kinds (small t)) ≡ true → (atom_value kinds (head t) ≤ 9) × (atom_base kinds (head t) ≡ 1)
single_head t e = let (d, _, h) = single_is (small t) e in let q : t ≡ one (run (one d)) = cc in rw q (true_le _ 9 (digit_small d), refl)

-- two smalls that touch and are apart: the second's first atom is not below the first's base
apart : (s t : Row Atom) → SmallsApart kinds s t → 2 ≤ small_base kinds s → atom_value kinds (head t) < small_base kinds s → atom_base kinds (head t) < small_base kinds s → ⊥
apart s t h two v b = true≢false (sym (rw (near_some s two, le_true v, le_true b) refl) ∙ h.1)

-- so nothing that begins with that atom, has its value at least and a base of 1 or more is
smalls_stop : (s t : Row Atom) (v b : ℕ) → SmallsApart kinds s t → IsSmall kinds t → small_value kinds t ≤ v → 1 ≤ b → ltb v (small_base kinds s) && ltb b (small_base kinds s) ≡ true → ⊥
smalls_stop s t v b h k m n e =
    let p : v < small_base kinds s = true_le _ _ (and_left _ _ e) in
    let q : b < small_base kinds s = true_le _ _ (and_right (ltb v (small_base kinds s)) _ e) in
    let two : 2 ≤ small_base kinds s = omega arith in
    let v' : atom_value kinds (head t) < small_base kinds s = omega (arith, head_le t) in
    apart s t h two v' (base_lt (head t) (small_base kinds s) (head_atom t k) two v')

-- p: a single digit counts by the tenth part of the base
module _ (s : Row Atom) (p : Bool) (high : p ≡ true → 1000 ≤ small_base kinds s) where
  small_stops : (m : Member) → Apart₄ kinds (small s) m → IsMember kinds m
      → ltb (cond (p && leb 1 (single_digit kinds m)) (single_digit kinds m * (small_base kinds s / 10)) (member_value kinds m)) (small_base kinds s)
      && ltb (cond (p && leb 1 (single_digit kinds m)) (small_base kinds s / 10) (member_base kinds m)) (small_base kinds s) ≡ true → ⊥
  small_stops (lone l) h k e = h
  small_stops (block t l) h k e =
      let one : 1 ≤ large_value l = omega (arith, (large_law l).ten) in
      smalls_stop s t (small_value kinds t * large_value l) (large_base l) h k (omega (arith, mul-le-mul_left (small_value kinds t) one)) (omega (arith, (large_law l).two)) (rw (and-false p) at e)
  small_stops (small t) h k e = go p (leb 1 (single_digit kinds (small t))) refl refl e
    where
      go : (x q : Bool) → p ≡ x → leb 1 (single_digit kinds (small t)) ≡ q
          → ltb (cond (x && q) (single_digit kinds (small t) * (small_base kinds s / 10)) (small_value kinds t)) (small_base kinds s) && ltb (cond (x && q) (small_base kinds s / 10) (small_base kinds t)) (small_base kinds s) ≡ true → ⊥
      go true true f g e =
          let k : 1000 ≤ small_base kinds s = high f in
          let (v, b) = single_head t g in
          apart s t h (omega arith) (omega arith) (omega arith)
      go true false f g e = smalls_stop s t (small_value kinds t) (small_base kinds t) h k (omega arith) (atom_base_pos (last t)) e
      go false q f g e = smalls_stop s t (small_value kinds t) (small_base kinds t) h k (omega arith) (atom_base_pos (last t)) e

-- what holds of the longer chain where the rule holds, holds of what `next` answers
on_next : (P : Chain → Type 0) (c : Chain) (e : NumEdge) → (g4_rule c e ≡ true → P (longer c e (joined G4 c.edge e))) → OnSome P (next G4 c e)
unfolding next
on_next P c e f = on_cond P (touches c e && g4_rule c e) (longer c e (joined G4 c.edge e)) (λ t. f (and_right (touches c e) _ t))

single_stops : (s : Row Atom) (m : Member) → Apart₄ kinds (small s) m → leb 1 (single_digit kinds (small s)) ≡ true → ⊥
single_stops s (small t) S e = after_single s (head t) e S.0
single_stops s (block t l) S e = after_single s (head t) e S.0
single_stops s (lone l) S e = S

-- ---- the chain over all members

-- a member joins only by the grammar
joins_only : (i j k : ℕ) (d : Division) (m : Member) (c : Chain) (e : NumEdge) → Counts i d c.edge j → MemberEdge j m e k → IsNumeral kinds d → Apart₄ kinds (last d) m → IsMember kinds m
    → OnSome (λ x. IsNumeral kinds (d ▷ m) × Counts i (d ▷ m) x.edge k) (next G4 c e)
joins_only i j k d m c e C R N S M = go (last d) refl S
  where
    Good : Chain → Type 0
    Good x = IsNumeral kinds (d ▷ m) × Counts i (d ▷ m) x.edge k

    goal : Type 0
    goal = OnSome Good (next G4 c e)

    by_block : IsBlock (last d) → goal
    by_block B = on_next Good c e (λ r.
        let h : is_below (last d) m ≡ true = sym (block_rule i j k d m c e C R B) ∙ r in
        ((N, B, M, true_le _ _ (and_left _ _ h), true_le _ _ (and_right (ltb (after_value (last d) m) (member_base kinds (last d))) _ h)), block_counts i j k d m c e C R B))

    no_small : (s : Row Atom) → last d ≡ small s → Apart₄ kinds (small s) m → g4_rule c e ≡ true → (z : Bool) → leb 1 (single_digit kinds (small s)) ≡ z → ⊥
    no_small s h S r true z = single_stops s m S z
    no_small s h S r false z =
        let B : total_base d ≡ small_base kinds s = total_small d s h z in
        small_stops s (is_high d) (λ f. rw B at (true_le 1000 (total_base d) (and_right (is_script (member_script (last d)) cjk) _ (and_left _ _ f)))) m S M
        (subst (λ n. ltb (cond (is_high d && leb 1 (single_digit kinds m)) (single_digit kinds m * (n / 10)) (member_value kinds m)) n && ltb (cond (is_high d && leb 1 (single_digit kinds m)) (n / 10) (member_base kinds m)) n ≡ true) B
        (sym (rule_as i j k d m c e C R) ∙ r))

    go : (l : Member) → last d ≡ l → Apart₄ kinds l m → goal
    go (small s) h S = on_next Good c e (λ r. absurd (no_small s h S r _ refl))
    go (block s l) h S = by_block (rw h tt)
    go (lone l) h S = by_block (rw h tt)

abbrev pub edges_from : Chain → List NumEdge → List NumEdge
edges_from c l = map (λ c. c.edge) (from begin (next G4) c l)

-- if one chain takes all the members, they are a numeral
pub one_chain_numeral : (L : List Member) (l : List NumEdge) (i j n : ℕ) (d : Division) (c : Chain) (x : NumEdge) → Counts i d c.edge j → IsNumeral kinds d
    → Next (Apart₄ kinds) (last d) L → Along (IsMember kinds) (Apart₄ kinds) L → Tiles MemberEdge j L l n → edges_from c l ≡ x ∷ []
    → (d' : Division) × IsNumeral kinds d' × (d' <>> [] ≡ d <>> L) × Counts i d' x n
unfolding from
one_chain_numeral [] [] i j n d c x C N S A t e = (d, N, refl, let q : c.edge ≡ x = cc in rw (← q, ← t) C)
one_chain_numeral [] (b ∷ l) i j n d c x C N S A t e = absurd t
one_chain_numeral (m ∷ L) [] i j n d c x C N S A t e = absurd t
one_chain_numeral (m ∷ L) (b ∷ l) i j n d c x C N S A (k, R, t) e = go (next G4 c b) refl (joins_only i j k d m c b C R N S A.0) (one_chain_numeral L l)
  where
    go : (o : Option Chain) → next G4 c b ≡ o → OnSome (λ y. IsNumeral kinds (d ▷ m) × Counts i (d ▷ m) y.edge k) o
        → ((i j n : ℕ) (d : Division) (c : Chain) (x : NumEdge) → Counts i d c.edge j → IsNumeral kinds d → Next (Apart₄ kinds) (last d) L → Along (IsMember kinds) (Apart₄ kinds) L → Tiles MemberEdge j L l n → edges_from c l ≡ x ∷ [] → (d' : Division) × IsNumeral kinds d' × (d' <>> [] ≡ d <>> L) × Counts i d' x n)
        → (d' : Division) × IsNumeral kinds d' × (d' <>> [] ≡ d <>> (m ∷ L)) × Counts i d' x n
    go none h s ih =
        let (u, us, f) = from_not_empty begin (next G4) (begin b) l in
        let e' : c.edge ∷ u.edge ∷ map (λ c. c.edge) us ≡ x ∷ [] = rw f at (rw (h, from) at e) in
        absurd cc
    go (some y) h s ih = ih i k n (d ▷ m) y x s.1 s.0 A.1 A.2 t (rw (h, from) at e)

-- a member joins where the grammar says so
joins_where : (i j k : ℕ) (d : Division) (m : Member) (c : Chain) (e : NumEdge) → Counts i d c.edge j → MemberEdge j m e k → IsNumeral kinds (d ▷ m)
    → (x : Chain) × (next G4 c e ≡ some x) × Counts i (d ▷ m) x.edge k
unfolding next
joins_where i j k d m c e C R N = (
  longer c e (joined G4 c.edge e),
  (let t : touches c e ≡ true = rw (C.end, R.start, eqb_self j) in rw (t, block_rule i j k d m c e C R N.1, le_true N.3, le_true N.4)),
  block_counts i j k d m c e C R N.1,
)

pub member_counts : (i j : ℕ) (m : Member) (e : NumEdge) → MemberEdge i m e j → Counts i (one m) e j
member_counts i j m e R = record { start = R.start; end = R.end; value = rw (← (val_member m).0) R.value; base = rw (← (val_member m).1) R.base; script = R.script ∙ (val_member m).2 }

-- the members of a numeral are taken by one chain
pub numeral_one_chain : (d : Division) (L : List Member) (l : List NumEdge) (i n : ℕ) → IsNumeral kinds d → Tiles MemberEdge i (d <>> L) l n
    → (c : Chain) × (j : ℕ) × (r : List NumEdge) × (chains begin (next G4) l ≡ from begin (next G4) c r) × Counts i d c.edge j × Tiles MemberEdge j L r n
unfolding from chains begin
numeral_one_chain (one m) L [] i n N t = absurd t
numeral_one_chain (one m) L (e ∷ l) i n N (j, R, t) = (begin e, j, l, refl, member_counts i j m e R, t)
numeral_one_chain (d ▷ m) L l i n N t = go (numeral_one_chain d (m ∷ L) l i n N.0 t)
  where
    go : (c : Chain) × (j : ℕ) × (r : List NumEdge) × (chains begin (next G4) l ≡ from begin (next G4) c r) × Counts i d c.edge j × Tiles MemberEdge j (m ∷ L) r n
        → (c : Chain) × (j : ℕ) × (r : List NumEdge) × (chains begin (next G4) l ≡ from begin (next G4) c r) × Counts i (d ▷ m) c.edge j × Tiles MemberEdge j L r n
    go (c, j, [], h, C, t) = absurd t
    go (c, j, e ∷ r, h, C, (k, R, t)) =
        let (x, f, D) = joins_where i j k d m c e C R N in
        (x, k, r, h ∙ rw (f, from), D, t)
