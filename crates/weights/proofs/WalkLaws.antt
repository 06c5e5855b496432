-- The way over a line from the right (`specs/Walk.antt`) finds a numeral's weights.
-- In order: a run, an atom, a small, blocks, the last member; what the last place weighs; the numeral.
use Prim.Native.Nat.{ℕ, ◌*◌}
use mathlib.Core.Path.{◌≡◌, refl, sym, ap, ◌∙◌}
use mathlib.Core.Bool.{Bool, true, false, cond}
use mathlib.Core.List.{List, [], ◌∷◌}
use native.Mathlib.Omega.{arith}
use Rattle.grammar.specs.Plain.{Digit, Ten, Large, Char, digit, ten, large, digit_value, large_value}
use Rattle.table_grammar.specs.Row.{Row, one, ◌▷◌, last}
use Rattle.grammar.specs.Grammar.{Atom, run, times, power, Member, small, block, lone, Division, run_value, member_base, Follows, IsSmall, IsMember, IsBlock, IsNumeral, run_text, atom_text, small_text, member_text, division_text, Reading}
use Rattle.numeral.specs.Walk.{glyph}
use Rattle.weights.specs.declared.units.Units.{Units}
use Rattle.weights.specs.Weights.{digit_weights, run_weights, atom_weights, small_weights, member_weights, last_weight, division_weights, weights}
use Rattle.weights.specs.Walk as Walk
use Rattle.weights.specs.Walk.{is_weighed, start, last_unit}

-- products as they are
abbrev pub exact : ℕ → ℕ
exact n = n

abbrev back : List Char → Units → Units
back = Walk.back exact

abbrev found : List Char → Units → List ℕ
found = Walk.found exact

-- ---- a run
run_back : (r : Row Digit) (w : List Char) (s : Units) → found (run_text r w) s ≡ run_weights r (back w s).digit (found w s)
run_back (one d) w s = refl
run_back (r ▷ d) w s = run_back r (digit d ∷ w) s

run_block : (r : Row Digit) (w : List Char) (s : Units) → (back (run_text r w) s).member ≡ (back w s).member
run_block (one d) w s = refl
run_block (r ▷ d) w s = run_block r (digit d ∷ w) s

-- a run of value 0 has no weights
zero_weights : (d : Digit) (n : ℕ) (ks : List ℕ) → digit_value d ≡ 0 → digit_weights d n ks ≡ ks
zero_weights d n ks e = rw e

zero_run : (r : Row Digit) (n : ℕ) (ks : List ℕ) → run_value r ≡ 0 → run_weights r n ks ≡ ks
zero_run (one d) n ks e = zero_weights d n ks e
zero_run (r ▷ d) n ks e = zero_run r (10 * n) (digit_weights d n ks) (omega arith) ∙ zero_weights d n ks (omega arith)

-- ---- an atom: a run wants that the next digit weighs what the member's last place does, or has no weights
abbrev Ready : Atom → Units → List ℕ → Type 0
Ready (run r) s ks = run_weights r s.digit ks ≡ run_weights r s.member ks
Ready (times r t) s ks = Unit {0}
Ready (power t) s ks = Unit {0}

fresh : (a : Atom) (s : Units) (ks : List ℕ) → s.digit ≡ s.member → Ready a s ks
fresh (run r) s ks e = rw e
fresh (times r t) s ks e = tt
fresh (power t) s ks e = tt

atom_back : (a : Atom) (w : List Char) (s : Units) → Ready a (back w s) (found w s) → found (atom_text a w) s ≡ atom_weights a (back w s).member (found w s)
atom_back (run r) w s h = run_back r w s ∙ h
atom_back (times r t) w s h = run_back r (ten t ∷ w) s
atom_back (power t) w s h = refl

atom_block : (a : Atom) (w : List Char) (s : Units) → (back (atom_text a w) s).member ≡ (back w s).member
atom_block (run r) w s = run_block r w s
atom_block (times r t) w s = run_block r (ten t ∷ w) s
atom_block (power t) w s = refl

-- ---- a small
ready_next : (a b : Atom) (w : List Char) (s : Units) → Follows a b → Ready a (back (atom_text b w) s) (found (atom_text b w) s)
ready_next (run r) (run q) w s f = absurd f
ready_next (run r) (times q t) w s f = absurd f
ready_next (run r) (power t) w s f = zero_run r _ _ f ∙ sym (zero_run r _ _ f)
ready_next (times r t) b w s f = tt
ready_next (power t) b w s f = tt

small_back : (u : Row Atom) (w : List Char) (s : Units) → IsSmall u → Ready (last u) (back w s) (found w s) → found (small_text u w) s ≡ small_weights u (back w s).member (found w s)
small_back (one a) w s h r = atom_back a w s r
small_back (u ▷ a) w s h r =
    small_back u (atom_text a w) s h.0 (ready_next (last u) a w s h.1)
    ∙ rw (atom_block a w s, atom_back a w s r)

-- ---- blocks, before anything
times_one : (n : ℕ) → n * 1 ≡ n
times_one n = omega arith

block_back : (m : Member) (w : List Char) (s : Units) → IsMember m → IsBlock m → found (member_text m w) s ≡ member_weights m 1 (found w s)
block_back (small u) w s h b = absurd b
block_back (block u l) w s h b = rw (times_one (large_value l)) (small_back u (large l ∷ w) s h (fresh (last u) (back (large l ∷ w) s) (found (large l ∷ w) s) refl))
block_back (lone l) w s h b = refl

-- a block is no single digit
block_last : (n : ℕ) (m : Member) → IsBlock m → last_weight n m ≡ 1
block_last n (small u) b = absurd b
block_last n (block u l) b = refl
block_last n (lone l) b = refl

blocks_back : (d : Division) (w : List Char) (s : Units) → IsNumeral d → IsBlock (last d) → found (division_text d w) s ≡ division_weights d (found w s)
blocks_back (one m) w s h b = block_back m w s h b
blocks_back (d ▷ m) w s h b =
    blocks_back d (member_text m w) s h.0 h.1
    ∙ ap (division_weights d) (rw (block_last (member_base (last d)) m b) (block_back m w s h.2 b))

-- ---- the last member, where the way begins
end_back : (n : ℕ) (m : Member) → IsMember m → found (member_text m []) (start (last_weight n m)) ≡ member_weights m (last_weight n m) []
end_back n (small (one (run (one d)))) h = refl
end_back n (small (one (run (r ▷ d)))) h = run_back (r ▷ d) [] (start 1)
end_back n (small (one (times r t))) h = run_back r (ten t ∷ []) (start 1)
end_back n (small (one (power t))) h = refl
end_back n (small (u ▷ a)) h = small_back (u ▷ a) [] (start 1) h (fresh a (start 1) [] refl)
end_back n (block u l) h = block_back (block u l) [] (start 1) h tt
end_back n (lone l) h = refl

-- what the last place of a division weighs
abbrev unit_of : Division → ℕ
unit_of (one m) = 1
unit_of (d ▷ m) = last_weight (member_base (last d)) m

first_back : (m : Member) → IsMember m → found (member_text m []) (start 1) ≡ member_weights m 1 []
first_back (small u) h = small_back u [] (start 1) h (fresh (last u) (start 1) [] refl)
first_back (block u l) h = block_back (block u l) [] (start 1) h tt
first_back (lone l) h = refl

division_back : (d : Division) → IsNumeral d → found (division_text d []) (start (unit_of d)) ≡ weights d
division_back (one m) h = first_back m h
division_back (d ▷ m) h =
    blocks_back d (member_text m []) (start (last_weight (member_base (last d)) m)) h.0 h.1
    ∙ ap (division_weights d) (end_back (member_base (last d)) m h.2)

-- ---- what the last place of the line weighs

-- 零 to 九 and 十百千 in front leave it at 1
either_way : (b : Bool) (n : ℕ) → cond b n n ≡ n
either_way true n = refl
either_way false n = refl

digit_one : (d : Digit) (v : List Char) → last_unit v ≡ 1 → last_unit (digit d ∷ v) ≡ 1
digit_one d [] h = refl
digit_one d (a ∷ []) h = either_way (is_weighed (glyph a)) 1
digit_one d (a ∷ b ∷ v) h = h

ten_one : (t : Ten) (v : List Char) → last_unit v ≡ 1 → last_unit (ten t ∷ v) ≡ 1
ten_one t [] h = refl
ten_one t (a ∷ []) h = either_way (is_weighed (glyph a)) 1
ten_one t (a ∷ b ∷ v) h = h

run_one : (r : Row Digit) (v : List Char) → last_unit v ≡ 1 → last_unit (run_text r v) ≡ 1
run_one (one d) v h = digit_one d v h
run_one (r ▷ d) v h = run_one r (digit d ∷ v) (digit_one d v h)

atom_one : (a : Atom) (v : List Char) → last_unit v ≡ 1 → last_unit (atom_text a v) ≡ 1
atom_one (run r) v h = run_one r v h
atom_one (times r t) v h = run_one r (ten t ∷ v) (ten_one t v h)
atom_one (power t) v h = ten_one t v h

small_one : (u : Row Atom) (v : List Char) → last_unit v ≡ 1 → last_unit (small_text u v) ≡ 1
small_one (one a) v h = atom_one a v h
small_one (u ▷ a) v h = small_one u (atom_text a v) (atom_one a v h)

-- anything in front of two characters leaves it as it is
abbrev Some : List Char → Type 0
Some [] = ⊥
Some (a ∷ v) = Unit {0}

abbrev Long : List Char → Type 0
Long [] = ⊥
Long (a ∷ v) = Some v

abbrev Keeps : (List Char → List Char) → Type 0
Keeps f = (v : List Char) → Long v → Long (f v) × (last_unit (f v) ≡ last_unit v)

char_keeps : (c : Char) → Keeps (λ v. c ∷ v)
char_keeps c [] h = absurd h
char_keeps c (a ∷ []) h = absurd h
char_keeps c (a ∷ b ∷ v) h = (tt, refl)

then_keeps : (f g : List Char → List Char) → Keeps f → Keeps g → Keeps (λ v. f (g v))
then_keeps f g F G v h = let (l, e) = G v h in let (k, i) = F (g v) l in (k, i ∙ e)

run_keeps : (r : Row Digit) → Keeps (run_text r)
run_keeps (one d) = char_keeps (digit d)
run_keeps (r ▷ d) = then_keeps (run_text r) (λ v. digit d ∷ v) (run_keeps r) (char_keeps (digit d))

atom_keeps : (a : Atom) → Keeps (atom_text a)
atom_keeps (run r) = run_keeps r
atom_keeps (times r t) = then_keeps (run_text r) (λ v. ten t ∷ v) (run_keeps r) (char_keeps (ten t))
atom_keeps (power t) = char_keeps (ten t)

small_keeps : (u : Row Atom) → Keeps (small_text u)
small_keeps (one a) = atom_keeps a
small_keeps (u ▷ a) = then_keeps (small_text u) (atom_text a) (small_keeps u) (atom_keeps a)

member_keeps : (m : Member) → Keeps (member_text m)
member_keeps (small u) = small_keeps u
member_keeps (block u l) = then_keeps (small_text u) (λ v. large l ∷ v) (small_keeps u) (char_keeps (large l))
member_keeps (lone l) = char_keeps (large l)

division_keeps : (d : Division) → Keeps (division_text d)
division_keeps (one m) = member_keeps m
division_keeps (d ▷ m) = then_keeps (division_text d) (member_text m) (division_keeps d) (member_keeps m)

-- texts of one character or more; before one character or more, of two or more
run_some : (r : Row Digit) (v : List Char) → Some (run_text r v)
run_some (one d) v = tt
run_some (r ▷ d) v = run_some r (digit d ∷ v)

atom_some : (a : Atom) (v : List Char) → Some (atom_text a v)
atom_some (run r) v = run_some r v
atom_some (times r t) v = run_some r (ten t ∷ v)
atom_some (power t) v = tt

small_some : (u : Row Atom) (v : List Char) → Some (small_text u v)
small_some (one a) v = atom_some a v
small_some (u ▷ a) v = small_some u (atom_text a v)

member_some : (m : Member) (v : List Char) → Some (member_text m v)
member_some (small u) v = small_some u v
member_some (block u l) v = small_some u (large l ∷ v)
member_some (lone l) v = tt

run_long : (r : Row Digit) (v : List Char) → Some v → Long (run_text r v)
run_long (one d) v h = h
run_long (r ▷ d) v h = run_long r (digit d ∷ v) tt

atom_long : (a : Atom) (v : List Char) → Some v → Long (atom_text a v)
atom_long (run r) v h = run_long r v h
atom_long (times r t) v h = run_long r (ten t ∷ v) tt
atom_long (power t) v h = h

small_long : (u : Row Atom) (v : List Char) → Some v → Long (small_text u v)
small_long (one a) v h = atom_long a v h
small_long (u ▷ a) v h = small_long u (atom_text a v) (atom_some a v)

-- before the last member it is the last block that counts
block_unit : (m : Member) (v : List Char) → Some v → IsBlock m → (l : Large) × (member_base m ≡ large_value l) × Long (member_text m v) × (last_unit (member_text m v) ≡ last_unit (large l ∷ v))
block_unit (small u) v h b = absurd b
block_unit (block u l) v h b = let (k, e) = small_keeps u (large l ∷ v) h in (l, refl, k, e)
block_unit (lone l) v h b = (l, refl, h, refl)

blocks_unit : (d : Division) (v : List Char) → Some v → IsBlock (last d) → (l : Large) × (member_base (last d) ≡ large_value l) × (last_unit (division_text d v) ≡ last_unit (large l ∷ v))
blocks_unit (one m) v h b = let (l, e, k, i) = block_unit m v h b in (l, e, i)
blocks_unit (d ▷ m) v h b = let (l, e, k, i) = block_unit m v h b in (l, e, (division_keeps d (member_text m v) k).1 ∙ i)

after_large_lem : (l : Large) (v : List Char) → Long v → last_unit v ≡ 1 → last_unit (large l ∷ v) ≡ 1
after_large_lem l v h e = (char_keeps (large l) v h).1 ∙ e

member_unit : (l : Large) (m : Member) → last_unit (large l ∷ member_text m []) ≡ last_weight (large_value l) m
member_unit l (small (one (run (one d)))) = refl
member_unit l (small (one (run (r ▷ d)))) = after_large_lem l (run_text r (digit d ∷ [])) (run_long r (digit d ∷ []) tt) (run_one r (digit d ∷ []) refl)
member_unit l (small (one (times r t))) = after_large_lem l (run_text r (ten t ∷ [])) (run_long r (ten t ∷ []) tt) (run_one r (ten t ∷ []) refl)
member_unit l (small (one (power t))) = refl
member_unit l (small (u ▷ a)) = after_large_lem l (small_text u (atom_text a [])) (small_long u (atom_text a []) (atom_some a [])) (small_one u (atom_text a []) (atom_one a [] refl))
member_unit l (block u k) = after_large_lem l (small_text u (large k ∷ [])) (small_long u (large k ∷ []) tt) (small_one u (large k ∷ []) refl)
member_unit l (lone k) = refl

division_unit : (d : Division) → IsNumeral d → last_unit (division_text d []) ≡ unit_of d
division_unit (one (small u)) h = small_one u [] refl
division_unit (one (block u l)) h = small_one u (large l ∷ []) refl
division_unit (one (lone l)) h = refl
division_unit (d ▷ m) h =
    let (l, e, k) = blocks_unit d (member_text m []) (member_some m []) h.1 in
    k ∙ member_unit l m ∙ ap (λ (n : ℕ). last_weight n m) (sym e)

-- ---- the numeral
pub found_weights : (w : List Char) (r : Reading w) → found w (start (last_unit w)) ≡ weights r.division
found_weights w r =
    ap (λ (v : List Char). found v (start (last_unit v))) (sym r.whole)
    ∙ ap (λ (n : ℕ). found (division_text r.division []) (start n)) (division_unit r.division r.rules)
    ∙ division_back r.division r.rules
