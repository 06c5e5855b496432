-- D1 to G3 on the edges of a line whose characters are those that numerals are made of: each pass's list is, one by one, the list of the grammar's pieces that
-- `proofs/Pieces.antt` makes of the characters.
-- TokenEdge, PieceEdge, PartEdge and MemberEdge say of a piece and an edge that the edge lies on the piece's places, with its value and base. Each is carried through
-- a pass by `sim` of `proofs/ChainParts.antt`, since the edges' chain takes the next exactly where the pieces' chain does (TokenChain, .., MemberChain).
use Prim.Native.Nat.{ℕ, suc, ◌+◌, ◌*◌, ◌≤◌}
use mathlib.Core.Path.{◌≡◌, refl, sym, ap, ◌∙◌}
use mathlib.Core.Bool.{Bool, true, false, cond, ◌&&◌, and-true, and-false, ◌||◌}
use mathlib.Core.List.{List, [], ◌∷◌, ◌++◌}
use mathlib.Core.Option.{Option, none, some, some-ne-none, some-injective}
use native.Mathlib.Omega.{arith}
use native.Mathlib.Nat.{zero-add}
use lib.Dec.{leb, ltb, eqb}
use lib.ListN.{length}
use Rattle.table.specs.Table.{Text, Record, find}
use Rattle.text.specs.Sequence.{encode}
use Rattle.text.specs.Bytes.{same}
use Rattle.passes.specs.NumEdge.{NumEdge}
use Rattle.passes.specs.Characters.{char_edge, char_edges, with_edge}
use Rattle.passes.specs.Passes.{Pass, D1, G1, G2, G3, Chain, digit_type, gap, one_place, nearest, begin, longer, touches, digit_edge, d1_rule, g1_rule, g2_rule, g3_rule, exceeds, rule, over, over_digits, joined, next, chains_of, after}
use Rattle.passes.specs.Renaming.{gap_char}
use Rattle.passes.proofs.GapTexts.{one_char}
use Rattle.table_grammar.specs.Row.{Row, one, ◌▷◌, last}
use Rattle.table_grammar.specs.Grammar.{digit, ten, large, run, times, power, small, block, lone, run_value, atom_value, atom_base, small_value, small_base, lone_zero, near_base}
use Rattle.table_grammar.specs.Kinds.{Char, Digit, Large, Ten, char_at, char_of, chars_of, entry_of, large_base, large_value, put, ten_base, ten_value}
use Rattle.table_grammar.specs.TableGrammar.{kinds, Atom, Member}
use Rattle.passes.proofs.ChainsAlike.{Both}
use Rattle.table_grammar.proofs.ChainParts.{Tiles, sim, tiles_map}
use Rattle.table_grammar.proofs.Tests.{le_true, eqb_self, eqb-false}
use Rattle.table_grammar.proofs.Pieces.{TokenOf, digits, ten₁, large₁, PieceOf, atom, large₂, PartOf, atoms, large₃, begin₁, next₁, begin₂, next₂, begin₃, next₃, begin₄, next₄, joins, tokens, pieces, smalls, members}
use Rattle.table_grammar.proofs.KindLaws.{digit_law, unit_law, large_law, found_code, entry_of_lem, gap_char_lem, Spelled, spelled_append, no_gap_append, not_le}

abbrev pub Token : Type 0
Token = TokenOf Digit Ten Large

abbrev pub Piece : Type 0
Piece = PieceOf Digit Ten Large

abbrev pub Part : Type 0
Part = PartOf Digit Ten Large

-- the script of an atom and of a member: of its last character
abbrev pub atom_script : Atom → Option Text
atom_script (run r) = (last r).entry.script
atom_script (times r t) = t.entry.script
atom_script (power t) = t.entry.script

abbrev pub member_script : Member → Option Text
member_script (small s) = atom_script (last s)
member_script (block s l) = l.entry.script
member_script (lone l) = l.entry.script

-- ---- what a pass sees of an edge
pub record View : Type 0 where
  pub value : ℕ
  pub base : ℕ
  pub size : ℕ
  pub large : Bool
  pub zero : Bool
  pub script : Option Text

-- the edge e, over the places from i to j, is seen as v
pub record Shows (i : ℕ) (v : View) (e : NumEdge) (j : ℕ) : Type 0 where
  pub start : e.start ≡ i
  pub end : e.end ≡ j
  pub width : j ≡ i + v.size
  pub value : e.value ≡ some v.value
  pub base : e.base ≡ some v.base
  pub large : e.large_power ≡ v.large
  pub script : e.script ≡ v.script
  pub lone : gap e ≡ v.zero
  pub text : Spelled e.orig_txt

module _ {i j k : ℕ} {x y : View} {l r : NumEdge} (L : Shows i x l j) (R : Shows j y r k) where
  no_gap : same (l.orig_txt ++ r.orig_txt) (encode 0x96F6) || same (l.orig_txt ++ r.orig_txt) (encode 0x3007) ≡ false
  no_gap = no_gap_append l.orig_txt r.orig_txt L.text R.text

  spelled : Spelled (l.orig_txt ++ r.orig_txt)
  spelled = spelled_append l.orig_txt r.orig_txt L.text R.text

  pub over_shows : (p : Pass) (v v' : ℕ) (b : ℕ) (b' : Option ℕ) (g : Bool) → v' ≡ v → b' ≡ some b
      → Shows i (record { value = v; base = b; size = x.size + y.size; large = g; zero = false; script = y.script }) (over p l r v' b' g) k
  unfolding over gap
  over_shows p v v' b b' g e e' = record {
    start = L.start;
    end = R.end;
    width = omega (arith, L.width, R.width);
    value = ap {B = Option ℕ} some e;
    base = e';
    large = refl;
    script = R.script;
    lone = no_gap;
    text = spelled;
  }

  over_digits_shows : Shows i (record { value = 10 * x.value + y.value; base = 1; size = x.size + y.size; large = false; zero = false; script = y.script }) (over_digits l r) k
  unfolding over_digits gap
  over_digits_shows = record {
    start = L.start;
    end = R.end;
    width = omega (arith, L.width, R.width);
    value = rw (L.value, R.value);
    base = refl;
    large = refl;
    script = R.script;
    lone = no_gap;
    text = spelled;
  }

-- ---- the next edge touches the chain: it joins where the rule holds
module _ {S : Type 0} (P : S → Chain → Type 0) (p : Pass) (c : Chain) (e : NumEdge) where
  both_cond : (b : Bool) (s : S) (j : ℕ) → c.edge.end ≡ j → e.start ≡ j → rule p c e ≡ b
      → (b ≡ true → P s (longer c e (joined p c.edge e))) → Both P (cond b (some s) none) (next p c e)
  unfolding next
  both_cond true s j h k r f = let t : touches c e ≡ true = rw (h, k, eqb_self j) in rw (t, r) (f refl)
  both_cond false s j h k r f = rw (r, and-false (touches c e)) tt

  both_none : rule p c e ≡ false → Both P none (next p c e)
  unfolding next
  both_none r = rw (r, and-false (touches c e)) tt

-- ---- D1: runs and single characters
abbrev pub run_size : Row Digit → ℕ
run_size (one d) = 1
run_size (r ▷ d) = run_size r + 1

abbrev pub large_view : Large → View
large_view l = record { value = large_value l; base = large_base l; size = 1; large = true; zero = gap_char l.entry.code_point; script = l.entry.script }

abbrev pub token_view : Token → View
token_view (digits r) = record { value = run_value kinds r; base = 1; size = run_size r; large = false; zero = lone_zero kinds (run r); script = atom_script (run r) }
token_view (ten₁ t) = record { value = ten_value t; base = ten_base t; size = 1; large = false; zero = false; script = t.entry.script }
token_view (large₁ l) = large_view l

abbrev pub TokenEdge : ℕ → Token → NumEdge → ℕ → Type 0
TokenEdge i t e j = Shows i (token_view t) e j

abbrev is_run : Token → Bool
is_run (digits r) = true
is_run (ten₁ t) = false
is_run (large₁ l) = false

abbrev TokenChain : ℕ → Token → Chain → ℕ → Type 0
TokenChain i t c j = TokenEdge i t c.edge j × (c.more || digit_edge c.edge ≡ is_run t)

-- the edge of a character at place i
abbrev pub edge_at : ℕ → Char → NumEdge
edge_at i c = char_edge i (entry_of c).code_point (entry_of c)

module _ (i : ℕ) where
  char_gap : (c : ℕ) (r : Record) → gap (char_edge i c r) ≡ gap_char c
  unfolding gap char_edge
  char_gap c r = gap_char_lem c

  digit_shows : (d : Digit) → Shows i (token_view (digits (one d))) (edge_at i (digit d)) (suc i)
  unfolding char_edge
  digit_shows d =
      let D = digit_law d in
      record { start = refl; end = refl; width = omega arith; value = D.value; base = D.base; large = D.large; script = refl; lone = char_gap d.entry.code_point d.entry; text = (_, [], one_char _) }

  unit_shows : (t : Ten) → Shows i (token_view (ten₁ t)) (edge_at i (ten t)) (suc i)
  unfolding char_edge
  unit_shows t =
      let D = unit_law t in
      record { start = refl; end = refl; width = omega arith; value = D.value; base = D.base; large = D.large; script = refl; lone = char_gap t.entry.code_point t.entry ∙ D.no_gap; text = (_, [], one_char _) }

  large_shows : (l : Large) → Shows i (token_view (large₁ l)) (edge_at i (large l)) (suc i)
  unfolding char_edge
  large_shows l =
      let D = large_law l in
      record { start = refl; end = refl; width = omega arith; value = D.value; base = D.base; large = D.large; script = refl; lone = char_gap l.entry.code_point l.entry; text = (_, [], one_char _) }

  char_shows : (c : Char) → Shows i (token_view (begin₁ kinds c)) (edge_at i c) (suc i)
  char_shows (digit d) = digit_shows d
  char_shows (ten t) = unit_shows t
  char_shows (large l) = large_shows l

  no_digit : (e : NumEdge) (v : ℕ) → e.value ≡ some v → 10 ≤ v → digit_edge e ≡ false
  unfolding digit_edge
  no_digit e v h k = rw (h, not_le v 9 k, and-false (same e.type digit_type && one_place e && true))

  is_digit_lem : (c : Char) → digit_edge (edge_at i c) ≡ is_run (begin₁ kinds c)
  unfolding digit_edge char_edge
  is_digit_lem (digit d) = let D = digit_law d in rw (D.type, eqb_self (suc i), D.value, le_true D.small)
  is_digit_lem (ten t) = no_digit (edge_at i (ten t)) (ten_value t) (unit_law t).value (unit_law t).ten
  is_digit_lem (large l) = no_digit (edge_at i (large l)) (large_value l) (large_law l).value (large_law l).ten

-- ---- the line
abbrev pub CharEdge : ℕ → Char → NumEdge → ℕ → Type 0
CharEdge i c e j = (e ≡ edge_at i c) × (j ≡ suc i)

put_none : (o : Option Char) → put o none ≡ none
put_none none = refl
put_none (some c) = refl

pub line : (rs : List Record) (w : List ℕ) (s : List Char) (i : ℕ) → chars_of rs w ≡ some s → Tiles CharEdge i s (char_edges rs i w) (i + length w)
unfolding char_edges
line rs [] s i e = rw (← (some-injective [] s e)) (omega arith)
line rs (c ∷ w) s i e = go (find rs c) (chars_of rs w) refl refl (λ q k. line rs w q (suc i) k) e
  where
    step : (i n : ℕ) → suc i + n ≡ i + suc n
    step i n = omega arith

    got : (r : Record) (o : Option Char) (q : List Char) → find rs c ≡ some r → char_of r ≡ o → put o (some q) ≡ some s → Tiles CharEdge (suc i) q (char_edges rs (suc i) w) (suc i + length w)
        → Tiles CharEdge i s (char_edge i c r ∷ char_edges rs (suc i) w) (i + suc (length w))
    got r none q h k e ih = absurd (some-ne-none s (sym e))
    got r (some x) q h k e ih =
        let f : x ∷ q ≡ s = some-injective (x ∷ q) s e in
        let en : entry_of x ≡ r = entry_of_lem r _ _ _ refl refl refl x k in
        let co : r.code_point ≡ c = found_code rs c r h in
        rw (← f) (suc i, (rw (en, co), refl), rw (← (step i (length w))) ih)

    go : (o : Option Record) (p : Option (List Char)) → find rs c ≡ o → chars_of rs w ≡ p
        → ((q : List Char) → chars_of rs w ≡ some q → Tiles CharEdge (suc i) q (char_edges rs (suc i) w) (suc i + length w)) → put (char_at o) p ≡ some s
        → Tiles CharEdge i s (with_edge i c o (char_edges rs (suc i) w)) (i + suc (length w))
    go none p h k ih e = absurd (some-ne-none s (sym e))
    go (some r) none h k ih e = absurd (some-ne-none s (sym e ∙ put_none (char_of r)))
    go (some r) (some q) h k ih e = got r (char_of r) q h refl e (ih q k)

begin_token : (i j : ℕ) (c : Char) (e : NumEdge) → CharEdge i c e j → TokenChain i (begin₁ kinds c) (begin e) j
unfolding begin
begin_token i j c e h = rw (h.0, h.1) (char_shows i c, is_digit_lem i c)

next_token_char : (i j : ℕ) (s : Token) (c : Chain) (a : Char) → TokenChain i s c j → Both (λ t d. TokenChain i t d (suc j)) (next₁ kinds s a) (next D1 c (edge_at j a))
unfolding d1_rule longer joined char_edge
next_token_char i j (digits r) c (digit d) q =
    both_cond (λ t d. TokenChain i t d (suc j)) D1 c (edge_at j (digit d)) true (digits (r ▷ d)) j q.0.end refl (rw (q.1, is_digit_lem j (digit d)))
    (λ _. (over_digits_shows q.0 (char_shows j (digit d)), refl))
next_token_char i j (digits r) c (ten t) q = both_none (λ t d. TokenChain i t d (suc j)) D1 c _ (rw (q.1, is_digit_lem j (ten t)))
next_token_char i j (digits r) c (large l) q = both_none (λ t d. TokenChain i t d (suc j)) D1 c _ (rw (q.1, is_digit_lem j (large l)))
next_token_char i j (ten₁ t) c a q = both_none (λ t d. TokenChain i t d (suc j)) D1 c _ (rw q.1)
next_token_char i j (large₁ l) c a q = both_none (λ t d. TokenChain i t d (suc j)) D1 c _ (rw q.1)

next_token : (i j k : ℕ) (s : Token) (c : Chain) (a : Char) (e : NumEdge) → TokenChain i s c j → CharEdge j a e k → Both (λ t d. TokenChain i t d k) (next₁ kinds s a) (next D1 c e)
next_token i j k s c a e q h = rw (h.0, h.1) (next_token_char i j s c a q)

pub pass_d1 : (w : List Char) (l : List NumEdge) (n : ℕ) → Tiles CharEdge 0 w l n → Tiles TokenEdge 0 (tokens kinds w) (after D1 l) n
unfolding after chains_of
pass_d1 w l n h =
    tiles_map TokenChain TokenEdge (λ c. c.edge) (λ i j t c q. q.0) (tokens kinds w) _ 0 _ (sim (begin₁ kinds) (next₁ kinds) begin (next D1) CharEdge TokenChain begin_token next_token w l 0 n h)

-- ---- G1: atoms
abbrev pub atom_size : Atom → ℕ
atom_size (run r) = run_size r
atom_size (times r t) = run_size r + 1
atom_size (power t) = 1

abbrev pub piece_view : Piece → View
piece_view (atom a) = record { value = atom_value kinds a; base = atom_base kinds a; size = atom_size a; large = false; zero = lone_zero kinds a; script = atom_script a }
piece_view (large₂ l) = large_view l

abbrev pub PieceEdge : ℕ → Piece → NumEdge → ℕ → Type 0
PieceEdge i p e j = Shows i (piece_view p) e j

abbrev is_product : Piece → Bool
is_product (atom (run r)) = false
is_product (atom (times r t)) = true
is_product (atom (power t)) = false
is_product (large₂ l) = false

abbrev PieceChain : ℕ → Piece → Chain → ℕ → Type 0
PieceChain i p c j = PieceEdge i p c.edge j × (c.more ≡ is_product p)

begin_piece : (i j : ℕ) (t : Token) (e : NumEdge) → TokenEdge i t e j → PieceChain i (begin₂ kinds t) (begin e) j
unfolding begin
begin_piece i j (digits r) e h = (h, refl)
begin_piece i j (ten₁ t) e h = (h, refl)
begin_piece i j (large₁ l) e h = (h, refl)

ten_base_lem : (t : Ten) → (eqb (ten_base t) 1 ≡ false) × (ltb 1 (ten_base t) ≡ true)
ten_base_lem t = (eqb-false (ten_base t) 1 (λ e. omega (arith, (unit_law t).two)), le_true (unit_law t).two)

large_not_1 : (l : Large) → eqb (large_base l) 1 ≡ false
large_not_1 l = eqb-false (large_base l) 1 (λ e. omega (arith, (large_law l).two))

next_piece : (i j k : ℕ) (s : Piece) (c : Chain) (a : Token) (e : NumEdge) → PieceChain i s c j → TokenEdge j a e k → Both (λ t d. PieceChain i t d k) (next₂ kinds s a) (next G1 c e)
unfolding g1_rule longer joined
next_piece i j k (atom (run r)) c (digits q) e h g = both_none (λ t d. PieceChain i t d k) G1 c e (rw (h.1, h.0.base, h.0.value, g.base, g.large, and-false (leb 1 (run_value kinds r))))
next_piece i j k (atom (run r)) c (ten₁ t) e h g =
    both_cond (λ t d. PieceChain i t d k) G1 c e (leb 1 (run_value kinds r)) (atom (times r t)) j h.0.end g.start
    (rw (h.1, h.0.base, h.0.value, g.base, g.large, (ten_base_lem t).1, and-true (leb 1 (run_value kinds r)), and-true (leb 1 (run_value kinds r))))
    (λ _. (over_shows h.0 g G1 _ _ _ _ _ (rw (h.0.value, g.value)) g.base, refl))
next_piece i j k (atom (run r)) c (large₁ l) e h g =
    both_none (λ t d. PieceChain i t d k) G1 c e (rw (h.1, h.0.base, h.0.value, g.base, g.large, and-false (leb 1 (run_value kinds r) && ltb 1 (large_base l))))
next_piece i j k (atom (times r t)) c a e h g = both_none (λ t d. PieceChain i t d k) G1 c e (rw h.1)
next_piece i j k (atom (power t)) c a e h g = both_none (λ t d. PieceChain i t d k) G1 c e (rw (h.1, h.0.base, (ten_base_lem t).0))
next_piece i j k (large₂ l) c a e h g = both_none (λ t d. PieceChain i t d k) G1 c e (rw (h.1, h.0.base, large_not_1 l))

pub pass_g1 : (w : List Char) (l : List NumEdge) (n : ℕ) → Tiles TokenEdge 0 (tokens kinds w) l n → Tiles PieceEdge 0 (pieces kinds w) (after G1 l) n
unfolding after chains_of
pass_g1 w l n h =
    tiles_map PieceChain PieceEdge (λ c. c.edge) (λ i j t c q. q.0) (pieces kinds w) _ 0 _ (sim (begin₂ kinds) (next₂ kinds) begin (next G1) TokenEdge PieceChain begin_piece next_piece (tokens kinds w) l 0 n h)

-- ---- G2: smalls
abbrev pub small_size : Row Atom → ℕ
small_size (one a) = atom_size a
small_size (s ▷ a) = small_size s + atom_size a

abbrev small_zero : Row Atom → Bool
small_zero (one a) = lone_zero kinds a
small_zero (s ▷ a) = false

abbrev pub part_view : Part → View
part_view (atoms s) = record { value = small_value kinds s; base = small_base kinds s; size = small_size s; large = false; zero = small_zero s; script = atom_script (last s) }
part_view (large₃ l) = large_view l

abbrev pub PartEdge : ℕ → Part → NumEdge → ℕ → Type 0
PartEdge i p e j = Shows i (part_view p) e j

-- the next is held against the base that the grammar says
abbrev Near : Part → Option ℕ → Type 0
Near (atoms s) n = n ≡ near_base kinds s
Near (large₃ l) n = Unit {0}

abbrev PartChain : ℕ → Part → Chain → ℕ → Type 0
PartChain i p c j = PartEdge i p c.edge j × Near p c.near

begin_part : (i j : ℕ) (p : Piece) (e : NumEdge) → PieceEdge i p e j → PartChain i (begin₃ kinds p) (begin e) j
unfolding begin nearest
begin_part i j (atom a) e h = (h, rw (h.lone, h.base))
begin_part i j (large₂ l) e h = (h, tt)

test : (n : Option ℕ) (a : Atom) → exceeds n (some (atom_value kinds a)) (some (atom_base kinds a)) (lone_zero kinds a) ≡ joins kinds n a
test none a = refl
test (some n) a = refl

next_part : (i j k : ℕ) (s : Part) (c : Chain) (a : Piece) (e : NumEdge) → PartChain i s c j → PieceEdge j a e k → Both (λ t d. PartChain i t d k) (next₃ kinds s a) (next G2 c e)
unfolding g2_rule longer joined nearest
next_part i j k (atoms s) c (atom a) e h g =
    both_cond (λ t d. PartChain i t d k) G2 c e (joins kinds (near_base kinds s) a) (atoms (s ▷ a)) j h.0.end g.start
    (rw (g.lone, h.0.value, h.0.large, h.1, g.large, g.value, g.base) (test (near_base kinds s) a))
    (λ _. (over_shows h.0 g G2 _ _ _ _ _ (rw (h.0.value, g.value)) g.base, rw (g.lone, g.base, h.1)))
next_part i j k (atoms s) c (large₂ l) e h g = both_none (λ t d. PartChain i t d k) G2 c e (rw (h.0.value, h.0.large, g.large))
next_part i j k (large₃ l) c a e h g = both_none (λ t d. PartChain i t d k) G2 c e (rw (h.0.value, h.0.large))

pub pass_g2 : (w : List Char) (l : List NumEdge) (n : ℕ) → Tiles PieceEdge 0 (pieces kinds w) l n → Tiles PartEdge 0 (smalls kinds w) (after G2 l) n
unfolding after chains_of
pass_g2 w l n h =
    tiles_map PartChain PartEdge (λ c. c.edge) (λ i j t c q. q.0) (smalls kinds w) _ 0 _ (sim (begin₃ kinds) (next₃ kinds) begin (next G2) PieceEdge PartChain begin_part next_part (pieces kinds w) l 0 n h)

-- ---- G3: members
abbrev pub member_view : Member → View
member_view (small s) = part_view (atoms s)
member_view (block s l) = record { value = small_value kinds s * large_value l; base = large_base l; size = small_size s + 1; large = true; zero = false; script = l.entry.script }
member_view (lone l) = part_view (large₃ l)

abbrev pub MemberEdge : ℕ → Member → NumEdge → ℕ → Type 0
MemberEdge i m e j = Shows i (member_view m) e j

abbrev is_block : Member → Bool
is_block (small s) = false
is_block (block s l) = true
is_block (lone l) = false

abbrev MemberChain : ℕ → Member → Chain → ℕ → Type 0
MemberChain i m c j = MemberEdge i m c.edge j × (c.more ≡ is_block m)

begin_member : (i j : ℕ) (p : Part) (e : NumEdge) → PartEdge i p e j → MemberChain i (begin₄ kinds p) (begin e) j
unfolding begin
begin_member i j (atoms s) e h = (h, refl)
begin_member i j (large₃ l) e h = (h, refl)

next_member : (i j k : ℕ) (s : Member) (c : Chain) (a : Part) (e : NumEdge) → MemberChain i s c j → PartEdge j a e k → Both (λ t d. MemberChain i t d k) (next₄ kinds s a) (next G3 c e)
unfolding g3_rule longer joined
next_member i j k (small s) c (atoms t) e h g = both_none (λ t d. MemberChain i t d k) G3 c e (rw (h.1, h.0.value, h.0.large, g.value, g.large))
next_member i j k (small s) c (large₃ l) e h g =
    both_cond (λ t d. MemberChain i t d k) G3 c e true (block s l) j h.0.end g.start (rw (h.1, h.0.value, h.0.large, g.value, g.large))
    (λ _. (over_shows h.0 g G3 _ _ _ _ _ (rw (h.0.value, g.value)) g.base, refl))
next_member i j k (block s l) c a e h g = both_none (λ t d. MemberChain i t d k) G3 c e (rw h.1)
next_member i j k (lone l) c a e h g = both_none (λ t d. MemberChain i t d k) G3 c e (rw (h.1, h.0.value, h.0.large))

pub pass_g3 : (w : List Char) (l : List NumEdge) (n : ℕ) → Tiles PartEdge 0 (smalls kinds w) l n → Tiles MemberEdge 0 (members kinds w) (after G3 l) n
unfolding after chains_of
pass_g3 w l n h =
    tiles_map MemberChain MemberEdge (λ c. c.edge) (λ i j t c q. q.0) (members kinds w) _ 0 _ (sim (begin₄ kinds) (next₄ kinds) begin (next G3) PartEdge MemberChain begin_member next_member (smalls kinds w) l 0 n h)

pub four_passes : (rs : List Record) (w : List ℕ) (s : List Char) → chars_of rs w ≡ some s
    → Tiles MemberEdge 0 (members kinds s) (after G3 (after G2 (after G1 (after D1 (char_edges rs 0 w))))) (length w)
four_passes rs w s e = rw (← (zero-add (length w))) (pass_g3 s _ _ (pass_g2 s _ _ (pass_g1 s _ _ (pass_d1 s _ _ (line rs w s 0 e)))))
