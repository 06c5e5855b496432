-- For the parts where the table of `proofs/Without.antt` has two records, no table of one record that lacks this part alone fails, on any line: the record stands n times in a row,
-- and the list after the fifth pass is one edge with the value that the grammar says exactly where the grammar says one.
--     digit_alone   a digit without its base, or a large power: D1 makes a run of the line, which asks for neither
--     unit_alone    a unit of any base, or of a value below 10 that is of another type than "digit" and not below its base; large_alone: a large power of any base;
--     other_alone   any other, with any base or a gap: no pass joins it to itself, and by the grammar it does not follow itself
-- In order: what stands n times in a row; the grammar; the passes that join nothing; D1; the laws.
-- Assumes nothing.
use Prim.Native.Nat.{ℕ, zero, suc, ◌+◌, ◌≤◌}
use mathlib.Core.Path.{◌≡◌, refl, sym, ap, ◌∙◌}
use mathlib.Core.Bool.{Bool, true, false, cond, ◌&&◌, ◌||◌, not, and-false, false≢true}
use mathlib.Core.List.{List, [], ◌∷◌, map}
use mathlib.Core.Option.{Option, none, some}
use native.Mathlib.Omega.{arith}
use lib.Dec.{leb, ltb, eqb}
use lib.ListN.{replicate}
use Rattle.text.specs.Bytes.{same}
use Rattle.table.specs.Table.{Record, find}
use Rattle.passes.specs.NumEdge.{NumEdge, or_zero, has}
use Rattle.passes.specs.Characters.{char_edge, char_edges}
use Rattle.passes.specs.Chains.{from, chains}
use Rattle.passes.specs.Passes.{Pass, D1, G1, G2, G3, G4, Chain, begin, longer, touches, rule, next, joined, over_digits, chains_of, edges_of, after, through, five, fifth_list, digit_type, cjk, is_script, digit_edge, d1_rule, g1_rule, exceeds, g2_rule, g3_rule, under, g4_rule, retags, counted_value, counted_base, nearest, gap}
use Rattle.passes.specs.Renaming.{gap_char}
use Rattle.passes.proofs.ChainsLaws.{from_nil, from_none, from_some}
use Rattle.table_grammar.specs.Row.{Row, one, ◌▷◌}
use Rattle.table_grammar.specs.Grammar.{digit, ten, large, power, small, lone, run_value}
use Rattle.table_grammar.specs.Kinds.{at_most, at_least}
use Rattle.table_grammar.specs.TableGrammar.{high}
use Rattle.table_grammar.proofs.Tests.{true_le, and_right, eqb_self, eqb-true}
use Rattle.table_grammar.proofs.KindLaws.{most, not_le, gap_char_lem}
use Rattle.table_grammar.proofs.Pieces.{digits, ten₁, large₁, atom, large₂, atoms, large₃, begin₁, next₁, begin₂, next₂, begin₃, next₃, begin₄, next₄, members}
use Rattle.table_grammar.proofs.Readings.{build}
use Rattle.table_grammar.proofs.Computed.{said, said_none}
use Rattle.grammar.proofs.Marked.{answer_of}
use Rattle.regular.proofs.Makers.{table_with}
use Rattle.regular.proofs.Without.{Taken, asDigit, asUnit, asLarge, asOther, entry, loose, marks, grammar_says, whole_value, last_says, AgreeAlone}

-- ---- what stands n times in a row

-- what one of them says, and nothing of none or several
abbrev once : ℕ → Option ℕ → Option ℕ
once zero v = none
once (suc zero) v = v
once (suc (suc n)) v = none

map_replicate : {A B : Type 0} (f : A → B) (n : ℕ) (a : A) → map f (replicate n a) ≡ replicate n (f a)
map_replicate f zero a = refl
map_replicate f (suc n) a = rw (map_replicate f n a)

module _ {A S : Type 0} (begin : A → S) (next : S → A → Option S) (a : A) (stops : next (begin a) a ≡ none) where
  from_same : (n : ℕ) → from begin next (begin a) (replicate n a) ≡ replicate (suc n) (begin a)
  from_same zero = from_nil begin next (begin a)
  from_same (suc n) = from_none begin next (begin a) a (replicate n a) stops ∙ rw (from_same n)

  chains_same : (n : ℕ) → chains begin next (replicate n a) ≡ replicate n (begin a)
  unfolding chains
  chains_same zero = refl
  chains_same (suc n) = from_same n

-- nothing is below its own base
not_below : (v n : ℕ) → ltb v n && ltb n n ≡ false
not_below v n = rw (not_le (suc n) n (omega arith)) (and-false (ltb v n))

-- ---- the grammar
unit_members : (r : Record) (n : ℕ) → members loose (replicate n (ten r)) ≡ replicate n (small (one (power r)))
unit_members r n =
    rw (chains_same (begin₁ loose) (next₁ loose) (ten r) refl n, chains_same (begin₂ loose) (next₂ loose) (ten₁ r) refl n, chains_same (begin₃ loose) (next₃ loose) (atom (power r)) (rw (not_below (or_zero r.value) (or_zero r.base))) n)
    (chains_same (begin₄ loose) (next₄ loose) (atoms (one (power r))) refl n)

unit_said : (r : Record) (n : ℕ) → said loose (replicate n (ten r)) ≡ once n (some (or_zero r.value))
unfolding chains from
unit_said r zero = refl
unit_said r (suc zero) = refl
unit_said r (suc (suc n)) = said_none loose (replicate (suc (suc n)) (ten r)) _ _ _ (unit_members r (suc (suc n))) refl

large_members : (r : Record) (n : ℕ) → members loose (replicate n (large r)) ≡ replicate n (lone r)
large_members r n =
    rw (chains_same (begin₁ loose) (next₁ loose) (large r) refl n, chains_same (begin₂ loose) (next₂ loose) (large₁ r) refl n, chains_same (begin₃ loose) (next₃ loose) (large₂ r) refl n)
    (chains_same (begin₄ loose) (next₄ loose) (large₃ r) refl n)

large_said : (r : Record) (n : ℕ) → said loose (replicate n (large r)) ≡ once n (some (or_zero r.value))
unfolding chains from
large_said r zero = refl
large_said r (suc zero) = refl
large_said r (suc (suc n)) =
    said_none loose (replicate (suc (suc n)) (large r)) _ _ _ (large_members r (suc (suc n))) (rw (and-false (high r)) (not_below (or_zero r.value) (or_zero r.base)))

-- the run of a digit and n more
abbrev run_of : Record → ℕ → Row Record
run_of r n = build (one r) (replicate n r)

digits_from_lem : (r : Record) (q : Row Record) (n : ℕ) → from (begin₁ loose) (next₁ loose) (digits q) (replicate n (digit r)) ≡ digits (build q (replicate n r)) ∷ []
unfolding from
digits_from_lem r q zero = refl
digits_from_lem r q (suc n) = digits_from_lem r (q ▷ r) n

digit_said : (r : Record) (n : ℕ) → said loose (replicate (suc n) (digit r)) ≡ some (run_value loose (run_of r n))
unfolding chains from
digit_said r n = rw (digits_from_lem r (one r) n)

-- ---- the passes
module _ (r : Record) where
  abbrev edge : ℕ → NumEdge
  edge i = char_edge i r.code_point r

  abbrev copies : ℕ → ℕ → List NumEdge
  copies i zero = []
  copies i (suc n) = edge i ∷ copies (suc i) n

  first : (i n : ℕ) → char_edges (r ∷ []) i (replicate n r.code_point) ≡ copies i n
  unfolding char_edges find
  first i zero = refl
  first i (suc n) = rw (eqb_self r.code_point, first (suc i) n)

  -- D1 joins it to itself
  abbrev runs : Bool
  runs = same r.type digit_type && at_most 9 r.value

  digit_edge_lem : (i : ℕ) → digit_edge (edge i) ≡ runs
  unfolding digit_edge char_edge
  digit_edge_lem i = rw (eqb_self (suc i)) (go (same r.type digit_type) r.value)
    where
      go : (b : Bool) (v : Option ℕ) → b && true && has v && leb (or_zero v) 9 ≡ b && at_most 9 v
      go true none = refl
      go true (some v) = refl
      go false v = refl

  module _ (p : Pass) (apart : (i : ℕ) → rule p (begin (edge i)) (edge (suc i)) ≡ false) where
    stop : (i : ℕ) → next p (begin (edge i)) (edge (suc i)) ≡ none
    unfolding next
    stop i = rw (apart i, and-false (touches (begin (edge i)) (edge (suc i))))

    from_copies : (i n : ℕ) → edges_of (from begin (next p) (begin (edge i)) (copies (suc i) n)) ≡ copies i (suc n)
    unfolding begin
    from_copies i zero = ap edges_of (from_nil begin (next p) (begin (edge i)))
    from_copies i (suc n) = ap edges_of (from_none begin (next p) (begin (edge i)) (edge (suc i)) (copies (suc (suc i)) n) (stop i)) ∙ rw (from_copies (suc i) n)

    after_copies : (i n : ℕ) → after p (copies i n) ≡ copies i n
    unfolding after chains_of chains
    after_copies i zero = refl
    after_copies i (suc n) = from_copies i n

  -- G4 counts it after itself
  abbrev counts : Bool
  counts = high r && leb 1 (or_zero r.value) && leb (or_zero r.value) 9

  -- G2 joins it to itself, as a gap
  abbrev gaps : Bool
  gaps = gap_char r.code_point && has r.value && not r.large_power

  no_g1 : (b v : ℕ) (l : Bool) → eqb b 1 && leb 1 v && ltb 1 b && l ≡ false
  no_g1 b v l = go (eqb b 1) refl
    where
      go : (t : Bool) → eqb b 1 ≡ t → t && leb 1 v && ltb 1 b && l ≡ false
      go true e = rw (eqb-true b 1 e, and-false (leb 1 v))
      go false e = refl

  no_g2 : (g : Bool) (v b : Option ℕ) (l : Bool) → g && has v && not l ≡ false → has v && not l && not l && exceeds (cond g none (some (or_zero b))) v b g ≡ false
  no_g2 g none b l h = refl
  no_g2 g (some v) b true h = refl
  no_g2 true (some v) b false h = h
  no_g2 false (some v) none false h = refl
  no_g2 false (some v) (some b) false h = not_below v b

  no_g3 : (v : Option ℕ) (l : Bool) → has v && not l && has v && l ≡ false
  no_g3 none l = refl
  no_g3 (some v) true = refl
  no_g3 (some v) false = refl

  no_g4 : (v b : Option ℕ) → has v && under (or_zero b) v b ≡ false
  no_g4 none b = refl
  no_g4 (some v) none = refl
  no_g4 (some v) (some b) = not_below v b

  module _ (no_run : runs ≡ false) (no_count : counts ≡ false) (no_gap : gaps ≡ false) where
    no_retag : (i : ℕ) → retags (edge i) (edge (suc i)) ≡ false
    unfolding retags char_edge
    no_retag i = rw (eqb_self (suc (suc i))) (go (high r) no_count)
      where
        go : (b : Bool) → b && leb 1 (or_zero r.value) && leb (or_zero r.value) 9 ≡ false → b && true && leb 1 (or_zero r.value) && leb (or_zero r.value) 9 ≡ false
        go true h = h
        go false h = refl

    no_rule : (p : Pass) (i : ℕ) → rule p (begin (edge i)) (edge (suc i)) ≡ false
    unfolding begin d1_rule g1_rule g2_rule g3_rule g4_rule counted_value counted_base nearest gap char_edge
    no_rule D1 i = rw (digit_edge_lem (suc i), no_run, and-false (digit_edge (edge i)))
    no_rule G1 i = no_g1 (or_zero r.base) (or_zero r.value) (not r.large_power)
    no_rule G2 i = rw (gap_char_lem r.code_point) (no_g2 (gap_char r.code_point) r.value r.base r.large_power no_gap)
    no_rule G3 i = no_g3 r.value r.large_power
    no_rule G4 i = rw (no_retag i) (no_g4 r.value r.base)

    through_copies : (ps : List Pass) (n : ℕ) → through ps (copies 0 n) ≡ copies 0 n
    unfolding through
    through_copies [] n = refl
    through_copies (p ∷ ps) n = ap (through ps) (after_copies p (no_rule p) 0 n) ∙ through_copies ps n

    -- one of them is its edge, several are as many
    apart : (n : ℕ) → whole_value n (answer_of (fifth_list (table_with (r ∷ [])) (replicate n r.code_point)) none) ≡ once n r.value
    unfolding char_edge
    apart n = ap (λ l. whole_value n (answer_of l none)) (ap (through five) (first 0 n) ∙ through_copies five n) ∙ go n
      where
        go : (n : ℕ) → whole_value n (answer_of (copies 0 n) none) ≡ once n r.value
        go zero = refl
        go (suc zero) = refl
        go (suc (suc n)) = refl

  -- ---- D1
  record RunTo (c : Chain) (q : Row Record) (i : ℕ) : Type 0 where
    start : c.edge.start ≡ 0
    end : c.edge.end ≡ i
    value : c.edge.value ≡ some (run_value loose q)
    digits : c.more || digit_edge c.edge ≡ true

  module _ (run : runs ≡ true) where
    run_next : (c : Chain) (q : Row Record) (i : ℕ) → RunTo c q i → (d : Chain) × (next D1 c (edge i) ≡ some d) × RunTo d (q ▷ r) (suc i)
    unfolding next d1_rule longer joined over_digits char_edge
    run_next c q i h = (longer c (edge i) (joined D1 c.edge (edge i)), rw (h.digits, digit_edge_lem i, run, h.end, eqb_self i), record { start = h.start; end = refl; value = rw h.value; digits = refl })

    run_from : (n : ℕ) (c : Chain) (q : Row Record) (i : ℕ) → RunTo c q i → (d : Chain) × (from begin (next D1) c (copies i n) ≡ d ∷ []) × RunTo d (build q (replicate n r)) (i + n)
    unfolding from
    run_from zero c q i h = let e : i + 0 ≡ i = omega arith in (c, refl, rw e h)
    run_from (suc n) c q i h =
        let (d, e, k) = run_next c q i h in
        let (t, f, l) = run_from n d (q ▷ r) (suc i) k in
        let places : suc i + n ≡ i + suc n = omega arith in
        (t, from_some begin (next D1) c d (edge i) (copies (suc i) n) e ∙ f, rw (← places) l)

    run_begin : RunTo (begin (edge 0)) (one r) 1
    unfolding begin char_edge
    run_begin = record { start = refl; end = refl; value = (most 9 r.value (and_right (same r.type digit_type) _ run)).0; digits = digit_edge_lem 0 ∙ run }

    -- they are one edge, a run
    one_run : (n : ℕ) → whole_value (suc n) (answer_of (fifth_list (table_with (r ∷ [])) (replicate (suc n) r.code_point)) none) ≡ some (run_value loose (run_of r n))
    unfolding through after chains_of chains from begin
    one_run n =
        let (d, e, h) = run_from n (begin (edge 0)) (one r) 1 run_begin in
        let places : 1 + n ≡ suc n = omega arith in
        let last : d.edge.end ≡ suc n = h.end ∙ places in
        ap (λ l. whole_value (suc n) (answer_of l none)) (ap (through five) (first 0 (suc n)) ∙ ap (λ l. through (G1 ∷ G2 ∷ G3 ∷ G4 ∷ []) (edges_of l)) e)
        ∙ rw (h.start, last, eqb_self (suc n), h.value)

-- ---- the laws

-- a line of x in a row, where the passes and the grammar say of it what o says
agree_alone : (x : Taken) (o : ℕ → Option ℕ) → ((n : ℕ) → whole_value n (answer_of (fifth_list (table_with (entry x ∷ [])) (replicate n (entry x).code_point)) none) ≡ o n)
    → ((n : ℕ) → grammar_says (replicate n x) ≡ o n) → AgreeAlone x
agree_alone x o h k n = rw (map_replicate (λ (x : Taken). (entry x).code_point) n x) (h n ∙ sym (k n))

unit_marks : (r : Record) (n : ℕ) → marks (replicate n (asUnit r)) ≡ some (replicate n (ten r))
unit_marks r zero = refl
unit_marks r (suc n) = rw (unit_marks r n)

large_marks : (r : Record) (n : ℕ) → marks (replicate n (asLarge r)) ≡ some (replicate n (large r))
large_marks r zero = refl
large_marks r (suc n) = rw (large_marks r n)

digit_marks : (r : Record) (n : ℕ) → marks (replicate n (asDigit r)) ≡ some (replicate n (digit r))
digit_marks r zero = refl
digit_marks r (suc n) = rw (digit_marks r n)

pub digit_alone : (r : Record) → same r.type digit_type && at_most 9 r.value ≡ true → AgreeAlone (asDigit r)
unfolding char_edges through after chains_of chains
digit_alone r h zero = refl
digit_alone r h (suc n) = rw (map_replicate (λ (x : Taken). (entry x).code_point) n (asDigit r), digit_marks r n) (one_run r h n ∙ sym (digit_said r n))

-- a value of 10 or more is neither that of a digit nor counted by G4
no_digit : (r : Record) → at_least 10 r.value ≡ true → (runs r ≡ false) × (counts r ≡ false) × (r.value ≡ some (or_zero r.value))
no_digit r h = go r.value h
  where
    go : (v : Option ℕ) → at_least 10 v ≡ true
        → (same r.type digit_type && at_most 9 v ≡ false) × (high r && leb 1 (or_zero v) && leb (or_zero v) 9 ≡ false) × (v ≡ some (or_zero v))
    go none h = absurd (false≢true h)
    go (some v) h =
        let e : leb v 9 ≡ false = not_le v 9 (true_le 10 v h) in
        (rw e (and-false (same r.type digit_type)), rw e (and-false (high r && leb 1 v)), refl)

pub unit_alone : (r : Record) → at_least 10 r.value ≡ true → gap_char r.code_point ≡ false → AgreeAlone (asUnit r)
unit_alone r v g =
    let (a, b, c) = no_digit r v in
    agree_alone (asUnit r) (λ n. once n r.value) (apart r a b (rw g)) (λ n. rw (unit_marks r n) (unit_said r n ∙ ap (once n) (sym c)))

pub large_alone : (r : Record) → at_least 10 r.value ≡ true → r.large_power ≡ true → AgreeAlone (asLarge r)
large_alone r v l =
    let (a, b, c) = no_digit r v in
    agree_alone (asLarge r) (λ n. once n r.value) (apart r a b (rw l (and-false (gap_char r.code_point && has r.value)))) (λ n. rw (large_marks r n) (large_said r n ∙ ap (once n) (sym c)))

pub unit_small_alone : (r : Record) → same r.type digit_type ≡ false → at_most 9 r.value ≡ true → or_zero r.base ≤ or_zero r.value → gap_char r.code_point ≡ false
    → AgreeAlone (asUnit r)
unit_small_alone r t v b g =
    let (c, nine) = most 9 r.value v in
    let low : leb 1000 (or_zero r.base) ≡ false = not_le 1000 (or_zero r.base) (omega arith) in
    agree_alone (asUnit r) (λ n. once n r.value) (apart r (rw t) (rw (low, and-false (is_script r.script cjk))) (rw g)) (λ n. rw (unit_marks r n) (unit_said r n ∙ ap (once n) (sym c)))

other_marks : (r : Record) (n : ℕ) → grammar_says (replicate n (asOther r)) ≡ none
unfolding chains
other_marks r zero = refl
other_marks r (suc n) = refl

pub other_alone : (r : Record) → r.value ≡ none → AgreeAlone (asOther r)
other_alone r v =
    agree_alone (asOther r) (λ n. once n r.value) (apart r (rw v (and-false (same r.type digit_type))) (rw (v, and-false (high r))) (rw (v, and-false (gap_char r.code_point)))) (λ n. other_marks r n ∙ sym (ap (once n) v ∙ none_once n))
  where
    none_once : (n : ℕ) → once n none ≡ none
    none_once zero = refl
    none_once (suc zero) = refl
    none_once (suc (suc n)) = refl

-- a line of one character fails with no table, unless the record has no value where its kind has one, or one where its kind has none
abbrev pub ValuedByKind : Taken → Type 0
ValuedByKind (asDigit r) = r.value ≡ some (or_zero r.value)
ValuedByKind (asUnit r) = r.value ≡ some (or_zero r.value)
ValuedByKind (asLarge r) = r.value ≡ some (or_zero r.value)
ValuedByKind (asOther r) = r.value ≡ none

pub one_character : (ts : List Taken) (x : Taken) → find (map entry ts) (entry x).code_point ≡ some (entry x) → ValuedByKind x
    → whole_value 1 (last_says ts (x ∷ [])) ≡ grammar_says (x ∷ [])
unfolding char_edges char_edge through after chains_of chains from begin
one_character ts (asDigit r) h v = rw h v
one_character ts (asUnit r) h v = rw h v
one_character ts (asLarge r) h v = rw h v
one_character ts (asOther r) h v = rw h v
