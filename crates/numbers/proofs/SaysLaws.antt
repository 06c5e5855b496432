-- Every edge of digits after D1 says one number: its value over 10 ^ decimals is what its txt writes.
-- In order: rows of digits; one digit more; the chains of D1; the edges of a line. Assumes nothing.
use Prim.Native.Nat.{ℕ, zero, suc, ◌+◌, ◌*◌, ◌^◌, ◌≤◌, ◌<◌}
use mathlib.Core.Path.{◌≡◌, refl, sym, ap, ◌∙◌}
use mathlib.Core.Bool.{Bool, true, false, ◌&&◌, ◌||◌, cond, false≢true}
use mathlib.Core.List.{List, [], ◌∷◌, ◌++◌, map, map-append, append_assoc, append-nil}
use mathlib.Core.Option
use mathlib.Core.Option.{Option, none, some, some-injective, some-ne-none}
use mathlib.Core.Logic.{⊎_elim}
use native.Mathlib.Nat.{add-zero, zero-add, mul-one, mul_assoc, pow-suc, pow-zero, mul_comm}
use native.Mathlib.Numerals.{add-one}
use native.Mathlib.Omega.{arith}
use lib.Dec.{eqb, leb, ltb}
use lib.ListN.{length, get_or, length-append}
use borrow.Author.Tests.{ltb-true, leb-true, eqb-true}
use Rattle.text.proofs.BytesLaws.{same_true}
use Rattle.text.proofs.RowLaws.{and-true, or-true}
use Rattle.table.specs.Table.{Text, Table, Record, find}
use Rattle.table.specs.Check.{digit_rule, legal_digit}
use Rattle.text.specs.Bytes.{same}
use Rattle.text.specs.Sequence.{encode}
use Rattle.whole.specs.Decimal.{ascii, digits_from, digits_value}
use Rattle.whole.proofs.DecimalLaws.{digits_from-snoc}
use Rattle.passes.specs.NumEdge.{NumEdge, or_zero, has}
use Rattle.passes.specs.Characters.{char_edge, char_edges, with_edge, first_list}
use Rattle.passes.specs.Passes as passes
use Rattle.passes.specs.Passes.{D1, digit_type, one_place, digit_edge, d1_rule, longer, touches, joined, over_digits}
use Rattle.passes.specs.DecimalPasses.{DecimalEdge, DecimalChain, whole_edge, edge_over, begin, next, next_digit, joins_digit, joins_point, with_point, one_more, longer_decimal, point_character, chains_of, joined_of, added, point_at, decimal_first_list}
use Rattle.numbers.specs.Says.{written, number_of, Says}
use Rattle.pass_list.specs.StoredEdge.{Every, nil, cons}
use Rattle.pass_list.proofs.in_turn.Simulation.{chains_every}

-- ---- rows of digits

-- one digit more behind
digits_snoc : (a : List ℕ) (d : ℕ) → digits_value (a ++ (d ∷ [])) ≡ digits_value a * 10 + d
digits_snoc a d = digits_from-snoc 0 a d

ascii_snoc : (a : List ℕ) (d : ℕ) → ascii (a ++ (d ∷ [])) ≡ ascii a ++ ((48 + d) ∷ [])
ascii_snoc a d = map-append (λ x. 48 + x) a (d ∷ [])

number_whole : (a : List ℕ) → number_of a [] ≡ digits_value a
unfolding digits_from
number_whole a = rw (pow-zero 10, mul-one (digits_value a), add-zero (digits_value a))

-- one digit more after the point
number_snoc : (a b : List ℕ) (d : ℕ) → number_of a (b ++ (d ∷ [])) ≡ 10 * number_of a b + d
number_snoc a b d = rw (length-append b (d ∷ []), digits_snoc b d, add-one (length b), pow-suc 10 (length b)) (go (digits_value a) (10 ^ length b) (digits_value b))
  where
    go : (x p y : ℕ) → x * (p * 10) + (y * 10 + d) ≡ 10 * (x * p + y) + d
    go x p y = let h : x * (p * 10) ≡ x * p * 10 = sym (mul_assoc x p 10) in omega (arith, h)

written_snoc : (a : List ℕ) (x : ℕ) (b : List ℕ) (d : ℕ) → written a (x ∷ b) ++ ((48 + d) ∷ []) ≡ written a ((x ∷ b) ++ (d ∷ []))
written_snoc a x b d = rw (append_assoc (ascii a) (point_character ∷ ascii (x ∷ b)) ((48 + d) ∷ []), ascii_snoc b d)

written_point : (a : List ℕ) (d : ℕ) → (ascii a ++ (point_character ∷ [])) ++ ((48 + d) ∷ []) ≡ written a (d ∷ [])
written_point a d = append_assoc (ascii a) (point_character ∷ []) ((48 + d) ∷ [])

-- digits stay digits with one more
digits_more : (ds : List ℕ) (d : ℕ) → ((i : ℕ) → i < length ds → get_or ds i 0 ≤ 9) → d ≤ 9 → (i : ℕ) → i < length (ds ++ (d ∷ [])) → get_or (ds ++ (d ∷ [])) i 0 ≤ 9
digits_more [] d h k zero l = k
digits_more [] d h k (suc i) l = absurd (omega arith)
digits_more (x ∷ ds) d h k zero l = h 0 (omega arith)
digits_more (x ∷ ds) d h k (suc i) l = digits_more ds d (λ j m. h (suc j) (omega arith)) k i (omega arith)

-- ---- one digit more

-- an edge of type "digit" has its value, and the table's check gives it that one ASCII digit for txt
abbrev pub DigitText : NumEdge → Type 0
DigitText e = digit_edge e ≡ true → e.txt ≡ (48 + or_zero e.value) ∷ []

has_value : (v : Option ℕ) → has v ≡ true → v ≡ some (or_zero v)
has_value none h = absurd (false≢true h)
has_value (some n) h = refl

digit_parts : (e : NumEdge) → digit_edge e ≡ true → (one_place e ≡ true) × (has e.value ≡ true) × (leb (or_zero e.value) 9 ≡ true)
unfolding digit_edge
digit_parts e h =
    let low = and-true (same e.type digit_type && one_place e && has e.value) (leb (or_zero e.value) 9) h in
    let there = and-true (same e.type digit_type && one_place e) (has e.value) low.0 in
    ((and-true (same e.type digit_type) (one_place e) there.0).1, there.1, low.1)

digit_value_lem : (e : NumEdge) → digit_edge e ≡ true → e.value ≡ some (or_zero e.value)
digit_value_lem e h = has_value e.value (digit_parts e h).1

digit_low : (e : NumEdge) → digit_edge e ≡ true → or_zero e.value ≤ 9
digit_low e h = leb-true (or_zero e.value) 9 (digit_parts e h).2

digit_end : (e : NumEdge) → digit_edge e ≡ true → e.end ≡ suc e.start
digit_end e h = eqb-true e.end (suc e.start) (digit_parts e h).0

one_says : (e : NumEdge) → DigitText e → digit_edge e ≡ true → Says (whole_edge e)
unfolding digits_from
one_says e t h = record {
  before = or_zero e.value ∷ [];
  behind = [];
  one_before = omega arith;
  count = refl;
  few = omega arith;
  txt = t h;
  value = digit_value_lem e h ∙ ap {B = Option ℕ} some (sym (number_whole (or_zero e.value ∷ []) ∙ zero-add (or_zero e.value)));
  digits = digits_more [] (or_zero e.value) (λ i l. absurd (omega arith)) (digit_low e h);
  places = omega (arith, digit_end e h);
}

module _ (l r : NumEdge) (digit : r.txt ≡ (48 + or_zero r.value) ∷ []) (low : or_zero r.value ≤ 9) (r-end : r.end ≡ suc r.start) where
  -- behind the digits of l, touching
  more_says : (k : ℕ) → k < 15 → l.end ≡ r.start → Says (record { edge = l; decimals = k }) → Says (record { edge = over_digits l r; decimals = one_more k })
  unfolding over_digits
  more_says k h touching s = go s.before s.behind k s.one_before s.count h s.txt s.value s.digits s.places
    where
      go : (a b : List ℕ) (k : ℕ) → 0 < length a → length b ≡ k → k < 15 → l.txt ≡ written a b → l.value ≡ some (number_of a b)
          → ((i : ℕ) → i < length (a ++ b) → get_or (a ++ b) i 0 ≤ 9) → l.end ≡ l.start + length (written a b)
          → Says (record { edge = over_digits l r; decimals = one_more k })
      go a [] zero p c h x v g e = record {
        before = a ++ (or_zero r.value ∷ []);
        behind = [];
        one_before = simp length-append (omega arith);
        count = refl;
        few = omega arith;
        txt = rw (x, digit) (sym (ascii_snoc a (or_zero r.value)));
        value = rw (v, number_whole a, number_whole (a ++ (or_zero r.value ∷ [])), digits_snoc a (or_zero r.value), mul_comm (digits_value a) 10);
        digits = rw append-nil (digits_more a (or_zero r.value) (rw append-nil at g) low);
        places = rw (ascii_snoc a (or_zero r.value), length-append (ascii a) ((48 + or_zero r.value) ∷ [])) (omega (arith, e, touching, r-end));
      }
      go a [] (suc k) p c h x v g e = absurd (omega (arith, c))
      go a (y ∷ b) zero p c h x v g e = absurd (omega (arith, c))
      go a (y ∷ b) (suc k) p c h x v g e = record {
        before = a;
        behind = (y ∷ b) ++ (or_zero r.value ∷ []);
        one_before = p;
        count = simp length-append (omega (arith, c));
        few = omega arith;
        txt = rw (x, digit) (written_snoc a y b (or_zero r.value));
        value = rw (v, number_snoc a (y ∷ b) (or_zero r.value));
        digits = rw (← append_assoc a (y ∷ b) (or_zero r.value ∷ [])) (digits_more (a ++ (y ∷ b)) (or_zero r.value) g low);
        places = rw (← written_snoc a y b (or_zero r.value), length-append (written a (y ∷ b)) ((48 + or_zero r.value) ∷ [])) (omega (arith, e, touching, r-end));
      }

  -- behind a point
  point_says : r.start ≡ suc l.end → Says (whole_edge l) → Says (record { edge = over_digits (with_point l) r; decimals = 1 })
  unfolding over_digits with_point
  point_says apart s = go s.before s.behind s.one_before s.count s.txt s.value s.digits s.places
    where
      go : (a b : List ℕ) → 0 < length a → length b ≡ 0 → l.txt ≡ written a b → l.value ≡ some (number_of a b)
          → ((i : ℕ) → i < length (a ++ b) → get_or (a ++ b) i 0 ≤ 9) → l.end ≡ l.start + length (written a b)
          → Says (record { edge = over_digits (with_point l) r; decimals = 1 })
      go a [] p c x v g e = record {
        before = a;
        behind = or_zero r.value ∷ [];
        one_before = p;
        count = refl;
        few = omega arith;
        txt = rw (x, digit) (written_point a (or_zero r.value));
        value = rw (v, number_snoc a [] (or_zero r.value));
        digits = digits_more a (or_zero r.value) (rw append-nil at g) low;
        places = rw (length-append (ascii a) (point_character ∷ (48 + or_zero r.value) ∷ [])) (omega (arith, e, apart, r-end));
      }
      go a (y ∷ b) p c x v g e = absurd (omega (arith, c))

-- ---- the chains of D1

-- digits: D1's edges, and a character's edge that is a digit
abbrev pub is_digits : DecimalChain → Bool
is_digits c = c.chain.more || digit_edge c.chain.edge

abbrev Ok : DecimalChain → Type 0
Ok c = is_digits c ≡ true → Says (edge_over c)

-- an edge of D1's list
abbrev In : DecimalEdge → Type 0
In e = (e.decimals ≡ 0) × DigitText e.edge

ok_begin : (e : DecimalEdge) → In e → Ok (begin e)
unfolding begin passes.begin
ok_begin e (z, t) h = rw z (one_says e.edge t h)

ok_digit : (c : DecimalChain) (e : NumEdge) → Ok c → DigitText e → joins_digit c e ≡ true → Says (record { edge = joined D1 c.chain.edge e; decimals = one_more c.decimals })
unfolding joins_digit d1_rule joined
ok_digit c e ok t h =
    let both = and-true (touches c.chain e) (ltb c.decimals 15 && d1_rule c.chain e) h in
    let rule = and-true (ltb c.decimals 15) (d1_rule c.chain e) both.1 in
    let digits = and-true (is_digits c) (digit_edge e) rule.1 in
    more_says c.chain.edge e (t digits.1) (digit_low e digits.1) (digit_end e digits.1) c.decimals (ltb-true c.decimals 15 rule.0)
    (eqb-true c.chain.edge.end e.start both.0) (ok digits.0)

ok_point : (point : ℕ → Bool) (c : DecimalChain) (e : NumEdge) → Ok c → DigitText e → joins_point point c e ≡ true
    → Says (record { edge = joined D1 (with_point c.chain.edge) e; decimals = 1 })
unfolding joins_point d1_rule joined
ok_point point c e ok t h =
    let tests = (and-true (point c.chain.edge.end) _ h).1 in
    let whole = and-true (eqb c.decimals 0) _ tests in
    let place = and-true (eqb e.start (suc c.chain.edge.end)) (d1_rule c.chain e) whole.1 in
    let digits = and-true (is_digits c) (digit_edge e) place.1 in
    point_says c.chain.edge e (t digits.1) (digit_low e digits.1) (digit_end e digits.1) (eqb-true e.start (suc c.chain.edge.end) place.0) (rw (eqb-true c.decimals 0 whole.0) at (ok digits.0))

ok_next : (point : ℕ → Bool) (c : DecimalChain) (e : DecimalEdge) (d : DecimalChain) → Ok c → In e → next point D1 c e ≡ some d → Ok d
unfolding next next_digit longer
ok_next point c e d ok (z, t) h k = go (joins_digit c e.edge) (joins_point point c e.edge) refl refl h
  where
    go : (p q : Bool) → joins_digit c e.edge ≡ p → joins_point point c e.edge ≡ q
        → cond p (some (longer_decimal c e.edge (joined D1 c.chain.edge e.edge) (one_more c.decimals))) (cond q (some (longer_decimal c e.edge (joined D1 (with_point c.chain.edge) e.edge) 1)) none) ≡ some d
        → Says (edge_over d)
    go true q i j x = rw (← (some-injective _ d x)) (ok_digit c e.edge ok t i)
    go false true i j x = rw (← (some-injective _ d x)) (ok_point point c e.edge ok t j)
    go false false i j x = absurd (some-ne-none d (sym x))

-- the chains of a list that has no decimals yet: each that is one of digits says one number
whole_in : (l : List NumEdge) → Every DigitText l → Every In (map whole_edge l)
whole_in [] nil = nil
whole_in (e ∷ l) (cons t h) = cons (refl, t) (whole_in l h)

chains_say : (point : ℕ → Bool) (l : List NumEdge) → Every DigitText l → Every Ok (chains_of point D1 (map whole_edge l))
unfolding chains_of
chains_say point l h = chains_every begin (next point D1) In Ok ok_begin (ok_next point) (map whole_edge l) (whole_in l h)

joined_say : (cs : List DecimalChain) → Every Ok cs → Every Says (joined_of cs)
unfolding joined_of
joined_say [] nil = nil
joined_say (c ∷ cs) (cons k h) = go c.chain.more k (joined_say cs h)
  where
    go : (m : Bool) → ((m || digit_edge c.chain.edge) ≡ true → Says (edge_over c)) → Every Says (joined_of cs) → Every Says (cond m (edge_over c ∷ joined_of cs) (joined_of cs))
    go true k ih = cons (k refl) ih
    go false k ih = ih

-- ---- the edges of a line

-- cause 5 of the table's check
abbrev pub DigitRules : List Record → Type 0
DigitRules rs = Every (λ r. digit_rule r ≡ true) rs

found : (rs : List Record) (c : ℕ) (r : Record) → DigitRules rs → find rs c ≡ some r → digit_rule r ≡ true
unfolding find
found [] c r nil e = absurd (some-ne-none r (sym e))
found (x ∷ rs) c r (cons here h) e = go (eqb x.code_point c) e (found rs c r h)
  where
    go : (t : Bool) → cond t (some x) (find rs c) ≡ some r → (find rs c ≡ some r → digit_rule r ≡ true) → digit_rule r ≡ true
    go true e ih = rw (← (some-injective x r e)) here
    go false e ih = ih e

pub legal_digit_lem : (v : Option ℕ) (rom : Option Text) → legal_digit v rom ≡ true → has v ≡ true → leb (or_zero v) 9 ≡ true → rom ≡ some ((48 + or_zero v) ∷ [])
unfolding legal_digit
legal_digit_lem none rom h k l = absurd (false≢true k)
legal_digit_lem (some n) none h k l = absurd (omega (arith, ltb-true 9 n h, leb-true n 9 l))
legal_digit_lem (some n) (some t) h k l =
    ⊎_elim (λ q. absurd (omega (arith, ltb-true 9 n q, leb-true n 9 l))) (λ q. ap {B = Option Text} some (same_true t ((48 + n) ∷ []) q))
    (or-true (ltb 9 n) (same t ((48 + n) ∷ [])) h)

char_digit : (i c : ℕ) (r : Record) → digit_rule r ≡ true → DigitText (char_edge i c r)
unfolding char_edge digit_edge digit_rule
char_digit i c r h d =
    let low = and-true (same r.type digit_type && one_place (char_edge i c r) && has r.value) (leb (or_zero r.value) 9) d in
    let there = and-true (same r.type digit_type && one_place (char_edge i c r)) (has r.value) low.0 in
    let is = (and-true (same r.type digit_type) (one_place (char_edge i c r)) there.0).0 in
    ap (λ (x : Option Text). Option.get_or x (encode c)) (legal_digit_lem r.value r.rom (rw is at h) there.1 low.1)

char_digits : (rs : List Record) → DigitRules rs → (w : List ℕ) (i : ℕ) → Every DigitText (char_edges rs i w)
unfolding char_edges
char_digits rs h [] i = nil
char_digits rs h (c ∷ w) i = go (find rs c) refl (char_digits rs h w (suc i))
  where
    go : (o : Option Record) → find rs c ≡ o → Every DigitText (char_edges rs (suc i) w) → Every DigitText (with_edge i c o (char_edges rs (suc i) w))
    go none e ih = ih
    go (some r) e ih = cons (char_digit i c r (found rs c r h e)) ih

-- of any line, and any table whose records the check accepts: each edge that D1 joins says one number
pub joined_says : (t : Table) (w : List ℕ) → DigitRules t.records → Every Says (added (point_at t w) D1 (decimal_first_list t w))
unfolding added
joined_says t w h = joined_say _ (chains_say (point_at t w) (first_list t w) (char_digits t.records h w 0))

-- value_s is txt, over a point too, where l is `with_point` of the left
pub value_s_is_txt : (l r : NumEdge) → (joined D1 l r).value_s ≡ some (joined D1 l r).txt
unfolding joined over_digits
value_s_is_txt l r = refl
