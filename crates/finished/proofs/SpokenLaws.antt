-- With the plain table the txt of an edge of the passes says its value, so that edges with one key have one value; and an edge of the list after the passes is an edge of
-- a character or a joined one. In order: what a text says; a pass; the passes in turn; the edges after the passes. Assumes nothing.
use Prim.Native.Nat.{ℕ, suc, ◌+◌, ◌*◌, ◌-◌, ◌≤◌}
use mathlib.Core.Path.{◌≡◌, refl, sym, ap, ◌∙◌, subst}
use mathlib.Core.Bool.{Bool, true, false, cond, ◌&&◌, ◌||◌, true≢false}
use mathlib.Core.List.{List, [], ◌∷◌, ◌++◌, map, map-append}
use mathlib.Core.Option.{Option, none, some, some-injective, some-ne-none}
use native.Mathlib.Omega.{arith}
use lib.Dec.{leb}
use borrow.Author.Tests.{leb-true}
use Rattle.text.proofs.RowLaws.{and-true}
use Rattle.text.specs.Bytes.{same}
use Rattle.whole.specs.Decimal.{decimal, digit_of, digits_value}
use Rattle.whole.proofs.DecimalLaws.{decimal_one, digits_from-snoc, digits_value-decimal}
use Rattle.table.specs.Table.{Text}
use Rattle.passes.specs.NumEdge.{NumEdge, or_zero, has}
use Rattle.passes.specs.Passes.{Pass, D1, G1, G2, G3, G4, Chain, begin, touches, digit_edge, digit_type, one_place, d1_rule, rule, over, over_digits, joined, longer, next, chains_of, edges_of, joined_of, after, added, through, added_by, five}
use Rattle.pass_list.specs.StoredEdge.{Every, nil, cons}
use Rattle.pass_list.proofs.in_turn.EveryLaws.{every_append, every_map}
use Rattle.grammar.specs.Plain.{Char}
use Rattle.grammar.proofs.PlainEdges.{plain_edges}
use Rattle.pass_list.proofs.in_turn.Simulation.{chains_every}

-- ---- what a text of digits says, and an edge whose txt says its value
abbrev said : Text → ℕ
said t = digits_value (map digit_of t)

abbrev pub Spoken : NumEdge → Type 0
Spoken e = e.value ≡ some (said e.txt)

-- the txt is the value in decimal, as the plain table's rom has it
abbrev Decimal : NumEdge → Type 0
Decimal e = (v : ℕ) × (e.value ≡ some v) × (e.txt ≡ decimal v)

decimal_spoken : (e : NumEdge) → Decimal e → Spoken e
decimal_spoken e (v, value, txt) = value ∙ ap some (sym (digits_value-decimal v) ∙ ap said (sym txt))

said_more : (t : Text) (d : ℕ) → said (t ++ ((48 + d) ∷ [])) ≡ 10 * said t + d
said_more t d = rw (map-append digit_of t ((48 + d) ∷ []), digits_from-snoc 0 (map digit_of t) (48 + d - 48)) (omega arith)

-- ---- one joined edge
decimals : (p : Pass) (l e : NumEdge) (v : ℕ) (b : Option ℕ) (large : Bool) → Spoken (over p l e v b large)
unfolding over
decimals p l e v b large = ap some (sym (digits_value-decimal v))

digit_small : (e : NumEdge) → digit_edge e ≡ true → or_zero e.value ≤ 9
unfolding digit_edge
digit_small e h = leb-true (or_zero e.value) 9 (and-true (same e.type digit_type && one_place e && has e.value) (leb (or_zero e.value) 9) h).1

digits : (l e : NumEdge) → Spoken l → Decimal e → digit_edge e ≡ true → Spoken (over_digits l e)
unfolding over_digits
digits l e s (v, value, txt) d =
    let small : v ≤ 9 = rw value at (digit_small e d) in
    rw (s, value, txt, decimal_one v (omega arith), said_more l.txt v)

-- what a pass asks of the edges that it reads
abbrev Asked : Pass → NumEdge → Type 0
Asked D1 = Decimal
Asked G1 = Spoken
Asked G2 = Spoken
Asked G3 = Spoken
Asked G4 = Spoken

asked_spoken : (p : Pass) (e : NumEdge) → Asked p e → Spoken e
asked_spoken D1 e h = decimal_spoken e h
asked_spoken G1 e h = h
asked_spoken G2 e h = h
asked_spoken G3 e h = h
asked_spoken G4 e h = h

joined_spoken : (p : Pass) (c : Chain) (e : NumEdge) → Spoken c.edge → Asked p e → rule p c e ≡ true → Spoken (joined p c.edge e)
unfolding joined d1_rule
joined_spoken D1 c e s h r = digits c.edge e s h (and-true (c.more || digit_edge c.edge) (digit_edge e) r).1
joined_spoken G1 c e s h r = decimals G1 c.edge e _ _ _
joined_spoken G2 c e s h r = decimals G2 c.edge e _ _ _
joined_spoken G3 c e s h r = decimals G3 c.edge e _ _ _
joined_spoken G4 c e s h r = decimals G4 c.edge e _ _ _

-- ---- a pass
-- what holds of each edge that begins a chain and of each longer chain holds of each chain
chains_hold : (p : Pass) (Q : NumEdge → Type 0) (R : Chain → Type 0) → ((e : NumEdge) → Q e → R (begin e))
    → ((c : Chain) (e : NumEdge) → R c → Q e → rule p c e ≡ true → R (longer c e (joined p c.edge e))) → (l : List NumEdge) → Every Q l → Every R (chains_of p l)
unfolding chains_of next
chains_hold p Q R first more l h = chains_every begin (next p) Q R first (λ c e d r q n. step c e d r q (touches c e) (rule p c e) refl n) l h
  where
    step : (c : Chain) (e : NumEdge) (d : Chain) → R c → Q e → (t s : Bool) → rule p c e ≡ s → cond (t && s) (some (longer c e (joined p c.edge e))) none ≡ some d → R d
    step c e d r q true true s n = subst R (some-injective (longer c e (joined p c.edge e)) d n) (more c e r q s)
    step c e d r q true false s n = absurd (some-ne-none d (sym n))
    step c e d r q false b s n = absurd (some-ne-none d (sym n))

chains_spoken : (p : Pass) (l : List NumEdge) → Every (Asked p) l → Every (λ (c : Chain). Spoken c.edge) (chains_of p l)
unfolding begin longer
chains_spoken p l h = chains_hold p (Asked p) (λ (c : Chain). Spoken c.edge) (asked_spoken p) (λ c e s q r. joined_spoken p c e s q r) l h

edges_every : (Q : NumEdge → Type 0) (cs : List Chain) → Every (λ (c : Chain). Q c.edge) cs → Every Q (edges_of cs)
edges_every Q [] nil = nil
edges_every Q (c ∷ cs) (cons h hs) = cons h (edges_every Q cs hs)

joined_every : (Q : NumEdge → Type 0) (cs : List Chain) → Every (λ (c : Chain). Q c.edge) cs → Every Q (joined_of cs)
unfolding joined_of
joined_every Q [] nil = nil
joined_every Q (c ∷ cs) (cons h hs) = go c.more (joined_every Q cs hs)
  where
    go : (m : Bool) → Every Q (joined_of cs) → Every Q (cond m (c.edge ∷ joined_of cs) (joined_of cs))
    go true r = cons h r
    go false r = r

after_spoken : (p : Pass) (l : List NumEdge) → Every (Asked p) l → Every Spoken (after p l)
unfolding after
after_spoken p l h = edges_every Spoken (chains_of p l) (chains_spoken p l h)

added_spoken : (p : Pass) (l : List NumEdge) → Every (Asked p) l → Every Spoken (added p l)
unfolding added
added_spoken p l h = joined_every Spoken (chains_of p l) (chains_spoken p l h)

-- ---- the passes in turn
plain_decimal : (i : ℕ) (w : List Char) → Every Decimal (plain_edges i w)
plain_decimal i [] = nil
plain_decimal i (c ∷ w) = cons (_, refl, refl) (plain_decimal (suc i) w)

pub plain_spoken : (w : List Char) → Every Spoken (plain_edges 0 w ++ added_by five (plain_edges 0 w))
unfolding added_by
plain_spoken w =
    let l = plain_edges 0 w in
    let d = plain_decimal 0 w in
    let a = after_spoken D1 l d in
    let b = after_spoken G1 (after D1 l) a in
    let c = after_spoken G2 (after G1 (after D1 l)) b in
    let e = after_spoken G3 (after G2 (after G1 (after D1 l))) c in
    every_append Spoken _ _ (every_map Decimal Spoken decimal_spoken l d)
    (every_append Spoken _ _ (added_spoken D1 l d)
    (every_append Spoken _ _ (added_spoken G1 _ a)
    (every_append Spoken _ _ (added_spoken G2 _ b)
    (every_append Spoken _ _ (added_spoken G3 _ c)
    (every_append Spoken _ _ (added_spoken G4 _ e) nil)))))

-- ---- the edges after the passes: what holds of the first and of the joined ones holds of them
module _ (Q : NumEdge → Type 0) where
  abbrev Single : Chain → Type 0
  Single c = c.more ≡ false → Q c.edge

  edges_of_lem : (cs : List Chain) → Every Single cs → Every Q (joined_of cs) → Every Q (edges_of cs)
  unfolding joined_of
  edges_of_lem [] nil h = nil
  edges_of_lem (c ∷ cs) (cons s ss) h = go c.more refl h (edges_of_lem cs ss)
    where
      go : (m : Bool) → c.more ≡ m → Every Q (cond m (c.edge ∷ joined_of cs) (joined_of cs)) → (Every Q (joined_of cs) → Every Q (edges_of cs)) → Every Q (edges_of (c ∷ cs))
      go true m (cons q qs) more = cons q (more qs)
      go false m qs more = cons (s m) (more qs)

  after_every : (p : Pass) (l : List NumEdge) → Every Q l → Every Q (added p l) → Every Q (after p l)
  unfolding after added begin longer
  after_every p l h j = edges_of_lem (chains_of p l) (chains_hold p Q Single (λ e q m. q) (λ c e s q r m. absurd (true≢false m)) l h) j

  every_left : (l m : List NumEdge) → Every Q (l ++ m) → Every Q l
  every_left [] m h = nil
  every_left (e ∷ l) m (cons q h) = cons q (every_left l m h)

  every_right : (l m : List NumEdge) → Every Q (l ++ m) → Every Q m
  every_right [] m h = h
  every_right (e ∷ l) m (cons q h) = every_right l m h

  through_every : (ps : List Pass) (l : List NumEdge) → Every Q l → Every Q (added_by ps l) → Every Q (through ps l)
  unfolding through added_by
  through_every [] l h j = h
  through_every (p ∷ ps) l h j =
      through_every ps (after p l) (after_every p l h (every_left (added p l) (added_by ps (after p l)) j)) (every_right (added p l) (added_by ps (after p l)) j)

  pub last_every : (ps : List Pass) (l : List NumEdge) → Every Q (l ++ added_by ps l) → Every Q (through ps l)
  last_every ps l h = through_every ps l (every_left l (added_by ps l) h) (every_right l (added_by ps l) h)
