-- A line that is one valued edge after the fifth pass is made of characters that numerals are made of: no pass finds a place that had no edge, so that each character
-- has a record; and an edge of the fourth kind of records joins no other, so that none is of that kind.
-- In order: places; edges that join no other; edges with a value; the line.
use Prim.Native.Nat.{ℕ, suc, ◌+◌, ◌*◌, ◌/◌, ◌≤◌}
use mathlib.Core.Path.{◌≡◌, refl, sym, ◌∙◌}
use mathlib.Core.Bool.{Bool, true, false, ◌&&◌, ◌||◌, not, cond, and-false, true≢false, false≢true}
use mathlib.Core.List.{List, [], ◌∷◌}
use mathlib.Core.Option.{Option, none, some, some-ne-none, some-injective}
use native.Mathlib.Omega.{arith}
use lib.Dec.{leb, ltb, eqb}
use lib.ListN.{length}
use Rattle.text.specs.Bytes.{same}
use Rattle.table.specs.Table.{Record, find}
use Rattle.passes.specs.NumEdge.{NumEdge, or_zero, has}
use Rattle.passes.specs.Characters.{char_edge, with_edge, char_edges}
use Rattle.passes.specs.Chains.{from, chains}
use Rattle.passes.specs.Passes.{Pass, D1, G1, G2, G3, G4, Chain, digit_type, gap, one_place, begin, longer, touches, digit_edge, d1_rule, g1_rule, g2_rule, g3_rule, g4_rule, exceeds, under, retags, is_script, cjk, power_of_ten, counted_value, counted_base, rule, joins, over, over_digits, joined, next, chains_of, edges_of, after, through}
use Rattle.passes.proofs.ChainsLaws.{from_none, from_some}
use Rattle.passes.proofs.ChainsAlike.{Each, each_map, chains_ends}
use Rattle.table_grammar.proofs.ChainParts.{OnSome, on_cond}
use Rattle.table_grammar.proofs.Tests.{true_le, and_left, and_right, eqb-true}
use Rattle.table_grammar.specs.Kinds.{Char, all_valued, char_by, char_of, chars_of, digit_record, large_record, other_record, regular_record, regular_records, unit_record}
use Rattle.table_grammar.proofs.KindLaws.{not-true, not_le, found_code, gap_char_lem}

-- ---- places: a list's edges cover as many after a pass as before

-- n places are covered
abbrev Covers : List NumEdge → ℕ → Type 0
Covers [] n = n ≡ 0
Covers (e ∷ l) n = (k m : ℕ) × (e.end ≡ e.start + k) × Covers l m × (n ≡ k + m)

joined_span : (p : Pass) (l r : NumEdge) → ((joined p l r).start ≡ l.start) × ((joined p l r).end ≡ r.end)
unfolding joined over over_digits
joined_span D1 l r = (refl, refl)
joined_span G1 l r = (refl, refl)
joined_span G2 l r = (refl, refl)
joined_span G3 l r = (refl, refl)
joined_span G4 l r = (refl, refl)

abbrev Grows : Chain → NumEdge → Chain → Type 0
Grows c e d = (d.edge.start ≡ c.edge.start) × (d.edge.end ≡ e.end) × (c.edge.end ≡ e.start)

next_grows : (p : Pass) (c : Chain) (e : NumEdge) → OnSome (Grows c e) (next p c e)
unfolding next longer
next_grows p c e =
    on_cond (Grows c e) (joins p c e) (longer c e (joined p c.edge e))
    (λ h. ((joined_span p c.edge e).0, (joined_span p c.edge e).1, eqb-true _ _ (and_left (touches c e) (rule p c e) h)))

covers_from : (p : Pass) (l : List NumEdge) (c : Chain) (k m : ℕ) → c.edge.end ≡ c.edge.start + k → Covers l m → Covers (edges_of (from begin (next p) c l)) (k + m)
unfolding from begin
covers_from p [] c k m h z = (k, 0, h, refl, rw z)
covers_from p (e ∷ l) c k m h (j, i, g, z, s) = go (next p c e) refl (next_grows p c e) (covers_from p l)
  where
    go : (o : Option Chain) → next p c e ≡ o → OnSome (Grows c e) o
        → ((c : Chain) (k m : ℕ) → c.edge.end ≡ c.edge.start + k → Covers l m → Covers (edges_of (from begin (next p) c l)) (k + m))
        → Covers (edges_of (from begin (next p) c (e ∷ l))) (k + m)
    go none q r ih = rw (from_none begin (next p) c e l q) (k, m, h, rw s (ih (begin e) j i g z), refl)
    go (some d) q r ih =
        let f : (k + j) + i ≡ k + m = omega arith in
        rw (from_some begin (next p) c d e l q) (rw f at (ih d (k + j) i (rw (r.0, r.1) (omega (arith, r.2))) z))

covers_after : (p : Pass) (l : List NumEdge) (n : ℕ) → Covers l n → Covers (after p l) n
unfolding after chains_of chains begin
covers_after p [] n h = h
covers_after p (e ∷ l) n (k, m, h, z, s) = rw s (covers_from p l (begin e) k m h z)

covers_through : (ps : List Pass) (l : List NumEdge) (n : ℕ) → Covers l n → Covers (through ps l) n
unfolding through
covers_through [] l n h = h
covers_through (p ∷ ps) l n h = covers_through ps (after p l) n (covers_after p l n h)

-- how many characters have a record
abbrev mark : Option Record → ℕ
mark none = 0
mark (some r) = 1

abbrev known : List Record → List ℕ → ℕ
known rs [] = 0
known rs (c ∷ w) = mark (find rs c) + known rs w

covers_line : (rs : List Record) (w : List ℕ) (i : ℕ) → Covers (char_edges rs i w) (known rs w)
unfolding char_edges char_edge
covers_line rs [] i = refl
covers_line rs (c ∷ w) i = go (find rs c) (covers_line rs w (suc i))
  where
    go : (o : Option Record) → Covers (char_edges rs (suc i) w) (known rs w) → Covers (with_edge i c o (char_edges rs (suc i) w)) (mark o + known rs w)
    go none ih = let z : known rs w ≡ 0 + known rs w = omega arith in rw z at ih
    go (some r) ih = (1, known rs w, omega arith, ih, refl)

known_le : (rs : List Record) (w : List ℕ) → known rs w ≤ length w
known_le rs [] = omega arith
known_le rs (c ∷ w) = go (find rs c) (known_le rs w)
  where
    go : (o : Option Record) → known rs w ≤ length w → mark o + known rs w ≤ suc (length w)
    go none h = omega arith
    go (some r) h = omega arith

-- ---- edges that join no other
abbrev is_loner : NumEdge → Bool
is_loner e = not (has e.value) && (leb (or_zero e.base) 1 || e.large_power) && not (gap e)

abbrev some_loner : List NumEdge → Bool
some_loner [] = false
some_loner (e ∷ l) = is_loner e || some_loner l

valued_joins : (e : NumEdge) → has e.value ≡ true → is_loner e ≡ false
valued_joins e h = rw h

or-true : (b : Bool) → b || true ≡ true
or-true true = refl
or-true false = refl

-- a joined edge has a value
abbrev Valued : Chain → Type 0
Valued c = has c.edge.value ≡ true

abbrev JoinedValued : Chain → Type 0
JoinedValued c = c.more ≡ true → Valued c

joined_valued : (p : Pass) (l r : NumEdge) → has (joined p l r).value ≡ true
unfolding joined over over_digits
joined_valued D1 l r = refl
joined_valued G1 l r = refl
joined_valued G2 l r = refl
joined_valued G3 l r = refl
joined_valued G4 l r = refl

has_pos : (o : Option ℕ) → leb 1 (or_zero o) ≡ true → has o ≡ true
has_pos none h = h
has_pos (some v) h = refl

digit_valued : (e : NumEdge) → digit_edge e ≡ true → has e.value ≡ true
unfolding digit_edge
digit_valued e h = and_right (same e.type digit_type && one_place e) _ (and_left _ _ h)

-- what a rule joins is no loner, on the left and on the right
left_joins : (p : Pass) (c : Chain) (e : NumEdge) → JoinedValued c → rule p c e ≡ true → is_loner c.edge ≡ false
unfolding d1_rule g1_rule g2_rule g3_rule g4_rule
left_joins D1 c e i h = valued_joins c.edge (go c.more i (and_left _ _ h))
  where
    go : (m : Bool) → (m ≡ true → Valued c) → m || digit_edge c.edge ≡ true → Valued c
    go true i k = i refl
    go false i k = digit_valued c.edge k
left_joins G1 c e i h =
    valued_joins c.edge (has_pos c.edge.value (and_right (not c.more && eqb (or_zero c.edge.base) 1) _ (and_left _ _ (and_left _ _ h))))
left_joins G2 c e i h = valued_joins c.edge (and_left _ _ (and_left _ _ (and_left _ _ h)))
left_joins G3 c e i h = valued_joins c.edge (and_right (not c.more) _ (and_left _ _ (and_left _ _ (and_left _ _ h))))
left_joins G4 c e i h = valued_joins c.edge (and_left _ _ h)

factor_joins : (e : NumEdge) → ltb 1 (or_zero e.base) ≡ true → e.large_power ≡ false → is_loner e ≡ false
factor_joins e h k = rw (k, not_le (or_zero e.base) 1 (true_le 2 (or_zero e.base) h), and-false (not (has e.value)))

exceeded_joins : (n : Option ℕ) (e : NumEdge) → exceeds n e.value e.base (gap e) ≡ true → is_loner e ≡ false
exceeded_joins n e h = go n e.value refl h
  where
    no_value : gap e ≡ true → is_loner e ≡ false
    no_value g = rw (g, and-false (not (has e.value) && (leb (or_zero e.base) 1 || e.large_power)))

    go : (n o : Option ℕ) → e.value ≡ o → exceeds n o e.base (gap e) ≡ true → is_loner e ≡ false
    go none none k h = no_value h
    go (some n) none k h = no_value h
    go n (some v) k h = rw k

counted_joins : (n : ℕ) (l e : NumEdge) → under n (counted_value l e) (counted_base l e) ≡ true → has e.value ≡ true
unfolding counted_value counted_base retags
counted_joins n l e h = go (retags l e) refl h
  where
    there : (o b : Option ℕ) → under n o b ≡ true → has o ≡ true
    there none b h = h
    there (some v) b h = refl

    go : (t : Bool) → retags l e ≡ t
        → under n (cond t (some (or_zero e.value * (or_zero l.base / 10))) e.value) (cond t (some (or_zero l.base / 10)) e.base) ≡ true → has e.value ≡ true
    go true k h =
        has_pos e.value
        (and_right (is_script l.script cjk && leb 1000 (or_zero l.base) && power_of_ten (or_zero l.base) && one_place e) _ (and_left _ _ k))
    go false k h = there e.value e.base h

right_joins : (p : Pass) (c : Chain) (e : NumEdge) → rule p c e ≡ true → is_loner e ≡ false
unfolding d1_rule g1_rule g2_rule g3_rule g4_rule
right_joins D1 c e h = valued_joins e (digit_valued e (and_right (c.more || digit_edge c.edge) _ h))
right_joins G1 c e h =
    factor_joins e (and_right (not c.more && eqb (or_zero c.edge.base) 1 && leb 1 (or_zero c.edge.value)) _ (and_left _ _ h))
    (not-true _ (and_right (not c.more && eqb (or_zero c.edge.base) 1 && leb 1 (or_zero c.edge.value) && ltb 1 (or_zero e.base)) _ h))
right_joins G2 c e h = exceeded_joins c.near e (and_right (has c.edge.value && not c.edge.large_power && not e.large_power) _ h)
right_joins G3 c e h = valued_joins e (and_right (not c.more && has c.edge.value && not c.edge.large_power) _ (and_left _ _ h))
right_joins G4 c e h = valued_joins e (counted_joins (or_zero c.edge.base) c.edge e (and_right (has c.edge.value) _ h))

abbrev Apart : Chain → NumEdge → Chain → Type 0
Apart c e d = (is_loner c.edge ≡ false) × (is_loner e ≡ false) × JoinedValued d

next_apart : (p : Pass) (c : Chain) (e : NumEdge) → JoinedValued c → OnSome (Apart c e) (next p c e)
unfolding next longer
next_apart p c e i =
    on_cond (Apart c e) (joins p c e) (longer c e (joined p c.edge e))
    (λ h. let r : rule p c e ≡ true = and_right (touches c e) _ h in (left_joins p c e i r, right_joins p c e r, λ _. joined_valued p c.edge e))

loner_from : (p : Pass) (l : List NumEdge) (c : Chain) → JoinedValued c → is_loner c.edge || some_loner l ≡ true → some_loner (edges_of (from begin (next p) c l)) ≡ true
unfolding from begin
loner_from p [] c i h = h
loner_from p (e ∷ l) c i h = go (next p c e) refl (next_apart p c e i) (loner_from p l)
  where
    stop : (b : Bool) → b || some_loner (e ∷ l) ≡ true → (some_loner (e ∷ l) ≡ true → some_loner (edges_of (from begin (next p) (begin e) l)) ≡ true)
        → b || some_loner (edges_of (from begin (next p) (begin e) l)) ≡ true
    stop true h f = refl
    stop false h f = f h

    go : (o : Option Chain) → next p c e ≡ o → OnSome (Apart c e) o
        → ((c : Chain) → JoinedValued c → is_loner c.edge || some_loner l ≡ true → some_loner (edges_of (from begin (next p) c l)) ≡ true)
        → some_loner (edges_of (from begin (next p) c (e ∷ l))) ≡ true
    go none q r ih = rw (from_none begin (next p) c e l q) (stop (is_loner c.edge) h (λ k. ih (begin e) (λ z. absurd (false≢true z)) k))
    go (some d) q r ih =
        let k : some_loner l ≡ true = rw (r.0, r.1) at h in
        rw (from_some begin (next p) c d e l q) (ih d r.2 (rw k (or-true (is_loner d.edge))))

loner_after : (p : Pass) (l : List NumEdge) → some_loner l ≡ true → some_loner (after p l) ≡ true
unfolding after chains_of chains begin
loner_after p [] h = h
loner_after p (e ∷ l) h = loner_from p l (begin e) (λ z. absurd (false≢true z)) h

loner_through : (ps : List Pass) (l : List NumEdge) → some_loner l ≡ true → some_loner (through ps l) ≡ true
unfolding through
loner_through [] l h = h
loner_through (p ∷ ps) l h = loner_through ps (after p l) (loner_after p l h)

-- ---- the line: each character has a record, and none is of the fourth kind
has_kind : (r : Record) (a b c : Bool) (p : digit_record r ≡ a) (q : unit_record r ≡ b) (s : large_record r ≡ c) → a || b || c || other_record r ≡ true → other_record r ≡ false
    → (x : Char) × (char_by r a b c p q s ≡ some x)
has_kind r true b c p q s h k = (_, refl)
has_kind r false true c p q s h k = (_, refl)
has_kind r false false true p q s h k = (_, refl)
has_kind r false false false p q s h k = absurd (true≢false (sym h ∙ k))

or-false : (a b : Bool) → a || b ≡ false → (a ≡ false) × (b ≡ false)
or-false true b h = absurd (true≢false h)
or-false false b h = (refl, h)

-- a record of the fourth kind gives such an edge
other_loner : (rs : List Record) (i c : ℕ) (r : Record) → find rs c ≡ some r → is_loner (char_edge i c r) ≡ other_record r
unfolding char_edge gap
other_loner rs i c r h = rw (gap_char_lem c, found_code rs c r h)

found_regular : (rs : List Record) (c : ℕ) (r : Record) → regular_records rs ≡ true → find rs c ≡ some r → regular_record r ≡ true
unfolding find
found_regular [] c r h e = absurd (some-ne-none r (sym e))
found_regular (q ∷ rs) c r h e = go (eqb q.code_point c) (found_regular rs c r (and_right (regular_record q) _ h)) e
  where
    go : (b : Bool) → (find rs c ≡ some r → regular_record r ≡ true) → cond b (some q) (find rs c) ≡ some r → regular_record r ≡ true
    go true ih e = rw (← (some-injective q r e)) (and_left (regular_record q) _ h)
    go false ih e = ih e

put_chars : (rs : List Record) (c : ℕ) (w : List ℕ) (r : Record) (x : Char) (s : List Char) → find rs c ≡ some r → char_of r ≡ some x → chars_of rs w ≡ some s → chars_of rs (c ∷ w) ≡ some (x ∷ s)
put_chars rs c w r x s e f g = rw (e, f, g)

all_known : (rs : List Record) → regular_records rs ≡ true → (w : List ℕ) (i : ℕ) → known rs w ≡ length w → some_loner (char_edges rs i w) ≡ false → (s : List Char) × (chars_of rs w ≡ some s)
unfolding char_edges
all_known rs g [] i k d = ([], refl)
all_known rs g (c ∷ w) i k d = go (find rs c) refl (all_known rs g w (suc i)) k d
  where
    go : (o : Option Record) → find rs c ≡ o → (known rs w ≡ length w → some_loner (char_edges rs (suc i) w) ≡ false → (s : List Char) × (chars_of rs w ≡ some s))
        → mark o + known rs w ≡ suc (length w) → some_loner (with_edge i c o (char_edges rs (suc i) w)) ≡ false → (s : List Char) × (chars_of rs (c ∷ w) ≡ some s)
    go none e ih k d = absurd (omega (arith, known_le rs w))
    go (some r) e ih k d =
        let (u, v) = or-false (is_loner (char_edge i c r)) _ d in
        let (x, f) = has_kind r _ _ _ refl refl refl (found_regular rs c r g e) (sym (other_loner rs i c r e) ∙ u) in
        let (s, h) = ih (omega arith) v in
        (x ∷ s, put_chars rs c w r x s e f h)

pub spelled : (ps : List Pass) (rs : List Record) (w : List ℕ) (e : NumEdge) → regular_records rs ≡ true → through ps (char_edges rs 0 w) ≡ e ∷ [] → e.start ≡ 0 → e.end ≡ length w
    → has e.value ≡ true → (s : List Char) × (chars_of rs w ≡ some s)
spelled ps rs w e g l a b v =
    let (k, m, c, z, s) = rw l at (covers_through ps (char_edges rs 0 w) (known rs w) (covers_line rs w 0)) in
    all_known rs g w 0 (omega arith) (go (some_loner (char_edges rs 0 w)) refl)
  where
    go : (d : Bool) → some_loner (char_edges rs 0 w) ≡ d → some_loner (char_edges rs 0 w) ≡ false
    go true q = let f : is_loner e || false ≡ true = rw l at (loner_through ps (char_edges rs 0 w) q) in absurd (true≢false (sym f ∙ rw (valued_joins e v)))
    go false q = q

-- ---- where each record has a value, so has each edge
abbrev ValuedEdge : NumEdge → Type 0
ValuedEdge e = has e.value ≡ true

valued_begin : (e : NumEdge) → ValuedEdge e → Valued (begin e)
unfolding begin
valued_begin e h = h

valued_next : (p : Pass) (c t : Chain) (e : NumEdge) → Valued c → ValuedEdge e → next p c e ≡ some t → Valued t
unfolding next longer
valued_next p c t e h k q = go (joins p c e) q
  where
    go : (b : Bool) → cond b (some (longer c e (joined p c.edge e))) none ≡ some t → Valued t
    go true q = rw (← (some-injective (longer c e (joined p c.edge e)) t q)) (joined_valued p c.edge e)
    go false q = absurd (some-ne-none t (sym q))

valued_through : (ps : List Pass) (l : List NumEdge) → Each ValuedEdge l → Each ValuedEdge (through ps l)
unfolding through after chains_of
valued_through [] l h = h
valued_through (p ∷ ps) l h =
    valued_through ps (edges_of (chains begin (next p) l))
    (each_map Valued ValuedEdge (λ c. c.edge) (λ c k. k) (chains begin (next p) l) (chains_ends begin (next p) ValuedEdge Valued valued_begin (valued_next p) l h))

found_valued : (rs : List Record) (c : ℕ) (r : Record) → all_valued rs ≡ true → find rs c ≡ some r → has r.value ≡ true
unfolding find
found_valued [] c r h e = absurd (some-ne-none r (sym e))
found_valued (q ∷ rs) c r h e = go (eqb q.code_point c) (found_valued rs c r (and_right (has q.value) _ h)) e
  where
    go : (b : Bool) → (find rs c ≡ some r → has r.value ≡ true) → cond b (some q) (find rs c) ≡ some r → has r.value ≡ true
    go true ih e = rw (← (some-injective q r e)) (and_left (has q.value) _ h)
    go false ih e = ih e

valued_line : (rs : List Record) → all_valued rs ≡ true → (w : List ℕ) (i : ℕ) → Each ValuedEdge (char_edges rs i w)
unfolding char_edges char_edge
valued_line rs v [] i = tt
valued_line rs v (c ∷ w) i = go (find rs c) refl (valued_line rs v w (suc i))
  where
    go : (o : Option Record) → find rs c ≡ o → Each ValuedEdge (char_edges rs (suc i) w) → Each ValuedEdge (with_edge i c o (char_edges rs (suc i) w))
    go none e ih = ih
    go (some r) e ih = (found_valued rs c r v e, ih)

pub one_valued : (ps : List Pass) (rs : List Record) (w : List ℕ) (e : NumEdge) → all_valued rs ≡ true → through ps (char_edges rs 0 w) ≡ e ∷ [] → has e.value ≡ true
one_valued ps rs w e v l = (rw l at (valued_through ps (char_edges rs 0 w) (valued_line rs v w 0))).0
