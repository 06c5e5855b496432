-- Laws of classes, scores and the best edge (`specs/Best.antt`), for this crate's proofs and its callers'. No contract cites this file.
-- In order: prefixes; classes; scores; edges within their listing; what holds of each edge, and of the best; the walk that ends with the best; its turns over a
-- listing. Assumes nothing.
use mathlib.Core.Path.{◌≡◌, refl, sym, ap, ◌∙◌}
use mathlib.Core.Bool.{Bool, true, false, cond, not, ◌||◌, true≢false}
use mathlib.Core.List.{List, [], ◌∷◌, ◌++◌}
use mathlib.Core.Option.{Option, none, some}
use Prim.Native.Nat.{ℕ, suc, ◌+◌, ◌-◌, ◌*◌, ◌≤◌, ◌<◌, max}
use native.Mathlib.Nat.{max-le, max-eq_left, max-eq_right}
use native.Mathlib.Omega.{arith}
use lib.ListN.{length, take}
use lib.Dec.{eqb, ltb}
use lib.Pointwise.{pointwise}
use borrow.Author.Tests.{lt-ltb, le-ltb, ltb-true, ltb-false, eq-eqb, ne_eqb, eqb-true, not-true, not-false}
use Rattle.text.specs.Bytes.{same}
use Rattle.text.proofs.RowLaws.{cond_cases}
use Rattle.fields.specs.Part.{part_of}
use Rattle.fields.specs.Fields.{le_at}
use Rattle.edge.specs.declared.EdgeView.{EdgeView}
use Rattle.edge.specs.Edge.{Text, Numeric, Edge}
use Rattle.edge.specs.Layout.{stands, map_at, text_at, numeric_at, txt_at, head_end, next_at, edge_at}
use Rattle.edge.specs.View.{view_at}
use Rattle.edge.proofs.LayoutLaws.{string_end_ge}
use Rattle.edge.proofs.CheckLaws.{head_within, map_within}
use Rattle.text.specs.declared.Place.{Place}
use Rattle.text.specs.declared.Offset.{Offset}
use Rattle.paths.specs.declared.Query.{Query}
use Rattle.paths.specs.declared.Query.TheVariants.{Right}
use Rattle.paths.specs.Best.{starts_with, rom, rom_decomp, num, regular_class, class_by, class, asked, rank, score, Best, highest, first_of, best, with_offsets, Whole, found, kept}
use Rattle.std.specs.Prelude.{Some, None}
use Rattle.std.specs.Prelude as std

-- ---- prefixes
eqb_swap : (m n : ℕ) → eqb m n ≡ eqb n m
eqb_swap m n = by (eqb m n) refl
  where
    by : (t : Bool) → eqb m n ≡ t → t ≡ eqb n m
    by true e = sym (eq-eqb n m (sym (eqb-true m n e)))
    by false e = sym (ne_eqb n m (λ h. true≢false (sym (eq-eqb m n (sym h)) ∙ e)))

same_pointwise : (p q : List ℕ) → pointwise eqb p q ≡ same q p
unfolding same
same_pointwise [] [] = refl
same_pointwise [] (y ∷ q) = refl
same_pointwise (x ∷ p) [] = refl
same_pointwise (x ∷ p) (y ∷ q) = rw (eqb_swap x y, same_pointwise p q)

-- what std's `starts_with` of slices answers
pub begins : (t p : Text) → pointwise eqb p (take (length p) t) ≡ starts_with t p
unfolding starts_with
begins t p = same_pointwise p (take (length p) t)

-- ---- classes
module _ (ty : Text) where
  pub class_decomp : starts_with ty rom_decomp ≡ true → 3 ≡ regular_class ty
  unfolding regular_class
  class_decomp d = rw d

  pub class_named : starts_with ty rom_decomp ≡ false → (starts_with ty rom || starts_with ty num) ≡ true → 4 ≡ regular_class ty
  unfolding regular_class
  class_named d r = rw (d, r)

  pub class_other : starts_with ty rom_decomp ≡ false → (starts_with ty rom || starts_with ty num) ≡ false → 2 ≡ regular_class ty
  unfolding regular_class
  class_other d r = rw (d, r)

cond_le : (b : Bool) {x y n : ℕ} → x ≤ n → y ≤ n → cond b x y ≤ n
cond_le true h k = h
cond_le false h k = k

pub class_le : (skip : Bool) (e : Edge) {c : ℕ} → c ≡ class skip e → c ≤ 5
unfolding class regular_class
class_le skip e h = rw h (by_kind e.num)
  where
    by_kind : (n : Option Numeric) → class_by skip e.type n ≤ 5
    by_kind none = cond_le (starts_with e.type rom_decomp) (omega arith) (cond_le (starts_with e.type rom || starts_with e.type num) (omega arith) (omega arith))
    by_kind (some d) = cond_le skip (omega arith) (cond_le d.active (omega arith) (omega arith))

-- the class of the edge at an offset, by its head
module _ (s : List ℕ) (at : ℕ) (skip : Bool) {e : EdgeView} (head : e ≡ view_at s at) {numeric : Bool} (bit-0 : numeric ≡ stands 0 e.map) where
  pub class_regular : {r : ℕ} → not numeric ≡ true → r ≡ regular_class (part_of s e.ty) → r ≡ class skip (edge_at s at)
  unfolding class edge_at view_at text_at
  class_regular off c = let z : stands 0 (map_at s at) ≡ false = sym (bit-0 ∙ rw head) ∙ not-true numeric off in rw z (c ∙ rw head)

  module _ (on : not numeric ≡ false) where
    is_numeric_lem : stands 0 (map_at s at) ≡ true
    unfolding view_at
    is_numeric_lem = sym (bit-0 ∙ rw head) ∙ not-false numeric on

    pub class_skipped : skip ≡ true → 0 ≡ class skip (edge_at s at)
    unfolding class edge_at
    class_skipped k = rw (is_numeric_lem, k)

    module _ (k : skip ≡ false) {active : Bool} (bit-7 : active ≡ stands 7 e.map) where
      is_active_lem : stands 7 (map_at s at) ≡ active
      unfolding view_at
      is_active_lem = sym (bit-7 ∙ rw head)

      pub class_active : active ≡ true → 5 ≡ class skip (edge_at s at)
      unfolding class edge_at numeric_at
      class_active a = rw (is_numeric_lem, k, is_active_lem, a)

      pub class_inactive : active ≡ false → 1 ≡ class skip (edge_at s at)
      unfolding class edge_at numeric_at
      class_inactive a = rw (is_numeric_lem, k, is_active_lem, a)

-- ---- scores
module _ (skip : Bool) (q : Query) (e : Edge) where
  pub score_not_asked : asked q e.start e.end ≡ false → 0 ≡ score skip q e
  unfolding score
  score_not_asked a = rw a

  module _ (a : asked q e.start e.end ≡ true) {c : ℕ} (is : c ≡ class skip e) where
    pub score_never : c ≡ 0 → 0 ≡ score skip q e
    unfolding score
    score_never z = rw (a, ← is, z)

    pub score_asked : {l : ℕ} → (c ≡ 0 → ⊥) → l ≡ e.end - e.start → l * 8 + c ≡ score skip q e
    unfolding score
    score_asked n d = rw (a, ← is, ne_eqb c 0 n, d)

-- the span of the edge at an offset
module _ (s : List ℕ) (at : ℕ) {a z : ℕ} (start : a ≡ le_at s (at + 2) 2) (end : z ≡ le_at s (at + 4) 2) where
  pub asked_at : (q : Query) {b : Bool} → b ≡ asked q a z → b ≡ asked q (edge_at s at).start (edge_at s at).end
  unfolding edge_at
  asked_at q t = t ∙ rw (start, end)

  pub places_at : z - a ≡ (edge_at s at).end - (edge_at s at).start
  unfolding edge_at
  places_at = rw (start, end)

-- ---- edges within their listing
module _ (s : List ℕ) (at k : ℕ) (h : 0 < k) (w : Whole k s at) where
  one_left : k ≡ suc (k - 1)
  one_left = omega arith

  step : Whole (suc (k - 1)) s at
  step = rw (← one_left) w

  pub whole_next : Whole (k - 1) s (next_at s at)
  unfolding Whole
  whole_next = step.1

  pub whole_end : next_at s at ≤ length s
  unfolding Whole
  whole_end = step.0

  pub whole_head : head_end s at ≤ length s
  whole_head = head_within s at (length s) whole_end

  pub whole_at : at ≤ length s
  whole_at = omega (arith, map_within s at (length s) whole_end)

-- the head of an edge has ten bytes besides its texts
pub head_bytes_lem : (s : List ℕ) (at n : ℕ) → next_at s at ≤ n → at + 10 ≤ n
head_bytes_lem s at n h = omega (arith, head_within s at n h, string_end_ge s (at + 6), string_end_ge s (txt_at s at))

-- ---- what holds of each edge
abbrev pub Each : (ℕ × Edge → Type 0) → List (ℕ × Edge) → Type 0
Each P [] = Unit {0}
Each P (x ∷ xs) = P x × Each P xs

pub each_map : (P Q : ℕ × Edge → Type 0) → ((x : ℕ × Edge) → P x → Q x) → (xs : List (ℕ × Edge)) → Each P xs → Each Q xs
each_map P Q f [] e = tt
each_map P Q f (x ∷ xs) e = (f x e.0, each_map P Q f xs e.1)

pub each_append : (P : ℕ × Edge → Type 0) (xs ys : List (ℕ × Edge)) → Each P xs → Each P ys → Each P (xs ++ ys)
each_append P [] ys e f = f
each_append P (x ∷ xs) ys e f = (e.0, each_append P xs ys e.1 f)

-- and of the best, which is one of them
abbrev pub OfBest : (ℕ × Edge → Type 0) → Best → Type 0
OfBest P none = Unit {0}
OfBest P (some x) = P x

pub hold_more : (P Q : ℕ × Edge → Type 0) (b : Best) → ((x : ℕ × Edge) → P x → Q x) → OfBest P b → OfBest Q b
hold_more P Q none f h = tt
hold_more P Q (some x) f h = f x h

module _ (skip : Bool) (q : Query) where
  first_holds : (P : ℕ × Edge → Type 0) (v : ℕ) (xs : List (ℕ × Edge)) → Each P xs → OfBest P (first_of skip q v xs)
  unfolding first_of
  first_holds P v [] e = tt
  first_holds P v (x ∷ xs) e = cond_cases (OfBest P) (eqb (score skip q x.1) v) (λ t. e.0) (λ t. first_holds P v xs e.1)

  first_scores : (v : ℕ) (xs : List (ℕ × Edge)) → OfBest (λ x. score skip q x.1 ≡ v) (first_of skip q v xs)
  unfolding first_of
  first_scores v [] = tt
  first_scores v (x ∷ xs) =
      cond_cases (OfBest (λ y. score skip q y.1 ≡ v)) (eqb (score skip q x.1) v) (λ t. eqb-true (score skip q x.1) v t) (λ t. first_scores v xs)

  pub best_holds : (P : ℕ × Edge → Type 0) (xs : List (ℕ × Edge)) → Each P xs → OfBest P (best skip q xs)
  unfolding best
  best_holds P xs e = cond_cases (OfBest P) (ltb 0 (highest skip q xs)) (λ t. first_holds P (highest skip q xs) xs e) (λ t. tt)

  -- the best scores above 0, so it is one of those asked for
  pub best_positive : (xs : List (ℕ × Edge)) → OfBest (λ x. 0 < score skip q x.1) (best skip q xs)
  unfolding best
  best_positive xs =
      let v = highest skip q xs in
      cond_cases (OfBest (λ x. 0 < score skip q x.1)) (ltb 0 v)
      (λ t. hold_more (λ x. score skip q x.1 ≡ v) (λ x. 0 < score skip q x.1) (first_of skip q v xs) (λ x e. rw e (ltb-true 0 v t)) (first_scores v xs)) (λ t. tt)

pub score_asks : (skip : Bool) (q : Query) (e : Edge) → 0 < score skip q e → asked q e.start e.end ≡ true
unfolding score
score_asks skip q e = by_asked (asked q e.start e.end) refl
  where
    by_asked : (t : Bool) → asked q e.start e.end ≡ t → 0 < cond t (rank (class skip e) (e.end - e.start)) 0 → asked q e.start e.end ≡ true
    by_asked true t h = t
    by_asked false t h = absurd (omega arith)

pub right_start : (p : Place) (a z : ℕ) → asked (Right p) a z ≡ true → a ≡ p.0
unfolding asked
right_start p a z t = eqb-true a p.0 t

pub right_elsewhere : (skip : Bool) (p : ℕ) (e : Edge) → (p ≡ e.start → ⊥) → 0 ≡ score skip (Right (record { 0 = p })) e
unfolding asked
right_elsewhere skip p e n = score_not_asked skip (Right (record { 0 = p })) e (ne_eqb e.start p (λ h. n (sym h)))

-- ---- a walk that keeps the best of the edges seen: an edge takes the place of the one held where it scores higher
abbrev pub scored : Bool → Query → Best → ℕ
scored skip q none = 0
scored skip q (some x) = score skip q x.1

abbrev pub better : Bool → Query → Best → ℕ × Edge → Best
better skip q held x = cond (ltb (scored skip q held) (score skip q x.1)) (some x) held

unfoldable pub best_from : Bool → Query → Best → List (ℕ × Edge) → Best
best_from skip q held [] = held
best_from skip q held (x ∷ xs) = best_from skip q (better skip q held x) xs

-- a turn: held scores v, the edge here s, and h is the highest score of the later ones, of which m is first by score
module _ {A : Type 0} (v s h : ℕ) (held here : A) (later : ℕ → A) where
  abbrev with_here : A
  with_here = cond (ltb v (max s h)) (cond (eqb s (max s h)) here (later (max s h))) held

  here_taken : v < s → cond (ltb s h) (later h) here ≡ with_here
  here_taken l = by_test (ltb s h) refl
    where
      by_test : (t : Bool) → ltb s h ≡ t → cond t (later h) here ≡ with_here
      by_test true t =
          let k = ltb-true s h t in
          let m : max s h ≡ h = max-eq_right (omega arith) in
          rw (m, lt-ltb v h (omega arith), ne_eqb s h (λ e. omega arith))
      by_test false t =
          let k = ltb-false s h t in
          let m : max s h ≡ s = max-eq_left (omega arith) in
          rw (m, lt-ltb v s l, eq-eqb s s refl)

  here_passed : s ≤ v → cond (ltb v h) (later h) held ≡ with_here
  here_passed l = by_test (ltb v h) refl
    where
      by_test : (t : Bool) → ltb v h ≡ t → cond t (later h) held ≡ with_here
      by_test true t =
          let k = ltb-true v h t in
          let m : max s h ≡ h = max-eq_right (omega arith) in
          rw (m, lt-ltb v h k, ne_eqb s h (λ e. omega arith))
      by_test false t = let k = ltb-false v h t in rw (le-ltb v (max s h) (max-le l k))

-- it ends with the first of the highest score, where that is above what was held
module _ (skip : Bool) (q : Query) where
  abbrev chosen : Best → List (ℕ × Edge) → Best
  chosen held xs = cond (ltb (scored skip q held) (highest skip q xs)) (first_of skip q (highest skip q xs) xs) held

  chosen_turn : (held : Best) (x : ℕ × Edge) (xs : List (ℕ × Edge)) → chosen (better skip q held x) xs ≡ chosen held (x ∷ xs)
  unfolding highest first_of
  chosen_turn held x xs = by_test (ltb (scored skip q held) (score skip q x.1)) refl
    where
      by_test : (t : Bool) → ltb (scored skip q held) (score skip q x.1) ≡ t → chosen (cond t (some x) held) xs ≡ chosen held (x ∷ xs)
      by_test true t = here_taken (scored skip q held) (score skip q x.1) (highest skip q xs) held (some x) (λ v. first_of skip q v xs) (ltb-true _ _ t)
      by_test false t = here_passed (scored skip q held) (score skip q x.1) (highest skip q xs) held (some x) (λ v. first_of skip q v xs) (ltb-false _ _ t)

  walk_chosen : (held : Best) (xs : List (ℕ × Edge)) → best_from skip q held xs ≡ chosen held xs
  unfolding best_from highest first_of
  walk_chosen held [] = rw (le-ltb (scored skip q held) 0 (omega arith))
  walk_chosen held (x ∷ xs) = walk_chosen (better skip q held x) xs ∙ chosen_turn held x xs

  pub best_walk : (xs : List (ℕ × Edge)) → best_from skip q none xs ≡ best skip q xs
  unfolding best
  best_walk xs = walk_chosen none xs

-- ---- the walk over a listing: the best is kept by its score top, 0 for none, and its offset x
-- left edges from the offset at on are still to be seen, of count from first on
pub record Walk (skip : Bool) (q : Query) (s : List ℕ) (first count at left top x : ℕ) : Type 0 where
  pub whole : Whole left s at
  pub value : top ≡ scored skip q (kept s top x)
  pub so_far : best_from skip q (kept s top x) (with_offsets left s at) ≡ best skip q (with_offsets count s first)

pub walk_start : (skip : Bool) (q : Query) (s : List ℕ) (first count : ℕ) → Whole count s first → Walk skip q s first count first count 0 0
walk_start skip q s first count w = record { whole = w; value = refl; so_far = best_walk skip q (with_offsets count s first) }

module _ (skip : Bool) (q : Query) (s : List ℕ) (first count at left top x : ℕ) (w : Walk skip q s first count at left top x) where
  module _ (some_left : 0 < left) {v : ℕ} (is : v ≡ score skip q (edge_at s at)) where
    next : Whole (left - 1) s (next_at s at)
    next = whole_next s at left some_left w.whole

    seen : with_offsets left s at ≡ (at, edge_at s at) ∷ with_offsets (left - 1) s (next_at s at)
    unfolding with_offsets
    seen = ap (λ (k : ℕ). with_offsets k s at) (one_left s at left some_left w.whole)

    turned : best_from skip q (better skip q (kept s top x) (at, edge_at s at)) (with_offsets (left - 1) s (next_at s at)) ≡ best skip q (with_offsets count s first)
    unfolding best_from
    turned = ap (best_from skip q (kept s top x)) (sym seen) ∙ w.so_far

    taken : {to : ℕ} → to ≡ next_at s at → top < v → Walk skip q s first count to (left - 1) v at
    taken e h =
        let held : kept s v at ≡ some (at, edge_at s at) = rw (lt-ltb 0 v (omega arith)) in
        let wins : better skip q (kept s top x) (at, edge_at s at) ≡ some (at, edge_at s at) = rw (← w.value, ← is, lt-ltb top v h) in
        record { whole = rw e next; value = rw held is; so_far = rw (held, e) (ap (λ (b : Best). best_from skip q b (with_offsets (left - 1) s (next_at s at))) (sym wins) ∙ turned) }

    passed : {to : ℕ} → to ≡ next_at s at → v ≤ top → Walk skip q s first count to (left - 1) top x
    passed e h =
        let stays : better skip q (kept s top x) (at, edge_at s at) ≡ kept s top x = rw (← w.value, ← is, le-ltb top v h) in
        record { whole = rw e next; value = w.value; so_far = rw e (ap (λ (b : Best). best_from skip q b (with_offsets (left - 1) s (next_at s at))) (sym stays) ∙ turned) }

    -- the two ways of a turn: the edge is taken, or the one before is kept
    pub walk_better : {to t y : ℕ} → to ≡ next_at s at → top < v → t ≡ v → y ≡ at → Walk skip q s first count to (left - 1) t y
    walk_better e h p r = rw (p, r) (taken e h)

    pub walk_on : {to t y : ℕ} → to ≡ next_at s at → v ≤ top → t ≡ top → y ≡ x → Walk skip q s first count to (left - 1) t y
    walk_on e h p r = rw (p, r) (passed e h)

  module _ (none_left : left ≤ 0) where
    pub walk_ends : kept s top x ≡ best skip q (with_offsets count s first)
    unfolding best_from with_offsets
    walk_ends = let z : left ≡ 0 = omega arith in rw z at w.so_far

-- .. and its offset is what is to be answered
pub record Held (skip : Bool) (q : Query) (s : List ℕ) (first count at left top : ℕ) (held : std.Option Offset) : Type 0 where
  pub x : ℕ
  pub walk : Walk skip q s first count at left top x
  pub is : held ≡ found (kept s top x)

pub held_start : (skip : Bool) (q : Query) (s : List ℕ) (first count : ℕ) → Whole count s first → Held skip q s first count first count 0 None
unfolding found
held_start skip q s first count w = record { x = 0; walk = walk_start skip q s first count w; is = refl }

module _ {skip : Bool} {q : Query} {s : List ℕ} {first count at left top : ℕ} {held : std.Option Offset} (w : Held skip q s first count at left top held) where
  module _ (some_left : 0 < left) {v : ℕ} (is : v ≡ score skip q (edge_at s at)) {to t : ℕ} {h : std.Option Offset} (next : to ≡ next_at s at) where
    pub held_better : top < v → t ≡ v → h ≡ Some (record { 0 = at }) → Held skip q s first count to (left - 1) t h
    unfolding found
    held_better l p r =
        record {
          x = at;
          walk = walk_better skip q s first count at left top w.x w.walk some_left is next l p refl;
          is = rw (p, r, lt-ltb 0 v (omega arith));
        }

    pub held_on : v ≤ top → t ≡ top → h ≡ held → Held skip q s first count to (left - 1) t h
    held_on l p r =
        record {
          x = w.x;
          walk = walk_on skip q s first count at left top w.x w.walk some_left is next l p refl;
          is = rw (p, r) w.is;
        }

  pub held_ends : left ≤ 0 → held ≡ found (best skip q (with_offsets count s first))
  held_ends none_left = w.is ∙ ap found (walk_ends skip q s first count at left top w.x w.walk none_left)
