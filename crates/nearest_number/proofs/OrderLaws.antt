-- Laws of the order of numbers (`comes_first` of `specs/Nearest.antt`) and of the walk by it. In order: one comparison; the order; one edge of a list; what is held after
-- some edges is what `Given` says of them; what `Given` says is held; none. No contract cites this file. Assumes nothing.
use Prim.Native.Nat.{ℕ, ◌<◌}
use mathlib.Core.Path.{◌≡◌, refl, sym, ap, ◌∙◌}
use mathlib.Core.Bool.{Bool, true, false, cond, ◌&&◌}
use mathlib.Core.List.{List, [], ◌∷◌, ◌++◌, append_assoc, append-nil}
use mathlib.Core.Logic.{◌⊎◌, inl, inr}
use mathlib.Core.Option.{none, some}
use native.Mathlib.Omega.{arith}
use lib.Dec.{eqb, ltb}
use borrow.Author.Tests.{lt-ltb, le-ltb, ltb-true, ltb-false, eq-eqb, ne_eqb, eqb-true, eqb-false}
use Rattle.edge.specs.Edge.{Edge}
use Rattle.paths.specs.Best.{Best}
use Rattle.paths.proofs.BestLaws.{Each, each_map, each_append}
use Rattle.nearest_number.specs.Nearest.{is_number, distance, lower, size, comes_first, replaces_held, nearest_from, nearest}
use Rattle.nearest_number.proofs.Given.{NoNumber, NotBefore, Before, Given}

-- ---- one comparison
clash : {A : Type 0} → true ≡ false → A
clash e = let z : ◌≡◌ {A = ℕ} 0 1 = cc in absurd (omega arith)

module _ (a b : ℕ) (o : Bool) where
  lower_true : lower a b o ≡ true → (a < b) ⊎ ((a ≡ b) × (o ≡ true))
  lower_true = by (eqb a b) refl
    where
      by : (t : Bool) → eqb a b ≡ t → cond t o (ltb a b) ≡ true → (a < b) ⊎ ((a ≡ b) × (o ≡ true))
      by true e h = inr (eqb-true a b e, h)
      by false e h = inl (ltb-true a b h)

  lower_false : lower a b o ≡ false → (b < a) ⊎ ((a ≡ b) × (o ≡ false))
  lower_false = by (eqb a b) refl
    where
      by : (t : Bool) → eqb a b ≡ t → cond t o (ltb a b) ≡ false → (b < a) ⊎ ((a ≡ b) × (o ≡ false))
      by true e h = inr (eqb-true a b e, h)
      by false e h = inl (omega (arith, ltb-false a b h, eqb-false a b e))

  lower_less : a < b → lower a b o ≡ true
  lower_less h = rw (ne_eqb a b (λ e. omega arith)) (lt-ltb a b h)

  lower_more : b < a → lower a b o ≡ false
  lower_more h = rw (ne_eqb a b (λ e. omega arith)) (le-ltb a b (omega arith))

  lower_same : a ≡ b → lower a b o ≡ o
  lower_same e = rw (eq-eqb a b e)

-- what holds of the comparisons that decide at equality holds of these
turns : (a b : ℕ) (o q : Bool) → (o ≡ true → q ≡ false) → lower a b o ≡ true → lower b a q ≡ false
turns a b o q then h = by (lower_true a b o h)
  where
    by : (a < b) ⊎ ((a ≡ b) × (o ≡ true)) → lower b a q ≡ false
    by (inl l) = lower_more b a q l
    by (inr (e, t)) = lower_same b a q (sym e) ∙ then t

goes_on : (a b c : ℕ) (o q r : Bool) → (o ≡ true → q ≡ false → r ≡ true) → lower a b o ≡ true → lower c b q ≡ false → lower a c r ≡ true
goes_on a b c o q r then h k = by (lower_true a b o h) (lower_false c b q k)
  where
    by : (a < b) ⊎ ((a ≡ b) × (o ≡ true)) → (b < c) ⊎ ((c ≡ b) × (q ≡ false)) → lower a c r ≡ true
    by (inl l) (inl m) = lower_less a c r (omega arith)
    by (inl l) (inr (e, t)) = lower_less a c r (omega arith)
    by (inr (d, s)) (inl m) = lower_less a c r (omega arith)
    by (inr (d, s)) (inr (e, t)) = lower_same a c r (omega arith) ∙ then s t

-- the last comparison, with the edges exchanged: the longer comes first
longer_on : (a b c : ℕ) → lower b a false ≡ true → lower b c false ≡ false → lower c a false ≡ true
longer_on a b c h k = by (lower_true b a false h) (lower_false b c false k)
  where
    by : (b < a) ⊎ ((b ≡ a) × (false ≡ true)) → (c < b) ⊎ ((b ≡ c) × (false ≡ false)) → lower c a false ≡ true
    by (inl l) (inl m) = lower_less c a false (omega arith)
    by (inl l) (inr (e, t)) = lower_less c a false (omega arith)
    by (inr (d, s)) m = clash (sym s)

-- ---- the order
module _ (p : ℕ) where
  pub first_turns : (e f : Edge) → comes_first p e f ≡ true → comes_first p f e ≡ false
  unfolding comes_first
  first_turns e f =
      turns (distance p e) (distance p f) _ _
      (turns e.start f.start _ _ (turns (size f) (size e) false false (λ t. refl)))

  pub first_on : (e f g : Edge) → comes_first p e f ≡ true → comes_first p g f ≡ false → comes_first p e g ≡ true
  unfolding comes_first
  first_on e f g =
      goes_on (distance p e) (distance p f) (distance p g) _ _ _
      (goes_on e.start f.start g.start _ _ _ (longer_on (size e) (size f) (size g)))

  first_self : (e : Edge) → comes_first p e e ≡ false
  first_self e = by (comes_first p e e) refl
    where
      by : (t : Bool) → comes_first p e e ≡ t → comes_first p e e ≡ false
      by true q = first_turns e e q
      by false q = q

-- ---- what holds of each edge of a list holds of one
pub each_at : (P : ℕ × Edge → Type 0) (xs : List (ℕ × Edge)) (x : ℕ × Edge) (ys : List (ℕ × Edge)) → Each P (xs ++ (x ∷ ys)) → P x
each_at P [] x ys h = h.0
each_at P (y ∷ xs) x ys h = each_at P xs x ys h.1

-- ---- what is held after the edges xs
abbrev pub Told : ℕ → List (ℕ × Edge) → Best → Type 0
Told p xs none = NoNumber xs
Told p xs (some x) = Given p xs x

module _ (p : ℕ) (xs : List (ℕ × Edge)) (y : ℕ × Edge) where
  abbrev more : List (ℕ × Edge)
  more = xs ++ (y ∷ [])

  one_behind : {x : ℕ × Edge} → Given p xs x → NotBefore p x y → Given p more x
  one_behind g h = record {
    front = g.front;
    back = g.back ++ (y ∷ []);
    split = ap (λ (l : List (ℕ × Edge)). l ++ (y ∷ [])) g.split ∙ append_assoc g.front _ (y ∷ []);
    number = g.number;
    before = g.before;
    behind = each_append _ g.back (y ∷ []) g.behind (h, tt);
  }

  no_number : (held : Best) → is_number y.1 ≡ false → Told p xs held → Told p more held
  no_number none off h = each_append _ xs (y ∷ []) h (off, tt)
  no_number (some x) off g = one_behind g (λ on. clash (sym on ∙ off))

  module _ (on : is_number y.1 ≡ true) where
    last_given : Each (Before p y) xs → Given p more y
    last_given h = record { front = xs; back = []; split = refl; number = on; before = h; behind = tt }

    first_number : NoNumber xs → Given p more y
    first_number h = last_given (each_map _ _ (λ z off is. clash (sym is ∙ off)) xs h)

    -- what comes before the one held comes before all that this one came before, or that did not come before it
    takes_over : {x : ℕ × Edge} → Given p xs x → comes_first p y.1 x.1 ≡ true → Given p more y
    takes_over {x} g h =
        let passed = each_map _ (Before p y) (λ z k is. first_on p y.1 x.1 z.1 h (first_turns p x.1 z.1 (k is))) g.front g.before in
        let followed = each_map _ (Before p y) (λ z k is. first_on p y.1 x.1 z.1 h (k is)) g.back g.behind in
        last_given (rw g.split (each_append _ g.front (x ∷ g.back) passed ((λ is. h), followed)))

    one_number : (held : Best) → Told p xs held → (b : Bool) → replaces_held p y.1 held ≡ b → Told p more (cond b (some y) held)
    unfolding replaces_held
    one_number none h true t = first_number h
    one_number none h false t = clash (sym (ap (λ (k : Bool). k && true) on) ∙ t)
    one_number (some x) g true t = takes_over g (sym (ap (λ (k : Bool). k && comes_first p y.1 x.1) on) ∙ t)
    one_number (some x) g false t = one_behind g (λ is. sym (ap (λ (k : Bool). k && comes_first p y.1 x.1) on) ∙ t)

  one_edge : (held : Best) → Told p xs held → Told p more (cond (replaces_held p y.1 held) (some y) held)
  unfolding replaces_held
  one_edge held h = by (is_number y.1) refl
    where
      by : (t : Bool) → is_number y.1 ≡ t → Told p more (cond (replaces_held p y.1 held) (some y) held)
      by true on = one_number on held h _ refl
      by false off = rw off (no_number held off h)

pub told : (p : ℕ) (xs ys : List (ℕ × Edge)) (held : Best) → Told p xs held → Told p (xs ++ ys) (nearest_from p held ys)
unfolding nearest_from
told p xs [] held h = rw append-nil h
told p xs (y ∷ ys) held h = rw append_assoc at (told p (xs ++ (y ∷ [])) ys (cond (replaces_held p y.1 held) (some y) held) (one_edge p xs y held h))

-- ---- what `Given` says is held
module _ (p : ℕ) (x : ℕ × Edge) where
  not_taken : (y : ℕ × Edge) → NotBefore p x y → replaces_held p y.1 (some x) ≡ false
  unfolding replaces_held
  not_taken y h = by (is_number y.1) refl
    where
      by : (t : Bool) → is_number y.1 ≡ t → (t && comes_first p y.1 x.1) ≡ false
      by true on = h on
      by false off = refl

  stays : (ys : List (ℕ × Edge)) → Each (NotBefore p x) ys → nearest_from p (some x) ys ≡ some x
  unfolding nearest_from
  stays [] h = refl
  stays (y ∷ ys) h = ap (λ (t : Bool). nearest_from p (cond t (some y) (some x)) ys) (not_taken y h.0) ∙ stays ys h.1

  abbrev Beaten : Best → Type 0
  Beaten none = Unit {0}
  Beaten (some y) = comes_first p x.1 y.1 ≡ true

  takes : is_number x.1 ≡ true → (held : Best) → Beaten held → replaces_held p x.1 held ≡ true
  unfolding replaces_held
  takes on none h = rw on
  takes on (some y) h = rw (on, h)

  -- what is held after an edge y that x comes before, if y is a number
  beaten : (y : ℕ × Edge) (held : Best) → Beaten held → Before p x y
      → Beaten (cond (replaces_held p y.1 held) (some y) held)
  unfolding replaces_held
  beaten y held b h = by (is_number y.1) refl
    where
      either : (u : Bool) → is_number y.1 ≡ true → Beaten (cond u (some y) held)
      either true on = h on
      either false on = b

      by : (t : Bool) → is_number y.1 ≡ t → Beaten (cond (replaces_held p y.1 held) (some y) held)
      by true on = either (replaces_held p y.1 held) on
      by false off = rw off b

  reached : (xs ys : List (ℕ × Edge)) (held : Best) → is_number x.1 ≡ true → Beaten held
      → Each (Before p x) xs → nearest_from p held (xs ++ (x ∷ ys)) ≡ nearest_from p (some x) ys
  unfolding nearest_from
  reached [] ys held on b h = ap (λ (t : Bool). nearest_from p (cond t (some x) held) ys) (takes on held b)
  reached (y ∷ xs) ys held on b h = reached xs ys _ on (beaten y held b h.0) h.1

  pub given_nearest : {xs : List (ℕ × Edge)} → Given p xs x → nearest p xs ≡ some x
  given_nearest g = rw g.split (reached g.front g.back none g.number tt g.before ∙ stays g.back g.behind)

  pub none_before : {xs : List (ℕ × Edge)} → Given p xs x → Each (NotBefore p x) xs
  none_before g =
      let passed = each_map _ (NotBefore p x) (λ y h is. first_turns p x.1 y.1 (h is)) g.front g.before in
      rw g.split (each_append _ g.front (x ∷ g.back) passed ((λ is. first_self p x.1), g.behind))

-- ---- none
pub no_number_nearest : (p : ℕ) (xs : List (ℕ × Edge)) → NoNumber xs → nearest p xs ≡ none
unfolding nearest_from replaces_held
no_number_nearest p [] h = refl
no_number_nearest p (x ∷ xs) h = rw h.0 (no_number_nearest p xs h.1)
