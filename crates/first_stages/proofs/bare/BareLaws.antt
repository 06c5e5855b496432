-- Laws of `specs/Bare.antt`. No contract cites this file.
-- In order: a character, a turn over the line; the stages of a bare line, one after the other; its lattice, and that of the call with decimals; no given edges. Assumes nothing.
use mathlib.Core.Path.{◌≡◌, refl, sym, ap, ◌∙◌}
use mathlib.Core.Bool.{Bool, true, false, ◌&&◌, not}
use mathlib.Core.List.{List, [], ◌∷◌}
use mathlib.Core.Option.{Option, none, some}
use Prim.Native.Nat.{ℕ, zero, suc, ◌+◌}
use native.Mathlib.Omega.{arith}
use lib.ListN.{length, drop}
use lib.Seq.{drop-drop}
use Rattle.text.specs.declared.Seq.TheVariants.{Char}
use Rattle.text.specs.Sequence.{seq}
use Rattle.text.specs.Text.{chars}
use Rattle.text.proofs.RowLaws.{and-true}
use Rattle.text.proofs.TextLaws.{chars_char}
use Rattle.table.specs.Table.{Record, Table, find, is_none}
use Rattle.passes.specs.NumEdge.{NumEdge, first_above}
use Rattle.passes.specs.Characters.{with_edge, char_edges, first_list}
use Rattle.passes.specs.Chains.{chains}
use Rattle.passes.specs.DecimalPasses as decimal
use Rattle.passes.specs.DecimalPasses.{point_at}
use Rattle.passes.specs.Passes.{chains_of, joined_of, after, added, through, added_by, five, above_at}
use Rattle.edge.specs.Edge.{Edge}
use Rattle.edge.specs.Layout.{edges_at, listed}
use Rattle.edge.specs.Check.{check_listing}
use Rattle.lattice.specs.Lattice.{add_all, turn_off}
use Rattle.paths.specs.Best.{best, highest, numbered}
use Rattle.numbers.specs.Fallback.{ascii_digit, fallback}
use Rattle.numbers.specs.Fractions.{Marker, percentage, connector, no_marker, Outcome, nothing, marked, by_marker, marker_at, outcome_at, outcomes_from, new_edges, used_edges, fractions}
use Rattle.numbers.specs.Signs.{signs}
use Rattle.numbers.specs.Separators.{copies, separate}
use Rattle.numbers.specs.Singles.{without_singles}
use Rattle.numbers.specs.Call.{decimal_passes, with_edges, with_signs, after_passes, after_signs, separate_by, lattice_by, decimal_lattice}
use Rattle.first_stages.proofs.given.GivenLaws.{checked_given}
use Rattle.first_stages.specs.Bare.{bare_char, bare}
use Rattle.std.specs.Prelude.{Ok}

-- ---- a character
pub digit_bare : (rs : List Record) (c : ℕ) → ascii_digit c ≡ true → false ≡ bare_char rs c
unfolding bare_char
digit_bare rs c h = rw h

pub sought_bare : (rs : List Record) (c : ℕ) → ascii_digit c ≡ false → is_none (find rs c) ≡ bare_char rs c
unfolding bare_char
sought_bare rs c h = rw h

pub none_bare : (rs : List Record) (c : ℕ) → ascii_digit c ≡ false → find rs c ≡ none → true ≡ bare_char rs c
unfolding bare_char
none_bare rs c h f = rw (h, f)

-- ---- a turn
module _ (rs : List Record) (s : List ℕ) (at c l : ℕ) (here : seq (drop at s) ≡ Char c l) where
  turn : bare rs (chars (drop at s)) ≡ (bare_char rs c && bare rs (chars (drop (at + l) s)))
  unfolding bare
  turn = ap (bare rs) (chars_char (drop at s) c l here) ∙ ap (λ (x : List ℕ). bare_char rs c && bare rs (chars x)) (drop-drop l at s)

  pub turn_false : false ≡ bare_char rs c → false ≡ bare rs (chars (drop at s))
  turn_false h = rw (← h) at (sym turn)

  pub turn_next : true ≡ bare_char rs c → bare rs (chars (drop at s)) ≡ bare rs (chars (drop (at + l) s))
  turn_next h = rw (← h) at turn

pub bare_end : (rs : List Record) → true ≡ bare rs []
unfolding bare
bare_end rs = refl

-- ---- the stages of a bare line
bare_find : (rs : List Record) (c : ℕ) → bare_char rs c ≡ true → find rs c ≡ none
unfolding bare_char
bare_find rs c h = go (find rs c) (and-true (not (ascii_digit c)) (is_none (find rs c)) h).1
  where
    go : (r : Option Record) → is_none r ≡ true → r ≡ none
    go none e = refl
    go (some r) e = let z : ◌≡◌ {A = ℕ} 0 1 = cc in absurd (omega arith)

no_digit : (rs : List Record) (c : ℕ) → bare_char rs c ≡ true → ascii_digit c ≡ false
unfolding bare_char
no_digit rs c h = go (ascii_digit c) (and-true (not (ascii_digit c)) (is_none (find rs c)) h).0
  where
    go : (b : Bool) → not b ≡ true → b ≡ false
    go false e = refl
    go true e = sym e

bare_edges_lem : (rs : List Record) (i : ℕ) (w : List ℕ) → bare rs w ≡ true → char_edges rs i w ≡ []
unfolding bare char_edges
bare_edges_lem rs i [] h = refl
bare_edges_lem rs i (c ∷ w) h =
    let p = and-true (bare_char rs c) (bare rs w) h in
    ap (λ (r : Option Record). with_edge i c r (char_edges rs (suc i) w)) (bare_find rs c p.0) ∙ bare_edges_lem rs (suc i) w p.1

bare_fallback : (rs : List Record) (es : List Edge) (i : ℕ) (w : List ℕ) → bare rs w ≡ true → fallback es i w ≡ []
unfolding bare fallback
bare_fallback rs es i [] h = refl
bare_fallback rs es i (c ∷ w) h =
    let p = and-true (bare_char rs c) (bare rs w) h in
    rw (no_digit rs c p.0) (bare_fallback rs es (suc i) w p.1)

-- no edge, so nothing to join
no_joined : added_by five [] ≡ []
unfolding added_by added after joined_of chains_of chains
no_joined = refl

no_fifth : through five [] ≡ []
unfolding through after chains_of chains
no_fifth = refl

module _ (point : ℕ → Bool) where
  no_decimal_joined : decimal.added_by point five [] ≡ []
  unfolding decimal.added_by decimal.added decimal.after decimal.joined_of decimal.chains_of chains
  no_decimal_joined = refl

  no_decimal_fifth : decimal.through point five [] ≡ []
  unfolding decimal.through decimal.after decimal.chains_of chains
  no_decimal_fifth = refl

-- no edge, so no neighbour of a marker
no_outcome : (t : Table) (w : List ℕ) (p : ℕ) → outcome_at t w [] p ≡ nothing
unfolding outcome_at marked best highest numbered
no_outcome t w p = go (marker_at t w p)
  where
    go : (m : Marker) → by_marker [] p m ≡ nothing
    go (percentage n) = refl
    go (connector n) = refl
    go no_marker = refl

no_new : (t : Table) (w : List ℕ) (p k : ℕ) → new_edges (outcomes_from t w [] p k) ≡ []
unfolding outcomes_from new_edges
no_new t w p zero = refl
no_new t w p (suc k) = ap (λ (o : Outcome). new_edges (o ∷ outcomes_from t w [] (suc p) k)) (no_outcome t w p) ∙ no_new t w (suc p) k

no_used : (t : Table) (w : List ℕ) (p k : ℕ) → used_edges (outcomes_from t w [] p k) ≡ []
unfolding outcomes_from used_edges
no_used t w p zero = refl
no_used t w p (suc k) = ap (λ (o : Outcome). used_edges (o ∷ outcomes_from t w [] (suc p) k)) (no_outcome t w p) ∙ no_used t w (suc p) k

no_fractions : (t : Table) (w : List ℕ) → fractions t w [] ≡ []
unfolding fractions add_all turn_off
no_fractions t w = rw (no_used t w 0 (length w), no_new t w 0 (length w))

no_signs : (t : Table) (w : List ℕ) → signs t w [] ≡ []
unfolding signs
no_signs t w = refl

none_apart : separate [] ≡ []
unfolding separate copies add_all
none_apart = refl

none_apart_by : (b : Bool) (t : Table) (w : List ℕ) → separate_by b t w [] ≡ []
unfolding without_singles
none_apart_by true t w = rw none_apart
none_apart_by false t w = none_apart

-- ---- the lattice
module _ (t : Table) (w : List ℕ) (h : bare t.records w ≡ true) where
  no_first : first_list t w ≡ []
  no_first = bare_edges_lem t.records 0 w h

  pub bare_above : above_at t w ≡ none
  unfolding first_above
  bare_above = ap (λ (l : List NumEdge). first_above (added_by five l)) no_first ∙ ap first_above no_joined

  bare_passes : after_passes t w [] ≡ []
  unfolding after_passes add_all
  bare_passes = rw (no_first, no_joined)

  bare_signs : after_signs t w [] ≡ []
  unfolding after_signs add_all
  bare_signs = rw (bare_passes, no_first, no_fifth, no_fractions t w, no_signs t w)

  pub bare_lattice : (b : Bool) → lattice_by b t w [] ≡ []
  unfolding lattice_by add_all
  bare_lattice b = rw (bare_signs, none_apart_by b t w, bare_fallback t.records [] 0 w h)

  -- ---- the call with decimals
  pub bare_decimal_above : (decimal_passes t w).above ≡ none
  unfolding first_above
  bare_decimal_above = rw (no_first, no_decimal_joined (point_at t w))

  bare_decimal_passes : with_edges (decimal_passes t w) [] ≡ []
  unfolding add_all
  bare_decimal_passes = rw (no_first, no_decimal_joined (point_at t w))

  bare_decimal_signs : with_signs t w (decimal_passes t w).fifth [] ≡ []
  unfolding add_all
  bare_decimal_signs = rw (no_first, no_decimal_fifth (point_at t w), no_fractions t w, no_signs t w)

  pub bare_decimal_lattice : decimal_lattice t w [] ≡ []
  unfolding decimal_lattice add_all
  bare_decimal_lattice = rw (bare_decimal_passes, bare_decimal_signs, none_apart, bare_fallback t.records [] 0 w h)

-- ---- no given edges
pub none_given : (n : ℕ) (s : List ℕ) (k : ℕ) → check_listing true n s ≡ Ok k → k ≡ 0 → listed s ≡ []
unfolding edges_at
none_given n s k e z = let c = sym (checked_given n s k e).0 ∙ z in ap (λ (m : ℕ). edges_at m s 2) c
