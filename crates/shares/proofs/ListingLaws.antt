-- Laws of a listing's shares (`specs/Listing.antt`). In order: the share of an edge, by its head; one edge more; the walk; the call.
-- No contract cites this file. Assumes nothing.
use Prim.Native.Nat.{ℕ, suc, ◌+◌, ◌-◌, ◌≤◌, ◌<◌}
use mathlib.Core.Path.{◌≡◌, refl, sym, ap, ◌∙◌}
use mathlib.Core.Bool.{Bool, true, false, not, ◌&&◌}
use mathlib.Core.List.{List, ◌∷◌}
use mathlib.Core.Option.{Option, none, some}
use native.Mathlib.Omega.{arith}
use native.Mathlib.Nat.{sub-zero}
use native.Mathlib.Numerals.{add-one}
use lib.ListN.{length}
use lib.Dec.{ltb}
use borrow.Author.Tests.{not-true, not-false, leb-true, ltb-true}
use Rattle.whole.specs.Whole.{TOP}
use Rattle.text.specs.Text.{well_formed}
use Rattle.text.proofs.RowLaws.{cond_cases, and-true}
use Rattle.edge.specs.declared.EdgeView.{EdgeView}
use Rattle.edge.specs.declared.NumFields.{NumFields}
use Rattle.edge.specs.Edge.{Numeric, Edge}
use Rattle.edge.specs.Layout.{stands, map_at, next_at, numeric_at, edge_at, edges_at, listed}
use Rattle.edge.specs.View.{view_at, fields_at}
use Rattle.edge.specs.Check.{each, up_to_top, sound_fraction, sound_count, sound_numbers, sound_numeric}
use Rattle.edge.proofs.CheckLaws.{map_within}
use Rattle.paths.specs.Reading.{read_check, Spanned, Spans, readable}
use Rattle.paths.proofs.ReadingLaws.{first_two, reads, spans_le}
use Rattle.passes.specs.declared.ratio.Ratio.{Ratio}
use Rattle.passes.specs.Characters.{gcd_within, gcd, lowest}
use Rattle.shares.specs.Pool.{Fraction, pool}
use Rattle.shares.specs.Answers.{fraction_of, ratio_of, Reduced, pooled, said}
use Rattle.shares.specs.Listing.{share_of, share, join_share, join, pool_from, pool_edges, pool_shares}
use Rattle.shares.proofs.PoolLaws.{pool_reduced}
use Rattle.std.specs.Prelude.{Some, None, Result, Ok, Err}
use Rattle.std.specs.Prelude as std
use Rattle.shares.specs.declared.SharesRefusal.{SharesRefusal}

-- ---- the share of the edge at an offset, by its head
module _ (s : List ℕ) (at : ℕ) {e : EdgeView} (head : e ≡ view_at s at) {numeric : Bool} (bit-0 : numeric ≡ stands 0 e.map) where
  pub share_regular : not numeric ≡ true → None ≡ said (share (edge_at s at))
  unfolding edge_at view_at
  share_regular off = let z : stands 0 (map_at s at) ≡ false = sym (bit-0 ∙ rw head) ∙ not-true numeric off in rw z

  module _ (on : not numeric ≡ false) {active : Bool} (bit-7 : active ≡ stands 7 e.map) where
    is_numeric_lem : stands 0 (map_at s at) ≡ true
    unfolding view_at
    is_numeric_lem = sym (bit-0 ∙ rw head) ∙ not-false numeric on

    pub share_inactive : not active ≡ true → None ≡ said (share (edge_at s at))
    unfolding edge_at view_at numeric_at
    share_inactive off = let z : stands 7 (map_at s at) ≡ false = sym (bit-7 ∙ rw head) ∙ not-true active off in rw (is_numeric_lem, z)

    module _ (is_on : not active ≡ false) {fraction : Bool} (bit-2 : fraction ≡ stands 2 e.map) where
      is_active_lem : stands 7 (map_at s at) ≡ true
      unfolding view_at
      is_active_lem = sym (bit-7 ∙ rw head) ∙ not-false active is_on

      pub share_without : not fraction ≡ true → None ≡ said (share (edge_at s at))
      unfolding edge_at view_at numeric_at
      share_without off = let z : stands 2 (map_at s at) ≡ false = sym (bit-2 ∙ rw head) ∙ not-true fraction off in rw (is_numeric_lem, is_active_lem, z)

      pub share_there : {d : NumFields} → not fraction ≡ false → d ≡ fields_at e.map s e.fields.0 → Some (d.numerator, d.denominator) ≡ said (share (edge_at s at))
      unfolding edge_at view_at numeric_at fields_at
      share_there there fields =
          let z : stands 2 (map_at s at) ≡ true = sym (bit-2 ∙ rw head) ∙ not-false fraction there in rw (fields, head, is_numeric_lem, is_active_lem, z)

-- ---- one edge more
-- an edge that may stand has a share that may
pub share_sound : (x : Option Numeric) → each sound_numeric x ≡ true → each sound_fraction (share_of x) ≡ true
unfolding sound_numeric
share_sound none h = refl
share_sound (some m) h =
    let numbers = (first_two (sound_numbers m.fraction m.base m.decimals) (well_formed m.orig) (each well_formed m.script) (each well_formed m.value_s) h).0 in
    cond_cases (λ (o : Option Fraction). each sound_fraction o ≡ true) m.active (λ _. (and-true (each sound_fraction m.fraction) (each up_to_top m.base) (and-true (each sound_fraction m.fraction && each up_to_top m.base) (each sound_count m.decimals) numbers).0).0) (λ _. refl)

said_nothing : (o : Option Fraction) → said o ≡ None → o ≡ none
said_nothing none e = refl
said_nothing (some f) e = let z : ◌≡◌ {A = ℕ} 0 1 = cc in absurd (omega arith)

said_of : (o : Option Fraction) (n d : ℕ) → said o ≡ Some (n, d) → o ≡ some (n, d)
said_of none n d e = let z : ◌≡◌ {A = ℕ} 0 1 = cc in absurd (omega arith)
said_of (some f) n d e = let p : f.0 ≡ n = cc in let q : f.1 ≡ d = cc in rw (← p, ← q)

pub fraction_sound : (n d : ℕ) → sound_fraction (n, d) ≡ true → (n ≤ TOP) × (d ≤ TOP) × (0 < d)
fraction_sound n d h =
    let (both, positive) = and-true (up_to_top n && up_to_top d) (ltb 0 d) h in
    let (p, q) = and-true (up_to_top n) (up_to_top d) both in
    (leb-true n TOP p, leb-true d TOP q, ltb-true 0 d positive)

module _ (sum : Ratio) (s : List ℕ) (at : ℕ) {r : std.Option (ℕ × ℕ)} (told : r ≡ said (share (edge_at s at))) where
  pub joined_nothing : r ≡ None → Some sum ≡ pooled (join (fraction_of sum) (edge_at s at))
  joined_nothing e = sym (ap (λ (o : Option Fraction). pooled (join_share (fraction_of sum) o)) (said_nothing (share (edge_at s at)) (sym told ∙ e)))

  module _ (n d : ℕ) (e : r ≡ Some (n, d)) where
    is_share : share (edge_at s at) ≡ some (n, d)
    is_share = said_of (share (edge_at s at)) n d (sym told ∙ e)

    pub share_fits : Spanned 256 s at → (n ≤ TOP) × (d ≤ TOP) × (0 < d)
    share_fits w = fraction_sound n d (ap (each sound_fraction) (sym is_share) ∙ share_sound (edge_at s at).num w.numeric)

    pub joined_share : {p : std.Option Ratio} → p ≡ pooled (pool (fraction_of sum) (n, d)) → p ≡ pooled (join (fraction_of sum) (edge_at s at))
    joined_share q = q ∙ sym (ap (λ (o : Option Fraction). pooled (join_share (fraction_of sum) o)) is_share)

join_reduced : (f : Fraction) (o : Option Fraction) {g : Fraction} → Reduced (ratio_of f) → each sound_fraction o ≡ true → join_share f o ≡ some g → Reduced (ratio_of g)
join_reduced f none {g} reduced fine e = let p : f ≡ g = cc in rw p at reduced
join_reduced f (some h) {g} reduced fine e = pool_reduced f h reduced.positive (fraction_sound h.0 h.1 fine).2 e

-- ---- the walk
pooled_above : (o : Option Fraction) → pooled o ≡ None → o ≡ none
pooled_above none e = refl
pooled_above (some f) e = let z : ◌≡◌ {A = ℕ} 0 1 = cc in absurd (omega arith)

pooled_sum : (o : Option Fraction) (r : Ratio) → pooled o ≡ Some r → o ≡ some (fraction_of r)
pooled_sum none r e = let z : ◌≡◌ {A = ℕ} 0 1 = cc in absurd (omega arith)
pooled_sum (some f) r e = let p : ratio_of f ≡ r = cc in ap (λ (x : Ratio). some (fraction_of x)) p

pub pool_on : (i : ℕ) (f : Fraction) (e : Edge) (es : List Edge) (o : Option Fraction) → join f e ≡ o →
    pool_from i f (e ∷ es) ≡ elim o [ none ↦ Err (SharesRefusal.Above i) | some g ↦ pool_from (suc i) g es ]
unfolding pool_from
pool_on i f e es o q = ap (λ (x : Option Fraction). elim x [ none ↦ Err (SharesRefusal.Above i) | some g ↦ pool_from (suc i) g es ]) q

-- the sum n/d of the edges before index i, and the edges from there on, come to what all come to
pub record Pooling (s : List ℕ) (count n d at i : ℕ) : Type 0 where
  pub left : i ≤ count
  pub spans : Spans 256 (count - i) s at
  pub reduced : Reduced (ratio_of (n, d))
  pub so_far : pool_from i (n, d) (edges_at (count - i) s at) ≡ pool_edges (edges_at count s 2)

pub pooling_first : (s : List ℕ) (count : ℕ) → Spans 256 count s 2 → Pooling s count 0 1 2 0
unfolding lowest gcd gcd_within
pooling_first s count h = record {
  left = omega arith;
  spans = rw (sub-zero count) h;
  reduced = record { numerator = omega arith; denominator = omega arith; positive = omega arith; same = refl };
  so_far = rw (sub-zero count);
}

module _ {s : List ℕ} {count n d at i : ℕ} (w : Pooling s count n d at i) (more : i < count) where
  one_more_lem : count - i ≡ suc (count - (i + 1))
  one_more_lem = omega arith

  split : Spanned 256 s at × Spans 256 (count - (i + 1)) s (next_at s at)
  unfolding Spans
  split = rw one_more_lem at w.spans

  pub spanned : Spanned 256 s at
  spanned = split.0

  edges : edges_at (count - i) s at ≡ edge_at s at ∷ edges_at (count - (i + 1)) s (next_at s at)
  unfolding edges_at
  edges = rw one_more_lem

  whole : pool_from i (n, d) (edge_at s at ∷ edges_at (count - (i + 1)) s (next_at s at)) ≡ pool_edges (edges_at count s 2)
  whole = rw edges at w.so_far

  module _ {r : std.Option Ratio} (joined : r ≡ pooled (join (n, d) (edge_at s at))) where
    pub pooling_above : r ≡ None → Err (SharesRefusal.Above i) ≡ pool_edges (edges_at count s 2)
    pooling_above e = sym (pool_on i (n, d) (edge_at s at) _ none (pooled_above (join (n, d) (edge_at s at)) (sym joined ∙ e))) ∙ whole

    pub pooling_next : (m : Ratio) {next : ℕ} → r ≡ Some m → next ≡ next_at s at → Pooling s count m.numerator m.denominator next (i + 1)
    pooling_next m e is_next =
        let is_some = pooled_sum (join (n, d) (edge_at s at)) m (sym joined ∙ e) in
        rw is_next
        record {
          left = omega arith;
          spans = split.1;
          reduced = join_reduced (n, d) (share (edge_at s at)) w.reduced (share_sound (edge_at s at).num spanned.numeric) is_some;
          so_far =
              ap (λ (j : ℕ). pool_from j (fraction_of m) (edges_at (count - (i + 1)) s (next_at s at))) (add-one i)
              ∙ sym (pool_on i (n, d) (edge_at s at) _ (some (fraction_of m)) is_some) ∙ whole;
        }

pub pooling_ended : {s : List ℕ} {count n d at i : ℕ} → Pooling s count n d at i → count ≤ i → Ok (record { numerator = n; denominator = d }) ≡ pool_edges (edges_at count s 2)
unfolding pool_from edges_at
pooling_ended {count = count} {i = i} w h = let none_left : count - i ≡ 0 = omega arith in rw none_left at w.so_far

pub at_within : (s : List ℕ) (at : ℕ) → next_at s at ≤ length s → at ≤ length s
at_within s at h = omega (arith, map_within s at (length s) h)

-- ---- the call
module _ (line s : List ℕ) {n k : ℕ} (e : read_check line s ≡ Ok (n, k)) where
  pub readable_spans : Spans 256 k s 2
  readable_spans = let r = reads line s n k e in spans_le n 256 k s 2 r.few r.spans

  pub shares_read : {r : Result Ratio SharesRefusal} → r ≡ pool_edges (edges_at k s 2) → r ≡ pool_shares line s
  unfolding pool_shares
  shares_read q = q ∙ ap (λ (m : ℕ). pool_edges (edges_at m s 2)) (reads line s n k e).edges ∙ sym (ap (readable (λ r. Err (SharesRefusal.Reading r)) (λ n k. pool_edges (listed s))) e)
