-- Laws of what a listing's shares are in all (`specs/Total.antt`). In order: the sum in any order, its denominator; a listing that is not refused; one that is; one without
-- shares; the call. Assumes nothing.
use Prim.Native.Nat.{ℕ, zero, suc, ◌+◌, ◌*◌, ◌<◌}
use mathlib.Core.Path.{◌≡◌, refl, sym, ap, ◌∙◌}
use mathlib.Core.List.{List, [], ◌∷◌, Permᴰ}
use mathlib.Core.Option.{Option, none, some}
use native.Mathlib.Omega.{arith}
use native.Mathlib.Nat.{add-zero, mul-pos}
use Rattle.edge.specs.Edge.{Edge}
use Rattle.edge.specs.Layout.{next_at, edge_at, edges_at, listed}
use Rattle.edge.specs.Check.{each, sound_fraction}
use Rattle.paths.specs.declared.ReadRefusal.{ReadRefusal}
use Rattle.paths.specs.Reading.{Spans, readable, read_check}
use Rattle.paths.proofs.ReadingLaws.{reads}
use Rattle.passes.specs.declared.ratio.Ratio.{Ratio}
use Rattle.passes.specs.Characters.{lowest}
use Rattle.shares.specs.Pool.{Fraction, sum, pool}
use Rattle.shares.specs.Answers.{fraction_of, ratio_of}
use Rattle.shares.specs.Listing.{share, join_share, join, pool_from, pool_edges, pool_shares}
use Rattle.shares.specs.Total.{shares_of, total, Positive, FirstAbove}
use Rattle.shares.proofs.PoolLaws.{sum_lowest_left, pool_is}
use Rattle.shares.proofs.ListingLaws.{share_sound, fraction_sound, pool_on, readable_spans}
use Rattle.std.specs.Prelude.{Result, Ok, Err}
use Rattle.shares.specs.declared.SharesRefusal.{SharesRefusal}

-- ---- the sum in any order
pub total_reordered : (f : Fraction) {gs hs : List Fraction} → Permᴰ gs hs → total f gs ≡ total f hs
unfolding total
total_reordered f Permᴰ.nil = refl
total_reordered f (Permᴰ.cons {b = b} e p) = rw e (total_reordered (f.0 * b.1 + b.0 * f.1, f.1 * b.1) p)
total_reordered f (Permᴰ.swap {a} {b} {l = l} p q) = rw (← p, ← q) (swapped f.0 f.1 a.0 a.1 b.0 b.1 l)
  where
    swapped : (n d x y z t : ℕ) (gs : List Fraction) → total ((n * y + x * d) * t + z * (d * y), d * y * t) gs ≡ total ((n * t + z * d) * y + x * (d * t), d * t * y) gs
    swapped n d x y z t gs =
        let above : (n * y + x * d) * t + z * (d * y) ≡ (n * t + z * d) * y + x * (d * t) = omega arith in
        let below : d * y * t ≡ d * t * y = omega arith in
        rw (above, below)
total_reordered f (Permᴰ.trans p q) = total_reordered f p ∙ total_reordered f q

pub total_positive : (f : Fraction) (gs : List Fraction) → 0 < f.1 → Positive gs → 0 < (total f gs).1
unfolding total Positive
total_positive f [] f-pos h = f-pos
total_positive f (g ∷ gs) f-pos h = total_positive (f.0 * g.1 + g.0 * f.1, f.1 * g.1) gs (mul-pos f-pos h.0) h.1

-- ---- a listing that is not refused
shares_on : (e : Edge) (es : List Edge) (o : Option Fraction) → share e ≡ o → shares_of (e ∷ es) ≡ elim o [ none ↦ shares_of es | some g ↦ g ∷ shares_of es ]
unfolding shares_of
shares_on e es o p = ap (λ (x : Option Fraction). elim x [ none ↦ shares_of es | some g ↦ g ∷ shares_of es ]) p

abbrev Exact : List Edge → Ratio → Type 0
Exact es r = (i : ℕ) (f : Fraction) → 0 < f.1 → Positive (shares_of es) → pool_from i (lowest f) es ≡ Ok r → fraction_of r ≡ lowest (total f (shares_of es))

module _ (x : Edge) (es : List Edge) (r : Ratio) (rest : Exact es r) (i : ℕ) (f : Fraction) (f-pos : 0 < f.1) where
  by_step : (g : Fraction) (o : Option Fraction) → 0 < g.1 → Positive (shares_of es) → pool (lowest f) g ≡ o →
      ◌≡◌ {A = Result Ratio SharesRefusal} (elim o [ none ↦ Err (SharesRefusal.Above i) | some k ↦ pool_from (suc i) k es ]) (Ok r) → fraction_of r ≡ lowest (total f (g ∷ shares_of es))
  unfolding total sum
  by_step g none g-pos h p e = let z : ◌≡◌ {A = ℕ} 0 1 = cc in absurd (omega arith)
  by_step g (some k) g-pos h p e =
      let is_sum : k ≡ sum f g = pool_is (lowest f) g p ∙ sum_lowest_left f.0 f.1 g f-pos g-pos in
      rest (suc i) (f.0 * g.1 + g.0 * f.1, f.1 * g.1) (mul-pos f-pos g-pos) h (rw is_sum at e)

  by_share : (o : Option Fraction) → share x ≡ o → Positive (shares_of (x ∷ es)) → pool_from i (lowest f) (x ∷ es) ≡ Ok r → fraction_of r ≡ lowest (total f (shares_of (x ∷ es)))
  unfolding Positive
  by_share none p h e =
      let q = shares_on x es none p in
      rest (suc i) f f-pos (rw q at h) (sym (pool_on i (lowest f) x es (some (lowest f)) (ap (join_share (lowest f)) p)) ∙ e)
      ∙ sym (ap (λ (gs : List Fraction). lowest (total f gs)) q)
  by_share (some g) p h e =
      let q = shares_on x es (some g) p in
      let k : (0 < g.1) × Positive (shares_of es) = rw q at h in
      by_step g (pool (lowest f) g) k.0 k.1 refl (sym (pool_on i (lowest f) x es (pool (lowest f) g) (ap (join_share (lowest f)) p)) ∙ e)
      ∙ sym (ap (λ (gs : List Fraction). lowest (total f gs)) q)

pub exact_from : (es : List Edge) (r : Ratio) → Exact es r
unfolding shares_of total pool_from
exact_from [] r i f f-pos h e = let p : ratio_of (lowest f) ≡ r = cc in sym (ap fraction_of p)
exact_from (x ∷ es) r i f f-pos h e = by_share x es r (exact_from es r) i f f-pos (share x) refl h e

-- ---- a listing that is refused
abbrev Stops : List Edge → ℕ → Type 0
Stops es j = (i : ℕ) (f : Fraction) → pool_from i f es ≡ Err (SharesRefusal.Above j) → FirstAbove i f es j

module _ (x : Edge) (es : List Edge) (j : ℕ) (rest : Stops es j) (i : ℕ) (f : Fraction) where
  -- a step that is refused has a share
  here : (o : Option Fraction) → share x ≡ o → join_share f o ≡ none → j ≡ i → FirstAbove i f (x ∷ es) j
  unfolding pool_from
  here none p q e = let z : ◌≡◌ {A = ℕ} 0 1 = cc in absurd (omega arith)
  here (some g) p q e = record {
    before = [];
    edge = x;
    behind = es;
    parts = refl;
    index = e ∙ sym (add-zero i);
    so_far = f;
    summed = refl;
    its_share = g;
    has = p;
    refused = q;
  }

  later : (g : Fraction) → join f x ≡ some g → FirstAbove (suc i) g es j → FirstAbove i f (x ∷ es) j
  later g p w = record {
    before = x ∷ w.before;
    edge = w.edge;
    behind = w.behind;
    parts = ap (λ (l : List Edge). x ∷ l) w.parts;
    index = omega (arith, w.index);
    so_far = w.so_far;
    summed = pool_on i f x w.before (some g) p ∙ w.summed;
    its_share = w.its_share;
    has = w.has;
    refused = w.refused;
  }

  stops_on : (o : Option Fraction) → join f x ≡ o → ◌≡◌ {A = Result Ratio SharesRefusal} (elim o [ none ↦ Err (SharesRefusal.Above i) | some g ↦ pool_from (suc i) g es ]) (Err (SharesRefusal.Above j)) → FirstAbove i f (x ∷ es) j
  stops_on none p e = here (share x) refl p (cc)
  stops_on (some g) p e = later g p (rest (suc i) g e)

pub first_above_lem : (es : List Edge) (j : ℕ) → Stops es j
unfolding pool_from
first_above_lem [] j i f e = let z : ◌≡◌ {A = ℕ} 0 1 = cc in absurd (omega arith)
first_above_lem (x ∷ es) j i f e = stops_on x es j (first_above_lem es j) i f (join f x) refl e

-- ---- a listing without shares
pub none_pooled : (i : ℕ) (f : Fraction) (es : List Edge) → shares_of es ≡ [] → pool_from i f es ≡ Ok (ratio_of f)
unfolding pool_from
none_pooled i f [] h = refl
none_pooled i f (x ∷ es) h = go (share x) refl (none_pooled (suc i) f es)
  where
    go : (o : Option Fraction) → share x ≡ o → (shares_of es ≡ [] → pool_from (suc i) f es ≡ Ok (ratio_of f)) → pool_from i f (x ∷ es) ≡ Ok (ratio_of f)
    go none p rest = pool_on i f x es (some f) (ap (join_share f) p) ∙ rest (sym (shares_on x es none p) ∙ h)
    go (some g) p rest = let q : g ∷ shares_of es ≡ [] = sym (shares_on x es (some g) p) ∙ h in let z : ◌≡◌ {A = ℕ} 0 1 = cc in absurd (omega arith)

-- ---- a listing that is read: no denominator is 0
spans_positive : (k : ℕ) (s : List ℕ) (at : ℕ) → Spans 256 k s at → Positive (shares_of (edges_at k s at))
unfolding Spans edges_at shares_of Positive
spans_positive zero s at h = tt
spans_positive (suc k) s at h = go (share (edge_at s at)) refl (spans_positive k s (next_at s at) h.1)
  where
    es : List Edge
    es = edges_at k s (next_at s at)

    go : (o : Option Fraction) → share (edge_at s at) ≡ o → Positive (shares_of es) → Positive (shares_of (edge_at s at ∷ es))
    go none p rest = rw (shares_on (edge_at s at) es none p) rest
    go (some g) p rest = rw (shares_on (edge_at s at) es (some g) p) ((fraction_sound g.0 g.1 (ap (each sound_fraction) (sym p) ∙ share_sound (edge_at s at).num h.0.numeric)).2, rest)

-- what holds of the edges of every listing that is read, where it is not refused, holds of the call's answer
module _ (line s : List ℕ) (P : Result Ratio SharesRefusal → Type 0) (refused : (x : ReadRefusal) → P (Err (SharesRefusal.Reading x))) where
  pub by_edges : (Positive (shares_of (listed s)) → P (pool_edges (listed s))) → P (pool_shares line s)
  unfolding pool_shares
  by_edges f = go (read_check line s) refl
    where
      go : (c : Result (ℕ × ℕ) ReadRefusal) → read_check line s ≡ c → P (readable (λ r. Err (SharesRefusal.Reading r)) (λ n k. pool_edges (listed s)) c)
      go (Err x) e = refused x
      go (Ok (n, k)) e = f (rw (reads line s n k e).edges at (spans_positive k s 2 (readable_spans line s e)))

pub call_positive : (line s : List ℕ) (r : Ratio) → pool_shares line s ≡ Ok r → Positive (shares_of (listed s))
call_positive line s r =
    by_edges line s (λ a. a ≡ Ok r → Positive (shares_of (listed s))) (λ x e. let z : ◌≡◌ {A = ℕ} 0 1 = cc in absurd (omega arith)) (λ h _. h)
