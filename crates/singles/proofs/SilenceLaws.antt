-- Laws of `silence` (`specs/Singles.antt`): a list of edges some of which were turned inactive. No contract cites this file.
-- In order: one edge; what is added; the fallback; bytes. Assumes nothing.
use mathlib.Core.Path.{◌≡◌, refl, sym, ap, ◌∙◌}
use mathlib.Core.Bool.{Bool, true, false, cond, ◌&&◌, ◌||◌, not}
use mathlib.Core.List.{List, [], ◌∷◌, ◌++◌, map, map-append}
use mathlib.Core.Option
use mathlib.Core.Option.{Option, none, some}
use Prim.Native.Nat.{ℕ, suc, ◌+◌}
use native.Mathlib.Omega.{arith}
use lib.ListN.{length, length-append}
use lib.Dec.{eqb}
use borrow.Author.Tests.{eq-eqb}
use Rattle.text.proofs.BytesLaws.{same_refl}
use Rattle.edge.specs.Edge.{Edge, Numeric, edge_bytes, edges_bytes, listing_bytes}
use Rattle.edge.specs.Write.{regular}
use Rattle.lattice.specs.Lattice.{same_key, has, add, add_all, quiet, inactive}
use Rattle.lattice.proofs.KeptLaws.{length_listing}
use Rattle.lattice.proofs.TurnOffLaws.{inactive_length}
use Rattle.pass_list.specs.StoredEdge.{Every, nil, cons}
use Rattle.numbers.specs.Fractions.{is_numeric}
use Rattle.numbers.specs.Fallback.{covered, fallback, ascii_digit, num_type}
use Rattle.numbers.proofs.stages.InactiveLaws.{inactive_num}
use Rattle.numbers.specs.Singles.{silence}

abbrev pub Regular : Edge → Type 0
Regular e = e.num ≡ none

-- ---- one edge
pub inactive_regular : (e : Edge) → Regular e → inactive e ≡ e
unfolding inactive
inactive_regular e r = ap (λ (x : Option Numeric). record { start = e.start; end = e.end; type = e.type; txt = e.txt; num = x }) (ap (Option.map quiet) r ∙ sym r)

abbrev pub numeric_data : Option Numeric → Bool
numeric_data none = false
numeric_data (some x) = true

pub key_refl : (e : Edge) → same_key e e ≡ true
unfolding same_key
key_refl e = rw (eq-eqb e.start e.start refl, eq-eqb e.end e.end refl, same_refl e.txt, same_refl e.type)

pub numeric_off : (e : Edge) → is_numeric (inactive e) ≡ is_numeric e
numeric_off e = inactive_num numeric_data (λ x. refl) e

module _ (ds : List Edge) where
  abbrev off : Edge → Edge
  off = silence ds

  pub silence_regular : (e : Edge) → Regular e → off e ≡ e
  silence_regular e r = go (has ds e)
    where
      go : (b : Bool) → cond b (inactive e) e ≡ e
      go true = inactive_regular e r
      go false = refl

  -- what does not look at the active bit
  silence_alike : {A : Type 0} (f : Edge → A) (e : Edge) → f (inactive e) ≡ f e → f (off e) ≡ f e
  silence_alike f e h = go (has ds e)
    where
      go : (b : Bool) → f (cond b (inactive e) e) ≡ f e
      go true = h
      go false = refl

  silence_key : (d e : Edge) → same_key (off d) e ≡ same_key d e
  unfolding same_key inactive
  silence_key d e = silence_alike (λ x. same_key x e) d refl

  -- ---- what is added
  has_silenced : (es : List Edge) (e : Edge) → has (map off es) e ≡ has es e
  unfolding has
  has_silenced [] e = refl
  has_silenced (d ∷ es) e = rw (silence_key d e, has_silenced es e)

  add_silenced : (es : List Edge) (e : Edge) → Regular e → add (map off es) e ≡ map off (add es e)
  unfolding add
  add_silenced es e r = rw (has_silenced es e) (go (has es e))
    where
      go : (b : Bool) → cond b (map off es) (map off es ++ (e ∷ [])) ≡ map off (cond b es (es ++ (e ∷ [])))
      go true = refl
      go false = sym (map-append off es (e ∷ []) ∙ ap (λ (x : Edge). map off es ++ (x ∷ [])) (silence_regular e r))

  pub add_all_silenced : (es cs : List Edge) → Every Regular cs → add_all (map off es) cs ≡ map off (add_all es cs)
  unfolding add_all
  add_all_silenced es [] nil = refl
  add_all_silenced es (c ∷ cs) (cons r h) = rw (add_silenced es c r) (add_all_silenced (add es c) cs h)

  -- ---- the fallback
  covered_silenced : (es : List Edge) (p : ℕ) → covered (map off es) p ≡ covered es p
  unfolding covered inactive
  covered_silenced [] p = refl
  covered_silenced (e ∷ es) p =
      rw (covered_silenced es p) (ap (λ (b : Bool). b || covered es p) (silence_alike (λ x. is_numeric x && (eqb x.start p && eqb x.end (suc p))) e (ap (λ (b : Bool). b && (eqb e.start p && eqb e.end (suc p))) (numeric_off e))))

  pub fallback_silenced : (es : List Edge) (p : ℕ) (w : List ℕ) → fallback (map off es) p w ≡ fallback es p w
  unfolding fallback
  fallback_silenced es p [] = refl
  fallback_silenced es p (c ∷ w) = rw (covered_silenced es p, fallback_silenced es (suc p) w)

  -- ---- bytes
  pub size_silenced : (es : List Edge) → length (edges_bytes (map off es)) ≡ length (edges_bytes es)
  unfolding edges_bytes
  size_silenced [] = refl
  size_silenced (e ∷ es) =
      let h = size_silenced es in
      let k = silence_alike (λ x. length (edge_bytes x)) e (inactive_length e) in
      let a = length-append (edge_bytes (off e)) (edges_bytes (map off es)) in
      let b = length-append (edge_bytes e) (edges_bytes es) in
      omega arith

  pub length_silenced : (es : List Edge) → length (listing_bytes (map off es)) ≡ length (listing_bytes es)
  length_silenced es = length_listing (map off es) ∙ ap (λ (k : ℕ). 2 + k) (size_silenced es) ∙ sym (length_listing es)

pub fallback_regular : (es : List Edge) (p : ℕ) (w : List ℕ) → Every Regular (fallback es p w)
unfolding fallback
fallback_regular es p [] = nil
fallback_regular es p (c ∷ w) = go (ascii_digit c && not (covered es p)) (fallback_regular es (suc p) w)
  where
    go : (b : Bool) → Every Regular (fallback es (suc p) w) → Every Regular (cond b (regular p (suc p) num_type (c ∷ []) ∷ fallback es (suc p) w) (fallback es (suc p) w))
    go true h = cons refl h
    go false h = h
