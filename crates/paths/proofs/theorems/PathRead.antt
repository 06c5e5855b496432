-- The path's listing (01: "The path is written to the output as a listing"), read again, is the path's edges, and is accepted over the same line.
-- In order: what is read of bytes fits; the edges of an accepted listing; their bytes; the path. Assumes nothing.
use mathlib.Core.Path.{◌≡◌, refl, sym, ap, ◌∙◌, subst}
use mathlib.Core.Bool.{Bool, true, false, ◌&&◌}
use mathlib.Core.List.{List, [], ◌∷◌, map}
use mathlib.Core.Option.{some, some-injective}
use Prim.Native.Nat.{ℕ, zero, suc, ◌+◌, ◌*◌, ◌-◌, ◌^◌, ◌<◌}
use native.Mathlib.Omega.{arith}
use lib.ListN.{length, drop, get_or, length-take}
use native.Mathlib.Nat.{min-le_left, lt_of_le_of_lt}
use lib.Dec.{leb, ltb}
use Rattle.text.proofs.RowLaws.{cond_cases, and-true}
use Rattle.fields.specs.Fields.{le_at}
use Rattle.fields.specs.Part.{part}
use Rattle.fields.proofs.FieldsLaws.{le_at-lt}
use Rattle.edge.specs.Edge.{Edge, Text, edge_bytes, edges_bytes, listing_bytes, EdgeFits, NumericFits}
use Rattle.edge.specs.Layout.{stands, only, map_at, text_at, string_end, txt_at, head_end, fraction_at, base_at, mult_at, script_at, value_sAt, decimals_at, numeric_at, edge_at, next_at, listed}
use Rattle.edge.specs.Check.{allowed, sound, good, check_edges, check_listing}
use Rattle.edge.proofs.CheckLaws.{good_whole}
use Rattle.edge.specs.Legal.{Legal, AllLegal, no_edge, one_more_lem}
use Rattle.edge.proofs.theorems.ListedLaws.{edge_run, edge_map, good_allowed}
use Rattle.edge.proofs.theorems.Theorems.{listing_read_back, listing_accepted}
use Rattle.paths.specs.Best.{with_offsets}
use Rattle.paths.specs.Path.{path, edge_part, edge_parts, path_listing, rights}
use Rattle.paths.specs.declared.Query.TheVariants as Query
use Rattle.paths.proofs.BestLaws.{Each, best_holds}
use Rattle.paths.proofs.PathLaws.{path_each, path_short}
use Rattle.std.specs.Prelude.{Result, Ok}
use Rattle.text.specs.declared.Offset.{Offset}

-- ---- what is read of bytes fits
only_holds : {A : Type 0} (P : A → Type 0) (b : Bool) (a x : A) → only b a ≡ some x → P a → P x
only_holds P true a x e h = subst P (some-injective a x e) h
only_holds P false a x e h = let z : ◌≡◌ {A = ℕ} 0 1 = cc in absurd (omega arith)

module _ (s : List ℕ) (small : (i : ℕ) → get_or s i 0 < 256) where
  text_short : (at : ℕ) → length (text_at s at) < 2 ^ 16
  unfolding text_at part
  text_short at = rw (length-take (le_at s at 2) (drop (at + 2) s)) (lt_of_le_of_lt (min-le_left _ _) (le_at-lt s at 2 small))

  number_fits : (w : ℕ) (b : Bool) (at v : ℕ) → only b (le_at s at w) ≡ some v → v < 2 ^ (8 * w)
  number_fits w b at v e = only_holds (λ (k : ℕ). k < 2 ^ (8 * w)) b (le_at s at w) v e (le_at-lt s at w small)

  text_fits : (b : Bool) (at : ℕ) (t : Text) → only b (text_at s at) ≡ some t → length t < 2 ^ 16
  text_fits b at t e = only_holds (λ (x : Text). length x < 2 ^ 16) b (text_at s at) t e (text_short at)

  numeric_fits : (m at : ℕ) → NumericFits (numeric_at m s at)
  unfolding numeric_at
  numeric_fits m at =
      let v = string_end s at in
      record {
        orig = text_short at;
        value = number_fits 8 (stands 1 m) v;
        fraction = λ p e. only_holds (λ (q : ℕ × ℕ). (q.0 < 2 ^ 64) × (q.1 < 2 ^ 64)) (stands 2 m) (le_at s (fraction_at m v) 8, le_at s (fraction_at m v + 8) 8) p e (le_at-lt s (fraction_at m v) 8 small, le_at-lt s (fraction_at m v + 8) 8 small);
        base = number_fits 8 (stands 3 m) (base_at m v);
        mult = number_fits 8 (stands 4 m) (mult_at m v);
        script = text_fits (stands 5 m) (script_at m v);
        value_s = text_fits (stands 8 m) (value_sAt m s v);
        decimals = number_fits 1 (stands 9 m) (decimals_at m s v);
      }

  pub edge_fits : (at : ℕ) → EdgeFits (edge_at s at)
  unfolding edge_at
  edge_fits at = record {
    start = le_at-lt s (at + 2) 2 small;
    end = le_at-lt s (at + 4) 2 small;
    type = text_short (at + 6);
    txt = text_short (txt_at s at);
    num = λ x e. only_holds NumericFits (stands 0 (map_at s at)) (numeric_at (map_at s at) s (head_end s at)) x e (numeric_fits (map_at s at) (head_end s at));
  }

  -- ---- the edges of an accepted listing over a line of n characters, with their offsets
  module _ (n : ℕ) where
    record Good (x : ℕ × Edge) : Type 0 where
      pub edge : x.1 ≡ edge_at s x.0
      pub checked : good false n s x.0 ≡ true

    edges_good : (k at c : ℕ) → check_edges false n s k at ≡ Ok c → Each Good (with_offsets k s at)
    unfolding check_edges with_offsets
    edges_good zero at c = λ e. tt
    edges_good (suc k) at c =
        cond_cases (λ (r : Result ℕ Offset). r ≡ Ok c → Each Good ((at, edge_at s at) ∷ with_offsets k s (next_at s at))) (good false n s at)
        (λ g e. (record { edge = refl; checked = g }, edges_good k (next_at s at) c e))
        (λ g e. let z : ◌≡◌ {A = ℕ} 0 1 = cc in absurd (omega arith))

    counted : (j at k : ℕ) → check_edges false n s j at ≡ Ok k → le_at s 0 2 ≡ k
    unfolding check_edges
    counted zero at k =
        cond_cases (λ (r : Result ℕ Offset). r ≡ Ok k → le_at s 0 2 ≡ k) (ltb at (length s)) (λ t e. let z : ◌≡◌ {A = ℕ} 0 1 = cc in absurd (omega arith)) (λ t e. cc)
    counted (suc j) at k =
        cond_cases (λ (r : Result ℕ Offset). r ≡ Ok k → le_at s 0 2 ≡ k) (good false n s at)
        (λ t e. counted j (next_at s at) k e)
        (λ t e. let z : ◌≡◌ {A = ℕ} 0 1 = cc in absurd (omega arith))

    listing_good : (k : ℕ) → check_listing false n s ≡ Ok k → Each Good (with_offsets k s 2)
    unfolding check_listing
    listing_good k =
        cond_cases (λ (r : Result ℕ Offset). r ≡ Ok k → Each Good (with_offsets k s 2)) (leb 2 (length s))
        (λ t e. let c = counted (le_at s 0 2) 2 k e in rw (← c) (edges_good (le_at s 0 2) 2 k e))
        (λ t e. let z : ◌≡◌ {A = ℕ} 0 1 = cc in absurd (omega arith))

    -- ---- their bytes, and what they may be
    part_is : (x : ℕ × Edge) → Good x → edge_part s x.0 ≡ edge_bytes x.1
    part_is x g =
        let r = edge_run s small false x.0 (good_whole false n s x.0 g.checked) (good_allowed false n s x.0 g.checked) in
        let e = r.ends in
        let w : next_at s x.0 - x.0 ≡ r.width = omega arith in
        rw (w, g.edge) (sym r.bytes)

    legal : (x : ℕ × Edge) → Good x → Legal false n x.1
    unfolding good
    legal x g =
        let a = good_allowed false n s x.0 g.checked in
        let t = (and-true (leb (next_at s x.0) (length s)) (allowed false (map_at s x.0) && sound n (edge_at s x.0)) g.checked).1 in
        rw g.edge
        (record { fits = edge_fits x.0; map = rw (edge_map s small x.0 a) a; content = (and-true (allowed false (map_at s x.0)) (sound n (edge_at s x.0)) t).1 })

    abbrev edges : List (ℕ × Edge) → List Edge
    edges = map (λ (x : ℕ × Edge). x.1)

    parts_are : (xs : List (ℕ × Edge)) → Each Good xs → edge_parts s xs ≡ edges_bytes (edges xs)
    unfolding edge_parts edges_bytes
    parts_are [] g = refl
    parts_are (x ∷ xs) g = rw (part_is x g.0, parts_are xs g.1)

    all_legal : (xs : List (ℕ × Edge)) → Each Good xs → AllLegal false n (edges xs)
    all_legal [] g = no_edge
    all_legal (x ∷ xs) g = one_more_lem (legal x g.0) (all_legal xs g.1)

    length_edges : (xs : List (ℕ × Edge)) → length (edges xs) ≡ length xs
    length_edges [] = refl
    length_edges (x ∷ xs) = ap suc (length_edges xs)

    listing_is : (xs : List (ℕ × Edge)) → Each Good xs → path_listing s xs ≡ listing_bytes (edges xs)
    unfolding path_listing listing_bytes
    listing_is xs g = rw (parts_are xs g, length_edges xs)

    -- ---- the path
    module _ (k : ℕ) (accepted : check_listing false n s ≡ Ok k) (skip : Bool) (a z : ℕ) (few : z - a < 2 ^ 16) where
      abbrev taken : List (ℕ × Edge)
      taken = path (rights skip s k) a z

      taken_good : Each Good taken
      taken_good = path_each Good (rights skip s k) (λ p. best_holds skip (Query.Right (record { 0 = p })) Good (with_offsets k s 2) (listing_good k accepted)) z (z - a) a

      taken_few : length (edges taken) < 2 ^ 16
      taken_few = rw (length_edges taken) (lt_of_le_of_lt (path_short (rights skip s k) z (z - a) a) few)

      -- what the path writes is read as its edges
      pub path_read_back : listed (path_listing s taken) ≡ edges taken
      path_read_back = rw (listing_is taken taken_good) (listing_read_back false n (edges taken) (all_legal taken taken_good) taken_few)

      -- and accepted over the same line
      pub path_accepted : check_listing false n (path_listing s taken) ≡ Ok (length taken)
      path_accepted = rw (listing_is taken taken_good) (listing_accepted false n (edges taken) (all_legal taken taken_good) taken_few ∙ ap Ok (length_edges taken))
