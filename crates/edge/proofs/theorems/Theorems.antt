-- What is promised of listings beyond the contracts: what was listed is read and accepted, what is accepted is the bytes of its edges, and equal
-- bytes are equal edges. Assumes nothing.
use mathlib.Core.Path.{◌≡◌, refl, sym, ap, ◌∙◌}
use mathlib.Core.Bool.{Bool, true, not}
use mathlib.Core.List.{List, [], ◌∷◌, ◌++◌}
use Prim.Native.Nat.{ℕ, ◌+◌, ◌^◌, ◌≤◌, ◌<◌}
use native.Mathlib.Omega.{arith}
use lib.ListN.{length, drop, get_or, length-append, length-drop}
use lib.Dec.{T}
use lib.Ieee.{binary64, of_bits, nan_bits}
use lib.Ieee.Bits.{of_bits-to_bits, to_bits-lt}
use Rattle.whole.specs.Whole.{TOP, of_nat}
use Rattle.whole.proofs.WholeLaws.{of_nat-fits, of_nat-bits_not_nan}
use borrow.Author.Tests.{le-leb, le-ltb}
use Rattle.fields.specs.Fields.{le_at, bytes_of}
use Rattle.fields.proofs.FieldsLaws.{length-bytes_of, le_at-bytes_of}
use Rattle.edge.specs.Edge.{Edge, edge_bytes, edges_bytes, listing_bytes, EdgeFits, f64_bits}
use Rattle.edge.specs.Layout.{next_at, edge_at, edges_at, listed}
use Rattle.edge.specs.Check.{good, check_edges, check_listing}
use Rattle.edge.specs.Legal.{Legal, AllLegal, one_more_lem}
use Rattle.edge.proofs.theorems.ListedLaws.{accepted_listed}
use Rattle.edge.proofs.theorems.ReadBackLaws.{number_behind, edge_there, edge_behind}
use Rattle.std.specs.Prelude.{Ok}

-- ---- an edge
-- what was listed is read, whatever stands behind it
pub edge_read_back : (e : Edge) (rest : List ℕ) → EdgeFits e → edge_at (edge_bytes e ++ rest) 0 ≡ e
edge_read_back e rest f = (edge_there (edge_bytes e ++ rest) 0 rest e f refl).is

-- no edge's bytes begin with another's
pub edge_prefix_free : (e f : Edge) (r t : List ℕ) → EdgeFits e → EdgeFits f → edge_bytes e ++ r ≡ edge_bytes f ++ t → e ≡ f
edge_prefix_free e f r t x y h = sym (edge_read_back e r x) ∙ ap (λ (s : List ℕ). edge_at s 0) h ∙ edge_read_back f t y

pub edge_bytes_injective : (e f : Edge) → EdgeFits e → EdgeFits f → edge_bytes e ≡ edge_bytes f → e ≡ f
edge_bytes_injective e f x y h = edge_prefix_free e f [] [] x y (ap (λ (s : List ℕ). s ++ []) h)

-- ---- a listing
inside : (s : List ℕ) (at : ℕ) (a b : List ℕ) → at ≤ length s → drop at s ≡ a ++ b → at + length a ≤ length s
inside s at a b h e = let l = length-drop at s in let k = ap length e ∙ length-append a b in omega arith

at_end : (s : List ℕ) (at : ℕ) → drop at s ≡ [] → length s ≤ at
at_end s at e = let l = length-drop at s in let k : length (drop at s) ≡ 0 = ap length e in omega arith

-- edges that stand to the end of s are read, and accepted
module _ (given : Bool) (n : ℕ) (s : List ℕ) where
  edges_read : (es : List Edge) (at : ℕ) → AllLegal given n es → drop at s ≡ edges_bytes es → edges_at (length es) s at ≡ es
  unfolding edges_bytes edges_at
  edges_read [] at l stand = refl
  edges_read (e ∷ es) at (one_more_lem l ls) stand =
      rw (edge_there s at (edges_bytes es) e l.fits stand).is (ap (λ (r : List Edge). e ∷ r) (edges_read es (next_at s at) ls (edge_behind s at (edges_bytes es) e l.fits stand)))

  module _ (e : Edge) (at : ℕ) (rest : List ℕ) (l : Legal given n e) (h : at ≤ length s) (stand : drop at s ≡ edge_bytes e ++ rest) where
    edge_inside : next_at s at ≤ length s
    edge_inside = rw (edge_there s at rest e l.fits stand).ends (inside s at (edge_bytes e) rest h stand)

    edge_legal : good given n s at ≡ true
    unfolding good
    edge_legal =
        let r = edge_there s at rest e l.fits stand in
        rw (le-leb (next_at s at) (length s) edge_inside, r.map, r.is, l.map, l.content)

  edges_accepted : (es : List Edge) (at : ℕ) → AllLegal given n es → at ≤ length s → drop at s ≡ edges_bytes es → check_edges given n s (length es) at ≡ Ok (le_at s 0 2)
  unfolding edges_bytes check_edges
  edges_accepted [] at l h stand = rw (le-ltb at (length s) (at_end s at stand))
  edges_accepted (e ∷ es) at (one_more_lem l ls) h stand =
      rw (edge_legal e at (edges_bytes es) l h stand) (edges_accepted es (next_at s at) ls (edge_inside e at (edges_bytes es) l h stand) (edge_behind s at (edges_bytes es) e l.fits stand))

module _ (given : Bool) (n : ℕ) (es : List Edge) (legal : AllLegal given n es) (few : length es < 2 ^ 16) where
  count_read : le_at (listing_bytes es) 0 2 ≡ length es
  unfolding listing_bytes
  count_read = le_at-bytes_of 2 (length es) (edges_bytes es) few

  edges_row : drop 2 (listing_bytes es) ≡ edges_bytes es
  unfolding listing_bytes
  edges_row = number_behind (bytes_of 2 (length es) ++ edges_bytes es) 0 2 (length es) (edges_bytes es) refl

  count_inside : 2 ≤ length (listing_bytes es)
  unfolding listing_bytes
  count_inside = let l = length-bytes_of 2 (length es) in simp length-append (omega arith)

  -- what was listed is read
  pub listing_read_back : listed (listing_bytes es) ≡ es
  listing_read_back = rw count_read (edges_read given n (listing_bytes es) es 2 legal edges_row)

  -- and accepted
  pub listing_accepted : check_listing given n (listing_bytes es) ≡ Ok (length es)
  unfolding check_listing
  listing_accepted =
      rw (le-leb 2 (length (listing_bytes es)) count_inside, count_read) (edges_accepted given n (listing_bytes es) es 2 legal count_inside edges_row ∙ ap Ok count_read)

-- an accepted listing is the bytes of its edges, each byte being below 256
pub accepted_is_listed : (given : Bool) (n : ℕ) (s : List ℕ) → ((i : ℕ) → get_or s i 0 < 256) → (count : ℕ) → check_listing given n s ≡ Ok count → listing_bytes (listed s) ≡ s
accepted_is_listed = accepted_listed

-- ---- floats: the bits of a whole number up to TOP are a u64, no NaN, and those of the number's f64
pub f64_bits_fit : (v : ℕ) → f64_bits v < 2 ^ 64
unfolding f64_bits
f64_bits_fit v = to_bits-lt binary64 (of_nat v) (of_nat-fits v)

pub f64_bits_not_nan : {v : ℕ} → v ≤ TOP → T (not (nan_bits binary64 (f64_bits v)))
unfolding f64_bits
f64_bits_not_nan h = of_nat-bits_not_nan h

pub f64_bits_back : (v : ℕ) → of_bits binary64 (f64_bits v) ≡ of_nat v
unfolding f64_bits
f64_bits_back v = of_bits-to_bits binary64 (of_nat v) (of_nat-fits v)
