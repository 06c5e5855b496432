-- Refusal 6 (01): what a listing may not hold, and the offset that is answered. Definitions only.
--     allowed given m        the map m may stand: of a given edge only 0, else bits 0 to 9, and without bit 0 no other
--     sound n e              the edge e may stand over a line of n characters: its span, strings and numbers
--     good given n s at      the edge at an offset is whole, and may stand
--     check_edges ..          k edges are left from an offset on: the first that is not good, or what is left over
--     check_listing given n s the answer for the listing s over a line of n characters; given: its edges are given to the call
--     good_from, fault_from    k edges from an offset on are good, and nothing is left over; the first of them that is not, or what is left over
--     listing_number, listing_offset   what 01's table says of a listing: 6, or 0 where it is accepted; the offset, or the count of edges
--     listing_refusal r, listing_place r    01's number of an answer, 0 where the listing is accepted; its offset, or the count of edges
--     ListingAnswer given n s r   r is the answer for the listing s, and says its number and its offset or count
--     Assumes nothing.
use Rattle.std.specs.Prelude.{ℕ, zero, suc, ◌≡◌, Bool, true, cond, not, ◌&&◌, List, eqb, ltb, leb, length, Result, Ok, Err}
use Rattle.std.proofs.Math.Option.{Option, none, some}
use Rattle.whole.specs.Whole.{TOP}
use Rattle.text.specs.Text.{well_formed}
use Rattle.fields.specs.Fields.{le_at}
use Rattle.edge.specs.Edge.{Numeric, Edge}
use Rattle.edge.specs.Layout.{stands, map_at, next_at, edge_at}
use Rattle.text.specs.declared.Offset.{Offset}

unfoldable pub allowed : Bool → ℕ → Bool
allowed given m = cond given (eqb m 0) (cond (stands 0 m) (ltb m 1024) (eqb m 0))

-- ---- content
-- a field that is absent is sound
abbrev pub each : {A : Type 0} → (A → Bool) → Option A → Bool
each p none = true
each p (some a) = p a

abbrev pub up_to_top : ℕ → Bool
up_to_top v = leb v TOP

abbrev pub sound_fraction : ℕ × ℕ → Bool
sound_fraction p = (up_to_top p.0 && up_to_top p.1) && ltb 0 p.1

-- 02, S-13: "a count outside 1 to 15 is 6"
abbrev pub sound_count : ℕ → Bool
sound_count k = leb 1 k && leb k 15

abbrev pub sound_numbers : Option (ℕ × ℕ) → Option ℕ → Option ℕ → Bool
sound_numbers fraction base decimals = (each sound_fraction fraction && each up_to_top base) && each sound_count decimals

unfoldable pub sound_numeric : Numeric → Bool
sound_numeric n = ((sound_numbers n.fraction n.base n.decimals && well_formed n.orig) && each well_formed n.script) && each well_formed n.value_s

unfoldable pub sound : ℕ → Edge → Bool
sound n e = ((ltb e.start e.end && leb e.end n) && (well_formed e.type && well_formed e.txt)) && each sound_numeric e.num

-- ---- the listing
unfoldable pub good : Bool → ℕ → List ℕ → ℕ → Bool
good given n s at = leb (next_at s at) (length s) && (allowed given (map_at s at) && sound n (edge_at s at))

unfoldable pub check_edges : Bool → ℕ → List ℕ → ℕ → ℕ → Result ℕ Offset
check_edges given n s zero at = cond (ltb at (length s)) (Err (record { 0 = at })) (Ok (le_at s 0 2))
check_edges given n s (suc k) at = cond (good given n s at) (check_edges given n s k (next_at s at)) (Err (record { 0 = at }))

-- a listing that has no whole count is refused at 0
unfoldable pub check_listing : Bool → ℕ → List ℕ → Result ℕ Offset
check_listing given n s = cond (leb 2 (length s)) (check_edges given n s (le_at s 0 2) 2) (Err (record { 0 = 0 }))

-- ---- what 01's table says of it
unfoldable pub good_from : Bool → ℕ → List ℕ → ℕ → ℕ → Bool
good_from given n s zero at = not (ltb at (length s))
good_from given n s (suc k) at = good given n s at && good_from given n s k (next_at s at)

unfoldable pub fault_from : Bool → ℕ → List ℕ → ℕ → ℕ → ℕ
fault_from given n s zero at = at
fault_from given n s (suc k) at = cond (good given n s at) (fault_from given n s k (next_at s at)) at

-- the listing has a whole count and as many good edges, and no more
abbrev pub accepted : Bool → ℕ → List ℕ → Bool
accepted given n s = leb 2 (length s) && good_from given n s (le_at s 0 2) 2

abbrev pub listing_number : Bool → ℕ → List ℕ → ℕ
listing_number given n s = cond (accepted given n s) 0 6

-- "offset of the edge, or leftover; 0 if the count is cut off"
abbrev pub listing_offset : Bool → ℕ → List ℕ → ℕ
listing_offset given n s = cond (accepted given n s) (le_at s 0 2) (cond (leb 2 (length s)) (fault_from given n s (le_at s 0 2) 2) 0)

-- 01's number of an answer, 0 where the listing is accepted; its offset, or the count of edges
abbrev pub listing_refusal : Result ℕ Offset → ℕ
listing_refusal (Ok count) = 0
listing_refusal (Err at) = 6

abbrev pub listing_place : Result ℕ Offset → ℕ
listing_place (Ok count) = count
listing_place (Err at) = at.0

pub record ListingAnswer (given : Bool) (n : ℕ) (s : List ℕ) (r : Result ℕ Offset) : Type 0 where
  pub is : r ≡ check_listing given n s
  pub number : listing_refusal r ≡ listing_number given n s
  pub place : listing_place r ≡ listing_offset given n s
