-- The path from start to end (01, "The rest of the call"), and the listing that it is written as. Definitions only.
--     passed b, onward p b     what a step from place p adds to the path, by the right neighbour b, and where it leads
--     path_from right k p z     the path from place p to z, of at most k steps; right gives the right neighbour of a place
--     path right a z           the path from a to z: no step is shorter than a place
--     edge_part s o             the bytes of the edge at an offset of the listing s
--     path_listing s xs         the edges xs of the listing s as a listing: a u16 count, and their bytes
--     path_out ..               the path's listing, or the refusal; 8: "where it is longer than the output"
--     written w, after out w   the call's answer, and the output after it
-- An edge that runs past the end is kept whole. Assumes nothing.
use Rattle.std.specs.Prelude.{ℕ, zero, suc, ◌-◌, Bool, cond, List, [], ◌∷◌, ◌++◌, length, drop, ltb, leb, Result, Ok, Err}
use Rattle.std.proofs.Math.Option.{none, some}
use Rattle.text.specs.declared.Place.{Place}
use Rattle.fields.specs.Fields.{bytes_of}
use Rattle.fields.specs.Part.{part}
use Rattle.edge.specs.Edge.{Edge}
use Rattle.edge.specs.Layout.{next_at}
use Rattle.paths.specs.declared.Query.TheVariants as Query
use Rattle.paths.specs.declared.ReadRefusal.{ReadRefusal}
use Rattle.paths.specs.declared.ReadRefusal.TheVariants.{ShortOutput, BadPlace}
use Rattle.paths.specs.Best.{Best, best, with_offsets}
use Rattle.paths.specs.Reading.{read_check, readable, inside}

-- "a place without one is passed over"
abbrev pub passed : Best → List (ℕ × Edge)
passed none = []
passed (some x) = x ∷ []

abbrev pub onward : ℕ → Best → ℕ
onward p none = suc p
onward p (some x) = x.1.end

-- "takes right neighbours from start until it is at end or past it"
unfoldable pub path_from : (ℕ → Best) → ℕ → ℕ → ℕ → List (ℕ × Edge)
path_from right zero p z = []
path_from right (suc k) p z = cond (ltb p z) (passed (right p) ++ path_from right k (onward p (right p)) z) []

abbrev pub path : (ℕ → Best) → ℕ → ℕ → List (ℕ × Edge)
path right a z = path_from right (z - a) a z

-- ---- as a listing
abbrev pub edge_part : List ℕ → ℕ → List ℕ
edge_part s o = part s o (next_at s o - o)

unfoldable pub edge_parts : List ℕ → List (ℕ × Edge) → List ℕ
edge_parts s [] = []
edge_parts s (x ∷ xs) = edge_part s x.0 ++ edge_parts s xs

unfoldable pub path_listing : List ℕ → List (ℕ × Edge) → List ℕ
path_listing s xs = bytes_of 2 (length xs) ++ edge_parts s xs

-- ---- the call
-- the right neighbours in a listing of k edges
abbrev pub rights : Bool → List ℕ → ℕ → ℕ → Best
rights skip s k p = best skip (Query.Right (record { 0 = p })) (with_offsets k s 2)

pub data PathOut : Type 0 where
  listing : List ℕ → PathOut
  refused : ReadRefusal → PathOut

unfoldable pub fitting : ℕ → List ℕ → PathOut
fitting room bytes = cond (leb (length bytes) room) (listing bytes) (refused ShortOutput)

abbrev pub path_in : List ℕ → Place → Place → Bool → ℕ → ℕ → ℕ → PathOut
path_in s a z skip room n k =
    cond (inside n (Query.Span a z)) (fitting room (path_listing s (path (rights skip s k) a.0 z.0))) (refused BadPlace)

unfoldable pub path_out : List ℕ → List ℕ → Place → Place → Bool → ℕ → PathOut
path_out line s a z skip room = readable refused (path_in s a z skip room) (read_check line s)

abbrev pub written : PathOut → Result ℕ ReadRefusal
written (listing bytes) = Ok (length bytes)
written (refused r) = Err r

-- behind the listing the output is as it was, and all of it on a refusal
abbrev pub after : List ℕ → PathOut → List ℕ
after out (listing bytes) = bytes ++ drop (length bytes) out
after out (refused r) = out
