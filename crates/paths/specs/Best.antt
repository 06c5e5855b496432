-- The best edge of a span and the neighbours of a place (01, "The rest of the call"; 02, S-5). Definitions only.
--     starts_with t p       the text t begins with p
--     class skip e         the class of an edge, the best one the greatest; 0: it is never given
--     asked q a z          an edge from a to z is of the span that q asks for, or starts or ends at its place
--     score skip q e       a longer span scores higher, then a better class; 0: e is no answer
--     highest skip q xs    the class: the highest score of the edges xs; 0 where each scores 0
--     first_of skip q v xs  the choice: of the edges xs the first in listing order that scores v
--     best skip q xs       of edges with labels, the first of its class; none where each scores 0
--     numbered i es        the edges es with their indices, from i on, as labels
--     right_neighbor ..     the best of a list of edges, with its index; left_neighbor likewise
--     with_offsets k s at   the k edges of a listing from an offset on, with their offsets as labels
--     Whole k s at         these edges are within s
--     found b              the answer of the code: the label, an offset, or none
-- Assumes nothing.
use Rattle.std.specs.Prelude.{ℕ, zero, suc, ◌+◌, ◌-◌, ◌*◌, ◌≤◌, max, Bool, cond, ◌&&◌, ◌||◌, List, [], ◌∷◌, length, take, eqb, ltb, Some, None}
use Rattle.std.proofs.Math.Option.{Option, none, some}
use Rattle.text.specs.Bytes.{same}
use Rattle.text.specs.declared.Offset.{Offset}
use Rattle.edge.specs.Edge.{Text, Numeric, Edge}
use Rattle.edge.specs.Layout.{edge_at, next_at}
use Rattle.paths.specs.declared.Query.{Query}
use Rattle.paths.specs.declared.Query.TheVariants.{Span, Right, Left}
use Rattle.std.specs.Prelude as std

-- ---- classes
unfoldable pub starts_with : Text → Text → Bool
starts_with t p = same (take (length p) t) p

-- "rom", "rom decomp" and "num"
abbrev pub rom : Text
rom = 114 ∷ 111 ∷ 109 ∷ []

abbrev pub rom_decomp : Text
rom_decomp = 114 ∷ 111 ∷ 109 ∷ 32 ∷ 100 ∷ 101 ∷ 99 ∷ 111 ∷ 109 ∷ 112 ∷ []

abbrev pub num : Text
num = 110 ∷ 117 ∷ 109 ∷ []

-- "regular of type "rom.." (not "rom decomp..") or "num..", then "rom decomp..", then other regular"
unfoldable pub regular_class : Text → ℕ
regular_class ty = cond (starts_with ty rom_decomp) 3 (cond (starts_with ty rom || starts_with ty num) 4 2)

-- "active numeric, then [regular], then inactive numeric; with skip set, no numeric"
abbrev pub class_by : Bool → Text → Option Numeric → ℕ
class_by skip ty none = regular_class ty
class_by skip ty (some n) = cond skip 0 (cond n.active 5 1)

unfoldable pub class : Bool → Edge → ℕ
class skip e = class_by skip e.type e.num

-- ---- what is asked
unfoldable pub asked : Query → ℕ → ℕ → Bool
asked (Span a z) start end = eqb start a.0 && eqb end z.0
asked (Right p) start end = eqb start p.0
asked (Left p) start end = eqb end p.0

-- "the longest span with a best edge": classes are below 8
abbrev pub rank : ℕ → ℕ → ℕ
rank c len = cond (eqb c 0) 0 (len * 8 + c)

unfoldable pub score : Bool → Query → Edge → ℕ
score skip q e = cond (asked q e.start e.end) (rank (class skip e) (e.end - e.start)) 0

-- ---- the best of a list; an edge has a label, by which it is found again
abbrev pub Best : Type 0
Best = Option (ℕ × Edge)

-- the class: edges of one score have one length and one class, and the highest score is that of the longest span and there of the best class
unfoldable pub highest : Bool → Query → List (ℕ × Edge) → ℕ
highest skip q [] = 0
highest skip q (x ∷ xs) = max (score skip q x.1) (highest skip q xs)

-- the choice (02, S-5): "the first of its class in listing order, where 01 lets any of them be given"
unfoldable pub first_of : Bool → Query → ℕ → List (ℕ × Edge) → Best
first_of skip q v [] = none
first_of skip q v (x ∷ xs) = cond (eqb (score skip q x.1) v) (some x) (first_of skip q v xs)

unfoldable pub best : Bool → Query → List (ℕ × Edge) → Best
best skip q xs = cond (ltb 0 (highest skip q xs)) (first_of skip q (highest skip q xs) xs) none

-- ---- of a list of edges
unfoldable pub numbered : ℕ → List Edge → List (ℕ × Edge)
numbered i [] = []
numbered i (e ∷ es) = (i, e) ∷ numbered (suc i) es

abbrev pub right_neighbor : Bool → List Edge → ℕ → Best
right_neighbor skip es p = best skip (Right (record { 0 = p })) (numbered 0 es)

abbrev pub left_neighbor : Bool → List Edge → ℕ → Best
left_neighbor skip es p = best skip (Left (record { 0 = p })) (numbered 0 es)

-- ---- of a listing's bytes
unfoldable pub with_offsets : ℕ → List ℕ → ℕ → List (ℕ × Edge)
with_offsets zero s at = []
with_offsets (suc k) s at = (at, edge_at s at) ∷ with_offsets k s (next_at s at)

unfoldable pub Whole : ℕ → List ℕ → ℕ → Type 0
Whole zero s at = at ≤ length s
Whole (suc k) s at = (next_at s at ≤ length s) × Whole k s (next_at s at)

-- an edge kept by its score and its offset: none where the score is 0
abbrev pub kept : List ℕ → ℕ → ℕ → Best
kept s top x = cond (ltb 0 top) (some (x, edge_at s x)) none

unfoldable pub found : Best → std.Option Offset
found none = None
found (some x) = Some (record { 0 = x.0 })
