-- How lent work space keeps a lattice. Definitions only.
--     bytes            hold
--     0 ..             the listing as it stands, count and edges, 32,768 bytes at most; behind it an edge is composed before it is added
--     34,816 OFFSETS   the offset of each edge, u16 x 1,024
--     36,864 NEXTS     the last earlier edge of its bucket, u16 x 1,024
--     38,912 HEADS     the last edge of each bucket, u16 x 256
--     39,424 END       nothing of the lattice from here on
--
--     SameBehind s u    what stands behind the lattice in s is in u as it was
--     cell s base i     the i-th u16 from an offset on
--     key e             the bytes of an edge that tell it apart: start, end, type and txt; no key begins another
--     hash bs           a hash of the bytes of a key, below 256
--     bucket e          the bucket of an edge, by the hash of its key
--     last_in es b k     one more than the index of the last of the first k edges that is in bucket b; 0: there is none
--     offset es i       where the i-th edge stands in the listing
--     Fits e            the numbers of e fit their bytes
--     Kept w n len es   the work space w keeps the n edges es in a listing of len bytes
--     Keyed s at n e    the n bytes of s from an offset on are the key of e
--     Stands s at n to e    the edge e stands in s from at to the offset to
--     Holds w l es      what a `Lattice` and the work space say of the edges es: they are kept, or they are too many or too long to be
--     finished, finished_out    the answer of `finish`, and the output after it
--     Assumes nothing.
use Rattle.std.specs.Prelude.{◌≡◌, ◌⊎◌, Bool, true, false, cond, ◌||◌, List, [], ◌∷◌, ◌++◌, ℕ, zero, suc, ◌+◌, ◌*◌, ◌/◌, ◌%◌, ◌-◌, ◌≤◌, ◌<◌, length, take, drop, get_or, eqb, ltb, Option, Some, None}
use Rattle.std.proofs.Math.Option.{none}
use Rattle.std.proofs.lemmas.List.Edits.{sets}
use Rattle.fields.specs.Fields.{le_at, bytes_of, u16_limit}
use Rattle.fields.specs.Part.{part}
use Rattle.edge.specs.Edge.{Edge, str, edge_bytes, edges_bytes, listing_bytes}
use Rattle.edge.specs.Layout.{stands}
use Rattle.lattice.specs.declared.Lattice.{Lattice}
use Rattle.lattice.specs.declared.Adding.{Adding}
use Rattle.lattice.specs.declared.Adding.TheVariants.{Nothing, TooMuch, Into}
use Rattle.lattice.specs.Lattice.{has, overfull, most_edges, most_bytes}

-- ---- the layout
abbrev pub OFFSETS : ℕ
OFFSETS = 34816

abbrev pub NEXTS : ℕ
NEXTS = 36864

abbrev pub HEADS : ℕ
HEADS = 38912

abbrev pub END : ℕ
END = 39424

-- what stands behind the lattice in the work space s is in u as it was
abbrev pub SameBehind : List ℕ → List ℕ → Type 0
SameBehind s u = drop END u ≡ drop END s

-- an edge may be composed in so many bytes behind the listing, before it is added
abbrev pub SLACK : ℕ
SLACK = 2048

abbrev pub BUCKETS : ℕ
BUCKETS = 256

abbrev pub cell : List ℕ → ℕ → ℕ → ℕ
cell s base i = le_at s (base + 2 * i) 2

-- the cells and the count with one edge more, the n-th, at offset len and of bucket b
abbrev pub linked : List ℕ → ℕ → ℕ → ℕ → List ℕ
linked w n len b =
    sets (sets (sets (sets w (OFFSETS + 2 * n) (bytes_of 2 len)) (NEXTS + 2 * n) (bytes_of 2 (cell w HEADS b))) (HEADS + 2 * b) (bytes_of 2 (n + 1))) 0
    (bytes_of 2 (n + 1))

-- ---- buckets
unfoldable pub key : Edge → List ℕ
key e = bytes_of 2 e.start ++ (bytes_of 2 e.end ++ (str e.type ++ str e.txt))

-- any spread would do: the factor is 2 ^ 32 less 2 ^ 32 over the golden ratio
abbrev pub mixed : ℕ → ℕ → ℕ
mixed h v = (h + v) * 1640531527 % 4294967296

-- of a key its length, its first four bytes, which are start and end, and its last four, with which its txt ends: few edges of one span agree in these
unfoldable pub hash : List ℕ → ℕ
hash bs = mixed (mixed (length bs % 4294967296) (le_at bs 0 4)) (le_at bs (length bs - 4) 4) / 16777216

abbrev pub bucket : Edge → ℕ
bucket e = hash (key e)

-- what an index past the end of a list gives
abbrev pub no_edge : Edge
no_edge = record { start = 0; end = 0; type = []; txt = []; num = none }

unfoldable pub last_in : List Edge → ℕ → ℕ → ℕ
last_in es b zero = 0
last_in es b (suc k) = cond (eqb (bucket (get_or es k no_edge)) b) (suc k) (last_in es b k)

-- ---- edges in the work space
-- a map without the bit of active edges
unfoldable pub inactive_map : ℕ → ℕ
inactive_map m = cond (stands 7 m) (m - 128) m

unfoldable pub offset : List Edge → ℕ → ℕ
offset es i = 2 + length (edges_bytes (take i es))

pub record Fits (e : Edge) : Type 0 where
  pub start : e.start < u16_limit
  pub end : e.end < u16_limit
  pub type : length e.type < u16_limit
  pub txt : length e.txt < u16_limit

pub record Kept (w : List ℕ) (n len : ℕ) (es : List Edge) : Type 0 where
  pub room : END ≤ length w
  pub count : length es ≡ n
  pub few : n ≤ most_edges
  pub short : len ≤ most_bytes
  pub size : len ≡ length (listing_bytes es)
  pub listing : part w 0 len ≡ listing_bytes es
  pub fits : (i : ℕ) → i < n → Fits (get_or es i no_edge)
  pub offsets : (i : ℕ) → i < n → cell w OFFSETS i ≡ offset es i
  pub nexts : (i : ℕ) → i < n → cell w NEXTS i ≡ last_in es (bucket (get_or es i no_edge)) i
  pub heads : (b : ℕ) → b < BUCKETS → cell w HEADS b ≡ last_in es b n

pub record Keyed (s : List ℕ) (at n : ℕ) (e : Edge) : Type 0 where
  pub fits : Fits e
  pub there : part s at n ≡ key e
  pub inside : at + n ≤ length s

-- its key is n bytes long
pub record Stands (s : List ℕ) (at n to : ℕ) (e : Edge) : Type 0 where
  pub fits : Fits e
  pub there : part s at (length (edge_bytes e)) ≡ edge_bytes e
  pub keyed : n ≡ length (key e)
  pub ends : to ≡ at + length (edge_bytes e)
  pub inside : to ≤ length s

-- edges that are too many or too long for a listing are not kept: the length is 0 then, which no listing has
pub record Holds (w : List ℕ) (l : Lattice) (es : List Edge) : Type 0 where
  pub room : END ≤ length w
  pub short : l.len ≤ most_bytes
  pub state : ((l.len ≡ 0) × (overfull es ≡ true)) ⊎ ((l.len ≡ 0 → ⊥) × Kept w l.count l.len es)

-- a lattice, and a key in s of bucket b
pub record Search (w s : List ℕ) (at n b : ℕ) : Type 0 where
  pub count : ℕ
  pub len : ℕ
  pub es : List Edge
  pub e : Edge
  pub kept : Kept w count len es
  pub keyed : Keyed s at n e
  pub in_bucket : b ≡ bucket e

-- what is to be done with an edge e, and why
unfoldable pub AddingIs : Lattice → List Edge → Edge → Adding → Type 0
AddingIs l es e Nothing = (l.len ≡ 0) ⊎ (has es e ≡ true)
AddingIs l es e TooMuch = (l.len ≡ 0 → ⊥) × (has es e ≡ false) × (overfull (es ++ (e ∷ [])) ≡ true)
AddingIs l es e (Into b) = (l.len ≡ 0 → ⊥) × (has es e ≡ false) × (l.count < most_edges) × (l.len + length (edge_bytes e) ≤ most_bytes) × (b ≡ bucket e)

-- ---- the end: "over 1,024 edges, over 32,768 bytes, or longer than the output"
unfoldable pub too_long : ℕ → List Edge → Bool
too_long room es = overfull es || ltb room (length (listing_bytes es))

unfoldable pub finished : ℕ → List Edge → Option ℕ
finished room es = cond (too_long room es) None (Some (length (listing_bytes es)))

-- refused: the output is as it was
unfoldable pub finished_out : List ℕ → List Edge → List ℕ
finished_out out es = cond (too_long (length out) es) out (sets out 0 (listing_bytes es))
