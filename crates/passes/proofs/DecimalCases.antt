-- The further call's passes on digits with points between them, and on edges that the plain table does not make (02, S-13): theorems by computation. An edge is given
-- as in Cases.antt, with the place where it starts; every place at which no edge starts holds a point.
--     read l       start, end, value without the point, and decimals of each edge after G4
--     joins p k l r  value and decimals of each edge after pass p of two edges, the first with k decimals
use Prim.Native.Nat.{ℕ, zero, suc}
use mathlib.Core.Path.{◌≡◌, refl}
use mathlib.Core.Bool.{Bool, false, not, ◌||◌}
use mathlib.Core.List.{List, [], ◌∷◌, ◌++◌, map}
use mathlib.Core.Option.{Option, none, some}
use lib.Dec.{eqb}
use Rattle.text.specs.Sequence.{encode}
use Rattle.text.specs.Bytes.{same}
use Rattle.whole.specs.Decimal.{decimal, decimal_within}
use Rattle.passes.specs.Chains.{from, chains}
use Rattle.passes.specs.Passes as passes
use Rattle.passes.specs.Passes.{Pass, G1, G2, G3, G4, five, joined, over, over_digits, d1_rule, g1_rule, g2_rule, g3_rule, g4_rule, digit_edge, gap, nearest, longer, retags, counted_value, counted_base, power_of_ten, power_within}
use Rattle.passes.specs.DecimalPasses.{DecimalEdge, whole_edge, through, after, chains_of, next, next_digit, next_later, joins_digit, joins_point, with_point, decimal_rule, takes_decimal, decimal_product, begin}
use Rattle.passes.proofs.Cases.{Given, digit, other, large, given_edge}
use Rattle.passes.proofs.Cases as given

abbrev here : ℕ → List (ℕ × Given) → Bool
here p [] = false
here p ((i, g) ∷ l) = eqb p i || here p l

abbrev edges : List (ℕ × Given) → List DecimalEdge
edges [] = []
edges ((i, g) ∷ l) = whole_edge (given_edge i g) ∷ edges l

abbrev seen : List DecimalEdge → List (ℕ × ℕ × Option ℕ × ℕ)
seen es = map (λ (e : DecimalEdge). (e.edge.start, e.edge.end, e.edge.value, e.decimals)) es

pub read : List (ℕ × Given) → List (ℕ × ℕ × Option ℕ × ℕ)
unfolding through after chains_of next next_digit next_later joins_digit joins_point with_point decimal_rule takes_decimal decimal_product begin passes.next passes.begin joined over over_digits d1_rule g1_rule g2_rule g3_rule g4_rule digit_edge gap nearest longer retags counted_value counted_base power_of_ten power_within from chains same encode decimal decimal_within
read l = seen (through (λ p. not (here p l)) five (edges l))

-- a digit, and the characters of ten, a hundred, a thousand, ten thousand, each at its place
abbrev d : ℕ → ℕ → ℕ × Given
d i v = (i, digit v (some 1))

abbrev t : ℕ → ℕ → ℕ × Given
t i v = (i, other (some v) (some v))

abbrev l : ℕ → ℕ → ℕ × Given
l i v = (i, large v v)

-- n digits 1 from a place on
abbrev ones : ℕ → ℕ → List (ℕ × Given)
ones i zero = []
ones i (suc n) = d i 1 ∷ ones (suc i) n

pub points :
    -- 1.5
    (read (d 0 1 ∷ d 2 5 ∷ []) ≡ (0, 3, some 15, 1) ∷ [])
    -- two points in a row join nothing
    × (read (d 0 1 ∷ d 3 5 ∷ []) ≡ (0, 1, some 1, 0) ∷ (3, 4, some 5, 0) ∷ [])
    -- "1.2.3 is 1.2, then 3"
    × (read (d 0 1 ∷ d 2 2 ∷ d 4 3 ∷ []) ≡ (0, 3, some 12, 1) ∷ (4, 5, some 3, 0) ∷ [])
    -- "A sixteenth decimal stays outside"
    × (read (d 0 0 ∷ ones 2 16) ≡ (0, 17, some 111111111111111, 15) ∷ (17, 18, some 1, 0) ∷ [])
    -- and begins a new chain
    × (read (d 0 0 ∷ (ones 2 16 ++ (d 19 5 ∷ []))) ≡ (0, 17, some 111111111111111, 15) ∷ (17, 20, some 15, 1) ∷ [])
    -- 2.5千 is 2500
    × (read (d 0 2 ∷ d 2 5 ∷ t 3 1000 ∷ []) ≡ (0, 4, some 2500, 0) ∷ [])
    -- "0.5百 stays two edges", and 0.5万 is 5000
    × (read (d 0 0 ∷ d 2 5 ∷ t 3 100 ∷ []) ≡ (0, 3, some 5, 1) ∷ (3, 4, some 100, 0) ∷ [])
    × (read (d 0 0 ∷ d 2 5 ∷ l 3 10000 ∷ []) ≡ (0, 4, some 5000, 0) ∷ [])
    -- 12.3 is not whole; 123 is
    × (read (d 0 1 ∷ d 2 2 ∷ d 3 3 ∷ t 4 10 ∷ []) ≡ (0, 4, some 123, 2) ∷ (4, 5, some 10, 0) ∷ [])
    × (read (d 0 1 ∷ d 2 2 ∷ d 3 3 ∷ t 4 100 ∷ []) ≡ (0, 5, some 123, 0) ∷ [])
    -- neither G2 nor G4 takes an edge with decimals
    × (read (d 0 1 ∷ t 1 100 ∷ d 2 1 ∷ d 4 5 ∷ []) ≡ (0, 2, some 100, 0) ∷ (2, 5, some 15, 1) ∷ [])
    × (read (d 0 1 ∷ l 1 10000 ∷ d 2 1 ∷ d 4 5 ∷ []) ≡ (0, 2, some 10000, 0) ∷ (2, 5, some 15, 1) ∷ [])
unfolding read
points = (refl, refl, refl, refl, refl, refl, refl, refl, refl, refl, refl, refl)

pub joins : Pass → ℕ → Given → Given → List (Option ℕ × ℕ)
unfolding after chains_of next next_later decimal_rule takes_decimal decimal_product begin passes.next passes.begin joined over g1_rule g2_rule g3_rule g4_rule gap nearest longer retags counted_value counted_base power_of_ten power_within from chains same encode decimal decimal_within
joins p k l r =
    map (λ (e : DecimalEdge). (e.edge.value, e.decimals))
    (after (λ _. false) p (record { edge = given_edge 0 l; decimals = k } ∷ record { edge = given_edge 1 r; decimals = 0 } ∷ []))

pub odd_edges :
    -- a missing right value counts as 0: 1.5 before a base of 100 without value joins to 0
    (joins G1 1 (digit 15 (some 1)) (other none (some 100)) ≡ (some 0, 0) ∷ [])
    -- a product that is not whole is no join and no 7, however large
    × (joins G1 1 (digit 9007199254740991 (some 1)) (other (some 33) (some 33)) ≡ (some 9007199254740991, 1) ∷ (some 33, 0) ∷ [])
    -- the product is exact, whatever its size: (TOP - 1) / 10 times TOP is whole
    × (joins G3 1 (digit 9007199254740990 (some 1)) (large 9007199254740991 10000) ≡ (some 8112963841460665467419124092109, 0) ∷ [])
    -- G2 does not begin with such an edge, also before a gap without value; nor does G4
    × (joins G2 1 (digit 15 (some 100)) (given.zero none none) ≡ (some 15, 1) ∷ (none, 0) ∷ [])
    × (joins G4 1 (digit 15 (some 100)) (other (some 5) (some 1)) ≡ (some 15, 1) ∷ (some 5, 0) ∷ [])
unfolding joins
odd_edges = (refl, refl, refl, refl, refl)
