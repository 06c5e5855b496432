-- A proof sheet of short numerals (02, S-8). Definitions only.
--     words n      all words of n characters over the sixteen, character by character in the sheet's order
--     candidates   all of one to four, shortest first
--     sheet        the rows of those that are numerals of value at most TOP
--     page p n     the rows from position p on that an output of n bytes holds; after p n: the position after them
--     pages p ns   the rows of pages for outputs of ns bytes, the first from position p, each other from the position after the page before
--     Before w u   w stands before u: it is shorter, or of the same length and before it character by character
--     Assumes nothing.
use Rattle.std.specs.Prelude.{ℕ, zero, suc, ◌+◌, ◌-◌, ◌<◌, ◌≡◌, ◌⊎◌, cond, List, [], ◌∷◌, ◌++◌, map, leb, length, drop}
use Rattle.grammar.specs.Plain.{Char}
use Rattle.sheet_rows.specs.Rows.{order, rank, numeral_within, rows_of, row_bytes}

-- each of the characters cs before each of the words ws, in turn
abbrev pub prefixed : List Char → List (List Char) → List (List Char)
prefixed [] ws = []
prefixed (c ∷ cs) ws = map (λ w. c ∷ w) ws ++ prefixed cs ws

-- "character by character in the order 零 to 九, 十百千, 万億兆"
unfoldable pub words : ℕ → List (List Char)
words zero = [] ∷ []
words (suc n) = prefixed order (words n)

-- "of one to four characters over the plain table .. shortest first"
unfoldable pub candidates : List (List Char)
candidates = words 1 ++ (words 2 ++ (words 3 ++ words 4))

-- "every numeral .. whose value is at most TOP .. with its value"
unfoldable pub sheet : List (List Char × ℕ)
sheet = rows_of numeral_within candidates

-- ---- pages

-- "as many whole rows as fit, and none if the first does not"
unfoldable pub fitting : ℕ → List (List Char × ℕ) → List (List Char × ℕ)
fitting n [] = []
fitting n (r ∷ rs) = cond (leb (length (row_bytes r)) n) (r ∷ fitting (n - length (row_bytes r)) rs) []

-- "from any position on, counted in rows from 0"
unfoldable pub page : ℕ → ℕ → List (List Char × ℕ)
page p n = fitting n (drop p sheet)

-- "the position after its last row, or without rows the position asked for"
unfoldable pub after : ℕ → ℕ → ℕ
after p n = p + length (page p n)

-- "so that a caller can print it by pages"
unfoldable pub pages : ℕ → List ℕ → List (List Char × ℕ)
pages p [] = []
pages p (n ∷ ns) = page p n ++ pages (after p n) ns

-- ---- the order of words
abbrev pub Earlier : List Char → List Char → Type 0
Earlier [] u = ⊥
Earlier (c ∷ w) [] = ⊥
Earlier (c ∷ w) (d ∷ u) = (rank c < rank d) ⊎ ((c ≡ d) × Earlier w u)

-- "shortest first, then character by character"
abbrev pub Before : List Char → List Char → Type 0
Before w u = (length w < length u) ⊎ ((length w ≡ length u) × Earlier w u)
