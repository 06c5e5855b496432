-- A column of a row that the program prints (01: "tabs between .. a newline ends each row"). Definitions only.
--     ended bs by   what stands in the column, and the byte that ends it: a tab (9), a newline (10) or a space (32)
--     Assumes nothing.
use Rattle.std.specs.Prelude.{ℕ, List, [], ◌∷◌, ◌++◌}

abbrev pub ended : List ℕ → ℕ → List ℕ
ended bs by = bs ++ (by ∷ [])
