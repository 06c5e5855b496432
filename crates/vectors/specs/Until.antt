-- A word or a line of bytes: what stands before the byte that ends it. Definitions only.
--     until_byte b s   the bytes of s before the first b; all where there is none
--     Assumes nothing.
use Rattle.std.specs.Prelude.{cond, List, [], ◌∷◌, ℕ, eqb}

unfoldable pub until_byte : ℕ → List ℕ → List ℕ
until_byte b [] = []
until_byte b (x ∷ s) = cond (eqb x b) [] (x ∷ until_byte b s)
