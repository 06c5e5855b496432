-- Marks of places, one for each place of an edge that meets a test: an edge of the lattice or of a pass. Definitions only.
--     any_at test place es p   an edge of es that meets the test has p for its place
--     Assumes nothing.
use Rattle.std.specs.Prelude.{ℕ, Bool, false, ◌&&◌, ◌||◌, List, [], ◌∷◌, eqb}

unfoldable pub any_at : {A : Type 0} → (A → Bool) → (A → ℕ) → List A → ℕ → Bool
any_at test place [] p = false
any_at test place (e ∷ es) p = (eqb (place e) p && test e) || any_at test place es p
