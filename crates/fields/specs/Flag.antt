-- Fields that may be absent, and marks, in a map of bits. Definitions only.
--     there o      1 where a value is there, 0 where it is absent
--     flag b       1 for true, 0 for false
--     bytes_if f o  the bytes of a field that may be absent
-- Assumes nothing.
use Rattle.std.specs.Prelude.{Bool, cond, List, [], ℕ}
use Rattle.std.proofs.Math.Option.{Option, none, some}

abbrev pub there : {A : Type 0} → Option A → ℕ
there none = 0
there (some a) = 1

abbrev pub flag : Bool → ℕ
flag b = cond b 1 0

abbrev pub bytes_if : {A : Type 0} → (A → List ℕ) → Option A → List ℕ
bytes_if f none = []
bytes_if f (some a) = f a
