-- The kind of an edge of the pass list, and the number that is stored for it. Definitions only.
--     kind_number k   the stored number: 0 for a character's edge, 1 to 5 for one that D1, G1, G2, G3, G4 joined
--     kind_from n     the kind that a stored number says; no number above 5 is stored
--     joined_by p     the kind of an edge that pass p joined
-- Assumes nothing.
use Rattle.std.specs.Prelude.{cond, ℕ, eqb}
use Rattle.passes.specs.Passes as passes
use Rattle.pass_list.specs.declared.run.Pass.TheVariants.{D1, G1, G2, G3, G4}
use Rattle.pass_list.specs.declared.kind.Kind.{Kind}
use Rattle.pass_list.specs.declared.kind.Kind.TheVariants.{Character, Joined}

abbrev pub kind_number : Kind → ℕ
kind_number Character = 0
kind_number (Joined D1) = 1
kind_number (Joined G1) = 2
kind_number (Joined G2) = 3
kind_number (Joined G3) = 4
kind_number (Joined G4) = 5

unfoldable pub kind_from : ℕ → Kind
kind_from n =
    cond (eqb n 0) Character (cond (eqb n 1) (Joined D1) (cond (eqb n 2) (Joined G1) (cond (eqb n 3) (Joined G2) (cond (eqb n 4) (Joined G3) (Joined G4)))))

abbrev pub joined_by : passes.Pass → Kind
joined_by passes.D1 = Joined D1
joined_by passes.G1 = Joined G1
joined_by passes.G2 = Joined G2
joined_by passes.G3 = Joined G3
joined_by passes.G4 = Joined G4
