-- F1: numbers that follow a digit are set apart (01, "The rest of the call"). Definitions only.
--     ends_before es p   an edge of es that ends at place p has a txt that ends with a decimal digit
--     apart es e        e is numeric, its txt begins with a decimal digit, and it stands right after such an edge
--     copy_of e          the copy that is added: "·" before its txt, or a space if it has a fraction
--     separate es       the lattice es after F1
--     Assumes nothing.
use Rattle.std.specs.Prelude.{ℕ, Bool, true, false, cond, ◌&&◌, ◌||◌, List, [], ◌∷◌, ◌++◌, map, eqb}
use Rattle.std.proofs.Math.Option.{Option, none, some}
use Rattle.digits.specs.TextEnds.{first_is_digit, last_is_digit}
use Rattle.text.specs.Text.{chars}
use Rattle.edge.specs.Edge.{Text, Edge, Numeric}
use Rattle.lattice.specs.Lattice.{add_all, inactive}
use Rattle.numbers.specs.Fractions.{is_numeric}

-- "any edge whose txt ends with one"
unfoldable pub ends_before : List Edge → ℕ → Bool
ends_before [] p = false
ends_before (d ∷ ds) p = (eqb d.end p && last_is_digit (chars d.txt)) || ends_before ds p

-- "a numeric edge whose txt begins with a decimal digit, right after any edge .."
unfoldable pub apart : List Edge → Edge → Bool
apart es e = is_numeric e && (first_is_digit (chars e.txt) && ends_before es e.start)

abbrev pub has_fraction : Option Numeric → Bool
has_fraction none = false
has_fraction (some n) = elim n.fraction [ none ↦ false | some f ↦ true ]

-- U+00B7, or a space
abbrev pub separator : Edge → Text
separator e = cond (has_fraction e.num) (32 ∷ []) (0xC2 ∷ 0xB7 ∷ [])

-- "active as it was"
unfoldable pub copy_of : Edge → Edge
copy_of e = record { start = e.start; end = e.end; type = e.type; txt = separator e ++ e.txt; num = e.num }

-- the copies, "in their originals' listing order": of those of ds that are apart in es
unfoldable pub copies : List Edge → List Edge → List Edge
copies es [] = []
copies es (d ∷ ds) = cond (apart es d) (copy_of d ∷ copies es ds) (copies es ds)

-- "Edges F1 adds aren't looked at again; they come after all are turned inactive"
unfoldable pub separate : List Edge → List Edge
separate es = add_all (map (λ (e : Edge). cond (apart es e) (inactive e) e) es) (copies es es)
