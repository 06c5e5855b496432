-- A numeral of plain characters whose value is at most TOP is not refused 7 with the plain table: what is shown of every table (`table_grammar`, proofs/Within.antt), at this one.
use Prim.Native.Nat.{ℕ, ◌≤◌}
use mathlib.Core.Path.{◌≡◌}
use mathlib.Core.List.{List, map}
use mathlib.Core.Option.{none}
use lib.Dec.{lit≤}
use Rattle.whole.specs.Whole.{TOP}
use Rattle.passes.specs.Passes.{above_at}
use Rattle.table_grammar.specs.Row.{one, ◌▷◌}
use Rattle.table_grammar.proofs.Within.{EachRow, LargeWithin}
use Rattle.table_grammar.proofs.Within as Within
use Rattle.grammar.specs.Plain.{Ten, Large, Char, ten_value, large_value, code_point, plain_record, plain, 十, 百, 千, 万, 億, 兆}
use Rattle.grammar.specs.Grammar.{Member, small, block, lone, Division, Reading, division_value}
use Rattle.grammar.proofs.PlainInstance.{table_member, table_division, from_plain, same_plain}

pub ten_least : (t : Ten) → 1 ≤ ten_value t
ten_least 十 = lit≤ tt
ten_least 百 = lit≤ tt
ten_least 千 = lit≤ tt

pub large_least : (l : Large) → 10 ≤ large_value l
large_least 万 = lit≤ tt
large_least 億 = lit≤ tt
large_least 兆 = lit≤ tt

large_within : (l : Large) → large_value l ≤ TOP
large_within 万 = lit≤ tt
large_within 億 = lit≤ tt
large_within 兆 = lit≤ tt

member_within : (m : Member) → LargeWithin (table_member m)
unfolding plain_record
member_within (small s) = tt
member_within (block s l) = large_within l
member_within (lone l) = tt

larges_within : (d : Division) → EachRow LargeWithin (table_division d)
larges_within (one m) = member_within m
larges_within (d ▷ m) = (larges_within d, member_within m)

-- a line of the characters w, read with the plain table
pub reading_within : (cs : List ℕ) (w : List Char) → cs ≡ map code_point w → (r : Reading w) → division_value r.division ≤ TOP → above_at plain cs ≡ none
reading_within cs w e r within =
    let (same, value) = same_plain w r (from_plain w r) in
    rw e (Within.reading_within plain (map code_point w) (from_plain w r) (rw same (larges_within r.division)) (rw value within))
