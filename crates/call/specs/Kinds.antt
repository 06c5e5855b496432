-- The calls by their kinds: 01's, the one of 02's S-12 and the one of S-13 (numbers/specs/Call.antt). Definitions only.
--     has_decimals k             the passes of the call k join digits, a point and digits
--     silences_singles k         singles that may not stand turn inactive in it
--     call_passes k t w          what its five passes give, for the line w (code points) with table t
--     call_lattice k t w given   its finished lattice
--     call_stages k              what it answers after its checks
--     Assumes nothing.
use Rattle.std.specs.Prelude.{Bool, true, false, List, ℕ}
use Rattle.table.specs.Table.{Table}
use Rattle.edge.specs.Edge.{Edge}
use Rattle.numbers.specs.Call.{FivePasses, passes_by, lattice_by, decimal_lattice, Stages, after_checks, decimal_after_checks}
use Rattle.call.specs.declared.stages.CallKind.{CallKind}
use Rattle.call.specs.declared.stages.CallKind.TheVariants.{First, WithoutSingles, WithDecimals}

abbrev pub has_decimals : CallKind → Bool
has_decimals First = false
has_decimals WithoutSingles = false
has_decimals WithDecimals = true

abbrev pub silences_singles : CallKind → Bool
silences_singles First = false
silences_singles WithoutSingles = true
silences_singles WithDecimals = false

abbrev pub call_passes : CallKind → Table → List ℕ → FivePasses
call_passes k = passes_by (has_decimals k)

abbrev pub call_lattice : CallKind → Table → List ℕ → List Edge → List Edge
call_lattice First = lattice_by false
call_lattice WithoutSingles = lattice_by true
call_lattice WithDecimals = decimal_lattice

abbrev pub call_stages : CallKind → Stages
call_stages First = after_checks false
call_stages WithoutSingles = after_checks true
call_stages WithDecimals = decimal_after_checks
