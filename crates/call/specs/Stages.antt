-- What the stages behind the checks answer. Definitions only.
--     StagesAre k t w given u r   the stages of the call k answered r with the work space u: 7 where a value above TOP is made, else u holds the finished lattice (Kinds.antt)
--     Leads u n r a   the stages' answer r with the work space u leads to the call's answer a, for an output of n bytes
--     Assumes nothing.
use Rattle.std.specs.Prelude.{◌≡◌, List, ℕ, Result, Ok, Err}
use Rattle.std.proofs.Math.Option.{none, some}
use Rattle.table.specs.Table.{Table}
use Rattle.edge.specs.Edge.{Edge}
use Rattle.lattice.specs.Kept.{Holds}
use Rattle.numbers.specs.Call.{Answer, refused, finished}
use Rattle.call.specs.declared.stages.CallKind.{CallKind}
use Rattle.call.specs.Kinds.{call_passes, call_lattice}
use Rattle.lattice.specs.declared.Lattice.{Lattice}
use Rattle.text.specs.declared.Place.{Place}

unfoldable pub StagesAre : CallKind → Table → List ℕ → List Edge → List ℕ → Result Lattice Place → Type 0
StagesAre k t w given u (Err p) = (call_passes k t w).above ≡ some p.0
StagesAre k t w given u (Ok l) = ((call_passes k t w).above ≡ none) × Holds u l (call_lattice k t w given)

unfoldable pub Leads : List ℕ → ℕ → Result Lattice Place → Answer → Type 0
Leads u n (Err p) a = a ≡ refused 7 p.0
Leads u n (Ok l) a = (es : List Edge) × Holds u l es × (a ≡ finished n es)
