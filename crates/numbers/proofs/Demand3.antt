-- Demand 3 (00) for the call: a line of the sixteen characters, read with the plain table's bytes, whatever edges are given; where the call answers a listing, what
-- `grammar` shows of the list after the fifth pass holds of the list that the call's definition uses. Of the answered bytes themselves: `finished`. Assumes nothing.
use Prim.Native.Nat.{ℕ}
use mathlib.Core.Path.{◌≡◌, refl, ap}
use mathlib.Core.Bool.{false}
use mathlib.Core.List.{List, map}
use mathlib.Core.Option
use mathlib.Core.Option.{some}
use lib.ListN.{length}
use lib.Ieee.{binary64, of_bits}
use lib.Ieee.Exact.{HasValue}
use Rattle.text.specs.Text.{chars}
use Rattle.edge.specs.Edge.{Numeric, f64_bits}
use Rattle.passes.specs.NumEdge.{NumEdge}
use Rattle.grammar.specs.Plain.{Char, code_point, plain}
use Rattle.grammar.specs.PlainBytes.{plain_bytes}
use Rattle.grammar.specs.Formal.{formal_code, formal, formal_bytes}
use Rattle.grammar.proofs.Demand3.{Carries, Settled, SettledBy, demand3}
use Rattle.grammar.proofs.PlainTable.{plain_table}
use Rattle.grammar.proofs.FormalDemand3.{formal_demand3}
use Rattle.grammar.proofs.FormalTable.{formal_table}
use Rattle.numbers.specs.Listed.{listed_edge}
use Rattle.numbers.specs.Call.{add_numbers}
pub use Rattle.numbers.proofs.Accepted.{Listed}
use Rattle.numbers.proofs.Accepted.{accepted}

pub call_settled : (line given : List ℕ) (work out : ℕ) (w : List Char) → chars line ≡ map code_point w → Listed (add_numbers line plain_bytes given work out) → Settled line w
call_settled line given work out w e h =
    let (is_well_formed, fine) = accepted plain_bytes plain (length plain_bytes) plain_table line given work out h in
    demand3 line w (record { is_well_formed = is_well_formed; characters = e }) fine

-- the same with the formal table's bytes, of a line of its sixteen characters (02, S-11)
pub formal_call_settled : (line given : List ℕ) (work out : ℕ) (w : List Char) → chars line ≡ map formal_code w → Listed (add_numbers line formal_bytes given work out)
    → SettledBy formal line w
formal_call_settled line given work out w e h =
    let (is_well_formed, fine) = accepted formal_bytes formal (length formal_bytes) formal_table line given work out h in
    formal_demand3 line w (record { is_well_formed = is_well_formed; characters = e }) fine

-- the f64 that the listing carries for an edge of value n is the whole number n
pub listed_carries : (e : NumEdge) (n : ℕ) → Carries e n → (x : Numeric) × (bits : ℕ) × ((listed_edge e).num ≡ some x) × (x.value ≡ some bits) × HasValue (of_bits binary64 bits) false n 1
unfolding listed_edge f64_bits
listed_carries e n c = (_, f64_bits n, refl, ap (Option.map f64_bits) c.value, c.float)
