-- `call::stages::run_stages` meets its contract: a bare line without given edges has the empty lattice; for any other the first stages give the last what they ask for. Assumes nothing.
use Prim.Native.Nat.{ℕ, ◌≤◌}
use mathlib.Core.Path.{◌≡◌, sym, ap, ◌∙◌, subst}
use mathlib.Core.Bool.{Bool, true}
use mathlib.Core.List.{List, []}
use native.Mathlib.Omega.{arith}
use lib.ListN.{length, length-replicate}
use Rattle.std.proofs.lemmas.Result.{err_from_is_err_and}
use borrow.Author.Tests.{eqb-true}
use Rattle.text.specs.Text.{chars}
use Rattle.text.proofs.RowLaws.{and-true}
use Rattle.text.proofs.TextLaws.{chars_scalars}
use Rattle.table.specs.Table.{Table}
use Rattle.table.specs.Answers.{table_of}
use Rattle.passes.specs.NumEdge.{NumEdge}
use Rattle.edge.specs.Edge.{Edge}
use Rattle.edge.specs.Layout.{listed}
use Rattle.lattice.specs.Kept.{Holds}
use Rattle.numbers.specs.CallEdge.{CallEdges}
use Rattle.pass_edge.proofs.theorems.Theorems.{stored_edges_call}
use Rattle.first_stages.specs.Bare.{bare}
use Rattle.first_stages.proofs.bare.BareLaws.{none_given}
use Rattle.numbers.specs.Call.{with_edges}
use Rattle.call.specs.Kinds.{has_decimals, call_passes, call_lattice}
use Rattle.call.specs.Rest.{rest_of}
use Rattle.call.specs.Stages.{StagesAre}
use Rattle.call.proofs.last_stages.RestLaws.{rest_is, bare_passes, bare_finished}
use Rattle.first_stages.specs.Stages.{CallDone, CallPassed}
use Rattle.singles.proofs.GivenLaws.{checked_given}
use Rattle.call.proofs.stages.run_stages.Goals as goal

pub is_bare-bare-requires : goal.is_bare-bare-requires
is_bare-bare-requires c = ((c.args.places, c.requires.1.ready), c.requires.2)

pub empty-requires : goal.empty-requires
empty-requires c = omega (arith, c.requires.0)

pub returns-then-bare-count : goal.returns-then-bare-count
unfolding StagesAre
returns-then-bare-count c =
    let table = table_of c.args.table.now c.args.shape in
    let w = chars c.args.line.now in
    let both = and-true _ _ c.if-bare-count.true in
    let is : bare table.records w ≡ true = sym c.is_bare-bare.ensures ∙ both.0 in
    let none : listed c.args.edges.now ≡ [] = none_given _ _ _ c.requires.1.edges (eqb-true _ _ both.1) in
    (bare_passes table w is c.args.kind, subst (Holds c.empty.new.work c.empty.result) (sym (ap (call_lattice c.args.kind table w) none ∙ bare_finished table w is c.args.kind)) c.empty.ensures.1)

pub place_offsets-requires : goal.place_offsets-requires
place_offsets-requires c =
    let few : length (chars c.args.line.now) ≤ 256 = let r = c.requires.1.ready in omega (arith, r.few, r.count) in
    (c.requires.1.ready.formed, few, length-replicate {A = ℕ} 257 0)

pub run_first_stages-passed-requires : goal.run_first_stages-passed-requires
run_first_stages-passed-requires c = (c.place_offsets.ensures, c.requires.0, (c.args.places, c.requires.1.ready, c.requires.1.edges), c.requires.2)

pub run_last_stages-requires : goal.run_last_stages-requires
unfolding CallPassed
run_last_stages-requires c =
    let s = c.args in
    let d : CallDone (has_decimals s.kind) s.line.now s.table.now s.shape s.edges.now c.run_first_stages-passed.new.work c.in_ok-lattice.lattice c.in_ok-lattice.stored = subst (λ (d : Bool). CallDone d s.line.now s.table.now s.shape s.edges.now c.run_first_stages-passed.new.work c.in_ok-lattice.lattice c.in_ok-lattice.stored) c.has_decimals-decimals.ensures c.in_ok-lattice.ensures in
    let in_line : (es : List Edge) → CallEdges (length (chars s.line.now)) es → CallEdges s.places es = λ es q. subst (λ (n : ℕ). CallEdges n es) c.requires.1.ready.count q in
    let few : length (chars s.line.now) ≤ 256 = let r = c.requires.1.ready in omega (arith, r.few, r.count) in
    (c.requires.1.ready, (_, d.holds, in_line _ d.call), c.place_offsets.ensures, d.sounds, in_line _ (stored_edges_call _ _ (chars_scalars _) few _ d.sounds), omega (arith, d.few, c.run_first_stages-passed.auto.work, c.requires.0))

pub returns-in_err-lattice : goal.returns-in_err-lattice
unfolding StagesAre CallPassed
returns-in_err-lattice c =
    let s = c.args in
    let p = err_from_is_err_and c.from_residual.result c.from_residual.ensures.1 in
    rw (p.1, p.2, sym c.has_decimals-decimals.ensures) c.in_err-lattice.ensures

pub returns : goal.returns
unfolding StagesAre CallPassed
returns c =
    let s = c.args in
    let k = s.kind in
    let w = chars s.line.now in
    let T : Table = table_of s.table.now s.shape in
    let es = with_edges (call_passes k T w) (listed s.edges.now) in
    let d : CallDone (has_decimals s.kind) s.line.now s.table.now s.shape s.edges.now c.run_first_stages-passed.new.work c.in_ok-lattice.lattice c.in_ok-lattice.stored = subst (λ (d : Bool). CallDone d s.line.now s.table.now s.shape s.edges.now c.run_first_stages-passed.new.work c.in_ok-lattice.lattice c.in_ok-lattice.stored) c.has_decimals-decimals.ensures c.in_ok-lattice.ensures in
    let in_line : CallEdges (length w) es → CallEdges s.places es = λ q. subst (λ (n : ℕ). CallEdges n es) c.requires.1.ready.count q in (
      d.above,
      subst (Holds c.run_last_stages.new.work c.run_last_stages.result)
          (ap (λ (fs : List NumEdge). rest_of c.silences_singles-silencing.result T w fs es) d.fifth
          ∙ ap (λ (b : Bool). rest_of b T w (call_passes k T w).fifth es) c.silences_singles-silencing.ensures ∙ rest_is k T w (listed s.edges.now) (checked_given _ _ _ c.requires.1.edges))
          (c.run_last_stages.ensures es d.holds (in_line d.call)),
    )
