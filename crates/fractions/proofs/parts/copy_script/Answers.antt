-- `fractions::parts::copy_script` meets its contract, by whether the bit of the script stands. Assumes nothing.
use mathlib.Core.Path.{◌≡◌, sym, ap, ◌∙◌}
use mathlib.Core.Bool.{true, not}
use mathlib.Core.List.{List}
use mathlib.Core.Option.{some}
use native.Mathlib.Omega.{arith}
use Prim.Native.Nat.{ℕ, ◌+◌, ◌-◌, ◌≤◌}
use lib.ListN.{length}
use Rattle.fields.specs.Part.{part, part_of}
use Rattle.fields.proofs.PartLaws.{length_part, part_sets}
use Rattle.edge.specs.Layout.{stands, numeric_at}
use Rattle.fractions.specs.NewParts.{script_from}
use Rattle.fractions.proofs.parts.EdgeLaws.{script_inside, script_there, script_absent, not-true, not-false}
use Rattle.fractions.proofs.parts.copy_script.Goals as goal

pub returns-then-not-bit : goal.returns-then-not-bit
unfolding script_from
returns-then-not-bit c = (sym (script_absent c.args.map c.args.work.now c.args.at (sym c.bit.ensures ∙ not-true _ (ap not c.if-not-bit.true))), omega arith)

pub overflow_add-to : goal.overflow_add-to
overflow_add-to c =
    let on : stands 5 c.args.map ≡ true = sym c.bit.ensures ∙ not-false _ (ap not c.if-not-bit.false) in
    let inside : c.fields_at-d.result.script.at.0 + c.fields_at-d.result.script.len ≤ length c.args.work.now = rw c.fields_at-d.ensures (script_inside c.args.map c.args.work.now c.args.at (length c.args.work.now) c.requires.0 (on)) in
    omega (arith, inside)

pub slice_bounds-copy_in-end-2 : goal.slice_bounds-copy_in-end-2
slice_bounds-copy_in-end-2 c =
    let on : stands 5 c.args.map ≡ true = sym c.bit.ensures ∙ not-false _ (ap not c.if-not-bit.false) in
    let inside : c.fields_at-d.result.script.at.0 + c.fields_at-d.result.script.len ≤ length c.args.work.now = rw c.fields_at-d.ensures (script_inside c.args.map c.args.work.now c.args.at (length c.args.work.now) c.requires.0 (on)) in
    omega (arith, inside)

pub copy_in-requires : goal.copy_in-requires
copy_in-requires c =
    let on : stands 5 c.args.map ≡ true = sym c.bit.ensures ∙ not-false _ (ap not c.if-not-bit.false) in
    let inside : c.fields_at-d.result.script.at.0 + c.fields_at-d.result.script.len ≤ length c.args.work.now = rw c.fields_at-d.ensures (script_inside c.args.map c.args.work.now c.args.at (length c.args.work.now) c.requires.0 (on)) in
    let script : (numeric_at c.args.map c.args.work.now c.args.at).script ≡ some (part_of c.args.work.now c.fields_at-d.result.script) = rw c.fields_at-d.ensures (script_there c.args.map c.args.work.now c.args.at (on)) in
    let text_length : length (part_of c.args.work.now c.fields_at-d.result.script) ≡ c.fields_at-d.result.script.len = length_part _ _ _ (inside) in
    let size : c.fields_at-d.result.script.len ≤ 60 = omega (arith, c.requires.1 _ (script), text_length) in
    let i = inside in let k = size in omega (arith, text_length)

pub returns : goal.returns
unfolding script_from part
returns c =
    let on : stands 5 c.args.map ≡ true = sym c.bit.ensures ∙ not-false _ (ap not c.if-not-bit.false) in
    let script : (numeric_at c.args.map c.args.work.now c.args.at).script ≡ some (part_of c.args.work.now c.fields_at-d.result.script) = rw c.fields_at-d.ensures (script_there c.args.map c.args.work.now c.args.at (on)) in
    let inside : c.fields_at-d.result.script.at.0 + c.fields_at-d.result.script.len ≤ length c.args.work.now = rw c.fields_at-d.ensures (script_inside c.args.map c.args.work.now c.args.at (length c.args.work.now) c.requires.0 (on)) in
    let text_length : length (part_of c.args.work.now c.fields_at-d.result.script) ≡ c.fields_at-d.result.script.len = length_part _ _ _ (inside) in
    let size : c.fields_at-d.result.script.len ≤ 60 = omega (arith, c.requires.1 _ (script), text_length) in
    let copied : part c.copy_in.new.out 0 c.fields_at-d.result.script.len ≡ part_of c.args.work.now c.fields_at-d.result.script =
    let p = c.fields_at-d.result.script in
    let w = c.args.work.now in
    let z : p.at.0 + p.len - p.at.0 ≡ p.len = omega arith in
    let k = size in
    ap (λ (t : List ℕ). part t 0 p.len) (c.copy_in.ensures ∙ rw z) ∙ part_sets c.args.buf.now 0 (part w p.at.0 p.len) p.len (text_length) (omega arith) in
    (ap some copied ∙ sym script, size)
