-- `edge_write::numeric::put_fields` meets its contract: five promises in a row, each with the room that the last offset leaves. Assumes nothing.
use Prim.Native.Nat.{◌/◌, ◌%◌}
use mathlib.Core.Path.{◌∙◌}
use native.Mathlib.Omega.{arith}
use borrow.Author.Rules.{rules}
use borrow.Author.Tests.{eqb-true}
use Rattle.fields.specs.Part.{part_of}
use Rattle.edge.specs.Layout.{stands}
use Rattle.edge.proofs.WriteLaws.{past_within, numbers_room, script_room, value_s_room, decimals_room, text_on_room, put_all_fields}
use Rattle.edge_write.proofs.numeric.RoomLaws.{kept_room, number_told, text_told}
use Rattle.edge_write.proofs.numeric.put_fields.Goals as goal

pub put_part-value-requires : goal.put_part-value-requires
put_part-value-requires c = ((past_within _ _ _ c.requires.0).orig, c.requires.1.orig_len, c.requires.1.orig)

pub put_numbers-script-requires : goal.put_numbers-script-requires
put_numbers-script-requires c = kept_room (numbers_room _ _ _ c.requires.0 c.put_part-value.ensures.0) c.put_part-value.auto.out

pub put_if-value_s-requires-clause-room : goal.put_if-value_s-requires-clause-room
put_if-value_s-requires-clause-room c = λ on p same.
    let room = text_on_room _ _ _ _ on (kept_room (script_room _ _ _ c.requires.0 c.put_part-value.ensures.0 c.put_numbers-script.ensures.0) (c.put_numbers-script.auto.out ∙ c.put_part-value.auto.out)) in
    let len = c.requires.1.script_len in
    let inside = c.requires.1.script on in
    search rules

pub put_if-decimals-requires-clause-room : goal.put_if-decimals-requires-clause-room
put_if-decimals-requires-clause-room c = λ on p same.
    let value_s = text_told (stands 5 c.args.d.map) (part_of c.args.c.now c.args.d.script) c.args.d.script.len c.put_numbers-script.new.out c.put_if-value_s.new.out c.put_numbers-script.result c.put_if-value_s.result (λ on. search (rules, c.put_if-value_s.ensures.there on)) c.put_if-value_s.ensures.absent in
    let room = text_on_room _ _ _ _ on (kept_room (value_s_room _ _ _ c.requires.0 c.put_part-value.ensures.0 c.put_numbers-script.ensures.0 value_s.0) (c.put_if-value_s.auto.out ∙ c.put_numbers-script.auto.out ∙ c.put_part-value.auto.out)) in
    let len = c.requires.1.value_s_len in
    let inside = c.requires.1.value_s on in
    search rules

pub put_if-requires-clause-room : goal.put_if-requires-clause-room
put_if-requires-clause-room c = λ on p same.
    let value_s = text_told (stands 5 c.args.d.map) (part_of c.args.c.now c.args.d.script) c.args.d.script.len c.put_numbers-script.new.out c.put_if-value_s.new.out c.put_numbers-script.result c.put_if-value_s.result (λ on. search (rules, c.put_if-value_s.ensures.there on)) c.put_if-value_s.ensures.absent in
    let decimals = text_told (stands 8 c.args.d.map) (part_of c.args.v.now c.args.d.value_s) c.args.d.value_s.len c.put_if-value_s.new.out c.put_if-decimals.new.out c.put_if-value_s.result c.put_if-decimals.result (λ on. search (rules, c.put_if-decimals.ensures.there on)) c.put_if-decimals.ensures.absent in
    let room = kept_room (decimals_room _ _ _ c.requires.0 c.put_part-value.ensures.0 c.put_numbers-script.ensures.0 value_s.0 decimals.0) (c.put_if-decimals.auto.out ∙ c.put_if-value_s.auto.out ∙ c.put_numbers-script.auto.out ∙ c.put_part-value.auto.out) in
    let one = eqb-true (c.args.d.map / 512 % 2) 1 on in
    search rules

pub shape_of-out : goal.shape_of-out
shape_of-out c = c.put_if.auto.out ∙ c.put_if-decimals.auto.out ∙ c.put_if-value_s.auto.out ∙ c.put_numbers-script.auto.out ∙ c.put_part-value.auto.out

pub returns : goal.returns
returns c =
    let value_s = text_told (stands 5 c.args.d.map) (part_of c.args.c.now c.args.d.script) c.args.d.script.len c.put_numbers-script.new.out c.put_if-value_s.new.out c.put_numbers-script.result c.put_if-value_s.result (λ on. search (rules, c.put_if-value_s.ensures.there on)) c.put_if-value_s.ensures.absent in
    let decimals = text_told (stands 8 c.args.d.map) (part_of c.args.v.now c.args.d.value_s) c.args.d.value_s.len c.put_if-value_s.new.out c.put_if-decimals.new.out c.put_if-value_s.result c.put_if-decimals.result (λ on. search (rules, c.put_if-decimals.ensures.there on)) c.put_if-decimals.ensures.absent in
    let count = number_told 1 (c.args.d.map / 512 % 2) c.args.d.decimals c.put_if-decimals.new.out c.put_if.new.out c.put_if-decimals.result c.put_if.result (omega arith) (λ on. search (rules, c.put_if.ensures.there on)) c.put_if.ensures.absent in
    put_all_fields _ _ _ _ c.put_part-value.ensures.1 c.put_numbers-script.ensures.1 value_s.1 decimals.1 count.1
