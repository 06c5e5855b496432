-- `edge_write::numeric::put_numbers` meets its contract: five promises in a row. Assumes nothing.
use Prim.Native.Nat.{◌/◌, ◌%◌}
use mathlib.Core.Path.{◌∙◌}
use native.Mathlib.Omega.{arith}
use borrow.Author.Rules.{rules}
use Rattle.edge.proofs.WriteLaws.{number_on_room, put_all_numbers}
use Rattle.edge_write.proofs.numeric.RoomLaws.{number_told, value_room, numerator_room, denominator_room, base_room, mult_room, numbers_end}
use Rattle.edge_write.proofs.numeric.put_numbers.Goals as goal

pub put_if-numerator-requires-clause-room : goal.put_if-numerator-requires-clause-room
put_if-numerator-requires-clause-room c = λ on p same.
    let room = number_on_room _ _ _ on (value_room c.args.d.map c.args.at _ c.requires).1 in
    search rules

pub put_if-denominator-requires-clause-room : goal.put_if-denominator-requires-clause-room
put_if-denominator-requires-clause-room c = λ on p same.
    let q0 = number_told 8 (c.args.d.map / 2 % 2) c.args.d.value c.args.out.now c.put_if-numerator.new.out c.args.at c.put_if-numerator.result (omega arith) (λ on. search (rules, c.put_if-numerator.ensures.there on)) c.put_if-numerator.ensures.absent in
    let room = number_on_room _ _ _ on (numerator_room c.args.d.map c.args.at _ c.requires q0.0 c.put_if-numerator.auto.out).1 in
    search rules

pub put_if-base-requires-clause-room : goal.put_if-base-requires-clause-room
put_if-base-requires-clause-room c = λ on p same.
    let q0 = number_told 8 (c.args.d.map / 2 % 2) c.args.d.value c.args.out.now c.put_if-numerator.new.out c.args.at c.put_if-numerator.result (omega arith) (λ on. search (rules, c.put_if-numerator.ensures.there on)) c.put_if-numerator.ensures.absent in
    let q1 = number_told 8 (c.args.d.map / 4 % 2) c.args.d.numerator c.put_if-numerator.new.out c.put_if-denominator.new.out c.put_if-numerator.result c.put_if-denominator.result (omega arith) (λ on. search (rules, c.put_if-denominator.ensures.there on)) c.put_if-denominator.ensures.absent in
    let room = number_on_room _ _ _ on (denominator_room c.args.d.map c.args.at _ c.requires q0.0 c.put_if-numerator.auto.out q1.0 c.put_if-denominator.auto.out).1 in
    search rules

pub put_if-multiplier-requires-clause-room : goal.put_if-multiplier-requires-clause-room
put_if-multiplier-requires-clause-room c = λ on p same.
    let q0 = number_told 8 (c.args.d.map / 2 % 2) c.args.d.value c.args.out.now c.put_if-numerator.new.out c.args.at c.put_if-numerator.result (omega arith) (λ on. search (rules, c.put_if-numerator.ensures.there on)) c.put_if-numerator.ensures.absent in
    let q1 = number_told 8 (c.args.d.map / 4 % 2) c.args.d.numerator c.put_if-numerator.new.out c.put_if-denominator.new.out c.put_if-numerator.result c.put_if-denominator.result (omega arith) (λ on. search (rules, c.put_if-denominator.ensures.there on)) c.put_if-denominator.ensures.absent in
    let q2 = number_told 8 (c.args.d.map / 4 % 2) c.args.d.denominator c.put_if-denominator.new.out c.put_if-base.new.out c.put_if-denominator.result c.put_if-base.result (omega arith) (λ on. search (rules, c.put_if-base.ensures.there on)) c.put_if-base.ensures.absent in
    let room = number_on_room _ _ _ on (base_room c.args.d.map c.args.at _ c.requires q0.0 c.put_if-numerator.auto.out q1.0 c.put_if-denominator.auto.out q2.0 c.put_if-base.auto.out).1 in
    search rules

pub put_if-requires-clause-room : goal.put_if-requires-clause-room
put_if-requires-clause-room c = λ on p same.
    let q0 = number_told 8 (c.args.d.map / 2 % 2) c.args.d.value c.args.out.now c.put_if-numerator.new.out c.args.at c.put_if-numerator.result (omega arith) (λ on. search (rules, c.put_if-numerator.ensures.there on)) c.put_if-numerator.ensures.absent in
    let q1 = number_told 8 (c.args.d.map / 4 % 2) c.args.d.numerator c.put_if-numerator.new.out c.put_if-denominator.new.out c.put_if-numerator.result c.put_if-denominator.result (omega arith) (λ on. search (rules, c.put_if-denominator.ensures.there on)) c.put_if-denominator.ensures.absent in
    let q2 = number_told 8 (c.args.d.map / 4 % 2) c.args.d.denominator c.put_if-denominator.new.out c.put_if-base.new.out c.put_if-denominator.result c.put_if-base.result (omega arith) (λ on. search (rules, c.put_if-base.ensures.there on)) c.put_if-base.ensures.absent in
    let q3 = number_told 8 (c.args.d.map / 8 % 2) c.args.d.base c.put_if-base.new.out c.put_if-multiplier.new.out c.put_if-base.result c.put_if-multiplier.result (omega arith) (λ on. search (rules, c.put_if-multiplier.ensures.there on)) c.put_if-multiplier.ensures.absent in
    let room = number_on_room _ _ _ on (mult_room c.args.d.map c.args.at _ c.requires q0.0 c.put_if-numerator.auto.out q1.0 c.put_if-denominator.auto.out q2.0 c.put_if-base.auto.out q3.0 c.put_if-multiplier.auto.out).1 in
    search rules

pub shape_of-out : goal.shape_of-out
shape_of-out c = c.put_if.auto.out ∙ c.put_if-multiplier.auto.out ∙ c.put_if-base.auto.out ∙ c.put_if-denominator.auto.out ∙ c.put_if-numerator.auto.out

pub returns : goal.returns
returns c =
    let q0 = number_told 8 (c.args.d.map / 2 % 2) c.args.d.value c.args.out.now c.put_if-numerator.new.out c.args.at c.put_if-numerator.result (omega arith) (λ on. search (rules, c.put_if-numerator.ensures.there on)) c.put_if-numerator.ensures.absent in
    let q1 = number_told 8 (c.args.d.map / 4 % 2) c.args.d.numerator c.put_if-numerator.new.out c.put_if-denominator.new.out c.put_if-numerator.result c.put_if-denominator.result (omega arith) (λ on. search (rules, c.put_if-denominator.ensures.there on)) c.put_if-denominator.ensures.absent in
    let q2 = number_told 8 (c.args.d.map / 4 % 2) c.args.d.denominator c.put_if-denominator.new.out c.put_if-base.new.out c.put_if-denominator.result c.put_if-base.result (omega arith) (λ on. search (rules, c.put_if-base.ensures.there on)) c.put_if-base.ensures.absent in
    let q3 = number_told 8 (c.args.d.map / 8 % 2) c.args.d.base c.put_if-base.new.out c.put_if-multiplier.new.out c.put_if-base.result c.put_if-multiplier.result (omega arith) (λ on. search (rules, c.put_if-multiplier.ensures.there on)) c.put_if-multiplier.ensures.absent in
    let q4 = number_told 8 (c.args.d.map / 16 % 2) c.args.d.base_multiplier c.put_if-multiplier.new.out c.put_if.new.out c.put_if-multiplier.result c.put_if.result (omega arith) (λ on. search (rules, c.put_if.ensures.there on)) c.put_if.ensures.absent in
    (numbers_end c.args.d.map c.args.at _ c.requires q0.0 c.put_if-numerator.auto.out q1.0 c.put_if-denominator.auto.out q2.0 c.put_if-base.auto.out q3.0 c.put_if-multiplier.auto.out q4.0, put_all_numbers c.args.d q0.1 q1.1 q2.1 q3.1 q4.1)
