-- `index_record` meets its contract: the index stays, or has an entry more.
use mathlib.Core.Path.{refl, ◌∙◌}
use Prim.Native.Nat.{◌<◌}
use native.Mathlib.Omega.{arith}
use Rattle.table.proofs.filter.FilterLaws.{marks_behind}
use Rattle.table.proofs.index.IndexLaws.{due_room, due_next, index_more}
use Rattle.table.proofs.index.index_record.Goals as goal

pub returns-then-here-index : goal.returns-then-here-index
returns-then-here-index c =
    record {
      next = c.requires.0;
      grows = λ t rs e g. g;
      marks = λ k. refl;
    }

pub returns-in_default : goal.returns-in_default
returns-in_default c =
    record {
      next = c.requires.0;
      grows = λ t rs e g. g;
      marks = λ k. refl;
    }

pub offset_bounds-offs-index : goal.offset_bounds-offs-index
offset_bounds-offs-index c =
    let room : c.args.index.n < 256 = due_room c.args.all c.args.index c.requires.0 (omega (arith, c.requires.1, c.if-here-index.false)) in
    omega (arith, room)

pub bounds-offs-index : goal.bounds-offs-index
bounds-offs-index c =
    let room : c.args.index.n < 256 = due_room c.args.all c.args.index c.requires.0 (omega (arith, c.requires.1, c.if-here-index.false)) in
    omega (arith, room, c.requires.2)

pub overflow_add-result : goal.overflow_add-result
overflow_add-result c =
    let room : c.args.index.n < 256 = due_room c.args.all c.args.index c.requires.0 (omega (arith, c.requires.1, c.if-here-index.false)) in
    omega (arith, room)

pub returns : goal.returns
returns c =
    let room : c.args.index.n < 256 = due_room c.args.all c.args.index c.requires.0 (omega (arith, c.requires.1, c.if-here-index.false)) in
    let here = c.if-here-index.false in
    let l = rw c.stride_of.ensures at c.saturating_sub.ensures in
    record {
      next = l ∙ rw here (due_next c.args.all c.args.index c.requires.0);
      grows = λ t rs e g. rw (c.in-Ok.ensures.1, l) (index_more t rs _ _ _ g _ here c.requires.1 _ e);
      marks = λ k. marks_behind _ _ _ k room;
    }
