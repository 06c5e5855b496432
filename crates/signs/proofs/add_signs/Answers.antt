use mathlib.Core.Path.{◌≡◌, sym, subst, ◌∙◌}
use mathlib.Core.Bool.{Bool}
use mathlib.Core.List.{List}
use Prim.Native.Nat.{ℕ, ◌+◌, ◌-◌, ◌*◌, ◌≤◌}
use native.Mathlib.Omega.{arith}
use borrow.Author.Rules.{part_to_end}
use lib.ListN.{length, take, drop}
use Rattle.text.specs.Text.{chars}
use Rattle.table.specs.Answers.{table_of}
use Rattle.pass_list.specs.StoredEdge.{Small, EdgeIs}
use Rattle.pass_list.specs.Stored.{stored_at, stored_list_at}
use Rattle.pass_list.specs.Edges.{edge_of, points_of}
use Rattle.pass_list.specs.Layout.{SIZE}
use Rattle.pass_edge.specs.Grounded.{Grounded, AllGrounded}
use Rattle.signs.specs.SignsOf.{signs_of}
use Rattle.lattice.specs.Kept.{END}
use Rattle.signs.proofs.edges.BufferLaws.{behind_length}
use Rattle.signs.proofs.edges.TowardLaws.{toward_start, toward_next, toward_end}
use Rattle.signs.proofs.StoredEdgeLaws.{rest_start, rest_next, rest_end, sounds_start, sounds_next}
use Rattle.signs.proofs.add_signs.Goals as goal

pub loop-i-init : goal.loop-i-init
loop-i-init c = (rw rest_start (toward_start _ _ _), sounds_start _ _ _ _ c.requires.3, omega arith)

pub slice_bounds-read_edge-count : goal.slice_bounds-read_edge-count
slice_bounds-read_edge-count c =
    let room : END + c.args.stored * SIZE ≤ length c.loop-i.work = omega (arith, c.loop-i.invariant.0.long, c.requires.4) in
    omega (arith, room)

pub slice_bounds-read_edge-start : goal.slice_bounds-read_edge-start
slice_bounds-read_edge-start c =
    let room : END + c.args.stored * SIZE ≤ length c.loop-i.work = omega (arith, c.loop-i.invariant.0.long, c.requires.4) in
    omega (arith, room)

pub overflow_mul-i : goal.overflow_mul-i
overflow_mul-i c =
    let room : END + c.args.stored * SIZE ≤ length c.loop-i.work = omega (arith, c.loop-i.invariant.0.long, c.requires.4) in
    omega (arith, room, c.loop-i-test.true, c.well_formed)

pub read_edge-x-requires : goal.read_edge-x-requires
read_edge-x-requires c =
    let room : END + c.args.stored * SIZE ≤ length c.loop-i.work = omega (arith, c.loop-i.invariant.0.long, c.requires.4) in
    let list_is : let w = c.loop-i.work in take (length w - END) (drop END w) ≡ drop END c.args.work.now = part_to_end c.loop-i.work END ∙ c.loop-i.invariant.0.frame in
    let here : let a = c.args in let s = drop END a.work.now in let i = c.loop-i.i in ((b : Bool) × Grounded (points_of b (chars a.line.now)) (chars a.line.now) a.table.now (stored_at s (i * SIZE))) × AllGrounded (chars a.line.now) a.table.now (stored_list_at s (i + 1) (a.stored - (i + 1))) = sounds_next _ _ _ _ _ c.loop-i-test.true c.loop-i.invariant.1 in
    let i = c.loop-i.i in
    (omega (arith, room, c.loop-i-test.true, behind_length END c.loop-i.work), subst (λ (s : List ℕ). Small (stored_at s (i * SIZE))) (sym list_is) here.0.1.small)

pub add_edge_signs-grown-requires : goal.add_edge_signs-grown-requires
add_edge_signs-grown-requires c =
    let list_is : let w = c.loop-i.work in take (length w - END) (drop END w) ≡ drop END c.args.work.now = part_to_end c.loop-i.work END ∙ c.loop-i.invariant.0.frame in
    let read_is : EdgeIs c.read_edge-x.result (stored_at (drop END c.args.work.now) (c.loop-i.i * SIZE)) = subst (λ (s : List ℕ). EdgeIs c.read_edge-x.result (stored_at s (c.loop-i.i * SIZE))) (list_is) c.read_edge-x.ensures in
    let here : let a = c.args in let s = drop END a.work.now in let i = c.loop-i.i in ((b : Bool) × Grounded (points_of b (chars a.line.now)) (chars a.line.now) a.table.now (stored_at s (i * SIZE))) × AllGrounded (chars a.line.now) a.table.now (stored_list_at s (i + 1) (a.stored - (i + 1))) = sounds_next _ _ _ _ _ c.loop-i-test.true c.loop-i.invariant.1 in
    let d = c.loop-i.invariant.0.holds c.requires.0.0 c.requires.0.1 in
    ((d.0, d.1), c.requires.1, (_, record { is = read_is; marks = here.0.0; sound = here.0.1 }), c.requires.2)

pub loop-i-preserved : goal.loop-i-preserved
loop-i-preserved c =
    let list_is : let w = c.loop-i.work in take (length w - END) (drop END w) ≡ drop END c.args.work.now = part_to_end c.loop-i.work END ∙ c.loop-i.invariant.0.frame in
    let read_is : EdgeIs c.read_edge-x.result (stored_at (drop END c.args.work.now) (c.loop-i.i * SIZE)) = subst (λ (s : List ℕ). EdgeIs c.read_edge-x.result (stored_at s (c.loop-i.i * SIZE))) (list_is) c.read_edge-x.ensures in
    let here : let a = c.args in let s = drop END a.work.now in let i = c.loop-i.i in ((b : Bool) × Grounded (points_of b (chars a.line.now)) (chars a.line.now) a.table.now (stored_at s (i * SIZE))) × AllGrounded (chars a.line.now) a.table.now (stored_list_at s (i + 1) (a.stored - (i + 1))) = sounds_next _ _ _ _ _ c.loop-i-test.true c.loop-i.invariant.1 in
    let a = c.args in
    let i = c.loop-i.i in
    let w = chars a.line.now in
    let edges = signs_of (table_of a.table.now a.shape) w (edge_of w a.table.now (stored_at (drop END a.work.now) (i * SIZE))) in
    (toward_next c.loop-i.invariant.0 edges (rest_next (table_of a.table.now a.shape) (chars a.line.now) a.table.now (drop END a.work.now) a.stored i c.loop-i-test.true) c.add_edge_signs-grown.auto.work c.add_edge_signs-grown.ensures.0 (λ es q. c.add_edge_signs-grown.ensures.1 es (stored_at (drop END a.work.now) (i * SIZE)) q read_is), here.1, omega (arith, c.loop-i-test.true))

pub shape_of-work : goal.shape_of-work
shape_of-work c = c.loop-i.invariant.0.long

pub returns : goal.returns
returns c =
    let a = c.args in
    let t = c.loop-i.invariant.0 in
    (t.frame, toward_end t (rest_end (table_of a.table.now a.shape) (chars a.line.now) a.table.now (drop END a.work.now) a.stored c.loop-i.i c.loop-i-test.false))
