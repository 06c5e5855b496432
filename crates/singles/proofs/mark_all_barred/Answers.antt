use mathlib.Core.Path.{◌≡◌, sym, subst, ap}
use mathlib.Core.Bool.{Bool}
use mathlib.Core.List.{List}
use Prim.Native.Nat.{ℕ, ◌-◌, ◌*◌}
use native.Mathlib.Omega.{arith}
use borrow.Author.Rules.{part_to_end}
use lib.ListN.{length, take, drop, length-drop}
use Rattle.text.specs.Text.{chars}
use Rattle.pass_list.specs.StoredEdge.{Small, EdgeIs}
use Rattle.pass_list.specs.Stored.{stored_at, stored_list_at}
use Rattle.pass_list.specs.Edges.{points_of}
use Rattle.pass_list.specs.Layout.{SIZE}
use Rattle.lattice.specs.Kept.{END}
use Rattle.pass_edge.specs.Grounded.{Grounded, AllGrounded, StoredIs}
use Rattle.first_stages.proofs.five_passes.AddingLaws.{stored_edge_of}
use Rattle.singles.proofs.BarredLaws.{barred_start, barred_next, barred_end}
use Rattle.singles.proofs.mark_all_barred.Goals as goal

pub loop-i-init : goal.loop-i-init
loop-i-init c = barred_start _ _ _ c.requires.4

pub slice_bounds-read_edge-count : goal.slice_bounds-read_edge-count
slice_bounds-read_edge-count c = omega (arith, c.requires.3)

pub slice_bounds-read_edge-start : goal.slice_bounds-read_edge-start
slice_bounds-read_edge-start c = omega (arith, c.requires.3)

pub overflow_mul-i : goal.overflow_mul-i
overflow_mul-i c = omega (arith, c.requires.3, c.loop-i-test.true, c.well_formed)

pub read_edge-edge-requires : goal.read_edge-edge-requires
read_edge-edge-requires c =
    let list_is : let work = c.args.work.now in take (length work - END) (drop END work) ≡ drop END work = part_to_end c.args.work.now END in
    let here : (table : List ℕ) → let a = c.args in AllGrounded (chars a.line.now) table (stored_list_at (drop END a.work.now) 0 a.count) → (b : Bool) × Grounded (points_of b (chars a.line.now)) (chars a.line.now) table (stored_at (drop END a.work.now) (c.loop-i.i * SIZE)) = λ table g.
    let w = chars c.args.line.now in
    (g.marks, stored_edge_of (Grounded (points_of g.marks w) w table) (drop END c.args.work.now) c.args.count c.loop-i.i g.each c.loop-i-test.true) in
    (omega (arith, c.requires.3, c.loop-i-test.true, ap length list_is, length-drop END c.args.work.now), subst (λ (s : List ℕ). Small (stored_at s (c.loop-i.i * SIZE))) (sym list_is) (here c.requires.2.0 c.requires.2.1).1.small)

pub mark_barred-requires : goal.mark_barred-requires
mark_barred-requires c =
    let here : (table : List ℕ) → let a = c.args in AllGrounded (chars a.line.now) table (stored_list_at (drop END a.work.now) 0 a.count) → (b : Bool) × Grounded (points_of b (chars a.line.now)) (chars a.line.now) table (stored_at (drop END a.work.now) (c.loop-i.i * SIZE)) = λ table g.
    let w = chars c.args.line.now in
    (g.marks, stored_edge_of (Grounded (points_of g.marks w) w table) (drop END c.args.work.now) c.args.count c.loop-i.i g.each c.loop-i-test.true) in
    let list_is : let work = c.args.work.now in take (length work - END) (drop END work) ≡ drop END work = part_to_end c.args.work.now END in
    let read_is : EdgeIs c.read_edge-edge.result (stored_at (drop END c.args.work.now) (c.loop-i.i * SIZE)) = subst (λ (s : List ℕ). EdgeIs c.read_edge-edge.result (stored_at s (c.loop-i.i * SIZE))) (list_is) c.read_edge-edge.ensures in
    let stored_is : (table : List ℕ) → let a = c.args in AllGrounded (chars a.line.now) table (stored_list_at (drop END a.work.now) 0 a.count) → StoredIs a.line.now table c.read_edge-edge.result (stored_at (drop END a.work.now) (c.loop-i.i * SIZE)) = λ table g. let h = here table g in record { is = read_is; marks = h.0; sound = h.1 } in
    (c.requires.0, c.requires.1, (c.requires.2.0, _, stored_is c.requires.2.0 c.requires.2.1))

pub loop-i-preserved : goal.loop-i-preserved
loop-i-preserved c =
    let here : (table : List ℕ) → let a = c.args in AllGrounded (chars a.line.now) table (stored_list_at (drop END a.work.now) 0 a.count) → (b : Bool) × Grounded (points_of b (chars a.line.now)) (chars a.line.now) table (stored_at (drop END a.work.now) (c.loop-i.i * SIZE)) = λ table g.
    let w = chars c.args.line.now in
    (g.marks, stored_edge_of (Grounded (points_of g.marks w) w table) (drop END c.args.work.now) c.args.count c.loop-i.i g.each c.loop-i-test.true) in
    let list_is : let work = c.args.work.now in take (length work - END) (drop END work) ≡ drop END work = part_to_end c.args.work.now END in
    let read_is : EdgeIs c.read_edge-edge.result (stored_at (drop END c.args.work.now) (c.loop-i.i * SIZE)) = subst (λ (s : List ℕ). EdgeIs c.read_edge-edge.result (stored_at s (c.loop-i.i * SIZE))) (list_is) c.read_edge-edge.ensures in
    let stored_is : (table : List ℕ) → let a = c.args in AllGrounded (chars a.line.now) table (stored_list_at (drop END a.work.now) 0 a.count) → StoredIs a.line.now table c.read_edge-edge.result (stored_at (drop END a.work.now) (c.loop-i.i * SIZE)) = λ table g. let h = here table g in record { is = read_is; marks = h.0; sound = h.1 } in
    barred_next _ _ _ c.loop-i.invariant c.loop-i-test.true c.requires.1 stored_is c.mark_barred.ensures

pub returns : goal.returns
returns c = barred_end _ _ _ c.loop-i.invariant c.loop-i-test.false
