-- `first_stages::five_passes::add_if` meets its contract: the stored edge that is read is the one of the list behind the lattice, and what is read first is its kind. Assumes nothing.
use mathlib.Core.Path.{◌≡◌, refl, sym, ap, ◌∙◌, subst}
use Prim.Native.Nat.{◌*◌}
use native.Mathlib.Omega.{arith}
use lib.ListN.{drop}
use Rattle.text.specs.Text.{chars}
use Rattle.pass_list.specs.declared.record.PassEdge.{PassEdge}
use Rattle.pass_list.specs.StoredEdge.{StoredEdge, Small}
use Rattle.pass_list.specs.Layout.{SIZE}
use Rattle.pass_list.specs.Stored.{stored_at}
use Rattle.pass_list.specs.Kind.{kind_number}
use Rattle.lattice.specs.Kept.{Holds, END}
use Rattle.pass_edge.specs.Grounded.{StoredIs}
use Rattle.first_stages.proofs.five_passes.AddingLaws.{kind_behind, stored_edge_behind_is, stored_edge_behind, passes_over, added_if}
use Rattle.first_stages.proofs.five_passes.add_if.Goals as goal

pub overflow_mul-at : goal.overflow_mul-at
overflow_mul-at c = omega (arith, c.requires.4)

pub overflow_add-at : goal.overflow_add-at
overflow_add-at c = omega (arith, c.requires.4)

pub kind_at-requires : goal.kind_at-requires
kind_at-requires c = omega (arith, c.requires.4)

pub shape_of-work-then-found-kind : goal.shape_of-work-then-found-kind
shape_of-work-then-found-kind c = refl

pub returns-then-found-kind : goal.returns-then-found-kind
returns-then-found-kind c =
    let stored_edge : StoredEdge = stored_at (drop END c.args.work.now) (c.args.i * SIZE) in
    let kind : c.from-found.result ≡ kind_number (stored_edge).kind = c.from-found.ensures ∙ ap kind_number (c.kind_at.ensures ∙ kind_behind c.args.work.now (c.args.i * SIZE)) in
    let a = c.args in
    (refl, λ es h. subst (Holds _ _) (passes_over (chars a.line.now) a.table.now a.kind es stored_edge (λ e. c.if-found-kind.true (kind ∙ e))) h)

pub read_edge-x-requires : goal.read_edge-x-requires
read_edge-x-requires c = (c.requires.4, subst Small (sym (stored_edge_behind_is c.args.work.now (c.args.i * SIZE))) c.requires.3.1.small)

pub add_joined-requires : goal.add_joined-requires
add_joined-requires c =
    let stored_edge : StoredEdge = stored_at (drop END c.args.work.now) (c.args.i * SIZE) in
    let is : StoredIs c.args.line.now c.args.table.now c.read_edge-x.result (stored_edge) = let a = c.args in stored_edge_behind a.line.now a.table.now a.work.now (a.i * SIZE) c.read_edge-x.result c.requires.3.0 c.requires.3.1 c.read_edge-x.ensures in
    let kind : c.from-found.result ≡ kind_number (stored_edge).kind = c.from-found.ensures ∙ ap kind_number (c.kind_at.ensures ∙ kind_behind c.args.work.now (c.args.i * SIZE)) in
    let of-kind : kind_number c.read_edge-x.result.kind ≡ c.args.kind = ap (λ (e : PassEdge). kind_number e.kind) is.is.is ∙ sym kind ∙ c.if-found-kind.false in
    (record { holds = c.requires.0; offsets = c.requires.1; stored_edge = (stored_edge, is); few = c.requires.2 }, λ z. c.requires.5 (sym of-kind ∙ z))

pub shape_of-work : goal.shape_of-work
shape_of-work c = c.add_joined.auto.work

pub returns : goal.returns
returns c =
    let stored_edge : StoredEdge = stored_at (drop END c.args.work.now) (c.args.i * SIZE) in
    let is : StoredIs c.args.line.now c.args.table.now c.read_edge-x.result (stored_edge) = let a = c.args in stored_edge_behind a.line.now a.table.now a.work.now (a.i * SIZE) c.read_edge-x.result c.requires.3.0 c.requires.3.1 c.read_edge-x.ensures in
    let kind : c.from-found.result ≡ kind_number (stored_edge).kind = c.from-found.ensures ∙ ap kind_number (c.kind_at.ensures ∙ kind_behind c.args.work.now (c.args.i * SIZE)) in
    let a = c.args in
    (c.add_joined.ensures.frame, added_if a.line.now a.table.now a.kind c.read_edge-x.result stored_edge is (sym kind ∙ c.if-found-kind.false) c.add_joined.ensures)
