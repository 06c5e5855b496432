-- `call::last_stages::run_last_stages` meets its contract: each stage gives the next what it asks for. Assumes nothing.
use mathlib.Core.Path.{◌≡◌, sym, ap, ◌∙◌, subst}
use mathlib.Core.List.{List, map}
use Prim.Native.Nat.{ℕ}
use native.Mathlib.Omega.{arith}
use Rattle.text.specs.Text.{chars}
use Rattle.table.specs.Answers.{table_of}
use Rattle.table.specs.Table.{Table}
use Rattle.edge.specs.Edge.{Edge}
use Rattle.passes.specs.NumEdge.{NumEdge}
use Rattle.pass_list.specs.StoredEdge.{StoredEdge}
use Rattle.pass_list.specs.Edges.{edge_of, decimal_edge_of}
use Rattle.pass_list.specs.Stored.{stored_list_at}
use Rattle.lattice.specs.Kept.{Holds}
use Rattle.numbers.specs.CallEdge.{CallEdges}
use Rattle.pass_edge.specs.Grounded.{AllGrounded}
use Rattle.first_stages.specs.Five.{behind}
use Rattle.fractions.proofs.NewLaws.{fractions_call}
use Rattle.signs.proofs.CallLaws.{add_signs_call}
use Rattle.numbers.specs.Fractions.{fractions}
use Rattle.call.specs.Rest.{with_signs, apart_by, rest_of}
use Rattle.call.proofs.last_stages.RestLaws.{signs_moved, behind_same, apart_legals}
use Rattle.call.proofs.last_stages.run_last_stages.Goals as goal

pub add_signs-signed-requires : goal.add_signs-signed-requires
add_signs-signed-requires c =
    let moved : behind c.fractions-made.new.work c.args.stored ≡ behind c.args.work.now c.args.stored = ap (λ (b : List ℕ). stored_list_at b 0 c.args.stored) c.fractions-made.ensures.0 in
    ((_, c.fractions-made.ensures.1 c.requires.1.0 c.requires.1.1 c.requires.1.2), c.requires.2, (_, c.requires.0), subst (AllGrounded (chars c.args.line.now) c.args.table.now) (sym moved) c.requires.3, omega (arith, c.requires.5, c.fractions-made.auto.work))

pub set_apart-apart-requires : goal.set_apart-apart-requires
set_apart-apart-requires c =
    let W : List ℕ = chars c.args.line.now in
    let kept : behind c.add_signs-signed.new.work c.args.stored ≡ behind c.args.work.now c.args.stored = behind_same c.args.work.now c.add_signs-signed.new.work c.args.stored (c.add_signs-signed.ensures.0 ∙ c.fractions-made.ensures.0) in
    let grounded : AllGrounded (W) c.args.table.now (behind c.add_signs-signed.new.work c.args.stored) = subst (AllGrounded (W) c.args.table.now) (sym (kept)) c.requires.3 in
    let T : Table = table_of c.args.table.now c.args.shape in
    let Fifth : List NumEdge = map (edge_of (W) c.args.table.now) (behind c.args.work.now c.args.stored) in
    let signed : (es : List Edge) → Holds c.args.work.now c.args.lattice es → CallEdges c.args.places es → Holds c.add_signs-signed.new.work c.add_signs-signed.result (with_signs (T) (W) (Fifth) es) = λ es q d. signs_moved (T) (W) c.args.table.now c.fractions-made.new.work c.args.work.now c.args.stored c.fractions-made.ensures.0 (fractions (T) (W) es) (c.add_signs-signed.ensures.1 _ (c.fractions-made.ensures.1 es q d)) in
    let signed_call : (es : List Edge) → CallEdges c.args.places es → CallEdges c.args.places (with_signs (T) (W) (Fifth) es) = λ es d. add_signs_call (decimal_edge_of (W) c.args.table.now) (T) (W) (behind c.args.work.now c.args.stored) (fractions_call (T) (W) es c.requires.0.few d) c.requires.4 in
    (c.requires.2, omega (arith, c.requires.0.count, c.requires.0.few), (c.args.table.now, grounded), omega (arith, c.requires.5, c.fractions-made.auto.work, c.add_signs-signed.auto.work), (c.args.places, c.requires.0.few, (_, signed c.requires.1.0 c.requires.1.1 c.requires.1.2, signed_call c.requires.1.0 c.requires.1.2)))

pub fallback-requires : goal.fallback-requires
fallback-requires c =
    let T : Table = table_of c.args.table.now c.args.shape in
    let W : List ℕ = chars c.args.line.now in
    let Fifth : List NumEdge = map (edge_of (W) c.args.table.now) (behind c.args.work.now c.args.stored) in
    let signed_call : (es : List Edge) → CallEdges c.args.places es → CallEdges c.args.places (with_signs (T) (W) (Fifth) es) = λ es d. add_signs_call (decimal_edge_of (W) c.args.table.now) (T) (W) (behind c.args.work.now c.args.stored) (fractions_call (T) (W) es c.requires.0.few d) c.requires.4 in
    let kept : behind c.add_signs-signed.new.work c.args.stored ≡ behind c.args.work.now c.args.stored = behind_same c.args.work.now c.add_signs-signed.new.work c.args.stored (c.add_signs-signed.ensures.0 ∙ c.fractions-made.ensures.0) in
    let grounded : AllGrounded (W) c.args.table.now (behind c.add_signs-signed.new.work c.args.stored) = subst (AllGrounded (W) c.args.table.now) (sym (kept)) c.requires.3 in
    let signed : (es : List Edge) → Holds c.args.work.now c.args.lattice es → CallEdges c.args.places es → Holds c.add_signs-signed.new.work c.add_signs-signed.result (with_signs (T) (W) (Fifth) es) = λ es q d. signs_moved (T) (W) c.args.table.now c.fractions-made.new.work c.args.work.now c.args.stored c.fractions-made.ensures.0 (fractions (T) (W) es) (c.add_signs-signed.ensures.1 _ (c.fractions-made.ensures.1 es q d)) in
    let apart : (es : List Edge) → Holds c.args.work.now c.args.lattice es → CallEdges c.args.places es → Holds c.set_apart-apart.new.work c.set_apart-apart.result (apart_by c.args.silencing (Fifth) (with_signs (T) (W) (Fifth) es)) = λ es q d.
    subst (λ (fs : List StoredEdge). Holds c.set_apart-apart.new.work c.set_apart-apart.result (apart_by c.args.silencing (map (edge_of (W) c.args.table.now) fs) (with_signs (T) (W) (Fifth) es))) (kept)
    (c.set_apart-apart.ensures.1 c.args.table.now c.args.places _ c.requires.0.few (grounded) (signed es q d) (signed_call es d)) in
    let d = signed_call c.requires.1.0 c.requires.1.2 in
    (c.requires.2, c.requires.0.count, c.requires.0.few, (_, apart c.requires.1.0 c.requires.1.1 c.requires.1.2, apart_legals c.args.silencing Fifth _ d))

pub returns : goal.returns
unfolding rest_of
returns c =
    let T : Table = table_of c.args.table.now c.args.shape in
    let W : List ℕ = chars c.args.line.now in
    let Fifth : List NumEdge = map (edge_of (W) c.args.table.now) (behind c.args.work.now c.args.stored) in
    let signed_call : (es : List Edge) → CallEdges c.args.places es → CallEdges c.args.places (with_signs (T) (W) (Fifth) es) = λ es d. add_signs_call (decimal_edge_of (W) c.args.table.now) (T) (W) (behind c.args.work.now c.args.stored) (fractions_call (T) (W) es c.requires.0.few d) c.requires.4 in
    let kept : behind c.add_signs-signed.new.work c.args.stored ≡ behind c.args.work.now c.args.stored = behind_same c.args.work.now c.add_signs-signed.new.work c.args.stored (c.add_signs-signed.ensures.0 ∙ c.fractions-made.ensures.0) in
    let grounded : AllGrounded (W) c.args.table.now (behind c.add_signs-signed.new.work c.args.stored) = subst (AllGrounded (W) c.args.table.now) (sym (kept)) c.requires.3 in
    let signed : (es : List Edge) → Holds c.args.work.now c.args.lattice es → CallEdges c.args.places es → Holds c.add_signs-signed.new.work c.add_signs-signed.result (with_signs (T) (W) (Fifth) es) = λ es q d. signs_moved (T) (W) c.args.table.now c.fractions-made.new.work c.args.work.now c.args.stored c.fractions-made.ensures.0 (fractions (T) (W) es) (c.add_signs-signed.ensures.1 _ (c.fractions-made.ensures.1 es q d)) in
    let apart : (es : List Edge) → Holds c.args.work.now c.args.lattice es → CallEdges c.args.places es → Holds c.set_apart-apart.new.work c.set_apart-apart.result (apart_by c.args.silencing (Fifth) (with_signs (T) (W) (Fifth) es)) = λ es q d.
    subst (λ (fs : List StoredEdge). Holds c.set_apart-apart.new.work c.set_apart-apart.result (apart_by c.args.silencing (map (edge_of (W) c.args.table.now) fs) (with_signs (T) (W) (Fifth) es))) (kept)
    (c.set_apart-apart.ensures.1 c.args.table.now c.args.places _ c.requires.0.few (grounded) (signed es q d) (signed_call es d)) in
    λ es q d. let s = signed_call es d in c.fallback.ensures.1 _ (apart es q d) (apart_legals c.args.silencing Fifth _ s)
