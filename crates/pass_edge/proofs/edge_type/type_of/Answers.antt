-- `pass_edge::edge_type::type_of` meets its contract: a character's type is its record's, another's is the pass's name. Assumes nothing.
use mathlib.Core.Path.{◌≡◌, sym, ap, ◌∙◌}
use mathlib.Core.List.{[]}
use native.Mathlib.Omega.{arith}
use lib.ListN.{length}
use Rattle.pass_list.specs.declared.run.Pass.{Pass}
use Rattle.pass_list.specs.declared.run.Pass.TheVariants.{D1, G1, G2, G3, G4}
use Rattle.pass_list.specs.declared.kind.Kind.{Kind}
use Rattle.pass_list.specs.declared.kind.Kind.TheVariants.{Joined}
use Rattle.pass_list.specs.Kind.{kind_number}
use Rattle.pass_list.specs.Edges.{kind_name}
use Rattle.pass_edge.specs.Grounded.{LegalAt}
use Rattle.pass_edge.proofs.TextLaws.{front_is, type_char, type_kind, type_fits, rooted_char}
use Rattle.pass_edge.proofs.edge_type.type_of.Goals as goal

-- a joined edge's kind is not a character's
joined_not : {k : Kind} {p : Pass} → k ≡ Joined p → kind_number k ≡ 0 → ⊥
joined_not {k} {p} e z = go p (ap kind_number (sym e) ∙ z)
  where
    go : (p : Pass) → kind_number (Joined p) ≡ 0 → ⊥
    go D1 z = omega (arith, z)
    go G1 z = omega (arith, z)
    go G2 z = omega (arith, z)
    go G3 z = omega (arith, z)
    go G4 z = omega (arith, z)

pub type_at-requires : goal.type_at-requires
type_at-requires c =
    let legal : let a = c.args in LegalAt a.table.now a.edge.record_at.0 =
    let (i, is, rooted) = c.requires.0 in
    rooted_char c.args.table.now c.args.edge i is rooted (ap kind_number c.in-Character.is) in
    legal

pub put_text-requires : goal.put_text-requires
put_text-requires c =
    let legal : let a = c.args in LegalAt a.table.now a.edge.record_at.0 =
    let (i, is, rooted) = c.requires.0 in
    rooted_char c.args.table.now c.args.edge i is rooted (ap kind_number c.in-Character.is) in
    omega (arith, ap length c.type_at.ensures, type_fits c.args.table.now c.args.edge.record_at.0 legal, c.requires.1)

pub shape_of-buf-in-Character : goal.shape_of-buf-in-Character
shape_of-buf-in-Character c = c.put_text.auto.buf

pub returns-in-Character : goal.returns-in-Character
returns-in-Character c i is =
    let a = c.args in
    front_is (c.type_at.ensures ∙ type_char [] a.table.now a.edge i is (ap kind_number c.in-Character.is)) c.put_text.ensures

pub shape_of-buf-in-Joined : goal.shape_of-buf-in-Joined
shape_of-buf-in-Joined c = c.put_pass.auto.buf

pub returns-in-Joined : goal.returns-in-Joined
returns-in-Joined c i is =
    let a = c.args in
    let e = c.in-Joined.is in
    front_is (ap (λ (k : Kind). kind_name (kind_number k)) (sym e) ∙ type_kind [] a.table.now a.edge i is (joined_not e)) c.put_pass.ensures
