-- `lattice_add::add_planned` meets its contract: an edge that goes into a bucket is linked, and of another nothing is stored. Assumes nothing.
use mathlib.Core.Path.{refl, subst}
use native.Mathlib.Omega.{arith}
use Rattle.lattice.specs.Kept.{AddingIs}
use Rattle.lattice_add.proofs.GrowLaws.{link_frame}
use Rattle.lattice_add.proofs.AddLaws.{link_room, add_too_much, add_into}
use Rattle.lattice.proofs.HoldsLaws.{behind_same, add_nothing}
use Rattle.lattice_add.proofs.add_planned.Goals as goal

pub link-requires : goal.link-requires
link-requires c = let q = c.requires.2 in link_room q.holds c.requires.1 _ (subst (AddingIs c.args.lattice c.requires.0 c.requires.1) c.in-Into.is q.planned)

pub overflow_add-result : goal.overflow_add-result
overflow_add-result c =
    let q = c.requires.2 in
    let r = link_room q.holds c.requires.1 _ (subst (AddingIs c.args.lattice c.requires.0 c.requires.1) c.in-Into.is q.planned) in
    omega (arith, r.1)

pub returns-in-Nothing : goal.returns-in-Nothing
returns-in-Nothing c = (refl, λ es e q. add_nothing q.holds e (subst (AddingIs c.args.lattice es e) c.in-Nothing.is q.planned))

pub returns-in-TooMuch : goal.returns-in-TooMuch
returns-in-TooMuch c = (refl, λ es e q. add_too_much q.holds e (subst (AddingIs c.args.lattice es e) c.in-TooMuch.is q.planned))

pub returns-in-Into : goal.returns-in-Into
returns-in-Into c =
    let q = c.requires.2 in
    let r = link_room q.holds c.requires.1 _ (subst (AddingIs c.args.lattice c.requires.0 c.requires.1) c.in-Into.is q.planned) in (
      behind_same c.args.work.now c.link.new.work (link_frame c.args.work.now c.args.lattice.count c.args.lattice.len _ r.1 r.3 c.link.ensures),
      λ es e q. add_into q.holds e _ _ _ (subst (AddingIs c.args.lattice es e) c.in-Into.is q.planned) (q.stands _ c.in-Into.is).1 c.link.ensures,
    )
