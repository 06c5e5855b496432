-- `fractions::parts::add_composed` meets its contract: the fields are those of the fraction. Assumes nothing.
use mathlib.Core.Path.{◌≡◌, subst}
use mathlib.Core.List.{[]}
use native.Mathlib.Omega.{arith}
use Rattle.edge.specs.Edge.{Edge}
use Rattle.edge.specs.Write.{numeric}
use Rattle.lattice.specs.Lattice.{add}
use Rattle.lattice.specs.Kept.{Holds}
use Rattle.numbers.specs.Fractions.{fraction_type}
use Rattle.fractions.specs.NewParts.{script_from, fraction_with}
use Rattle.lattice.proofs.HoldsLaws.{behind_same}
use Rattle.fractions.proofs.parts.WriteLaws.{fields_edge, fields_writable, fields_short}
use Rattle.fractions.proofs.parts.add_composed.Goals as goal

pub add_numeric-requires : goal.add_numeric-requires
add_numeric-requires c =
    let t = c.requires.3 in (
      c.requires.0,
      c.requires.1,
      c.requires.2,
      rw c.fraction_fields-d.ensures (fields_writable c.args.txt.now c.args.script.now _ _ c.args.copied c.requires.3 c.requires.4 (omega arith)),
      rw c.fraction_fields-d.ensures (omega (arith, fields_short c.args.txt.now c.args.script.now c.args.ratio.numerator c.args.ratio.denominator c.args.copied c.requires.4)),
    )

pub shape_of-work : goal.shape_of-work
shape_of-work c = c.add_numeric.auto.work

pub returns : goal.returns
returns c =
    let made : numeric c.args.start.0 c.args.end.0 fraction_type c.args.txt.now c.args.txt.now c.args.script.now [] c.fraction_fields-d.result ≡ fraction_with c.args.start.0 c.args.end.0 c.args.txt.now (c.args.ratio.numerator, c.args.ratio.denominator) (script_from c.args.script.now c.args.copied) = rw c.fraction_fields-d.ensures (fields_edge c.args.txt.now c.args.script.now c.args.ratio.numerator c.args.ratio.denominator c.args.copied c.args.start.0 c.args.end.0) in
    (behind_same c.args.work.now c.add_numeric.new.work c.add_numeric.ensures.0, λ es h. subst (λ (e : Edge). Holds c.add_numeric.new.work c.add_numeric.result (add es e)) made (c.add_numeric.ensures.1 es h))
