-- `fractions::parts::value_of` meets its contract: the bits of the value stand in the fields. Assumes nothing.
use mathlib.Core.Path.{◌≡◌, ap, ◌∙◌}
use mathlib.Core.List.{List}
use Prim.Native.Nat.{ℕ}
use lib.ListN.{get_or}
use lib.Ieee.{binary64, of_bits}
use Rattle.whole.specs.Whole.{of_nat}
use Rattle.edge.specs.Edge.{Edge}
use Rattle.edge.specs.declared.NumFields.{NumFields}
use Rattle.edge.proofs.theorems.Theorems.{f64_bits_not_nan, f64_bits_back}
use Rattle.lattice.specs.Kept.{no_edge}
use Rattle.fraction_choices.specs.Choice.{HasValue}
use Rattle.fractions.specs.NewParts.{HoldsCall}
use Rattle.fractions.proofs.parts.EdgeLaws.{call_at, ValueRead, value_read}
use Rattle.fractions.proofs.parts.value_of.Goals as goal

pub head_of-e-requires : goal.head_of-e-requires
head_of-e-requires c = ((c.requires.0.0, (c.requires.0.1.0, c.requires.0.1.1)), c.requires.1, c.requires.2)

pub fields_at-d-requires : goal.fields_at-d-requires
fields_at-d-requires c =
    let read : (n : ℕ) (es : List Edge) → HoldsCall n c.args.work.now c.args.lattice es → HasValue (get_or es c.args.i no_edge) → ValueRead c.args.work.now (get_or es c.args.i no_edge) c.head_of-e.result = λ n es h v. value_read (call_at h c.requires.1 _ c.requires.2) v (c.head_of-e.ensures _ _ h) in
    let mine : ValueRead c.args.work.now (get_or c.requires.0.1.0 c.args.i no_edge) c.head_of-e.result = (read _ _) c.requires.0.1.1 c.requires.0.1.2 in
    (mine).inside

pub float_from_bits-d : goal.float_from_bits-d
float_from_bits-d c =
    let read : (n : ℕ) (es : List Edge) → HoldsCall n c.args.work.now c.args.lattice es → HasValue (get_or es c.args.i no_edge) → ValueRead c.args.work.now (get_or es c.args.i no_edge) c.head_of-e.result = λ n es h v. value_read (call_at h c.requires.1 _ c.requires.2) v (c.head_of-e.ensures _ _ h) in
    let mine : ValueRead c.args.work.now (get_or c.requires.0.1.0 c.args.i no_edge) c.head_of-e.result = (read _ _) c.requires.0.1.1 c.requires.0.1.2 in
    let r = mine in rw (c.fields_at-d.ensures, r.bits) (f64_bits_not_nan r.small)

pub returns : goal.returns
returns c =
    let read : (n : ℕ) (es : List Edge) → HoldsCall n c.args.work.now c.args.lattice es → HasValue (get_or es c.args.i no_edge) → ValueRead c.args.work.now (get_or es c.args.i no_edge) c.head_of-e.result = λ n es h v. value_read (call_at h c.requires.1 _ c.requires.2) v (c.head_of-e.ensures _ _ h) in
    let whole : (e : Edge) (r : ValueRead c.args.work.now e c.head_of-e.result) → of_bits binary64 c.fields_at-d.result.value ≡ of_nat r.whole = λ e r. ap (λ (d : NumFields). of_bits binary64 d.value) c.fields_at-d.ensures ∙ ap (of_bits binary64) r.bits ∙ f64_bits_back r.whole in
    λ n es h v. let r = (read _ _) h v in c.whole_part.ensures r.whole r.small ((whole _) r) ∙ r.is
