-- `weights::weigh_digits` meets its contract, by what S-4 says of the line. Assumes nothing.
use mathlib.Core.Path.{◌≡◌, refl, sym}
use native.Mathlib.Omega.{arith}
use Rattle.std.specs.Prelude.{Ok, Err, None}
use Rattle.std.proofs.lemmas.Grind.{common_steps}
use Rattle.std.proofs.lemmas.Result.{err_from_is_err_and}
use Rattle.numeral.specs.Field.{field_of}
use Rattle.weights.proofs.WeighedLaws.{no_numeral, refused}
use Rattle.weights.proofs.weigh_digits.Goals as goal

pub returns-in_err-field : goal.returns-in_err-field
returns-in_err-field c =
    let p = err_from_is_err_and c.from_residual.result c.from_residual.ensures.1 in
    let is : field_of c.args.line.now ≡ Err c.in_err-field.field-0.0 = grind (arith, common_steps) in
    let a = refused c.args.line.now c.args.out.now (sym is) _ refl in
    rw (p.1, p.2) (record { answer = a.0; after = a.1 })

pub weigh_numeral-requires : goal.weigh_numeral-requires
weigh_numeral-requires c = (c.in-Some.field-0, grind (arith, common_steps))

pub returns-in-None : goal.returns-in-None
returns-in-None c =
    let is : field_of c.args.line.now ≡ Ok None = grind (arith, common_steps) in
    let a = no_numeral c.args.line.now c.args.out.now (sym is) refl in
    record { answer = a.0; after = a.1 }
