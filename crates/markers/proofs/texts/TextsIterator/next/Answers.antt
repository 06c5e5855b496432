-- `next` of `markers::texts::Texts` gives the first of the texts that are left, where its layout holds. Assumes nothing.
use mathlib.Core.Path.{sym, subst}
use Rattle.std.proofs.Common.{rules}
use native.Mathlib.Omega.{arith}
use Rattle.std.proofs.Common.{ap, length}
use Rattle.std.specs.Iterator.{YieldsFirstRef}
use Rattle.markers.specs.Texts.{texts_left}
use Rattle.markers.proofs.MarkLaws.{cut_is}
use Rattle.markers.proofs.TextsLaws.{none_left, none_there, first_left}
use Rattle.markers.proofs.texts.TextsIterator.next.Goals as goal

pub returns-then-self-eq0-clause-steps : goal.returns-then-self-eq0-clause-steps
returns-then-self-eq0-clause-steps c = let s = c.args.self.now in let e = none_left s.table.now s.next s.left (omega (arith, c.if-self-eq0.true)) in (e, e)

pub returns-in_err-text-clause-steps : goal.returns-in_err-text-clause-steps
returns-in_err-text-clause-steps c =
    let s = c.args.self.now in
    let e = none_there s.table.now s.next s.left (sym c.in_err-text.ensures.result_value) in
    subst (λ r. YieldsFirstRef texts_left s r s) (sym c.from_residual.ensures) (e, e)

pub returns-clause-steps : goal.returns-clause-steps
returns-clause-steps c =
    let s = c.args.self.now in
    rw (cut_is s.table.now c.in_ok-text.text.at.0 c.in_ok-text.text.len)
    (first_left s.table.now s.next s.left (λ e. omega (arith, e, c.if-self-eq0.false)) (sym c.in_ok-text.ensures.result_value))

pub returns-clause-goes : goal.returns-clause-goes
returns-clause-goes c =
    let s = c.args.self.now in
    let e = first_left s.table.now s.next s.left (λ e. omega (arith, e, c.if-self-eq0.false)) (sym c.in_ok-text.ensures.result_value) in
    record { on = λ f. (search rules, search rules, omega (arith, ap length e)); keeps = search rules; rests = search rules }
