-- `call::last_stages::set_apart` meets its contract: F1, then the stage of the second call or nothing. Assumes nothing.
use mathlib.Core.Path.{sym, ◌∙◌, subst}
use mathlib.Core.List.{List}
use Prim.Native.Nat.{ℕ}
use native.Mathlib.Omega.{arith}
use Rattle.text.specs.Text.{chars}
use Rattle.pass_edge.specs.Grounded.{AllGrounded}
use Rattle.separators.proofs.LegalLaws.{separate_legals}
use Rattle.first_stages.specs.Five.{behind}
use Rattle.call.proofs.last_stages.RestLaws.{behind_same, apart_on, apart_off}
use Rattle.call.proofs.last_stages.set_apart.Goals as goal

pub silence_singles-requires : goal.silence_singles-requires
silence_singles-requires c =
    let grounded : (table : List ℕ) → AllGrounded (chars c.args.line.now) table (behind c.args.work.now c.args.count) → AllGrounded (chars c.args.line.now) table (behind c.separate-apart.new.work c.args.count) = λ table g. subst (AllGrounded (chars c.args.line.now) table) (sym (behind_same c.args.work.now c.separate-apart.new.work c.args.count c.separate-apart.ensures.0)) g in
    let (n, few, x) = c.requires.4 in
    let (es, q, d) = x in
    (c.requires.0, c.requires.1, (c.requires.2.0, grounded c.requires.2.0 c.requires.2.1), omega (arith, c.requires.3, c.separate-apart.auto.work), (n, few, (_, c.separate-apart.ensures.1 n es few q d, separate_legals es d)))

pub returns-then-silencing : goal.returns-then-silencing
returns-then-silencing c =
    let grounded : (table : List ℕ) → AllGrounded (chars c.args.line.now) table (behind c.args.work.now c.args.count) → AllGrounded (chars c.args.line.now) table (behind c.separate-apart.new.work c.args.count) = λ table g. subst (AllGrounded (chars c.args.line.now) table) (sym (behind_same c.args.work.now c.separate-apart.new.work c.args.count c.separate-apart.ensures.0)) g in
    let a = c.args in (
      c.silence_singles.ensures.0 ∙ c.separate-apart.ensures.0,
      λ table n es few g q d. apart_on (chars a.line.now) table a.work.now c.separate-apart.new.work a.count c.separate-apart.ensures.0 es c.if-silencing.true
          (c.silence_singles.ensures.1 table n _ few (grounded table g) (c.separate-apart.ensures.1 n es few q d) (separate_legals es d)),
    )

pub returns-else-silencing : goal.returns-else-silencing
returns-else-silencing c =
    let a = c.args in (
      c.separate-apart.ensures.0,
      λ table n es few g q d. apart_off (chars a.line.now) table a.work.now c.separate-apart.new.work a.count c.separate-apart.ensures.0 es c.if-silencing.false (c.separate-apart.ensures.1 n es few q d),
    )
