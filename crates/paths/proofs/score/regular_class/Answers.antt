-- `paths::score::regular_class` meets its contract, by the prefixes in the order in which they are tried. Assumes nothing.
use mathlib.Core.Path.{sym, ◌∙◌}
use Rattle.paths.specs.Best.{rom, num}
use Rattle.paths.proofs.BestLaws.{begins, class_decomp, class_named, class_other}
use Rattle.paths.proofs.score.regular_class.Goals as goal

pub returns-then-starts_with : goal.returns-then-starts_with
returns-then-starts_with c = class_decomp _ (sym (c.starts_with.ensures.value ∙ begins _ _) ∙ c.if-starts_with.true)

pub returns-then-starts_with-2 : goal.returns-then-starts_with-2
returns-then-starts_with-2 c =
    class_named _ (sym (c.starts_with.ensures.value ∙ begins _ _) ∙ c.if-starts_with.false)
    (rw (← begins c.args.ty.now rom, ← begins c.args.ty.now num, ← c.starts_with-2.ensures.value, ← c.starts_with-3.ensures.value) c.if-starts_with-2.true)

pub returns : goal.returns
returns c =
    class_other _ (sym (c.starts_with.ensures.value ∙ begins _ _) ∙ c.if-starts_with.false)
    (rw (← begins c.args.ty.now rom, ← begins c.args.ty.now num, ← c.starts_with-2.ensures.value, ← c.starts_with-3.ensures.value) c.if-starts_with-2.false)
