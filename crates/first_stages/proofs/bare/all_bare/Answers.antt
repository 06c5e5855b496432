use Rattle.std.proofs.Common.{not}
use mathlib.Core.Path.{◌≡◌, refl, sym, ap, ◌∙◌}
use native.Mathlib.Omega.{arith}
use lib.ListN.{drop}
use borrow.Author.Tests.{not-true, not-false}
use Rattle.text.specs.Sequence.{seq}
use Rattle.text.specs.Known.{char_of}
use Rattle.text.proofs.PlaceLaws.{reached_start, reached_char, char_fits}
use Rattle.text.proofs.known.KnownLaws.{reached_stands, reached_end}
use Rattle.first_stages.specs.Bare.{bare}
use Rattle.first_stages.proofs.bare.BareLaws.{turn_false, turn_next, bare_end}
use Rattle.first_stages.proofs.bare.all_bare.Goals as goal

pub loop-at-init : goal.loop-at-init
loop-at-init c = ((0, reached_start _), refl)

pub char_at-c-requires : goal.char_at-c-requires
char_at-c-requires c = reached_stands _ c.requires.0 _ _ c.loop-at.invariant.0.1 c.loop-at-test.true

pub bare_char-requires : goal.bare_char-requires
bare_char-requires c = (c.requires.1, c.requires.2)

pub returns-then-not-bare_char : goal.returns-then-not-bare_char
returns-then-not-bare_char c =
    let told : seq (drop c.loop-at.at c.args.line.now) ≡ char_of c.char_at-c.result = sym c.char_at-c.ensures in
    turn_false _ c.args.line.now c.loop-at.at _ _ told (sym (not-true _ (ap not c.if-not-bare_char.true)) ∙ c.bare_char.ensures) ∙ c.loop-at.invariant.1

pub overflow_add-at : goal.overflow_add-at
overflow_add-at c =
    let told : seq (drop c.loop-at.at c.args.line.now) ≡ char_of c.char_at-c.result = sym c.char_at-c.ensures in
    omega (arith, char_fits _ _ _ c.loop-at.invariant.0.1 _ _ told, c.well_formed)

pub loop-at-smaller : goal.loop-at-smaller
loop-at-smaller c =
    let told : seq (drop c.loop-at.at c.args.line.now) ≡ char_of c.char_at-c.result = sym c.char_at-c.ensures in
    omega (arith, char_fits _ _ _ c.loop-at.invariant.0.1 _ _ told)

pub loop-at-preserved : goal.loop-at-preserved
loop-at-preserved c =
    let told : seq (drop c.loop-at.at c.args.line.now) ≡ char_of c.char_at-c.result = sym c.char_at-c.ensures in (
      (_, reached_char _ _ _ c.loop-at.invariant.0.1 _ _ told),
      sym (turn_next _ c.args.line.now c.loop-at.at _ _ told (sym (not-false _ (ap not c.if-not-bare_char.false)) ∙ c.bare_char.ensures)) ∙ c.loop-at.invariant.1,
    )

pub returns : goal.returns
returns c = bare_end _ ∙ ap (bare _) (sym (reached_end _ c.requires.0 _ _ c.loop-at.invariant.0.1 c.loop-at-test.false)) ∙ c.loop-at.invariant.1
