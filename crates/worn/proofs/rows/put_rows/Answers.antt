use Prim.Native.Nat.{◌+◌, ◌-◌, ◌≤◌, ◌<◌}
use mathlib.Core.Path.{refl, ap, ◌∙◌}
use mathlib.Core.List.{[], ◌∷◌}
use native.Mathlib.Omega.{arith}
use lib.ListN.{length}
use Rattle.grammar.proofs.PlainText.{utf8_length}
use Rattle.sheet_rows.specs.Rows.{char_at}
use Rattle.sheet_rows.proofs.CodeLaws.{put_length}
use Rattle.worn.proofs.TriedLaws.{rowing_start, rowing_none, rowing_row, rowing_ends, row_small, stands_fits, tried_char}
use Rattle.worn.proofs.rows.put_rows.Goals as goal

pub loop-rank-init : goal.loop-rank-init
loop-rank-init c = (λ x y s. rowing_start x y _ _ _ _ s, refl, refl)

pub try_char-requires : goal.try_char-requires
try_char-requires c =
    let fits : let a = c.args in (a.at + 3 ≤ a.len) × (a.len ≤ length c.loop-rank.copy) = stands_fits _ _ _ _ _ (c.loop-rank.invariant.0 c.requires.1.0 c.requires.1.1 c.requires.1.2).stands in
    let f = fits in
    (f.0, f.1, omega (arith, c.loop-rank-test.true))

pub slice_bounds-put_row-end : goal.slice_bounds-put_row-end
slice_bounds-put_row-end c =
    let fits : let a = c.args in (a.at + 3 ≤ a.len) × (a.len ≤ length c.loop-rank.copy) = stands_fits _ _ _ _ _ (c.loop-rank.invariant.0 c.requires.1.0 c.requires.1.1 c.requires.1.2).stands in
    omega (arith, fits, put_length c.try_char.ensures.put)

pub put_row-end-requires : goal.put_row-end-requires
put_row-end-requires c =
    let so = c.loop-rank.invariant.0 c.requires.1.0 c.requires.1.1 c.requires.1.2 in
    let test : c.loop-rank.rank < 16 = omega (arith, c.loop-rank-test.true) in
    let digits = row_small _ _ _ _ _ _ _ _ _ so test c.try_char.ensures.put c.try_char.ensures.answer _ c.in-Some.is in
    let three = ap length (tried_char _ _ _ _ _ so.stands (char_at c.loop-rank.rank) c.try_char.ensures.put (c.args.at + 3 - c.args.at) (omega arith)) in
    omega (arith, digits, three, utf8_length (char_at c.loop-rank.rank ∷ []), so.room, test, c.loop-rank.invariant.1, c.requires.0)

pub loop-rank-preserved : goal.loop-rank-preserved
loop-rank-preserved c = (
  λ x y s.
      let so = c.loop-rank.invariant.0 x y s in
      rowing_row x y _ _ _ _ _ _ _ so (omega (arith, c.loop-rank-test.true)) c.try_char.ensures.put c.try_char.ensures.answer _ c.in-Some.is
      (tried_char _ _ _ _ _ so.stands (char_at c.loop-rank.rank) c.try_char.ensures.put (c.args.at + 3 - c.args.at) (omega arith)) c.put_row-end.ensures,
  put_length c.put_row-end.ensures ∙ c.loop-rank.invariant.1,
  put_length c.try_char.ensures.put ∙ c.loop-rank.invariant.2,
)

pub loop-rank-preserved-in_default : goal.loop-rank-preserved-in_default
loop-rank-preserved-in_default c = (
  λ x y s. rowing_none x y _ _ _ _ _ _ _ (c.loop-rank.invariant.0 x y s) (omega (arith, c.loop-rank-test.true)) c.try_char.ensures.put c.try_char.ensures.answer c.in_default.is,
  c.loop-rank.invariant.1,
  put_length c.try_char.ensures.put ∙ c.loop-rank.invariant.2,
)

pub returns : goal.returns
returns c =
    let so = c.loop-rank.invariant.0 in
    record {
      short = omega (arith, (so c.requires.1.0 c.requires.1.1 c.requires.1.2).room, (so c.requires.1.0 c.requires.1.1 c.requires.1.2).few);
      put = λ x y s. rowing_ends x y _ _ _ _ _ _ _ (so x y s) (omega (arith, c.loop-rank-test.false));
    }
