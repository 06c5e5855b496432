-- `singles::is_barred` meets its contract, by its length, its value and its text. Assumes nothing.
use native.Mathlib.Omega.{arith}
use Rattle.pass_edge.proofs.TextLaws.{places_of, value_is}
use Rattle.singles.proofs.BarredLaws.{longer, above, by_text, start_in}
use Rattle.singles.proofs.is_barred.Goals as goal

pub overflow_add-edge : goal.overflow_add-edge
overflow_add-edge c = omega (arith, start_in c.requires.2.2 c.requires.1)

pub returns-then-edge : goal.returns-then-edge
returns-then-edge c = λ table stored q. longer q c.if-edge.true

pub exact_u64-requires : goal.exact_u64-requires
exact_u64-requires c = let q = c.requires.2.2 in (c.requires.2.1.value, q.is.fits.small.value, value_is _ _ q.is)

pub returns-then-exact_u64-gt1000 : goal.returns-then-exact_u64-gt1000
returns-then-exact_u64-gt1000 c = λ table stored q. above q c.if-edge.false (c.exact_u64.ensures stored.value q.is.fits.small.value (value_is _ _ q.is)) c.if-exact_u64-gt1000.true

pub line_part-requires : goal.line_part-requires
line_part-requires c = let s = places_of _ _ _ _ c.requires.2.2 in (c.requires.0, s.0, s.1, c.requires.1)

pub returns : goal.returns
returns c =
    λ table stored q. by_text q c.if-edge.false (c.exact_u64.ensures stored.value q.is.fits.small.value (value_is _ _ q.is)) c.if-exact_u64-gt1000.false
    (rw c.line_part.ensures at c.is_barred_text.ensures)
