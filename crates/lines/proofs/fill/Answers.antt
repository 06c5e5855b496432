use native.Mathlib.Omega.{arith}
use Rattle.fields.specs.Part.{part}
use Rattle.lines.proofs.FillLaws.{fill_entry, fill_stops, fill_ends}
use Rattle.lines.proofs.fill.Goals as goal

-- the entry is put
pub loop-next-preserved : goal.loop-next-preserved
unfolding part
loop-next-preserved c = (
  fill_entry _ _ _ _ _ _ c.loop-next.invariant.0 c.line_at-l.result c.line_at-l.ensures c.in-Some.ensures,
  omega (arith, c.add_entry.auto.out, c.loop-next.invariant.1),
  omega (arith, c.add_entry.auto.work, c.loop-next.invariant.2),
)

pub returns-after-loop-next : goal.returns-after-loop-next
returns-after-loop-next c = fill_ends _ _ _ _ _ _ c.loop-next.invariant.0 c.loop-next-test.false

-- the entry does not fit
pub returns-in_default : goal.returns-in_default
unfolding part
returns-in_default c = fill_stops _ _ _ _ _ _ c.loop-next.invariant.0 c.line_at-l.result c.line_at-l.ensures c.in_default.ensures
