use mathlib.Core.Path.{refl}
use native.Mathlib.Omega.{arith}
use Prim.Native.Nat.{◌+◌, ◌-◌, ◌/◌}
use Rattle.table.proofs.index.IndexLaws.{ahead_all, index_ahead}
use borrow.Author.Rules.{rules}
use Rattle.table.proofs.index.nearest_entry.Goals as goal

pub loop-lo-init : goal.loop-lo-init
loop-lo-init c = (ahead_all _ _ _ _ c.requires.0, omega arith, omega arith)

pub offset_bounds-offs-mid : goal.offset_bounds-offs-mid
offset_bounds-offs-mid c = omega (arith, c.requires.1.few)

pub bounds-offs-mid : goal.bounds-offs-mid
bounds-offs-mid c = omega (arith, c.requires.1.few)

pub u32_at-requires : goal.u32_at-requires
u32_at-requires c = (c.requires.1.entries (c.loop-lo.lo + (c.loop-lo.hi - c.loop-lo.lo) / 2) (omega arith)).there

pub overflow_mul-from : goal.overflow_mul-from
overflow_mul-from c =
    let within = c.requires.1.inner (c.loop-lo.lo + (c.loop-lo.hi - c.loop-lo.lo) / 2) (omega arith) in
    rw c.stride_of-stride.ensures (search rules)

pub overflow_sub-from : goal.overflow_sub-from
overflow_sub-from c =
    let within = c.requires.1.inner (c.loop-lo.lo + (c.loop-lo.hi - c.loop-lo.lo) / 2) (omega arith) in
    rw c.stride_of-stride.ensures (omega arith)

pub loop-lo-preserved-then-u32_at-c : goal.loop-lo-preserved-then-u32_at-c
loop-lo-preserved-then-u32_at-c c =
    let ahead = index_ahead _ _ _ _ _ c.requires.1 (c.loop-lo.lo + (c.loop-lo.hi - c.loop-lo.lo) / 2) c.args.c _ (omega arith) refl (omega (arith, c.u32_at.ensures, c.if-u32_at-c.true)) in
    (rw c.stride_of-stride.ensures ahead, omega arith, omega arith)

pub loop-lo-preserved : goal.loop-lo-preserved
loop-lo-preserved c = (c.loop-lo.invariant.0, omega arith, omega arith)

pub returns : goal.returns
returns c = c.loop-lo.invariant.0
