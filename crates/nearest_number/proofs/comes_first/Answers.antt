-- `nearest_number::comes_first` meets its contract: by the distances, then the starts, then the ends, which tell the longer of two edges with one start. Assumes nothing.
use Prim.Native.Nat.{ℕ}
use mathlib.Core.Path.{◌≡◌, ap, ◌∙◌}
use lib.Dec.{ltb}
use native.Mathlib.Omega.{arith}
use Rattle.paths.proofs.BestLaws.{head_bytes_lem}
use Rattle.nearest_number.specs.Nearest.{lower}
use Rattle.nearest_number.proofs.NearestLaws.{Read, read_span, triples_by_parts, first_by_parts}
use Rattle.nearest_number.proofs.comes_first.Goals as goal

pub overflow_add-at : goal.overflow_add-at
overflow_add-at c = omega (arith, head_bytes_lem _ _ _ c.requires.0.whole)

pub u16_at-start-requires : goal.u16_at-start-requires
u16_at-start-requires c = omega (arith, head_bytes_lem _ _ _ c.requires.0.whole)

pub overflow_add-at-2 : goal.overflow_add-at-2
overflow_add-at-2 c = omega (arith, head_bytes_lem _ _ _ c.requires.0.whole)

pub u16_at-end-requires : goal.u16_at-end-requires
u16_at-end-requires c = omega (arith, head_bytes_lem _ _ _ c.requires.0.whole)

pub overflow_add-held : goal.overflow_add-held
overflow_add-held c = omega (arith, head_bytes_lem _ _ _ c.requires.1.whole)

pub u16_at-held_start-requires : goal.u16_at-held_start-requires
u16_at-held_start-requires c = omega (arith, head_bytes_lem _ _ _ c.requires.1.whole)

pub overflow_add-held-2 : goal.overflow_add-held-2
overflow_add-held-2 c = omega (arith, head_bytes_lem _ _ _ c.requires.1.whole)

pub u16_at-held_end-requires : goal.u16_at-held_end-requires
u16_at-held_end-requires c = omega (arith, head_bytes_lem _ _ _ c.requires.1.whole)

pub distance-far-requires : goal.distance-far-requires
distance-far-requires c =
    let this : let a = c.args in Read a.s.now a.at c.u16_at-start.result c.u16_at-end.result = read_span _ _ c.requires.0 c.u16_at-start.ensures c.u16_at-end.ensures in
    (this).rises

pub distance-held_far-requires : goal.distance-held_far-requires
distance-held_far-requires c =
    let that : let a = c.args in Read a.s.now a.held c.u16_at-held_start.result c.u16_at-held_end.result = read_span _ _ c.requires.1 c.u16_at-held_start.ensures c.u16_at-held_end.ensures in
    (that).rises

-- the order of triples takes the last part by its value
ends_alike : (x d a b y z : ℕ) {w : ℕ} → w ≡ z → lower x d (lower a b (ltb y w)) ≡ lower x d (lower a b (ltb y z))
ends_alike x d a b y z p = ap (λ (k : ℕ). lower x d (lower a b (ltb y k))) p

pub returns : goal.returns
returns c =
    let this : let a = c.args in Read a.s.now a.at c.u16_at-start.result c.u16_at-end.result = read_span _ _ c.requires.0 c.u16_at-start.ensures c.u16_at-end.ensures in
    let that : let a = c.args in Read a.s.now a.held c.u16_at-held_start.result c.u16_at-held_end.result = read_span _ _ c.requires.1 c.u16_at-held_start.ensures c.u16_at-held_end.ensures in
    c.lt.ensures ∙ triples_by_parts c.distance-far.result c.u16_at-start.result c.u16_at-held_end.result c.distance-held_far.result c.u16_at-held_start.result _
    ∙ ends_alike c.distance-far.result c.distance-held_far.result c.u16_at-start.result c.u16_at-held_start.result c.u16_at-held_end.result c.u16_at-end.result (omega arith)
    ∙ first_by_parts _ _ _ _ this that c.distance-far.ensures c.distance-held_far.ensures
