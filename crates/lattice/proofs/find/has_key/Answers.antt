use Prim.Native.Nat.{ℕ, ◌≤◌, ◌<◌, ◌-◌}
use mathlib.Core.Path.{◌≡◌, sym, ap, ◌∙◌}
use native.Mathlib.Omega.{arith}
use lib.ListN.{get_or}
use Rattle.lattice.specs.Lattice.{same_key}
use Rattle.lattice.specs.Kept.{Search, no_edge, bucket, last_in}
use Rattle.lattice.proofs.find.SearchLaws.{has_none, has_some, key_told}
use Rattle.lattice.proofs.KeptLaws.{map_in}
use Rattle.lattice.proofs.find.BucketLaws.{bucket_lt, Searching, onward, search_turn, last_le}
use Rattle.lattice.proofs.find.has_key.Goals as goal

pub overflow_mul-bucket : goal.overflow_mul-bucket
overflow_mul-bucket c =
    let bucket_small : c.args.bucket < 256 = bucket_lt c.requires.e c.requires.in_bucket in
    let b = bucket_small in omega arith

pub overflow_add-bucket : goal.overflow_add-bucket
overflow_add-bucket c =
    let bucket_small : c.args.bucket < 256 = bucket_lt c.requires.e c.requires.in_bucket in
    let b = bucket_small in omega arith

pub u16_at-edge-requires : goal.u16_at-edge-requires
u16_at-edge-requires c =
    let bucket_small : c.args.bucket < 256 = bucket_lt c.requires.e c.requires.in_bucket in
    let b = bucket_small in let r = c.requires.kept.room in omega arith

pub loop-edge-init : goal.loop-edge-init
loop-edge-init c =
    let Asked : Type 0 = Search c.args.work.now c.args.source.now c.args.at c.args.size c.args.bucket in
    let bucket_small : c.args.bucket < 256 = bucket_lt c.requires.e c.requires.in_bucket in
    let starts : (q : Asked) → Searching q.es q.e q.count c.u16_at-edge.result = λ q. onward _ _ _ _ _ (omega arith) (λ k x y. absurd (omega arith)) (c.u16_at-edge.ensures ∙ q.kept.heads _ (bucket_small) ∙ ap (λ (z : ℕ). last_in q.es z q.count) q.in_bucket) in
    let f = c.requires.kept.few in (omega (arith, (starts c.requires).within), starts)

pub u16_at-off-requires : goal.u16_at-off-requires
u16_at-off-requires c = let r = c.requires.kept.room in let h = c.loop-edge-test.true in let k = c.loop-edge.invariant.0 in omega arith

pub same_parts-requires : goal.same_parts-requires
same_parts-requires c =
    let Asked : Type 0 = Search c.args.work.now c.args.source.now c.args.at c.args.size c.args.bucket in
    let index : ℕ = c.loop-edge.edge - 1 in
    let below : (q : Asked) → index < q.count = λ q. let h = c.loop-edge-test.true in let k = (c.loop-edge.invariant.1 q).within in omega arith in
    let h = below c.requires in
    let i = map_in c.requires.kept _ h in
    let o = c.u16_at-off.ensures ∙ c.requires.kept.offsets _ h in
    (omega (arith, c.requires.kept.room, c.requires.kept.short), c.requires.keyed.inside)

pub returns-then-same_parts : goal.returns-then-same_parts
returns-then-same_parts c =
    let Asked : Type 0 = Search c.args.work.now c.args.source.now c.args.at c.args.size c.args.bucket in
    let index : ℕ = c.loop-edge.edge - 1 in
    let below : (q : Asked) → index < q.count = λ q. let h = c.loop-edge-test.true in let k = (c.loop-edge.invariant.1 q).within in omega arith in
    let says : (q : Asked) → c.same_parts.result ≡ same_key (get_or q.es (index) no_edge) q.e = λ q.
    let h = below q in
    key_told q.kept _ h _ _ _ _ q.keyed _ (c.u16_at-off.ensures ∙ q.kept.offsets _ h) _ c.same_parts.ensures in
    λ q. let h = below q in let k = q.kept.count in sym (has_some q.es q.e _ (omega arith) (sym (says q) ∙ c.if-same_parts.true))

pub loop-edge-smaller : goal.loop-edge-smaller
loop-edge-smaller c =
    let index : ℕ = c.loop-edge.edge - 1 in
    let Asked : Type 0 = Search c.args.work.now c.args.source.now c.args.at c.args.size c.args.bucket in
    let below : (q : Asked) → index < q.count = λ q. let h = c.loop-edge-test.true in let k = (c.loop-edge.invariant.1 q).within in omega arith in
    let falls : c.u16_at-edge-in-loop-edge.result ≤ index =
    let e = c.u16_at-edge-in-loop-edge.ensures ∙ c.requires.kept.nexts _ (below c.requires) in
    let l = last_le c.requires.es (bucket (get_or c.requires.es (index) no_edge)) (index) in
    omega arith in
    let h = falls in let k = c.loop-edge-test.true in omega arith

pub loop-edge-preserved : goal.loop-edge-preserved
loop-edge-preserved c =
    let index : ℕ = c.loop-edge.edge - 1 in
    let Asked : Type 0 = Search c.args.work.now c.args.source.now c.args.at c.args.size c.args.bucket in
    let below : (q : Asked) → index < q.count = λ q. let h = c.loop-edge-test.true in let k = (c.loop-edge.invariant.1 q).within in omega arith in
    let falls : c.u16_at-edge-in-loop-edge.result ≤ index =
    let e = c.u16_at-edge-in-loop-edge.ensures ∙ c.requires.kept.nexts _ (below c.requires) in
    let l = last_le c.requires.es (bucket (get_or c.requires.es (index) no_edge)) (index) in
    omega arith in
    let says : (q : Asked) → c.same_parts.result ≡ same_key (get_or q.es (index) no_edge) q.e = λ q.
    let h = below q in
    key_told q.kept _ h _ _ _ _ q.keyed _ (c.u16_at-off.ensures ∙ q.kept.offsets _ h) _ c.same_parts.ensures in
    let goes : (q : Asked) → Searching q.es q.e q.count c.u16_at-edge-in-loop-edge.result = λ q.
    let h = c.loop-edge-test.true in
    search_turn _ _ _ _ (index) _ (c.loop-edge.invariant.1 q) (omega arith) (sym (says q) ∙ c.if-same_parts.false) (c.u16_at-edge-in-loop-edge.ensures ∙ q.kept.nexts _ (below q)) in
    (let h = falls in let k = c.loop-edge.invariant.0 in omega arith, goes)

pub returns : goal.returns
returns c = λ q. let n = q.kept.count in let l = c.loop-edge-test.false in sym (has_none q.es q.e (λ i h. (c.loop-edge.invariant.1 q).passed i (omega arith) (omega arith)))
