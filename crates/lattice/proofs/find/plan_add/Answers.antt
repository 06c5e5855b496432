-- `lattice::find::plan_add` meets its contract: the edge's key is asked for in its bucket, then the room. Assumes nothing.
use Prim.Native.Nat.{◌+◌}
use mathlib.Core.Path.{◌≡◌, sym, ap, ◌∙◌}
use mathlib.Core.Logic.{inl, inr}
use mathlib.Core.List.{List}
use native.Mathlib.Omega.{arith}
use Rattle.edge.specs.Edge.{Edge}
use Rattle.lattice.specs.Lattice.{has}
use Rattle.lattice.specs.Kept.{hash, Holds, Stands, Search, AddingIs, bucket}
use Rattle.lattice.proofs.find.SearchLaws.{stands_keyed, too_many, too_long_lem, into}
use Rattle.lattice.proofs.KeyLaws.{length_key}
use Rattle.lattice.proofs.HoldsLaws.{kept_of_lem}
use Rattle.lattice.proofs.find.plan_add.Goals as goal

pub returns-then-lattice-eq0 : goal.returns-then-lattice-eq0
unfolding AddingIs
returns-then-lattice-eq0 c = λ es e q d. inl c.if-lattice-eq0.true

pub bucket_of-bucket-requires : goal.bucket_of-bucket-requires
bucket_of-bucket-requires c = let d = c.requires.1 in let k = (stands_keyed _ _ _ _ _ d.1).inside in let n = d.1.keyed in let l = length_key d.0 in (omega arith, omega arith)

pub has_key-requires : goal.has_key-requires
has_key-requires c =
    let H : List Edge → Type 0 = λ es. Holds c.args.work.now c.args.lattice es in
    let E : Edge → Type 0 = λ e. Stands c.args.source.now c.args.at c.args.size c.args.to e in
    let hashed : (e : Edge) → E e → c.bucket_of-bucket.result ≡ bucket e = λ e d. c.bucket_of-bucket.ensures ∙ ap hash (stands_keyed _ _ _ _ e d).there in
    let asked : (es : List Edge) (e : Edge) → H es → E e → Search c.args.work.now c.args.source.now (c.args.at + 2) c.args.size c.bucket_of-bucket.result = λ es e q d. record { count = c.args.lattice.count; len = c.args.lattice.len; es = es; e = e; kept = kept_of_lem q c.if-lattice-eq0.false; keyed = stands_keyed _ _ _ _ e d; in_bucket = hashed e d } in
    asked _ _ c.requires.0.1 c.requires.1.1

pub returns-then-has_key : goal.returns-then-has_key
unfolding AddingIs
returns-then-has_key c =
    let H : List Edge → Type 0 = λ es. Holds c.args.work.now c.args.lattice es in
    let E : Edge → Type 0 = λ e. Stands c.args.source.now c.args.at c.args.size c.args.to e in
    let hashed : (e : Edge) → E e → c.bucket_of-bucket.result ≡ bucket e = λ e d. c.bucket_of-bucket.ensures ∙ ap hash (stands_keyed _ _ _ _ e d).there in
    let asked : (es : List Edge) (e : Edge) → H es → E e → Search c.args.work.now c.args.source.now (c.args.at + 2) c.args.size c.bucket_of-bucket.result = λ es e q d. record { count = c.args.lattice.count; len = c.args.lattice.len; es = es; e = e; kept = kept_of_lem q c.if-lattice-eq0.false; keyed = stands_keyed _ _ _ _ e d; in_bucket = hashed e d } in
    let found : (es : List Edge) (e : Edge) → H es → E e → c.has_key.result ≡ has es e = λ es e q d. c.has_key.ensures (asked es e q d) in
    λ es e q d. inr (sym (found es e q d) ∙ c.if-has_key.true)

pub returns-then-lattice-ge-MOST_EDGES : goal.returns-then-lattice-ge-MOST_EDGES
returns-then-lattice-ge-MOST_EDGES c =
    let H : List Edge → Type 0 = λ es. Holds c.args.work.now c.args.lattice es in
    let E : Edge → Type 0 = λ e. Stands c.args.source.now c.args.at c.args.size c.args.to e in
    let hashed : (e : Edge) → E e → c.bucket_of-bucket.result ≡ bucket e = λ e d. c.bucket_of-bucket.ensures ∙ ap hash (stands_keyed _ _ _ _ e d).there in
    let asked : (es : List Edge) (e : Edge) → H es → E e → Search c.args.work.now c.args.source.now (c.args.at + 2) c.args.size c.bucket_of-bucket.result = λ es e q d. record { count = c.args.lattice.count; len = c.args.lattice.len; es = es; e = e; kept = kept_of_lem q c.if-lattice-eq0.false; keyed = stands_keyed _ _ _ _ e d; in_bucket = hashed e d } in
    let found : (es : List Edge) (e : Edge) → H es → E e → c.has_key.result ≡ has es e = λ es e q d. c.has_key.ensures (asked es e q d) in
    λ es e q d. too_many q e c.if-lattice-eq0.false (sym (found es e q d) ∙ c.if-has_key.false) c.if-lattice-ge-MOST_EDGES.true

pub returns-then-lattice-to : goal.returns-then-lattice-to
returns-then-lattice-to c =
    let H : List Edge → Type 0 = λ es. Holds c.args.work.now c.args.lattice es in
    let E : Edge → Type 0 = λ e. Stands c.args.source.now c.args.at c.args.size c.args.to e in
    let hashed : (e : Edge) → E e → c.bucket_of-bucket.result ≡ bucket e = λ e d. c.bucket_of-bucket.ensures ∙ ap hash (stands_keyed _ _ _ _ e d).there in
    let asked : (es : List Edge) (e : Edge) → H es → E e → Search c.args.work.now c.args.source.now (c.args.at + 2) c.args.size c.bucket_of-bucket.result = λ es e q d. record { count = c.args.lattice.count; len = c.args.lattice.len; es = es; e = e; kept = kept_of_lem q c.if-lattice-eq0.false; keyed = stands_keyed _ _ _ _ e d; in_bucket = hashed e d } in
    let found : (es : List Edge) (e : Edge) → H es → E e → c.has_key.result ≡ has es e = λ es e q d. c.has_key.ensures (asked es e q d) in
    λ es e q d.
    let z = d.ends in
    let t = c.if-lattice-to.true in
    too_long_lem q e c.if-lattice-eq0.false (sym (found es e q d) ∙ c.if-has_key.false) (omega arith)

pub returns : goal.returns
returns c =
    let H : List Edge → Type 0 = λ es. Holds c.args.work.now c.args.lattice es in
    let E : Edge → Type 0 = λ e. Stands c.args.source.now c.args.at c.args.size c.args.to e in
    let hashed : (e : Edge) → E e → c.bucket_of-bucket.result ≡ bucket e = λ e d. c.bucket_of-bucket.ensures ∙ ap hash (stands_keyed _ _ _ _ e d).there in
    let asked : (es : List Edge) (e : Edge) → H es → E e → Search c.args.work.now c.args.source.now (c.args.at + 2) c.args.size c.bucket_of-bucket.result = λ es e q d. record { count = c.args.lattice.count; len = c.args.lattice.len; es = es; e = e; kept = kept_of_lem q c.if-lattice-eq0.false; keyed = stands_keyed _ _ _ _ e d; in_bucket = hashed e d } in
    let found : (es : List Edge) (e : Edge) → H es → E e → c.has_key.result ≡ has es e = λ es e q d. c.has_key.ensures (asked es e q d) in
    λ es e q d.
    let z = d.ends in
    let t = c.if-lattice-to.false in
    into q e c.if-lattice-eq0.false (sym (found es e q d) ∙ c.if-has_key.false) _ c.if-lattice-ge-MOST_EDGES.false (omega arith) (hashed e d)
