-- The end: refusal 8, and the listing in the output. No contract cites this file. Assumes nothing.
use mathlib.Core.Path.{◌≡◌, ap, ◌∙◌}
use mathlib.Core.Bool.{true, false}
use mathlib.Core.List.{List}
use Prim.Native.Nat.{ℕ, ◌≤◌, ◌<◌}
use native.Mathlib.Omega.{arith}
use lib.ListN.{length, take}
use lib.Seq.{sets}
use lib.Dec.{ltb}
use borrow.Author.Tests.{lt-ltb, le-ltb}
use Rattle.fields.specs.Part.{part}
use Rattle.edge.specs.Edge.{Edge, listing_bytes}
use Rattle.lattice.specs.declared.Lattice.{Lattice}
use Rattle.lattice.specs.Lattice.{overfull}
use Rattle.lattice.specs.Kept.{Kept, Holds, too_long, finished, finished_out}
use Rattle.lattice.proofs.HoldsLaws.{or_right, kept_of_lem, over_of}
use Rattle.std.specs.Prelude.{Option, Some, None}

not_over : {w : List ℕ} {n len : ℕ} {es : List Edge} → Kept w n len es → overfull es ≡ false
unfolding overfull
not_over {es = es} q =
    let k = q.count in
    let f = q.few in
    let s = q.size in
    let m = q.short in
    rw (le-ltb 1024 (length es) (omega arith), le-ltb 32768 (length (listing_bytes es)) (omega arith))

abbrev Answers : Option ℕ → List ℕ → List ℕ → List Edge → Type 0
Answers r out t es = (r ≡ finished (length out) es) × (t ≡ finished_out out es)

refused : (out : List ℕ) (es : List Edge) → too_long (length out) es ≡ true → Answers None out out es
unfolding finished finished_out
refused out es h = (rw h, rw h)

module _ {w : List ℕ} {l : Lattice} {es : List Edge} (q : Holds w l es) (out : List ℕ) where
  pub full_refused : l.len ≡ 0 → Answers None out out es
  unfolding too_long
  full_refused f = refused out es (rw (over_of q f))

  pub short_refused : (l.len ≡ 0 → ⊥) → length out < l.len → Answers None out out es
  unfolding too_long
  short_refused f h =
      let s = (kept_of_lem q f).size in
      refused out es (or_right (overfull es) (ltb (length out) (length (listing_bytes es))) (lt-ltb (length out) (length (listing_bytes es)) (omega arith)))

  pub listing_written : (l.len ≡ 0 → ⊥) → l.len ≤ length out → {t : List ℕ} → t ≡ sets out 0 (take l.len w) → Answers (Some l.len) out t es
  unfolding too_long finished finished_out part
  listing_written f h e =
      let k = kept_of_lem q f in
      let s = k.size in
      rw (not_over k, le-ltb (length out) (length (listing_bytes es)) (omega arith)) (ap Some s, e ∙ ap (sets out 0) k.listing)
