-- An edge that goes into a bucket, or does not. No contract cites this file.
-- In order: what the stores ask for; what then holds; an edge of another listing. Assumes nothing.
use mathlib.Core.Path.{◌≡◌, refl, ap, subst, ◌∙◌}
use mathlib.Core.Logic.{inl, inr}
use mathlib.Core.List.{List}
use Prim.Native.Nat.{ℕ, ◌+◌, ◌-◌, ◌≤◌, ◌<◌}
use native.Mathlib.Omega.{arith}
use lib.ListN.{length, drop}
use lib.Seq.{sets, length-sets}
use Rattle.fields.specs.Part.{part}
use Rattle.fields.proofs.PartLaws.{part_sets, drop_sets}
use Rattle.edge.specs.Edge.{Edge, edge_bytes}
use Rattle.lattice.specs.Lattice.{add}
use Rattle.lattice.specs.Kept.{Stands, END, linked, Holds, AddingIs, SameBehind}
use Rattle.lattice.specs.declared.Lattice.{Lattice}
use Rattle.lattice.specs.declared.Adding.{Adding}
use Rattle.lattice.specs.declared.Adding.TheVariants.{TooMuch, Into}
use Rattle.lattice_add.specs.Planned.{Planned}
use Rattle.lattice.proofs.HoldsLaws.{kept_of_lem, holds_beside, add_new}
use Rattle.lattice.proofs.find.BucketLaws.{bucket_lt}
use Rattle.lattice_add.proofs.GrowLaws.{grown}

-- ---- what the stores ask for
-- those of `link`
pub link_room : {w : List ℕ} {l : Lattice} {es : List Edge} → Holds w l es → (e : Edge) (b : ℕ) → AddingIs l es e (Into b) → (END ≤ length w) × (l.count < 1024) × (l.len ≤ 32768) × (b < 256)
unfolding AddingIs
link_room q e b a = (q.room, a.2, q.short, bucket_lt e a.4)

-- and room for a copy
pub copy_room : {w s : List ℕ} {l : Lattice} {es : List Edge} → Holds w l es → (e : Edge) (b : ℕ) → AddingIs l es e (Into b) → {at n to : ℕ} → Stands s at n to e → l.len + (to - at) ≤ 32768
unfolding AddingIs
copy_room q e b a d = let z = d.ends in let y = a.3 in omega arith

-- ---- what then holds
abbrev lattice : ℕ → ℕ → Lattice
lattice n len = record { count = n; len = len }

module _ {w : List ℕ} {l : Lattice} {es : List Edge} (q : Holds w l es) (e : Edge) where
  pub add_too_much : AddingIs l es e TooMuch → Holds w (lattice l.count 0) (add es e)
  unfolding AddingIs
  add_too_much a = record { room = q.room; short = omega arith; state = inl (refl, rw (add_new es e a.1) a.2) }

  -- the edge was composed behind the listing
  pub add_into : (b k to : ℕ) → AddingIs l es e (Into b) → Stands w l.len k to e → {t : List ℕ} → t ≡ linked w l.count l.len b → Holds t (lattice (l.count + 1) to) (add es e)
  unfolding AddingIs
  add_into b k to a d p =
      let z = d.ends in
      let y = a.3 in
      let g = grown w l.count l.len es (kept_of_lem q a.0) k to e d a.2 (omega arith) b a.4 in
      rw (p, add_new es e a.1) (record { room = g.room; short = omega arith; state = inr (λ h. a.0 (omega arith), g) })

-- ---- what `add_planned` finds in u, where an edge that stands in s was to be added in w
pub record Brought (w u : List ℕ) (l : Lattice) (e : Edge) (p : Adding) (to : ℕ) : Type 0 where
  pub frame : SameBehind w u
  pub planned : (es : List Edge) → Holds w l es → AddingIs l es e p → Planned u l es e p to

-- it goes into a bucket: a copy of it stands behind the listing
pub brought_copy : {w s u : List ℕ} {l : Lattice} {es : List Edge} {e : Edge} {at n to : ℕ} {p : Adding} → Holds w l es → AddingIs l es e p → Stands s at n to e → (b : ℕ) → p ≡ Into b
    → u ≡ sets w l.len (part s at (to - at)) → Brought w u l e p (l.len + (to - at))
brought_copy {w} {s} {u} {l} {es} {e} {at} {n} {to} {p} q a d b is copied =
    let r = q.room in
    let y = copy_room q e b (subst (AddingIs l es e) is a) d in
    let z = d.ends in
    let size : to - at ≡ length (edge_bytes e) = omega arith in
    let x = length-sets w l.len (edge_bytes e) in
    let there : u ≡ sets w l.len (edge_bytes e) = copied ∙ ap (λ (k : ℕ). sets w l.len (part s at k)) size ∙ ap (sets w l.len) d.there in
    let stood : Stands u l.len n (l.len + (to - at)) e =
    rw there (record { fits = d.fits; there = part_sets w l.len (edge_bytes e) (length (edge_bytes e)) refl (omega arith); keyed = d.keyed; ends = omega arith; inside = omega arith }) in
    record {
      frame = ap (drop END) there ∙ drop_sets w l.len (edge_bytes e) END (omega arith);
      planned = λ ds h i. record { holds = rw there (holds_beside h l.len (edge_bytes e) (omega arith, inl (omega arith))); planned = i; stands = λ c k. (n, stood) };
    }

-- it does not: nothing is copied
pub brought_nothing : {w u : List ℕ} {l : Lattice} {e : Edge} {to : ℕ} {p : Adding} → ((b : ℕ) → p ≡ Into b → ⊥) → u ≡ w → Brought w u l e p to
brought_nothing {w} {u} other same = record { frame = ap (drop END) same; planned = λ es h i. record { holds = rw same h; planned = i; stands = λ b k. absurd (other b k) } }
