-- An edge that `edge_write::numeric` composes behind the listing. No contract cites this file.
-- In order: how long an edge is; what a writer leaves; regular and numeric edges. Assumes nothing.
use mathlib.Core.Path.{◌≡◌, refl, sym, ap, ◌∙◌}
use mathlib.Core.Logic.{inl}
use mathlib.Core.Bool.{Bool, true, false}
use mathlib.Core.List.{List}
use Prim.Native.Nat.{ℕ, ◌+◌, ◌*◌, ◌≤◌, ◌<◌}
use native.Mathlib.Omega.{arith}
use lib.ListN.{length, drop, length-append}
use lib.Seq.{sets, length-sets}
use borrow.Author.Tests.{le-leb}
use Rattle.fields.proofs.PartLaws.{part_sets, drop_sets}
use Rattle.edge.specs.declared.NumFields.{NumFields}
use Rattle.edge.specs.Edge.{Edge, Text, edge_bytes, numeric_bytes, head_bytes}
use Rattle.edge.specs.Layout.{bit, stands, script_at}
use Rattle.edge.specs.View.{numeric_of}
use Rattle.edge.specs.Write.{written, written_to, regular, numeric, text_past_if, texts_past, fields_past, Writable}
use Rattle.edge.proofs.WriteLaws.{regular_bytes, length_head, length_fields, numeric_bytes_lem}
use Rattle.lattice.specs.declared.Lattice.{Lattice}
use Rattle.lattice.specs.Kept.{END, Fits, Stands, Holds, SameBehind}
use Rattle.lattice_add.specs.Planned.{WrittenBehind}
use Rattle.lattice.proofs.KeyLaws.{length_key}
use Rattle.lattice.proofs.HoldsLaws.{holds_beside}
use Rattle.std.specs.Prelude.{Option, Some, None}

-- ---- how long an edge is
length_regular : (a z : ℕ) (ty tx : Text) → length (edge_bytes (regular a z ty tx)) ≡ 10 + length ty + length tx
length_regular a z ty tx = ap length (regular_bytes a z ty tx) ∙ length_head 0 a z ty tx

past_le : (on : Bool) (n at : ℕ) → text_past_if on n at ≤ at + 2 + n
past_le true n at = omega arith
past_le false n at = omega arith

fields_past_le : (d : NumFields) (at : ℕ) → fields_past d at ≤ at + 47 + d.orig.len + d.script.len + d.value_s.len
unfolding fields_past texts_past script_at
fields_past_le d at =
    let s = at + 2 + d.orig.len + 8 * bit 1 d.map + 16 * bit 2 d.map + 8 * bit 3 d.map + 8 * bit 4 d.map in
    let a = past_le (stands 5 d.map) d.script.len s in
    let b = past_le (stands 8 d.map) d.value_s.len (text_past_if (stands 5 d.map) d.script.len s) in
    omega arith

length_numeric : (o c v : List ℕ) (d : NumFields) → Writable o c v d → (a z : ℕ) (ty tx : Text)
    → length (edge_bytes (numeric a z ty tx o c v d)) ≤ 57 + length ty + length tx + d.orig.len + d.script.len + d.value_s.len
length_numeric o c v d h a z ty tx =
    let l = length_head d.map a z ty tx in
    let f = length_fields o c v d h 0 in
    let p = fields_past_le d 0 in
    let e = ap length (numeric_bytes_lem o c v d h a z ty tx) ∙ length-append (head_bytes d.map a z ty tx) (numeric_bytes (numeric_of o c v d)) in
    omega arith

-- ---- what a writer leaves: r is its answer, t the work space then
pub record Composed (w t : List ℕ) (l : Lattice) (e : Edge) (r : Option ℕ) : Type 0 where
  pub frame : SameBehind w t
  pub holds : (es : List Edge) → Holds w l es → Holds t l es
  pub placed : (to : ℕ) → r ≡ Some to → Stands t l.len (8 + length e.type + length e.txt) to e
  pub room : r ≡ None → ⊥

composed : {w t : List ℕ} {l : Lattice} {es : List Edge} {r : Option ℕ} → Holds w l es → (e : Edge) → Fits e → length (edge_bytes e) ≤ 2048
    → r ≡ written w l.len (edge_bytes e) → t ≡ written_to w l.len (edge_bytes e) → Composed w t l e r
composed {w} {t} {l} {es} {r} q e f size answer left =
    let at = l.len in
    let long = q.room in
    let short = q.short in
    let inside : at + length (edge_bytes e) ≤ length w = omega arith in
    let x : r ≡ Some (at + length (edge_bytes e)) = answer ∙ rw (le-leb (at + length (edge_bytes e)) (length w) inside) in
    let y : t ≡ sets w at (edge_bytes e) = left ∙ rw (le-leb (at + length (edge_bytes e)) (length w) inside) in
    let n = length-sets w at (edge_bytes e) in
    record {
      frame = ap (drop END) y ∙ drop_sets w at (edge_bytes e) END (omega arith);
      holds = λ ds h. rw y (holds_beside h at (edge_bytes e) (omega arith, inl (omega arith)));
      placed = λ to p.
          let z : to ≡ at + length (edge_bytes e) = cc in
          rw y (record { fits = f; there = part_sets w at (edge_bytes e) (length (edge_bytes e)) refl inside; keyed = sym (length_key e); ends = z; inside = omega arith });
      room = λ p. let z : ◌≡◌ {A = ℕ} 0 1 = cc in omega arith;
    }

-- what `add_written` asks for
pub composed_behind : {w t : List ℕ} {l : Lattice} {e : Edge} {r : Option ℕ} → Composed w t l e r → {es : List Edge} → Holds w l es → WrittenBehind t l es e (8 + length e.type + length e.txt) r
composed_behind m q = record { holds = m.holds _ q; placed = m.placed; room = m.room }

-- ---- regular and numeric edges
module _ {w t : List ℕ} {l : Lattice} {es : List Edge} {r : Option ℕ} (q : Holds w l es) (a z : ℕ) (ty tx : Text) (start : a < 65536) (end : z < 65536) where
  pub regular_composed : length ty + length tx ≤ 2000 → r ≡ written w l.len (edge_bytes (regular a z ty tx)) → t ≡ written_to w l.len (edge_bytes (regular a z ty tx)) → Composed w t l (regular a z ty tx) r
  regular_composed h = let n = length_regular a z ty tx in composed q (regular a z ty tx) (record { start = start; end = end; type = omega arith; txt = omega arith }) (omega arith)

  pub numeric_composed : (o c v : List ℕ) (d : NumFields) → Writable o c v d → length ty + length tx + d.orig.len + d.script.len + d.value_s.len ≤ 1990
      → r ≡ written w l.len (edge_bytes (numeric a z ty tx o c v d)) → t ≡ written_to w l.len (edge_bytes (numeric a z ty tx o c v d)) → Composed w t l (numeric a z ty tx o c v d) r
  numeric_composed o c v d g h = let n = length_numeric o c v d g a z ty tx in composed q (numeric a z ty tx o c v d) (record { start = start; end = end; type = omega arith; txt = omega arith }) (omega arith)
