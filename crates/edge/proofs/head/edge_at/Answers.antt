-- `edge::head::edge_at` meets its contract: the head is within the slice, and each field is read where the definition reads it. Assumes nothing.
use mathlib.Core.Path.{◌≡◌, refl, ap, ◌∙◌}
use mathlib.Core.List.{List}
use Prim.Native.Nat.{ℕ, ◌+◌}
use native.Mathlib.Omega.{arith}
use Rattle.fields.specs.declared.Part.{Part}
use Rattle.fields.specs.Fields.{le_at}
use Rattle.edge.specs.Layout.{string_end, txt_at, head_end}
use Rattle.edge.specs.View.{part_at, view_at}
use Rattle.edge.proofs.LayoutLaws.{string_end_ge}
use Rattle.edge.proofs.head.edge_at.Goals as goal

-- a string that is read ends where the definition says
part_ends : (s : List ℕ) (at : ℕ) {p : Part} → p ≡ part_at s at → p.at.0 + p.len ≡ string_end s at
unfolding string_end
part_ends s at e = rw e

txt_ends : (s : List ℕ) (at : ℕ) {p q : Part} → p ≡ part_at s (at + 6) → q ≡ part_at s (p.at.0 + p.len) → q.at.0 + q.len ≡ head_end s at
txt_ends s at e f = part_ends s _ f ∙ ap (string_end s) (part_ends s (at + 6) e)

-- what is read in turn is the head
view_read : (s : List ℕ) (at : ℕ) {m a z : ℕ} {p q : Part} → p ≡ part_at s (at + 6) → q ≡ part_at s (p.at.0 + p.len) → m ≡ le_at s at 2 → a ≡ le_at s (at + 2) 2 → z ≡ le_at s (at + 4) 2
    → record { map = m; start = record { 0 = a }; end = record { 0 = z }; ty = p; txt = q; fields = record { 0 = q.at.0 + q.len } } ≡ view_at s at
unfolding view_at
view_read s at p q e f g = rw (txt_ends s at p q, e, f, g, q ∙ ap (part_at s) (part_ends s (at + 6) p), p) refl

pub overflow_add-at : goal.overflow_add-at
overflow_add-at c = let s = c.args.s.now in omega (arith, string_end_ge s (c.args.at + 6), string_end_ge s (txt_at s c.args.at))

pub text_at-ty-requires : goal.text_at-ty-requires
text_at-ty-requires c = let s = c.args.s.now in omega (arith, string_end_ge s (c.args.at + 6), string_end_ge s (txt_at s c.args.at))

pub overflow_add-ty : goal.overflow_add-ty
overflow_add-ty c = let s = c.args.s.now in omega (arith, part_ends s _ c.text_at-ty.ensures, string_end_ge s (txt_at s c.args.at))

pub text_at-txt-requires : goal.text_at-txt-requires
text_at-txt-requires c = let s = c.args.s.now in omega (arith, part_ends s _ c.text_at-ty.ensures, string_end_ge s (txt_at s c.args.at))

pub u16_at-requires : goal.u16_at-requires
u16_at-requires c = let s = c.args.s.now in omega (arith, string_end_ge s (c.args.at + 6), string_end_ge s (txt_at s c.args.at))

pub u16_at-requires-2 : goal.u16_at-requires-2
u16_at-requires-2 c = let s = c.args.s.now in omega (arith, string_end_ge s (c.args.at + 6), string_end_ge s (txt_at s c.args.at))

pub u16_at-requires-3 : goal.u16_at-requires-3
u16_at-requires-3 c = let s = c.args.s.now in omega (arith, string_end_ge s (c.args.at + 6), string_end_ge s (txt_at s c.args.at))

pub overflow_add-result : goal.overflow_add-result
overflow_add-result c = omega (arith, txt_ends _ _ c.text_at-ty.ensures c.text_at-txt.ensures)

pub returns : goal.returns
returns c = view_read _ _ c.text_at-ty.ensures c.text_at-txt.ensures c.u16_at.ensures c.u16_at-2.ensures c.u16_at-3.ensures
