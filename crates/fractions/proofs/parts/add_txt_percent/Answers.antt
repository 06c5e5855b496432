-- `fractions::parts::add_txt_percent` meets its contract: the text is copied, and the edge added. Assumes nothing.
use mathlib.Core.Path.{◌≡◌, refl, ap, subst, ◌∙◌}
use mathlib.Core.List.{List, [], ◌∷◌, ◌++◌}
use Prim.Native.Nat.{ℕ}
use native.Mathlib.Omega.{arith}
use lib.ListN.{take}
use Rattle.edge.specs.Edge.{Text, Edge}
use Rattle.edge.specs.Write.{regular}
use Rattle.lattice.specs.Lattice.{add}
use Rattle.lattice.specs.Kept.{Holds}
use Rattle.numbers.specs.Fractions.{percentage_type}
use Rattle.fractions.specs.NewParts.{HoldsCall, txt_percent_of}
use Rattle.fractions.proofs.texts.TextLaws.{text_count}
use Rattle.fractions.proofs.parts.WriteLaws.{regular_is}
use Rattle.lattice.proofs.HoldsLaws.{behind_same}
use Rattle.fractions.proofs.parts.EdgeLaws.{one_in, call_at, head_small, txt_short}
use Rattle.fractions.proofs.parts.add_txt_percent.Goals as goal

pub head_of-b-requires : goal.head_of-b-requires
head_of-b-requires c = let h = c.requires.0.1.1 in ((c.requires.0.0, (c.requires.0.1.0, h)), c.requires.1, one_in h c.requires.1 c.requires.0.1.2)

pub put_txt_percent-n-requires : goal.put_txt_percent-n-requires
put_txt_percent-n-requires c =
    let h = c.requires.0.1.1 in
    let r = c.head_of-b.ensures _ _ h in
    let t = txt_short (call_at h c.requires.1 _ (one_in h c.requires.1 c.requires.0.1.2)) c.requires.0.1.2.numeric in
    let z = r.size in
    (r.inside, omega arith)

pub slice_bounds-add_regular-end-2 : goal.slice_bounds-add_regular-end-2
slice_bounds-add_regular-end-2 c = text_count c.put_txt_percent-n.ensures

pub add_regular-requires : goal.add_regular-requires
add_regular-requires c =
    let h = c.requires.0.1.1 in
    let y = text_count c.put_txt_percent-n.ensures in
    let z = c.put_txt_percent-n.ensures.short in
    ((c.requires.0.1.0, h.holds), c.requires.2, (head_small h c.requires.1 _ (one_in h c.requires.1 c.requires.0.1.2) (c.head_of-b.ensures _ _ h)).1, omega arith)

pub shape_of-work : goal.shape_of-work
shape_of-work c = c.add_regular.auto.work

pub returns : goal.returns
returns c =
    let made : (n : ℕ) (es : List Edge) → HoldsCall n c.args.work.now c.args.lattice es → regular c.args.place.0 c.head_of-b.result.end.0 percentage_type (take c.put_txt_percent-n.result c.put_txt_percent-n.new.buf) ≡ txt_percent_of es c.args.place.0 c.args.right = λ n es h.
    let r = c.head_of-b.ensures _ _ h in
    regular_is percentage_type refl r.end (c.put_txt_percent-n.ensures.is ∙ ap (λ (t : Text). t ++ (37 ∷ [])) r.txt) in
    (behind_same c.args.work.now c.add_regular.new.work c.add_regular.ensures.0, λ n es h t. subst (λ (e : Edge). Holds c.add_regular.new.work c.add_regular.result (add es e)) ((made _ _) h) (c.add_regular.ensures.1 es h.holds))
