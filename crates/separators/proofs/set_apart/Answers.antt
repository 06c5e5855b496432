-- `separators::set_apart` meets its contract: the copy is added, then its original turns inactive. Assumes nothing.
use Rattle.std.proofs.Common.{ap, not}
use mathlib.Core.Path.{refl, sym, subst}
use mathlib.Core.List.{List}
use Prim.Native.Nat.{ℕ, ◌<◌}
use borrow.Author.Tests.{not-true, not-false}
use lib.ListN.{length, get_or}
use Rattle.lattice.specs.declared.Lattice.{Lattice}
use Rattle.lattice.specs.Lattice.{add, turn_off_at}
use Rattle.numbers.specs.CallEdge.{CallEdge}
use Rattle.numbers.specs.Separators.{copy_of}
use Rattle.separators.specs.Marks.{set_apart}
use Rattle.edge.specs.Edge.{Edge}
use Rattle.lattice.specs.Kept.{Holds, no_edge}
use Rattle.lattice.proofs.HoldsLaws.{behind_same, behind_twice}
use Rattle.separators.proofs.StepLaws.{counted, edge_spanned, not_apart, is_apart, apart_source, full_apart, full_turned, still_counted}
use Rattle.separators.proofs.set_apart.Goals as goal

pub returns-then-lattice-eq0 : goal.returns-then-lattice-eq0
returns-then-lattice-eq0 c = (refl, λ n es few q x call. full_apart _ _ c.if-lattice-eq0.true q)

pub offset_at-at-requires : goal.offset_at-at-requires
offset_at-at-requires c = ((c.requires.2.0, c.requires.2.1), c.if-lattice-eq0.false, counted c.requires.2.1 _ c.requires.2.2 c.if-lattice-eq0.false)

pub is_apart-requires : goal.is_apart-requires
is_apart-requires c = edge_spanned c.requires.2.1 _ c.requires.2.2 c.if-lattice-eq0.false c.requires.2.3 (c.offset_at-at.ensures c.requires.2.0 c.requires.2.1) c.requires.1

pub returns-then-not-is_apart : goal.returns-then-not-is_apart
returns-then-not-is_apart c = (refl, λ n es few q x call. not_apart q _ x c.if-lattice-eq0.false call (c.offset_at-at.ensures es q) c.args.marks.now c.is_apart.ensures (not-true _ (ap not c.if-not-is_apart.true)))

pub end_of-next-requires : goal.end_of-next-requires
end_of-next-requires c = ((c.requires.2.0, c.requires.2.1), c.if-lattice-eq0.false, counted c.requires.2.1 _ c.requires.2.2 c.if-lattice-eq0.false)

pub add_separated-added-requires : goal.add_separated-added-requires
add_separated-added-requires c = ((c.requires.2.0, c.requires.2.1), (_, apart_source c.requires.2.1 _ c.requires.2.2 c.if-lattice-eq0.false c.requires.2.3 (c.offset_at-at.ensures c.requires.2.0 c.requires.2.1) c.args.marks.now c.is_apart.ensures (not-false _ (ap not c.if-not-is_apart.false)) (c.end_of-next.ensures _ c.requires.2.1)))

pub returns-then-added-eq0 : goal.returns-then-added-eq0
returns-then-added-eq0 c =
    let turned : (w : List ℕ) (l : Lattice) (n : ℕ) (es : List Edge) → Holds c.args.work.now c.args.lattice es → c.args.i < length es → CallEdge n (get_or es c.args.i no_edge) → Holds w l (turn_off_at (add es (copy_of (get_or es c.args.i no_edge))) c.args.i) → Holds w l (set_apart c.args.marks.now es c.args.i) = λ w l n es q x call h. subst (Holds w l) (sym (is_apart q _ x c.if-lattice-eq0.false call (c.offset_at-at.ensures es q) c.args.marks.now c.is_apart.ensures (not-false _ (ap not c.if-not-is_apart.false)))) h in
    let added : (n : ℕ) (es : List Edge) → Holds c.args.work.now c.args.lattice es → c.args.i < length es → CallEdge n (get_or es c.args.i no_edge) → Holds c.add_separated-added.new.work c.add_separated-added.result (add es (copy_of (get_or es c.args.i no_edge))) = λ n es q x call. c.add_separated-added.ensures.1 es _ q (apart_source q _ x c.if-lattice-eq0.false call (c.offset_at-at.ensures es q) c.args.marks.now c.is_apart.ensures (not-false _ (ap not c.if-not-is_apart.false)) (c.end_of-next.ensures es q)) in
    (behind_same c.args.work.now c.add_separated-added.new.work c.add_separated-added.ensures.0, λ n es few q x call. turned c.add_separated-added.new.work c.add_separated-added.result n es q x call (full_turned _ c.if-added-eq0.true (added n es q x call)))

pub turn_off-requires : goal.turn_off-requires
turn_off-requires c =
    let added : (n : ℕ) (es : List Edge) → Holds c.args.work.now c.args.lattice es → c.args.i < length es → CallEdge n (get_or es c.args.i no_edge) → Holds c.add_separated-added.new.work c.add_separated-added.result (add es (copy_of (get_or es c.args.i no_edge))) = λ n es q x call. c.add_separated-added.ensures.1 es _ q (apart_source q _ x c.if-lattice-eq0.false call (c.offset_at-at.ensures es q) c.args.marks.now c.is_apart.ensures (not-false _ (ap not c.if-not-is_apart.false)) (c.end_of-next.ensures es q)) in
    let h = added _ c.requires.2.0 c.requires.2.1 c.requires.2.2 c.requires.2.3 in
    ((_, h), c.if-added-eq0.false, still_counted c.requires.2.0 _ _ c.requires.2.2 c.if-added-eq0.false h)

pub returns : goal.returns
returns c =
    let turned : (w : List ℕ) (l : Lattice) (n : ℕ) (es : List Edge) → Holds c.args.work.now c.args.lattice es → c.args.i < length es → CallEdge n (get_or es c.args.i no_edge) → Holds w l (turn_off_at (add es (copy_of (get_or es c.args.i no_edge))) c.args.i) → Holds w l (set_apart c.args.marks.now es c.args.i) = λ w l n es q x call h. subst (Holds w l) (sym (is_apart q _ x c.if-lattice-eq0.false call (c.offset_at-at.ensures es q) c.args.marks.now c.is_apart.ensures (not-false _ (ap not c.if-not-is_apart.false)))) h in
    let added : (n : ℕ) (es : List Edge) → Holds c.args.work.now c.args.lattice es → c.args.i < length es → CallEdge n (get_or es c.args.i no_edge) → Holds c.add_separated-added.new.work c.add_separated-added.result (add es (copy_of (get_or es c.args.i no_edge))) = λ n es q x call. c.add_separated-added.ensures.1 es _ q (apart_source q _ x c.if-lattice-eq0.false call (c.offset_at-at.ensures es q) c.args.marks.now c.is_apart.ensures (not-false _ (ap not c.if-not-is_apart.false)) (c.end_of-next.ensures es q)) in (
      behind_twice c.args.work.now c.add_separated-added.new.work c.turn_off.new.work c.turn_off.ensures.0 c.add_separated-added.ensures.0,
      λ n es few q x call. turned c.turn_off.new.work c.add_separated-added.result n es q x call (c.turn_off.ensures.1 _ (added n es q x call)),
    )
