-- Laws of a walk over a listing (`specs/Walk.antt`). No contract cites this file.
use mathlib.Core.Path.{◌≡◌, refl, sym, ap, ◌∙◌}
use mathlib.Core.Bool.{Bool, true, false}
use mathlib.Core.List.{List}
use Prim.Native.Nat.{ℕ, zero, suc, ◌+◌, ◌-◌, ◌≤◌, ◌<◌}
use native.Mathlib.Omega.{arith}
use lib.ListN.{length}
use lib.Dec.{leb}
use borrow.Author.Tests.{lt-leb, leb-true}
use Rattle.edge.specs.declared.EdgeView.{EdgeView}
use Rattle.edge.specs.Layout.{txt_at, head_end, next_at}
use Rattle.edge.specs.View.{view_at}
use Rattle.edge.proofs.LayoutLaws.{if_on, if_off, string_end_ge}
use Rattle.edge.proofs.CheckLaws.{head_within}
use Rattle.walker.specs.Walk.{whole, here_at, behind, onward}
use Rattle.std.specs.Prelude.{Some, None}

-- ---- an edge: it ends behind its offset
pub next_past : (s : List ℕ) (at : ℕ) → at + 10 ≤ next_at s at
next_past s at = omega (arith, head_within s at (next_at s at) (omega arith), string_end_ge s (at + 6), string_end_ge s (txt_at s at))

module _ (s : List ℕ) (at : ℕ) where
  pub cut_past : length s < at → false ≡ whole s at
  cut_past h = sym (lt-leb (next_at s at) (length s) (omega (arith, next_past s at)))

  pub whole_next : {n : ℕ} → n ≡ next_at s at → leb n (length s) ≡ whole s at
  whole_next e = rw e refl

-- what a test of `whole` tells
module _ (s : List ℕ) (at : ℕ) {b : Bool} (is : b ≡ whole s at) where
  whole_within : b ≡ true → next_at s at ≤ length s
  whole_within on = leb-true (next_at s at) (length s) (sym is ∙ on)

  pub whole_head : b ≡ true → head_end s at ≤ length s
  whole_head on = head_within s at (length s) (whole_within on)

  pub whole_from : b ≡ true → at ≤ length s
  whole_from on = omega (arith, next_past s at, whole_within on)

  pub here_edge : {v : EdgeView} → b ≡ true → v ≡ view_at s at → Some v ≡ here_at s at
  here_edge on e = if_on (whole s at) (Some (view_at s at)) None (sym is ∙ on) (ap Some e)

  pub here_end : b ≡ false → None ≡ here_at s at
  here_end off = if_off (whole s at) (Some (view_at s at)) None (sym is ∙ off) refl

  pub behind_edge : {n : ℕ} → b ≡ true → n ≡ next_at s at → n ≡ behind s at
  behind_edge on e = if_on (whole s at) (next_at s at) at (sym is ∙ on) e

  pub behind_end : b ≡ false → at ≡ behind s at
  behind_end off = if_off (whole s at) (next_at s at) at (sym is ∙ off) refl

-- ---- steps
pub onward_none : (s : List ℕ) (at left : ℕ) {end : ℕ} → left ≤ 0 → onward left s at ≡ end → at ≡ end
unfolding onward
onward_none s at zero h e = e
onward_none s at (suc left) h e = absurd (omega arith)

pub onward_step : (s : List ℕ) (at left : ℕ) {next end : ℕ} → 0 < left → next ≡ behind s at → onward left s at ≡ end → onward (left - 1) s next ≡ end
unfolding onward
onward_step s at zero h n e = absurd (omega arith)
onward_step s at (suc left) h n e = let m : suc left - 1 ≡ left = omega arith in rw (m, n) e

-- where a step leads nowhere, no number of steps does
pub onward_stuck : (s : List ℕ) (at left : ℕ) {next end : ℕ} → next ≡ behind s at → next ≡ at → onward left s at ≡ end → at ≡ end
unfolding onward
onward_stuck s at zero n m e = e
onward_stuck s at (suc left) n m e = onward_stuck s at left n m (ap (onward left s) (sym m ∙ n) ∙ e)
