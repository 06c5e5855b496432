-- Laws of the texts that are still to come (`specs/Texts.antt`). No contract cites this file. Assumes nothing.
use mathlib.Core.Path.{◌≡◌, sym, ◌∙◌}
use mathlib.Core.List.{List, [], ◌∷◌}
use Prim.Native.Nat.{ℕ, ◌-◌, ◌≤◌}
use native.Mathlib.Omega.{arith}
use lib.ListN.{length}
use Rattle.table.specs.Table.{Text}
use Rattle.table.specs.Layout.{Is, Fault, text, texts_at, list_at}
use Rattle.table.proofs.LayoutLaws.{many_nil, many_fault, many_cons, number_cut}

module _ (s : List ℕ) where
  pub list_missing : (list next : ℕ) → length s ≤ list → texts_at 0 s next ≡ list_at s list
  unfolding list_at
  list_missing list next h = sym (many_nil text s next 0 (omega arith)) ∙ rw (number_cut s list 1 (omega arith))

  module _ (next left : ℕ) where
    pub none_left : left ≡ 0 → texts_at left s next ≡ []
    none_left h = sym (many_nil text s next left h)

    pub none_there : text s next ≡ Fault → texts_at left s next ≡ []
    none_there e = sym (many_fault text s next left e)

    pub first_left : {m : Text} {behind : ℕ} → (left ≡ 0 → ⊥) → text s next ≡ Is m behind → texts_at left s next ≡ m ∷ texts_at (left - 1) s behind
    first_left h e = sym (many_cons text s next left h e)
