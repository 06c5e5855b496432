-- Laws of a list behind an offset. No contract cites this file.
-- The list lent to a pass and back. Assumes nothing.
use mathlib.Core.Path.{◌≡◌, sym, ap, ◌∙◌, subst}
use mathlib.Core.List.{List, [], ◌++◌, append-nil}
use Prim.Native.Nat.{ℕ, ◌+◌, ◌*◌, ◌-◌, ◌≤◌}
use native.Mathlib.Omega.{arith}
use lib.ListN.{length, take, drop, length-drop, drop_of_length-le}
use lib.Seq.{take_all, length-take-le, drop_at}
use borrow.Rule.Slice.PartMut.{post_of, put_mid}
use Rattle.passes.specs.Passes.{Pass}
use Rattle.pass_list.specs.StoredEdge.{AllSmall}
use Rattle.pass_list.specs.Layout.{SIZE}
use Rattle.pass_list.specs.Stored.{stored_list_at}
use Rattle.pass_list.specs.Answers.{PassAnswerIs}
use Rattle.std.specs.Prelude.{Result}
use Rattle.text.specs.declared.Place.{Place}

-- what is lent from an offset on, and what is there when ys are back in its place
module _ (a : ℕ) (w : List ℕ) where
  lent_behind : take (length w - a) (drop a w) ≡ drop a w
  lent_behind = take_all (length w - a) (drop a w) (let l = length-drop a w in omega arith)

  pub asked_behind : (n : ℕ) → a + n * SIZE ≤ length w → AllSmall (stored_list_at (drop a w) 0 n)
      → (n * SIZE ≤ length (take (length w - a) (drop a w))) × AllSmall (stored_list_at (take (length w - a) (drop a w)) 0 n)
  asked_behind n h q = rw lent_behind (let l = length-drop a w in omega arith, q)

  back_behind : (ys : List ℕ) → a ≤ length w → drop a (put_mid a (length w - a) w ys) ≡ ys
  back_behind ys h =
      let l = length-drop a w in
      let e : post_of a (length w - a) w ≡ [] = drop_of_length-le (drop a w) {i = length w - a} (omega arith) in
      drop_at (take a w) (ys ++ post_of a (length w - a) w) a (length-take-le a w h) ∙ ap (λ (z : List ℕ). ys ++ z) e ∙ append-nil ys

  pub passed_behind : (p : Pass) (ys : List ℕ) (n : ℕ) (r : Result ℕ Place) → a ≤ length w → PassAnswerIs p (stored_list_at (take (length w - a) (drop a w)) 0 n) ys r
      → PassAnswerIs p (stored_list_at (drop a w) 0 n) (drop a (put_mid a (length w - a) w ys)) r
  passed_behind p ys n r h q =
      subst (λ (s : List ℕ). PassAnswerIs p (stored_list_at (drop a w) 0 n) s r) (sym (back_behind ys h)) (subst (λ (s : List ℕ). PassAnswerIs p (stored_list_at s 0 n) ys r) lent_behind q)
