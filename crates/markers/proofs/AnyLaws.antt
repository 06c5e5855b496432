-- Laws of texts that are looked for at all places of a line (`specs/Marks.antt`), for this crate's proofs and its callers'.
-- In order: one text, place by place; the texts of a list, one at a time; both lists of markers; well-formed lists.
use mathlib.Core.Path.{◌≡◌, sym, ◌∙◌, subst}
use mathlib.Core.Bool.{Bool, true, false, ◌||◌}
use mathlib.Core.List.{List, [], ◌∷◌}
use Prim.Native.Nat.{ℕ, suc, ◌+◌, ◌-◌, ◌≤◌, ◌<◌}
use native.Mathlib.Nat.{sub-zero}
use native.Mathlib.Numerals.{add-one}
use native.Mathlib.Omega.{arith}
use lib.ListN.{length}
use Rattle.text.specs.Text.{well_formed}
use Rattle.table.specs.Table.{Text}
use Rattle.table.specs.Layout.{list_at}
use Rattle.table.specs.Answers.{table_of}
use Rattle.table.specs.declared.shape.Shape.{Shape}
use Rattle.pass_list.specs.StoredEdge.{cons}
use Rattle.numbers.specs.Fractions.{stands_at}
use Rattle.markers.specs.Marks.{stands_from, any_stands, marked, Formed}

-- ---- one text: what the places from p on say is what all n say
module _ (w : List ℕ) (n : ℕ) (m : Text) where
  abbrev pub NoneBefore : ℕ → Type 0
  NoneBefore p = stands_from w p (n - p) m ≡ stands_from w 0 n m

  pub none_start : NoneBefore 0
  none_start = rw (sub-zero n)

  module _ (p : ℕ) (k : NoneBefore p) where
    pub none_ends : n ≤ p → false ≡ stands_from w 0 n m
    unfolding stands_from
    none_ends h = let e : n - p ≡ 0 = omega arith in rw e at k

    module _ (h : p < n) where
      one_more_lem : stands_at w p m || stands_from w (suc p) (n - suc p) m ≡ stands_from w 0 n m
      unfolding stands_from
      one_more_lem = let e : n - p ≡ suc (n - suc p) = omega arith in rw e at k

      pub found_here : {b : Bool} → b ≡ stands_at w p m → b ≡ true → true ≡ stands_from w 0 n m
      found_here e t = rw (sym e ∙ t) at one_more_lem

      pub none_more : {b : Bool} → b ≡ stands_at w p m → b ≡ false → NoneBefore (p + 1)
      none_more e t = rw (add-one p) (rw (sym e ∙ t) at one_more_lem)

-- ---- the texts of a list: what the texts that are left say is what all say
module _ (w : List ℕ) (n : ℕ) (all : List Text) where
  abbrev pub NonePassed : List Text → Type 0
  NonePassed left = any_stands w 0 n left ≡ any_stands w 0 n all

  module _ {left : List Text} (k : NonePassed left) where
    pub texts_end : left ≡ [] → false ≡ any_stands w 0 n all
    unfolding any_stands
    texts_end e = rw e at k

    module _ {m : Text} {more : List Text} (e : left ≡ m ∷ more) {b : Bool} (f : b ≡ stands_from w 0 n m) where
      one_text : b || any_stands w 0 n more ≡ any_stands w 0 n all
      unfolding any_stands
      one_text = rw f (rw e at k)

      pub text_found : b ≡ true → true ≡ any_stands w 0 n all
      text_found t = rw t at one_text

      pub text_next : b ≡ false → NonePassed more
      text_next t = rw t at one_text

-- ---- both lists of markers, at the line's n places
module _ (w table : List ℕ) (h : Shape) {n : ℕ} (c : length w ≡ n) {a : Bool} (e : a ≡ any_stands w 0 n (list_at table h.percentages)) where
  pub marked_first : a ≡ true → true ≡ marked (table_of table h) w
  unfolding table_of
  marked_first t = rw (c, ← e, t)

  pub marked_second : a ≡ false → {b : Bool} → b ≡ any_stands w 0 n (list_at table h.connectors) → b ≡ marked (table_of table h) w
  unfolding table_of
  marked_second t f = rw (c, ← e, t) f

-- ---- the texts of a well-formed list are well-formed: the first of those that are left, and the others
formed_parts : {m : Text} {ms : List Text} → Formed (m ∷ ms) → (well_formed m ≡ true) × Formed ms
formed_parts (cons g gs) = (g, gs)

module _ {left : List Text} (f : Formed left) {m : Text} {more : List Text} (e : left ≡ m ∷ more) where
  pub formed_first : well_formed m ≡ true
  formed_first = (formed_parts (subst Formed e f)).0

  pub formed_rest : Formed more
  formed_rest = (formed_parts (subst Formed e f)).1
