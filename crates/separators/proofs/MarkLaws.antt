-- Laws of the marks of F1 (`specs/Marks.antt`). No contract cites this file.
-- In order: the edge that is read; marks and the definition. Assumes nothing.
use mathlib.Core.Path.{◌≡◌, refl, sym, ap, ◌∙◌}
use mathlib.Core.Bool.{Bool, true, false, ◌&&◌}
use mathlib.Core.List.{List, [], ◌∷◌}
use mathlib.Core.Option.{none, some}
use Prim.Native.Nat.{ℕ, ◌+◌, ◌-◌, ◌<◌}
use native.Mathlib.Omega.{arith}
use lib.ListN.{take, drop, get_or}
use Rattle.text.proofs.RowLaws.{and-true}
use Rattle.digits.specs.TextEnds.{begins_with_digit}
use Rattle.digits.proofs.Theorems.{ends_last}
use Rattle.edge.specs.declared.EdgeView.{EdgeView}
use Rattle.edge.specs.Edge.{Edge, Numeric}
use Rattle.edge.specs.Layout.{stands, only, map_at, edge_at}
use Rattle.edge.specs.View.{view_at}
use Rattle.paths.specs.Reading.{Spanned}
use Rattle.pass_list.specs.StoredEdge.{nil, cons}
use Rattle.numbers.specs.CallEdge.{Legals}
use Rattle.numbers.specs.Marks.{any_at}
use Rattle.numbers.proofs.stages.SoundLaws.{sound_of}
use Rattle.numbers.specs.Fractions.{is_numeric}
use Rattle.numbers.specs.Separators.{ends_before}
use Rattle.marks.specs.Marked.{digit_ends, ending}
use Rattle.marks.proofs.ReadLaws.{txt_read}
use Rattle.separators.specs.Marks.{apart_by}

-- ---- the edge that is read
module _ (s : List ℕ) (at : ℕ) {v : EdgeView} (read : v ≡ view_at s at) where
  start_read : v.start.0 ≡ (edge_at s at).start
  unfolding view_at edge_at
  start_read = ap (λ (z : EdgeView). z.start.0) read

  map_read : v.map ≡ map_at s at
  unfolding view_at
  map_read = ap (λ (z : EdgeView). z.map) read

  numeric_only : (on : Bool) (x : Numeric) → elim (only on x) [ none ↦ false | some n ↦ true ] ≡ on
  numeric_only true x = refl
  numeric_only false x = refl

  numeric_read : is_numeric (edge_at s at) ≡ stands 0 v.map
  unfolding edge_at
  numeric_read = rw (map_read, numeric_only)

  pub start_in : Spanned 256 s at → v.start.0 < 257
  start_in w = let e = start_read in let r = w.rises in let i = w.within in omega arith

  module _ {b : Bool} (bit-0 : b ≡ stands 0 v.map) (marks : List Bool) where
    both_read : (b && get_or marks v.start.0 false) ≡ (is_numeric (edge_at s at) && get_or marks (edge_at s at).start false)
    both_read = rw (numeric_read, bit-0, start_read)

    pub apart_not : (b && get_or marks v.start.0 false) ≡ false → false ≡ apart_by marks (edge_at s at)
    unfolding apart_by
    apart_not t = go (is_numeric (edge_at s at)) (begins_with_digit (edge_at s at).txt) (get_or marks (edge_at s at).start false) (sym both_read ∙ t)
      where
        go : (n d m : Bool) → (n && m) ≡ false → false ≡ (n && (d && m))
        go true true m e = sym e
        go true false m e = refl
        go false d m e = refl

    pub apart_digit : (b && get_or marks v.start.0 false) ≡ true → {r : Bool} → r ≡ begins_with_digit (take (v.txt.at.0 + v.txt.len - v.txt.at.0) (drop v.txt.at.0 s)) → r ≡ apart_by marks (edge_at s at)
    unfolding apart_by
    apart_digit t asked =
        let n = and-true (is_numeric (edge_at s at)) (get_or marks (edge_at s at).start false) (sym both_read ∙ t) in
        asked ∙ ap begins_with_digit (txt_read s at read) ∙ rw (n.0, n.1) (go (begins_with_digit (edge_at s at).txt))
      where
        go : (d : Bool) → d ≡ (d && true)
        go true = refl
        go false = refl

-- ---- texts of legal edges are well-formed, and so the last bytes are the last character
pub ends_agree : {n : ℕ} (es : List Edge) (p : ℕ) → Legals n es → any_at digit_ends ending es p ≡ ends_before es p
unfolding any_at ends_before
ends_agree [] p nil = refl
ends_agree {n} (e ∷ es) p (cons l ls) = rw (ends_last e.txt (sound_of n e l.content).txt, ends_agree es p ls)
