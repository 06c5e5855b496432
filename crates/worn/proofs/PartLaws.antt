-- Laws of a line's parts (`parts` of `specs/Worn.antt`): what it is cut into; the bytes of such a line; what the code finds.
use Prim.Native.Nat.{ℕ, ◌+◌, ◌≤◌}
use mathlib.Core.Path.{◌≡◌, refl, sym, ap, ◌∙◌}
use mathlib.Core.Bool.{Bool, true, false, cond}
use mathlib.Core.List.{List, [], ◌∷◌, ◌++◌, map}
use mathlib.Core.Option.{Option, none, some, some-ne-none, some-injective}
use native.Mathlib.Omega.{arith}
use lib.Dec.{eqb}
use lib.ListN.{length, length-append, length-map}
use borrow.Author.Tests.{eqb-true}
use Rattle.text.specs.Sequence.{encode}
use Rattle.text.specs.Text.{chars, well_formed, encodes}
use Rattle.text.proofs.TextLaws.{well_formed_split, encodes_append, chars_append, chars_cons}
use Rattle.grammar.specs.Plain.{Char, code_point, utf8}
use Rattle.grammar.proofs.Sixteen.{each}
use Rattle.grammar.proofs.Demand3.{line_of}
use Rattle.numeral.specs.Field.{plain_line}
use Rattle.numeral.proofs.FieldLaws.{plain_line_codes, line_plain}
use Rattle.worn.specs.Worn.{mark, fronted, cut, both, plain_parts, parts}
use Rattle.worn.specs.Marked.{mark_bytes, worn_text, WornAt}

abbrev pub codes : List Char → List ℕ
codes w = map code_point w

-- ---- the line cut at its first □
not_mark : (k : Char) → eqb (code_point k) mark ≡ false
not_mark = each (λ k. eqb (code_point k) mark ≡ false) (refl, refl, refl, refl, refl, refl, refl, refl, refl, refl, refl, refl, refl, refl, refl, refl)

cut_has : (x : List Char) (t : List ℕ) → cut (codes x ++ (mark ∷ t)) ≡ some (codes x, t)
unfolding cut
cut_has [] t = refl
cut_has (k ∷ x) t = rw (not_mark k, cut_has x t)

cut_in : (cs a b : List ℕ) → cut cs ≡ some (a, b) → cs ≡ a ++ (mark ∷ b)
unfolding cut
cut_in [] a b e = absurd (some-ne-none (a, b) (sym e))
cut_in (c ∷ cs) a b e = go (eqb c mark) refl (cut cs) refl e (cut_in cs)
  where
    go : (t : Bool) → eqb c mark ≡ t → (o : Option (List ℕ × List ℕ)) → cut cs ≡ o → cond t (some ([], cs)) (fronted c o) ≡ some (a, b)
        → ((a b : List ℕ) → cut cs ≡ some (a, b) → cs ≡ a ++ (mark ∷ b)) → c ∷ cs ≡ a ++ (mark ∷ b)
    go true h o k q ih =
        let p : ◌≡◌ {A = List ℕ × List ℕ} ([], cs) (a, b) = some-injective ([], cs) (a, b) q in
        ap (λ (n : ℕ). n ∷ cs) (eqb-true c mark h) ∙ ap (λ (r : List ℕ × List ℕ). r.0 ++ (mark ∷ r.1)) p
    go false h none k q ih = absurd (some-ne-none (a, b) (sym q))
    go false h (some r) k q ih =
        let p : ◌≡◌ {A = List ℕ × List ℕ} (c ∷ r.0, r.1) (a, b) = some-injective (c ∷ r.0, r.1) (a, b) q in
        ap (λ (l : List ℕ). c ∷ l) (ih r.0 r.1 k) ∙ ap (λ (r : List ℕ × List ℕ). r.0 ++ (mark ∷ r.1)) p

-- ---- its parts
pub parts_has : (x y : List Char) → parts (codes x ++ (mark ∷ codes y)) ≡ some (x, y)
unfolding parts
parts_has x y = ap plain_parts (cut_has x (codes y)) ∙ rw (plain_line_codes x, plain_line_codes y)

pub parts_in : (cs : List ℕ) (x y : List Char) → parts cs ≡ some (x, y) → cs ≡ codes x ++ (mark ∷ codes y)
unfolding parts
parts_in cs x y e = go (cut cs) refl e
  where
    found : (a b : List ℕ) (o q : Option (List Char)) → plain_line a ≡ o → plain_line b ≡ q → both o q ≡ some (x, y) → (a ≡ codes x) × (b ≡ codes y)
    found a b none q h k r = absurd (some-ne-none (x, y) (sym r))
    found a b (some u) none h k r = absurd (some-ne-none (x, y) (sym r))
    found a b (some u) (some v) h k r =
        let p : ◌≡◌ {A = List Char × List Char} (u, v) (x, y) = some-injective (u, v) (x, y) r in
        (line_plain a u h ∙ ap (λ (l : List Char × List Char). codes l.0) p, line_plain b v k ∙ ap (λ (l : List Char × List Char). codes l.1) p)

    go : (o : Option (List ℕ × List ℕ)) → cut cs ≡ o → plain_parts o ≡ some (x, y) → cs ≡ codes x ++ (mark ∷ codes y)
    go none h k = absurd (some-ne-none (x, y) (sym k))
    go (some p) h k =
        let (a, b) = found p.0 p.1 (plain_line p.0) (plain_line p.1) refl refl k in
        cut_in cs p.0 p.1 h ∙ rw (a, b)

-- ---- its bytes
mark_encoded : encode mark ≡ mark_bytes
unfolding encode
mark_encoded = refl

encoded : (x y : List Char) → encodes (codes x ++ (mark ∷ codes y)) ≡ worn_text x y
unfolding utf8 encodes
encoded x y = encodes_append (codes x) (mark ∷ codes y) ∙ ap (λ (m : List ℕ). utf8 x ++ (m ++ utf8 y)) mark_encoded

utf8_chars : (x : List Char) (t : List ℕ) → chars (utf8 x ++ t) ≡ codes x ++ chars t
unfolding utf8
utf8_chars x t = let is = line_of x in chars_append (utf8 x) is.is_well_formed t ∙ ap (λ (l : List ℕ). l ++ chars t) is.characters

worn_chars : (x y : List Char) → chars (worn_text x y) ≡ codes x ++ (mark ∷ codes y)
unfolding utf8
worn_chars x y = utf8_chars x (mark_bytes ++ utf8 y) ∙ ap (λ (l : List ℕ). codes x ++ l) behind_x
  where
    behind_x : chars (mark_bytes ++ utf8 y) ≡ mark ∷ codes y
    behind_x = ap (λ (m : List ℕ). chars (m ++ utf8 y)) (sym mark_encoded) ∙ chars_cons mark (utf8 y) refl ∙ ap (λ (l : List ℕ). mark ∷ l) (line_of y).characters

-- ---- what the code finds
module _ (line : List ℕ) where
  pub found_parts : {at : ℕ} (w : WornAt line at) → parts (chars line) ≡ some (w.x, w.y)
  found_parts w = ap (λ (l : List ℕ). parts (chars l)) w.text ∙ ap parts (worn_chars w.x w.y) ∙ parts_has w.x w.y

  pub no_parts : well_formed line ≡ true → ((x y : List Char) → line ≡ worn_text x y → ⊥) → parts (chars line) ≡ none
  no_parts f h = go (parts (chars line)) refl
    where
      go : (o : Option (List Char × List Char)) → parts (chars line) ≡ o → parts (chars line) ≡ none
      go none e = e
      go (some p) e = absurd (h p.0 p.1 (well_formed_split line f ∙ ap encodes (parts_in (chars line) p.0 p.1 e) ∙ encoded p.0 p.1))

  pub found_short : {at : ℕ} (w : WornAt line at) → length (chars line) ≤ 256 → length w.x + 1 + length w.y ≤ 256
  found_short w h =
      let n = ap (λ (l : List ℕ). length (chars l)) w.text ∙ ap length (worn_chars w.x w.y) in
      omega (arith, n, length-append (codes w.x) (mark ∷ codes w.y), length-map w.x code_point, length-map w.y code_point)
