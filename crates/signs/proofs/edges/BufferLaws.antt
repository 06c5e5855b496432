-- Laws of a sign's texts in their buffers, and of the edge that they make (`specs/SignEdges.antt`). No contract cites this file.
-- In order: texts at the front of a buffer; the edge for a sign. Assumes nothing.
use mathlib.Core.Path.{◌≡◌, ap, ◌∙◌}
use mathlib.Core.List.{List, [], ◌∷◌, ◌++◌, append_assoc}
use Prim.Native.Nat.{ℕ, suc, ◌+◌, ◌-◌, ◌≤◌}
use native.Mathlib.Numerals.{add-one}
use native.Mathlib.Omega.{arith}
use lib.ListN.{length, take, drop, set, length-append, length-set, length-drop}
use lib.Seq.{length-sets, take-append-le, take-suc-set, take-length}
use borrow.Author.Rules.{part_to_end}
use borrow.Rule.Slice.PartMut.{put_mid}
use Rattle.text.specs.Text.{chars}
use Rattle.table.specs.Table.{Text}
use Rattle.pass_list.specs.declared.record.PassEdge.{PassEdge}
use Rattle.pass_list.specs.StoredEdge.{StoredEdge, EdgeIs}
use Rattle.pass_list.specs.Edges.{txt_of, edge_of}
use Rattle.edge.specs.Edge.{Edge}
use Rattle.edge.specs.Write.{regular}
use Rattle.lattice.specs.declared.Lattice.{Lattice}
use Rattle.lattice.specs.Lattice.{add}
use Rattle.lattice.specs.Kept.{Holds}
use Rattle.pass_edge.specs.Grounded.{StoredIs}
use Rattle.pass_edge.specs.Texts.{type_of, Front}
use Rattle.pass_edge.proofs.TextLaws.{front_take, txt_short, type_short, type_of_edge}
use Rattle.numbers.specs.Signs.{sign_edge}
use Rattle.signs.specs.SignEdges.{Begins}

-- ---- texts at the front of a buffer
pub front_length : {s u : List ℕ} {n : ℕ} {t : Text} → Front s u n t → length u ≡ length s
front_length {s} {u} {n} {t} f = ap length f.wrote ∙ length-sets s 0 t

-- a text with a space and a sign behind it
pub begins_type : {s u : List ℕ} {n : ℕ} {t : Text} → Front s u n t → n ≤ 60 → 62 ≤ length s → (c : ℕ) → Begins (set (set u n 32) (n + 1) c) (n + 2) (t ++ (32 ∷ c ∷ []))
begins_type {s} {u} {n} {t} f h k c =
    let long = front_length f in
    let v = set u n 32 in
    let same : length v ≡ length u = length-set u n 32 in
    let two : n + 2 ≡ suc (n + 1) = omega arith in
    record {
      is =
          ap (λ (m : ℕ). take m (set v (n + 1) c)) two
          ∙ take-suc-set v (n + 1) c (omega arith)
          ∙ ap (λ (x : List ℕ). x ++ (c ∷ [])) (ap (λ (m : ℕ). take m v) (add-one n) ∙ take-suc-set u n 32 (omega arith) ∙ ap (λ (x : List ℕ). x ++ (32 ∷ [])) (front_take f (omega (arith, f.long))))
          ∙ append_assoc t (32 ∷ []) (c ∷ []);
      inside = omega (arith, length-set v (n + 1) c);
    }

-- what is behind an offset
pub behind_length : (a : ℕ) (s : List ℕ) → length (take (length s - a) (drop a s)) ≡ length s - a
behind_length a s = ap length (part_to_end s a) ∙ length-drop a s

-- a sign, and a text behind it
pub begins_txt : (s : List ℕ) (c : ℕ) {v : List ℕ} {n : ℕ} {t : Text} → 257 ≤ length s → n ≤ 256
    → Front (take (length (set s 0 c) - 1) (drop 1 (set s 0 c))) v n t → Begins (put_mid 1 (length (set s 0 c) - 1) (set s 0 c) v) (n + 1) (c ∷ t)
begins_txt [] c h k f = absurd (omega arith)
begins_txt (a ∷ s) c {v} {n} {t} h k f =
    let m : suc (length s) - 1 ≡ length s = omega arith in
    let long : length v ≡ length s = front_length f ∙ ap (λ (x : ℕ). length (take x s)) m ∙ ap length (take-length s) in
    record {
      is = rw (add-one n) (ap (λ (x : List ℕ). c ∷ x) (take-append-le n v _ (omega arith) ∙ front_take f (rw (← front_length f) (omega (arith, f.long)))));
      inside = omega (arith, length-append v (drop (suc (length s) - 1) s));
    }

-- ---- the edge for a sign
module _ (w table : List ℕ) {x : PassEdge} {i : StoredEdge} (h : EdgeIs x i) where
  pub start_is : x.start.0 ≡ (edge_of w table i).start
  unfolding edge_of
  start_is = ap (λ (e : PassEdge). e.start.0) h.is

  module _ (a c : ℕ) {ty tx : Text} (p : ty ≡ type_of table i ++ (32 ∷ c ∷ [])) (q : tx ≡ c ∷ txt_of w table i) where
    edge_is : regular a x.end.0 ty tx ≡ sign_edge a c (edge_of w table i)
    unfolding edge_of
    edge_is = let b : x.end.0 ≡ i.end = ap (λ (e : PassEdge). e.end.0) h.is in rw (b, p, q, ← type_of_edge w table i)

    pub edge_added : {v : List ℕ} {l : Lattice} (es : List Edge) → Holds v l (add es (regular a x.end.0 ty tx)) → Holds v l (add es (sign_edge a c (edge_of w table i)))
    edge_added es k = rw edge_is at k

-- its texts are short
pub sign_short : (line table : List ℕ) {x : PassEdge} {i : StoredEdge} → StoredIs line table x i → length (chars line) ≤ 256 → (c : ℕ) {ty tx : Text}
    → ty ≡ type_of table i ++ (32 ∷ c ∷ []) → tx ≡ c ∷ txt_of (chars line) table i → length ty + length tx ≤ 2000
sign_short line table {x} {i} h k c p q =
    omega (arith, ap length p ∙ length-append (type_of table i) (32 ∷ c ∷ []), ap length q, type_short (chars line) table i h.sound, txt_short (chars line) table i h.sound k)
