-- A copy inside a list, and the bytes of an edge with a longer txt. No contract cites this file.
-- In order: a copy inside a list; the copy's bytes in four steps; where the fields of an edge stand; the copy's bytes; the copy in the lattice. Assumes nothing.
use mathlib.Core.Path.{◌≡◌, refl, sym, ap, ◌∙◌}
use mathlib.Core.Logic.{inl, inr}
use mathlib.Core.List.{List, [], ◌∷◌, ◌++◌, append_assoc}
use Prim.Native.Nat.{ℕ, ◌+◌, ◌-◌, ◌≤◌, ◌<◌}
use native.Mathlib.Omega.{arith}
use lib.ListN.{length, take, drop, length-append, length-drop}
use lib.Seq.{sets, sets-eq, drop-drop, length-sets, take_at}
use Rattle.fields.specs.Fields.{le_at, bytes_of}
use Rattle.fields.specs.Part.{part}
use Rattle.fields.proofs.FieldsLaws.{length-bytes_of}
use Rattle.fields.proofs.PartLaws.{length_part, part_of_take, part_sets, part_sets_other, drop_sets}
use Rattle.edge.specs.Edge.{Edge, Text, map_of, str, head_bytes, edge_bytes, EdgeFits}
use Rattle.edge.specs.Layout.{map_at, txt_at, head_end, string_end}
use Rattle.edge.specs.declared.EdgeView.{EdgeView}
use Rattle.edge.specs.View.{view_at}
use Rattle.edge.specs.Write.{Put}
use Rattle.edge.proofs.WriteLaws.{put_then}
use Rattle.edge.proofs.theorems.ReadBackLaws.{behind, number_there, number_behind, edge_there}
use Rattle.lattice.specs.declared.Lattice.{Lattice}
use Rattle.lattice.specs.Kept.{key, Fits, Stands, Holds, END, SameBehind}
use Rattle.lattice.proofs.KeyLaws.{length_key}
use Rattle.lattice.proofs.KeptLaws.{fields_bytes, length_edge, begins}
use Rattle.lattice.proofs.HoldsLaws.{holds_beside}
use Rattle.lattice_add.specs.Copy.{prefixed, prefixed_bytes, Source}

none : (l : List ℕ) → take 0 l ≡ []
none [] = refl
none (x ∷ l) = refl

-- ---- a copy inside a list: its front ends where the copy begins, and its back begins there
pub inside_copied : (w : List ℕ) (from to n : ℕ) → from + n ≤ to → to + n ≤ length w → {front back u : List ℕ} → front ≡ take to w → back ≡ drop to w
    → u ≡ sets back 0 (take (from + n - from) (drop from front)) → front ++ u ≡ sets w to (part w from n)
unfolding part
inside_copied w from to n apart room {front} {back} {u} f b copied =
    let size : from + n - from ≡ n = omega arith in
    let x = part w from n in
    let long : length x ≡ n = length_part w from n (omega arith) in
    let p : take (from + n - from) (drop from front) ≡ x = rw (size, f) (part_of_take w to from n apart) in
    let h : 0 + length x ≤ length (drop to w) = rw (length-drop to w) (omega (arith, long)) in
    let d : drop (0 + length x) (drop to w) ≡ drop (to + length x) w = drop-drop (0 + length x) to w ∙ ap (λ k. drop k w) (omega arith) in
    let e : sets (drop to w) 0 x ≡ x ++ drop (to + length x) w =
    sets-eq x (drop to w) 0 h ∙ ap (λ (y : List ℕ). y ++ x ++ drop (0 + length x) (drop to w)) (none (drop to w)) ∙ ap (λ (y : List ℕ). x ++ y) d in
    rw (copied, p, f, b) (ap (λ (y : List ℕ). take to w ++ y) e ∙ sym (sets-eq x w to (omega (arith, long)) ∙ rw append_assoc))

-- ---- the copy's bytes in four steps
module _ (s x : List ℕ) (len at txt n to head behind : ℕ) (a : at + 2 ≤ txt) (b : txt ≤ to) (d : to ≤ len) (room : len + (to - at) + length x ≤ length s) (is-head : head ≡ txt - 2 - at) (is-behind : behind ≡ len + head + 2) {t u v z : List ℕ} (first : t ≡ sets s len (part s at head)) (second : u ≡ sets t (len + head) (bytes_of 2 (length x + n))) (third : v ≡ sets u behind x) (fourth : z ≡ sets v (behind + length x) (part v txt (to - txt))) where
  -- the string is as it was: all stores are behind it
  string_kept : part v txt (to - txt) ≡ part s txt (to - txt)
  string_kept =
      ap (λ (y : List ℕ). part y txt (to - txt)) third ∙ part_sets_other u behind x txt (to - txt) (inr (omega arith))
      ∙ ap (λ (y : List ℕ). part y txt (to - txt)) second ∙ part_sets_other t (len + head) (bytes_of 2 (length x + n)) txt (to - txt) (inr (omega arith))
      ∙ ap (λ (y : List ℕ). part y txt (to - txt)) first ∙ part_sets_other s len (part s at head) txt (to - txt) (inr (omega arith))

  put_head : Put s t len (len + head) (part s at head)
  put_head = let l = length_part s at head (omega arith) in record { wrote = first; next = omega arith }

  put_length : Put t u (len + head) behind (bytes_of 2 (length x + n))
  put_length = let l = length-bytes_of 2 (length x + n) in record { wrote = second; next = omega arith }

  put_tail : Put v z (behind + length x) (behind + length x + (to - txt)) (part s txt (to - txt))
  put_tail = let l = length_part s txt (to - txt) (omega arith) in record { wrote = fourth ∙ ap (sets v (behind + length x)) string_kept; next = omega arith }

  pub put_prefixed : Put s z len (behind + length x + (to - txt)) (prefixed_bytes s at txt n to x)
  unfolding prefixed_bytes
  put_prefixed = rw (← is-head) (put_then put_head (put_then put_length (put_then {a = x} (record { wrote = third; next = refl }) put_tail)))

-- ---- the bytes of an edge, by its txt
abbrev span_bytes : Edge → List ℕ
span_bytes e = bytes_of 2 (map_of e.num) ++ (bytes_of 2 e.start ++ bytes_of 2 e.end)

-- what stands before the length of txt
abbrev before_txt : Edge → List ℕ
before_txt e = span_bytes e ++ (bytes_of 2 (length e.type) ++ e.type)

by_txt : (e : Edge) → edge_bytes e ≡ before_txt e ++ (bytes_of 2 (length e.txt) ++ (e.txt ++ fields_bytes e))
unfolding edge_bytes head_bytes str
by_txt e = simp append_assoc

by_type : (e : Edge) → edge_bytes e ≡ span_bytes e ++ (bytes_of 2 (length e.type) ++ (e.type ++ (bytes_of 2 (length e.txt) ++ (e.txt ++ fields_bytes e))))
unfolding edge_bytes head_bytes str
by_type e = simp append_assoc

length_span : (e : Edge) → length (span_bytes e) ≡ 6
length_span e =
    let a = length-bytes_of 2 (map_of e.num) in
    let b = length-bytes_of 2 e.start in
    let d = length-bytes_of 2 e.end in
    simp length-append (omega arith)

length_before : (e : Edge) → length (before_txt e) ≡ 8 + length e.type
length_before e =
    let a = length_span e in
    let b = length-bytes_of 2 (length e.type) in
    let c = length-append (span_bytes e) (bytes_of 2 (length e.type) ++ e.type) in
    let d = length-append (bytes_of 2 (length e.type)) e.type in
    omega arith

pub length_by_txt : (e : Edge) → length (edge_bytes e) ≡ 10 + length e.type + length e.txt + length (fields_bytes e)
length_by_txt e = let l = length_edge e in let k = length_key e in omega arith

-- ---- where the fields of an edge stand that stands in w
module _ (w : List ℕ) (at : ℕ) (e : Edge) (fits : EdgeFits e) (there : part w at (length (edge_bytes e)) ≡ edge_bytes e) where
  rest : List ℕ
  rest = drop (length (edge_bytes e)) (drop at w)

  stand : drop at w ≡ edge_bytes e ++ rest
  unfolding rest
  stand = begins w at (edge_bytes e) there

  pub map_is : map_at w at ≡ map_of e.num
  map_is = (edge_there w at rest e fits stand).map

  type_row : drop (at + 6) w ≡ bytes_of 2 (length e.type) ++ ((e.type ++ (bytes_of 2 (length e.txt) ++ (e.txt ++ fields_bytes e))) ++ rest)
  type_row =
      let p : drop at w ≡ span_bytes e ++ (bytes_of 2 (length e.type) ++ ((e.type ++ (bytes_of 2 (length e.txt) ++ (e.txt ++ fields_bytes e))) ++ rest)) =
      stand ∙ ap (λ (z : List ℕ). z ++ rest) (by_type e) ∙ append_assoc (span_bytes e) _ rest ∙ ap (λ (z : List ℕ). span_bytes e ++ z) (append_assoc (bytes_of 2 (length e.type)) _ rest) in
      ap (λ (k : ℕ). drop (at + k) w) (sym (length_span e)) ∙ behind w at (span_bytes e) _ p

  pub txt_at_is : txt_at w at ≡ at + 8 + length e.type
  unfolding string_end
  txt_at_is = let n = number_there w (at + 6) 2 (length e.type) _ type_row fits.type in omega arith

  before_row : drop at w ≡ before_txt e ++ (bytes_of 2 (length e.txt) ++ ((e.txt ++ fields_bytes e) ++ rest))
  before_row =
      stand ∙ ap (λ (z : List ℕ). z ++ rest) (by_txt e) ∙ append_assoc (before_txt e) _ rest ∙ ap (λ (z : List ℕ). before_txt e ++ z) (append_assoc (bytes_of 2 (length e.txt)) _ rest)

  txt_row : drop (txt_at w at) w ≡ bytes_of 2 (length e.txt) ++ ((e.txt ++ fields_bytes e) ++ rest)
  txt_row =
      let l = length_before e in
      let t = txt_at_is in
      let k : txt_at w at ≡ at + length (before_txt e) = omega arith in
      ap (λ (z : ℕ). drop z w) k ∙ behind w at (before_txt e) _ before_row

  pub txt_len_is : le_at w (txt_at w at) 2 ≡ length e.txt
  txt_len_is = number_there w (txt_at w at) 2 (length e.txt) _ txt_row fits.txt

  pub head_end_is : head_end w at ≡ at + 10 + length e.type + length e.txt
  unfolding string_end
  head_end_is = let t = txt_at_is in let n = txt_len_is in omega arith

  before_there : part w at (8 + length e.type) ≡ before_txt e
  unfolding part
  before_there = ap (take (8 + length e.type)) before_row ∙ take_at (before_txt e) _ (8 + length e.type) (length_before e)

  tail_there : (n : ℕ) → n ≡ length e.txt + length (fields_bytes e) → part w (txt_at w at + 2) n ≡ e.txt ++ fields_bytes e
  unfolding part
  tail_there n p =
      ap (take n) (number_behind w (txt_at w at) 2 (length e.txt) _ txt_row) ∙ take_at (e.txt ++ fields_bytes e) rest n (length-append e.txt (fields_bytes e) ∙ sym p)

  -- ---- the copy's bytes
  pub copy_bytes : (x : Text) (to : ℕ) → to ≡ at + length (edge_bytes e) → prefixed_bytes w at (txt_at w at + 2) (le_at w (txt_at w at) 2) to x ≡ edge_bytes (prefixed x e)
  unfolding prefixed_bytes prefixed
  copy_bytes x to n =
      let t = txt_at_is in
      let l = length_by_txt e in
      let h : txt_at w at + 2 - 2 - at ≡ 8 + length e.type = omega arith in
      let m : to - (txt_at w at + 2) ≡ length e.txt + length (fields_bytes e) = omega arith in
      let e' : Edge = record { start = e.start; end = e.end; type = e.type; txt = x ++ e.txt; num = e.num } in
      ap (λ (k : ℕ). part w at k ++ (bytes_of 2 (length x + le_at w (txt_at w at) 2) ++ (x ++ part w (txt_at w at + 2) (to - (txt_at w at + 2))))) h
      ∙ rw (before_there, txt_len_is, tail_there (to - (txt_at w at + 2)) m, ← length-append x e.txt, ← append_assoc x e.txt (fields_bytes e)) (sym (by_txt e'))

-- ---- the copy in the lattice: v is the head that was read of the edge
length_copy : (x : Text) (e : Edge) → length (edge_bytes (prefixed x e)) ≡ length (edge_bytes e) + length x
unfolding prefixed
length_copy x e =
    let a = length_by_txt e in
    let b = length_by_txt (record { start = e.start; end = e.end; type = e.type; txt = x ++ e.txt; num = e.num }) in
    let d = length-append x e.txt in
    omega arith

module _ (x : List ℕ) {w : List ℕ} {len at next : ℕ} {e : Edge} (q : Source w len at next (length x) e) where
  pub head_room : len ≤ length w → head_end w at ≤ length w
  head_room r = let h = head_end_is w at e q.fits q.there in let s = length_by_txt e in let n = q.ends in let i = q.inside in omega arith

  copy_short : length (edge_bytes (prefixed x e)) ≤ 2048
  copy_short = let l = length_copy x e in let s = q.short in omega arith

  copy_fits : Fits (prefixed x e)
  unfolding prefixed
  copy_fits =
      let f = q.fits in
      let s = q.short in
      let l = length_by_txt e in
      let a = length-append x e.txt in
      record { start = f.start; end = f.end; type = f.type; txt = omega arith }

  copy_texts : (length (prefixed x e).type ≡ length e.type) × (length (prefixed x e).txt ≡ length x + length e.txt)
  unfolding prefixed
  copy_texts = (refl, length-append x e.txt)

  copy_key : length (key (prefixed x e)) ≡ 8 + length e.type + length e.txt + length x
  copy_key = let k = length_key (prefixed x e) in let a = copy_texts.0 in let b = copy_texts.1 in omega arith

  module _ {v : EdgeView} (is_view : v ≡ view_at w at) where
    txt_starts : v.txt.at.0 ≡ txt_at w at + 2
    unfolding view_at
    txt_starts = ap (λ (z : EdgeView). z.txt.at.0) is_view

    txt_long : v.txt.len ≡ le_at w (txt_at w at) 2
    unfolding view_at
    txt_long = ap (λ (z : EdgeView). z.txt.len) is_view

    fields_start : v.fields.0 ≡ head_end w at
    unfolding view_at
    fields_start = ap (λ (z : EdgeView). z.fields.0) is_view

    pub key_is : v.fields.0 ≡ at + 10 + length e.type + length e.txt
    key_is = fields_start ∙ head_end_is w at e q.fits q.there

    pub key_short : (at + 10 ≤ v.fields.0) × (v.fields.0 ≤ len) × (v.fields.0 - at - 2 + length x ≤ 2048)
    key_short = let k = key_is in let l = length_by_txt e in let n = q.ends in let i = q.inside in let s = q.short in (omega arith, omega arith, omega arith)

    pub compose_asks : len + 2048 ≤ length w → (at + 2 ≤ v.txt.at.0) × (v.txt.at.0 ≤ next) × (next ≤ len) × (len + (next - at) + length x ≤ length w) × (length x + v.txt.len < 65536)
    compose_asks r =
        let a = txt_starts in
        let b = txt_at_is w at e q.fits q.there in
        let n = q.ends in
        let l = length_by_txt e in
        let i = q.inside in
        let s = q.short in
        let t = txt_long in
        let y = txt_len_is w at e q.fits q.there in
        (omega arith, omega arith, omega arith, omega arith, omega arith)

    module _ {t : List ℕ} {to : ℕ} (put : Put w t len to (prefixed_bytes w at v.txt.at.0 v.txt.len next x)) where
      copied : Put w t len to (edge_bytes (prefixed x e))
      copied = rw (← copy_bytes w at e q.fits q.there x next q.ends, ← txt_starts, ← txt_long) put

      pub copy_stands : len + 2048 ≤ length w → Stands t len (v.fields.0 - at - 2 + length x) to (prefixed x e)
      copy_stands r =
          let s = copy_short in
          let n = copied.next in
          let k = key_is in
          let m = copy_key in
          let l = length-sets w len (edge_bytes (prefixed x e)) in
          let y = ap length copied.wrote in
          record {
            fits = copy_fits;
            there = ap (λ (z : List ℕ). part z len (length (edge_bytes (prefixed x e)))) copied.wrote ∙ part_sets w len (edge_bytes (prefixed x e)) _ refl (omega arith);
            keyed = omega arith;
            ends = n;
            inside = omega arith;
          }

      pub copy_holds : {l : Lattice} {es : List Edge} → l.len ≡ len → Holds w l es → Holds t l es
      copy_holds p h = let s = copy_short in let y = h.short in rw copied.wrote (holds_beside h len (edge_bytes (prefixed x e)) (omega arith, inl (omega arith)))

      pub copy_frame : len ≤ 32768 → SameBehind w t
      copy_frame h = let s = copy_short in ap (drop END) copied.wrote ∙ drop_sets w len (edge_bytes (prefixed x e)) END (omega arith)

-- a shorter text has room too
pub source_less : {w : List ℕ} {len at to k m : ℕ} {e : Edge} → m ≤ k → Source w len at to k e → Source w len at to m e
source_less h q = let s = q.short in record { fits = q.fits; there = q.there; ends = q.ends; inside = q.inside; short = omega arith }
