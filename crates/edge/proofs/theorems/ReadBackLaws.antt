-- What was written is read: an edge that stands in a list of bytes is the edge that is read there, and ends where it is said to end.
-- In order: fields in a row; a field that may be absent; the bits of a map; the fields of a numeric edge; an edge.
use mathlib.Core.Path.{◌≡◌, refl, sym, ap, ◌∙◌}
use mathlib.Core.Option.{Option, none, some}
use mathlib.Core.List.{List, [], ◌++◌, append_assoc, append-nil}
use Prim.Native.Nat.{ℕ, ◌+◌, ◌*◌, ◌^◌, ◌≤◌, ◌<◌}
use native.Mathlib.Nat.{add-zero}
use native.Mathlib.Omega.{arith}
use lib.ListN.{length, drop, length-append}
use lib.Seq.{drop-drop, drop-append_seam, take-append_seam}
use lib.Dec.{eqb}
use Rattle.fields.specs.Fields.{le_at, bytes_of}
use Rattle.fields.specs.Part.{part}
use Rattle.fields.proofs.FieldsLaws.{le_at-of_drop, le_at-bytes_of, length-bytes_of}
use Rattle.fields.specs.Flag.{there, flag, bytes_if}
use Rattle.fields.proofs.FlagLaws.{there_le, flag_le, flag_stands}
use Rattle.edge.specs.Edge.{Text, Numeric, Edge, numeric_map, map_of, str, fraction_bytes, numeric_bytes, head_bytes, edge_bytes, NumericFits, EdgeFits}
use Rattle.edge.specs.Layout.{bit, stands, only, map_at, text_at, string_end, string_end_if, txt_at, head_end, fraction_at, base_at, mult_at, script_at, value_sAt, decimals_at, fields_end, next_at, numeric_at, edge_at}
use Rattle.edge.proofs.WriteLaws.{length_str, length_head}

-- ---- fields in a row
pub behind : (s : List ℕ) (at : ℕ) (a b : List ℕ) → drop at s ≡ a ++ b → drop (at + length a) s ≡ b
behind s at a b e = sym (drop-drop (length a) at s) ∙ ap (drop (length a)) e ∙ drop-append_seam a b

module _ (s : List ℕ) (at w n : ℕ) (rest : List ℕ) (e : drop at s ≡ bytes_of w n ++ rest) where
  pub number_there : n < 2 ^ (8 * w) → le_at s at w ≡ n
  number_there h =
      sym (le_at-of_drop s at 0 w ∙ ap (λ (k : ℕ). le_at s k w) (add-zero at)) ∙ ap (λ (l : List ℕ). le_at l 0 w) e ∙ le_at-bytes_of w n rest h

  pub number_behind : drop (at + w) s ≡ rest
  number_behind = rw (length-bytes_of w n) at (behind s at (bytes_of w n) rest e)

module _ (s : List ℕ) (at : ℕ) (x rest : List ℕ) (e : drop at s ≡ str x ++ rest) (h : length x < 2 ^ 16) where
  text_parts : drop at s ≡ bytes_of 2 (length x) ++ (x ++ rest)
  unfolding str
  text_parts = e ∙ append_assoc (bytes_of 2 (length x)) x rest

  text_length : le_at s at 2 ≡ length x
  text_length = number_there s at 2 (length x) (x ++ rest) text_parts h

  text_there : text_at s at ≡ x
  unfolding text_at part
  text_there = rw (text_length, number_behind s at 2 (length x) (x ++ rest) text_parts) (take-append_seam x rest)

  text_ends : string_end s at ≡ at + length (str x)
  unfolding string_end
  text_ends = let l = text_length in let k = length_str x in omega arith

  text_behind : drop (string_end s at) s ≡ rest
  text_behind = rw text_ends (behind s at (str x) rest e)

-- ---- a field that may be absent, whose bit is k
record FieldRead {A : Type 0} (f : A → List ℕ) (x : Option A) (read : Option A) (s : List ℕ) (v next : ℕ) (rest : List ℕ) : Type 0 where
  pub is : read ≡ x
  pub ends : next ≡ v + length (bytes_if f x)
  pub then : drop next s ≡ rest

module _ (s : List ℕ) (v k : ℕ) (rest : List ℕ) where
  number_field : (w to : ℕ) (x : Option ℕ) → k ≡ there x → (k ≡ 0 → to ≡ v) → (k ≡ 1 → to ≡ v + w) → drop v s ≡ bytes_if (bytes_of w) x ++ rest → ((n : ℕ) → x ≡ some n → n < 2 ^ (8 * w))
      → FieldRead (bytes_of w) x (only (eqb k 1) (le_at s v w)) s v to rest
  number_field w to none b off on e h = rw (b, off b) (record { is = refl; ends = sym (add-zero v); then = e })
  number_field w to (some n) b off on e h =
      rw (b, on b) (record { is = ap some (number_there s v w n rest e (h n refl)); ends = rw (length-bytes_of w n); then = number_behind s v w n rest e })

  fraction_field : (x : Option (ℕ × ℕ)) → k ≡ there x → drop v s ≡ bytes_if fraction_bytes x ++ rest → ((p : ℕ × ℕ) → x ≡ some p → (p.0 < 2 ^ 64) × (p.1 < 2 ^ 64))
      → FieldRead fraction_bytes x (only {A = ℕ × ℕ} (eqb k 1) (le_at s v 8, le_at s (v + 8) 8)) s v (v + 16 * k) rest
  fraction_field none b e h = rw b (record { is = refl; ends = refl; then = rw (add-zero v) e })
  fraction_field (some p) b e h =
      let parts : drop v s ≡ bytes_of 8 p.0 ++ (bytes_of 8 p.1 ++ rest) = e ∙ append_assoc (bytes_of 8 p.0) (bytes_of 8 p.1) rest in
      let second = number_behind s v 8 p.0 (bytes_of 8 p.1 ++ rest) parts in
      let i = number_there s v 8 p.0 (bytes_of 8 p.1 ++ rest) parts (h p refl).0 in
      let j = number_there s (v + 8) 8 p.1 rest second (h p refl).1 in
      let l : length (fraction_bytes p) ≡ 16 = length-append (bytes_of 8 p.0) (bytes_of 8 p.1) ∙ rw (length-bytes_of 8 p.0, length-bytes_of 8 p.1) in
      rw b (record { is = rw (i, j); ends = rw l; then = rw l at (behind s v (fraction_bytes p) rest e) })

  text_field_lem : (x : Option Text) → k ≡ there x → drop v s ≡ bytes_if str x ++ rest → ((t : Text) → x ≡ some t → length t < 2 ^ 16)
      → FieldRead str x (only (eqb k 1) (text_at s v)) s v (string_end_if (eqb k 1) s v) rest
  text_field_lem none b e h = rw b (record { is = refl; ends = sym (add-zero v); then = e })
  text_field_lem (some t) b e h =
      rw b (record { is = ap some (text_there s v t rest e (h t refl)); ends = text_ends s v t rest e (h t refl); then = text_behind s v t rest e (h t refl) })

-- ---- the bits of a map
module _ (a b c d e f g h i : ℕ) (la : a ≤ 1) (lb : b ≤ 1) (lc : c ≤ 1) (ld : d ≤ 1) (le : e ≤ 1) (lf : f ≤ 1) (lg : g ≤ 1) (lh : h ≤ 1) (li : i ≤ 1) where
  abbrev sum : ℕ
  sum = 1 + 2 * a + 4 * b + 8 * c + 16 * d + 32 * e + 64 * f + 128 * g + 256 * h + 512 * i

  bits : (bit 0 sum ≡ 1) × (bit 1 sum ≡ a) × (bit 2 sum ≡ b) × (bit 3 sum ≡ c) × (bit 4 sum ≡ d) × (bit 5 sum ≡ e) × (bit 6 sum ≡ f) × (bit 7 sum ≡ g) × (bit 8 sum ≡ h) × (bit 9 sum ≡ i)
  bits = (omega arith, omega arith, omega arith, omega arith, omega arith, omega arith, omega arith, omega arith, omega arith, omega arith)

pub record Bits (n : Numeric) (m : ℕ) : Type 0 where
  pub numeric : bit 0 m ≡ 1
  pub value : bit 1 m ≡ there n.value
  pub fraction : bit 2 m ≡ there n.fraction
  pub base : bit 3 m ≡ there n.base
  pub mult : bit 4 m ≡ there n.mult
  pub script : bit 5 m ≡ there n.script
  pub large : bit 6 m ≡ flag n.large
  pub active : bit 7 m ≡ flag n.active
  pub value_s : bit 8 m ≡ there n.value_s
  pub decimals : bit 9 m ≡ there n.decimals

pub map_bits : (n : Numeric) → Bits n (numeric_map n)
unfolding numeric_map
map_bits n =
    let b =
    bits (there n.value) (there n.fraction) (there n.base) (there n.mult) (there n.script) (flag n.large) (flag n.active) (there n.value_s) (there n.decimals)
    (there_le n.value) (there_le n.fraction) (there_le n.base) (there_le n.mult) (there_le n.script) (flag_le n.large) (flag_le n.active) (there_le n.value_s) (there_le n.decimals) in
    record { numeric = b.0; value = b.1; fraction = b.2; base = b.3; mult = b.4; script = b.5; large = b.6; active = b.7; value_s = b.8; decimals = b.9 }

-- ---- the fields of a numeric edge
module _ (n : Numeric) (m : ℕ) (b : Bits n m) (fit : NumericFits n) (s : List ℕ) (at : ℕ) (rest : List ℕ) (stand : drop at s ≡ numeric_bytes n ++ rest) where
  rest₈ : List ℕ
  rest₈ = bytes_if (bytes_of 1) n.decimals ++ rest

  rest₇ : List ℕ
  rest₇ = bytes_if str n.value_s ++ rest₈

  rest₅ : List ℕ
  rest₅ = bytes_if str n.script ++ rest₇

  rest₄ : List ℕ
  rest₄ = bytes_if (bytes_of 8) n.mult ++ rest₅

  rest₃ : List ℕ
  rest₃ = bytes_if (bytes_of 8) n.base ++ rest₄

  rest₂ : List ℕ
  rest₂ = bytes_if fraction_bytes n.fraction ++ rest₃

  rest₁ : List ℕ
  rest₁ = bytes_if (bytes_of 8) n.value ++ rest₂

  in_a_row : drop at s ≡ str n.orig ++ rest₁
  unfolding numeric_bytes rest₁ rest₂ rest₃ rest₄ rest₅ rest₇ rest₈
  in_a_row = stand ∙ simp append_assoc

  value_read : FieldRead (bytes_of 8) n.value (only (stands 1 m) (le_at s (string_end s at) 8)) s (string_end s at) (fraction_at m (string_end s at)) rest₂
  unfolding rest₁
  value_read = number_field s (string_end s at) (bit 1 m) rest₂ 8 (fraction_at m (string_end s at)) n.value b.value (λ z. omega arith) (λ o. omega arith) (text_behind s at n.orig rest₁ in_a_row fit.orig) fit.value

  fraction_read : FieldRead fraction_bytes n.fraction (only {A = ℕ × ℕ} (stands 2 m) (le_at s (fraction_at m (string_end s at)) 8, le_at s (fraction_at m (string_end s at) + 8) 8)) s (fraction_at m (string_end s at)) (base_at m (string_end s at)) rest₃
  unfolding rest₂
  fraction_read = fraction_field s (fraction_at m (string_end s at)) (bit 2 m) rest₃ n.fraction b.fraction value_read.then fit.fraction

  base_read : FieldRead (bytes_of 8) n.base (only (stands 3 m) (le_at s (base_at m (string_end s at)) 8)) s (base_at m (string_end s at)) (mult_at m (string_end s at)) rest₄
  unfolding rest₃
  base_read = number_field s (base_at m (string_end s at)) (bit 3 m) rest₄ 8 (mult_at m (string_end s at)) n.base b.base (λ z. omega arith) (λ o. omega arith) fraction_read.then fit.base

  mult_read : FieldRead (bytes_of 8) n.mult (only (stands 4 m) (le_at s (mult_at m (string_end s at)) 8)) s (mult_at m (string_end s at)) (script_at m (string_end s at)) rest₅
  unfolding rest₄ script_at
  mult_read = number_field s (mult_at m (string_end s at)) (bit 4 m) rest₅ 8 (script_at m (string_end s at)) n.mult b.mult (λ z. omega arith) (λ o. omega arith) base_read.then fit.mult

  script_read : FieldRead str n.script (only (stands 5 m) (text_at s (script_at m (string_end s at)))) s (script_at m (string_end s at)) (value_sAt m s (string_end s at)) rest₇
  unfolding rest₅ value_sAt
  script_read = text_field_lem s (script_at m (string_end s at)) (bit 5 m) rest₇ n.script b.script mult_read.then fit.script

  value_s_read : FieldRead str n.value_s (only (stands 8 m) (text_at s (value_sAt m s (string_end s at)))) s (value_sAt m s (string_end s at)) (decimals_at m s (string_end s at)) rest₈
  unfolding rest₇ decimals_at
  value_s_read = text_field_lem s (value_sAt m s (string_end s at)) (bit 8 m) rest₈ n.value_s b.value_s script_read.then fit.value_s

  decimals_read : FieldRead (bytes_of 1) n.decimals (only (stands 9 m) (le_at s (decimals_at m s (string_end s at)) 1)) s (decimals_at m s (string_end s at)) (fields_end m s at) rest
  unfolding rest₈ fields_end
  decimals_read = number_field s (decimals_at m s (string_end s at)) (bit 9 m) rest 1 (fields_end m s at) n.decimals b.decimals (λ z. omega arith) (λ o. omega arith) value_s_read.then fit.decimals

  pub numeric_there : numeric_at m s at ≡ n
  unfolding numeric_at
  numeric_there =
      rw (
        text_there s at n.orig rest₁ in_a_row fit.orig,
        value_read.is,
        fraction_read.is,
        base_read.is,
        mult_read.is,
        script_read.is,
        value_s_read.is,
        decimals_read.is,
        b.large,
        b.active,
        flag_stands n.large,
        flag_stands n.active,
      )

  pub numeric_ends : fields_end m s at ≡ at + length (numeric_bytes n)
  unfolding numeric_bytes
  numeric_ends =
      let o = text_ends s at n.orig rest₁ in_a_row fit.orig in
      let v = value_read.ends in
      let f = fraction_read.ends in
      let w = base_read.ends in
      let x = mult_read.ends in
      let y = script_read.ends in
      let z = value_s_read.ends in
      let k = decimals_read.ends in
      simp length-append (omega arith)

-- ---- an edge
module _ (m a z : ℕ) (ty tx : Text) (s : List ℕ) (at : ℕ) (rest : List ℕ) (stand : drop at s ≡ head_bytes m a z ty tx ++ rest) where
  head_row : drop at s ≡ bytes_of 2 m ++ (bytes_of 2 a ++ (bytes_of 2 z ++ (str ty ++ (str tx ++ rest))))
  unfolding head_bytes
  head_row = stand ∙ simp append_assoc

  head_row_2 : drop (at + 2) s ≡ bytes_of 2 a ++ (bytes_of 2 z ++ (str ty ++ (str tx ++ rest)))
  head_row_2 = number_behind s at 2 m _ head_row

  head_row_4 : drop (at + 4) s ≡ bytes_of 2 z ++ (str ty ++ (str tx ++ rest))
  head_row_4 = let e : at + 2 + 2 ≡ at + 4 = omega arith in rw e at (number_behind s (at + 2) 2 a _ head_row_2)

  head_row_6 : drop (at + 6) s ≡ str ty ++ (str tx ++ rest)
  head_row_6 = let e : at + 4 + 2 ≡ at + 6 = omega arith in rw e at (number_behind s (at + 4) 2 z _ head_row_4)

  pub map_there : m < 2 ^ 16 → map_at s at ≡ m
  map_there h = number_there s at 2 m _ head_row h

  pub start_there : a < 2 ^ 16 → le_at s (at + 2) 2 ≡ a
  start_there h = number_there s (at + 2) 2 a _ head_row_2 h

  pub end_there : z < 2 ^ 16 → le_at s (at + 4) 2 ≡ z
  end_there h = number_there s (at + 4) 2 z _ head_row_4 h

  module _ (h : length ty < 2 ^ 16) (k : length tx < 2 ^ 16) where
    pub type_there : text_at s (at + 6) ≡ ty
    type_there = text_there s (at + 6) ty (str tx ++ rest) head_row_6 h

    txt_row : drop (txt_at s at) s ≡ str tx ++ rest
    txt_row = text_behind s (at + 6) ty (str tx ++ rest) head_row_6 h

    pub txt_there : text_at s (txt_at s at) ≡ tx
    txt_there = text_there s (txt_at s at) tx rest txt_row k

    pub fields_row : drop (head_end s at) s ≡ rest
    fields_row = text_behind s (txt_at s at) tx rest txt_row k

    pub head_ends : head_end s at ≡ at + length (head_bytes m a z ty tx)
    head_ends =
        let x = text_ends s (at + 6) ty (str tx ++ rest) head_row_6 h in
        let y = text_ends s (txt_at s at) tx rest txt_row k in
        let i = length_str ty in
        let j = length_str tx in
        let l = length_head m a z ty tx in
        omega arith

map_small : (n : Numeric) → numeric_map n < 2 ^ 16
unfolding numeric_map
map_small n =
    omega (arith, there_le n.value, there_le n.fraction, there_le n.base, there_le n.mult, there_le n.script, flag_le n.large, flag_le n.active, there_le n.value_s, there_le n.decimals)

-- the edge e stands in s from at on
pub record EdgeRead (e : Edge) (s : List ℕ) (at : ℕ) : Type 0 where
  pub map : map_at s at ≡ map_of e.num
  pub is : edge_at s at ≡ e
  pub ends : next_at s at ≡ at + length (edge_bytes e)

abbrev edge : ℕ → ℕ → Text → Text → Option Numeric → Edge
edge a z ty tx x = record { start = a; end = z; type = ty; txt = tx; num = x }

edge_read : (s : List ℕ) (at : ℕ) (rest : List ℕ) (a z : ℕ) (ty tx : Text) (x : Option Numeric) → EdgeFits (edge a z ty tx x) → drop at s ≡ edge_bytes (edge a z ty tx x) ++ rest
    → EdgeRead (edge a z ty tx x) s at
unfolding edge_bytes edge_at next_at
edge_read s at rest a z ty tx none f stand =
    let row : drop at s ≡ head_bytes 0 a z ty tx ++ rest = stand ∙ append_assoc (head_bytes 0 a z ty tx) [] rest in
    let m = map_there 0 a z ty tx s at rest row (omega arith) in
    record {
      map = m;
      is = rw (m, start_there 0 a z ty tx s at rest row f.start, end_there 0 a z ty tx s at rest row f.end, type_there 0 a z ty tx s at rest row f.type f.txt, txt_there 0 a z ty tx s at rest row f.type f.txt);
      ends = rw (m, append-nil (head_bytes 0 a z ty tx)) (head_ends 0 a z ty tx s at rest row f.type f.txt);
    }
edge_read s at rest a z ty tx (some n) f stand =
    let i = numeric_map n in
    let row : drop at s ≡ head_bytes i a z ty tx ++ (numeric_bytes n ++ rest) = stand ∙ append_assoc (head_bytes i a z ty tx) (numeric_bytes n) rest in
    let m = map_there i a z ty tx s at (numeric_bytes n ++ rest) row (map_small n) in
    let fields = fields_row i a z ty tx s at (numeric_bytes n ++ rest) row f.type f.txt in
    let h = head_ends i a z ty tx s at (numeric_bytes n ++ rest) row f.type f.txt in
    let e = numeric_ends n i (map_bits n) (f.num n refl) s (head_end s at) rest fields in
    record {
      map = m;
      is = rw (
        m,
        (map_bits n).numeric,
        start_there i a z ty tx s at (numeric_bytes n ++ rest) row f.start,
        end_there i a z ty tx s at (numeric_bytes n ++ rest) row f.end,
        type_there i a z ty tx s at (numeric_bytes n ++ rest) row f.type f.txt,
        txt_there i a z ty tx s at (numeric_bytes n ++ rest) row f.type f.txt,
        numeric_there n i (map_bits n) (f.num n refl) s (head_end s at) rest fields,
      );
      ends = rw (m, (map_bits n).numeric) (simp length-append (omega arith));
    }

pub edge_there : (s : List ℕ) (at : ℕ) (rest : List ℕ) (e : Edge) → EdgeFits e → drop at s ≡ edge_bytes e ++ rest → EdgeRead e s at
edge_there s at rest e f stand = edge_read s at rest e.start e.end e.type e.txt e.num f stand

pub edge_behind : (s : List ℕ) (at : ℕ) (rest : List ℕ) (e : Edge) → EdgeFits e → drop at s ≡ edge_bytes e ++ rest → drop (next_at s at) s ≡ rest
edge_behind s at rest e f stand = rw (edge_there s at rest e f stand).ends (behind s at (edge_bytes e) rest stand)
