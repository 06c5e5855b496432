-- Laws of the writers (`specs/Write.antt`): what stands behind one another, how long it is, and what a writer answers. No contract cites this file.
-- In order: promises in a row; one field; the numbers; all fields; the map; the head; the answer.
use mathlib.Core.Path.{◌≡◌, refl, sym, ap, ◌∙◌}
use mathlib.Core.Bool.{Bool, true, false}
use mathlib.Core.List.{List, [], ◌++◌, append_assoc, append-nil}
use Prim.Native.Nat.{ℕ, ◌+◌, ◌*◌, ◌/◌, ◌≤◌, ◌<◌}
use native.Mathlib.Nat.{le_trans, mul-one, mul-zero}
use native.Mathlib.Omega.{arith}
use lib.ListN.{length, length-append}
use lib.Seq.{sets}
use lib.Dec.{eqb}
use borrow.Author.Tests.{eqb-true, eqb-false, le-leb, lt-leb}
use Rattle.whole.proofs.SetsLaws.{sets_then}
use Rattle.fields.specs.Fields.{bytes_of}
use Rattle.fields.specs.Part.{part_of}
use Rattle.fields.proofs.FieldsLaws.{length-bytes_of}
use Rattle.fields.proofs.PartLaws.{length_part}
use Rattle.fields.specs.Flag.{there, bytes_if}
use Rattle.fields.proofs.FlagLaws.{flag_is}
use Rattle.fields.specs.declared.Part.{Part}
use Rattle.edge.specs.declared.NumFields.{NumFields}
use Rattle.edge.specs.Edge.{Text, numeric_map, str, fraction_bytes, numeric_bytes, head_bytes, edge_bytes}
use Rattle.edge.specs.Layout.{bit, stands, only, script_at}
use Rattle.edge.specs.View.{numeric_of}
use Rattle.edge.specs.Write.{written, written_to, Put, regular, numeric, numbers_bytes, text_past_if, texts_past, fields_past, Writable}
use Rattle.std.specs.Prelude.{Some, None}

-- ---- promises in a row
pub put_then : {s t u : List ℕ} {at k r : ℕ} {a b : List ℕ} → Put s t at k a → Put t u k r b → Put s u at r (a ++ b)
put_then {s} {t} {u} {at} {k} {r} {a} {b} p q =
    let m = p.next in
    let n = q.next in
    record { wrote = sets_then s at k a b p.wrote m q.wrote; next = simp length-append (omega arith) }

pub put_number : (w n : ℕ) (s : List ℕ) {t : List ℕ} (at : ℕ) → t ≡ sets s at (bytes_of w n) → Put s t at (at + w) (bytes_of w n)
put_number w n s at e = record { wrote = e; next = rw (length-bytes_of w n) }

put_nothing : (s : List ℕ) (at : ℕ) → Put s s at at []
put_nothing s at = record { wrote = refl; next = omega arith }

pub length_str : (x : Text) → length (str x) ≡ 2 + length x
unfolding str
length_str x = length-append (bytes_of 2 (length x)) x ∙ rw (length-bytes_of 2 (length x))

pub put_str : (x s : List ℕ) {t u : List ℕ} (at : ℕ) → t ≡ sets s at (bytes_of 2 (length x)) → u ≡ sets t (at + 2) x → Put s u at (at + 2 + length x) (str x)
unfolding str
put_str x s at p q = put_then (put_number 2 (length x) s at p) (record { wrote = q; next = refl })

-- ---- one field
module _ (b : Bool) (s : List ℕ) (x : Text) (n at : ℕ) where
  pub put_text_on : {t : List ℕ} {r : ℕ} → b ≡ true → (r ≡ at + 2 + n) × Put s t at r (str x) → (r ≡ text_past_if b n at) × Put s t at r (bytes_if str (only b x))
  put_text_on on q = rw on q

  pub put_text_off : b ≡ false → (at ≡ text_past_if b n at) × Put s s at at (bytes_if str (only b x))
  put_text_off off = rw off (refl, put_nothing s at)

pub number_on_room : (k at n : ℕ) → eqb k 1 ≡ true → at + 8 * k ≤ n → at + 8 ≤ n
number_on_room k at n on h = omega (arith, eqb-true k 1 on)

pub text_on_room : (b : Bool) (n at m : ℕ) → b ≡ true → text_past_if b n at ≤ m → at + 2 + n ≤ m
text_on_room b n at m on h = rw on at h

-- a number of w bytes
pub put_number_on : (w k v : ℕ) (s : List ℕ) {t : List ℕ} (at : ℕ) → eqb k 1 ≡ true → t ≡ sets s at (bytes_of w v)
    → (at + w ≡ at + w * k) × Put s t at (at + w) (bytes_if (bytes_of w) (only (eqb k 1) v))
put_number_on w k v s at on e = (rw (eqb-true k 1 on, mul-one w), rw on (put_number w v s at e))

pub put_number_off : (w k v : ℕ) (s : List ℕ) (at : ℕ) → k < 2 → eqb k 1 ≡ false → (at ≡ at + w * k) × Put s s at at (bytes_if (bytes_of w) (only (eqb k 1) v))
put_number_off w k v s at l off =
    (let d = eqb-false k 1 off in let z : k ≡ 0 = omega arith in rw (z, mul-zero w) (omega arith), rw off (put_nothing s at))

-- ---- the numbers
pub fraction_bytes_lem : (on : Bool) (a b : ℕ) → bytes_if (bytes_of 8) (only on a) ++ bytes_if (bytes_of 8) (only on b) ≡ bytes_if fraction_bytes (only on (a, b))
fraction_bytes_lem true a b = refl
fraction_bytes_lem false a b = refl

pub put_all_numbers : (d : NumFields) {s t u v w x : List ℕ} {at a b c e r : ℕ} → Put s t at a (bytes_if (bytes_of 8) (only (stands 1 d.map) d.value))
    → Put t u a b (bytes_if (bytes_of 8) (only (stands 2 d.map) d.numerator)) → Put u v b c (bytes_if (bytes_of 8) (only (stands 2 d.map) d.denominator))
    → Put v w c e (bytes_if (bytes_of 8) (only (stands 3 d.map) d.base)) → Put w x e r (bytes_if (bytes_of 8) (only (stands 4 d.map) d.base_multiplier))
    → Put s x at r (numbers_bytes d)
unfolding numbers_bytes
put_all_numbers d p q r a b =
    put_then p (put_then (rw (fraction_bytes_lem (stands 2 d.map) d.numerator d.denominator) at (put_then q r)) (put_then a b))

-- ---- all fields
text_past_ge : (on : Bool) (n at : ℕ) → at ≤ text_past_if on n at
text_past_ge true n at = omega arith
text_past_ge false n at = omega arith

script_ge : (m v : ℕ) → v ≤ script_at m v
unfolding script_at
script_ge m v = omega arith

pub record PastWithin (d : NumFields) (at n : ℕ) : Type 0 where
  pub orig : at + 2 + d.orig.len ≤ n
  pub numbers : script_at d.map (at + 2 + d.orig.len) ≤ n
  pub script : text_past_if (stands 5 d.map) d.script.len (script_at d.map (at + 2 + d.orig.len)) ≤ n
  pub value_s : texts_past d at ≤ n

pub past_within : (d : NumFields) (at n : ℕ) → fields_past d at ≤ n → PastWithin d at n
unfolding fields_past texts_past
past_within d at n h =
    let a = script_ge d.map (at + 2 + d.orig.len) in
    let b = text_past_ge (stands 5 d.map) d.script.len (script_at d.map (at + 2 + d.orig.len)) in
    let c = text_past_ge (stands 8 d.map) d.value_s.len (text_past_if (stands 5 d.map) d.script.len (script_at d.map (at + 2 + d.orig.len))) in
    let t : texts_past d at ≤ n = omega arith in
    let s = le_trans c t in
    record { orig = le_trans a (le_trans b s); numbers = le_trans b s; script = s; value_s = t }

fields_bytes_lem : (o c v : List ℕ) (d : NumFields) → str (part_of o d.orig) ++ (numbers_bytes d ++ (bytes_if str (only (stands 5 d.map) (part_of c d.script))
    ++ (bytes_if str (only (stands 8 d.map) (part_of v d.value_s)) ++ bytes_if (bytes_of 1) (only (stands 9 d.map) d.decimals))))
    ≡ numeric_bytes (numeric_of o c v d)
unfolding numeric_bytes numeric_of numbers_bytes
fields_bytes_lem o c v d = simp append_assoc

pub put_all_fields : (o c v : List ℕ) (d : NumFields) {s t u w x y : List ℕ} {at a b e f r : ℕ} → Put s t at a (str (part_of o d.orig)) → Put t u a b (numbers_bytes d)
    → Put u w b e (bytes_if str (only (stands 5 d.map) (part_of c d.script))) → Put w x e f (bytes_if str (only (stands 8 d.map) (part_of v d.value_s)))
    → Put x y f r (bytes_if (bytes_of 1) (only (stands 9 d.map) d.decimals)) → Put s y at r (numeric_bytes (numeric_of o c v d))
put_all_fields o c v d p q a b e = rw (fields_bytes_lem o c v d) at (put_then p (put_then q (put_then a (put_then b e))))

pub head_room : (d : NumFields) (at n : ℕ) {past : ℕ} → past ≡ fields_past d at → past ≤ n → at ≤ n
head_room d at n e h = let w = past_within d at n (rw e at h) in omega arith

-- the room for each field, at the offsets that the code holds
module _ (d : NumFields) (at n : ℕ) (room : fields_past d at ≤ n) {value : ℕ} (after-orig : value ≡ at + 2 + d.orig.len) where
  pub numbers_room : script_at d.map value ≤ n
  numbers_room = rw after-orig (past_within d at n room).numbers

  module _ {script : ℕ} (after-numbers : script ≡ script_at d.map value) where
    pub script_room : text_past_if (stands 5 d.map) d.script.len script ≤ n
    script_room = rw (after-numbers, after-orig) (past_within d at n room).script

    module _ {value_s : ℕ} (after-script : value_s ≡ text_past_if (stands 5 d.map) d.script.len script) where
      texts_past_lem : text_past_if (stands 8 d.map) d.value_s.len value_s ≡ texts_past d at
      unfolding texts_past
      texts_past_lem = rw (after-script, after-numbers, after-orig)

      pub value_s_room : text_past_if (stands 8 d.map) d.value_s.len value_s ≤ n
      value_s_room = rw texts_past_lem (past_within d at n room).value_s

      pub decimals_room : {decimals : ℕ} → decimals ≡ text_past_if (stands 8 d.map) d.value_s.len value_s → decimals + bit 9 d.map ≤ n
      unfolding fields_past
      decimals_room e = rw (e, texts_past_lem) room

-- ---- the map
there_only : {A : Type 0} (k : ℕ) (a : A) → k < 2 → there (only (eqb k 1) a) ≡ k
there_only k a h = go (eqb k 1) refl
  where
    go : (b : Bool) → eqb k 1 ≡ b → there (only b a) ≡ k
    go true e = sym (eqb-true k 1 e)
    go false e = let d = eqb-false k 1 e in omega arith

-- a map of bits 0 to 9, bit 0 among them, is the sum of its bits
halves_sum : (m n₁ n₂ n₃ n₄ n₅ n₆ n₇ n₈ n₉ b₀ b₁ b₂ b₃ b₄ b₅ b₆ b₇ b₈ b₉ : ℕ) → m ≡ b₀ + 2 * n₁ → n₁ ≡ b₁ + 2 * n₂ → n₂ ≡ b₂ + 2 * n₃ → n₃ ≡ b₃ + 2 * n₄ → n₄ ≡ b₄ + 2 * n₅
    → n₅ ≡ b₅ + 2 * n₆ → n₆ ≡ b₆ + 2 * n₇ → n₇ ≡ b₇ + 2 * n₈ → n₈ ≡ b₈ + 2 * n₉ → n₉ ≡ b₉ → b₀ ≡ 1
    → 1 + 2 * b₁ + 4 * b₂ + 8 * b₃ + 16 * b₄ + 32 * b₅ + 64 * b₆ + 128 * b₇ + 256 * b₈ + 512 * b₉ ≡ m
halves_sum m n₁ n₂ n₃ n₄ n₅ n₆ n₇ n₈ n₉ b₀ b₁ b₂ b₃ b₄ b₅ b₆ b₇ b₈ b₉ a b c d e f g h i j k = omega arith

bits_sum : (m : ℕ) → bit 0 m ≡ 1 → m < 1024
    → 1 + 2 * bit 1 m + 4 * bit 2 m + 8 * bit 3 m + 16 * bit 4 m + 32 * bit 5 m + 64 * bit 6 m + 128 * bit 7 m + 256 * bit 8 m + 512 * bit 9 m ≡ m
bits_sum m h k =
    halves_sum m (m / 2) (m / 4) (m / 8) (m / 16) (m / 32) (m / 64) (m / 128) (m / 256) (m / 512) (bit 0 m) (bit 1 m) (bit 2 m) (bit 3 m) (bit 4 m) (bit 5 m) (bit 6 m) (bit 7 m) (bit 8 m) (bit 9 m)
    (omega arith) (omega arith) (omega arith) (omega arith) (omega arith) (omega arith) (omega arith) (omega arith) (omega arith) (omega arith) h

pub map_is : (o c v : List ℕ) (d : NumFields) → stands 0 d.map ≡ true → d.map < 1024 → numeric_map (numeric_of o c v d) ≡ d.map
unfolding numeric_map numeric_of
map_is o c v d on l =
    let m = d.map in
    rw (
      there_only (bit 1 m) d.value (omega arith),
      there_only {A = ℕ × ℕ} (bit 2 m) (d.numerator, d.denominator) (omega arith),
      there_only (bit 3 m) d.base (omega arith),
      there_only (bit 4 m) d.base_multiplier (omega arith),
      there_only (bit 5 m) (part_of c d.script) (omega arith),
      flag_is (bit 6 m) (omega arith),
      flag_is (bit 7 m) (omega arith),
      there_only (bit 8 m) (part_of v d.value_s) (omega arith),
      there_only (bit 9 m) d.decimals (omega arith),
    ) (bits_sum m (eqb-true (bit 0 m) 1 on) l)

-- ---- the head
pub put_all_head : {s t u v w x : List ℕ} {at k r : ℕ} (m a z : ℕ) (ty tx : Text) → t ≡ sets s at (bytes_of 2 m) → u ≡ sets t (at + 2) (bytes_of 2 a) → v ≡ sets u (at + 4) (bytes_of 2 z)
    → Put v w (at + 6) k (str ty) → Put w x k r (str tx) → Put s x at r (head_bytes m a z ty tx)
unfolding head_bytes
put_all_head {s} {t} {u} {at = at} m a z ty tx p q e f g =
    put_then (put_number 2 m s at p)
    (put_then (put_number 2 a t (at + 2) q)
    (put_then (from_four (put_number 2 z u (at + 4) e))
    (put_then f g)))
  where
    from_four : {v : List ℕ} → Put u v (at + 4) (at + 4 + 2) (bytes_of 2 z) → Put u v (at + 2 + 2) (at + 6) (bytes_of 2 z)
    from_four h = let i : at + 4 + 2 ≡ at + 6 = omega arith in let j : at + 2 + 2 ≡ at + 4 = omega arith in rw j (rw i at h)

pub length_head : (m a z : ℕ) (ty tx : Text) → length (head_bytes m a z ty tx) ≡ 10 + length ty + length tx
unfolding head_bytes
length_head m a z ty tx =
    let b = length-bytes_of 2 m in
    let c = length-bytes_of 2 a in
    let d = length-bytes_of 2 z in
    let e = length_str ty in
    let f = length_str tx in
    simp length-append (omega arith)

pub regular_bytes : (a z : ℕ) (ty tx : Text) → edge_bytes (regular a z ty tx) ≡ head_bytes 0 a z ty tx
unfolding edge_bytes
regular_bytes a z ty tx = append-nil (head_bytes 0 a z ty tx)

-- ---- the fields' length
length_number : (w k v : ℕ) → k < 2 → length (bytes_if (bytes_of w) (only (eqb k 1) v)) ≡ w * k
length_number w k v h = go (eqb k 1) refl
  where
    go : (b : Bool) → eqb k 1 ≡ b → length (bytes_if (bytes_of w) (only b v)) ≡ w * k
    go true e = length-bytes_of w v ∙ rw (eqb-true k 1 e, mul-one w)
    go false e = let i = eqb-false k 1 e in let z : k ≡ 0 = omega arith in rw (z, mul-zero w)

length_text : (b : Bool) (s : List ℕ) (p : Part) (at : ℕ) → (b ≡ true → p.at.0 + p.len ≤ length s) → at + length (bytes_if str (only b (part_of s p))) ≡ text_past_if b p.len at
length_text true s p at h = let l = length_str (part_of s p) in let k = length_part s p.at.0 p.len (h refl) in omega arith
length_text false s p at h = omega arith

pub length_numbers : (d : NumFields) (at : ℕ) → at + length (numbers_bytes d) ≡ script_at d.map at
unfolding numbers_bytes script_at
length_numbers d at =
    let m = d.map in
    let a = length_number 8 (bit 1 m) d.value (omega arith) in
    let b = length_number 8 (bit 2 m) d.numerator (omega arith) in
    let c = length_number 8 (bit 2 m) d.denominator (omega arith) in
    let e = length_number 8 (bit 3 m) d.base (omega arith) in
    let f = length_number 8 (bit 4 m) d.base_multiplier (omega arith) in
    rw (← fraction_bytes_lem (stands 2 m) d.numerator d.denominator) (simp (length-append, a, b, c, e, f) (omega arith))

module _ (o c v : List ℕ) (d : NumFields) (h : Writable o c v d) where
  pub length_fields : (at : ℕ) → at + length (numeric_bytes (numeric_of o c v d)) ≡ fields_past d at
  unfolding fields_past texts_past
  length_fields at =
      let l = length_str (part_of o d.orig) in
      let k = length_part o d.orig.at.0 d.orig.len h.orig in
      let a = at + 2 + d.orig.len in
      let n = length_numbers d a in
      let x = length_text (stands 5 d.map) c d.script (script_at d.map a) h.script in
      let y = length_text (stands 8 d.map) v d.value_s (text_past_if (stands 5 d.map) d.script.len (script_at d.map a)) h.value_s in
      let z = length_number 1 (bit 9 d.map) d.decimals (omega arith) in
      rw (← fields_bytes_lem o c v d) (simp length-append (omega arith))

  pub numeric_bytes_lem : (a z : ℕ) (ty tx : Text) → edge_bytes (numeric a z ty tx o c v d) ≡ head_bytes d.map a z ty tx ++ numeric_bytes (numeric_of o c v d)
  unfolding edge_bytes
  numeric_bytes_lem a z ty tx = rw (map_is o c v d h.numeric h.map)

-- ---- the answer
module _ (s : List ℕ) (at : ℕ) (bs : List ℕ) where
  pub no_room : length s < at + length bs → (None ≡ written s at bs) × (s ≡ written_to s at bs)
  no_room h = rw (lt-leb (at + length bs) (length s) h) (refl, refl)

  pub put_there : {t : List ℕ} {r : ℕ} → at + length bs ≤ length s → Put s t at r bs → (Some r ≡ written s at bs) × (t ≡ written_to s at bs)
  put_there h p = let e = p.next in rw (le-leb (at + length bs) (length s) h) (ap Some e, p.wrote)

module _ (s : List ℕ) (at a z : ℕ) (ty tx : Text) where
  pub regular_no_room : length s < at + 10 + length ty + length tx → (None ≡ written s at (edge_bytes (regular a z ty tx))) × (s ≡ written_to s at (edge_bytes (regular a z ty tx)))
  regular_no_room h = rw (regular_bytes a z ty tx) (let l = length_head 0 a z ty tx in no_room s at (head_bytes 0 a z ty tx) (omega arith))

  pub regular_there : {t : List ℕ} {r : ℕ} → at + 10 + length ty + length tx ≤ length s → Put s t at r (head_bytes 0 a z ty tx)
      → (Some r ≡ written s at (edge_bytes (regular a z ty tx))) × (t ≡ written_to s at (edge_bytes (regular a z ty tx)))
  regular_there h p = rw (regular_bytes a z ty tx) (let l = length_head 0 a z ty tx in put_there s at (head_bytes 0 a z ty tx) (omega arith) p)

  module _ (o c v : List ℕ) (d : NumFields) (w : Writable o c v d) {past : ℕ} (ends : past ≡ fields_past d (at + 10 + length ty + length tx)) where
    numeric_past : at + length (head_bytes d.map a z ty tx ++ numeric_bytes (numeric_of o c v d)) ≡ past
    numeric_past =
        let l = length_head d.map a z ty tx in
        let k = length_fields o c v d w (at + 10 + length ty + length tx) in
        simp length-append (omega arith)

    pub numeric_no_room : length s < past → (None ≡ written s at (edge_bytes (numeric a z ty tx o c v d))) × (s ≡ written_to s at (edge_bytes (numeric a z ty tx o c v d)))
    numeric_no_room h = rw (numeric_bytes_lem o c v d w a z ty tx) (let l = numeric_past in no_room s at (head_bytes d.map a z ty tx ++ numeric_bytes (numeric_of o c v d)) (omega arith))

    pub numeric_there : {t u : List ℕ} {k r : ℕ} → past ≤ length s → k ≡ at + 10 + length ty + length tx → Put s t at k (head_bytes d.map a z ty tx)
        → Put t u (at + 10 + length ty + length tx) r (numeric_bytes (numeric_of o c v d))
        → (Some r ≡ written s at (edge_bytes (numeric a z ty tx o c v d))) × (u ≡ written_to s at (edge_bytes (numeric a z ty tx o c v d)))
    numeric_there h e p q = rw (numeric_bytes_lem o c v d w a z ty tx) (let l = numeric_past in put_there s at (head_bytes d.map a z ty tx ++ numeric_bytes (numeric_of o c v d)) (omega arith) (put_then (rw e at p) q))
