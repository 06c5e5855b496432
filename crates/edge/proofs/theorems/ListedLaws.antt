-- What is read is what was listed: the bytes of an accepted listing are those of its edges.
-- In order: fields in a row; numbers and strings; a field that may be absent; the fields of a numeric edge; an edge; a listing.
use mathlib.Core.Path.{◌≡◌, refl, sym, ap, ◌∙◌}
use mathlib.Core.Bool.{Bool, true, false, cond, ◌&&◌, true≢false}
use mathlib.Core.List.{List, [], ◌∷◌, ◌++◌}
use Prim.Native.Nat.{ℕ, zero, suc, ◌+◌, ◌*◌, ◌/◌, ◌%◌, ◌≤◌, ◌<◌}
use native.Mathlib.Nat.{add-zero}
use native.Mathlib.Omega.{arith}
use native.Mathlib.Decide.{dec_lt}
use lib.ListN.{length, get_or, get_or-eq_default}
use lib.Dec.{eqb, leb, ltb}
use borrow.Author.Tests.{eqb-true, eqb-false, leb-true, ltb-true, ltb-false}
use Rattle.fields.specs.Fields.{le, le_at, bytes_of}
use Rattle.fields.specs.Part.{part}
use Rattle.fields.proofs.PartLaws.{length_part, part_at, part_add, part_all}
use Rattle.fields.specs.Flag.{bytes_if}
use Rattle.edge.specs.Edge.{numeric_map, map_of, str, fraction_bytes, numeric_bytes, head_bytes, edge_bytes, edges_bytes, listing_bytes}
use Rattle.edge.specs.Layout.{bit, stands, only, map_at, text_at, string_end, string_end_if, txt_at, head_end, fraction_at, base_at, mult_at, script_at, value_sAt, decimals_at, fields_end, next_at, numeric_at, edge_at, edges_at, listed}
use Rattle.edge.specs.Check.{allowed, good, check_edges, check_listing}
use Rattle.edge.specs.View.{fields_at}
use Rattle.edge.proofs.LayoutLaws.{within, string_end_ge}
use Rattle.edge.proofs.CheckLaws.{fields_say, head_within, fields_within, good_whole}
use Rattle.edge.proofs.WriteLaws.{map_is}
use Rattle.std.specs.Prelude.{Ok, Err, Result}
use Rattle.text.specs.declared.Offset.{Offset}

-- ---- fields in a row: the bytes of s from a to b are bs
pub record Run (s : List ℕ) (a b : ℕ) (bs : List ℕ) : Type 0 where
  pub width : ℕ
  pub ends : b ≡ a + width
  pub bytes : bs ≡ part s a width

run_then : {s : List ℕ} {a b c : ℕ} {x y : List ℕ} → Run s a b x → Run s b c y → Run s a c (x ++ y)
run_then {s} {a} {b} {c} {x} {y} p q =
    let e = p.ends in
    let f = q.ends in
    record { width = p.width + q.width; ends = omega arith; bytes = rw (p.bytes, q.bytes, e) (sym (part_add s a p.width q.width)) }

no_run : (s : List ℕ) (a : ℕ) → Run s a a []
unfolding part
no_run s a = record { width = 0; ends = omega arith; bytes = refl }

-- ---- numbers and strings
bytes_of_le : (bs : List ℕ) → ((i : ℕ) → get_or bs i 0 < 256) → bytes_of (length bs) (le bs) ≡ bs
unfolding le bytes_of
bytes_of_le [] h = refl
bytes_of_le (b ∷ bs) h =
    let k : b < 256 = h 0 in
    let q : (b + 256 * le bs) % 256 ≡ b = omega arith in
    let r : (b + 256 * le bs) / 256 ≡ le bs = omega arith in
    rw (q, r) (ap (λ (l : List ℕ). b ∷ l) (bytes_of_le bs (λ i. h (suc i))))

module _ (s : List ℕ) (small : (i : ℕ) → get_or s i 0 < 256) where
  part_small : (at w : ℕ) → at + w ≤ length s → (i : ℕ) → get_or (part s at w) i 0 < 256
  part_small at w h i = go (dec_lt i w)
    where
      go : Dec (i < w) → get_or (part s at w) i 0 < 256
      go (yes l) = rw (part_at s at w i l) (small (at + i))
      go (no l) = let k = length_part s at w h in rw (get_or-eq_default (part s at w) 0 {n = i} (omega arith)) (omega arith)

  number_run : (at w : ℕ) → at + w ≤ length s → Run s at (at + w) (bytes_of w (le_at s at w))
  unfolding le_at
  number_run at w h = record { width = w; ends = refl; bytes = rw (length_part s at w h) at (bytes_of_le (part s at w) (part_small at w h)) }

  text_run : (at : ℕ) → string_end s at ≤ length s → Run s at (string_end s at) (str (text_at s at))
  unfolding string_end str text_at
  text_run at h =
      rw (length_part s (at + 2) (le_at s at 2) h) (run_then (number_run at 2 (omega arith)) (record { width = le_at s at 2; ends = refl; bytes = refl }))

  -- ---- a field that may be absent, whose bit is k
  number_field_run : (w k v to : ℕ) → k < 2 → (k ≡ 0 → to ≡ v) → (k ≡ 1 → to ≡ v + w) → (eqb k 1 ≡ true → v + w ≤ length s)
      → Run s v to (bytes_if (bytes_of w) (only (eqb k 1) (le_at s v w)))
  number_field_run w k v to l off on h = go (eqb k 1) refl
    where
      go : (b : Bool) → eqb k 1 ≡ b → Run s v to (bytes_if (bytes_of w) (only b (le_at s v w)))
      go true e = rw (on (eqb-true k 1 e)) (number_run v w (h e))
      go false e = let z : k ≡ 0 = (let d = eqb-false k 1 e in omega arith) in rw (off z) (no_run s v)

  fraction_field_run : (k v : ℕ) → k < 2 → (eqb k 1 ≡ true → v + 16 ≤ length s)
      → Run s v (v + 16 * k) (bytes_if fraction_bytes (only (eqb k 1) (le_at s v 8, le_at s (v + 8) 8)))
  fraction_field_run k v l h = go (eqb k 1) refl
    where
      two : v + 16 ≤ length s → Run s v (v + 8 + 8) (bytes_of 8 (le_at s v 8) ++ bytes_of 8 (le_at s (v + 8) 8))
      two i = run_then (number_run v 8 (omega arith)) (number_run (v + 8) 8 (omega arith))

      go : (b : Bool) → eqb k 1 ≡ b → Run s v (v + 16 * k) (bytes_if fraction_bytes (only b (le_at s v 8, le_at s (v + 8) 8)))
      go true e = let j : v + 8 + 8 ≡ v + 16 = omega arith in rw (eqb-true k 1 e) (rw j at (two (h e)))
      go false e = let z : k ≡ 0 = (let d = eqb-false k 1 e in omega arith) in rw (z, add-zero v) (no_run s v)

  text_field_run : (b : Bool) (v : ℕ) → (b ≡ true → string_end s v ≤ length s) → Run s v (string_end_if b s v) (bytes_if str (only b (text_at s v)))
  text_field_run true v h = text_run v (h refl)
  text_field_run false v h = no_run s v

  -- ---- the fields of a numeric edge
  fields_run : (m at : ℕ) → fields_end m s at ≤ length s → Run s at (fields_end m s at) (numeric_bytes (numeric_at m s at))
  unfolding numeric_bytes numeric_at fields_end decimals_at value_sAt script_at
  fields_run m at h =
      let w = within m s at (length s) h in
      let v = string_end s at in
      run_then (text_run at w.value_at)
      (run_then (number_field_run 8 (bit 1 m) v (fraction_at m v) (omega arith) (λ z. omega arith) (λ o. omega arith) w.value)
      (run_then (fraction_field_run (bit 2 m) (fraction_at m v) (omega arith) w.fraction)
      (run_then (number_field_run 8 (bit 3 m) (base_at m v) (mult_at m v) (omega arith) (λ z. omega arith) (λ o. omega arith) w.base)
      (run_then (number_field_run 8 (bit 4 m) (mult_at m v) (script_at m v) (omega arith) (λ z. omega arith) (λ o. omega arith) w.mult)
      (run_then (text_field_run (stands 5 m) (script_at m v) w.script)
      (run_then (text_field_run (stands 8 m) (value_sAt m s v) w.value_s)
      (number_field_run 1 (bit 9 m) (decimals_at m s v) (decimals_at m s v + bit 9 m) (omega arith) (λ z. omega arith) (λ o. omega arith) w.decimals)))))))

  -- ---- an edge
  head_run : (at : ℕ) → head_end s at ≤ length s → Run s at (head_end s at) (head_bytes (map_at s at) (le_at s (at + 2) 2) (le_at s (at + 4) 2) (text_at s (at + 6)) (text_at s (txt_at s at)))
  unfolding head_bytes
  head_run at h =
      let i = string_end_ge s (at + 6) in
      let j = string_end_ge s (txt_at s at) in
      let e : at + 2 + 2 ≡ at + 4 = omega arith in
      let f : at + 4 + 2 ≡ at + 6 = omega arith in
      run_then (number_run at 2 (omega arith))
      (run_then (rw e at (number_run (at + 2) 2 (omega arith)))
      (run_then (rw f at (number_run (at + 4) 2 (omega arith)))
      (run_then (text_run (at + 6) (omega arith))
      (text_run (txt_at s at) h))))

  numeric_map_lem : (m at : ℕ) → stands 0 m ≡ true → m < 1024 → numeric_map (numeric_at m s at) ≡ m
  unfolding fields_at
  numeric_map_lem m at on l = ap numeric_map (sym (fields_say m s at)) ∙ map_is s s s (fields_at m s at) on l

  -- the map of an edge that is read is the map that stands there
  pub edge_map : (at : ℕ) → allowed false (map_at s at) ≡ true → map_of (edge_at s at).num ≡ map_at s at
  unfolding edge_at allowed
  edge_map at t = go (stands 0 (map_at s at)) refl t
    where
      go : (b : Bool) → stands 0 (map_at s at) ≡ b → cond b (ltb (map_at s at) 1024) (eqb (map_at s at) 0) ≡ true → map_of (only b (numeric_at (map_at s at) s (head_end s at))) ≡ map_at s at
      go true e t = numeric_map_lem (map_at s at) (head_end s at) e (ltb-true (map_at s at) 1024 t)
      go false e t = sym (eqb-true (map_at s at) 0 t)

  pub edge_run : (given : Bool) (at : ℕ) → next_at s at ≤ length s → allowed given (map_at s at) ≡ true → Run s at (next_at s at) (edge_bytes (edge_at s at))
  unfolding edge_bytes edge_at next_at allowed
  edge_run given at h t = go (stands 0 (map_at s at)) refl given t
    where
      head : Run s at (head_end s at) (head_bytes (map_at s at) (le_at s (at + 2) 2) (le_at s (at + 4) 2) (text_at s (at + 6)) (text_at s (txt_at s at)))
      head = head_run at (head_within s at (length s) h)

      go : (b : Bool) → stands 0 (map_at s at) ≡ b → (given : Bool) → cond given (eqb (map_at s at) 0) (cond b (ltb (map_at s at) 1024) (eqb (map_at s at) 0)) ≡ true
          → Run s at (cond b (fields_end (map_at s at) s (head_end s at)) (head_end s at))
          (head_bytes (map_of (only b (numeric_at (map_at s at) s (head_end s at)))) (le_at s (at + 2) 2) (le_at s (at + 4) 2) (text_at s (at + 6)) (text_at s (txt_at s at)) ++ bytes_if numeric_bytes (only b (numeric_at (map_at s at) s (head_end s at))))
      go true e true t = let z = eqb-true (map_at s at) 0 t in let o = eqb-true (bit 0 (map_at s at)) 1 e in absurd (omega arith)
      go true e false t =
          rw (numeric_map_lem (map_at s at) (head_end s at) e (ltb-true (map_at s at) 1024 t)) (run_then head (fields_run (map_at s at) (head_end s at) (fields_within s at (length s) h e)))
      go false e true t = rw (sym (eqb-true (map_at s at) 0 t)) (run_then head (no_run s (head_end s at)))
      go false e false t = rw (sym (eqb-true (map_at s at) 0 t)) (run_then head (no_run s (head_end s at)))

-- ---- a listing
length_edges_at : (k : ℕ) (s : List ℕ) (at : ℕ) → length (edges_at k s at) ≡ k
unfolding edges_at
length_edges_at zero s at = refl
length_edges_at (suc k) s at = ap suc (length_edges_at k s (next_at s at))

and_left : (a b : Bool) → (a && b) ≡ true → a ≡ true
and_left true b t = refl
and_left false b t = t

and_right : (a b : Bool) → (a && b) ≡ true → b ≡ true
and_right true b t = t
and_right false b t = absurd (true≢false (sym t))

pub good_allowed : (given : Bool) (n : ℕ) (s : List ℕ) (at : ℕ) → good given n s at ≡ true → allowed given (map_at s at) ≡ true
unfolding good
good_allowed given n s at t =
    and_left (allowed given (map_at s at)) _ (and_right (leb (next_at s at) (length s)) _ t)

module _ (given : Bool) (n : ℕ) (s : List ℕ) (small : (i : ℕ) → get_or s i 0 < 256) (c : ℕ) where
  edges_run : (k at : ℕ) → at ≤ length s → check_edges given n s k at ≡ Ok c → Run s at (length s) (edges_bytes (edges_at k s at))
  unfolding check_edges edges_at edges_bytes
  edges_run zero at h t = go (ltb at (length s)) refl t
    where
      go : (b : Bool) → ltb at (length s) ≡ b → cond {A = Result ℕ Offset} b (Err (record { 0 = at })) (Ok (le_at s 0 2)) ≡ Ok c → Run s at (length s) []
      go true e t = let z : ◌≡◌ {A = ℕ} 0 1 = cc in absurd (omega arith)
      go false e t = let l = ltb-false at (length s) e in let f : at ≡ length s = omega arith in rw (← f) (no_run s at)
  edges_run (suc k) at h t = go (good given n s at) refl (λ whole more. edges_run k (next_at s at) whole more) t
    where
      go : (b : Bool) → good given n s at ≡ b
          → (next_at s at ≤ length s → check_edges given n s k (next_at s at) ≡ Ok c → Run s (next_at s at) (length s) (edges_bytes (edges_at k s (next_at s at))))
          → cond b (check_edges given n s k (next_at s at)) (Err (record { 0 = at })) ≡ Ok c
          → Run s at (length s) (edge_bytes (edge_at s at) ++ edges_bytes (edges_at k s (next_at s at)))
      go true e later t =
          let whole = good_whole given n s at e in
          run_then (edge_run s small given at whole (good_allowed given n s at e)) (later whole t)
      go false e later t = let z : ◌≡◌ {A = ℕ} 0 1 = cc in absurd (omega arith)

-- an accepted listing is the bytes of its edges
pub accepted_listed : (given : Bool) (n : ℕ) (s : List ℕ) → ((i : ℕ) → get_or s i 0 < 256) → (c : ℕ) → check_listing given n s ≡ Ok c → listing_bytes (listed s) ≡ s
unfolding check_listing listing_bytes
accepted_listed given n s small c t = go (leb 2 (length s)) refl t
  where
    go : (b : Bool) → leb 2 (length s) ≡ b → cond b (check_edges given n s (le_at s 0 2) 2) (Err (record { 0 = 0 })) ≡ Ok c → listing_bytes (listed s) ≡ s
    go true e t =
        let h = leb-true 2 (length s) e in
        let r = run_then (number_run s small 0 2 h) (edges_run given n s small c (le_at s 0 2) 2 h t) in
        let l = r.ends in
        let f : r.width ≡ length s = omega arith in
        rw (length_edges_at (le_at s 0 2) s 2) (r.bytes ∙ ap (part s 0) f ∙ part_all s)
    go false e t = let z : ◌≡◌ {A = ℕ} 0 1 = cc in absurd (omega arith)
