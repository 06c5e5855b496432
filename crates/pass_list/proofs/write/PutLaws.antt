-- Laws of a record that is written field by field (`pass_list`, specs/Stored.antt), for this crate's proofs. No contract cites this file. Assumes nothing.
use mathlib.Core.Path.{◌≡◌, refl, ◌∙◌}
use mathlib.Core.List.{List, ◌++◌}
use Prim.Native.Nat.{ℕ, ◌+◌}
use native.Mathlib.Omega.{arith}
use lib.Seq.{sets}
use Rattle.fields.specs.Fields.{bytes_of}
use Rattle.fields.proofs.FieldsLaws.{length-bytes_of}
use Rattle.whole.proofs.SetsLaws.{sets_then}
use Rattle.pass_list.specs.StoredEdge.{StoredEdge, num_data}
use Rattle.pass_list.specs.Stored.{map_of, num_bytes, record_bytes}
use Rattle.pass_list.specs.Layout.{end_at, kind_at, map_at, value_at, base_at, mult_at, record_at, script_at, script_len_at}
use Rattle.pass_list.specs.Kind.{kind_number}

-- a field, and behind it the rest
put_field : (s : List ℕ) {t u : List ℕ} (at next w n : ℕ) (rest : List ℕ) → next ≡ at + w → t ≡ sets s at (bytes_of w n) → u ≡ sets t next rest → u ≡ sets s at (bytes_of w n ++ rest)
put_field s at next w n rest e p q = sets_then s at next (bytes_of w n) rest p (e ∙ rw (length-bytes_of w n)) q

module _ (s : List ℕ) {t u v w : List ℕ} (at : ℕ) where
  pub put_head : (z : List ℕ) (x : StoredEdge) → t ≡ sets s at (bytes_of 2 x.start) → u ≡ sets t (at + end_at) (bytes_of 2 x.end) → v ≡ sets u (at + kind_at) (bytes_of 2 (kind_number x.kind))
      → w ≡ sets v (at + map_at) (bytes_of 2 (map_of (num_data x))) → z ≡ sets w (at + value_at) (num_bytes x) → z ≡ sets s at (record_bytes x)
  unfolding record_bytes
  put_head z x a b c d e =
      put_field s at (at + end_at) 2 x.start _ refl a
      (put_field t (at + end_at) (at + kind_at) 2 x.end _ (omega arith) b
      (put_field u (at + kind_at) (at + map_at) 2 (kind_number x.kind) _ (omega arith) c
      (put_field v (at + map_at) (at + value_at) 2 (map_of (num_data x)) _ (omega arith) d e)))

  pub put_numbers : {y : List ℕ} (z : List ℕ) (x : StoredEdge) → t ≡ sets s (at + value_at) (bytes_of 8 x.value) → u ≡ sets t (at + base_at) (bytes_of 8 x.base)
      → v ≡ sets u (at + mult_at) (bytes_of 8 x.mult) → w ≡ sets v (at + record_at) (bytes_of 8 x.record_offset) → y ≡ sets w (at + script_at) (bytes_of 8 x.script_offset)
      → z ≡ sets y (at + script_len_at) (bytes_of 8 x.script_len) → z ≡ sets s (at + value_at) (num_bytes x)
  unfolding num_bytes
  put_numbers z x a b c d e f =
      put_field s (at + value_at) (at + base_at) 8 x.value _ (omega arith) a
      (put_field t (at + base_at) (at + mult_at) 8 x.base _ (omega arith) b
      (put_field u (at + mult_at) (at + record_at) 8 x.mult _ (omega arith) c
      (put_field v (at + record_at) (at + script_at) 8 x.record_offset _ (omega arith) d
      (put_field w (at + script_at) (at + script_len_at) 8 x.script_offset _ (omega arith) e f))))
