-- The stores of one edge more, one after the other. No contract cites this file. Assumes nothing.
use mathlib.Core.Path.{◌≡◌}
use mathlib.Core.List.{List}
use Prim.Native.Nat.{ℕ, ◌+◌, ◌*◌}
use lib.Seq.{sets}
use Rattle.fields.specs.Fields.{bytes_of}
use Rattle.lattice.specs.Kept.{OFFSETS, NEXTS, HEADS, cell, linked}

-- the edge's offset, the last earlier edge of its bucket, the bucket's last edge, the count
pub linked_by : (w : List ℕ) {t u v x : List ℕ} {head : ℕ} (n len b : ℕ) → head ≡ cell w HEADS b → t ≡ sets w (OFFSETS + 2 * n) (bytes_of 2 len) → u ≡ sets t (NEXTS + 2 * n) (bytes_of 2 head)
    → v ≡ sets u (HEADS + 2 * b) (bytes_of 2 (n + 1)) → x ≡ sets v 0 (bytes_of 2 (n + 1)) → x ≡ linked w n len b
linked_by w n len b h p q r s = rw (s, r, q, p, h)
