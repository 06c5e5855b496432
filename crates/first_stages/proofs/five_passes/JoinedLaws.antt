-- Laws of a joined stored edge: its texts stand at the front of two buffers. Assumes nothing.
use mathlib.Core.Path.{◌≡◌}
use mathlib.Core.List.{List}
use Prim.Native.Nat.{ℕ, ◌≤◌}
use native.Mathlib.Omega.{arith}
use lib.ListN.{length, take}
use Rattle.text.specs.Text.{chars}
use Rattle.pass_list.specs.declared.record.PassEdge.{PassEdge}
use Rattle.pass_list.specs.StoredEdge.{StoredEdge, EdgeIs}
use Rattle.pass_list.specs.Edges.{txt_of}
use Rattle.pass_edge.specs.Grounded.{StoredIs}
use Rattle.pass_edge.specs.Texts.{type_of, TextsAre, Front}
use Rattle.pass_edge.proofs.TextLaws.{front_take, txt_short, type_short}

module _ (line t : List ℕ) (e : PassEdge) {s u : List ℕ} {n : ℕ} (ty : (x : StoredEdge) → EdgeIs e x → Front s u n (type_of t x)) (k : length s ≡ 60)
    {p q : List ℕ} {m : ℕ} (tx : (x : StoredEdge) → EdgeIs e x → Front p q m (txt_of (chars line) t x)) (l : length p ≡ 256) (few : length (chars line) ≤ 256) (x : StoredEdge) (h : StoredIs line t e x) where
  type_fits : length (type_of t x) ≤ 60
  type_fits = type_short (chars line) t x h.sound

  txt_fits : length (txt_of (chars line) t x) ≤ 256
  txt_fits = txt_short (chars line) t x h.sound few

  pub joined_fits : (n ≤ 60) × (m ≤ 256)
  joined_fits = (omega (arith, (ty x h.is).long, type_fits), omega (arith, (tx x h.is).long, txt_fits))

  pub joined_texts : TextsAre line t e (take n u) (take m q) x
  joined_texts = record { stored_edge = h; type = front_take (ty x h.is) (omega (arith, type_fits)); txt = front_take (tx x h.is) (omega (arith, txt_fits)) }
