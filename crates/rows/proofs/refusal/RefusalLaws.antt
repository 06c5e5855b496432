-- Laws of the row of a refusal (`specs/Printed.antt`): the room for its columns, and the row that they make. No contract cites this file. Assumes nothing.
use mathlib.Core.List.{List, [], ◌∷◌}
use Prim.Native.Nat.{ℕ, ◌+◌, ◌^◌, ◌≤◌, ◌<◌}
use native.Mathlib.Omega.{arith}
use lib.ListN.{length, length-append}
use Rattle.whole.specs.Decimal.{decimal}
use Rattle.whole.proofs.DecimalLaws.{length_decimal_u64}
use Rattle.edge.specs.Write.{Put}
use Rattle.edge.proofs.WriteLaws.{put_then}
use Rattle.numbers.specs.Call.{refused}
use Rattle.rows.specs.Columns.{ended}
use Rattle.rows.specs.Printed.{refused_bytes, TextIs}
use Rattle.rows.proofs.PrintedLaws.{text_is}

abbrev word : List ℕ
word = 114 ∷ 101 ∷ 102 ∷ 117 ∷ 115 ∷ 101 ∷ 100 ∷ []

module _ {s t : List ℕ} {n p h : ℕ} (n-small : n < 2 ^ 64) (p-small : p < 2 ^ 64) (first : Put s t 0 h (ended word 32)) where
  pub number_room : {room : ℕ} → 50 ≤ room → h + length (decimal n) + 1 ≤ room
  number_room r = let e = first.next in omega (arith, length_decimal_u64 n n-small)

  module _ {u : List ℕ} {i : ℕ} (second : Put t u h i (ended (decimal n) 32)) where
    pub place_room : {room : ℕ} → 50 ≤ room → i + length (decimal p) + 1 ≤ room
    place_room r =
        let e = first.next in
        let f = second.next in
        let l = length-append (decimal n) (32 ∷ []) in
        omega (arith, length_decimal_u64 n n-small, length_decimal_u64 p p-small)

    length_refused : length (refused_bytes n p) ≤ 50
    unfolding refused_bytes
    length_refused = simp length-append (omega (arith, length_decimal_u64 n n-small, length_decimal_u64 p p-small))

    pub refused_there : {v : List ℕ} {r : ℕ} → 50 ≤ length s → Put u v i r (ended (decimal p) 10) → TextIs s v r (refused n p)
    unfolding refused_bytes
    refused_there h q = text_is (refused n p) (put_then first (put_then second q)) (omega (arith, length_refused))
