-- The room that is left as the fields of an edge are written one behind the other, in plain numbers. For this crate's proofs. No contract cites this file.
-- In order: room in a list that kept its length; the numbers; what is put where a bit stands. Assumes nothing.
use mathlib.Core.Path.{◌≡◌, ◌∙◌}
use mathlib.Core.Bool.{Bool, true, false}
use lib.Dec.{eqb}
use mathlib.Core.List.{List}
use Prim.Native.Nat.{ℕ, ◌+◌, ◌*◌, ◌/◌, ◌%◌, ◌≤◌, ◌<◌}
use native.Mathlib.Omega.{arith}
use lib.Seq.{sets}
use Rattle.fields.specs.Fields.{bytes_of}
use Rattle.fields.specs.Flag.{bytes_if}
use Rattle.edge.proofs.LayoutLaws.{either}
use Rattle.edge.proofs.WriteLaws.{put_number_on, put_number_off, put_text_on, put_text_off}
use Rattle.edge.specs.Edge.{str}
use Rattle.edge.specs.Write.{Put, text_past_if}
use Rattle.edge.specs.Layout.{only, script_at}

-- ---- room in a list that kept its length
pub kept_room : {a n k : ℕ} → a ≤ n → k ≡ n → a ≤ k
kept_room h e = omega arith

pub past_room : {p q n k : ℕ} → p ≡ q → p ≤ n → k ≡ n → q ≤ k
past_room e h l = omega arith

-- ---- the numbers of an edge with the map m
module _ (m at n : ℕ) (room : script_at m at ≤ n) where
  pub value_room : (0 < 2) × (at + 8 * (m / 2 % 2) ≤ n)
  unfolding script_at
  value_room = (omega arith, omega arith)

  module _ {a : ℕ} (behind : a ≡ at + 8 * (m / 2 % 2)) {i : ℕ} (kept : i ≡ n) where
    pub numerator_room : (0 < 4) × (a + 8 * (m / 4 % 2) ≤ i)
    unfolding script_at
    numerator_room = (omega arith, omega arith)

    module _ {b : ℕ} (behind-2 : b ≡ a + 8 * (m / 4 % 2)) {j : ℕ} (kept-2 : j ≡ i) where
      pub denominator_room : (0 < 4) × (b + 8 * (m / 4 % 2) ≤ j)
      unfolding script_at
      denominator_room = (omega arith, omega arith)

      module _ {d : ℕ} (behind-3 : d ≡ b + 8 * (m / 4 % 2)) {k : ℕ} (kept-3 : k ≡ j) where
        pub base_room : (0 < 8) × (d + 8 * (m / 8 % 2) ≤ k)
        unfolding script_at
        base_room = (omega arith, omega arith)

        module _ {e : ℕ} (behind-4 : e ≡ d + 8 * (m / 8 % 2)) {l : ℕ} (kept-4 : l ≡ k) where
          pub mult_room : (0 < 16) × (e + 8 * (m / 16 % 2) ≤ l)
          unfolding script_at
          mult_room = (omega arith, omega arith)

          pub numbers_end : {r : ℕ} → r ≡ e + 8 * (m / 16 % 2) → r ≡ script_at m at
          unfolding script_at
          numbers_end h = omega arith

-- ---- what is put where a bit stands
pub number_told : (w k v : ℕ) (s t : List ℕ) (at r : ℕ) → k < 2 → (eqb k 1 ≡ true → (r ≡ at + w) × (t ≡ sets s at (bytes_of w v))) → (eqb k 1 ≡ false → (r ≡ at) × (t ≡ s))
    → (r ≡ at + w * k) × Put s t at r (bytes_if (bytes_of w) (only (eqb k 1) v))
number_told w k v s t at r l there absent =
    either (eqb k 1)
    (λ on. let h = there on in let p = put_number_on w k v s at on h.1 in (h.0 ∙ p.0, rw h.0 p.1))
    (λ off. let h = absent off in let p = put_number_off w k v s at l off in (h.0 ∙ p.0, rw (h.0, h.1) p.1))

pub text_told : (on : Bool) (x : List ℕ) (n : ℕ) (s t : List ℕ) (at r : ℕ) → (on ≡ true → (r ≡ at + 2 + n) × Put s t at r (str x)) → (on ≡ false → (r ≡ at) × (t ≡ s))
    → (r ≡ text_past_if on n at) × Put s t at r (bytes_if str (only on x))
text_told on x n s t at r there absent =
    either on (λ e. put_text_on on s x n at e (there e)) (λ off. let h = absent off in rw (h.0, h.1) (put_text_off on s x n at off))
