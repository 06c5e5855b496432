-- The loop that decides all places: the choices before p are stored. No contract cites this file.
-- In order: the invariant; a turn; the end. Assumes nothing.
use mathlib.Core.Path.{◌≡◌, sym, ◌∙◌, subst}
use mathlib.Core.List.{List}
use Prim.Native.Nat.{ℕ, ◌+◌, ◌≤◌, ◌<◌}
use native.Mathlib.Decide.{dec_lt}
use native.Mathlib.Omega.{arith}
use lib.ListN.{length, set, length-set}
use lib.Seq.{get_or-set_same, get_or-set_other}
use Rattle.std.specs.Prelude.{Option, None}
use Rattle.table.specs.Table.{Table}
use Rattle.edge.specs.Edge.{Edge}
use Rattle.numbers.specs.Fractions.{outcome_at}
use Rattle.fraction_choices.specs.declared.decision.Choice.{Choice}
use Rattle.fraction_choices.specs.Choice.{outcome_of, Valid}
use Rattle.fraction_choices.specs.Choices.{choice_at, Decided}

-- P: what the lattice and the tables of neighbours are
pub record Chosen (t : Table) (w : List ℕ) (P : List Edge → Type 0) (n : ℕ) (cs : List (Option Choice)) (p : ℕ) : Type 0 where
  pub most : p ≤ n
  pub long : length cs ≡ 256
  pub decided : (es : List Edge) → P es → Decided t w es cs p

pub chosen_start : (t : Table) (w : List ℕ) (P : List Edge → Type 0) (n : ℕ) (cs : List (Option Choice)) → length cs ≡ 256 → Chosen t w P n cs 0
chosen_start t w P n cs f = record { most = omega arith; long = f; decided = λ es a q h. absurd (omega arith) }

module _ {t : Table} {w : List ℕ} {P : List Edge → Type 0} {n : ℕ} {cs : List (Option Choice)} {p : ℕ} (k : Chosen t w P n cs p) where
  module _ (h : p < n) (few : n ≤ 256) (c : Option Choice) (ok : (es : List Edge) → P es → (outcome_of es p c ≡ outcome_at t w es p) × Valid es c) where
    told : (es : List Edge) → P es → Decided t w es (set cs p c) (p + 1)
    told es a q x = go (dec_lt q p)
      where
        go : Dec (q < p) → (outcome_of es q (choice_at (set cs p c) q) ≡ outcome_at t w es q) × Valid es (choice_at (set cs p c) q)
        go (yes y) = subst (λ (d : Option Choice). (outcome_of es q d ≡ outcome_at t w es q) × Valid es d) (sym (get_or-set_other cs p q c None (λ e. omega arith))) (k.decided es a q y)
        go (no y) =
            let l = k.long in
            let e : p ≡ q = omega arith in
            subst (λ (z : ℕ). (outcome_of es z (choice_at (set cs p c) z) ≡ outcome_at t w es z) × Valid es (choice_at (set cs p c) z)) e
            (subst (λ (d : Option Choice). (outcome_of es p d ≡ outcome_at t w es p) × Valid es d) (sym (get_or-set_same cs p c None (omega arith))) (ok es a))

    pub chosen_more : Chosen t w P n (set cs p c) (p + 1)
    chosen_more = record { most = omega arith; long = length-set cs p c ∙ k.long; decided = told }

  pub chosen_ends : n ≤ p → (es : List Edge) → P es → Decided t w es cs n
  chosen_ends h es a q x = let m = k.most in k.decided es a q (omega arith)
