-- Laws of the call by a comparison (`specs/ByComparison.antt`): comparisons that agree on a line for the texts of a table give one lattice and one answer; by `stands_at` both
-- are those of `numbers`. In order: agreeing; markers; signs; the lattice; the answer; by `stands_at`. Assumes nothing.
use mathlib.Core.Path.{◌≡◌, refl, ap}
use mathlib.Core.List.{List, [], ◌∷◌}
use mathlib.Core.Bool.{false}
use Prim.Native.Nat.{ℕ, zero, suc, ◌-◌}
use lib.ListN.{length}
use Rattle.text.specs.Text.{chars}
use Rattle.table.specs.Table.{Text, Table}
use Rattle.table.specs.Check.{Fine, read_table}
use Rattle.passes.specs.NumEdge.{NumEdge}
use Rattle.passes.specs.Passes.{fifth_list, above_at}
use Rattle.edge.specs.Edge.{Edge}
use Rattle.edge.specs.Layout.{listed}
use Rattle.pass_list.specs.StoredEdge.{Every, nil, cons}
use Rattle.numbers.specs.Fractions.{stands_at, longest, marker_at, outcome_at, outcomes_from, fractions}
use Rattle.numbers.specs.Signs.{signed, signs}
use Rattle.numbers.specs.Call.{Answer, finished, unless_above, after_passes, after_signs, lattice_by, lattice_of, after_checks, add_numbers}
use Rattle.numbers.proofs.ChecksLaws.{answers_related}
use Rattle.folded.specs.ByComparison.{Comparison, longest_by, marker_by, outcomes_by, fractions_by, signed_by, signs_by, after_signs_with, lattice_with, checked_with, answer_with}

-- two comparisons agree on a line for each of the texts ms
abbrev pub Agree : Comparison → Comparison → List ℕ → List Text → Type 0
Agree st su w = Every (λ m. (p : ℕ) → st w p m ≡ su w p m)

pub record AgreeTable (st su : Comparison) (w : List ℕ) (t : Table) : Type 0 where
  pub percentages : Agree st su w t.percentage_markers
  pub connectors : Agree st su w t.fraction_connectors
  pub pluses : Agree st su w t.plus_signs
  pub minuses : Agree st su w t.minus_signs

module _ (st su : Comparison) (w : List ℕ) where
  -- ---- markers
  longest_agree : (p : ℕ) {ms : List Text} → Agree st su w ms → longest_by st w p ms ≡ longest_by su w p ms
  unfolding longest_by
  longest_agree p nil = refl
  longest_agree p (cons {x = m} {l = ms} e h) = rw (e p, longest_agree p h)

  outcomes_agree : (t : Table) → AgreeTable st su w t → (es : List Edge) (p k : ℕ) → outcomes_by st t w es p k ≡ outcomes_by su t w es p k
  unfolding outcomes_by marker_by
  outcomes_agree t a es p zero = refl
  outcomes_agree t a es p (suc k) = rw (longest_agree p a.percentages, longest_agree p a.connectors, outcomes_agree t a es (suc p) k)

  -- ---- signs
  signed_agree : (c : ℕ) (e : NumEdge) {ms : List Text} → Agree st su w ms → signed_by st w c e ms ≡ signed_by su w c e ms
  unfolding signed_by
  signed_agree c e nil = refl
  signed_agree c e (cons {x = m} {l = ms} q h) = rw (q (e.start - length (chars m)), signed_agree c e h)

  signs_agree : (t : Table) → AgreeTable st su w t → (es : List NumEdge) → signs_by st t w es ≡ signs_by su t w es
  unfolding signs_by
  signs_agree t a [] = refl
  signs_agree t a (e ∷ es) = rw (signed_agree 45 e a.minuses, signed_agree 43 e a.pluses, signs_agree t a es)

  -- ---- the lattice
  pub lattice_agree : (t : Table) → AgreeTable st su w t → (given : List Edge) → lattice_with st t w given ≡ lattice_with su t w given
  unfolding lattice_with after_signs_with fractions_by
  lattice_agree t a given = rw (outcomes_agree t a (after_passes t w given) 0 (length w), signs_agree t a (fifth_list t w))

-- ---- the answer: where the comparisons agree on the line for every table that is read
pub answer_agree : (st su : Comparison) (line table given : List ℕ) → ((t : Table) (at : ℕ) → read_table table ≡ Fine t at → AgreeTable st su (chars line) t)
    → (out work : ℕ) → answer_with st line table given work out ≡ answer_with su line table given work out
unfolding checked_with
answer_agree st su line table given agree out work =
    answers_related (λ (a b : Answer). a ≡ b) (λ number at. refl) (checked_with st) (checked_with su) line table given out
    (λ t at n e c. ap (λ (es : List Edge). unless_above (above_at t (chars line)) (finished out es)) (lattice_agree st su (chars line) t (agree t at e) (listed given)))
    work

-- ---- by `stands_at`
longest_now : (w : List ℕ) (p : ℕ) (ms : List Text) → longest_by stands_at w p ms ≡ longest w p ms
unfolding longest_by longest
longest_now w p [] = refl
longest_now w p (m ∷ ms) = rw (longest_now w p ms)

outcomes_now : (t : Table) (w : List ℕ) (es : List Edge) (p k : ℕ) → outcomes_by stands_at t w es p k ≡ outcomes_from t w es p k
unfolding outcomes_by marker_by outcomes_from outcome_at marker_at
outcomes_now t w es p zero = refl
outcomes_now t w es p (suc k) = rw (longest_now w p t.percentage_markers, longest_now w p t.fraction_connectors, outcomes_now t w es (suc p) k)

pub signed_now : (w : List ℕ) (c : ℕ) (e : NumEdge) (ms : List Text) → signed_by stands_at w c e ms ≡ signed w c e ms
unfolding signed_by signed
signed_now w c e [] = refl
signed_now w c e (m ∷ ms) = rw (signed_now w c e ms)

signs_now : (t : Table) (w : List ℕ) (es : List NumEdge) → signs_by stands_at t w es ≡ signs t w es
unfolding signs_by signs
signs_now t w [] = refl
signs_now t w (e ∷ es) = rw (signed_now w 45 e t.minus_signs, signed_now w 43 e t.plus_signs, signs_now t w es)

pub lattice_now : (t : Table) (w : List ℕ) (given : List Edge) → lattice_with stands_at t w given ≡ lattice_of t w given
unfolding lattice_with after_signs_with fractions_by lattice_by after_signs fractions
lattice_now t w given = rw (outcomes_now t w (after_passes t w given) 0 (length w), signs_now t w (fifth_list t w))

pub answer_now : (line table given : List ℕ) (out work : ℕ) → answer_with stands_at line table given work out ≡ add_numbers line table given work out
unfolding checked_with after_checks
answer_now line table given out work =
    answers_related (λ (a b : Answer). a ≡ b) (λ number at. refl) (checked_with stands_at) (after_checks false) line table given out
    (λ t at n e c. ap (λ (es : List Edge). unless_above (above_at t (chars line)) (finished out es)) (lattice_now t (chars line) (listed given)))
    work
