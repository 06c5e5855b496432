-- What S-3 of 02 asks to be shown, with the definitions of `numbers` (Folded, Fractions, Signs, Call) and specs/ByComparison.antt alone.
--     idempotent       folding is idempotent
--     either_side      lines that count as one, and markers or signs that do, are compared alike
--     narrow_stands    without wide characters the comparison is the old one
--     narrow_lattice   so is the finished lattice,
--     narrow_answer    and the answer of the whole call, refusals too
--     one_edge         a sign listed in both widths gives one edge
-- Assumes nothing.
use mathlib.Core.Path.{◌≡◌, refl, sym, ◌∙◌}
use mathlib.Core.Bool.{false}
use mathlib.Core.List.{List, ◌∷◌, ◌++◌}
use Prim.Native.Nat.{ℕ}
use Rattle.text.specs.Text.{chars}
use Rattle.table.specs.Table.{Text, Table}
use Rattle.table.specs.Check.{Fine, read_table}
use Rattle.passes.specs.NumEdge.{NumEdge}
use Rattle.edge.specs.Edge.{Edge}
use Rattle.lattice.specs.Lattice.{add_all}
use Rattle.pass_list.specs.StoredEdge.{Every, nil, cons}
use Rattle.numbers.specs.Folded.{is_wide, folded}
use Rattle.numbers.specs.Fractions.{stands_at}
use Rattle.numbers.specs.Signs.{signed}
use Rattle.numbers.specs.Call.{lattice_of, add_numbers}
use Rattle.numbers.proofs.FoldLaws.{fold_narrow, folded_folded}
use Rattle.folded.specs.ByComparison.{stands_exactly, lattice_with, answer_with}
use Rattle.folded.proofs.ComparisonLaws.{Agree, AgreeTable, lattice_agree, lattice_now, answer_agree, answer_now}
use Rattle.folded.proofs.OneEdgeLaws.{same_size, added_once}

-- "U+FF01 to U+FF5E count as U+0021 to U+007E": and those as themselves
pub idempotent : (w : List ℕ) → folded (folded w) ≡ folded w
idempotent = folded_folded

-- "on either side"
pub either_side : (v w : List ℕ) (p : ℕ) (m n : Text) → folded v ≡ folded w → folded (chars m) ≡ folded (chars n) → stands_at v p m ≡ stands_at w p n
unfolding stands_at
either_side v w p m n d e = rw (same_size m n e, d, e)

-- a line, or the characters of a marker or sign, "that hold none of these wide characters"
abbrev pub Narrow : List ℕ → Type 0
Narrow = Every (λ c. is_wide c ≡ false)

abbrev pub NarrowTexts : List Text → Type 0
NarrowTexts = Every (λ m. Narrow (chars m))

-- a table whose markers and signs hold none; its records may
pub record NarrowTable (t : Table) : Type 0 where
  pub percentages : NarrowTexts t.percentage_markers
  pub connectors : NarrowTexts t.fraction_connectors
  pub pluses : NarrowTexts t.plus_signs
  pub minuses : NarrowTexts t.minus_signs

folded_narrow : {w : List ℕ} → Narrow w → folded w ≡ w
folded_narrow nil = refl
folded_narrow (cons {x = c} {l = w} e h) = rw (fold_narrow c e, folded_narrow h)

pub narrow_stands : (w : List ℕ) (p : ℕ) (m : Text) → Narrow w → Narrow (chars m) → stands_at w p m ≡ stands_exactly w p m
unfolding stands_at stands_exactly
narrow_stands w p m h k = rw (folded_narrow h, folded_narrow k)

agree_texts : (w : List ℕ) → Narrow w → {ms : List Text} → NarrowTexts ms → Agree stands_at stands_exactly w ms
agree_texts w h nil = nil
agree_texts w h (cons {x = m} k r) = cons (λ p. narrow_stands w p m h k) (agree_texts w h r)

agree_table : (w : List ℕ) (t : Table) → Narrow w → NarrowTable t → AgreeTable stands_at stands_exactly w t
agree_table w t h n =
    record { percentages = agree_texts w h n.percentages; connectors = agree_texts w h n.connectors; pluses = agree_texts w h n.pluses; minuses = agree_texts w h n.minuses }

-- "The Rust remains the comparison for lines and tables that hold none of these wide characters": there the call is what it was
pub narrow_lattice : (t : Table) (w : List ℕ) → Narrow w → NarrowTable t → (given : List Edge) → lattice_of t w given ≡ lattice_with stands_exactly t w given
narrow_lattice t w h n given = sym (lattice_now t w given) ∙ lattice_agree stands_at stands_exactly w t (agree_table w t h n) given

pub narrow_answer : (line table given : List ℕ) → Narrow (chars line) → ((t : Table) (at : ℕ) → read_table table ≡ Fine t at → NarrowTable t)
    → (work out : ℕ) → add_numbers line table given work out ≡ answer_with stands_exactly line table given work out
narrow_answer line table given h n work out =
    sym (answer_now line table given out work)
    ∙ answer_agree stands_at stands_exactly line table given (λ t at e. agree_table (chars line) t h (n t at e)) out work

-- a sign n behind a sign m of its list that counts as the same adds nothing to any lattice: ms stand between the two, ns behind them
pub one_edge : (w : List ℕ) (c : ℕ) (e : NumEdge) (m n : Text) (ms ns : List Text) (es : List Edge) → folded (chars m) ≡ folded (chars n)
    → add_all es (signed w c e (m ∷ (ms ++ (n ∷ ns)))) ≡ add_all es (signed w c e (m ∷ (ms ++ ns)))
one_edge w c e m n ms ns es h = added_once w c e m n ms ns es h (λ p. sym (either_side w w p m n refl h))
