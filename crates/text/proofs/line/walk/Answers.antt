use mathlib.Core.Path.{◌≡◌, refl, sym, ◌∙◌}
use mathlib.Core.List.{List, []}
use Prim.Native.Nat.{ℕ}
use native.Mathlib.Omega.{arith}
use lib.ListN.{drop}
use Rattle.text.specs.declared.Seq.TheVariants.{Char, Ill, End}
use Rattle.text.specs.declared.Seq.{Seq}
use Rattle.text.specs.Sequence.{seq}
use Rattle.text.specs.Text.{chars}
use Rattle.text.proofs.TextLaws.{chars_ill, chars_end}
use Rattle.text.proofs.PlaceLaws.{reached_start, reached_char, char_fits, walk_stops}
use Rattle.text.proofs.line.walk.Goals as goal
use Rattle.text.proofs.line.walk.Goals.{in-Some, in_default+in-Char}

pub loop-count-init : goal.loop-count-init
loop-count-init c = reached_start _

pub overflow_add-at : goal.overflow_add-at
overflow_add-at c = omega (arith, char_fits _ _ _ c.loop-count.invariant _ _ c.in-Some.ensures.1)

pub overflow_add-at-in-Char : goal.overflow_add-at-in-Char
overflow_add-at-in-Char c =
    let told : seq (drop c.loop-count.at c.args.s.now) ≡ Char c.in-Char.field-0 c.in-Char.len = sym c.seq_at.ensures ∙ c.in-Char.is in
    omega (arith, char_fits _ _ _ c.loop-count.invariant _ _ told)

-- no character stands there
none_here : (s : List ℕ) (r : Seq) → r ≡ seq s → ((c l : ℕ) → r ≡ Char c l → ⊥) → chars s ≡ []
none_here s (Char c l) e n = absurd (n c l refl)
none_here s Ill e n = chars_ill s (sym e)
none_here s End e n = chars_end s (sym e)

pub returns-in_default-seq_at : goal.returns-in_default-seq_at
returns-in_default-seq_at c = walk_stops _ _ _ c.loop-count.invariant _ (omega arith) (none_here _ _ c.seq_at.ensures c.in_default-seq_at.not-Char)

pub loop-count-preserved : goal.loop-count-preserved
loop-count-preserved c =
    elim c.match-common_len.branch [
      | in-Some w ↦ rw w.at-is (reached_char _ _ _ c.loop-count.invariant _ _ w.in-Some.ensures.1)
      | in_default+in-Char w ↦ rw w.at-is (reached_char _ _ _ c.loop-count.invariant _ _ (sym w.seq_at.ensures ∙ w.in-Char.is))
    ]
