-- Laws of the call's answer at its end (`specs/Answers.antt`). No contract cites this file. Assumes nothing.
use mathlib.Core.Path.{◌≡◌, refl, ap, ◌∙◌}
use mathlib.Core.Bool.{Bool, true, false, cond, ◌||◌}
use mathlib.Core.List.{List, ◌++◌}
use Prim.Native.Nat.{ℕ, ◌+◌}
use native.Mathlib.Omega.{arith}
use lib.ListN.{length, drop}
use lib.Seq.{sets, sets-eq}
use lib.Dec.{ltb}
use borrow.Author.Tests.{ltb-false}
use Rattle.edge.specs.Edge.{Edge, listing_bytes}
use Rattle.lattice.specs.Lattice.{overfull}
use Rattle.lattice.specs.Kept as lattice
use Rattle.numbers.specs.Call.{Answer, refused, finished}
use Rattle.text.specs.declared.Place.{Place}
use Rattle.answers.specs.declared.Refusal.{Refusal}
use Rattle.answers.specs.declared.Refusal.TheVariants.{AboveTop, TooLong}
use Rattle.call.specs.Answers.{AnswerIs}
use Rattle.std.specs.Prelude.{Option, Some, None, Result, Err}
use Rattle.std.specs.Option.{ok_or}

-- 7
pub answer_above : (out : List ℕ) {a : Answer} (p : Place) → a ≡ refused 7 p.0 → AnswerIs out out (Err (AboveTop p)) a
answer_above out p e = rw e (record { answer = refl; output = refl })

-- 8, or the listing
or-false : (b c : Bool) → (b || c) ≡ false → c ≡ false
or-false true c z = absurd (let x : ◌≡◌ {A = ℕ} 0 1 = cc in omega arith)
or-false false c z = z

pub answer_finished : (out now : List ℕ) (es : List Edge) (f : Option ℕ) → f ≡ lattice.finished (length out) es → now ≡ lattice.finished_out out es → {r : Result ℕ Refusal} → r ≡ ok_or f TooLong → AnswerIs out now r (finished (length out) es)
unfolding lattice.finished lattice.finished_out lattice.too_long
answer_finished out now es f e o {r} m = go (overfull es || ltb (length out) (length (listing_bytes es))) refl (m ∙ ap (λ (x : Option ℕ). ok_or x TooLong) e) o
  where
    go : (b : Bool) → (overfull es || ltb (length out) (length (listing_bytes es))) ≡ b → r ≡ ok_or (cond b None (Some (length (listing_bytes es)))) TooLong
        → now ≡ cond b out (sets out 0 (listing_bytes es)) → AnswerIs out now r (finished (length out) es)
    go true b x y = record { answer = rw (b, x); output = rw b y }
    go false b x y =
        let long = ltb-false (length out) (length (listing_bytes es)) (or-false (overfull es) (ltb (length out) (length (listing_bytes es))) b) in
        let z : 0 + length (listing_bytes es) ≡ length (listing_bytes es) = omega arith in
        record { answer = rw (b, x); output = rw b (y ∙ sets-eq (listing_bytes es) out 0 (omega arith) ∙ ap (λ (k : ℕ). listing_bytes es ++ drop k out) z) }
