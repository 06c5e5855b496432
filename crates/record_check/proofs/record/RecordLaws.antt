-- A record is legal by its parts (`specs/Content.antt`), its code point and its numbers. No contract cites this file.
use mathlib.Core.Path.{◌≡◌, refl, sym, ap, ◌∙◌}
use mathlib.Core.Bool.{Bool, true, false, cond, ◌&&◌}
use mathlib.Core.Option.{Option}
use Prim.Native.Nat.{ℕ}
use Rattle.table.specs.Table.{Text}
use Rattle.table.specs.Layout.{Numbers, bit, record_with}
use Rattle.table.specs.Check.{is_digit_type, legal_digit, legal_code_point, legal_texts, legal_numbers, digit_rule, legal_record}
use Rattle.table.specs.Answers.{optionally}
use Rattle.table.specs.Digit.{digit_fine}
use Rattle.record_check.specs.Content.{texts_fine, rest_fine}

-- the tests in another order: of the code point p, the numbers n, the digit rule d and the strings t
reorder : (p n d t : Bool) → ((n && p) && (d && t)) ≡ (p && (t && (n && d)))
reorder false false d t = refl
reorder false true d t = refl
reorder true false d true = refl
reorder true false d false = refl
reorder true true true true = refl
reorder true true true false = refl
reorder true true false true = refl
reorder true true false false = refl

-- b says that the numbers n are legal, v is their value
pub legal_is : (least c m : ℕ) (type rom script : Text) (n : Numbers) (v : ℕ) {b : Bool} → n.value ≡ optionally (bit m 1) v → legal_numbers n ≡ b
    → rest_fine (b && legal_code_point least c) m v type rom script ≡ legal_record least (record_with c m type (optionally (bit m 0) rom) n (optionally (bit m 5) script))
unfolding legal_record legal_texts digit_rule
legal_is least c m type rom script n v {b} e f =
    let d : digit_fine m v type rom ≡ cond (is_digit_type type) (legal_digit n.value (optionally (bit m 0) rom)) true = ap (λ (o : Option ℕ). cond (is_digit_type type) (legal_digit o (optionally (bit m 0) rom)) true) (sym e) in
    reorder (legal_code_point least c) b (digit_fine m v type rom) (texts_fine m type rom script) ∙ rw (← f, d)
