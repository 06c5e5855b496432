-- Laws for the proofs of the code, here and in callers: what is put; a character; a row.
use Prim.Native.Nat.{ℕ, zero, suc, ◌+◌, ◌*◌, ◌≤◌, ◌<◌}
use mathlib.Core.Path.{◌≡◌, refl, sym, ap, ◌∙◌}
use mathlib.Core.List.{List, [], ◌∷◌, ◌++◌, append_assoc}
use native.Mathlib.Omega.{arith}
use lib.ListN.{length, get_or, take, drop, set, length-append, length-set}
use lib.Seq.{sets, sets-eq, take_at, drop-append-add, length-sets}
use Rattle.whole.specs.Decimal.{decimal}
use Rattle.whole.proofs.SetsLaws.{sets_then}
use Rattle.edge.specs.Write.{Put}
use Rattle.grammar.specs.Plain.{Char, utf8}
use Rattle.grammar.proofs.PlainText.{utf8_append, utf8_length}
use Rattle.sheet_rows.specs.Rows.{order, char_at, row_of, row_bytes}
use Rattle.sheet_rows.proofs.RowLaws.{length_row_of}

-- ---- what is put
pub put_length : {s t : List ℕ} {at r : ℕ} {x : List ℕ} → Put s t at r x → length t ≡ length s
put_length {s} {t} {at} {r} {x} p = ap length p.wrote ∙ length-sets s at x

-- at the front of a buffer it is read again
pub put_read : (s : List ℕ) {t : List ℕ} {n : ℕ} (x : List ℕ) → Put s t 0 n x → n ≤ length s → take n t ≡ x
put_read s {t} {n} x p h = ap (take n) (p.wrote ∙ sets-eq x s 0 (omega (arith, p.next))) ∙ take_at x _ n (omega (arith, p.next))

-- ---- a character
char_part : (cs : List Char) (r : ℕ) (d : Char) → r < length cs → take 3 (drop (3 * r) (utf8 cs)) ≡ utf8 (get_or cs r d ∷ [])
char_part [] r d h = absurd (omega arith)
char_part (c ∷ cs) zero d h = ap (take 3) (utf8_append (c ∷ []) cs) ∙ take_at (utf8 (c ∷ [])) (utf8 cs) 3 (utf8_length (c ∷ []))
char_part (c ∷ cs) (suc r) d h =
    let e : 3 * suc r ≡ length (utf8 (c ∷ [])) + 3 * r = omega (arith, utf8_length (c ∷ [])) in
    rw (e, utf8_append (c ∷ []) cs, drop-append-add (utf8 (c ∷ [])) (utf8 cs) (3 * r)) (char_part cs r d (omega arith))

pub char_put : (s : List ℕ) {t : List ℕ} (at r n : ℕ) → r < 16 → t ≡ sets s at (take n (drop (3 * r) (utf8 order))) → n ≡ 3 → Put s t at (at + 3) (utf8 (char_at r ∷ []))
char_put s at r n h k e = record {
  wrote = k ∙ ap (sets s at) (ap (λ (n : ℕ). take n (drop (3 * r) (utf8 order))) e ∙ char_part order r _ h);
  next = ap (λ (n : ℕ). at + n) (sym (utf8_length (char_at r ∷ [])));
}

-- ---- a row

-- the buffer stays as long as it was
pub tabbed_length : (s : List ℕ) {a : List ℕ} (t : List ℕ) (at tab : ℕ) → a ≡ sets s at t → length (set a tab 9) ≡ length s
tabbed_length s {a} t at tab p = length-set a tab 9 ∙ ap length p ∙ length-sets s at t

pub valued_length : (b : List ℕ) {c : List ℕ} (x : List ℕ) (at : ℕ) → c ≡ sets b at x → length c ≡ length b
valued_length b x at f = ap length f ∙ length-sets b at x

pub row_put : (s : List ℕ) {a b c : List ℕ} (t : List ℕ) (v at tab : ℕ) {end : ℕ} → a ≡ sets s at t → tab ≡ at + length t → b ≡ set a tab 9
    → c ≡ sets b (tab + 1) (decimal v) → end ≡ tab + 1 + length (decimal v) → Put s (set c end 10) at (end + 1) (row_of t v)
row_put s {a} {b} {c} t v at tab {end} p q e f g =
    let tabbed : b ≡ sets s at (t ++ (9 ∷ [])) = sets_then s at tab t (9 ∷ []) p q e in
    let l = length-append t (9 ∷ []) in
    let valued : c ≡ sets s at ((t ++ (9 ∷ [])) ++ decimal v) = sets_then s at (tab + 1) (t ++ (9 ∷ [])) (decimal v) tabbed (omega arith) f in
    let m = length-append (t ++ (9 ∷ [])) (decimal v) in
    let ended : set c end 10 ≡ sets s at (((t ++ (9 ∷ [])) ++ decimal v) ++ (10 ∷ [])) = sets_then s at end ((t ++ (9 ∷ [])) ++ decimal v) (10 ∷ []) valued (omega arith) refl in
    record {
      wrote = ended ∙ ap (sets s at) (append_assoc (t ++ (9 ∷ [])) (decimal v) (10 ∷ []) ∙ append_assoc t (9 ∷ []) (decimal v ++ (10 ∷ [])));
      next = omega (arith, length_row_of t v);
    }

-- the row of a numeral whose text is t
pub row_is : {s u : List ℕ} {at r : ℕ} (w : List Char) (v : ℕ) {t : List ℕ} → t ≡ utf8 w → Put s u at r (row_of t v) → Put s u at r (row_bytes (w, v))
unfolding row_bytes
row_is w v e p = rw e at p
