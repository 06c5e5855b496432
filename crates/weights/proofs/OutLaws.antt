-- What the way over the line from the right stores, step by step, for the proofs of the code.
-- In order: bytes stored before bytes; one step of the way.
use Prim.Native.Nat.{ℕ, suc, ◌+◌, ◌*◌, ◌-◌, ◌/◌, ◌≤◌, ◌<◌}
use mathlib.Core.Path.{◌≡◌, refl, sym, ap, ◌∙◌}
use mathlib.Core.Bool.{Bool, true, false, cond}
use mathlib.Core.List.{List, [], ◌∷◌, ◌++◌, append-nil}
use native.Mathlib.Omega.{arith}
use lib.ListN.{length, drop, set}
use lib.Seq.{sets}
use Rattle.whole.proofs.SetsLaws.{sets_append, sets_set_before}
use Rattle.fields.specs.Fields.{bytes_of}
use Rattle.fields.specs.Flag.{flag}
use Rattle.fields.proofs.FieldsLaws.{length-bytes_of}
use Rattle.grammar.specs.Plain.{Char, utf8}
use Rattle.grammar.proofs.PlainText.{utf8_length}
use Rattle.numeral.specs.declared.Glyph.{Glyph}
use Rattle.numeral.specs.Walk.{capped, glyph, glyph_at}
use Rattle.weights.specs.declared.units.Units.{Units}
use Rattle.weights.specs.Weights.{nines}
use Rattle.weights.specs.Weighed.{weights_bytes}
use Rattle.weights.specs.Walk.{is_weighed, before, back, found, start, last_unit}
use Rattle.weights.proofs.LineLaws.{Split, Left, split_left, count_within}

-- ---- bytes stored before bytes
sets_before : (s : List ℕ) (at : ℕ) (bs : List ℕ) (i : ℕ) (xs : List ℕ) → i + length xs ≤ at → sets (sets s at bs) i xs ≡ sets (sets s i xs) at bs
sets_before s at bs i [] h = refl
sets_before s at bs i (x ∷ xs) h =
    ap (λ (t : List ℕ). sets t (suc i) xs) (sets_set_before s at bs i x (omega arith)) ∙ sets_before (set s i x) at bs (suc i) xs (omega arith)

weight_before : (s : List ℕ) (k n : ℕ) (bs : List ℕ) → sets (sets s (8 * (k + 1)) bs) (8 * k) (bytes_of 8 n) ≡ sets s (8 * k) (bytes_of 8 n ++ bs)
weight_before s k n bs =
    let e : 8 * (k + 1) ≡ 8 * k + length (bytes_of 8 n) = omega (arith, length-bytes_of 8 n) in
    rw e (sets_before s (8 * k + length (bytes_of 8 n)) bs (8 * k) (bytes_of 8 n) (omega arith) ∙ sym (sets_append s (8 * k) (bytes_of 8 n) bs))

-- with the glyph before the place, where the weights behind it are stored from the k-th on
stored_if : (b : Bool) (s : List ℕ) (k n : ℕ) (ks : List ℕ) → flag b ≤ k
    → cond b (sets (sets s (8 * k) (weights_bytes ks)) (8 * (k - flag b)) (bytes_of 8 n)) (sets s (8 * k) (weights_bytes ks)) ≡ sets s (8 * (k - flag b)) (weights_bytes (cond b (n ∷ ks) ks))
stored_if true s k n ks h =
    let e : k ≡ k - 1 + 1 = omega arith in
    ap (λ (i : ℕ). sets (sets s (8 * i) (weights_bytes ks)) (8 * (k - 1)) (bytes_of 8 n)) e ∙ weight_before s (k - 1) n (weights_bytes ks)
stored_if false s k n ks h = let e : k - 0 ≡ k = omega arith in rw e

-- ---- the way over the line
abbrev behind_all : List Char → Units
behind_all w = start (last_unit w)

-- out was s; now the weights of the 一 to 九 behind the place at are stored, from the k-th on
pub record Walked (w : List Char) (s out : List ℕ) (units : Units) (at k : ℕ) : Type 0 where
  pub split : Split w at k
  pub found_units : units ≡ back capped split.rest (behind_all w)
  pub output : out ≡ sets s (8 * k) (weights_bytes (found capped split.rest (behind_all w)))

pub walk_start : (w : List Char) {line s : List ℕ} {k u : ℕ} → line ≡ utf8 w → k ≡ length (nines w) → u ≡ last_unit w → Walked w s s (record { digit = u; member = 1 }) (length line / 3) k
walk_start w e h q = record {
  split = record { front = w; rest = []; whole = append-nil w; place = omega (arith, ap length e ∙ utf8_length w); count = h };
  found_units = rw q;
  output = refl;
}

pub walk_step : (w : List Char) {line s out next : List ℕ} {units on : Units} {at k n : ℕ} {g : Glyph} → line ≡ utf8 w → Walked w s out units at k → 0 < at
    → g ≡ glyph_at (drop (3 * (at - 1)) line) → n ≡ flag (is_weighed g)
    → next ≡ cond (is_weighed g) (sets out (8 * (k - n)) (bytes_of 8 units.digit)) out → on ≡ before capped units g
    → Walked w s next on (at - 1) (k - n)
walk_step w {line} {s} {out} {next} {units} {on} {at} {k} {n} {g} e v h q f o u = go (split_left w e v.split h)
  where
    go : Left w line at k v.split.rest → Walked w s next on (at - 1) (k - n)
    go l =
        let is : g ≡ glyph l.char = l.there q in
        let m : n ≡ flag (is_weighed (glyph l.char)) = f ∙ ap (λ (x : Glyph). flag (is_weighed x)) is in
        rw m (record {
          split = l.split;
          found_units = u ∙ rw (is, v.found_units, l.behind);
          output = o ∙ rw (is, m, l.behind, v.output, v.found_units) (stored_if (is_weighed (glyph l.char)) s k _ _ l.fewer);
        })

-- what a step asks for
module _ (w : List Char) {line s out : List ℕ} {units : Units} {at k : ℕ} (e : line ≡ utf8 w) (v : Walked w s out units at k) (h : 0 < at) where
  pub step_counts : {n : ℕ} {g : Glyph} → g ≡ glyph_at (drop (3 * (at - 1)) line) → n ≡ flag (is_weighed g) → n ≤ k
  step_counts q f =
      let l = split_left w e v.split h in
      omega (arith, f, ap (λ (x : Glyph). flag (is_weighed x)) (l.there q), l.fewer)

pub step_room : (w : List Char) {s out : List ℕ} {units : Units} {at k n : ℕ} → Walked w s out units at k → n ≡ length (nines w) → 8 * n ≤ length s → 8 * k ≤ length s
step_room w v e h = omega (arith, e, count_within w v.split)

pub walk_end : (w : List Char) {s out : List ℕ} {units : Units} {at k : ℕ} → Walked w s out units at k → at ≡ 0 → out ≡ sets s 0 (weights_bytes (found capped w (start (last_unit w))))
walk_end w {s} {out} {units} {at} {k} v h = go v.split.front refl
  where
    go : (x : List Char) → v.split.front ≡ x → out ≡ sets s 0 (weights_bytes (found capped w (start (last_unit w))))
    go [] q =
        let all : v.split.rest ≡ w = ap (λ (z : List Char). z ++ v.split.rest) (sym q) ∙ v.split.whole in
        let none : k ≡ 0 = v.split.count ∙ ap (λ (z : List Char). length (nines z)) q in
        v.output ∙ rw (none, all)
    go (c ∷ x) q = absurd (omega (arith, v.split.place, ap length q))
