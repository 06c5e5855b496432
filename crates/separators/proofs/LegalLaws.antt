-- F1's edges may be listed. No contract cites this file.
-- In order: the separators; a copy; all copies; the lattice after F1. Assumes nothing.
use mathlib.Core.Path.{◌≡◌, refl}
use mathlib.Core.Bool.{Bool, true, false, cond, ◌&&◌}
use mathlib.Core.List.{List, [], ◌∷◌}
use mathlib.Core.Option.{Option, none, some}
use Prim.Native.Nat.{ℕ, ◌≤◌}
use native.Mathlib.Omega.{arith}
use lib.ListN.{length, length-append}
use Rattle.text.specs.Sequence.{encode}
use Rattle.text.specs.Text.{chars, encodes, well_formed}
use Rattle.text.proofs.RowLaws.{and-true}
use Rattle.text.proofs.TextLaws.{encodes_well_formed}
use Rattle.digits.specs.TextEnds.{first_is_digit}
use Rattle.edge.specs.Edge.{Edge, Numeric}
use Rattle.edge.specs.Legal.{Legal}
use Rattle.pass_list.specs.StoredEdge.{nil, cons}
use Rattle.numbers.specs.CallEdge.{Legals, CallEdge, CallEdges}
use Rattle.numbers.proofs.stages.ReadLaws.{call_legals}
use Rattle.numbers.proofs.stages.CallLaws.{allowed_map, add_all_legals, map_inactive_call}
use Rattle.numbers.proofs.stages.SoundLaws.{sound_of, sound_is, formed_append}
use Rattle.numbers.specs.Fractions.{is_numeric}
use Rattle.numbers.specs.Separators.{ends_before, apart, has_fraction, separator, copy_of, copies, separate}

-- ---- the separators: one character each
space_formed : well_formed (32 ∷ []) ≡ true
unfolding encodes encode
space_formed = encodes_well_formed (32 ∷ []) (refl, tt)

dot_formed : well_formed (0xC2 ∷ 0xB7 ∷ []) ≡ true
unfolding encodes encode
dot_formed = encodes_well_formed (0xB7 ∷ []) (refl, tt)

separator_formed : (b : Bool) → well_formed (cond b (32 ∷ []) (0xC2 ∷ 0xB7 ∷ [])) ≡ true
separator_formed true = space_formed
separator_formed false = dot_formed

separator_short : (b : Bool) → length (cond {A = List ℕ} b (32 ∷ []) (0xC2 ∷ 0xB7 ∷ [])) ≤ 2
separator_short true = omega arith
separator_short false = omega arith

-- ---- a copy
txt_short : {n : ℕ} (e : Edge) → CallEdge n e → is_numeric e ≡ true → length e.txt ≤ 256
txt_short e c t = go e.num refl t
  where
    go : (x : Option Numeric) → e.num ≡ x → elim x [ none ↦ false | some y ↦ true ] ≡ true → length e.txt ≤ 256
    go none p u = absurd (let z : ◌≡◌ {A = ℕ} 0 1 = cc in omega arith)
    go (some x) p u = (c.short x p).txt

copy_legal : {n : ℕ} (e : Edge) → CallEdge n e → is_numeric e ≡ true → Legal false n (copy_of e)
unfolding copy_of
copy_legal {n} e c t =
    let f = c.legal.fits in
    let s = sound_of n e c.legal.content in
    let a = txt_short e c t in
    let b = separator_short (has_fraction e.num) in
    let l = length-append (separator e) e.txt in
    record {
      fits = record { start = f.start; end = f.end; type = f.type; txt = omega arith; num = f.num };
      map = allowed_map e.num;
      content = sound_is n _ (record {
        rises = s.rises;
        within = s.within;
        type = s.type;
        txt = formed_append (separator e) e.txt (separator_formed (has_fraction e.num)) s.txt;
        num = s.num;
      });
    }

-- ---- all copies
copies_legal : {n : ℕ} (es ds : List Edge) → CallEdges n ds → Legals n (copies es ds)
unfolding copies apart
copies_legal es [] nil = nil
copies_legal {n} es (d ∷ ds) (cons c cs) = go (apart es d) refl (copies_legal es ds cs)
  where
    go : (b : Bool) → apart es d ≡ b → Legals n (copies es ds) → Legals n (cond b (copy_of d ∷ copies es ds) (copies es ds))
    go true p ls = cons (copy_legal d c (and-true (is_numeric d) (first_is_digit (chars d.txt) && ends_before es d.start) p).0) ls
    go false p ls = ls

-- ---- the lattice after F1
pub separate_legals : {n : ℕ} (es : List Edge) → CallEdges n es → Legals n (separate es)
unfolding separate
separate_legals es cs = add_all_legals (call_legals (map_inactive_call (apart es) cs)) (copies_legal es es cs)
