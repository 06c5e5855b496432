-- The edges that sound stored edges stand for are edges of the call (numbers/specs/CallEdge.antt): they may be listed, they are short, and their value is whole where they have no decimals.
-- In order: fields that may be absent; the numeric data; the edge; lists of stored edges. Assumes nothing.
use mathlib.Core.Path.{◌≡◌, refl, sym, ap, ◌∙◌, subst}
use mathlib.Core.Bool.{Bool, true, false}
use mathlib.Core.List.{List, [], ◌∷◌, map}
use mathlib.Core.Option.{Option, none, some, some-injective, some-ne-none}
use Prim.Native.Nat.{ℕ, zero, suc, ◌^◌, ◌≤◌, ◌<◌}
use native.Mathlib.Omega.{arith}
use lib.ListN.{length}
use lib.Dec.{eqb}
use borrow.Author.Tests.{lt-ltb, le-leb}
use Rattle.whole.specs.Whole.{TOP}
use Rattle.decimals.proofs.QuotientLaws.{quotient_bits_fit}
use Rattle.fields.specs.Part.{part}
use Rattle.fields.proofs.PartLaws.{length_part}
use Rattle.text.specs.Text.{Scalars, well_formed}
use Rattle.table.specs.Table.{Text}
use Rattle.table.specs.Answers.{optionally}
use Rattle.edge.specs.Edge.{Edge, Numeric, f64_bits, NumericFits, EdgeFits}
use Rattle.edge.specs.Check.{each, up_to_top, sound_count, sound_numeric, sound}
use Rattle.edge.proofs.theorems.Theorems.{f64_bits_fit}
use Rattle.pass_list.specs.StoredEdge.{StoredEdge, Every, nil, cons}
use Rattle.pass_list.specs.Edges.{between, row_text, txt_of}
use Rattle.pass_list.specs.Kind.{kind_number}
use Rattle.numbers.specs.CallEdge.{Short, CallEdge, CallEdges}
use Rattle.numbers.proofs.stages.CallLaws.{allowed_map}
use Rattle.pass_edge.specs.Grounded.{ScriptAt, Grounded, AllGrounded}
use Rattle.pass_edge.specs.Texts.{type_of}
use Rattle.pass_edge.specs.Fields.{stored_fraction}
use Rattle.pass_edge.specs.Adding.{listed_of}
use Rattle.pass_edge.proofs.TextLaws.{between_short, row_length, txt_short, type_short}
use Rattle.pass_edge.proofs.listed.FieldLaws.{value_bits, count_of, numeric_in, listed_is, count_told, only_told, map_told}
use Rattle.pass_edge.proofs.theorems.FormedLaws.{row_formed, type_formed, between_formed, txt_formed, FractionFits, AllFits, fraction_fits, fits_sound}

-- ---- fields that may be absent
only_on : {A : Type 0} (b : Bool) (u a : A) → optionally b u ≡ some a → b ≡ true
only_on true u a e = refl
only_on false u a e = absurd (some-ne-none a (sym e))

each_number : (b : Bool) (v : ℕ) → v ≤ TOP → each up_to_top (optionally b v) ≡ true
each_number true v h = le-leb v TOP h
each_number false v h = refl

each_text : (b : Bool) (u : Text) → (b ≡ true → well_formed u ≡ true) → each well_formed (optionally b u) ≡ true
each_text true u h = h refl
each_text false u h = refl

-- a count of decimals from 1 on
each_count : (k : ℕ) → k ≤ 15 → each sound_count (count_of k) ≡ true
each_count zero h = refl
each_count (suc k) h = rw (le-leb 1 (suc k) (omega arith), le-leb (suc k) 15 h)

no_count : (k : ℕ) → count_of k ≡ none → k ≡ 0
no_count zero e = refl
no_count (suc k) e = absurd (some-ne-none (suc k) e)

bits_fit : (k v : ℕ) → value_bits k v < 2 ^ 64
bits_fit zero v = f64_bits_fit v
bits_fit (suc k) v = quotient_bits_fit v (suc k)

fraction_at_lem : {o : Option (ℕ × ℕ)} {p : ℕ × ℕ} → AllFits o → o ≡ some p → FractionFits p
fraction_at_lem h e = subst AllFits e h

-- ---- the numeric data
module _ {point : ℕ → Bool} (w t : List ℕ) (x : StoredEdge) (s : Grounded point w t x) (scalars : Scalars w) (few : length w ≤ 256) where
  orig_short : length (between w x.start x.end) ≤ 1024
  orig_short = omega (arith, between_short w x.start x.end, s.made.inside)

  script_short : (a : Text) → optionally x.has_script (part t x.script_offset x.script_len) ≡ some a → length a ≤ 60
  script_short a e =
      let c : ScriptAt t x.script_offset x.script_len = s.rooted.script (only_on x.has_script (part t x.script_offset x.script_len) a e) in
      let l : length (part t x.script_offset x.script_len) ≡ x.script_len = length_part t x.script_offset x.script_len c.within in
      let u : part t x.script_offset x.script_len ≡ a = only_told x.has_script (part t x.script_offset x.script_len) a e in
      omega (arith, ap length u, c.short)

  digits_short : (a : Text) → optionally (eqb (kind_number x.kind) 1) (row_text x) ≡ some a → length a ≤ 256
  digits_short a e = omega (arith, ap length (only_told (eqb (kind_number x.kind) 1) (row_text x) a e), row_length s, s.made.inside)

  numeric_fits : NumericFits (numeric_in w t x)
  unfolding numeric_in
  numeric_fits = record {
    orig = omega (arith, orig_short);
    value = λ v e. rw (sym (map_told (value_bits x.decimals) x.has_value x.value v e)) (bits_fit x.decimals x.value);
    fraction = λ p e. let f = fraction_at_lem (fraction_fits w t x s) e in (omega (arith, f.upper), omega (arith, f.lower));
    base = λ v e. omega (arith, only_told x.has_base x.base v e, s.small.base);
    mult = λ v e. rw (sym (map_told f64_bits x.has_mult x.mult v e)) (f64_bits_fit x.mult);
    script = λ a e. omega (arith, script_short a e);
    value_s = λ a e. omega (arith, digits_short a e);
    decimals = λ v e. omega (arith, count_told x.decimals v e, s.made.few_decimals);
  }

  numeric_sound : sound_numeric (numeric_in w t x) ≡ true
  unfolding sound_numeric numeric_in
  numeric_sound =
      rw (
        fits_sound (stored_fraction t (kind_number x.kind) x.record_offset) (fraction_fits w t x s),
        each_number x.has_base x.base s.small.base,
        each_count x.decimals s.made.few_decimals,
        between_formed w x.start x.end scalars,
        each_text x.has_script (part t x.script_offset x.script_len) (λ b. (s.rooted.script b).formed),
        each_text (eqb (kind_number x.kind) 1) (row_text x) (λ b. row_formed w t x s),
      )

  -- ---- the edge
  abbrev listed : Edge
  listed = record { start = x.start; end = x.end; type = type_of t x; txt = txt_of w t x; num = some (numeric_in w t x) }

  -- what holds of the numeric data holds of what the edge has
  of_listed : (P : Numeric → Type 0) → P (numeric_in w t x) → (y : Numeric) → some (numeric_in w t x) ≡ some y → P y
  of_listed P p y e = subst P (some-injective (numeric_in w t x) y e) p

  listed_fits : EdgeFits listed
  listed_fits = record {
    start = omega (arith, s.made.ordered, s.made.inside);
    end = omega (arith, s.made.inside);
    type = omega (arith, type_short w t x s);
    txt = omega (arith, txt_short w t x s few);
    num = of_listed NumericFits numeric_fits;
  }

  listed_sound : sound (length w) listed ≡ true
  unfolding sound
  listed_sound =
      rw (lt-ltb x.start x.end s.made.ordered, le-leb x.end (length w) s.made.inside, type_formed w t x s, txt_formed w t x s scalars, numeric_sound)

  listed_short : Short listed (numeric_in w t x)
  unfolding numeric_in
  listed_short = record { type = type_short w t x s; txt = txt_short w t x s few; orig = orig_short; script = script_short; value_s = digits_short }

  abbrev WholeValue : Numeric → Type 0
  WholeValue y = (b : ℕ) → y.decimals ≡ none → y.value ≡ some b → (v : ℕ) × (v ≤ TOP) × (b ≡ f64_bits v)

  listed_value : WholeValue (numeric_in w t x)
  unfolding numeric_in
  listed_value b d e =
      let z : x.decimals ≡ 0 = no_count x.decimals d in
      (x.value, s.small.value, sym (map_told (value_bits x.decimals) x.has_value x.value b e) ∙ ap (λ (k : ℕ). value_bits k x.value) z)

  pub stored_edge_call : CallEdge (length w) (listed_of w t x)
  stored_edge_call = subst (CallEdge (length w)) (sym (listed_is w t x)) (record {
    legal = record { fits = listed_fits; map = allowed_map (some (numeric_in w t x)); content = listed_sound };
    short = of_listed (Short listed) listed_short;
    value = λ y b e d v. of_listed WholeValue listed_value y e b d v;
  })

-- ---- lists of stored edges
module _ (w t : List ℕ) (scalars : Scalars w) (few : length w ≤ 256) where
  each_call : {point : ℕ → Bool} (l : List StoredEdge) → Every (Grounded point w t) l → CallEdges (length w) (map (listed_of w t) l)
  each_call [] nil = nil
  each_call (x ∷ l) (cons s h) = cons (stored_edge_call w t x s scalars few) (each_call l h)

  pub stored_edges_call : (l : List StoredEdge) → AllGrounded w t l → CallEdges (length w) (map (listed_of w t) l)
  stored_edges_call l g = each_call l g.each
