-- What is read of the edges of a lattice. No contract cites this file.
-- In order: tests and options; the head of an edge; its value; its script. Assumes nothing.
use mathlib.Core.Path.{◌≡◌, refl, sym, ap, ◌∙◌}
use mathlib.Core.Bool.{Bool, true, false, not, true≢false}
use mathlib.Core.List.{List}
use mathlib.Core.Option
use mathlib.Core.Option.{Option, none, some}
use Prim.Native.Nat.{ℕ, ◌+◌, ◌≤◌, ◌<◌}
use native.Mathlib.Omega.{arith}
use lib.ListN.{length, get_or}
use lib.Ieee.{binary64, of_bits, to_unsigned}
use Rattle.fields.specs.Part.{part_of}
use Rattle.fields.specs.Fields.{le_at}
use Rattle.fields.proofs.PartLaws.{length_part}
use Rattle.whole.specs.Whole.{TOP}
use Rattle.whole.proofs.WholeLaws.{of_nat-to_unsigned}
use Rattle.edge.specs.Edge.{Text, Edge, Numeric, f64_bits}
use Rattle.edge.specs.Layout.{stands, only, map_at, text_at, string_end, txt_at, head_end, fields_end, next_at, numeric_at, edge_at}
use Rattle.edge.specs.View.{view_at, fields_at}
use Rattle.edge.specs.declared.EdgeView.{EdgeView}
use Rattle.edge.proofs.CheckLaws.{head_within, fields_within, fields_inside}
use Rattle.edge.proofs.theorems.Theorems.{f64_bits_back}
use Rattle.lattice.specs.declared.Lattice.{Lattice}
use Rattle.lattice.specs.Kept.{no_edge, offset}
use Rattle.lattice.proofs.HoldsLaws.{kept_of_lem}
use Rattle.numbers.specs.CallEdge.{CallEdge}
use Rattle.numbers.proofs.stages.ReadLaws.{every_at, call_legals, EdgeThere, edge_of}
use Rattle.numbers.specs.Listed.{whole_of, value_of, whole_value}
use Rattle.numbers.specs.Fractions.{script_of, is_numeric}
use Rattle.fraction_choices.specs.Choice.{number_or, value_or, HasValue, Two, One}
use Rattle.fractions.specs.NewParts.{HeadIs, HoldsCall}

-- ---- tests and options
pub not-true : (t : Bool) → not t ≡ true → t ≡ false
not-true true p = sym p
not-true false p = refl

pub not-false : (t : Bool) → not t ≡ false → t ≡ true
not-false true p = refl
not-false false p = sym p

pub some_inj : {A : Type 0} {a b : A} → some a ≡ some b → a ≡ b
some_inj {a = a} p = cc

pub none_some : {A : Type 0} {b : A} → ◌≡◌ {A = Option A} none (some b) → ⊥
none_some p = let z : ◌≡◌ {A = ℕ} 0 1 = cc in omega arith

pub only_some : {A : Type 0} (t : Bool) {a b : A} → only t a ≡ some b → (t ≡ true) × (a ≡ b)
only_some true p = (refl, some_inj p)
only_some false p = absurd (none_some p)

-- ---- the head of an edge
module _ {n : ℕ} {w : List ℕ} {l : Lattice} {es : List Edge} (h : HoldsCall n w l es) (f : (l.len ≡ 0 → ⊥)) where
  pub count_of : l.count ≡ length es
  count_of = sym (kept_of_lem h.holds f).count

  pub there : (i : ℕ) → i < l.count → EdgeThere n w l.len es i
  there i x = edge_of h.holds f (call_legals h.call) i x

  pub call_at : (i : ℕ) → i < l.count → CallEdge n (get_or es i no_edge)
  call_at i x = every_at no_edge h.call (omega (arith, count_of))

  pub left_in : {i j : ℕ} → Two es i j → i < l.count
  left_in t = let a = t.left in omega (arith, count_of)

  pub right_in : {i j : ℕ} → Two es i j → j < l.count
  right_in t = let a = t.right in omega (arith, count_of)

  pub one_in : {j : ℕ} → One es j → j < l.count
  one_in t = let a = t.right in omega (arith, count_of)

  next_in : (i : ℕ) → i < l.count → next_at w (offset es i) ≤ length w
  next_in i x = let a = (there i x).inside in let b = h.holds.short in let c = h.holds.room in omega arith

  pub head_in : (i : ℕ) → i < l.count → {at : ℕ} → at ≡ offset es i → head_end w at ≤ length w
  head_in i x e = rw e (head_within w (offset es i) (length w) (next_in i x))

  head_at : (i : ℕ) → i < l.count → HeadIs w (get_or es i no_edge) (view_at w (offset es i))
  unfolding view_at edge_at text_at string_end
  head_at i x =
      let at = offset es i in
      let t = there i x in
      let r : head_end w at ≤ length w = head_within w at (length w) (next_in i x) in
      let txt : text_at w (txt_at w at) ≡ (get_or es i no_edge).txt = ap (λ (e : Edge). e.txt) t.is in
      record {
        map = t.map;
        start = ap (λ (e : Edge). e.start) t.is;
        end = ap (λ (e : Edge). e.end) t.is;
        txt = txt;
        size = sym (length_part w (txt_at w at + 2) (le_at w (txt_at w at) 2) r) ∙ ap length txt;
        inside = r;
        numeric = λ y p. let o = only_some (stands 0 (map_at w at)) (ap (λ (e : Edge). e.num) t.is ∙ p) in (fields_within w at (length w) (next_in i x) o.0, o.1);
      }

  pub head_is : (i : ℕ) → i < l.count → {at : ℕ} {v : EdgeView} → at ≡ offset es i → v ≡ view_at w at → HeadIs w (get_or es i no_edge) v
  head_is i x e p = rw (p, e) (head_at i x)

  pub head_small : (i : ℕ) → i < l.count → {v : EdgeView} → HeadIs w (get_or es i no_edge) v → (v.start.0 < 65536) × (v.end.0 < 65536)
  head_small i x r = let t = (there i x).fits in let a = r.start in let b = r.end in (omega (arith, t.start), omega (arith, t.end))

-- the txt of a numeric edge
pub txt_short : {n : ℕ} {e : Edge} → CallEdge n e → is_numeric e ≡ true → length e.txt ≤ 256
txt_short {e = e} c p = go e.num refl p
  where
    go : (x : Option Numeric) → e.num ≡ x → elim x [ none ↦ false | some y ↦ true ] ≡ true → length e.txt ≤ 256
    go none q s = absurd (true≢false (sym s))
    go (some x) q s = (c.short x q).txt

-- ---- the value
pub record ValueIs (e : Edge) : Type 0 where
  pub numbers : Numeric
  pub num : e.num ≡ some numbers
  pub whole : ℕ
  pub bits : numbers.value ≡ some (f64_bits whole)
  pub small : whole ≤ TOP
  pub is : value_or e ≡ whole

pub value_is : {n : ℕ} (e : Edge) → CallEdge n e → HasValue e → ValueIs e
unfolding whole_value
value_is e c (v, p) = by_num e.num refl p
  where
    by_value : (x : Numeric) → e.num ≡ some x → x.decimals ≡ none → (b : Option ℕ) → x.value ≡ b → Option.map (λ y. to_unsigned 64 (of_bits binary64 y)) b ≡ some v → ValueIs e
    by_value x q w none r s = absurd (none_some s)
    by_value x q w (some b) r s =
        let k = c.value x b q w r in
        record {
          numbers = x;
          num = q;
          whole = k.0;
          bits = r ∙ ap some k.2;
          small = k.1;
          is = ap (λ (y : Option Numeric). number_or (value_of y)) q ∙ ap (λ (k : Option ℕ). number_or (whole_of k x.value)) w ∙ ap (λ (y : Option ℕ). number_or (Option.map (λ z. to_unsigned 64 (of_bits binary64 z)) y)) (r ∙ ap some k.2)
              ∙ ap (to_unsigned 64) (f64_bits_back k.0) ∙ of_nat-to_unsigned k.1;
        }

    by_decimals : (x : Numeric) → e.num ≡ some x → (k : Option ℕ) → x.decimals ≡ k → whole_of k x.value ≡ some v → ValueIs e
    by_decimals x q none w s = by_value x q w x.value refl s
    by_decimals x q (some k) w s = absurd (none_some s)

    by_num : (x : Option Numeric) → e.num ≡ x → value_of x ≡ some v → ValueIs e
    by_num none q s = absurd (none_some s)
    by_num (some x) q s = by_decimals x q x.decimals refl s

-- what `fields_at` answers for a value that is there
pub fields_value : (m : ℕ) (s : List ℕ) (at : ℕ) {b : ℕ} → (numeric_at m s at).value ≡ some b → (fields_at m s at).value ≡ b
unfolding numeric_at fields_at
fields_value m s at p = let o = only_some (stands 1 m) p in rw o.0 o.1

-- what is read for the value of the i-th edge
pub record ValueRead (w : List ℕ) (e : Edge) (v : EdgeView) : Type 0 where
  pub inside : fields_end v.map w v.fields.0 ≤ length w
  pub whole : ℕ
  pub small : whole ≤ TOP
  pub bits : (fields_at v.map w v.fields.0).value ≡ f64_bits whole
  pub is : whole ≡ value_or e

pub value_read : {n : ℕ} {w : List ℕ} {e : Edge} {v : EdgeView} → CallEdge n e → HasValue e → HeadIs w e v → ValueRead w e v
value_read {w = w} {e} {v} c h r =
    let k = value_is e c h in
    let d = r.numeric k.numbers k.num in
    record { inside = d.0; whole = k.whole; small = k.small; bits = fields_value v.map w v.fields.0 (ap (λ (x : Numeric). x.value) d.1 ∙ k.bits); is = sym k.is }

-- ---- the script
pub record ScriptRead (w : List ℕ) (e : Edge) (v : EdgeView) : Type 0 where
  pub inside : fields_end v.map w v.fields.0 ≤ length w
  pub is : (numeric_at v.map w v.fields.0).script ≡ script_of e.num
  pub short : (t : Text) → (numeric_at v.map w v.fields.0).script ≡ some t → length t ≤ 60

pub script_read : {n : ℕ} {w : List ℕ} {e : Edge} {v : EdgeView} → CallEdge n e → HasValue e → HeadIs w e v → ScriptRead w e v
script_read {w = w} {e} {v} c h r =
    let k = value_is e c h in
    let d = r.numeric k.numbers k.num in
    let s = ap (λ (x : Numeric). x.script) d.1 in
    record { inside = d.0; is = s ∙ sym (ap script_of k.num); short = λ t p. (c.short k.numbers k.num).script t (sym s ∙ p) }

pub script_inside : (m : ℕ) (s : List ℕ) (at n : ℕ) → fields_end m s at ≤ n → stands 5 m ≡ true → (fields_at m s at).script.at.0 + (fields_at m s at).script.len ≤ n
unfolding fields_at
script_inside m s at n h t = (fields_inside m s at n h).script t

pub script_there : (m : ℕ) (s : List ℕ) (at : ℕ) → stands 5 m ≡ true → (numeric_at m s at).script ≡ some (part_of s (fields_at m s at).script)
unfolding numeric_at fields_at text_at
script_there m s at t = rw t

pub script_absent : (m : ℕ) (s : List ℕ) (at : ℕ) → stands 5 m ≡ false → (numeric_at m s at).script ≡ none
unfolding numeric_at
script_absent m s at t = rw t
