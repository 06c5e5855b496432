-- One edge set apart: the separator of its copy, room for the copy, and what then holds. No contract cites this file. Assumes nothing.
-- In order: where the last edge ends; the separator; how long a short edge is; the i-th edge of the lattice; what then holds; the loop.
use mathlib.Core.Path.{◌≡◌, refl, sym, ap, ◌∙◌, subst}
use mathlib.Core.Bool.{Bool, true, false, cond}
use mathlib.Core.List.{List, [], ◌∷◌}
use mathlib.Core.Option.{Option, none, some}
use Prim.Native.Nat.{ℕ, suc, ◌+◌, ◌-◌, ◌≤◌, ◌<◌}
use native.Mathlib.Numerals.{add-one}
use native.Mathlib.Omega.{arith}
use lib.ListN.{length, get_or, length-append}
use lib.Seq.{take_all}
use lib.Dec.{eqb}
use Rattle.text.proofs.RowLaws.{and-true}
use Rattle.fields.specs.Fields.{bytes_of}
use Rattle.fields.proofs.FieldsLaws.{length-bytes_of}
use Rattle.fields.specs.Flag.{there, bytes_if}
use Rattle.edge.specs.Edge.{Edge, Text, Numeric, map_of, str, fraction_bytes, numeric_bytes, edge_bytes}
use Rattle.edge.specs.Layout.{stands, map_at, edge_at}
use Rattle.edge.proofs.WriteLaws.{length_str}
use Rattle.edge.proofs.theorems.ReadBackLaws.{map_bits}
use Rattle.paths.specs.Reading.{Spanned}
use Rattle.lattice.specs.declared.Lattice.{Lattice}
use Rattle.lattice.specs.Lattice.{add, turn_off_at, turn_off, overfull}
use Rattle.lattice.specs.Kept.{no_edge, offset, Holds, SameBehind}
use Rattle.lattice.proofs.KeptLaws.{fields_bytes, edge_stands, offset_in, kept_size}
use Rattle.lattice.proofs.HoldsLaws.{kept_of_lem, over_of, over_add}
use Rattle.lattice_add.specs.Copy.{prefixed, Source}
use Rattle.lattice_add.proofs.copy.CopyLaws.{length_by_txt, map_is}
use Rattle.numbers.specs.CallEdge.{Short, CallEdge, CallEdges}
use Rattle.numbers.proofs.stages.ReadLaws.{offset_next, edge_of_one, every_at}
use Rattle.numbers.proofs.stages.OverLaws.{holds_full, over_add_all, over_turn_off, over_map_inactive}
use Rattle.numbers.proofs.stages.SoundLaws.{one_spanned}
use Rattle.numbers.specs.Fractions.{is_numeric}
use Rattle.numbers.specs.Separators.{apart, has_fraction, copy_of, copies, separate}
use Rattle.separators.specs.Marks.{apart_by, set_apart, all_apart}
use Rattle.separators.proofs.ApartLaws.{length_add, apart_behind, apart_length}

-- ---- behind the last edge the listing ends
pub last_ends : {w : List ℕ} {l : Lattice} {es : List Edge} → Holds w l es → (l.len ≡ 0 → ⊥) → (i : ℕ) → l.count ≤ i → l.len ≡ offset es i
unfolding offset
last_ends {es = es} q f i h = let k = kept_of_lem q f in let c = k.count in rw (take_all i es (omega arith)) (kept_size k)

-- ---- the separator, by bit 2 of the map
fraction_bit : (x : Option Numeric) → stands 2 (map_of x) ≡ has_fraction x
fraction_bit none = refl
fraction_bit (some n) = rw (map_bits n).fraction (go n.fraction)
  where
    go : (f : Option (ℕ × ℕ)) → eqb (there f) 1 ≡ elim f [ none ↦ false | some p ↦ true ]
    go none = refl
    go (some p) = refl

module _ {w : List ℕ} {len at to : ℕ} {e : Edge} (q : Source w len at to 2 e) {m : ℕ} {b : Bool} (map : m ≡ map_at w at) (bit-2 : b ≡ stands 2 m) where
  fraction_read : b ≡ has_fraction e.num
  fraction_read = bit-2 ∙ ap (stands 2) (map ∙ map_is w at e q.fits q.there) ∙ fraction_bit e.num

  pub copy_space : b ≡ true → prefixed (32 ∷ []) e ≡ copy_of e
  unfolding prefixed copy_of
  copy_space t = rw (sym fraction_read ∙ t)

  pub copy_dot : b ≡ false → prefixed (0xC2 ∷ 0xB7 ∷ []) e ≡ copy_of e
  unfolding prefixed copy_of
  copy_dot t = rw (sym fraction_read ∙ t)

-- ---- how long a short numeric edge is
opt_le : {A : Type 0} (f : A → List ℕ) (k : ℕ) (x : Option A) → ((a : A) → x ≡ some a → length (f a) ≤ k) → length (bytes_if f x) ≤ k
opt_le f k none h = omega arith
opt_le f k (some a) h = h a refl

length_fraction : (p : ℕ × ℕ) → length (fraction_bytes p) ≤ 16
length_fraction p =
    let a = length-bytes_of 8 p.0 in
    let b = length-bytes_of 8 p.1 in
    let c = length-append (bytes_of 8 p.0) (bytes_of 8 p.1) in
    omega arith

number_le : (w n : ℕ) → length (bytes_of w n) ≤ w
number_le w n = let a = length-bytes_of w n in omega arith

str_le : (t : Text) (k : ℕ) → length t ≤ k → length (str t) ≤ 2 + k
str_le t k h = let l = length_str t in omega arith

fields_short : (e : Edge) (x : Numeric) → Short e x → length (numeric_bytes x) ≤ 1400
unfolding numeric_bytes
fields_short e x s =
    let o = str_le x.orig 1024 s.orig in
    let a = opt_le (bytes_of 8) 8 x.value (λ n p. number_le 8 n) in
    let b = opt_le fraction_bytes 16 x.fraction (λ n p. length_fraction n) in
    let c = opt_le (bytes_of 8) 8 x.base (λ n p. number_le 8 n) in
    let d = opt_le (bytes_of 8) 8 x.mult (λ n p. number_le 8 n) in
    let f = opt_le str 62 x.script (λ t p. str_le t 60 (s.script t p)) in
    let g = opt_le str 258 x.value_s (λ t p. str_le t 256 (s.value_s t p)) in
    let h = opt_le (bytes_of 1) 1 x.decimals (λ n p. number_le 1 n) in
    simp length-append (omega arith)

pub edge_short : {n : ℕ} (e : Edge) → CallEdge n e → is_numeric e ≡ true → length (edge_bytes e) + 2 ≤ 2048
edge_short e c t = go e.num refl t
  where
    go : (x : Option Numeric) → e.num ≡ x → elim x [ none ↦ false | some y ↦ true ] ≡ true → length (edge_bytes e) + 2 ≤ 2048
    go none p u = absurd (let z : ◌≡◌ {A = ℕ} 0 1 = cc in omega arith)
    go (some x) p u =
        let s = c.short x p in
        let a = s.type in
        let b = s.txt in
        let f = fields_short e x s in
        let l = length_by_txt e in
        let o : length (fields_bytes e) ≡ length (numeric_bytes x) = ap (λ (y : Option Numeric). length (bytes_if numeric_bytes y)) p in
        omega arith

-- ---- the i-th edge of the lattice
module _ {w : List ℕ} {l : Lattice} {es : List Edge} (q : Holds w l es) (i : ℕ) (in_List : i < length es) where
  pub counted : (l.len ≡ 0 → ⊥) → i < l.count
  counted f = let k = (kept_of_lem q f).count in omega arith

  module _ (f : (l.len ≡ 0 → ⊥)) {n : ℕ} (call : CallEdge n (get_or es i no_edge)) {at : ℕ} (here : at ≡ offset es i) where
    edge_is : edge_at w at ≡ get_or es i no_edge
    edge_is = ap (edge_at w) here ∙ (edge_of_one q f i (counted f) call.legal).is

    pub edge_spanned : n ≤ 256 → Spanned 256 w at
    edge_spanned = one_spanned q f i (counted f) here call.legal

    module _ (marks : List Bool) {r : Bool} (asked : r ≡ apart_by marks (edge_at w at)) where
      apart_told : r ≡ apart_by marks (get_or es i no_edge)
      apart_told = asked ∙ ap (apart_by marks) edge_is

      pub not_apart : r ≡ false → Holds w l (set_apart marks es i)
      unfolding set_apart
      not_apart t = rw (sym apart_told ∙ t) q

      pub is_apart : r ≡ true → set_apart marks es i ≡ turn_off_at (add es (copy_of (get_or es i no_edge))) i
      unfolding set_apart
      is_apart t = rw (sym apart_told ∙ t)

      pub apart_source : r ≡ true → {to : ℕ} → to ≡ offset es (i + 1) → Source w l.len at to 2 (get_or es i no_edge)
      unfolding apart_by
      apart_source t there =
          let k = kept_of_lem q f in
          let u = (and-true (is_numeric (get_or es i no_edge)) _ (sym apart_told ∙ t)).0 in
          let e = there ∙ offset_next es i in_List in
          rw here (record {
            fits = call.legal.fits;
            there = edge_stands k i (counted f);
            ends = e;
            inside = omega (arith, e, offset_in k i (counted f));
            short = edge_short (get_or es i no_edge) call u;
          })

-- ---- what then holds
over_turned : (es : List Edge) (i : ℕ) → overfull es ≡ true → overfull (turn_off_at es i) ≡ true
unfolding turn_off
over_turned es i h = over_turn_off es (i ∷ []) ∙ h

over_apart : (marks : List Bool) (es : List Edge) (i : ℕ) → overfull es ≡ true → overfull (set_apart marks es i) ≡ true
unfolding set_apart
over_apart marks es i h = go (apart_by marks (get_or es i no_edge))
  where
    go : (t : Bool) → overfull (cond t (turn_off_at (add es (copy_of (get_or es i no_edge))) i) es) ≡ true
    go true = over_turned (add es (copy_of (get_or es i no_edge))) i (over_add es (copy_of (get_or es i no_edge)) h)
    go false = h

pub full_apart : {w : List ℕ} {l : Lattice} {es : List Edge} (marks : List Bool) (i : ℕ) → l.len ≡ 0 → Holds w l es → Holds w l (set_apart marks es i)
full_apart {es = es} marks i f q = holds_full q f (over_apart marks es i (over_of q f))

-- the copy was added, and the lattice became full
pub full_turned : {w : List ℕ} {l : Lattice} {es : List Edge} (i : ℕ) → l.len ≡ 0 → Holds w l es → Holds w l (turn_off_at es i)
full_turned {es = es} i f q = holds_full q f (over_turned es i (over_of q f))

pub still_counted : {w : List ℕ} {l : Lattice} (es : List Edge) (c : Edge) (i : ℕ) → i < length es → (l.len ≡ 0 → ⊥) → Holds w l (add es c) → i < l.count
still_counted es c i h f q = let k = (kept_of_lem q f).count in let m = length_add es c in omega arith

-- the whole of F1 on a lattice that is full
pub full_separate : {w : List ℕ} {l : Lattice} {es : List Edge} → l.len ≡ 0 → Holds w l es → Holds w l (separate es)
unfolding separate
full_separate {es = es} f q = holds_full q f (over_add_all _ (copies es es) (over_map_inactive (apart es) es ∙ over_of q f))

-- ---- the loop: with the edges from the i-th on set apart, the lattice is what it shall be
pub record Setting (w₀ : List ℕ) (l₀ : Lattice) (marks : List Bool) (count : ℕ) (w : List ℕ) (l : Lattice) (i : ℕ) : Type 0 where
  pub long : length w ≡ length w₀
  pub frame : SameBehind w₀ w
  pub up_to : i ≤ count
  pub holds : (n : ℕ) (es : List Edge) → n ≤ 256 → Holds w₀ l₀ es → length es ≡ count → CallEdges n es
      → (ds : List Edge) × Holds w l ds × (count ≤ length ds) × ((j : ℕ) → i ≤ j → j < count → get_or ds j no_edge ≡ get_or es j no_edge) × (all_apart marks ds i (count - i) ≡ all_apart marks es 0 (length es))

pub setting_start : (w : List ℕ) (l : Lattice) (marks : List Bool) (count : ℕ) → Setting w l marks count w l 0
setting_start w l marks count = record { long = refl; frame = refl; up_to = omega arith; holds = λ n es few q k c. (es, q, omega arith, λ j x y. refl, ap (all_apart marks es 0) (all k)) }
  where
    all : {m : ℕ} → m ≡ count → count - 0 ≡ m
    all k = omega arith

module _ {w₀ : List ℕ} {l₀ : Lattice} {marks : List Bool} {count : ℕ} {w : List ℕ} {l : Lattice} {i : ℕ} (s : Setting w₀ l₀ marks count w l i) where
  -- the edge that is asked for is an edge of the call
  setting_call : i < count → (n : ℕ) (es : List Edge) (few : n ≤ 256) (q : Holds w₀ l₀ es) (k : length es ≡ count) (c : CallEdges n es)
      → (i < length (s.holds n es few q k c).0) × CallEdge n (get_or (s.holds n es few q k c).0 i no_edge)
  setting_call h n es few q k c =
      let x = s.holds n es few q k c in
      let y = x.2 in
      (omega arith, subst (CallEdge n) (sym (x.3 i (omega arith) h)) (every_at no_edge c (omega arith)))

  pub setting_here : i < count → (n : ℕ) (es : List Edge) → n ≤ 256 → Holds w₀ l₀ es → length es ≡ count → CallEdges n es → (ds : List Edge) × Holds w l ds × (i < length ds) × CallEdge n (get_or ds i no_edge)
  setting_here h n es few q k c =
      let x = s.holds n es few q k c in
      let z = setting_call h n es few q k c in
      (x.0, x.1, z.0, z.1)

  one_less : i < count → (ds : List Edge) → all_apart marks (set_apart marks ds i) (i + 1) (count - (i + 1)) ≡ all_apart marks ds i (count - i)
  unfolding all_apart
  one_less h ds = let e : count - i ≡ suc (count - (i + 1)) = omega arith in rw (e, add-one i)

  pub setting_next : i < count → {v : List ℕ} {m : Lattice} → length v ≡ length w → SameBehind w v
      → ((n : ℕ) (ds : List Edge) → n ≤ 256 → Holds w l ds → i < length ds → CallEdge n (get_or ds i no_edge) → Holds v m (set_apart marks ds i)) → Setting w₀ l₀ marks count v m (i + 1)
  setting_next h y f g = record {
    long = y ∙ s.long;
    frame = f ∙ s.frame;
    up_to = omega arith;
    holds = λ n es few q k c.
        let x = s.holds n es few q k c in
        let z = setting_call h n es few q k c in
        let a = apart_length marks x.0 i in
        let b = x.2 in
        (set_apart marks x.0 i, g n x.0 few x.1 z.0 z.1, omega arith, λ j u v. apart_behind marks x.0 i j (omega arith) (omega arith) ∙ x.3 j (omega arith) v, one_less h x.0 ∙ x.4);
  }

  pub setting_end : count ≤ i → (n : ℕ) (es : List Edge) → n ≤ 256 → Holds w₀ l₀ es → length es ≡ count → CallEdges n es → Holds w l (all_apart marks es 0 (length es))
  unfolding all_apart
  setting_end h n es few q k c =
      let x = s.holds n es few q k c in
      let u = s.up_to in
      let z : count - i ≡ 0 = omega arith in
      let d : x.0 ≡ all_apart marks es 0 (length es) = (rw z at x.4) in
      rw d at x.1
