-- Laws of refusal 6 (`specs/Check.antt`): what the code tests, and what the definition says. No contract cites this file.
-- In order: fields that may be absent; the fields of a numeric edge; the head of an edge; the edges of a listing; what an answer says of the listing.
use mathlib.Core.Path.{◌≡◌, refl, sym, ap, ◌∙◌}
use mathlib.Core.Bool.{Bool, true, false, cond, not, ◌&&◌, ◌||◌}
use mathlib.Core.List.{List}
use Prim.Native.Nat.{ℕ, zero, suc, ◌+◌, ◌-◌, ◌≤◌, ◌<◌}
use native.Mathlib.Nat.{le_trans, le_of_eq}
use native.Mathlib.Omega.{arith}
use lib.ListN.{length}
use lib.Dec.{ltb, leb}
use Rattle.text.specs.Text.{well_formed}
use Rattle.fields.specs.Fields.{le_at}
use Rattle.edge.specs.declared.NumFields.{NumFields}
use Rattle.edge.specs.declared.EdgeView.{EdgeView}
use Rattle.edge.specs.Layout.{stands, only, map_at, text_at, string_end, txt_at, head_end, script_at, value_sAt, decimals_at, fields_end, next_at, numeric_at, edge_at}
use Rattle.edge.specs.Check.{allowed, each, up_to_top, sound_fraction, sound_count, sound_numeric, sound, good, check_edges, check_listing, good_from, fault_from, accepted, listing_refusal, listing_place, ListingAnswer}
use Rattle.fields.specs.Part.{part_of}
use Rattle.edge.specs.View.{part_at, part_if, view_at, fields_at, numeric_of, numbers_sound, fields_sound, Inside}
use borrow.Author.Tests.{le-leb, lt-leb, lt-ltb, le-ltb, leb-true}
use Rattle.edge.proofs.LayoutLaws.{if_on, string_end_ge, within}
use Rattle.std.specs.Prelude.{Result, Ok, Err}
use Rattle.text.specs.declared.Offset.{Offset}

-- ---- fields that may be absent
each_or : {A : Type 0} (p : A → Bool) (on : Bool) (a : A) → (not on || p a) ≡ each p (only on a)
each_or p true a = refl
each_or p false a = refl

each_if : {A : Type 0} (p : A → Bool) (on : Bool) (a : A) → cond on (p a) true ≡ each p (only on a)
each_if p true a = refl
each_if p false a = refl

-- what stands for an absent field is not looked at
only_if : {A B : Type 0} (f : A → B) (on : Bool) (a b : A) → only on (f (cond on a b)) ≡ only on (f a)
only_if f true a b = refl
only_if f false a b = refl

only_pair : (on : Bool) (a b : ℕ) → only {A = ℕ × ℕ} on (cond on a 0, cond on b 0) ≡ only on (a, b)
only_pair true a b = refl
only_pair false a b = refl

-- ---- the fields of a numeric edge
pub numbers_tested : (d : NumFields) {b c e : Bool} → b ≡ stands 2 d.map → c ≡ stands 3 d.map → e ≡ stands 9 d.map
    → (((not b || sound_fraction (d.numerator, d.denominator)) && (not c || up_to_top d.base)) && (not e || sound_count d.decimals)) ≡ numbers_sound d
unfolding numbers_sound
numbers_tested d p q r =
    rw (p, q, r, each_or sound_fraction (stands 2 d.map) (d.numerator, d.denominator), each_or up_to_top (stands 3 d.map) d.base, each_or sound_count (stands 9 d.map) d.decimals)

pub fields_tested : (s : List ℕ) (d : NumFields) {n o c v : Bool} → n ≡ numbers_sound d → o ≡ well_formed (part_of s d.orig)
    → c ≡ cond (stands 5 d.map) (well_formed (part_of s d.script)) true → v ≡ cond (stands 8 d.map) (well_formed (part_of s d.value_s)) true
    → (((n && o) && c) && v) ≡ fields_sound s d
unfolding sound_numeric numeric_of numbers_sound
fields_tested s d n o c v =
    rw (n, o, c ∙ each_if well_formed (stands 5 d.map) (part_of s d.script), v ∙ each_if well_formed (stands 8 d.map) (part_of s d.value_s))

-- the code's fields say what the definition reads
pub fields_say : (m : ℕ) (s : List ℕ) (at : ℕ) → numeric_of s s s (fields_at m s at) ≡ numeric_at m s at
unfolding numeric_of fields_at numeric_at text_at
fields_say m s at =
    let v = string_end s at in
    rw (
      only_if (λ (n : ℕ). n) (stands 1 m) (le_at s v 8) 0,
      only_if (λ (n : ℕ). n) (stands 3 m) _ 0,
      only_if (λ (n : ℕ). n) (stands 4 m) _ 0,
      only_if (λ (n : ℕ). n) (stands 9 m) (le_at s (decimals_at m s v) 1) 0,
      only_if (part_of s) (stands 5 m) (part_at s (script_at m v)) _,
      only_if (part_of s) (stands 8 m) (part_at s (value_sAt m s v)) _,
      only_pair (stands 2 m),
    )

-- the texts of a numeric edge that ends within n bytes are within them
pub fields_inside : (m : ℕ) (s : List ℕ) (at n : ℕ) → fields_end m s at ≤ n → Inside n (fields_at m s at)
unfolding fields_at string_end
fields_inside m s at n h =
    let w = within m s at n h in
    record { orig = w.value_at; script = λ on. part_end (stands 5 m) _ on (w.script on); value_s = λ on. part_end (stands 8 m) _ on (w.value_s on) }
  where
    part_end : (b : Bool) (a : ℕ) → b ≡ true → string_end s a ≤ n → (part_if b s a).at.0 + (part_if b s a).len ≤ n
    part_end b a on k = rw on k

-- ---- the head of an edge
pub head_within : (s : List ℕ) (at n : ℕ) → next_at s at ≤ n → head_end s at ≤ n
unfolding next_at
head_within s at n h = le_trans (go (stands 0 (map_at s at))) h
  where
    go : (on : Bool) → head_end s at ≤ cond on (fields_end (map_at s at) s (head_end s at)) (head_end s at)
    go true = le_trans (omega (arith, string_end_ge s (head_end s at))) (within (map_at s at) s (head_end s at) (fields_end (map_at s at) s (head_end s at)) (omega arith)).value_at
    go false = omega arith

pub fields_within : (s : List ℕ) (at n : ℕ) → next_at s at ≤ n → stands 0 (map_at s at) ≡ true → fields_end (map_at s at) s (head_end s at) ≤ n
unfolding next_at
fields_within s at n h on = le_trans (le_of_eq (if_on (stands 0 (map_at s at)) _ _ on refl)) h

module _ (s : List ℕ) (at n : ℕ) (e : EdgeView) (read : e ≡ view_at s at) where
  pub type_within : head_end s at ≤ n → e.ty.at.0 + e.ty.len ≤ n
  unfolding view_at string_end
  type_within h = rw read (omega arith)

  pub txt_within : head_end s at ≤ n → e.txt.at.0 + e.txt.len ≤ n
  unfolding view_at string_end
  txt_within h = rw read (omega arith)

  pub view_fields : next_at s at ≤ n → stands 0 e.map ≡ true → fields_end e.map s e.fields.0 ≤ n
  unfolding view_at
  view_fields h = rw read (fields_within s at n h)

  pub edge_tested : {a b f : Bool} → a ≡ well_formed (part_of s e.ty) → b ≡ well_formed (part_of s e.txt) → f ≡ each sound_numeric (only (stands 0 e.map) (numeric_at e.map s e.fields.0))
      → (((ltb e.start.0 e.end.0 && leb e.end.0 n) && (a && b)) && f) ≡ sound n (edge_at s at)
  unfolding view_at sound edge_at text_at
  edge_tested a b f = rw (a, b, f, read)

-- the answer of the code, by bit 0 of the map
module _ (m : ℕ) (s : List ℕ) (at : ℕ) {b : Bool} (bit-0 : b ≡ stands 0 m) where
  pub numeric_tested : {d : NumFields} {r : Bool} → b ≡ true → d ≡ fields_at m s at → r ≡ fields_sound s d → r ≡ each sound_numeric (only (stands 0 m) (numeric_at m s at))
  numeric_tested on p q = rw (sym bit-0 ∙ on) (q ∙ rw p (ap sound_numeric (fields_say m s at)))

  pub regular_tested : b ≡ false → true ≡ each sound_numeric (only (stands 0 m) (numeric_at m s at))
  regular_tested off = rw (sym bit-0 ∙ off)

-- ---- the edges of a listing
pub map_within : (s : List ℕ) (at n : ℕ) → next_at s at ≤ n → at + 2 ≤ n
map_within s at n h = omega (arith, head_within s at n h, string_end_ge s (at + 6), string_end_ge s (txt_at s at))

pub next_within : (s : List ℕ) (at n : ℕ) {next : ℕ} → next ≡ next_at s at → next ≤ n → next_at s at ≤ n
next_within s at n e h = omega arith

module _ (given : Bool) (n : ℕ) (s : List ℕ) (at : ℕ) where
  pub edge_cut : {next : ℕ} → next ≡ next_at s at → length s < next → false ≡ good given n s at
  unfolding good
  edge_cut e h = sym (rw (lt-leb (next_at s at) (length s) (omega arith)))

  pub edge_whole : {next m : ℕ} {a b : Bool} → next ≡ next_at s at → next ≤ length s → m ≡ map_at s at → a ≡ allowed given m → b ≡ sound n (edge_at s at) → (a && b) ≡ good given n s at
  unfolding good
  edge_whole e h m a b = rw (le-leb (next_at s at) (length s) (omega arith), a, b, m)

  pub good_whole : good given n s at ≡ true → next_at s at ≤ length s
  unfolding good
  good_whole t = leb-true (next_at s at) (length s) (go (leb (next_at s at) (length s)) _ t)
    where
      go : (b c : Bool) → (b && c) ≡ true → b ≡ true
      go true c t = refl
      go false c t = t

  pub good_next : {next : ℕ} → next ≡ next_at s at → good given n s at ≡ true → next ≤ length s
  good_next e t = rw e (good_whole t)

  module _ (k : ℕ) (some_left : 0 < k) where
    one_left : k ≡ suc (k - 1)
    one_left = omega arith

    pub check_bad : good given n s at ≡ false → Err (record { 0 = at }) ≡ check_edges given n s k at
    unfolding check_edges
    check_bad b = sym (ap (λ (j : ℕ). check_edges given n s j at) one_left ∙ rw b)

    pub check_good : {next : ℕ} → next ≡ next_at s at → good given n s at ≡ true → check_edges given n s (k - 1) next ≡ check_edges given n s k at
    unfolding check_edges
    check_good e b = sym (ap (λ (j : ℕ). check_edges given n s j at) one_left ∙ rw (b, e))

  module _ (k : ℕ) (none_left : k ≤ 0) where
    none_left_is : k ≡ 0
    none_left_is = omega arith

    pub check_left_over : at < length s → Err (record { 0 = at }) ≡ check_edges given n s k at
    unfolding check_edges
    check_left_over h = sym (rw (none_left_is, lt-ltb at (length s) h))

    pub check_ends : {count : ℕ} → length s ≤ at → count ≡ le_at s 0 2 → Ok count ≡ check_edges given n s k at
    unfolding check_edges
    check_ends h e = sym (rw (none_left_is, le-ltb at (length s) h, e))

module _ (given : Bool) (n : ℕ) (s : List ℕ) where
  pub check_no_count : length s < 2 → Err (record { 0 = 0 }) ≡ check_listing given n s
  unfolding check_listing
  check_no_count h = sym (rw (lt-leb 2 (length s) h))

  pub check_count : {count : ℕ} → 2 ≤ length s → count ≡ le_at s 0 2 → check_edges given n s count 2 ≡ check_listing given n s
  unfolding check_listing
  check_count h e = sym (rw (le-leb 2 (length s) h, e))

-- ---- what an answer says of the listing: 01's number, and its offset or count
cond_not : {A : Type 0} (b : Bool) (x y : A) → cond b x y ≡ cond (not b) y x
cond_not true x y = refl
cond_not false x y = refl

answers_told : (fine : Bool) (count at : ℕ) → let r = cond {A = Result ℕ Offset} fine (Ok count) (Err (record { 0 = at })) in (listing_refusal r ≡ cond fine 0 6) × (listing_place r ≡ cond fine count at)
answers_told true count at = (refl, refl)
answers_told false count at = (refl, refl)

module _ (given : Bool) (n : ℕ) (s : List ℕ) where
  abbrev answered : Bool → ℕ → Result ℕ Offset
  answered fine at = cond fine (Ok (le_at s 0 2)) (Err (record { 0 = at }))

  edges_told : (k at : ℕ) → check_edges given n s k at ≡ answered (good_from given n s k at) (fault_from given n s k at)
  unfolding check_edges good_from fault_from
  edges_told zero at = cond_not (ltb at (length s)) _ _
  edges_told (suc k) at = go (good given n s at) (edges_told k (next_at s at))
    where
      go : (b : Bool) → check_edges given n s k (next_at s at) ≡ answered (good_from given n s k (next_at s at)) (fault_from given n s k (next_at s at))
          → cond b (check_edges given n s k (next_at s at)) (Err (record { 0 = at })) ≡ answered (b && good_from given n s k (next_at s at)) (cond b (fault_from given n s k (next_at s at)) at)
      go true later = later
      go false later = refl

  listing_told : check_listing given n s ≡ answered (accepted given n s) (cond (leb 2 (length s)) (fault_from given n s (le_at s 0 2) 2) 0)
  unfolding check_listing
  listing_told = go (leb 2 (length s))
    where
      go : (b : Bool) → cond b (check_edges given n s (le_at s 0 2) 2) (Err (record { 0 = 0 })) ≡ answered (b && good_from given n s (le_at s 0 2) 2) (cond b (fault_from given n s (le_at s 0 2) 2) 0)
      go true = edges_told (le_at s 0 2) 2
      go false = refl

  pub listing_answer : {r : Result ℕ Offset} → r ≡ check_listing given n s → ListingAnswer given n s r
  listing_answer e =
      let told = answers_told (accepted given n s) (le_at s 0 2) (cond (leb 2 (length s)) (fault_from given n s (le_at s 0 2) 2) 0) in
      record { is = e; number = ap listing_refusal (e ∙ listing_told) ∙ told.0; place = ap listing_place (e ∙ listing_told) ∙ told.1 }
