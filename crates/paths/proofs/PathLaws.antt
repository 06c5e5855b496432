-- Laws of the path (`specs/Path.antt`) and of the loops that size and write it. No contract cites this file.
-- In order: what holds of its edges; a step of a path; its length; its size; its bytes; the whole output. Assumes nothing.
use mathlib.Core.Path.{◌≡◌, refl, sym, ap, ◌∙◌}
use mathlib.Core.Bool.{Bool, true, false, cond}
use mathlib.Core.List.{List, [], ◌∷◌, ◌++◌, append_assoc, append-nil}
use mathlib.Core.Option.{none, some}
use Prim.Native.Nat.{ℕ, zero, suc, ◌+◌, ◌-◌, ◌≤◌, ◌<◌}
use native.Mathlib.Nat.{zero-add}
use native.Mathlib.Numerals.{add-one}
use native.Mathlib.Omega.{arith}
use lib.ListN.{length, get_or, take, drop, length-append}
use lib.Seq.{sets, sets-eq, length-sets}
use lib.Dec.{ltb, leb}
use borrow.Author.Tests.{lt-ltb, le-ltb, ltb-true, le-leb, lt-leb, leb-true}
use Rattle.text.specs.declared.Place.{Place}
use Rattle.text.specs.declared.Offset.{Offset}
use Rattle.text.proofs.RowLaws.{cond_cases, and-true}
use Rattle.whole.proofs.SetsLaws.{sets_then}
use Rattle.fields.specs.Fields.{bytes_of}
use Rattle.fields.specs.Part.{part}
use Rattle.fields.proofs.FieldsLaws.{length-bytes_of}
use Rattle.fields.proofs.PartLaws.{length_part}
use Rattle.edge.specs.Edge.{Edge}
use Rattle.edge.specs.Layout.{next_at, edge_at}
use Rattle.edge.proofs.CheckLaws.{map_within}
use Rattle.paths.specs.declared.Query.TheVariants as Query
use Rattle.paths.specs.declared.ReadRefusal.TheVariants.{ShortOutput, BadPlace}
use Rattle.paths.specs.Best.{Best}
use Rattle.paths.specs.Path.{passed, onward, path_from, path, edge_part, edge_parts, path_listing, rights, listing, refused, fitting, path_out, written, after}
use Rattle.paths.specs.Reading.{read_check, inside}
use Rattle.paths.specs.Table.{by_table, Rights, Steps, hop_of, size_of}
use Rattle.paths.proofs.BestLaws.{Each, each_append, OfBest}
use Rattle.std.specs.Prelude.{Option, Some, None, Ok, Err}
use Rattle.std.proofs.lemmas.Option.{some_pair_parts}

-- ---- what holds of every right neighbour holds of each edge of a path
module _ (P : ℕ × Edge → Type 0) (right : ℕ → Best) (h : (p : ℕ) → OfBest P (right p)) (z : ℕ) where
  passed_each : (b : Best) → OfBest P b → Each P (passed b)
  passed_each none h = tt
  passed_each (some x) h = (h, tt)

  pub path_each : (k p : ℕ) → Each P (path_from right k p z)
  unfolding path_from
  path_each zero p = tt
  path_each (suc k) p =
      cond_cases (Each P) (ltb p z)
      (λ t. each_append P (passed (right p)) (path_from right k (onward p (right p)) z) (passed_each (right p) (h p)) (path_each k (onward p (right p))))
      (λ t. tt)

-- ---- a step of a path
module _ (right : ℕ → Best) (z : ℕ) (progress : (p : ℕ) → p < z → p < onward p (right p)) where
  -- more steps than places change nothing
  steps_enough : (k j p : ℕ) → z - p ≤ k → z - p ≤ j → path_from right k p z ≡ path_from right j p z
  unfolding path_from
  steps_enough zero zero p h i = refl
  steps_enough zero (suc j) p h i = rw (le-ltb p z (omega arith))
  steps_enough (suc k) zero p h i = rw (le-ltb p z (omega arith))
  steps_enough (suc k) (suc j) p h i = by_test (ltb p z) refl (steps_enough k j (onward p (right p)))
    where
      by_test : (t : Bool) → ltb p z ≡ t → (z - onward p (right p) ≤ k → z - onward p (right p) ≤ j → path_from right k (onward p (right p)) z ≡ path_from right j (onward p (right p)) z)
          → cond t (passed (right p) ++ path_from right k (onward p (right p)) z) [] ≡ cond t (passed (right p) ++ path_from right j (onward p (right p)) z) []
      by_test true e ih =
          let on = progress p (ltb-true p z e) in
          ap (λ (xs : List (ℕ × Edge)). passed (right p) ++ xs) (ih (omega arith) (omega arith))
      by_test false e ih = refl

  module _ (p : ℕ) (h : p < z) where
    path_on : path right p z ≡ passed (right p) ++ path right (onward p (right p)) z
    unfolding path_from
    path_on =
        let e : z - p ≡ suc (z - p - 1) = omega arith in
        let on = progress p h in
        ap (λ (k : ℕ). path_from right k p z) e
        ∙ rw (lt-ltb p z h) (ap (λ (xs : List (ℕ × Edge)). passed (right p) ++ xs) (steps_enough (z - p - 1) (z - onward p (right p)) (onward p (right p)) (omega arith) (omega arith)))

    pub path_pass : right p ≡ none → path right p z ≡ path right (p + 1) z
    path_pass e = path_on ∙ rw (e, add-one)

    pub path_take : {x : ℕ × Edge} → right p ≡ some x → path right p z ≡ x ∷ path right x.1.end z
    path_take e = path_on ∙ rw e

pub path_done : (right : ℕ → Best) (p z : ℕ) → z ≤ p → path right p z ≡ []
unfolding path_from
path_done right p z h = let e : z - p ≡ 0 = omega arith in rw e

-- the path looks only at places before its end
pub path_same : (f g : ℕ → Best) (z : ℕ) → ((p : ℕ) → p < z → f p ≡ g p) → (k p : ℕ) → path_from f k p z ≡ path_from g k p z
unfolding path_from
path_same f g z same zero p = refl
path_same f g z same (suc k) p = by_test (ltb p z) refl (path_same f g z same k)
  where
    by_test : (t : Bool) → ltb p z ≡ t → ((i : ℕ) → path_from f k i z ≡ path_from g k i z)
        → cond t (passed (f p) ++ path_from f k (onward p (f p)) z) [] ≡ cond t (passed (g p) ++ path_from g k (onward p (g p)) z) []
    by_test true e ih = rw (same p (ltb-true p z e)) (ap (λ (xs : List (ℕ × Edge)). passed (g p) ++ xs) (ih (onward p (g p))))
    by_test false e ih = refl

-- ---- its length: at most an edge a place
length_passed : (b : Best) → length (passed b) ≤ 1
length_passed none = omega arith
length_passed (some x) = omega arith

pub path_short : (right : ℕ → Best) (z k p : ℕ) → length (path_from right k p z) ≤ k
unfolding path_from
path_short right z zero p = omega arith
path_short right z (suc k) p =
    cond_cases (λ (xs : List (ℕ × Edge)). length xs ≤ suc k) (ltb p z)
    (λ t. rw (length-append (passed (right p)) (path_from right k (onward p (right p)) z)) (omega (arith, length_passed (right p), path_short right z k (onward p (right p)))))
    (λ t. omega arith)

-- ---- the steps that the tables give
-- the path from p on, by a step over the edge from a to b, which ends at place e
pub record Stepped (s : List ℕ) (right : ℕ → Best) (z p a b e : ℕ) : Type 0 where
  pub path_is : path right p z ≡ (a, edge_at s a) ∷ path right e z
  pub next : b ≡ next_at s a
  pub within : b ≤ length s
  pub rises : a ≤ b
  pub leads_on : p < e

-- the path from p on, by what `hop_from` answers there
pub record Hopped (s : List ℕ) (right : ℕ → Best) (z p : ℕ) (hop : Option (Offset × Offset × Place)) : Type 0 where
  pub past : hop ≡ None → path right p z ≡ path right (p + 1) z
  pub over : {a b : Offset} {e : Place} → hop ≡ Some (a, b, e) → Stepped s right z p a.0 b.0 e.0

module _ (s tops ats : List ℕ) (w : Steps s tops ats) (z : ℕ) (few : z ≤ 256) where
  pub table_progress : (p : ℕ) → p < z → p < onward p (by_table s tops ats p)
  table_progress p h =
      cond_cases (λ (b : Best). p < onward p b) (ltb 0 (get_or tops p 0))
      (λ t. (w p (omega arith) (ltb-true 0 (get_or tops p 0) t)).leads_on)
      (λ t. omega arith)

  module _ (p : ℕ) (h : p < z) where
    passes : hop_of s (by_table s tops ats p) ≡ None → path (by_table s tops ats) p z ≡ path (by_table s tops ats) (p + 1) z
    unfolding hop_of
    passes e = path_pass (by_table s tops ats) z table_progress p h (is_none (by_table s tops ats p) e)
      where
        is_none : (b : Best) → hop_of s b ≡ None → b ≡ none
        is_none none e = refl
        is_none (some x) e = let q : ◌≡◌ {A = ℕ} 0 1 = cc in absurd (omega arith)

    takes : {a b : Offset} {e : Place} → hop_of s (by_table s tops ats p) ≡ Some (a, b, e) → Stepped s (by_table s tops ats) z p a.0 b.0 e.0
    unfolding hop_of
    takes {a} {b} {e} t =
        by_test (ltb 0 (get_or tops p 0)) refl t
      where
        by_test : (u : Bool) → ltb 0 (get_or tops p 0) ≡ u → hop_of s (cond u (some (get_or ats p 0, edge_at s (get_or ats p 0))) none) ≡ Some (a, b, e) → Stepped s (by_table s tops ats) z p a.0 b.0 e.0
        by_test false u t = let q : ◌≡◌ {A = ℕ} 0 1 = cc in absurd (omega arith)
        by_test true u t =
            let o = get_or ats p 0 in
            let f = w p (omega arith) (ltb-true 0 (get_or tops p 0) u) in
            let k : ◌≡◌ {A = Offset × Offset × Place} (record { 0 = o }, record { 0 = next_at s o }, record { 0 = (edge_at s o).end }) (a, b, e) = cc in
            let x : ◌≡◌ {A = Offset} (record { 0 = o }) a = ap (λ (y : Offset × Offset × Place). y.0) k in
            let y : ◌≡◌ {A = Offset} (record { 0 = next_at s o }) b = ap (λ (y : Offset × Offset × Place). y.1) k in
            let v : ◌≡◌ {A = Place} (record { 0 = (edge_at s o).end }) e = ap (λ (y : Offset × Offset × Place). y.2) k in
            let is : by_table s tops ats p ≡ some (o, edge_at s o) = rw u in
            rw (← x, ← y, ← v)
            (record {
              path_is = path_take (by_table s tops ats) z table_progress p h is;
              next = refl;
              within = f.whole;
              rises = omega (arith, map_within s o (next_at s o) (omega arith));
              leads_on = f.leads_on;
            })

    -- of both loops: a turn goes past a place, or over an edge
    pub hopped : {hop : Option (Offset × Offset × Place)} → hop ≡ hop_of s (by_table s tops ats p) → Hopped s (by_table s tops ats) z p hop
    hopped is = record { past = λ e. passes (sym is ∙ e); over = λ t. takes (sym is ∙ t) }

-- ---- a loop that sizes the path xs: n edges and len bytes are counted, the path from p on is left
pub record Sized (s : List ℕ) (right : ℕ → Best) (xs : List (ℕ × Edge)) (room z p n len : ℕ) : Type 0 where
  pub count : n + length (path right p z) ≡ length xs
  pub bytes : len + length (edge_parts s (path right p z)) ≡ length (path_listing s xs)
  pub fits : len ≤ room

length_listing : (s : List ℕ) (xs : List (ℕ × Edge)) → 2 + length (edge_parts s xs) ≡ length (path_listing s xs)
unfolding path_listing
length_listing s xs = sym (length-append (bytes_of 2 (length xs)) (edge_parts s xs) ∙ rw (length-bytes_of 2 (length xs)))

pub sized_start : (s : List ℕ) (right : ℕ → Best) (room a z : ℕ) → 2 ≤ room → Sized s right (path right a z) room z a 0 2
sized_start s right room a z h = record { count = zero-add _; bytes = length_listing s (path right a z); fits = h }

pub sized_never : (s : List ℕ) (xs : List (ℕ × Edge)) (room : ℕ) → room < 2 → None ≡ size_of s xs room
unfolding size_of
sized_never s xs room h = rw (lt-leb (length (path_listing s xs)) room (omega (arith, length_listing s xs)))

-- the bytes of a path that begins with an edge
parts_cons : (s : List ℕ) (x : ℕ × Edge) (xs : List (ℕ × Edge)) → edge_parts s (x ∷ xs) ≡ edge_part s x.0 ++ edge_parts s xs
unfolding edge_parts
parts_cons s x xs = refl

parts_nil : (s : List ℕ) → edge_parts s [] ≡ []
unfolding edge_parts
parts_nil s = refl

-- the edge from a to b, and the path behind it
module _ (s : List ℕ) (a b : ℕ) (next : b ≡ next_at s a) (within : b ≤ length s) (rises : a ≤ b) where
  pub edge_part_lem : edge_part s a ≡ take (b - a) (drop a s)
  unfolding part
  edge_part_lem = rw (← next)

  length_edge : length (edge_part s a) ≡ b - a
  length_edge = rw (← next) (length_part s a (b - a) (omega arith))

  pub length_parts : (xs : List (ℕ × Edge)) → length (edge_parts s ((a, edge_at s a) ∷ xs)) ≡ (b - a) + length (edge_parts s xs)
  length_parts xs = ap length (parts_cons s (a, edge_at s a) xs) ∙ length-append (edge_part s a) (edge_parts s xs) ∙ rw length_edge

module _ (s : List ℕ) (right : ℕ → Best) (xs : List (ℕ × Edge)) (room z p n len : ℕ) (w : Sized s right xs room z p n len) where
  pub sized_pass : path right p z ≡ path right (p + 1) z → Sized s right xs room z (p + 1) n len
  sized_pass e = record { count = rw (← e) w.count; bytes = rw (← e) w.bytes; fits = w.fits }

  module _ {a b e : ℕ} (t : Stepped s right z p a b e) where
    left_bytes : len + ((b - a) + length (edge_parts s (path right e z))) ≡ length (path_listing s xs)
    left_bytes = rw (← (length_parts s a b t.next t.within t.rises (path right e z)), ← t.path_is) w.bytes

    left_count : n + suc (length (path right e z)) ≡ length xs
    left_count = ap (λ (ys : List (ℕ × Edge)). n + length ys) (sym t.path_is) ∙ w.count

    pub sized_take : b - a ≤ room - len → Sized s right xs room z e (n + 1) (len + (b - a))
    sized_take h = record { count = omega (arith, left_count); bytes = omega (arith, left_bytes); fits = omega (arith, w.fits) }

    pub sized_over : room - len < b - a → None ≡ size_of s xs room
    unfolding size_of
    sized_over h = rw (lt-leb (length (path_listing s xs)) room (omega (arith, left_bytes, w.fits)))

    pub sized_room : n < length xs
    sized_room = omega (arith, left_count)

  pub sized_ends : z ≤ p → Some (n, len) ≡ size_of s xs room
  unfolding size_of
  sized_ends h =
      let e = path_done right p z h in
      let c : n ≡ length xs = omega (arith, rw e at w.count) in
      let l : len ≡ length (path_listing s xs) = omega (arith, rw (e, parts_nil s) at w.bytes) in
      rw (c, l, le-leb (length (path_listing s xs)) room (omega (arith, w.fits)))

-- ---- a loop that copies the path xs behind the count: the bytes done are stored, the path from p on is left
pub record Copied (s : List ℕ) (right : ℕ → Best) (xs : List (ℕ × Edge)) (z : ℕ) (out₀ out : List ℕ) (p at : ℕ) : Type 0 where
  pub done : List ℕ
  pub bytes : done ++ edge_parts s (path right p z) ≡ edge_parts s xs
  pub stored : out ≡ sets out₀ 2 done
  pub behind : at ≡ 2 + length done

module _ (s : List ℕ) (right : ℕ → Best) (xs : List (ℕ × Edge)) (z : ℕ) (out₀ out : List ℕ) (p at : ℕ) (w : Copied s right xs z out₀ out p at) where
  pub copied_length : length out ≡ length out₀
  copied_length = ap length w.stored ∙ length-sets out₀ 2 w.done

  pub copied_pass : path right p z ≡ path right (p + 1) z → Copied s right xs z out₀ out (p + 1) at
  copied_pass e = record { done = w.done; bytes = rw (← e) w.bytes; stored = w.stored; behind = w.behind }

  module _ {a b e : ℕ} (t : Stepped s right z p a b e) where
    long : length (edge_part s a) ≡ b - a
    long = length_edge s a b t.next t.within t.rises

    cut : edge_part s a ≡ take (b - a) (drop a s)
    cut = edge_part_lem s a b t.next t.within t.rises

    more : (w.done ++ edge_part s a) ++ edge_parts s (path right e z) ≡ edge_parts s xs
    more = append_assoc w.done (edge_part s a) (edge_parts s (path right e z)) ∙ rw (← (parts_cons s (a, edge_at s a) (path right e z)), ← t.path_is) w.bytes

    pub copied_fits : 2 + length (edge_parts s xs) ≤ length out₀ → at + (b - a) ≤ length out
    copied_fits h =
        omega (arith, copied_length, w.behind, ap length (sym more), length-append (w.done ++ edge_part s a) (edge_parts s (path right e z)), length-append w.done (edge_part s a), long)

    pub copied_room : 2 + length (edge_parts s xs) ≤ length out₀ → at + length (take (b - a) (drop a s)) ≤ length out
    copied_room h = rw (← cut, long) (copied_fits h)

    pub copied_take : {now : List ℕ} → now ≡ sets out at (take (b - a) (drop a s)) → Copied s right xs z out₀ now e (at + (b - a))
    copied_take c =
        record {
          done = w.done ++ edge_part s a;
          bytes = more;
          stored = sets_then out₀ 2 at w.done (edge_part s a) w.stored w.behind (rw cut c);
          behind = rw (length-append w.done (edge_part s a), long) (omega (arith, w.behind));
        }

  pub copied_ends : z ≤ p → out ≡ sets out₀ 2 (edge_parts s xs)
  copied_ends h =
      let e : w.done ≡ edge_parts s xs = sym (append-nil w.done) ∙ rw (path_done right p z h, parts_nil s) at w.bytes in
      rw (← e) w.stored

-- ---- the whole output: by the size of the path xs
module _ (s : List ℕ) (xs : List (ℕ × Edge)) (room : ℕ) where
  pub size_over : size_of s xs room ≡ None → fitting room (path_listing s xs) ≡ refused ShortOutput
  unfolding size_of fitting
  size_over = by_test (leb (length (path_listing s xs)) room) refl
    where
      by_test : (t : Bool) → leb (length (path_listing s xs)) room ≡ t → cond {A = Option (ℕ × ℕ)} t (Some (length xs, length (path_listing s xs))) None ≡ None
          → cond t (listing (path_listing s xs)) (refused ShortOutput) ≡ refused ShortOutput
      by_test true t e = let z : ◌≡◌ {A = ℕ} 0 1 = cc in absurd (omega arith)
      by_test false t e = refl

  pub record SizeFits (n len : ℕ) : Type 0 where
    pub count : n ≡ length xs
    pub size : len ≡ length (path_listing s xs)
    pub within : length (path_listing s xs) ≤ room
    pub fits : fitting room (path_listing s xs) ≡ listing (path_listing s xs)

  pub size_fits : {n len : ℕ} → size_of s xs room ≡ Some (n, len) → SizeFits n len
  unfolding size_of fitting
  size_fits {n} {len} = by_test (leb (length (path_listing s xs)) room) refl
    where
      by_test : (t : Bool) → leb (length (path_listing s xs)) room ≡ t → cond {A = Option (ℕ × ℕ)} t (Some (length xs, length (path_listing s xs))) None ≡ Some (n, len) → SizeFits n len
      by_test true t e = let k = some_pair_parts _ n _ len e in record { count = sym k.0; size = sym k.1; within = leb-true (length (path_listing s xs)) room t; fits = rw t }
      by_test false t e = let z : ◌≡◌ {A = ℕ} 0 1 = cc in absurd (omega arith)

out_written : (s : List ℕ) (xs : List (ℕ × Edge)) (out : List ℕ) (n : ℕ) {mid now : List ℕ} → n ≡ length xs → length (path_listing s xs) ≤ length out
    → mid ≡ sets out 0 (bytes_of 2 n) → now ≡ sets mid 2 (edge_parts s xs) → now ≡ path_listing s xs ++ drop (length (path_listing s xs)) out
unfolding path_listing
out_written s xs out n e h p q =
    let l : 2 ≡ 0 + length (bytes_of 2 n) = omega (arith, length-bytes_of 2 n) in
    let k : 0 + length (bytes_of 2 (length xs) ++ edge_parts s xs) ≤ length out = omega arith in
    sets_then out 0 2 (bytes_of 2 n) (edge_parts s xs) p l q
    ∙ rw e (sets-eq (bytes_of 2 (length xs) ++ edge_parts s xs) out 0 k ∙ rw zero-add)

-- the path by the tables is the path
module _ (skip : Bool) (s : List ℕ) (k : ℕ) (tops ats : List ℕ) (r : Rights skip s k tops ats) (a z : ℕ) (few : z ≤ 256) where
  path_table : path (by_table s tops ats) a z ≡ path (rights skip s k) a z
  path_table = path_same (by_table s tops ats) (rights skip s k) z (λ p h. r p (omega arith)) (z - a) a

  pub table_short : length (path (by_table s tops ats) a z) ≤ 256
  table_short = omega (arith, path_short (by_table s tops ats) z (z - a) a)

  module _ (out : List ℕ) where
    pub path_over : size_of s (path (by_table s tops ats) a z) (length out) ≡ None
        → (Err ShortOutput ≡ written (fitting (length out) (path_listing s (path (rights skip s k) a z)))) × (out ≡ after out (fitting (length out) (path_listing s (path (rights skip s k) a z))))
    path_over e =
        let f = size_over s (path (rights skip s k) a z) (length out) (rw path_table at e) in
        (rw f, rw f)

    module _ {n len : ℕ} (e : size_of s (path (by_table s tops ats) a z) (length out) ≡ Some (n, len)) where
      sized : SizeFits s (path (by_table s tops ats) a z) (length out) n len
      sized = size_fits s (path (by_table s tops ats) a z) (length out) e

      pub fits_count : n ≤ 256
      fits_count = omega (arith, sized.count, table_short)

      pub fits_head : 2 ≤ length out
      fits_head = omega (arith, sized.within, length_listing s (path (by_table s tops ats) a z))

      pub fits_edges : {mid : List ℕ} → mid ≡ sets out 0 (bytes_of 2 n) → 2 + length (edge_parts s (path (by_table s tops ats) a z)) ≤ length mid
      fits_edges p = omega (arith, sized.within, length_listing s (path (by_table s tops ats) a z), ap length p, length-sets out 0 (bytes_of 2 n))

      pub path_written : {mid now : List ℕ} → mid ≡ sets out 0 (bytes_of 2 n) → now ≡ sets mid 2 (edge_parts s (path (by_table s tops ats) a z))
          → (Ok len ≡ written (fitting (length out) (path_listing s (path (rights skip s k) a z)))) × (now ≡ after out (fitting (length out) (path_listing s (path (rights skip s k) a z))))
      path_written p q =
          let f : fitting (length out) (path_listing s (path (rights skip s k) a z)) ≡ listing (path_listing s (path (by_table s tops ats) a z)) = rw (← path_table) sized.fits in
          (rw (f, sized.size), rw f (out_written s (path (by_table s tops ats) a z) out n sized.count sized.within p q))

-- the call, where the checks refuse nothing
module _ (line s : List ℕ) (a z : Place) (skip : Bool) (room : ℕ) where
  module _ {n k : ℕ} (e : read_check line s ≡ Ok (n, k)) where
    pub out_outside : inside n (Query.Span a z) ≡ false → refused BadPlace ≡ path_out line s a z skip room
    unfolding path_out
    out_outside h = rw (e, h)

    pub out_inside : inside n (Query.Span a z) ≡ true → fitting room (path_listing s (path (rights skip s k) a.0 z.0)) ≡ path_out line s a z skip room
    unfolding path_out
    out_inside h = rw (e, h)

pub span_inside : (n : ℕ) (a z : Place) → inside n (Query.Span a z) ≡ true → z.0 ≤ n
unfolding inside
span_inside n a z h = leb-true z.0 n (and-true (leb a.0 z.0) (leb z.0 n) h).1
