-- A path is never longer than the listing that is read (the C header says so): its edges are edges of the listing, each at most once, since their starts rise.
-- In order: sizes of edges, by where they start; the edges of a listing; a path; what is said. Assumes nothing.
use Prim.Native.Nat.{ℕ, zero, suc, ◌+◌, ◌-◌, ◌≤◌, ◌<◌}
use mathlib.Core.Path.{◌≡◌, refl, ap, ◌∙◌}
use mathlib.Core.Bool.{Bool, false, cond}
use mathlib.Core.List.{List, [], ◌∷◌, ◌++◌}
use mathlib.Core.Option.{none, some}
use native.Mathlib.Nat.{min-le_left}
use native.Mathlib.Omega.{arith}
use lib.ListN.{length, take, drop, length-append, length-take}
use lib.Dec.{leb, ltb}
use borrow.Author.Tests.{leb-true, leb-false}
use Rattle.text.specs.declared.Place.{Place}
use Rattle.text.proofs.RowLaws.{cond_cases}
use Rattle.fields.specs.Fields.{bytes_of}
use Rattle.fields.specs.Part.{part}
use Rattle.fields.proofs.FieldsLaws.{length-bytes_of}
use Rattle.edge.specs.Edge.{Edge}
use Rattle.edge.specs.Layout.{next_at}
use Rattle.paths.specs.declared.Query.TheVariants as Query
use Rattle.paths.specs.declared.ReadRefusal.TheVariants.{ShortOutput}
use Rattle.paths.specs.Best.{Best, score, with_offsets, Whole}
use Rattle.text.specs.Line.{line_check}
use Rattle.edge.specs.Check.{check_listing}
use Rattle.paths.specs.Reading.{after_listing, after_line, read_check, readable, inside, Spans}
use Rattle.paths.specs.Path.{passed, onward, path_from, path, edge_parts, path_listing, rights, refused, fitting, path_in, path_out}
use Rattle.paths.proofs.BestLaws.{head_bytes_lem, Each, each_map, OfBest, best_holds, best_positive, score_asks, right_start}
use Rattle.paths.proofs.ReadingLaws.{reads, spans_whole, best_listed, Listed}
use Rattle.paths.specs.Shorter.{Shorter}
use Rattle.std.specs.Prelude.{Result, Ok, Err}
use Rattle.text.specs.declared.LineRefusal.{LineRefusal}
use Rattle.text.specs.declared.Offset.{Offset}
use Rattle.paths.specs.declared.ReadRefusal.{ReadRefusal}

module _ (s : List ℕ) where
  -- ---- sizes: of one edge; of all; of those that start at place p or later
  abbrev size : ℕ × Edge → ℕ
  size x = next_at s x.0 - x.0

  abbrev sizes : List (ℕ × Edge) → ℕ
  sizes [] = 0
  sizes (x ∷ xs) = size x + sizes xs

  abbrev counts : ℕ → ℕ × Edge → ℕ
  counts p x = cond (leb p x.1.start) (size x) 0

  abbrev sizes_from : ℕ → List (ℕ × Edge) → ℕ
  sizes_from p [] = 0
  sizes_from p (x ∷ xs) = counts p x + sizes_from p xs

  parts_short : (xs : List (ℕ × Edge)) → length (edge_parts s xs) ≤ sizes xs
  unfolding edge_parts part
  parts_short [] = omega arith
  parts_short (x ∷ xs) =
      let a : length (take (next_at s x.0 - x.0) (drop x.0 s)) ≤ size x = rw (length-take (next_at s x.0 - x.0) (drop x.0 s)) (min-le_left _ _) in
      rw (length-append (take (next_at s x.0 - x.0) (drop x.0 s)) (edge_parts s xs)) (omega (arith, parts_short xs))

  counts_all : (p : ℕ) (x : ℕ × Edge) → counts p x ≤ size x
  counts_all p x = cond_cases (λ (n : ℕ). n ≤ size x) (leb p x.1.start) (λ t. omega arith) (λ t. omega arith)

  from_all : (p : ℕ) (xs : List (ℕ × Edge)) → sizes_from p xs ≤ sizes xs
  from_all p [] = omega arith
  from_all p (x ∷ xs) = omega (arith, counts_all p x, from_all p xs)

  counts_later : (p q : ℕ) → p ≤ q → (x : ℕ × Edge) → counts q x ≤ counts p x
  counts_later p q h x =
      cond_cases (λ (n : ℕ). n ≤ counts p x) (leb q x.1.start)
      (λ t. cond_cases (λ (n : ℕ). size x ≤ n) (leb p x.1.start) (λ u. omega arith) (λ u. absurd (omega (arith, leb-true q x.1.start t, leb-false p x.1.start u))))
      (λ t. omega arith)

  from_later : (p q : ℕ) → p ≤ q → (xs : List (ℕ × Edge)) → sizes_from q xs ≤ sizes_from p xs
  from_later p q h [] = omega arith
  from_later p q h (x ∷ xs) = omega (arith, counts_later p q h x, from_later p q h xs)

  -- an edge that starts at p, and those that start later, are among those from p on
  abbrev Fits : ℕ → List (ℕ × Edge) → ℕ × Edge → Type 0
  Fits p xs x = x.1.start ≡ p → size x + sizes_from (suc p) xs ≤ sizes_from p xs

  here : (p : ℕ) (x : ℕ × Edge) (xs : List (ℕ × Edge)) → Fits p (x ∷ xs) x
  here p x xs e =
      let a = from_later p (suc p) (omega arith) xs in
      cond_cases (λ (n : ℕ). size x + (n + sizes_from (suc p) xs) ≤ counts p x + sizes_from p xs) (leb (suc p) x.1.start)
      (λ t. absurd (omega (arith, leb-true (suc p) x.1.start t)))
      (λ t. cond_cases (λ (n : ℕ). size x + (0 + sizes_from (suc p) xs) ≤ n + sizes_from p xs) (leb p x.1.start) (λ u. omega arith) (λ u. absurd (omega (arith, leb-false p x.1.start u))))

  each_fits : (p : ℕ) (xs : List (ℕ × Edge)) → Each (Fits p xs) xs
  each_fits p [] = tt
  each_fits p (y ∷ ys) = (here p y ys, each_map (Fits p ys) (Fits p (y ∷ ys)) (λ x f e. let a = counts_later p (suc p) (omega arith) y in omega (arith, f e)) ys (each_fits p ys))

  -- ---- the edges of a listing are one behind the other
  sizes_all : (k at : ℕ) → Whole k s at → sizes (with_offsets k s at) + at ≤ length s
  unfolding Whole with_offsets
  sizes_all zero at w = omega arith
  sizes_all (suc k) at w = let a = head_bytes_lem s at (next_at s at) (omega arith) in omega (arith, sizes_all k (next_at s at) w.1)

  -- ---- a path over the k edges of the listing
  module _ (n k : ℕ) (spans : Spans n k s 2) (skip : Bool) (z : ℕ) where
    abbrev xs : List (ℕ × Edge)
    xs = with_offsets k s 2

    abbrev right : ℕ → Best
    right = rights skip s k

    -- what a step from p takes
    record Step (p : ℕ) (x : ℕ × Edge) : Type 0 where
      pub leads_on : p < x.1.end
      pub fits : size x + sizes_from (suc p) xs ≤ sizes_from p xs

    both : (p : ℕ) (b : Best) → OfBest (Fits p xs) b → OfBest (λ x. 0 < score skip (Query.Right (record { 0 = p })) x.1) b → OfBest (Listed n s) b → OfBest (Step p) b
    both p none f g l = tt
    both p (some x) f g l =
        let e = right_start (record { 0 = p }) x.1.start x.1.end (score_asks skip (Query.Right (record { 0 = p })) x.1 g) in
        let r : x.1.start < x.1.end = rw l.edge l.span.rises in
        record { leads_on = omega arith; fits = f e }

    steps : (p : ℕ) → OfBest (Step p) (right p)
    steps p =
        let q = Query.Right (record { 0 = p }) in
        both p (right p) (best_holds skip q (Fits p xs) xs (each_fits p xs)) (best_positive skip q xs) (best_listed skip q n k s 2 spans)

    taken : (p : ℕ) (b : Best) (ys : List (ℕ × Edge)) → OfBest (Step p) b → sizes ys ≤ sizes_from (onward p b) xs → sizes (passed b ++ ys) ≤ sizes_from p xs
    taken p none ys h r = omega (arith, from_later p (suc p) (omega arith) xs)
    taken p (some x) ys h r = let a = h.leads_on in omega (arith, h.fits, from_later (suc p) x.1.end (omega arith) xs)

    path_sizes : (j p : ℕ) → sizes (path_from right j p z) ≤ sizes_from p xs
    unfolding path_from
    path_sizes zero p = omega arith
    path_sizes (suc j) p =
        cond_cases (λ (ys : List (ℕ × Edge)). sizes ys ≤ sizes_from p xs) (ltb p z)
        (λ t. taken p (right p) (path_from right j (onward p (right p)) z) (steps p) (path_sizes j (onward p (right p))))
        (λ t. omega arith)

    path_shorter : (a : ℕ) → length (path_listing s (path right a z)) ≤ length s
    unfolding path_listing
    path_shorter a =
        let ys = path right a z in
        let l = length-bytes_of 2 (length ys) in
        rw (length-append (bytes_of 2 (length ys)) (edge_parts s ys))
        (omega (arith, parts_short ys, path_sizes (z - a) a, from_all a xs, sizes_all k 2 (spans_whole n k s 2 spans)))

-- the checks of a reading call never refuse 8
never_short : (line s : List ℕ) → read_check line s ≡ Err ShortOutput → ⊥
unfolding read_check
never_short line s e = by_line (line_check line) e
  where
    by_listing : (n : ℕ) (c : Result ℕ Offset) → after_listing n c ≡ Err ShortOutput → ⊥
    by_listing n (Ok k) e = let z : ◌≡◌ {A = ℕ} 0 1 = cc in omega arith
    by_listing n (Err at) e = let z : ◌≡◌ {A = ℕ} 0 1 = cc in omega arith

    by_line : (c : Result ℕ LineRefusal) → after_line c s ≡ Err ShortOutput → ⊥
    by_line (Ok n) e = by_listing n (check_listing false n s) e
    by_line (Err (LineRefusal.IllFormed at)) e = let z : ◌≡◌ {A = ℕ} 0 1 = cc in omega arith
    by_line (Err (LineRefusal.TooLong at)) e = let z : ◌≡◌ {A = ℕ} 0 1 = cc in omega arith

-- ---- what is said: of the path that a call writes, whatever the output; and in an output as long as the listing it is never refused 8
module _ (line s : List ℕ) (a z : Place) (skip : Bool) (room : ℕ) where
  fitted : (bytes : List ℕ) → length bytes ≤ length s → Shorter s room (fitting room bytes)
  unfolding fitting
  fitted bytes h =
      cond_cases (Shorter s room) (leb (length bytes) room)
      (λ t. record { written = λ cs e. let q : bytes ≡ cs = cc in rw (← q) h; short = λ e. let z : ◌≡◌ {A = ℕ} 0 1 = cc in absurd (omega arith) })
      (λ t. record { written = λ cs e. let z : ◌≡◌ {A = ℕ} 0 1 = cc in absurd (omega arith); short = λ e. omega (arith, leb-false (length bytes) room t) })

  pub path_out_shorter : Shorter s room (path_out line s a z skip room)
  unfolding path_out
  path_out_shorter = go (read_check line s) refl
    where
      go : (c : Result (ℕ × ℕ) ReadRefusal) → read_check line s ≡ c → Shorter s room (readable refused (path_in s a z skip room) c)
      go (Ok (n, k)) e =
          cond_cases (Shorter s room) (inside n (Query.Span a z))
          (λ t. fitted (path_listing s (path (rights skip s k) a.0 z.0)) (path_shorter s n k (reads line s n k e).spans skip z.0 a.0))
          (λ t. record { written = λ cs e. let z : ◌≡◌ {A = ℕ} 0 1 = cc in absurd (omega arith); short = λ e. let z : ◌≡◌ {A = ℕ} 0 1 = cc in absurd (omega arith) })
      go (Err r) e = record { written = λ cs f. let z : ◌≡◌ {A = ℕ} 0 1 = cc in absurd (omega arith); short = λ f. let q : r ≡ ShortOutput = cc in absurd (never_short line s (e ∙ ap Err q)) }
