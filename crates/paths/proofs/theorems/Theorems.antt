-- What 01 says of best edges, neighbours and the text shown, as theorems over the definitions that the contracts cite.
--     best_answers    the edge given is one of those asked for, of the longest span that has an edge to give, and of that span's best class
--     best_first      it is the first of them in listing order
--     first_best      and the first of them is given
--     best_none       none is given exactly where every edge asked for is one that is never given: both ways
--     read_edges      the edges that a call looks at are those of the listing, in its order
--     shown_is        the part handed out for a place is the best right neighbour's txt, or the character's own bytes
-- Assumes nothing.
use mathlib.Core.Path.{◌≡◌, refl, sym, ap, ◌∙◌}
use mathlib.Core.Bool.{Bool, true, false, cond}
use mathlib.Core.List.{List, [], ◌∷◌, ◌++◌, map}
use mathlib.Core.Option.{none, some}
use Prim.Native.Nat.{ℕ, zero, suc, ◌+◌, ◌-◌, ◌*◌, ◌≤◌, ◌<◌, max}
use native.Mathlib.Numerals.{add-one}
use native.Mathlib.Nat.{add-zero, max-le, max-eq_left, max-eq_right}
use native.Mathlib.Decide.{dec_lt}
use native.Mathlib.Omega.{arith}
use lib.ListN.{length, take, drop, length-append, take-append-drop}
use lib.Seq.{take-add}
use lib.Dec.{ltb}
use borrow.Author.Tests.{ltb-true, ltb-false, lt-ltb, eq-eqb, ne_eqb}
use Rattle.text.specs.declared.Place.{Place}
use Rattle.text.specs.Text.{chars, well_formed, encodes, offset_of, part_of}
use Rattle.text.proofs.TextLaws.{encodes_append, well_formed_split}
use Rattle.fields.specs.Part.{part}
use Rattle.fields.proofs.PartLaws.{part_append_right, part_append_first}
use Rattle.edge.specs.Edge.{Text, Edge}
use Rattle.edge.specs.Layout.{text_at, next_at, edge_at, edges_at, listed}
use Rattle.paths.specs.declared.Query.{Query}
use Rattle.paths.specs.declared.Query.TheVariants.{Right}
use Rattle.paths.specs.Best.{class, asked, score, Best, highest, first_of, best, with_offsets, found}
use Rattle.paths.specs.Reading.{read_check}
use Rattle.paths.specs.Shown.{shown_by, shown, shown_part}
use Rattle.paths.proofs.BestLaws.{Each, each_map, each_append, OfBest, scored, best_from, best_walk, class_le, score_asks, score_never, score_asked, best_holds}
use Rattle.paths.proofs.ReadingLaws.{reads, Listed, best_listed}
use Rattle.paths.proofs.ShownLaws.{shown_inside}
use Rattle.std.specs.Prelude.{Ok}

-- ---- the first of the highest score
pub record IsFirst (skip : Bool) (q : Query) (xs : List (ℕ × Edge)) (x : ℕ × Edge) : Type 0 where
  pub front : List (ℕ × Edge)
  pub back : List (ℕ × Edge)
  pub split : xs ≡ front ++ (x ∷ back)
  pub positive : 0 < score skip q x.1
  pub before : Each (λ y. score skip q y.1 < score skip q x.1) front
  pub behind : Each (λ y. score skip q y.1 ≤ score skip q x.1) back

-- what is held stays, or an edge of xs is the first of the highest score, which is above that of what is held
data Ends (skip : Bool) (q : Query) (held : Best) (xs : List (ℕ × Edge)) : Best → Type 0 where
  stays : Each (λ y. score skip q y.1 ≤ scored skip q held) xs → Ends skip q held xs held
  first : (x : ℕ × Edge) → scored skip q held < score skip q x.1 → IsFirst skip q xs x → Ends skip q held xs (some x)

ends : (skip : Bool) (q : Query) (held : Best) (xs : List (ℕ × Edge)) → Ends skip q held xs (best_from skip q held xs)
unfolding best_from
ends skip q held [] = stays tt
ends skip q held (x ∷ xs) = by_test (ltb (scored skip q held) (score skip q x.1)) refl (λ b. ends skip q b xs)
  where
    over : (b : Best) → scored skip q held < score skip q x.1 → Ends skip q (some x) xs b → Ends skip q held (x ∷ xs) b
    over b h (stays e) = first x h (record { front = []; back = xs; split = refl; positive = omega arith; before = tt; behind = e })
    over b h (first y k i) =
        first y (omega arith)
        (record { front = x ∷ i.front; back = i.back; split = ap (λ (zs : List (ℕ × Edge)). x ∷ zs) i.split; positive = i.positive; before = (k, i.before); behind = i.behind })

    under : (b : Best) → score skip q x.1 ≤ scored skip q held → Ends skip q held xs b → Ends skip q held (x ∷ xs) b
    under b h (stays e) = stays (h, e)
    under b h (first y k i) =
        first y k
        (record { front = x ∷ i.front; back = i.back; split = ap (λ (zs : List (ℕ × Edge)). x ∷ zs) i.split; positive = i.positive; before = (omega arith, i.before); behind = i.behind })

    by_test : (t : Bool) → ltb (scored skip q held) (score skip q x.1) ≡ t → ((b : Best) → Ends skip q b xs (best_from skip q b xs))
        → Ends skip q held (x ∷ xs) (best_from skip q (cond t (some x) held) xs)
    by_test true t rest = over (best_from skip q (some x) xs) (ltb-true (scored skip q held) (score skip q x.1) t) (rest (some x))
    by_test false t rest = under (best_from skip q held xs) (ltb-false (scored skip q held) (score skip q x.1) t) (rest held)

ends_best : (skip : Bool) (q : Query) (xs : List (ℕ × Edge)) → Ends skip q none xs (best skip q xs)
ends_best skip q xs = rw (best_walk skip q xs) at (ends skip q none xs)

pub best_first : (skip : Bool) (q : Query) (xs : List (ℕ × Edge)) {x : ℕ × Edge} → best skip q xs ≡ some x → IsFirst skip q xs x
best_first skip q xs {x} e = by_end (best skip q xs) (ends_best skip q xs) e
  where
    by_end : (b : Best) → Ends skip q none xs b → b ≡ some x → IsFirst skip q xs x
    by_end b (stays h) e = let z : ◌≡◌ {A = ℕ} 0 1 = cc in absurd (omega arith)
    by_end b (first y h i) e = let p : y ≡ x = cc in rw p at i

-- and the first of the highest score is given
module _ (skip : Bool) (q : Query) (v : ℕ) where
  highest_below : (xs : List (ℕ × Edge)) → Each (λ y. score skip q y.1 ≤ v) xs → highest skip q xs ≤ v
  unfolding highest
  highest_below [] e = omega arith
  highest_below (x ∷ xs) e = max-le e.0 (highest_below xs e.1)

  passed_over : (front rest : List (ℕ × Edge)) → Each (λ y. score skip q y.1 < v) front → highest skip q rest ≡ v
      → (highest skip q (front ++ rest) ≡ v) × (first_of skip q v (front ++ rest) ≡ first_of skip q v rest)
  unfolding highest first_of
  passed_over [] rest e h = (h, refl)
  passed_over (y ∷ front) rest e h =
      let more = passed_over front rest e.1 h in
      let l = e.0 in
      let m : max (score skip q y.1) v ≡ v = max-eq_right (omega arith) in
      (rw more.0 m, rw (ne_eqb (score skip q y.1) v (λ s. omega arith)) more.1)

pub first_best : (skip : Bool) (q : Query) (xs : List (ℕ × Edge)) {x : ℕ × Edge} → IsFirst skip q xs x → best skip q xs ≡ some x
unfolding best highest first_of
first_best skip q xs {x} i =
    let v = score skip q x.1 in
    let top : max v (highest skip q i.back) ≡ v = max-eq_left (highest_below skip q v i.back i.behind) in
    let found = passed_over skip q v i.front (x ∷ i.back) i.before top in
    rw (i.split, found.0, lt-ltb 0 v i.positive, found.1, eq-eqb v v refl)

-- ---- 01's words: asked for, given at all, the longest span, the best class
abbrev pub span : ℕ × Edge → ℕ
span x = x.1.end - x.1.start

pub record Answers (skip : Bool) (q : Query) (xs : List (ℕ × Edge)) (x : ℕ × Edge) : Type 0 where
  pub is_asked : asked q x.1.start x.1.end ≡ true
  pub given : 0 < class skip x.1
  pub longest : Each (λ y. asked q y.1.start y.1.end ≡ true → 0 < class skip y.1 → (span y ≤ span x) × (span y ≡ span x → class skip y.1 ≤ class skip x.1)) xs

module _ (skip : Bool) (q : Query) where
  module _ (e : Edge) (a : asked q e.start e.end ≡ true) where
    scores : 0 < class skip e → (e.end - e.start) * 8 + class skip e ≡ score skip q e
    scores h = score_asked skip q e a refl (λ z. omega arith) refl

    has_class : 0 < score skip q e → 0 < class skip e
    has_class h = by_class (dec_lt 0 (class skip e))
      where
        by_class : Dec (0 < class skip e) → 0 < class skip e
        by_class (yes c) = c
        by_class (no c) = absurd (omega (arith, score_never skip q e a refl (omega arith)))

  pub best_answers : (xs : List (ℕ × Edge)) {x : ℕ × Edge} → best skip q xs ≡ some x → Answers skip q xs x
  best_answers xs {x} e =
      let i = best_first skip q xs e in
      let a = score_asks skip q x.1 i.positive in
      let c = has_class x.1 a i.positive in
      let all : Each (λ y. score skip q y.1 ≤ score skip q x.1) (i.front ++ (x ∷ i.back)) =
      each_append _ i.front (x ∷ i.back) (each_map _ _ (λ y h. omega arith) i.front i.before) (omega arith, i.behind) in
      record {
        is_asked = a;
        given = c;
        longest = each_map _ _ (λ y h b d. lower y h b d a c) xs (rw i.split all);
      }
    where
      lower : (y : ℕ × Edge) → score skip q y.1 ≤ score skip q x.1 → asked q y.1.start y.1.end ≡ true → 0 < class skip y.1
          → asked q x.1.start x.1.end ≡ true → 0 < class skip x.1 → (span y ≤ span x) × (span y ≡ span x → class skip y.1 ≤ class skip x.1)
      lower y h b d a c =
          let sy = scores y.1 b d in
          let sx = scores x.1 a c in
          let ly = class_le skip y.1 refl in
          let lx = class_le skip x.1 refl in
          (omega arith, λ s. omega arith)

  -- none is given exactly where no edge asked for has a class
  no_class : (e : Edge) → score skip q e ≤ 0 → asked q e.start e.end ≡ true → class skip e ≡ 0
  no_class e h a = by_class (dec_lt 0 (class skip e))
    where
      by_class : Dec (0 < class skip e) → class skip e ≡ 0
      by_class (yes c) = absurd (omega (arith, scores e a c))
      by_class (no c) = omega arith

  abbrev pub NeverGiven : ℕ × Edge → Type 0
  NeverGiven y = asked q y.1.start y.1.end ≡ true → class skip y.1 ≡ 0

  none_never : (xs : List (ℕ × Edge)) → best skip q xs ≡ none → Each NeverGiven xs
  none_never xs e = by_end (best skip q xs) (ends_best skip q xs) e
    where
      by_end : (b : Best) → Ends skip q none xs b → b ≡ none → Each NeverGiven xs
      by_end b (stays h) e = each_map _ _ (λ y. no_class y.1) xs h
      by_end b (first y h i) e = let z : ◌≡◌ {A = ℕ} 0 1 = cc in absurd (omega arith)

  never_none : (xs : List (ℕ × Edge)) → Each NeverGiven xs → best skip q xs ≡ none
  never_none xs h = by_best (best skip q xs) refl (best_holds skip q NeverGiven xs h)
    where
      by_best : (b : Best) → best skip q xs ≡ b → OfBest NeverGiven b → best skip q xs ≡ none
      by_best none e n = e
      by_best (some x) e n = let a = best_answers xs e in absurd (omega (arith, n a.is_asked, a.given))

  pub best_none : (xs : List (ℕ × Edge)) → (best skip q xs ≡ none → Each NeverGiven xs) × (Each NeverGiven xs → best skip q xs ≡ none)
  best_none xs = (none_never xs, never_none xs)

-- ---- the edges that are looked at
offsets_edges : (k : ℕ) (s : List ℕ) (at : ℕ) → map (λ (x : ℕ × Edge). x.1) (with_offsets k s at) ≡ edges_at k s at
unfolding with_offsets edges_at
offsets_edges zero s at = refl
offsets_edges (suc k) s at = ap (λ (es : List Edge). edge_at s at ∷ es) (offsets_edges k s (next_at s at))

pub read_edges : (line s : List ℕ) {n k : ℕ} → read_check line s ≡ Ok (n, k) → map (λ (x : ℕ × Edge). x.1) (with_offsets k s 2) ≡ listed s
read_edges line s {n} {k} e = offsets_edges k s 2 ∙ ap (λ (j : ℕ). edges_at j s 2) (reads line s n k e).edges

-- ---- the text shown
middle : (a b c : List ℕ) → part (a ++ (b ++ c)) (length a) (length b) ≡ b
middle a b c = ap (λ (n : ℕ). part (a ++ (b ++ c)) n (length b)) (sym (add-zero (length a))) ∙ part_append_right a (b ++ c) 0 (length b) ∙ part_append_first b c (length b) refl

-- between the offsets of two neighbouring places stand one character's bytes
character : (line : List ℕ) (p : ℕ) → well_formed line ≡ true → part line (offset_of line p) (offset_of line (suc p) - offset_of line p) ≡ part_of line p (suc p)
character line p h = rw (one, bytes) (ap (λ (l : List ℕ). part l (length before) (length here)) whole ∙ middle before here behind)
  where
    before : List ℕ
    before = encodes (take p (chars line))

    here : List ℕ
    here = encodes (take 1 (drop p (chars line)))

    behind : List ℕ
    behind = encodes (drop 1 (drop p (chars line)))

    one : suc p - p ≡ 1
    one = omega arith

    next : encodes (take (suc p) (chars line)) ≡ before ++ here
    next = ap (λ (n : ℕ). encodes (take n (chars line))) (sym (add-one p)) ∙ ap encodes (take-add p 1 (chars line)) ∙ encodes_append (take p (chars line)) (take 1 (drop p (chars line)))

    bytes : offset_of line (suc p) - offset_of line p ≡ length here
    bytes = omega (arith, ap length next, length-append before here)

    whole : line ≡ before ++ (here ++ behind)
    whole =
        well_formed_split line h
        ∙ ap encodes (sym (take-append-drop p (chars line)))
        ∙ encodes_append (take p (chars line)) (drop p (chars line))
        ∙ ap (λ (t : List ℕ). before ++ t) (ap encodes (sym (take-append-drop 1 (drop p (chars line)))) ∙ encodes_append (take 1 (drop p (chars line))) (drop 1 (drop p (chars line))))

-- "the best right neighbour's txt .. or the character's own bytes"
abbrev pub text_shown : List ℕ → ℕ → Best → Text
text_shown line p none = part_of line p (suc p)
text_shown line p (some x) = x.1.txt

pub shown_is : (line s : List ℕ) (p : Place) {n k : ℕ} → read_check line s ≡ Ok (n, k) → p.0 < n
    → shown_part line s (shown line s p) ≡ text_shown line p.0 (best false (Right p) (with_offsets k s 2))
unfolding shown_part shown_by found edge_at text_at
shown_is line s p {n} {k} e h =
    let r = reads line s n k e in
    ap (shown_part line s) (sym (shown_inside line s p e h refl)) ∙ by_best r.is_well_formed (best false (Right p) (with_offsets k s 2)) (best_listed false (Right p) n k s 2 r.spans)
  where
    by_best : well_formed line ≡ true → (b : Best) → OfBest (Listed n s) b → shown_part line s (Ok (shown_by line s p.0 (found b))) ≡ text_shown line p.0 b
    by_best w none l = character line p.0 w
    by_best w (some x) l = sym (ap (λ (d : Edge). d.txt) l.edge)
