-- Setting edges apart one after the other is F1's definition: turning off and adding commute. No contract cites this file.
-- In order: an edge turned inactive and edges added; edges set apart in turn; marks and the definition. Assumes nothing.
use mathlib.Core.Path.{◌≡◌, refl, sym, ap, ◌∙◌}
use mathlib.Core.Bool.{Bool, true, false, cond}
use mathlib.Core.List.{List, [], ◌∷◌, ◌++◌, map, append_assoc, append-nil}
use Prim.Native.Nat.{ℕ, zero, suc, ◌≤◌, ◌<◌}
use native.Mathlib.Numerals.{add-one}
use native.Mathlib.Omega.{arith}
use lib.ListN.{length, get_or, length-append, get_or-append}
use lib.Seq.{get_or-append_seam}
use Rattle.digits.proofs.Theorems.{begins_first}
use Rattle.edge.specs.Edge.{Edge}
use Rattle.lattice.specs.Lattice.{same_key, has, add, add_all, inactive, turn_off_at}
use Rattle.lattice.specs.Kept.{no_edge}
use Rattle.lattice.proofs.TurnOffLaws.{length_turned}
use Rattle.pass_list.specs.StoredEdge.{nil, cons}
use Rattle.numbers.specs.CallEdge.{Legals}
use Rattle.numbers.proofs.stages.SoundLaws.{sound_of}
use Rattle.numbers.specs.Separators.{ends_before, apart, copy_of, copies, separate}
use Rattle.separators.specs.Marks.{apart_by, set_apart, all_apart}

-- ---- an edge turned inactive, and edges added
has_turned : (es : List Edge) (i : ℕ) (c : Edge) → has (turn_off_at es i) c ≡ has es c
unfolding turn_off_at has inactive same_key
has_turned [] i c = refl
has_turned (e ∷ es) zero c = refl
has_turned (e ∷ es) (suc i) c = rw (has_turned es i c)

turned_snoc : (es : List Edge) (i : ℕ) (c : Edge) → i < length es → turn_off_at (es ++ (c ∷ [])) i ≡ turn_off_at es i ++ (c ∷ [])
unfolding turn_off_at
turned_snoc [] i c h = absurd (omega arith)
turned_snoc (e ∷ es) zero c h = refl
turned_snoc (e ∷ es) (suc i) c h = ap (λ (z : List Edge). e ∷ z) (turned_snoc es i c (omega arith))

-- keys do not change by turning off
pub turned_add : (es : List Edge) (i : ℕ) (c : Edge) → i < length es → turn_off_at (add es c) i ≡ add (turn_off_at es i) c
unfolding add
turned_add es i c h = rw (has_turned es i c) (go (has es c))
  where
    go : (t : Bool) → turn_off_at (cond t es (es ++ (c ∷ []))) i ≡ cond t (turn_off_at es i) (turn_off_at es i ++ (c ∷ []))
    go true = refl
    go false = turned_snoc es i c h

pub length_add : (es : List Edge) (c : Edge) → length es ≤ length (add es c)
unfolding add
length_add es c = go (has es c)
  where
    go : (t : Bool) → length es ≤ length (cond t es (es ++ (c ∷ [])))
    go true = omega arith
    go false = let l = length-append es (c ∷ []) in omega arith

get_or-add : (es : List Edge) (c : Edge) (i : ℕ) → i < length es → get_or (add es c) i no_edge ≡ get_or es i no_edge
unfolding add
get_or-add es c i h = go (has es c)
  where
    go : (t : Bool) → get_or (cond t es (es ++ (c ∷ []))) i no_edge ≡ get_or es i no_edge
    go true = refl
    go false = get_or-append es (c ∷ []) no_edge i h

turned_add_all : (es cs : List Edge) (i : ℕ) → i < length es → turn_off_at (add_all es cs) i ≡ add_all (turn_off_at es i) cs
unfolding add_all
turned_add_all es [] i h = refl
turned_add_all es (c ∷ cs) i h = let l = length_add es c in turned_add_all (add es c) cs i (omega arith) ∙ ap (λ (z : List Edge). add_all z cs) (turned_add es i c h)

get_or-add_all : (es cs : List Edge) (i : ℕ) → i < length es → get_or (add_all es cs) i no_edge ≡ get_or es i no_edge
unfolding add_all
get_or-add_all es [] i h = refl
get_or-add_all es (c ∷ cs) i h = let l = length_add es c in get_or-add_all (add es c) cs i (omega arith) ∙ get_or-add es c i h

length_add_all : (es cs : List Edge) → length es ≤ length (add_all es cs)
unfolding add_all
length_add_all es [] = omega arith
length_add_all es (c ∷ cs) = let a = length_add es c in let b = length_add_all (add es c) cs in omega arith

add_all_snoc : (es cs : List Edge) (c : Edge) → add_all es (cs ++ (c ∷ [])) ≡ add (add_all es cs) c
unfolding add_all
add_all_snoc es [] c = refl
add_all_snoc es (d ∷ cs) c = add_all_snoc (add es d) cs c

turned_seam : (a : List Edge) (e : Edge) (b : List Edge) → turn_off_at (a ++ (e ∷ b)) (length a) ≡ a ++ (inactive e ∷ b)
unfolding turn_off_at
turned_seam [] e b = refl
turned_seam (d ∷ a) e b = ap (λ (z : List Edge). d ∷ z) (turned_seam a e b)

-- an edge behind the one turned inactive is as it was
turned_other : (es : List Edge) (i j : ℕ) → i < j → get_or (turn_off_at es i) j no_edge ≡ get_or es j no_edge
unfolding turn_off_at
turned_other [] i j h = refl
turned_other (e ∷ es) i zero h = absurd (omega arith)
turned_other (e ∷ es) zero (suc j) h = refl
turned_other (e ∷ es) (suc i) (suc j) h = turned_other es i j (omega arith)

-- ---- edges set apart in turn
module _ (marks : List Bool) where
  pub apart_behind : (es : List Edge) (i j : ℕ) → i < j → j < length es → get_or (set_apart marks es i) j no_edge ≡ get_or es j no_edge
  unfolding set_apart
  apart_behind es i j h k = go (apart_by marks (get_or es i no_edge))
    where
      go : (t : Bool) → get_or (cond t (turn_off_at (add es (copy_of (get_or es i no_edge))) i) es) j no_edge ≡ get_or es j no_edge
      go true = turned_other (add es (copy_of (get_or es i no_edge))) i j h ∙ get_or-add es (copy_of (get_or es i no_edge)) j k
      go false = refl

  pub apart_length : (es : List Edge) (i : ℕ) → length es ≤ length (set_apart marks es i)
  unfolding set_apart
  apart_length es i = go (apart_by marks (get_or es i no_edge))
    where
      go : (t : Bool) → length es ≤ length (cond t (turn_off_at (add es (copy_of (get_or es i no_edge))) i) es)
      go true = let a = length_turned (add es (copy_of (get_or es i no_edge))) i in let b = length_add es (copy_of (get_or es i no_edge)) in omega arith
      go false = omega arith

  abbrev off : Edge → Edge
  off e = cond (apart_by marks e) (inactive e) e

  copies_by : List Edge → List Edge
  copies_by [] = []
  copies_by (e ∷ es) = cond (apart_by marks e) (copy_of e ∷ copies_by es) (copies_by es)

  -- done edges stand first, the copies so far at the end
  step_is : (done cs : List Edge) (e : Edge) (rest : List Edge)
      → set_apart marks (add_all (done ++ (e ∷ rest)) cs) (length done)
      ≡ cond (apart_by marks e) (add_all (done ++ (inactive e ∷ rest)) (cs ++ (copy_of e ∷ []))) (add_all (done ++ (e ∷ rest)) cs)
  unfolding set_apart
  step_is done cs e rest =
      let l = length-append done (e ∷ rest) in
      let m = length_add_all (done ++ (e ∷ rest)) cs in
      let g : get_or (add_all (done ++ (e ∷ rest)) cs) (length done) no_edge ≡ e = get_or-add_all (done ++ (e ∷ rest)) cs (length done) (omega arith) ∙ get_or-append_seam done e rest no_edge in
      let t : turn_off_at (add (add_all (done ++ (e ∷ rest)) cs) (copy_of e)) (length done) ≡ add_all (done ++ (inactive e ∷ rest)) (cs ++ (copy_of e ∷ [])) =
      turned_add (add_all (done ++ (e ∷ rest)) cs) (length done) (copy_of e) (omega arith)
      ∙ ap (λ (z : List Edge). add z (copy_of e)) (turned_add_all (done ++ (e ∷ rest)) cs (length done) (omega arith) ∙ ap (λ (z : List Edge). add_all z cs) (turned_seam done e rest))
      ∙ sym (add_all_snoc (done ++ (inactive e ∷ rest)) cs (copy_of e)) in
      rw (g, t)

  -- what is to be shown with one edge more among the done
  abbrev Later : List Edge → List Edge → Type 0
  Later done rest =
      (d : Edge) (ds : List Edge)
      → all_apart marks (add_all ((done ++ (d ∷ [])) ++ rest) ds) (length (done ++ (d ∷ []))) (length rest) ≡ add_all ((done ++ (d ∷ [])) ++ map off rest) (ds ++ copies_by rest)

  all_from : (done cs rest : List Edge) → all_apart marks (add_all (done ++ rest) cs) (length done) (length rest) ≡ add_all (done ++ map off rest) (cs ++ copies_by rest)
  unfolding all_apart copies_by
  all_from done cs [] = rw (append-nil cs)
  all_from done cs (e ∷ rest) =
      ap (λ (z : List Edge). all_apart marks z (suc (length done)) (length rest)) (step_is done cs e rest) ∙ go (λ d ds. all_from (done ++ (d ∷ [])) ds rest) (apart_by marks e)
    where
      one_more_lem : Later done rest → (d : Edge) (ds : List Edge) → all_apart marks (add_all (done ++ (d ∷ rest)) ds) (suc (length done)) (length rest) ≡ add_all (done ++ (d ∷ map off rest)) (ds ++ copies_by rest)
      one_more_lem later d ds =
          let l = length-append done (d ∷ []) ∙ add-one (length done) in
          rw (append_assoc done (d ∷ []) rest, append_assoc done (d ∷ []) (map off rest), l) at (later d ds)

      go : Later done rest → (t : Bool) → all_apart marks (cond t (add_all (done ++ (inactive e ∷ rest)) (cs ++ (copy_of e ∷ []))) (add_all (done ++ (e ∷ rest)) cs)) (suc (length done)) (length rest)
          ≡ add_all (done ++ (cond t (inactive e) e ∷ map off rest)) (cs ++ cond t (copy_of e ∷ copies_by rest) (copies_by rest))
      go later true = one_more_lem later (inactive e) (cs ++ (copy_of e ∷ [])) ∙ ap (add_all (done ++ (inactive e ∷ map off rest))) (append_assoc cs (copy_of e ∷ []) (copies_by rest))
      go later false = one_more_lem later e cs

  all_is : (es : List Edge) → all_apart marks es 0 (length es) ≡ add_all (map off es) (copies_by es)
  unfolding add_all
  all_is es = all_from [] [] es

  -- ---- with the marks of the lattice's edges this is the definition
  module _ {n : ℕ} (few : n ≤ 256) (es : List Edge) (say : (p : ℕ) → p < 257 → get_or marks p false ≡ ends_before es p) where
    apart_is : (e : Edge) → e.start < 257 → apart_by marks e ≡ apart es e
    unfolding apart_by apart
    apart_is e h = rw (say e.start h, begins_first e.txt)

    both_are : (ds : List Edge) → Legals n ds → (map off ds ≡ map (λ (e : Edge). cond (apart es e) (inactive e) e) ds) × (copies_by ds ≡ copies es ds)
    unfolding copies_by copies
    both_are [] nil = (refl, refl)
    both_are (d ∷ ds) (cons l ls) =
        let q = sound_of n d l.content in
        let r = q.rises in
        let i = q.within in
        let a = apart_is d (omega arith) in
        let b = both_are ds ls in
        (rw (a, b.0), rw (a, b.1))

    pub all_separate : Legals n es → all_apart marks es 0 (length es) ≡ separate es
    unfolding separate
    all_separate ls = let b = both_are es ls in all_is es ∙ rw (b.0, b.1)
