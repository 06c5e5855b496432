-- Laws of the five passes in the work space (`specs/Five.antt`). No contract cites this file.
-- In order: the i-th pass; what it leaves; all five in turn. Assumes nothing.
use mathlib.Core.Path.{◌≡◌, refl, sym, ap, ◌∙◌}
use mathlib.Core.List.{List, [], ◌∷◌, ◌++◌, map-append}
use mathlib.Core.Option.{Option, none, some}
use Prim.Native.Nat.{ℕ, zero, suc, ◌+◌, ◌≤◌, ◌<◌}
use native.Mathlib.Numerals.{add-one}
use native.Mathlib.Omega.{arith}
use lib.ListN.{length, take, drop}
use lib.Seq.{drop-cons}
use Rattle.text.specs.declared.Place.{Place}
use Rattle.text.specs.Text.{Scalars}
use Rattle.passes.specs.Passes.{Pass, D1, five}
use Rattle.pass_list.specs.StoredEdge.{StoredEdge, Every, AllSmall, nil, cons}
use Rattle.pass_list.specs.StoredPass.{kind_of, after, added, first_above}
use Rattle.pass_list.specs.Stored.{stored_list_at}
use Rattle.pass_list.specs.Answers.{passed, PassAnswerIs}
use Rattle.pass_list.proofs.StoredLaws.{length_stored_edges}
use Rattle.pass_list.specs.InTurn.{through, added_by, of_kind}
use Rattle.pass_list.proofs.in_turn.InTurnLaws.{above_here, above_later}
use Rattle.pass_list.proofs.in_turn.KindLaws.{added_of_kind, after_kind}
use Rattle.pass_run.specs.Nth.{nth}
use Rattle.edge.specs.Edge.{Edge}
use Rattle.lattice.specs.declared.Lattice.{Lattice}
use Rattle.lattice.specs.Lattice.{add_all}
use Rattle.lattice.specs.Kept.{Holds, END, SameBehind}
use Rattle.lattice.proofs.HoldsLaws.{add_all_append}
use Rattle.pass_list.specs.Kind.{kind_number}
use Rattle.pass_edge.specs.Grounded.{AllGrounded}
use Rattle.pass_edge.specs.Adding.{listed_of}
use Rattle.first_stages.specs.Five.{listed_stored, behind, PassList, OnePass, FivePasses}
use Rattle.first_stages.proofs.five_passes.FrontLaws.{holds_front}
use Rattle.first_stages.proofs.five_passes.KeptLaws.{added_none}
use Rattle.first_stages.proofs.five_passes.RootLaws.{sounds_small}
use Rattle.first_stages.proofs.five_passes.GroundLaws.{after_grounded}
use Rattle.std.specs.Prelude.{Result, Ok, Err}

-- ---- the i-th pass
nth_first : (i : ℕ) → i < 5 → drop i five ≡ nth i ∷ drop (i + 1) five
nth_first i h = rw (add-one i) (drop-cons five i D1 h)

pub nth_kind : (i : ℕ) → i < 5 → kind_of (nth i) ≡ suc i
nth_kind zero h = refl
nth_kind (suc zero) h = refl
nth_kind (suc (suc zero)) h = refl
nth_kind (suc (suc (suc zero))) h = refl
nth_kind (suc (suc (suc (suc zero)))) h = refl
nth_kind (suc (suc (suc (suc (suc i))))) h = absurd (omega arith)

-- ---- what it leaves
module _ {w t : List ℕ} {i : ℕ} {s : List ℕ} {n : ℕ} (scalars : Scalars w) (h : i < 5) (q : PassList w t (suc i) s n) where
  pub pass_small : AllSmall (behind s n)
  pass_small = sounds_small q.sounds.each

  earlier : Every (λ x. kind_number x.kind < kind_of (nth i)) (behind s n)
  earlier = rw (nth_kind i h) q.kinds

  -- the pass ran over the list behind the lattice, from s to v
  module _ (v : List ℕ) {r : Result ℕ Place} (p : PassAnswerIs (nth i) (behind s n) (drop END v) r) where
    pub one_above : (l : Lattice) (a : Place) → r ≡ Err a → OnePass w t i s l n v (Err a)
    unfolding OnePass
    one_above l a e = go (first_above (added (nth i) (behind s n))) (sym p.answer ∙ e)
      where
        go : (o : Option ℕ) → passed o (length (after (nth i) (behind s n))) ≡ Err a → o ≡ some a.0
        go none f = absurd (let z : ◌≡◌ {A = ℕ} 0 1 = cc in omega arith)
        go (some b) f = let g : record { 0 = b } ≡ a = cc in ap (λ (x : Place). some x.0) g

    module _ {k : ℕ} (e : r ≡ Ok k) where
      not_above_lem : (first_above (added (nth i) (behind s n)) ≡ none) × (k ≡ length (after (nth i) (behind s n)))
      not_above_lem = go (first_above (added (nth i) (behind s n))) (sym p.answer ∙ e)
        where
          go : (o : Option ℕ) → passed o (length (after (nth i) (behind s n))) ≡ Ok k → (o ≡ none) × (k ≡ length (after (nth i) (behind s n)))
          go none f = (refl, cc)
          go (some b) f = absurd (let z : ◌≡◌ {A = ℕ} 0 1 = cc in omega arith)

      after_is : behind v k ≡ after (nth i) (behind s n)
      after_is = rw not_above_lem.1 (p.list not_above_lem.0)

      few_left : k ≤ n
      few_left = let f = p.fewer not_above_lem.0 in let l = length_stored_edges (drop END s) 0 n in let g = not_above_lem.1 in omega arith

      pub pass_sounds : AllGrounded w t (behind v k)
      pass_sounds = rw after_is (after_grounded w t scalars (nth i) (behind s n) q.sounds not_above_lem.0)

      pub pass_few : k ≤ 256
      pass_few = let f = few_left in let g = q.few in omega arith

      kinds_after : Every (λ x. kind_number x.kind < suc (suc i)) (after (nth i) (behind s n))
      kinds_after = go (after (nth i) (behind s n)) (after_kind (nth i) (behind s n) earlier)
        where
          go : (l : List StoredEdge) → Every (λ x. kind_number x.kind ≤ kind_of (nth i)) l → Every (λ x. kind_number x.kind < suc (suc i)) l
          go [] nil = nil
          go (x ∷ l) (cons a b) = cons (let y = nth_kind i h in let z : kind_number x.kind < suc (suc i) = omega arith in z) (go l b)

      new_stored_edges : of_kind (i + 1) (behind v k) ≡ added (nth i) (behind s n)
      new_stored_edges = ap (λ (j : ℕ). of_kind j (behind v k)) (add-one i) ∙ ap (of_kind (suc i)) after_is ∙ ap (λ (j : ℕ). of_kind j (after (nth i) (behind s n))) (sym (nth_kind i h)) ∙ sym (added_of_kind (nth i) (behind s n) earlier)

      -- then the joined edges were added, from v to u
      pub one_added : (l : Lattice) (u : List ℕ) (m : Lattice) → take END v ≡ take END s → length v ≡ length s → SameBehind v u
          → ((es : List Edge) → Holds v l es → Holds u m (add_all es (listed_stored w t (of_kind (i + 1) (behind v k))))) → OnePass w t i s l n u (Ok (m, k))
      unfolding OnePass
      one_added l u m front long frame g =
          let same : behind u k ≡ behind v k = ap (λ (b : List ℕ). stored_list_at b 0 k) frame in
          record {
            below = not_above_lem.0;
            list = same ∙ after_is;
            next = record { sounds = rw same pass_sounds; kinds = rw (same, after_is) kinds_after; few = pass_few };
            holds = λ es x. rw (← new_stored_edges) (g es (holds_front s v front long x));
          }

      -- or there are none to add: as many edges as before
      pub one_kept : (l : Lattice) → take END v ≡ take END s → length v ≡ length s → k ≡ n → OnePass w t i s l n v (Ok (l, k))
      unfolding add_all
      one_kept l front long kept =
          let none-new : of_kind (i + 1) (behind v k) ≡ [] = new_stored_edges ∙ added_none (nth i) (behind s n) (sym not_above_lem.1 ∙ kept ∙ sym (length_stored_edges (drop END s) 0 n)) in
          one_added l v l front long refl (λ es x. rw none-new x)

-- ---- all five in turn
pub listed_append : (w t : List ℕ) (l m : List StoredEdge) → listed_stored w t (l ++ m) ≡ listed_stored w t l ++ listed_stored w t m
listed_append w t l m = map-append (listed_of w t) l m

-- i passes ran, from s to u
pub record Going (w t s : List ℕ) (l : Lattice) (n : ℕ) (u : List ℕ) (m : Lattice) (k i : ℕ) : Type 0 where
  pub long : length u ≡ length s
  pub list : PassList w t (suc i) u k
  pub above : first_above (added_by five (behind s n)) ≡ first_above (added_by (drop i five) (behind u k))
  pub after : through five (behind s n) ≡ through (drop i five) (behind u k)
  pub holds : (es : List Edge) → Holds s l es
      → (ds : List Edge) × Holds u m ds × (add_all ds (listed_stored w t (added_by (drop i five) (behind u k))) ≡ add_all es (listed_stored w t (added_by five (behind s n))))

pub going_start : {w t s : List ℕ} {l : Lattice} {n : ℕ} → PassList w t 1 s n → Going w t s l n s l n 0
going_start q = record { long = refl; list = q; above = refl; after = refl; holds = λ es x. (es, x, refl) }

module _ {w t s : List ℕ} {l : Lattice} {n : ℕ} {u : List ℕ} {m : Lattice} {k i : ℕ} (g : Going w t s l n u m k i) where
  pub going_above : i < 5 → (v : List ℕ) (a : Place) (x : List ℕ) → OnePass w t i u m k v (Err a) → FivePasses w t s l n x (Err a)
  unfolding OnePass FivePasses
  going_above h v a x o = g.above ∙ rw (nth_first i h) (above_here (nth i) (drop (i + 1) five) (behind u k) a.0 o)

  pub going_next : i < 5 → (v : List ℕ) (b : Lattice) (j : ℕ) → length v ≡ length u → OnePass w t i u m k v (Ok (b, j)) → Going w t s l n v b j (i + 1)
  unfolding OnePass added_by through
  going_next h v b j y o =
      let more : listed_stored w t (added_by (drop i five) (behind u k)) ≡ listed_stored w t (added (nth i) (behind u k)) ++ listed_stored w t (added_by (drop (i + 1) five) (behind v j)) =
      ap (λ (ps : List Pass). listed_stored w t (added_by ps (behind u k))) (nth_first i h)
      ∙ ap (λ (z : List StoredEdge). listed_stored w t (added (nth i) (behind u k) ++ added_by (drop (i + 1) five) z)) (sym o.list)
      ∙ listed_append w t (added (nth i) (behind u k)) (added_by (drop (i + 1) five) (behind v j)) in
      record {
        long = y ∙ g.long;
        list = rw (add-one i) o.next;
        above = g.above ∙ ap (λ (ps : List Pass). first_above (added_by ps (behind u k))) (nth_first i h)
            ∙ above_later (nth i) (drop (i + 1) five) (behind u k) o.below ∙ ap (λ (z : List StoredEdge). first_above (added_by (drop (i + 1) five) z)) (sym o.list);
        after = g.after ∙ ap (λ (ps : List Pass). through ps (behind u k)) (nth_first i h) ∙ ap (through (drop (i + 1) five)) (sym o.list);
        holds = λ es x.
            let d = g.holds es x in (
              add_all d.0 (listed_stored w t (added (nth i) (behind u k))),
              o.holds d.0 d.1,
              sym (add_all_append d.0 (listed_stored w t (added (nth i) (behind u k))) (listed_stored w t (added_by (drop (i + 1) five) (behind v j)))) ∙ ap (add_all d.0) (sym more) ∙ d.2,
            );
      }

  pub going_end : 5 ≤ i → i ≤ 5 → FivePasses w t s l n u (Ok (m, k))
  unfolding FivePasses added_by through first_above add_all
  going_end h j =
      let z : i ≡ 5 = omega arith in
      record {
        below = rw z at g.above;
        list = sym (rw z at g.after);
        sounds = g.list.sounds;
        few = g.list.few;
        holds = λ es x.
            let d = g.holds es x in
            let e : d.0 ≡ add_all es (listed_stored w t (added_by five (behind s n))) = rw z at d.2 in
            rw e at d.1;
      }
