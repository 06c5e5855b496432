-- The edge over the whole line (`grammar`, proofs/Demand3.antt) in the lattice of the call: an edge with its key is there, and with no given edge of that key the first one has
-- its value. For the theorem of `Demand3.antt`.
-- In order: an edge that is added; the stages of the call; the one edge. Assumes nothing.
use Prim.Native.Nat.{ℕ}
use mathlib.Core.Path.{◌≡◌, refl, sym, ap, ◌∙◌}
use mathlib.Core.Bool.{Bool, true, false, cond, ◌||◌, or-true}
use mathlib.Core.List.{List, [], ◌∷◌, ◌++◌, map}
use mathlib.Core.Option
use mathlib.Core.Option.{some}
use native.Mathlib.Omega.{arith}
use lib.ListN.{length}
use Rattle.text.specs.Text.{chars}
use Rattle.edge.specs.Edge.{Edge, Numeric, f64_bits}
use Rattle.lattice.specs.Lattice.{same_key, has, add_all, quiet, inactive, turn_off}
use Rattle.passes.specs.NumEdge.{NumEdge}
use Rattle.passes.specs.Characters.{first_list}
use Rattle.passes.specs.Passes.{five, fifth_list, joined_edges}
use Rattle.pass_list.specs.StoredEdge.{Every, nil, cons}
use Rattle.pass_list.proofs.in_turn.EveryLaws.{every_map}
use Rattle.grammar.specs.Plain.{Char, code_point, plain}
use Rattle.grammar.proofs.PlainEdges.{plain_line_lem}
use Rattle.grammar.proofs.Demand3.{OneEdge}
use Rattle.numbers.specs.Listed.{listed_edge}
use Rattle.numbers.specs.Fractions.{outcomes_from, new_edges, used_edges, fractions}
use Rattle.numbers.specs.Signs.{signs}
use Rattle.numbers.specs.Separators.{apart, copies, separate}
use Rattle.numbers.specs.Fallback.{fallback}
use Rattle.numbers.specs.Call.{after_passes, after_signs, lattice_by, lattice_of}
use Rattle.finished.specs.Keyed.{keyed}
use Rattle.singles.proofs.SilenceLaws.{key_refl}
use Rattle.finished.proofs.KeyedLaws.{Picks, key_txt, has_picks, picks_add_all, picks_map, picks_turn_off, has_add_all, picks_new}
use Rattle.finished.proofs.SpokenLaws.{Spoken, plain_spoken, last_every}

-- ---- an edge that is added, of those of the passes: the first with the key of e has its value
abbrev pub Valued : ℕ → Edge → Type 0
Valued v x = (n : Numeric) × (x.num ≡ some n) × (n.value ≡ some (f64_bits v))

pub valued_quiet : (v : ℕ) (x : Edge) → Valued v x → Valued v (inactive x)
unfolding inactive
valued_quiet v x (n, is, value) = (quiet n, ap (Option.map quiet) is, value)

listed_valued : (f : NumEdge) (v : ℕ) → f.value ≡ some v → Valued v (listed_edge f)
unfolding listed_edge
listed_valued f v h = (_, refl, ap (Option.map f64_bits) h)

same_text : (f e : NumEdge) → same_key (listed_edge f) (listed_edge e) ≡ true → f.txt ≡ e.txt
unfolding listed_edge
same_text f e h = key_txt _ _ h

same_spoken : (f e : NumEdge) (v : ℕ) → Spoken f → Spoken e → f.txt ≡ e.txt → e.value ≡ some v → f.value ≡ some v
same_spoken f e v s t q h = s ∙ rw q (sym t ∙ h)

first_picked : (l : List NumEdge) (e : NumEdge) (v : ℕ) → Every Spoken l → Spoken e → e.value ≡ some v → has (map listed_edge l) (listed_edge e) ≡ true → Picks (Valued v) (map listed_edge l) (listed_edge e)
unfolding has keyed
first_picked [] e v nil t h k = let z : ◌≡◌ {A = ℕ} 0 1 = cc in absurd (omega arith)
first_picked (f ∷ l) e v (cons s ss) t h k = go (same_key (listed_edge f) (listed_edge e)) refl k (first_picked l e v ss t h)
  where
    go : (b : Bool) → same_key (listed_edge f) (listed_edge e) ≡ b → (b || has (map listed_edge l) (listed_edge e)) ≡ true
        → (has (map listed_edge l) (listed_edge e) ≡ true → Picks (Valued v) (map listed_edge l) (listed_edge e))
        → (x : Edge) × (cond b (some (listed_edge f)) (keyed (map listed_edge l) (listed_edge e)) ≡ some x) × Valued v x
    go true q k more = (listed_edge f, refl, listed_valued f v (same_spoken f e v s t (same_text f e q) h))
    go false q k more = more k

-- each edge of a list has its key there
abbrev There : List NumEdge → NumEdge → Type 0
There l e = has (map listed_edge l) (listed_edge e) ≡ true

each_there : (l : List NumEdge) → Every (There l) l
unfolding has
each_there [] = nil
each_there (f ∷ l) =
    let here : There (f ∷ l) f = rw (key_refl (listed_edge f)) in
    cons here (every_map (There l) (There (f ∷ l)) (λ e h. rw (h, or-true)) l (each_there l))

-- ---- the stages of the call, behind the given edges and those of the passes
module _ {P : Edge → Type 0} (kept : (x : Edge) → P x → P (inactive x)) (w : List ℕ) (given : List Edge) (e : Edge) where
  pub lattice_picks : Picks P (after_passes plain w given) e → Picks P (lattice_of plain w given) e
  unfolding lattice_by after_signs fractions separate
  lattice_picks h =
      let es = after_passes plain w given in
      let ms = outcomes_from plain w es 0 (length w) in
      let a = picks_add_all (turn_off es (used_edges ms)) (new_edges ms) e (picks_turn_off kept (used_edges ms) es e h) in
      let b = picks_add_all (fractions plain w es) (signs plain w (fifth_list plain w)) e a in
      let fs = add_all (fractions plain w es) (signs plain w (fifth_list plain w)) in
      let c = picks_map kept (apart fs) fs e b in
      let d = picks_add_all (map (λ (x : Edge). cond (apart fs x) (inactive x) x) fs) (copies fs fs) e c in
      picks_add_all (separate fs) (fallback (separate fs) 0 w) e d

-- ---- the one edge
module _ (line : List ℕ) (w : List Char) (characters : chars line ≡ map code_point w) (e : NumEdge) (one : OneEdge line e) where
  abbrev all : List NumEdge
  all = first_list plain (chars line) ++ joined_edges plain (chars line)

  all_spoken : Every Spoken all
  all_spoken = rw (plain_line_lem (chars line) w characters) (plain_spoken w)

  the_one : (Q : NumEdge → Type 0) → Every Q all → Q e
  the_one Q h = head (rw one.list at (last_every Q five (first_list plain (chars line)) h))
    where
      head : Every Q (e ∷ []) → Q e
      head (cons q nil) = q

  -- whatever is given
  pub one_there : (given : List Edge) → Picks (λ x. Unit {0}) (after_passes plain (chars line) given) (listed_edge e)
  unfolding after_passes
  one_there given = go (has (add_all [] given) (listed_edge e)) refl
    where
      go : (b : Bool) → has (add_all [] given) (listed_edge e) ≡ b → Picks (λ x. Unit {0}) (add_all (add_all [] given) (map listed_edge all)) (listed_edge e)
      go true h = picks_add_all (add_all [] given) (map listed_edge all) (listed_edge e) (has_picks (add_all [] given) (listed_edge e) h)
      go false h = picks_new (map listed_edge all) (add_all [] given) (listed_edge e) h (has_picks (map listed_edge all) (listed_edge e) (the_one (There all) (each_there all)))

  -- with no given edge of its key
  pub one_valued : (given : List Edge) → has given (listed_edge e) ≡ false → (v : ℕ) → e.value ≡ some v → Picks (Valued v) (after_passes plain (chars line) given) (listed_edge e)
  unfolding after_passes has
  one_valued given free v h =
      picks_new (map listed_edge all) (add_all [] given) (listed_edge e) (has_add_all given [] (listed_edge e) refl free)
      (first_picked all e v all_spoken (the_one Spoken all_spoken) h (the_one (There all) (each_there all)))
