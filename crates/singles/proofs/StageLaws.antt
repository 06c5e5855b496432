-- Laws of the stage by marks. No contract cites this file.
-- In order: the edge that is read; one edge; the loop; marks and the definition. Assumes nothing.
use mathlib.Core.Path.{◌≡◌, refl, sym, ap, ◌∙◌, subst}
use mathlib.Core.Bool.{Bool, true, false, cond, ◌&&◌}
use mathlib.Core.List.{List, map}
use Prim.Native.Nat.{ℕ, suc, ◌+◌, ◌≤◌, ◌<◌}
use native.Mathlib.Numerals.{add-one}
use native.Mathlib.Omega.{arith}
use lib.ListN.{length, get_or}
use lib.Dec.{eqb}
use borrow.Author.Tests.{eq-eqb, ne_eqb}
use Rattle.fields.specs.Fields.{le_at}
use Rattle.edge.specs.Edge.{Edge}
use Rattle.edge.specs.Layout.{edge_at}
use Rattle.paths.specs.Reading.{Spanned}
use Rattle.lattice.specs.declared.Lattice.{Lattice}
use Rattle.lattice.specs.Lattice.{turn_off_at}
use Rattle.lattice.specs.Kept.{no_edge, offset, Holds, SameBehind}
use Rattle.lattice.proofs.HoldsLaws.{kept_of_lem, over_of}
use Rattle.numbers.specs.CallEdge.{Legals}
use Rattle.edge.specs.Legal.{Legal}
use Rattle.numbers.proofs.stages.ReadLaws.{edge_of_one, every_at}
use Rattle.numbers.proofs.stages.OverLaws.{holds_full, over_map_inactive}
use Rattle.numbers.proofs.stages.SoundLaws.{one_spanned, sound_of}
use Rattle.passes.specs.NumEdge.{NumEdge}
use Rattle.pass_list.specs.StoredEdge.{nil, cons}
use Rattle.singles.proofs.WalkLaws.{turned, turned_next, turn_on, turn_off_lem, turned_all}
use Rattle.singles.specs.ByPlace.{barred_at, quiet_at, barred_by, silence_at, silenced_by}

-- ---- the edge that is read
module _ (s : List ℕ) (at : ℕ) {a z : ℕ} (start : a ≡ le_at s (at + 2) 2) (end : z ≡ le_at s (at + 4) 2) where
  pub place_read : {n : ℕ} → Spanned n s at → a < n
  unfolding edge_at
  place_read w = let r = w.rises in let i = w.within in omega arith

  pub one_place_lem : (marks : List Bool) → z ≡ a + 1 → get_or marks a false ≡ barred_by marks (edge_at s at)
  unfolding edge_at barred_by
  one_place_lem marks t = sym (rw (← start, ← end, eq-eqb z (suc a) (t ∙ add-one a)))

  pub other : (marks : List Bool) → (z ≡ a + 1 → ⊥) → false ≡ barred_by marks (edge_at s at)
  unfolding edge_at barred_by
  other marks n = sym (rw (← start, ← end, ne_eqb z (suc a) (λ e. n (e ∙ sym (add-one a)))))

-- ---- one edge
module _ {w : List ℕ} {l : Lattice} {es : List Edge} (q : Holds w l es) (f : (l.len ≡ 0 → ⊥)) (i : ℕ) (in_List : i < length es) where
  pub counted : i < l.count
  counted = let k = (kept_of_lem q f).count in omega arith

  module _ {n : ℕ} (call : Legal false n (get_or es i no_edge)) {at : ℕ} (here : at ≡ offset es i) where
    pub edge_spanned : n ≤ 256 → Spanned 256 w at
    edge_spanned = one_spanned q f i counted here call

    module _ (marks : List Bool) {r : Bool} (asked : r ≡ barred_by marks (edge_at w at)) where
      told : r ≡ barred_by marks (get_or es i no_edge)
      told = asked ∙ ap (barred_by marks) (ap (edge_at w) here ∙ (edge_of_one q f i counted call).is)

      pub is_on : r ≡ true → turn_off_at es i ≡ silence_at marks es i
      unfolding silence_at
      is_on t = rw (sym told ∙ t)

      pub is_off : r ≡ false → Holds w l (silence_at marks es i)
      unfolding silence_at
      is_off t = rw (sym told ∙ t) q

-- ---- the loop
pub full_quiet : {w : List ℕ} {l : Lattice} {es : List Edge} (fs : List NumEdge) → l.len ≡ 0 → Holds w l es → Holds w l (map (quiet_at fs) es)
full_quiet {es = es} fs f q = holds_full q f (over_map_inactive (λ (e : Edge). eqb e.end (suc e.start) && barred_at fs e.start) es ∙ over_of q f)

pub record Walked (w₀ : List ℕ) (l : Lattice) (marks : List Bool) (w : List ℕ) (i : ℕ) : Type 0 where
  pub long : length w ≡ length w₀
  pub frame : SameBehind w₀ w
  pub up_to : i ≤ l.count
  pub holds : (n : ℕ) (es : List Edge) → n ≤ 256 → Holds w₀ l es → Legals n es → Holds w l (turned (barred_by marks) es i)

pub walked_start : (w : List ℕ) (l : Lattice) (marks : List Bool) → Walked w l marks w 0
unfolding turned
walked_start w l marks = record { long = refl; frame = refl; up_to = omega arith; holds = λ n es few q c. q }

module _ {w₀ : List ℕ} {l : Lattice} {marks : List Bool} {w : List ℕ} {i : ℕ} (s : Walked w₀ l marks w i) (f : (l.len ≡ 0 → ⊥)) where
  listed : i < l.count → (n : ℕ) (es : List Edge) → n ≤ 256 → Holds w₀ l es → Legals n es
      → (i < length es) × (i < length (turned (barred_by marks) es i)) × Legal false n (get_or (turned (barred_by marks) es i) i no_edge)
  listed h n es few q c =
      let k = (kept_of_lem q f).count in
      let j = (kept_of_lem (s.holds n es few q c) f).count in
      let x : i < length es = omega arith in
      (x, omega arith, subst (Legal false n) (sym (turned_next (barred_by marks) es i)) (every_at no_edge c x))

  pub walked_here : i < l.count → (n : ℕ) (es : List Edge) → n ≤ 256 → Holds w₀ l es → Legals n es → (ds : List Edge) × Holds w l ds × (i < length ds) × Legal false n (get_or ds i no_edge)
  walked_here h n es few q c = let x = listed h n es few q c in (turned (barred_by marks) es i, s.holds n es few q c, x.1, x.2)

  one_more_lem : (es : List Edge) → i < length es → silence_at marks (turned (barred_by marks) es i) i ≡ turned (barred_by marks) es (i + 1)
  unfolding silence_at
  one_more_lem es h = rw (turned_next (barred_by marks) es i, add-one i) (go (barred_by marks (get_or es i no_edge)) refl)
    where
      go : (b : Bool) → barred_by marks (get_or es i no_edge) ≡ b → cond b (turn_off_at (turned (barred_by marks) es i) i) (turned (barred_by marks) es i) ≡ turned (barred_by marks) es (suc i)
      go true t = turn_on (barred_by marks) es i h t
      go false t = turn_off_lem (barred_by marks) es i t

  pub walked_next : i < l.count → {v : List ℕ} → length v ≡ length w → SameBehind w v
      → ((n : ℕ) (ds : List Edge) → n ≤ 256 → Holds w l ds → i < length ds → Legal false n (get_or ds i no_edge) → Holds v l (silence_at marks ds i)) → Walked w₀ l marks v (i + 1)
  walked_next h {v} y e g = record {
    long = y ∙ s.long;
    frame = e ∙ s.frame;
    up_to = omega arith;
    holds = λ n es few q c. let x = listed h n es few q c in subst (Holds v l) (one_more_lem es x.0) (g n (turned (barred_by marks) es i) few (s.holds n es few q c) x.1 x.2);
  }

  pub walked_end : l.count ≤ i → (n : ℕ) (es : List Edge) → n ≤ 256 → Holds w₀ l es → Legals n es → Holds w l (silenced_by marks es)
  walked_end h n es few q c =
      let k = (kept_of_lem q f).count in
      let u = s.up_to in
      let e : i ≡ length es = omega arith in
      subst (Holds w l) (ap (turned (barred_by marks) es) e ∙ turned_all (barred_by marks) es) (s.holds n es few q c)

-- ---- marks and the definition: with a mark at each place of an edge of G4's list that may not stand, the walk is the second call's stage
pub stage_is : {n : ℕ} (marks : List Bool) (l : List NumEdge) → n ≤ 256 → ((p : ℕ) → p < 257 → get_or marks p false ≡ barred_at l p) → {es : List Edge} → Legals n es → silenced_by marks es ≡ map (quiet_at l) es
unfolding barred_by
stage_is marks l few agree nil = refl
stage_is {n} marks l few agree (cons {x = e} {l = es} c h) =
    let s = sound_of n e c.content in
    let r = s.rises in
    let z = s.within in
    rw (agree e.start (omega arith), stage_is marks l few agree h)
