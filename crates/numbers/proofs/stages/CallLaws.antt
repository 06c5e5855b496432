-- The lattice's edges stay edges of the call, and such as may be listed, when edges are added or turned inactive. No contract cites this file.
-- In order: maps; one edge turned inactive; edges added; edges turned inactive. Assumes nothing.
use mathlib.Core.Path.{◌≡◌, refl, sym, ap, ◌∙◌, subst}
use mathlib.Core.Bool.{Bool, true, false, cond}
use mathlib.Core.List.{List, [], ◌∷◌, ◌++◌, map}
use mathlib.Core.Option
use mathlib.Core.Option.{Option, none, some}
use Prim.Native.Nat.{ℕ, zero, suc}
use borrow.Author.Tests.{lt-ltb}
use Rattle.edge.specs.Edge.{Edge, Numeric, map_of, numeric_map, EdgeFits, NumericFits}
use Rattle.edge.specs.Check.{allowed, each, sound_numeric, sound}
use Rattle.edge.specs.Legal.{Legal}
use Rattle.edge.proofs.theorems.ReadBackLaws.{map_bits}
use Rattle.lattice.specs.Lattice.{has, add, add_all, quiet, inactive, turn_off_at, turn_off}
use Rattle.lattice.proofs.KeptLaws.{map_lt}
use Rattle.pass_list.specs.StoredEdge.{Every, nil, cons}
use Rattle.numbers.specs.CallEdge.{Legals, Short, CallEdge, CallEdges}
use Rattle.numbers.proofs.stages.InactiveLaws.{inactive_some}

-- ---- the map of an edge that is not given is always one that may stand
pub allowed_map : (x : Option Numeric) → allowed false (map_of x) ≡ true
unfolding allowed
allowed_map none = refl
allowed_map (some x) = rw (map_bits x).numeric (lt-ltb (numeric_map x) 1024 (map_lt (some x)))

-- ---- one edge turned inactive
quiet_fits : {y : Numeric} → NumericFits y → NumericFits (quiet y)
quiet_fits f = record { orig = f.orig; value = f.value; fraction = f.fraction; base = f.base; mult = f.mult; script = f.script; value_s = f.value_s; decimals = f.decimals }

inactive_fits : (e : Edge) → EdgeFits e → EdgeFits (inactive e)
unfolding inactive
inactive_fits e f = record {
  start = f.start;
  end = f.end;
  type = f.type;
  txt = f.txt;
  num = λ x p. let q = inactive_some e x p in subst NumericFits (sym q.2) (quiet_fits (f.num q.0 q.1));
}

inactive_sound : (n : ℕ) (e : Edge) → sound n (inactive e) ≡ sound n e
unfolding inactive sound sound_numeric
inactive_sound n e = rw (go e.num)
  where
    go : (x : Option Numeric) → each sound_numeric (Option.map quiet x) ≡ each sound_numeric x
    go none = refl
    go (some x) = refl

pub inactive_legal : {n : ℕ} (e : Edge) → Legal false n e → Legal false n (inactive e)
inactive_legal {n} e l = record { fits = inactive_fits e l.fits; map = allowed_map (inactive e).num; content = inactive_sound n e ∙ l.content }

quiet_short : (e : Edge) (y : Numeric) → Short e y → Short (inactive e) (quiet y)
unfolding inactive
quiet_short e y s = record { type = s.type; txt = s.txt; orig = s.orig; script = s.script; value_s = s.value_s }

pub inactive_call : {n : ℕ} (e : Edge) → CallEdge n e → CallEdge n (inactive e)
inactive_call e c = record {
  legal = inactive_legal e c.legal;
  short = λ x p. let q = inactive_some e x p in subst (Short (inactive e)) (sym q.2) (quiet_short e q.0 (c.short q.0 q.1));
  value = λ x b p d v. let q = inactive_some e x p in c.value q.0 b q.1 (sym (ap (λ (z : Numeric). z.decimals) q.2) ∙ d) (sym (ap (λ (z : Numeric). z.value) q.2) ∙ v);
}

-- ---- edges added
module _ {P : Edge → Type 0} where
  every_snoc : (es : List Edge) (e : Edge) → Every P es → P e → Every P (es ++ (e ∷ []))
  every_snoc [] e nil p = cons p nil
  every_snoc (d ∷ es) e (cons q h) p = cons q (every_snoc es e h p)

  pub every_add : (es : List Edge) (e : Edge) → Every P es → P e → Every P (add es e)
  unfolding add
  every_add es e h p = go (has es e)
    where
      go : (t : Bool) → Every P (cond t es (es ++ (e ∷ [])))
      go true = h
      go false = every_snoc es e h p

  pub every_add_all : (es cs : List Edge) → Every P es → Every P cs → Every P (add_all es cs)
  unfolding add_all
  every_add_all es [] h nil = h
  every_add_all es (c ∷ cs) h (cons p k) = every_add_all (add es c) cs (every_add es c h p) k

pub add_all_call : {n : ℕ} {es cs : List Edge} → CallEdges n es → CallEdges n cs → CallEdges n (add_all es cs)
add_all_call {es = es} {cs} h k = every_add_all es cs h k

pub add_all_legals : {n : ℕ} {es cs : List Edge} → Legals n es → Legals n cs → Legals n (add_all es cs)
add_all_legals {es = es} {cs} h k = every_add_all es cs h k

-- ---- edges turned inactive
module _ {P : Edge → Type 0} (off : (e : Edge) → P e → P (inactive e)) where
  every_turned : (es : List Edge) (i : ℕ) → Every P es → Every P (turn_off_at es i)
  unfolding turn_off_at
  every_turned [] i nil = nil
  every_turned (e ∷ es) zero (cons p h) = cons (off e p) h
  every_turned (e ∷ es) (suc i) (cons p h) = cons p (every_turned es i h)

  pub every_turn_off : (es : List Edge) (is : List ℕ) → Every P es → Every P (turn_off es is)
  unfolding turn_off
  every_turn_off es [] h = h
  every_turn_off es (i ∷ is) h = every_turn_off (turn_off_at es i) is (every_turned es i h)

  pub every_map_inactive : (f : Edge → Bool) (es : List Edge) → Every P es → Every P (map (λ (e : Edge). cond (f e) (inactive e) e) es)
  every_map_inactive f [] nil = nil
  every_map_inactive f (e ∷ es) (cons p h) = cons (go (f e)) (every_map_inactive f es h)
    where
      go : (t : Bool) → P (cond t (inactive e) e)
      go true = off e p
      go false = p

pub turn_off_call : {n : ℕ} {es : List Edge} (is : List ℕ) → CallEdges n es → CallEdges n (turn_off es is)
turn_off_call {es = es} is h = every_turn_off inactive_call es is h

pub map_inactive_call : {n : ℕ} {es : List Edge} (f : Edge → Bool) → CallEdges n es → CallEdges n (map (λ (e : Edge). cond (f e) (inactive e) e) es)
map_inactive_call {es = es} f h = every_map_inactive inactive_call f es h
