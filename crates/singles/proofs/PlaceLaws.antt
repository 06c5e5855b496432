-- The stage of 02's S-12 by keys and by places: laws of single edges, which `proofs/ByPlace.antt` puts together.
-- In order: tests; what is silenced; by place; one edge. Assumes nothing.
use mathlib.Core.Path.{◌≡◌, refl, sym, ap, ◌∙◌, subst}
use mathlib.Core.Logic.{◌⊎◌, inl, inr}
use mathlib.Core.Bool.{Bool, true, false, cond, ◌&&◌, ◌||◌, true≢false}
use mathlib.Core.List.Memᴰ
use mathlib.Core.List.{List, [], ◌∷◌, map, Memᴰ}
use mathlib.Core.Option.{Option, none, some}
use Prim.Native.Nat.{ℕ, suc}
use lib.Dec.{eqb}
use borrow.Author.Tests.{eqb-true, eq-eqb}
use Rattle.text.proofs.RowLaws.{and-true, or-true}
use Rattle.table.specs.Table.{Table}
use Rattle.passes.specs.NumEdge.{NumEdge}
use Rattle.passes.specs.Characters.{first_list}
use Rattle.passes.specs.Passes.{fifth_list, one_place}
use Rattle.edge.specs.Edge.{Edge, Numeric}
use Rattle.lattice.specs.Lattice.{same_key, has, inactive}
use Rattle.pass_list.specs.StoredEdge.{Every, nil, cons}
use Rattle.numbers.specs.Listed.{listed_edge}
use Rattle.numbers.specs.Marks.{any_at}
use Rattle.numbers.specs.Fractions.{is_numeric}
use Rattle.numbers.specs.Separators.{apart, copy_of, copies}
use Rattle.numbers.specs.Singles.{barred, barred_of, silenced, silence}
use Rattle.singles.specs.ByPlace.{MayNotStand, barred_at, quiet_at}
use Rattle.singles.proofs.SilenceLaws.{Regular, numeric_data, silence_regular, inactive_regular}
use Rattle.singles.proofs.PassPlaces.{every_at, one_char, fifth_placed}
use Rattle.singles.proofs.SinglePlaces.{Late}

-- ---- tests
or_right : (a : Bool) {b : Bool} → b ≡ true → (a || b) ≡ true
or_right true h = refl
or_right false h = h

both_true : {a b : Bool} → a ≡ true → b ≡ true → (a && b) ≡ true
both_true p q = rw (p, q)

same_test : (a b : Bool) → (a ≡ true → b ≡ true) → (b ≡ true → a ≡ true) → a ≡ b
same_test true b f g = sym (f refl)
same_test false true f g = g refl
same_test false false f g = refl

-- ---- what is silenced
has_mem : (ds : List Edge) (e : Edge) → has ds e ≡ true → (d : Edge) × Memᴰ d ds × (same_key d e ≡ true)
unfolding has
has_mem [] e h = absurd (true≢false (sym h))
has_mem (d ∷ ds) e h = go (or-true (same_key d e) (has ds e) h) (has_mem ds e)
  where
    go : (same_key d e ≡ true) ⊎ (has ds e ≡ true) → (has ds e ≡ true → (c : Edge) × Memᴰ c ds × (same_key c e ≡ true)) → (c : Edge) × Memᴰ c (d ∷ ds) × (same_key c e ≡ true)
    go (inl k) ih = (d, Memᴰ.head refl, k)
    go (inr k) ih = let (c, m, s) = ih k in (c, Memᴰ.tail m, s)

mem_has : {d : Edge} {ds : List Edge} (e : Edge) → Memᴰ d ds → same_key d e ≡ true → has ds e ≡ true
unfolding has
mem_has e (Memᴰ.head {x = c} p) s = rw (← p, s)
mem_has e (Memᴰ.tail {x = c} m) s = or_right (same_key c e) (mem_has e m s)

barred_mem : (d : Edge) (l : List NumEdge) → Memᴰ d (barred_of l) → (x : NumEdge) × Memᴰ x l × (barred x ≡ true) × (d ≡ listed_edge x)
unfolding barred_of
barred_mem d [] m = absurd (Memᴰ.not-nil m)
barred_mem d (y ∷ l) m = go (barred y) refl m (barred_mem d l)
  where
    on : (x : NumEdge) × Memᴰ x l × (barred x ≡ true) × (d ≡ listed_edge x) → (x : NumEdge) × Memᴰ x (y ∷ l) × (barred x ≡ true) × (d ≡ listed_edge x)
    on (x, m, b, p) = (x, Memᴰ.tail m, b, p)

    here : barred y ≡ true → (Memᴰ d (barred_of l) → (x : NumEdge) × Memᴰ x l × (barred x ≡ true) × (d ≡ listed_edge x))
        → (d ≡ listed_edge y) ⊎ Memᴰ d (barred_of l) → (x : NumEdge) × Memᴰ x (y ∷ l) × (barred x ≡ true) × (d ≡ listed_edge x)
    here b ih (inl p) = (y, Memᴰ.head refl, b, p)
    here b ih (inr m) = on (ih m)

    go : (b : Bool) → barred y ≡ b → Memᴰ d (cond b (listed_edge y ∷ barred_of l) (barred_of l))
        → (Memᴰ d (barred_of l) → (x : NumEdge) × Memᴰ x l × (barred x ≡ true) × (d ≡ listed_edge x))
        → (x : NumEdge) × Memᴰ x (y ∷ l) × (barred x ≡ true) × (d ≡ listed_edge x)
    go true b m ih = here b ih (Memᴰ.cases_cons m)
    go false b m ih = on (ih m)

mem_barred : {x : NumEdge} {l : List NumEdge} → Memᴰ x l → barred x ≡ true → Memᴰ (listed_edge x) (barred_of l)
unfolding barred_of
mem_barred (Memᴰ.head p) b = rw (← p, b) (Memᴰ.head refl)
mem_barred {x} (Memᴰ.tail {x = y} {xs = l} m) b = go (barred y) (mem_barred m b)
  where
    go : (c : Bool) → Memᴰ (listed_edge x) (barred_of l) → Memᴰ (listed_edge x) (cond c (listed_edge y ∷ barred_of l) (barred_of l))
    go true k = Memᴰ.tail k
    go false k = k

copies_mem : (es : List Edge) (c : Edge) (ds : List Edge) → Memᴰ c (copies es ds) → (d : Edge) × Memᴰ d ds × (apart es d ≡ true) × (c ≡ copy_of d)
unfolding copies
copies_mem es c [] m = absurd (Memᴰ.not-nil m)
copies_mem es c (y ∷ ds) m = go (apart es y) refl m (copies_mem es c ds)
  where
    on : (d : Edge) × Memᴰ d ds × (apart es d ≡ true) × (c ≡ copy_of d) → (d : Edge) × Memᴰ d (y ∷ ds) × (apart es d ≡ true) × (c ≡ copy_of d)
    on (d, m, a, p) = (d, Memᴰ.tail m, a, p)

    here : apart es y ≡ true → (Memᴰ c (copies es ds) → (d : Edge) × Memᴰ d ds × (apart es d ≡ true) × (c ≡ copy_of d))
        → (c ≡ copy_of y) ⊎ Memᴰ c (copies es ds) → (d : Edge) × Memᴰ d (y ∷ ds) × (apart es d ≡ true) × (c ≡ copy_of d)
    here a ih (inl p) = (y, Memᴰ.head refl, a, p)
    here a ih (inr m) = on (ih m)

    go : (a : Bool) → apart es y ≡ a → Memᴰ c (cond a (copy_of y ∷ copies es ds) (copies es ds))
        → (Memᴰ c (copies es ds) → (d : Edge) × Memᴰ d ds × (apart es d ≡ true) × (c ≡ copy_of d))
        → (d : Edge) × Memᴰ d (y ∷ ds) × (apart es d ≡ true) × (c ≡ copy_of d)
    go true a m ih = here a ih (Memᴰ.cases_cons m)
    go false a m ih = on (ih m)

mem_copies : (es : List Edge) {d : Edge} {ds : List Edge} → Memᴰ d ds → apart es d ≡ true → Memᴰ (copy_of d) (copies es ds)
unfolding copies
mem_copies es (Memᴰ.head p) a = rw (← p, a) (Memᴰ.head refl)
mem_copies es {d} (Memᴰ.tail {x = y} {xs = ds} m) a = go (apart es y) (mem_copies es m a)
  where
    go : (c : Bool) → Memᴰ (copy_of d) (copies es ds) → Memᴰ (copy_of d) (cond c (copy_of y ∷ copies es ds) (copies es ds))
    go true k = Memᴰ.tail k
    go false k = k

pub silenced_are : (t : Table) (w : List ℕ) (es : List Edge) (e : Edge) → (has (silenced t w es) e ≡ true → MayNotStand t w es e) × (MayNotStand t w es e → has (silenced t w es) e ≡ true)
unfolding silenced
silenced_are t w es e = (λ h. let (d, m, s) = has_mem (silenced t w es) e h in to d s (Memᴰ.append_cases (barred_of (fifth_list t w)) m), λ n. from n n.is)
  where
    copied : (d c : Edge) → same_key c e ≡ true → c ≡ copy_of d → apart es d ≡ true → (x : NumEdge) × Memᴰ x (fifth_list t w) × (barred x ≡ true) × (d ≡ listed_edge x) → MayNotStand t w es e
    copied d c s p a (x, m, b, q) = record { single = x; in_list = m; is_barred = b; is = inr (ap (apart es) (sym q) ∙ a, ap (λ (z : Edge). same_key (copy_of z) e) (sym q) ∙ ap (λ (z : Edge). same_key z e) (sym p) ∙ s) }

    to : (d : Edge) → same_key d e ≡ true → Memᴰ d (barred_of (fifth_list t w)) ⊎ Memᴰ d (copies es (barred_of (fifth_list t w))) → MayNotStand t w es e
    to d s (inl m) = let (x, n, b, p) = barred_mem d (fifth_list t w) m in record { single = x; in_list = n; is_barred = b; is = inl (ap (λ (z : Edge). same_key z e) (sym p) ∙ s) }
    to c s (inr m) = let (d, n, a, p) = copies_mem es c (barred_of (fifth_list t w)) m in copied d c s p a (barred_mem d (fifth_list t w) n)

    from : (n : MayNotStand t w es e)
        → (same_key (listed_edge n.single) e ≡ true) ⊎ ((apart es (listed_edge n.single) ≡ true) × (same_key (copy_of (listed_edge n.single)) e ≡ true)) → has (silenced t w es) e ≡ true
    from n (inl s) = mem_has e (Memᴰ.append_left (copies es (barred_of (fifth_list t w))) (mem_barred n.in_list n.is_barred)) s
    from n (inr (a, s)) = mem_has e (Memᴰ.append_right (barred_of (fifth_list t w)) (mem_copies es (mem_barred n.in_list n.is_barred) a)) s

-- ---- by place
key_places : (d e : Edge) → same_key d e ≡ true → (d.start ≡ e.start) × (d.end ≡ e.end)
unfolding same_key
key_places d e h =
    let a = and-true (eqb d.start e.start) _ h in
    let b = and-true (eqb d.end e.end) _ a.1 in
    (eqb-true d.start e.start a.0, eqb-true d.end e.end b.0)

-- the places of e are those of the edge x
places_of : (es : List Edge) (x : NumEdge) (e : Edge) → (same_key (listed_edge x) e ≡ true) ⊎ ((apart es (listed_edge x) ≡ true) × (same_key (copy_of (listed_edge x)) e ≡ true)) → (x.start ≡ e.start) × (x.end ≡ e.end)
unfolding listed_edge copy_of
places_of es x e (inl s) = key_places (listed_edge x) e s
places_of es x e (inr (a, s)) = key_places (copy_of (listed_edge x)) e s

barred_one : (x : NumEdge) → barred x ≡ true → x.end ≡ suc x.start
unfolding barred
barred_one x b = eqb-true x.end (suc x.start) (and-true (one_place x) _ b).0

at_barred : {x : NumEdge} {l : List NumEdge} (p : ℕ) → Memᴰ x l → barred x ≡ true → x.start ≡ p → barred_at l p ≡ true
unfolding any_at
at_barred {x} p (Memᴰ.head e) b s = rw (← e, eq-eqb x.start p s, b)
at_barred p (Memᴰ.tail {x = y} m) b s = or_right (eqb y.start p && barred y) (at_barred p m b s)

barred_at_lem : (l : List NumEdge) (p : ℕ) → barred_at l p ≡ true → (x : NumEdge) × Memᴰ x l × (barred x ≡ true) × (x.start ≡ p)
unfolding any_at
barred_at_lem [] p h = absurd (true≢false (sym h))
barred_at_lem (y ∷ l) p h = go (or-true (eqb y.start p && barred y) (barred_at l p) h) (barred_at_lem l p)
  where
    go : ((eqb y.start p && barred y) ≡ true) ⊎ (barred_at l p ≡ true) → (barred_at l p ≡ true → (x : NumEdge) × Memᴰ x l × (barred x ≡ true) × (x.start ≡ p))
        → (x : NumEdge) × Memᴰ x (y ∷ l) × (barred x ≡ true) × (x.start ≡ p)
    go (inl k) ih = let b = and-true (eqb y.start p) (barred y) k in (y, Memᴰ.head refl, b.1, eqb-true y.start p b.0)
    go (inr k) ih = let (x, m, b, s) = ih k in (x, Memᴰ.tail m, b, s)

-- ---- one edge
module _ (t : Table) (w : List ℕ) (es : List Edge) (e : Edge) where
  there : has (silenced t w es) e ≡ true → (eqb e.end (suc e.start) && barred_at (fifth_list t w) e.start) ≡ true
  there h =
      let n = (silenced_are t w es e).0 h in
      let (s, z) = places_of es n.single e n.is in
      both_true (eq-eqb e.end (suc e.start) (sym z ∙ barred_one n.single n.is_barred ∙ ap suc s)) (at_barred e.start n.in_list n.is_barred s)

  back : Late (first_list t w) es e → is_numeric e ≡ true → (eqb e.end (suc e.start) && barred_at (fifth_list t w) e.start) ≡ true → has (silenced t w es) e ≡ true
  back late num h =
      let (o, b) = and-true (eqb e.end (suc e.start)) _ h in
      let (c, m, is) = late num (eqb-true e.end (suc e.start) o) in
      let (x, n, k, s) = barred_at_lem (fifth_list t w) e.start b in
      let same : x ≡ c = one_char t.records 0 w x c ((every_at (fifth_placed t w) n).own (barred_one x k)) m (s ∙ sym (places_of es c e is).0) in
      (silenced_are t w es e).1 (record { single = c; in_list = subst (λ (y : NumEdge). Memᴰ y (fifth_list t w)) same n; is_barred = ap barred (sym same) ∙ k; is = is })

  regular_of : is_numeric e ≡ false → Regular e
  regular_of h = go e.num h
    where
      go : (o : Option Numeric) → numeric_data o ≡ false → o ≡ none
      go none k = refl
      go (some n) k = absurd (true≢false k)

  by_place : Late (first_list t w) es e → silence (silenced t w es) e ≡ quiet_at (fifth_list t w) e
  by_place late = go (is_numeric e) refl
    where
      quiet_regular : (b : Bool) → Regular e → e ≡ cond b (inactive e) e
      quiet_regular true r = sym (inactive_regular e r)
      quiet_regular false r = refl

      go : (b : Bool) → is_numeric e ≡ b → silence (silenced t w es) e ≡ quiet_at (fifth_list t w) e
      go true h = ap (λ (b : Bool). cond b (inactive e) e) (same_test _ _ there (back late h))
      go false h = let r = regular_of h in silence_regular (silenced t w es) e r ∙ quiet_regular (eqb e.end (suc e.start) && barred_at (fifth_list t w) e.start) r

pub each_by_place : (t : Table) (w : List ℕ) (es : List Edge) {ds : List Edge} → Every (Late (first_list t w) es) ds → map (silence (silenced t w es)) ds ≡ map (quiet_at (fifth_list t w)) ds
each_by_place t w es nil = refl
each_by_place t w es (cons {x = d} {l = ds} h k) = rw (by_place t w es d h, each_by_place t w es k)
