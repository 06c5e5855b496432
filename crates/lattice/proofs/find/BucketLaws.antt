-- Laws of the buckets: the hash, the last edge of a bucket, and the search along a bucket. No contract cites this file. Assumes nothing.
use mathlib.Core.Path.{◌≡◌, refl, sym, ap, ◌∙◌}
use mathlib.Core.Logic.{⊎_elim}
use mathlib.Core.Bool.{Bool, true, false, cond}
use mathlib.Core.List.{List, ◌++◌}
use Prim.Native.Nat.{ℕ, zero, suc, ◌+◌, ◌-◌, ◌/◌, ◌%◌, ◌≤◌, ◌<◌}
use native.Mathlib.Nat.{eq-or-lt_of_le, le_of_suc-le-suc}
use native.Mathlib.Omega.{arith}
use native.Mathlib.Decide.{dec_lt}
use lib.ListN.{length, get_or, get_or-append}
use lib.Dec.{eqb}
use borrow.Author.Tests.{eqb-true, eqb-false}
use Rattle.fields.specs.Fields.{le_at}
use Rattle.fields.specs.Part.{part}
use Rattle.fields.proofs.FieldsLaws.{le_at-of_part}
use Rattle.fields.proofs.PartLaws.{length_part}
use Rattle.edge.specs.Edge.{Edge}
use Rattle.lattice.specs.Lattice.{same_key}
use Rattle.lattice.specs.Kept.{no_edge, key, mixed, hash, bucket, last_in}
use Rattle.lattice.proofs.KeyLaws.{same_key_lem}

-- ---- the hash
pub hash_is : (s : List ℕ) (at n : ℕ) → at + n ≤ length s → 4 ≤ n → {h u v : ℕ} → u ≡ le_at s at 4 → h ≡ mixed (n % 4294967296) u → v ≡ le_at s (at + (n - 4)) 4 → mixed h v / 16777216 ≡ hash (part s at n)
unfolding hash
hash_is s at n room l p q r = let z : at + 0 ≡ at = omega arith in rw (length_part s at n room, le_at-of_part s at n 0 4 l, z, le_at-of_part s at n (n - 4) 4 (omega arith), q, p, r)

hash_lt : (bs : List ℕ) → hash bs < 256
unfolding hash
hash_lt bs = omega arith

pub bucket_lt : (e : Edge) {b : ℕ} → b ≡ bucket e → b < 256
bucket_lt e p = rw p (hash_lt (key e))

-- ---- the last edge of a bucket
pub last_le : (es : List Edge) (b k : ℕ) → last_in es b k ≤ k
unfolding last_in
last_le es b zero = omega arith
last_le es b (suc k) = go (eqb (bucket (get_or es k no_edge)) b) (last_le es b k)
  where
    go : (t : Bool) → last_in es b k ≤ k → cond t (suc k) (last_in es b k) ≤ suc k
    go true h = omega arith
    go false h = omega arith

-- none of the bucket is passed over
last_skips : (es : List Edge) (b k j : ℕ) → j < k → last_in es b k ≤ j → eqb (bucket (get_or es j no_edge)) b ≡ false
unfolding last_in
last_skips es b zero j h l = absurd (omega arith)
last_skips es b (suc k) j h l = go (eqb (bucket (get_or es k no_edge)) b) refl l (last_skips es b k j)
  where
    go : (t : Bool) → eqb (bucket (get_or es k no_edge)) b ≡ t → cond t (suc k) (last_in es b k) ≤ j → (j < k → last_in es b k ≤ j → eqb (bucket (get_or es j no_edge)) b ≡ false)
        → eqb (bucket (get_or es j no_edge)) b ≡ false
    go true p m r = absurd (omega arith)
    go false p m r = ⊎_elim (λ e. rw e p) (λ x. r x m) (eq-or-lt_of_le (le_of_suc-le-suc h))

-- it is of the bucket
last_is : (es : List Edge) (b k j : ℕ) → last_in es b k ≡ suc j → bucket (get_or es j no_edge) ≡ b
unfolding last_in
last_is es b zero j e = absurd (omega arith)
last_is es b (suc k) j e = go (eqb (bucket (get_or es k no_edge)) b) refl e (last_is es b k j)
  where
    go : (t : Bool) → eqb (bucket (get_or es k no_edge)) b ≡ t → cond t (suc k) (last_in es b k) ≡ suc j → (last_in es b k ≡ suc j → bucket (get_or es j no_edge) ≡ b)
        → bucket (get_or es j no_edge) ≡ b
    go true p m r = let z : k ≡ j = omega arith in rw (← z) (eqb-true (bucket (get_or es k no_edge)) b p)
    go false p m r = r m

-- later edges change nothing
pub last_more : (es x : List Edge) (b k : ℕ) → k ≤ length es → last_in (es ++ x) b k ≡ last_in es b k
unfolding last_in
last_more es x b zero h = refl
last_more es x b (suc k) h = rw (get_or-append es x no_edge k h, last_more es x b k (omega arith))

-- ---- the search: it stands before the edge that is counted `edge`, from 1 on
other_bucket : (e c : Edge) → eqb (bucket e) (bucket c) ≡ false → same_key e c ≡ false
other_bucket e c h = go (same_key e c) refl
  where
    go : (t : Bool) → same_key e c ≡ t → same_key e c ≡ false
    go false p = p
    go true p = absurd (eqb-false (bucket e) (bucket c) h (ap hash (same_key_lem e c p)))

pub record Searching (es : List Edge) (c : Edge) (n edge : ℕ) : Type 0 where
  pub within : edge ≤ n
  pub in_bucket : (i : ℕ) → edge ≡ suc i → bucket (get_or es i no_edge) ≡ bucket c
  pub passed : (k : ℕ) → edge ≤ k → k < n → same_key (get_or es k no_edge) c ≡ false

-- it goes on with the last of the first m
pub onward : (es : List Edge) (c : Edge) (n m edge : ℕ) → m ≤ n → ((k : ℕ) → m ≤ k → k < n → same_key (get_or es k no_edge) c ≡ false) → edge ≡ last_in es (bucket c) m → Searching es c n edge
onward es c n m edge h f e =
    let l = last_le es (bucket c) m in
    record {
      within = omega arith;
      in_bucket = λ i p. last_is es (bucket c) m i (sym e ∙ p);
      passed = λ k a b. go k a b (dec_lt k m);
    }
  where
    go : (k : ℕ) → edge ≤ k → k < n → Dec (k < m) → same_key (get_or es k no_edge) c ≡ false
    go k a b (yes x) = other_bucket (get_or es k no_edge) c (last_skips es (bucket c) m k x (omega arith))
    go k a b (no x) = f k (omega arith) b

-- one edge of the bucket is another
pub search_turn : (es : List Edge) (c : Edge) (n edge i next : ℕ) → Searching es c n edge → edge ≡ suc i → same_key (get_or es i no_edge) c ≡ false → next ≡ last_in es (bucket (get_or es i no_edge)) i
    → Searching es c n next
search_turn es c n edge i next g e s p =
    let x = g.within in
    onward es c n i next (omega arith) (λ k a b. go k a b (dec_lt i k)) (p ∙ ap (λ (z : ℕ). last_in es z i) (g.in_bucket i e))
  where
    go : (k : ℕ) → i ≤ k → k < n → Dec (i < k) → same_key (get_or es k no_edge) c ≡ false
    go k a b (yes x) = g.passed k (omega arith) b
    go k a b (no x) = let z : k ≡ i = omega arith in rw z s
