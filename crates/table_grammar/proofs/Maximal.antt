-- "A run is a maximal stretch of 零 to 九" (01, "Grammar"): the grammar says so by `Follows`, atom by atom. Here is why that is maximality in the line, over any alphabet.
--     follows_run   after a run, `Follows` says that no digit comes next, and 01's rule for a unit alone; no more, no less
--     maximal       each run of a reading stands in the line with no digit directly before it and none directly after it
use Prim.Native.Nat.{ℕ}
use mathlib.Core.Path.{◌≡◌, refl, sym, ◌∙◌}
use mathlib.Core.Logic.{◌↔◌}
use mathlib.Core.List.{List, [], ◌∷◌, ◌++◌, append_assoc}
use native.Mathlib.Omega.{arith}
use Rattle.table_grammar.specs.Row.{Row, one, ◌▷◌, last}
use Rattle.table_grammar.specs.Grammar.{CharOf, digit, ten, large, AtomOf, run, times, power, MemberOf, small, block, lone, DivisionOf, Alphabet, run_value, Follows, IsSmall, IsMember, IsBlock, IsNumeral, run_text, atom_text, small_text, member_text, division_text, ReadingOf}

module _ {D T L : Type 0} (A : Alphabet D T L) where
  -- ---- what is said

  -- no digit stands at the end of x; none at the beginning of y
  abbrev pub NoDigitEnds : List (CharOf D T L) → Type 0
  NoDigitEnds x = (z : List (CharOf D T L)) (d : D) → x ≡ z ++ (digit d ∷ []) → ⊥

  abbrev pub NoDigitBegins : List (CharOf D T L) → Type 0
  NoDigitBegins y = (z : List (CharOf D T L)) (d : D) → y ≡ digit d ∷ z → ⊥

  -- the line w is x, the run r, y, and neither digit before nor digit after makes the run longer
  pub record Maximal (w x : List (CharOf D T L)) (r : Row D) (y : List (CharOf D T L)) : Type 0 where
    pub stands : x ++ run_text r y ≡ w
    pub before : NoDigitEnds x
    pub after : NoDigitBegins y

  -- P holds of each run of a division that stands between x and y, with what is before the run and after it
  module _ (P : List (CharOf D T L) → Row D → List (CharOf D T L) → Type 0) where
    abbrev pub AtomRuns : AtomOf D T → List (CharOf D T L) → List (CharOf D T L) → Type 0
    AtomRuns (run r) x y = P x r y
    AtomRuns (times r t) x y = P x r (ten t ∷ y)
    AtomRuns (power t) x y = Unit {0}

    abbrev pub SmallRuns : Row (AtomOf D T) → List (CharOf D T L) → List (CharOf D T L) → Type 0
    SmallRuns (one a) x y = AtomRuns a x y
    SmallRuns (s ▷ a) x y = SmallRuns s x (atom_text a y) × AtomRuns a (x ++ small_text s []) y

    abbrev pub MemberRuns : MemberOf D T L → List (CharOf D T L) → List (CharOf D T L) → Type 0
    MemberRuns (small s) x y = SmallRuns s x y
    MemberRuns (block s l) x y = SmallRuns s x (large l ∷ y)
    MemberRuns (lone l) x y = Unit {0}

    abbrev pub Runs : DivisionOf D T L → List (CharOf D T L) → List (CharOf D T L) → Type 0
    Runs (one m) x y = MemberRuns m x y
    Runs (d ▷ m) x y = Runs d x (member_text m y) × MemberRuns m (x ++ division_text d []) y

  -- ---- `Follows` and the character after a run

  run_begins : (r : Row D) (w : List (CharOf D T L)) → (z : List (CharOf D T L)) × (d : D) × (run_text r w ≡ digit d ∷ z)
  run_begins (one d) w = (w, d, refl)
  run_begins (r ▷ d) w = run_begins r (digit d ∷ w)

  ten_begins : (t : T) (y : List (CharOf D T L)) → NoDigitBegins (ten t ∷ y)
  ten_begins t y z d e = let c : ◌≡◌ {A = ℕ} 0 1 = cc in omega arith

  large_begins : (l : L) (y : List (CharOf D T L)) → NoDigitBegins (large l ∷ y)
  large_begins l y z d e = let c : ◌≡◌ {A = ℕ} 0 1 = cc in omega arith

  -- 01's rule for a unit alone, after the run r
  abbrev pub PowerRule : Row D → AtomOf D T → Type 0
  PowerRule r (run q) = Unit {0}
  PowerRule r (times q t) = Unit {0}
  PowerRule r (power t) = run_value A r ≡ 0

  pub follows_run : (r : Row D) (a : AtomOf D T) (y : List (CharOf D T L)) → Follows A (run r) a ↔ (NoDigitBegins (atom_text a y) × PowerRule r a)
  follows_run r (run q) y = (λ f. absurd f, λ h. let (z, d, e) = run_begins q y in h.0 z d e)
  follows_run r (times q t) y = (λ f. absurd f, λ h. let (z, d, e) = run_begins q (ten t ∷ y) in h.0 z d e)
  follows_run r (power t) y = (λ f. (ten_begins t y, f), λ h. h.1)

  -- ---- what stands before

  -- the last of two lists in a row
  ends_append : (x : List (CharOf D T L)) (c : CharOf D T L) → ((d : D) → c ≡ digit d → ⊥) → NoDigitEnds (x ++ (c ∷ []))
  ends_append [] c n [] d e = n d (cc)
  ends_append [] c n (b ∷ []) d e = let k : ◌≡◌ {A = ℕ} 0 1 = cc in omega arith
  ends_append [] c n (b ∷ b' ∷ z) d e = let k : ◌≡◌ {A = ℕ} 0 1 = cc in omega arith
  ends_append (a ∷ []) c n [] d e = let k : ◌≡◌ {A = ℕ} 0 1 = cc in omega arith
  ends_append (a ∷ a' ∷ x) c n [] d e = let k : ◌≡◌ {A = ℕ} 0 1 = cc in omega arith
  ends_append (a ∷ x) c n (b ∷ z) d e = ends_append x c n z d (cc)

  -- the characters of a piece, then w, are those of the piece alone and w
  run_append : (r : Row D) (w : List (CharOf D T L)) → run_text r w ≡ run_text r [] ++ w
  run_append (one d) w = refl
  run_append (r ▷ d) w = run_append r (digit d ∷ w) ∙ sym (rw (run_append r (digit d ∷ []), append_assoc))

  atom_append : (a : AtomOf D T) (w : List (CharOf D T L)) → atom_text a w ≡ atom_text a [] ++ w
  atom_append (run r) w = run_append r w
  atom_append (times r t) w = run_append r (ten t ∷ w) ∙ sym (rw (run_append r (ten t ∷ []), append_assoc))
  atom_append (power t) w = refl

  small_append : (s : Row (AtomOf D T)) (w : List (CharOf D T L)) → small_text s w ≡ small_text s [] ++ w
  small_append (one a) w = atom_append a w
  small_append (s ▷ a) w = small_append s (atom_text a w) ∙ sym (rw (small_append s (atom_text a []), append_assoc, ← (atom_append a w)))

  member_append : (m : MemberOf D T L) (w : List (CharOf D T L)) → member_text m w ≡ member_text m [] ++ w
  member_append (small s) w = small_append s w
  member_append (block s l) w = small_append s (large l ∷ w) ∙ sym (rw (small_append s (large l ∷ []), append_assoc))
  member_append (lone l) w = refl

  division_append : (d : DivisionOf D T L) (w : List (CharOf D T L)) → division_text d w ≡ division_text d [] ++ w
  division_append (one m) w = member_append m w
  division_append (d ▷ m) w = division_append d (member_text m w) ∙ sym (rw (division_append d (member_text m []), append_assoc, ← (member_append m w)))

  -- what an atom's run needs before it and after it
  abbrev Before : AtomOf D T → List (CharOf D T L) → Type 0
  Before (run r) x = NoDigitEnds x
  Before (times r t) x = NoDigitEnds x
  Before (power t) x = Unit {0}

  abbrev After : AtomOf D T → List (CharOf D T L) → Type 0
  After (run r) y = NoDigitBegins y
  After (times r t) y = Unit {0}
  After (power t) y = Unit {0}

  before_any : (a : AtomOf D T) (x : List (CharOf D T L)) → NoDigitEnds x → Before a x
  before_any (run r) x n = n
  before_any (times r t) x n = n
  before_any (power t) x n = tt

  after_any : (a : AtomOf D T) (y : List (CharOf D T L)) → NoDigitBegins y → After a y
  after_any (run r) y n = n
  after_any (times r t) y n = tt
  after_any (power t) y n = tt

  ten_ends : (x : List (CharOf D T L)) (t : T) → NoDigitEnds (x ++ (ten t ∷ []))
  ten_ends x t = ends_append x (ten t) (λ d e. let c : ◌≡◌ {A = ℕ} 0 1 = cc in omega arith)

  large_ends : (x : List (CharOf D T L)) (l : L) → NoDigitEnds (x ++ (large l ∷ []))
  large_ends x l = ends_append x (large l) (λ d e. let c : ◌≡◌ {A = ℕ} 0 1 = cc in omega arith)

  -- between two atoms of a small
  after_next : (a b : AtomOf D T) (y : List (CharOf D T L)) → Follows A a b → After a (atom_text b y)
  after_next (run r) b y f = ((follows_run r b y).0 f).0
  after_next (times r t) b y f = tt
  after_next (power t) b y f = tt

  before_next : (a b : AtomOf D T) (x : List (CharOf D T L)) → Follows A a b → Before b (x ++ atom_text a [])
  before_next (run r) (run q) x f = absurd f
  before_next (run r) (times q t) x f = absurd f
  before_next (run r) (power t) x f = tt
  before_next (times r t) b x f = before_any b _ (rw (run_append r (ten t ∷ []), ← (append_assoc x (run_text r []) (ten t ∷ []))) (ten_ends (x ++ run_text r []) t))
  before_next (power t) b x f = before_any b _ (ten_ends x t)

  before_small : (s : Row (AtomOf D T)) (b : AtomOf D T) (x : List (CharOf D T L)) → Follows A (last s) b → Before b (x ++ small_text s [])
  before_small (one a) b x f = before_next a b x f
  before_small (s ▷ a) b x f = rw (small_append s (atom_text a []), ← (append_assoc x (small_text s []) (atom_text a []))) (before_next a b (x ++ small_text s []) f)

  block_ends : (m : MemberOf D T L) (x : List (CharOf D T L)) → IsBlock m → NoDigitEnds (x ++ member_text m [])
  block_ends (small s) x b = absurd b
  block_ends (block s l) x b = rw (small_append s (large l ∷ []), ← (append_assoc x (small_text s []) (large l ∷ []))) (large_ends (x ++ small_text s []) l)
  block_ends (lone l) x b = large_ends x l

  blocks_end : (d : DivisionOf D T L) (x : List (CharOf D T L)) → IsBlock (last d) → NoDigitEnds (x ++ division_text d [])
  blocks_end (one m) x b = block_ends m x b
  blocks_end (d ▷ m) x b = rw (division_append d (member_text m []), ← (append_assoc x (division_text d []) (member_text m []))) (block_ends m (x ++ division_text d []) b)

  -- what a member needs after it
  abbrev AfterMember : MemberOf D T L → List (CharOf D T L) → Type 0
  AfterMember (small s) y = NoDigitBegins y
  AfterMember (block s l) y = Unit {0}
  AfterMember (lone l) y = Unit {0}

  after_block : (m : MemberOf D T L) (y : List (CharOf D T L)) → IsBlock m → AfterMember m y
  after_block (small s) y b = absurd b
  after_block (block s l) y b = tt
  after_block (lone l) y b = tt

  -- ---- the runs of a division are maximal in the line w
  module _ (w : List (CharOf D T L)) where
    atom_maximal : (a : AtomOf D T) (x y : List (CharOf D T L)) → x ++ atom_text a y ≡ w → Before a x → After a y → AtomRuns (Maximal w) a x y
    atom_maximal (run r) x y e b f = record { stands = e; before = b; after = f }
    atom_maximal (times r t) x y e b f = record { stands = e; before = b; after = ten_begins t y }
    atom_maximal (power t) x y e b f = tt

    small_maximal : (s : Row (AtomOf D T)) (x y : List (CharOf D T L)) → IsSmall A s → x ++ small_text s y ≡ w → NoDigitEnds x → After (last s) y → SmallRuns (Maximal w) s x y
    small_maximal (one a) x y h e n f = atom_maximal a x y e (before_any a x n) f
    small_maximal (s ▷ a) x y h e n f = (
      small_maximal s x (atom_text a y) h.0 e n (after_next (last s) a y h.1),
      atom_maximal a (x ++ small_text s []) y (rw (append_assoc, ← (small_append s (atom_text a y))) e) (before_small s a x h.1) f,
    )

    member_maximal : (m : MemberOf D T L) (x y : List (CharOf D T L)) → IsMember A m → x ++ member_text m y ≡ w → NoDigitEnds x → AfterMember m y → MemberRuns (Maximal w) m x y
    member_maximal (small s) x y h e n f = small_maximal s x y h e n (after_any (last s) y f)
    member_maximal (block s l) x y h e n f = small_maximal s x (large l ∷ y) h e n (after_any (last s) (large l ∷ y) (large_begins l y))
    member_maximal (lone l) x y h e n f = tt

    division_maximal : (d : DivisionOf D T L) (x y : List (CharOf D T L)) → IsNumeral A d → x ++ division_text d y ≡ w → NoDigitEnds x → AfterMember (last d) y → Runs (Maximal w) d x y
    division_maximal (one m) x y h e n f = member_maximal m x y h e n f
    division_maximal (d ▷ m) x y h e n f = (
      division_maximal d x (member_text m y) h.0 e n (after_block (last d) (member_text m y) h.1),
      member_maximal m (x ++ division_text d []) y h.2 (rw (append_assoc, ← (division_append d (member_text m y))) e) (blocks_end d x h.1) f,
    )

  -- nothing stands before the line and nothing after it
  nil_ends : NoDigitEnds []
  nil_ends [] d e = let c : ◌≡◌ {A = ℕ} 0 1 = cc in omega arith
  nil_ends (a ∷ z) d e = let c : ◌≡◌ {A = ℕ} 0 1 = cc in omega arith

  nil_after : (m : MemberOf D T L) → AfterMember m []
  nil_after (small s) = λ z d e. let c : ◌≡◌ {A = ℕ} 0 1 = cc in omega arith
  nil_after (block s l) = tt
  nil_after (lone l) = tt

  pub maximal : (w : List (CharOf D T L)) (r : ReadingOf A w) → Runs (Maximal w) r.division [] []
  maximal w r = division_maximal w r.division [] [] r.rules r.whole nil_ends (nil_after (last r.division))
