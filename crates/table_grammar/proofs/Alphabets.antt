-- Two alphabets, of which the second has for each character of the first one with the same value and base: a line of the first, each character replaced by its other, is a numeral
-- by the second exactly where it is one by the first, and the division is the same with its characters replaced, with the same value. No pass is named.
-- In order: what is replaced; the characters of a division; a division of the second that spells such a line is a replaced one; values, bases and rules; readings.
--     f, g, h      the other digit, unit, large power
--     Same A B     they have the same values and bases, and are a lone 零, or count by base/10, alike
use Prim.Native.Nat.{ℕ}
use mathlib.Core.Path.{◌≡◌, refl, sym, ap, ◌∙◌, subst}
use mathlib.Core.Logic.{◌↔◌}
use mathlib.Core.List.{List, [], ◌∷◌, map}
use mathlib.Core.Option.{Option, none, some, some-ne-none}
use Rattle.table_grammar.specs.Row.{Row, one, ◌▷◌, last}
use Rattle.table_grammar.specs.Grammar.{CharOf, digit, ten, large, AtomOf, run, times, power, MemberOf, small, block, lone, DivisionOf, Alphabet, run_value, atom_value, atom_base, small_value, small_base, member_value, member_base, IsAtom, Follows, lone_zero, near_base, IsSmall, IsMember, IsBlock, single_digit, count_value, count_base, IsNumeral, division_value, run_text, atom_text, small_text, member_text, division_text, ReadingOf}
use Rattle.table_grammar.proofs.Pieces.{row_map}
use Rattle.table_grammar.proofs.Readings.{last_map, same_division}
use Rattle.table_grammar.proofs.Computed.{said, said_reading, reading_said}

module _ {D T L D' T' L' : Type 0} (f : D → D') (g : T → T') (h : L → L') where
  abbrev pub char_by : CharOf D T L → CharOf D' T' L'
  char_by (digit d) = digit (f d)
  char_by (ten t) = ten (g t)
  char_by (large l) = large (h l)

  abbrev pub atom_by : AtomOf D T → AtomOf D' T'
  atom_by (run r) = run (row_map f r)
  atom_by (times r t) = times (row_map f r) (g t)
  atom_by (power t) = power (g t)

  abbrev pub member_by : MemberOf D T L → MemberOf D' T' L'
  member_by (small s) = small (row_map atom_by s)
  member_by (block s l) = block (row_map atom_by s) (h l)
  member_by (lone l) = lone (h l)

  abbrev pub division_by : DivisionOf D T L → DivisionOf D' T' L'
  division_by d = row_map member_by d

  pub record Same (A : Alphabet D T L) (B : Alphabet D' T' L') : Type 0 where
    pub digit_value_lem : (d : D) → B.digit_value (f d) ≡ A.digit_value d
    pub ten_value_lem : (t : T) → B.ten_value (g t) ≡ A.ten_value t
    pub ten_base_lem : (t : T) → B.ten_base (g t) ≡ A.ten_base t
    pub large_value_lem : (l : L) → B.large_value (h l) ≡ A.large_value l
    pub large_base_lem : (l : L) → B.large_base (h l) ≡ A.large_base l
    pub zero : (d : D) → B.is_zero (f d) ≡ A.is_zero d
    pub tenths : (m : MemberOf D T L) → B.tenths (member_by m) ≡ A.tenths m

  -- ---- the characters of a division
  run_text_lem : (r : Row D) (w : List (CharOf D T L)) → run_text (row_map f r) (map char_by w) ≡ map char_by (run_text r w)
  run_text_lem (one d) w = refl
  run_text_lem (r ▷ d) w = run_text_lem r (digit d ∷ w)

  atom_text_lem : (a : AtomOf D T) (w : List (CharOf D T L)) → atom_text (atom_by a) (map char_by w) ≡ map char_by (atom_text a w)
  atom_text_lem (run r) w = run_text_lem r w
  atom_text_lem (times r t) w = run_text_lem r (ten t ∷ w)
  atom_text_lem (power t) w = refl

  small_text_lem : (s : Row (AtomOf D T)) (w : List (CharOf D T L)) → small_text (row_map atom_by s) (map char_by w) ≡ map char_by (small_text s w)
  small_text_lem (one a) w = atom_text_lem a w
  small_text_lem (s ▷ a) w = ap (small_text (row_map atom_by s)) (atom_text_lem a w) ∙ small_text_lem s (atom_text a w)

  member_text_lem : (m : MemberOf D T L) (w : List (CharOf D T L)) → member_text (member_by m) (map char_by w) ≡ map char_by (member_text m w)
  member_text_lem (small s) w = small_text_lem s w
  member_text_lem (block s l) w = small_text_lem s (large l ∷ w)
  member_text_lem (lone l) w = refl

  division_text_lem : (d : DivisionOf D T L) (w : List (CharOf D T L)) → division_text (division_by d) (map char_by w) ≡ map char_by (division_text d w)
  division_text_lem (one m) w = member_text_lem m w
  division_text_lem (d ▷ m) w = ap (division_text (division_by d)) (member_text_lem m w) ∙ division_text_lem d (member_text m w)

  -- ---- what spells a replaced line: p is the replaced `piece`, whose characters, then those of `rest`, are v
  record Spelled {Q P : Type 0} (image : Q → P) (text : Q → List (CharOf D T L) → List (CharOf D T L)) (p : P) (X : List (CharOf D' T' L')) (v : List (CharOf D T L)) : Type 0 where
    piece : Q
    rest : List (CharOf D T L)
    is : image piece ≡ p
    spells : text piece rest ≡ v
    behind : X ≡ map char_by rest

  abbrev digit_text : D → List (CharOf D T L) → List (CharOf D T L)
  digit_text d v = digit d ∷ v

  abbrev ten_text : T → List (CharOf D T L) → List (CharOf D T L)
  ten_text t v = ten t ∷ v

  abbrev large_text : L → List (CharOf D T L) → List (CharOf D T L)
  large_text l v = large l ∷ v

  digit_spelled : (d : D') (X : List (CharOf D' T' L')) (v : List (CharOf D T L)) → digit d ∷ X ≡ map char_by v → Spelled f digit_text d X v
  digit_spelled d X [] e = absurd cc
  digit_spelled d X (digit q ∷ v) e = record { piece = q; rest = v; is = cc; spells = refl; behind = cc }
  digit_spelled d X (ten q ∷ v) e = absurd cc
  digit_spelled d X (large q ∷ v) e = absurd cc

  ten_spelled : (t : T') (X : List (CharOf D' T' L')) (v : List (CharOf D T L)) → ten t ∷ X ≡ map char_by v → Spelled g ten_text t X v
  ten_spelled t X [] e = absurd cc
  ten_spelled t X (digit q ∷ v) e = absurd cc
  ten_spelled t X (ten q ∷ v) e = record { piece = q; rest = v; is = cc; spells = refl; behind = cc }
  ten_spelled t X (large q ∷ v) e = absurd cc

  large_spelled : (l : L') (X : List (CharOf D' T' L')) (v : List (CharOf D T L)) → large l ∷ X ≡ map char_by v → Spelled h large_text l X v
  large_spelled l X [] e = absurd cc
  large_spelled l X (digit q ∷ v) e = absurd cc
  large_spelled l X (ten q ∷ v) e = absurd cc
  large_spelled l X (large q ∷ v) e = record { piece = q; rest = v; is = cc; spells = refl; behind = cc }

  -- a piece made of two: the first, then the second in what is left behind it
  module _ {Q P R S U W : Type 0} {i : Q → P} {t : Q → List (CharOf D T L) → List (CharOf D T L)} {j : R → S} {u : R → List (CharOf D T L) → List (CharOf D T L)} (m : U → W) (k : U → List (CharOf D T L) → List (CharOf D T L))
      (join : Q → R → U) (made : P → S → W) (image : (q : Q) (a : R) → m (join q a) ≡ made (i q) (j a)) (text : (q : Q) (a : R) (v : List (CharOf D T L)) → k (join q a) v ≡ t q (u a v)) where
    two_spelled : {p : P} {b : S} {X Y : List (CharOf D' T' L')} {v : List (CharOf D T L)} (s : Spelled i t p Y v) → Spelled j u b X s.rest → Spelled m k (made p b) X v
    two_spelled {p} {b} s r = record {
      piece = join s.piece r.piece;
      rest = r.rest;
      is = image s.piece r.piece ∙ ap (λ (x : P). made x (j r.piece)) s.is ∙ ap (made p) r.is;
      spells = text s.piece r.piece r.rest ∙ ap (t s.piece) r.spells ∙ s.spells;
      behind = r.behind;
    }

  -- a piece made of one
  module _ {Q P U W : Type 0} {i : Q → P} {t : Q → List (CharOf D T L) → List (CharOf D T L)} (m : U → W) (k : U → List (CharOf D T L) → List (CharOf D T L))
      (wrap : Q → U) (made : P → W) (image : (q : Q) → m (wrap q) ≡ made (i q)) (text : (q : Q) (v : List (CharOf D T L)) → k (wrap q) v ≡ t q v) where
    one_spelled : {p : P} {X : List (CharOf D' T' L')} {v : List (CharOf D T L)} → Spelled i t p X v → Spelled m k (made p) X v
    one_spelled s = record {
      piece = wrap s.piece;
      rest = s.rest;
      is = image s.piece ∙ ap made s.is;
      spells = text s.piece s.rest ∙ s.spells;
      behind = s.behind;
    }

  run_spelled : (r : Row D') (X : List (CharOf D' T' L')) (v : List (CharOf D T L)) → run_text r X ≡ map char_by v → Spelled (row_map f) run_text r X v
  run_spelled (one d) X v e = one_spelled (row_map f) run_text one one (λ q. refl) (λ q v. refl) (digit_spelled d X v e)
  run_spelled (r ▷ d) X v e = go (run_spelled r (digit d ∷ X) v e)
    where
      go : Spelled (row_map f) run_text r (digit d ∷ X) v → Spelled (row_map f) run_text (r ▷ d) X v
      go s = two_spelled (row_map f) run_text (λ q a. q ▷ a) (λ p b. p ▷ b) (λ q a. refl) (λ q a v. refl) s (digit_spelled d X s.rest s.behind)

  atom_spelled : (a : AtomOf D' T') (X : List (CharOf D' T' L')) (v : List (CharOf D T L)) → atom_text a X ≡ map char_by v → Spelled atom_by atom_text a X v
  atom_spelled (run r) X v e = one_spelled atom_by atom_text run run (λ q. refl) (λ q v. refl) (run_spelled r X v e)
  atom_spelled (times r t) X v e = go (run_spelled r (ten t ∷ X) v e)
    where
      go : Spelled (row_map f) run_text r (ten t ∷ X) v → Spelled atom_by atom_text (times r t) X v
      go s = two_spelled atom_by atom_text times times (λ q a. refl) (λ q a v. refl) s (ten_spelled t X s.rest s.behind)
  atom_spelled (power t) X v e = one_spelled atom_by atom_text power power (λ q. refl) (λ q v. refl) (ten_spelled t X v e)

  small_spelled : (s : Row (AtomOf D' T')) (X : List (CharOf D' T' L')) (v : List (CharOf D T L)) → small_text s X ≡ map char_by v → Spelled (row_map atom_by) small_text s X v
  small_spelled (one a) X v e = one_spelled (row_map atom_by) small_text one one (λ q. refl) (λ q v. refl) (atom_spelled a X v e)
  small_spelled (r ▷ a) X v e = go (small_spelled r (atom_text a X) v e)
    where
      go : Spelled (row_map atom_by) small_text r (atom_text a X) v → Spelled (row_map atom_by) small_text (r ▷ a) X v
      go s = two_spelled (row_map atom_by) small_text (λ q b. q ▷ b) (λ p b. p ▷ b) (λ q b. refl) (λ q b v. refl) s (atom_spelled a X s.rest s.behind)

  member_spelled : (m : MemberOf D' T' L') (X : List (CharOf D' T' L')) (v : List (CharOf D T L)) → member_text m X ≡ map char_by v → Spelled member_by member_text m X v
  member_spelled (small r) X v e = one_spelled member_by member_text small small (λ q. refl) (λ q v. refl) (small_spelled r X v e)
  member_spelled (block r l) X v e = go (small_spelled r (large l ∷ X) v e)
    where
      go : Spelled (row_map atom_by) small_text r (large l ∷ X) v → Spelled member_by member_text (block r l) X v
      go s = two_spelled member_by member_text block block (λ q a. refl) (λ q a v. refl) s (large_spelled l X s.rest s.behind)
  member_spelled (lone l) X v e = one_spelled member_by member_text lone lone (λ q. refl) (λ q v. refl) (large_spelled l X v e)

  division_spelled : (d : DivisionOf D' T' L') (X : List (CharOf D' T' L')) (v : List (CharOf D T L)) → division_text d X ≡ map char_by v → Spelled division_by division_text d X v
  division_spelled (one m) X v e = one_spelled division_by division_text one one (λ q. refl) (λ q v. refl) (member_spelled m X v e)
  division_spelled (d ▷ m) X v e = go (division_spelled d (member_text m X) v e)
    where
      go : Spelled division_by division_text d (member_text m X) v → Spelled division_by division_text (d ▷ m) X v
      go s = two_spelled division_by division_text (λ q b. q ▷ b) (λ p b. p ▷ b) (λ q b. refl) (λ q b v. refl) s (member_spelled m X s.rest s.behind)

  no_rest : (v : List (CharOf D T L)) → [] ≡ map char_by v → v ≡ []
  no_rest [] e = refl
  no_rest (c ∷ v) e = absurd cc

  module _ (A : Alphabet D T L) (B : Alphabet D' T' L') (same : Same A B) where
    -- ---- values and bases
    run_value_lem : (r : Row D) → run_value B (row_map f r) ≡ run_value A r
    run_value_lem (one d) = same.digit_value_lem d
    run_value_lem (r ▷ d) = rw (run_value_lem r, same.digit_value_lem d)

    atom_value_lem : (a : AtomOf D T) → atom_value B (atom_by a) ≡ atom_value A a
    atom_value_lem (run r) = run_value_lem r
    atom_value_lem (times r t) = rw (run_value_lem r, same.ten_value_lem t)
    atom_value_lem (power t) = same.ten_value_lem t

    atom_base_lem : (a : AtomOf D T) → atom_base B (atom_by a) ≡ atom_base A a
    atom_base_lem (run r) = refl
    atom_base_lem (times r t) = same.ten_base_lem t
    atom_base_lem (power t) = same.ten_base_lem t

    small_value_lem : (s : Row (AtomOf D T)) → small_value B (row_map atom_by s) ≡ small_value A s
    small_value_lem (one a) = atom_value_lem a
    small_value_lem (s ▷ a) = rw (small_value_lem s, atom_value_lem a)

    small_base_lem : (s : Row (AtomOf D T)) → small_base B (row_map atom_by s) ≡ small_base A s
    small_base_lem s = rw (last_map atom_by s) (atom_base_lem (last s))

    member_value_lem : (m : MemberOf D T L) → member_value B (member_by m) ≡ member_value A m
    member_value_lem (small s) = small_value_lem s
    member_value_lem (block s l) = rw (small_value_lem s, same.large_value_lem l)
    member_value_lem (lone l) = same.large_value_lem l

    member_base_lem : (m : MemberOf D T L) → member_base B (member_by m) ≡ member_base A m
    member_base_lem (small s) = small_base_lem s
    member_base_lem (block s l) = same.large_base_lem l
    member_base_lem (lone l) = same.large_base_lem l

    -- ---- the rules say the same of both
    is_atom : (a : AtomOf D T) → IsAtom B (atom_by a) ≡ IsAtom A a
    is_atom (run r) = refl
    is_atom (times r t) = rw (run_value_lem r)
    is_atom (power t) = refl

    follows : (a b : AtomOf D T) → Follows B (atom_by a) (atom_by b) ≡ Follows A a b
    follows (run r) (run q) = refl
    follows (run r) (times q t) = refl
    follows (run r) (power t) = rw (run_value_lem r)
    follows (times r t) b = refl
    follows (power t) b = refl

    lone_zero_lem : (a : AtomOf D T) → lone_zero B (atom_by a) ≡ lone_zero A a
    lone_zero_lem (run (one d)) = same.zero d
    lone_zero_lem (run (r ▷ d)) = refl
    lone_zero_lem (times r t) = refl
    lone_zero_lem (power t) = refl

    near_base_lem : (s : Row (AtomOf D T)) → near_base B (row_map atom_by s) ≡ near_base A s
    near_base_lem (one a) = rw (lone_zero_lem a, atom_base_lem a)
    near_base_lem (s ▷ a) = rw (lone_zero_lem a, atom_base_lem a, near_base_lem s)

    is_small : (s : Row (AtomOf D T)) → IsSmall B (row_map atom_by s) ≡ IsSmall A s
    is_small (one a) = is_atom a
    is_small (s ▷ a) = rw (is_small s, last_map atom_by s, follows (last s) a, is_atom a, near_base_lem s, atom_value_lem a, atom_base_lem a)

    is_member : (m : MemberOf D T L) → IsMember B (member_by m) ≡ IsMember A m
    is_member (small s) = is_small s
    is_member (block s l) = is_small s
    is_member (lone l) = refl

    is_block_lem : (m : MemberOf D T L) → IsBlock (member_by m) ≡ IsBlock m
    is_block_lem (small s) = refl
    is_block_lem (block s l) = refl
    is_block_lem (lone l) = refl

    single_digit_lem : (m : MemberOf D T L) → single_digit B (member_by m) ≡ single_digit A m
    single_digit_lem (small (one (run (one d)))) = same.digit_value_lem d
    single_digit_lem (small (one (run (r ▷ d)))) = refl
    single_digit_lem (small (one (times r t))) = refl
    single_digit_lem (small (one (power t))) = refl
    single_digit_lem (small (s ▷ a)) = refl
    single_digit_lem (block s l) = refl
    single_digit_lem (lone l) = refl

    -- what the member m counts as after the member l
    count_value_lem : (l m : MemberOf D T L) → count_value B (B.tenths (member_by l)) (member_base B (member_by l)) (member_by m) ≡ count_value A (A.tenths l) (member_base A l) m
    count_value_lem l m = rw (same.tenths l, single_digit_lem m, member_base_lem l, member_value_lem m)

    count_base_lem : (l m : MemberOf D T L) → count_base B (B.tenths (member_by l)) (member_base B (member_by l)) (member_by m) ≡ count_base A (A.tenths l) (member_base A l) m
    count_base_lem l m = rw (same.tenths l, single_digit_lem m, member_base_lem l, member_base_lem m)

    is_numeral : (d : DivisionOf D T L) → IsNumeral B (division_by d) ≡ IsNumeral A d
    is_numeral (one m) = is_member m
    is_numeral (d ▷ m) = rw (is_numeral d, last_map member_by d, is_block_lem (last d), is_member m, count_value_lem (last d) m, count_base_lem (last d) m, member_base_lem (last d))

    -- the value is the same
    pub division_value_lem : (d : DivisionOf D T L) → division_value B (division_by d) ≡ division_value A d
    division_value_lem (one m) = member_value_lem m
    division_value_lem (d ▷ m) = rw (division_value_lem d, last_map member_by d, count_value_lem (last d) m)

    -- ---- readings
    module _ (w : List (CharOf D T L)) where
      pub replaced : ReadingOf A w → ReadingOf B (map char_by w)
      replaced r = record {
        division = division_by r.division;
        whole = division_text_lem r.division [] ∙ ap (λ (v : List (CharOf D T L)). map char_by v) r.whole;
        rules = subst (λ (P : Type 0). P) (sym (is_numeral r.division)) r.rules;
      }

      pub restored : ReadingOf B (map char_by w) → ReadingOf A w
      restored r = go (division_spelled r.division [] w r.whole)
        where
          go : Spelled division_by division_text r.division [] w → ReadingOf A w
          go s = record {
            division = s.piece;
            whole = ap (division_text s.piece) (sym (no_rest s.rest s.behind)) ∙ s.spells;
            rules = subst (λ (P : Type 0). P) (is_numeral s.piece) (subst (IsNumeral B) (sym s.is) r.rules);
          }

      pub same_readings : ReadingOf A w ↔ ReadingOf B (map char_by w)
      same_readings = (replaced, restored)

      -- the divisions are the same, and so are the values
      pub same_value : (x : ReadingOf A w) (y : ReadingOf B (map char_by w)) → (y.division ≡ division_by x.division) × (division_value B y.division ≡ division_value A x.division)
      unfolding replaced
      same_value x y =
          let e : y.division ≡ division_by x.division = same_division B (map char_by w) y (replaced x) in
          (e, rw e (division_value_lem x.division))

      -- and what is computed of the line
      pub same_said : said B (map char_by w) ≡ said A w
      same_said = go (said A w) refl
        where
          no_other : (o : Option ℕ) → said A w ≡ none → said B (map char_by w) ≡ o → said B (map char_by w) ≡ none
          no_other none e k = k
          no_other (some v) e k = let (y, _) = reading_said B (map char_by w) v k in absurd (some-ne-none _ (sym (said_reading A w (restored y)) ∙ e))

          go : (o : Option ℕ) → said A w ≡ o → said B (map char_by w) ≡ said A w
          go none e = no_other (said B (map char_by w)) e refl ∙ sym e
          go (some v) e =
              let (x, value) = reading_said A w v e in
              said_reading B (map char_by w) (replaced x) ∙ ap {B = Option ℕ} some ((same_value x (replaced x)).1 ∙ value) ∙ sym e
