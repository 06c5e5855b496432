-- A numeral whose value is at most TOP is not refused 7: no edge that the five passes join is above TOP, since each is a part of the numeral.
-- In order: what holds of each; `first_above` of lists and of a pass; each member, part, piece and token is at most TOP; the passes.
use Prim.Native.Nat.{ℕ, ◌*◌, ◌/◌, ◌≤◌}
use mathlib.Core.Path.{◌≡◌, refl}
use mathlib.Core.Bool.{Bool, true, false, cond, ◌&&◌, and-false}
use mathlib.Core.List.{List, [], ◌∷◌, ◌++◌}
use mathlib.Core.Option.{none, some}
use native.Mathlib.Omega.{arith}
use native.Mathlib.Nat.{le_refl, mul-le-mul_left, mul-le-mul_right}
use lib.Dec.{leb}
use borrow.Author.Tests.{le-ltb}
use Rattle.table.specs.Table.{Table}
use Rattle.whole.specs.Whole.{TOP}
use Rattle.passes.specs.NumEdge.{NumEdge, above, first_above}
use Rattle.passes.specs.Characters.{first_list}
use Rattle.passes.specs.Passes.{Pass, D1, G1, G2, G3, G4, Chain, cjk, is_script, chains_of, edges_of, joined_of, after, added, through, added_by, above_at}
use Rattle.passes.proofs.AboveLaws.{first_above_cons, first_above_head, first_above_tail}
use Rattle.passes.proofs.ChainsAlike.{Each}
use Rattle.table_grammar.specs.Row.{Row, one, ◌▷◌, ◌<>>◌, last}
use Rattle.table_grammar.specs.Grammar.{run, times, power, small, block, lone, run_value, small_value, member_value, member_base, count_value, IsSmall, IsMember, IsBlock, IsNumeral, division_value, division_text}
use Rattle.table_grammar.specs.Kinds.{Char, digit_value, ten_value, large_value}
use Rattle.table_grammar.specs.TableGrammar.{kinds, Atom, Member, Division, Reading}
use Rattle.table_grammar.proofs.Tests.{true_le, and_left, and_right}
use Rattle.table_grammar.proofs.ChainParts.{flat, flat_chains, Tiles}
use Rattle.table_grammar.proofs.Pieces.{row_map, atom, large₂, atoms, large₃, begin₂, next₂, parts₂, Ok₂, parts_begin₂, ok_begin₂, next_parts₂, begin₃, next₃, parts₃, Ok₃, parts_begin₃, ok_begin₃, next_parts₃, begin₄, next₄, parts₄, Ok₄, parts_begin₄, next_parts₄, tokens, pieces, smalls, members}
use Rattle.table_grammar.proofs.Readings.{members_found}
use Rattle.table_grammar.proofs.KindLaws.{unit_law, large_law}
use Rattle.table_grammar.proofs.FourPasses.{Token, Piece, Part, View, Shows, token_view, piece_view, part_view, member_view, line, pass_d1, pass_g1, pass_g2, pass_g3}
use Rattle.table_grammar.proofs.Settled.{is_one}

-- ---- what holds of each
abbrev pub EachRow : {A : Type 0} → (A → Type 0) → Row A → Type 0
EachRow P (one a) = P a
EachRow P (r ▷ a) = EachRow P r × P a

each_row : {A : Type 0} (P : A → Type 0) (r : Row A) (l : List A) → EachRow P r → Each P l → Each P (r <>> l)
each_row P (one a) l h k = (h, k)
each_row P (r ▷ a) l h k = each_row P r (a ∷ l) h.0 (h.1, k)

each_flat : {A S : Type 0} (P : S → Type 0) (Q : A → Type 0) (parts : S → Row A) → ((s : S) → P s → EachRow Q (parts s)) → (L : List S) → Each P L → Each Q (flat parts L)
each_flat P Q parts f [] h = tt
each_flat P Q parts f (s ∷ L) h = each_row Q (parts s) (flat parts L) (f s h.0) (each_flat P Q parts f L h.1)

-- ---- `first_above`
above_append : (es fs : List NumEdge) → first_above es ≡ none → first_above fs ≡ none → first_above (es ++ fs) ≡ none
above_append [] fs h k = k
above_append (e ∷ es) fs h k = first_above_cons e (es ++ fs) (first_above_head e es h) (above_append es fs (first_above_tail e es h) k)

-- the joined edges are among those of the list
joined_within : (cs : List Chain) → first_above (edges_of cs) ≡ none → first_above (joined_of cs) ≡ none
unfolding joined_of
joined_within [] h = h
joined_within (c ∷ cs) h = go c.more (joined_within cs (first_above_tail c.edge (edges_of cs) h))
  where
    go : (b : Bool) → first_above (joined_of cs) ≡ none → first_above (cond b (c.edge ∷ joined_of cs) (joined_of cs)) ≡ none
    go true k = first_above_cons c.edge (joined_of cs) (first_above_head c.edge (edges_of cs) h) k
    go false k = k

added_within : (p : Pass) (l : List NumEdge) → first_above (after p l) ≡ none → first_above (added p l) ≡ none
unfolding after added
added_within p l h = joined_within (chains_of p l) h

pass_within : (p : Pass) (ps : List Pass) (l : List NumEdge) → first_above (after p l) ≡ none → first_above (added_by ps (after p l)) ≡ none → first_above (added_by (p ∷ ps) l) ≡ none
unfolding added_by
pass_within p ps l h k = above_append (added p l) (added_by ps (after p l)) (added_within p l h) k

nil_within : first_above [] ≡ none
unfolding first_above
nil_within = refl

none_added : (l : List NumEdge) → first_above (added_by [] l) ≡ none
unfolding added_by
none_added l = nil_within

not_above_lem : (e : NumEdge) (v : ℕ) → e.value ≡ some v → v ≤ TOP → above e ≡ false
not_above_lem e v h l = rw h (le-ltb TOP v l)

-- the edges of pieces that are at most TOP
module _ {A : Type 0} (view : A → View) (Fits : A → Type 0) (within : (a : A) → Fits a → (view a).value ≤ TOP) where
  tiles_within : (xs : List A) (ys : List NumEdge) (i n : ℕ) → Tiles (λ i a e j. Shows i (view a) e j) i xs ys n → Each Fits xs → first_above ys ≡ none
  unfolding first_above
  tiles_within [] [] i n t h = refl
  tiles_within [] (e ∷ ys) i n t h = absurd t
  tiles_within (a ∷ xs) [] i n t h = absurd t
  tiles_within (a ∷ xs) (e ∷ ys) i n (j, s, t) h = first_above_cons e ys (not_above_lem e (view a).value s.value (within a h.0)) (tiles_within xs ys j n t h.1)

-- ---- each part of a numeral is at most TOP
factor : (v k : ℕ) → 1 ≤ k → v ≤ v * k
factor v k h = omega (arith, mul-le-mul_left v h)

-- a member is at most what it counts as
count_least : (p : Bool) (n : ℕ) (m : Member) → (p ≡ true → 10 ≤ n) → member_value kinds m ≤ count_value kinds p n m
count_least p n (small (one (run (one d)))) h = go p refl (leb 1 (digit_value d))
  where
    go : (q : Bool) → p ≡ q → (b : Bool) → digit_value d ≤ cond (q && b) (digit_value d * (n / 10)) (digit_value d)
    go true e true = let ten : 10 ≤ n = h e in factor (digit_value d) (n / 10) (omega arith)
    go true e false = le_refl (digit_value d)
    go false e b = le_refl (digit_value d)
count_least p n (small (one (run (r ▷ d)))) h = rw (and-false p) (le_refl _)
count_least p n (small (one (times r t))) h = rw (and-false p) (le_refl _)
count_least p n (small (one (power t))) h = rw (and-false p) (le_refl _)
count_least p n (small (s ▷ a)) h = rw (and-false p) (le_refl _)
count_least p n (block s l) h = rw (and-false p) (le_refl _)
count_least p n (lone l) h = rw (and-false p) (le_refl _)

-- a single digit counts by the tenth part of a base from 1000 on
tenths_base : (m : Member) → IsBlock m → kinds.tenths m ≡ true → 10 ≤ member_base kinds m
tenths_base (small s) b e = absurd b
tenths_base (block s l) b e = let k : 1000 ≤ member_base kinds (lone l) = true_le 1000 _ (and_right (is_script l.entry.script cjk) _ (and_left _ _ e)) in omega arith
tenths_base (lone l) b e = let k : 1000 ≤ member_base kinds (lone l) = true_le 1000 _ (and_right (is_script l.entry.script cjk) _ (and_left _ _ e)) in omega arith

-- the large power of a block is at most TOP: its product says so only of one whose small is not 0
abbrev pub LargeWithin : Member → Type 0
LargeWithin (small s) = Unit {0}
LargeWithin (block s l) = large_value l ≤ TOP
LargeWithin (lone l) = Unit {0}

abbrev MemberFits : Member → Type 0
MemberFits m = ((member_view m).value ≤ TOP) × LargeWithin m × IsMember kinds m

member_view_lem : (m : Member) → (member_view m).value ≡ member_value kinds m
member_view_lem (small s) = refl
member_view_lem (block s l) = refl
member_view_lem (lone l) = refl

members_fit : (d : Division) (L : List Member) → IsNumeral kinds d → division_value kinds d ≤ TOP → EachRow LargeWithin d → Each MemberFits L → Each MemberFits (d <>> L)
members_fit (one m) L r h g k = ((omega (arith, member_view_lem m), g, r), k)
members_fit (d ▷ m) L r h g k =
    members_fit d (m ∷ L) r.0 (omega arith) g.0
    ((omega (arith, member_view_lem m, count_least (kinds.tenths (last d)) (member_base kinds (last d)) m (tenths_base (last d) r.1)), g.1, r.2), k)

abbrev PartFits : Part → Type 0
PartFits (atoms s) = (small_value kinds s ≤ TOP) × IsSmall kinds s
PartFits (large₃ l) = large_value l ≤ TOP

part_within : (p : Part) → PartFits p → (part_view p).value ≤ TOP
part_within (atoms s) h = h.0
part_within (large₃ l) h = h

member_parts : (m : Member) → MemberFits m → EachRow PartFits (parts₄ kinds m)
member_parts (small s) h = (h.0, h.2)
member_parts (block s l) h =
    let one : 1 ≤ large_value l = omega (arith, (large_law l).ten) in
    ((omega (arith, factor (small_value kinds s) (large_value l) one, h.0), h.2), h.1)
member_parts (lone l) h = h.0

abbrev PieceFits : Piece → Type 0
PieceFits p = ((piece_view p).value ≤ TOP) × Ok₂ kinds p

small_pieces : (s : Row Atom) → small_value kinds s ≤ TOP → IsSmall kinds s → EachRow PieceFits (row_map atom s)
small_pieces (one a) h i = (h, i)
small_pieces (s ▷ a) h i = (small_pieces s (omega arith) i.0, (omega arith, i.2))

part_pieces : (p : Part) → PartFits p → EachRow PieceFits (parts₃ kinds p)
part_pieces (atoms s) h = small_pieces s h.0 h.1
part_pieces (large₃ l) h = (h, tt)

abbrev TokenFits : Token → Type 0
TokenFits t = (token_view t).value ≤ TOP

piece_tokens : (p : Piece) → PieceFits p → EachRow TokenFits (parts₂ kinds p)
piece_tokens (atom (run r)) h = h.0
piece_tokens (atom (times r t)) h =
    let one : 1 ≤ ten_value t = omega (arith, (unit_law t).ten) in
    (omega (arith, factor (run_value kinds r) (ten_value t) one, h.0), omega (arith, mul-le-mul_right (ten_value t) h.1, h.0))
piece_tokens (atom (power t)) h = h.0
piece_tokens (large₂ l) h = h.0

-- ---- the passes
module _ (t : Table) (w : List ℕ) (r : Reading t w) (larges : EachRow LargeWithin r.division) (within : division_value kinds r.division ≤ TOP) where
  abbrev s : List Char
  s = division_text r.division []

  each_member : Each MemberFits (members kinds s)
  each_member = rw (members_found kinds s r.division r.rules refl) (members_fit r.division [] r.rules within larges tt)

  each_part : Each PartFits (smalls kinds s)
  each_part =
      rw (flat_chains (begin₄ kinds) (next₄ kinds) (parts₄ kinds) (Ok₄ kinds) (parts_begin₄ kinds) (λ c. tt) (next_parts₄ kinds) (smalls kinds s))
      at (each_flat MemberFits PartFits (parts₄ kinds) member_parts (members kinds s) each_member)

  each_piece : Each PieceFits (pieces kinds s)
  each_piece =
      rw (flat_chains (begin₃ kinds) (next₃ kinds) (parts₃ kinds) (Ok₃ kinds) (parts_begin₃ kinds) (ok_begin₃ kinds) (next_parts₃ kinds) (pieces kinds s))
      at (each_flat PartFits PieceFits (parts₃ kinds) part_pieces (smalls kinds s) each_part)

  each_token : Each TokenFits (tokens kinds s)
  each_token =
      rw (flat_chains (begin₂ kinds) (next₂ kinds) (parts₂ kinds) (Ok₂ kinds) (parts_begin₂ kinds) (ok_begin₂ kinds) (next_parts₂ kinds) (tokens kinds s))
      at (each_flat PieceFits TokenFits (parts₂ kinds) piece_tokens (pieces kinds s) each_piece)

  pub reading_within : above_at t w ≡ none
  unfolding through
  reading_within =
      let l₁ = after D1 (first_list t w) in
      let l₂ = after G1 l₁ in
      let l₃ = after G2 l₂ in
      let l₄ = after G3 l₃ in
      let t₁ = pass_d1 s (first_list t w) _ (line t.records w s 0 r.whole) in
      let t₂ = pass_g1 s l₁ _ t₁ in
      let t₃ = pass_g2 s l₂ _ t₂ in
      let t₄ = pass_g3 s l₃ _ t₃ in
      let (e, is, c) = is_one t w r in
      let last : first_above (after G4 l₄) ≡ none = rw is (first_above_cons e [] (not_above_lem e (division_value kinds r.division) c.value within) nil_within) in
      pass_within D1 (G1 ∷ G2 ∷ G3 ∷ G4 ∷ []) (first_list t w) (tiles_within token_view TokenFits (λ a h. h) (tokens kinds s) l₁ _ _ t₁ each_token)
      (pass_within G1 (G2 ∷ G3 ∷ G4 ∷ []) l₁ (tiles_within piece_view PieceFits (λ a h. h.0) (pieces kinds s) l₂ _ _ t₂ each_piece)
      (pass_within G2 (G3 ∷ G4 ∷ []) l₂ (tiles_within part_view PartFits part_within (smalls kinds s) l₃ _ _ t₃ each_part)
      (pass_within G3 (G4 ∷ []) l₃ (tiles_within member_view MemberFits (λ a h. h.0) (members kinds s) l₄ _ _ t₄ each_member)
      (pass_within G4 [] l₄ last (none_added (after G4 l₄))))))
