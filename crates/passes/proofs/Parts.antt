-- S-7 of 02. "Let a line be two parts with one character between that has no record .. then the list after G4 is the first part's list followed by the second's, with its
-- places moved by the first's length plus one. This holds for every table, at empty parts as well." It holds after every pass, of the joined edges too, and whatever the
-- values: so nothing is asked of the refusals, and the place of refusal 7 follows.
-- The words are defined in the specs/ of `passes` (first_list, fifth_list, through, added, above_at) and in `specs/Moved.antt` (moved). Assumes nothing.
use Prim.Native.Nat.{ℕ, suc, ◌+◌, ◌<◌}
use mathlib.Core.Path.{◌≡◌, sym, ap, ◌∙◌}
use mathlib.Core.Logic.{◌↔◌}
use mathlib.Core.Bool.{true}
use mathlib.Core.List.{List, ◌∷◌, ◌++◌, map}
use mathlib.Core.Option
use mathlib.Core.Option.{none}
use native.Mathlib.Omega.{arith}
use native.Mathlib.Nat.{zero-add}
use lib.ListN.{length}
use Rattle.table.specs.Table.{Table, find}
use Rattle.text.specs.Sequence.{encode, scalar}
use Rattle.text.specs.Text.{chars, well_formed, is_nil}
use Rattle.text.proofs.TextLaws.{chars_append, chars_cons, left_append, left_cons}
use Rattle.passes.specs.NumEdge.{NumEdge, first_above}
use Rattle.passes.specs.Characters.{first_list}
use Rattle.passes.specs.Passes.{Pass, added, through, added_by, five, fifth_list, above_at}
use Rattle.passes.specs.Moved.{moved}
use Rattle.passes.proofs.ChainsAlike.{Each}
use Rattle.passes.proofs.Apart.{Within, through_within, added_parts, through_parts, char_edges_within, char_edges_parts, char_edges_moved}
use Rattle.passes.proofs.AboveParts.{above_first, above_second, above_none}

-- the line a, c, b: its two parts, and the character between them
module _ (t : Table) (a : List ℕ) (c : ℕ) (b : List ℕ) (no_record : find t.records c ≡ none) where
  first_within : Each (Within (length a)) (first_list t a)
  first_within = rw (zero-add (length a)) at (char_edges_within t.records a 0)

  -- the list before D1
  first_parts : first_list t (a ++ c ∷ b) ≡ first_list t a ++ map (moved (length a + 1)) (first_list t b)
  first_parts =
      let place : suc (0 + length a) ≡ length a + 1 + 0 = omega arith in
      char_edges_parts t.records a c b 0 no_record ∙ rw (place, char_edges_moved t.records b (length a + 1) 0)

  less : length a < length a + 1
  less = omega arith

  -- the list after any passes
  pub list_parts : (ps : List Pass) → through ps (first_list t (a ++ c ∷ b)) ≡ through ps (first_list t a) ++ map (moved (length a + 1)) (through ps (first_list t b))
  list_parts ps = ap (through ps) first_parts ∙ through_parts (length a + 1) (length a) less ps (first_list t a) (first_list t b) first_within

  -- the edges that a pass joins after them
  pub joined_parts : (ps : List Pass) (p : Pass)
      → added p (through ps (first_list t (a ++ c ∷ b))) ≡ added p (through ps (first_list t a)) ++ map (moved (length a + 1)) (added p (through ps (first_list t b)))
  joined_parts ps p =
      ap (added p) (list_parts ps)
      ∙ added_parts (length a + 1) (length a) less p (through ps (first_list t a)) (through ps (first_list t b)) (through_within (length a) ps (first_list t a) first_within)

  -- "the list after G4"
  pub fifth_parts : fifth_list t (a ++ c ∷ b) ≡ fifth_list t a ++ map (moved (length a + 1)) (fifth_list t b)
  fifth_parts = list_parts five

  same_above : above_at t (a ++ c ∷ b) ≡ first_above (added_by five (first_list t a ++ map (moved (length a + 1)) (first_list t b)))
  same_above = ap (λ (l : List NumEdge). first_above (added_by five l)) first_parts

  -- refusal 7: where the first part is not refused, at the second's place moved; where the second is not, at the first's
  pub above_in_second : above_at t a ≡ none → above_at t (a ++ c ∷ b) ≡ Option.map (λ i. length a + 1 + i) (above_at t b)
  above_in_second h = same_above ∙ above_second (length a + 1) (length a) less five (first_list t a) (first_list t b) first_within h

  pub above_in_first : above_at t b ≡ none → above_at t (a ++ c ∷ b) ≡ above_at t a
  above_in_first h = same_above ∙ above_first (length a + 1) (length a) less five (first_list t a) (first_list t b) first_within h

  -- so the whole is not refused 7 exactly where neither part is
  pub above_in_neither : (above_at t (a ++ c ∷ b) ≡ none) ↔ ((above_at t a ≡ none) × (above_at t b ≡ none))
  above_in_neither = (
    λ h. above_none (length a + 1) (length a) less five (first_list t a) (first_list t b) first_within (sym same_above ∙ h),
    λ h. above_in_first h.1 ∙ h.0,
  )

-- the line as it is lent: the bytes of the first part, of the character, of the second part
pub characters_parts : (x : List ℕ) (c : ℕ) (y : List ℕ) → well_formed x ≡ true → scalar c ≡ true → chars (x ++ (encode c ++ y)) ≡ chars x ++ c ∷ chars y
characters_parts x c y h k = chars_append x h (encode c ++ y) ∙ rw (chars_cons c y k)

pub parts_well_formed : (x : List ℕ) (c : ℕ) (y : List ℕ) → well_formed x ≡ true → scalar c ≡ true → well_formed y ≡ true → well_formed (x ++ (encode c ++ y)) ≡ true
parts_well_formed x c y h k l = ap is_nil (left_append x h (encode c ++ y) ∙ left_cons c y k) ∙ l

-- the list after G4 of such a line
pub line_parts : (t : Table) (x : List ℕ) (c : ℕ) (y : List ℕ) → well_formed x ≡ true → scalar c ≡ true → find t.records c ≡ none
    → fifth_list t (chars (x ++ (encode c ++ y))) ≡ fifth_list t (chars x) ++ map (moved (length (chars x) + 1)) (fifth_list t (chars y))
line_parts t x c y h k no_record = ap (fifth_list t) (characters_parts x c y h k) ∙ fifth_parts t (chars x) c (chars y) no_record
