-- S-11 of 02: "A line and its formal twin, neither refused, get the same five lists but for orig_txt. State this for any two tables whose records differ only by a one-to-one
-- renaming of characters ..". The lists are the same after any passes, and so are the joined edges and where refusal 7 falls: nothing is asked of the refusals.
-- The words are defined in `specs/Renaming.antt`, and in the specs/ of `passes` (first_list, through, added, added_by, above_at). Assumes nothing.
use Prim.Native.Nat.{ℕ, suc, ◌+◌}
use mathlib.Core.Path.{◌≡◌, refl, ◌∙◌}
use mathlib.Core.List.{List, [], ◌∷◌}
use mathlib.Core.Option.{Option, none, some, map}
use native.Mathlib.Nat.{zero-add}
use Rattle.text.specs.Sequence.{encode}
use Rattle.table.specs.Table.{Text, Record, Table, find}
use Rattle.passes.specs.NumEdge.{NumEdge}
use Rattle.passes.specs.Characters.{char_edge, char_edges, with_edge, first_list}
use Rattle.passes.specs.Passes.{Pass, added, through, five, fifth_list, joined_edges, above_at}
use Rattle.passes.proofs.ChainsAlike.{Paired}
use Rattle.passes.proofs.Alike.{Alike, added_alike, through_alike, added_by_alike, first_above_alike}
use Rattle.passes.specs.Renaming.{Renaming, twin_char, twin, Remaining, but_text}
use Rattle.passes.proofs.GapTexts.{Renamed, in_a_row, gaps_renamed, one_char}

-- ---- lists that are alike are the same but for orig_txt
but_text_lem : (Text~ : Text → Text → Type 0) (l l' : List NumEdge) → Paired (Alike 0 Text~) l l' → but_text l' ≡ but_text l
but_text_lem T [] [] h = refl
but_text_lem T [] (e' ∷ l') h = absurd h
but_text_lem T (e ∷ l) [] h = absurd h
but_text_lem T (e ∷ l) (e' ∷ l') ((x, o, q), h) = rw (q, but_text_lem T l l' h, zero-add e.start, zero-add e.end)

same_place : (o : Option ℕ) → map (λ i. 0 + i) o ≡ o
same_place none = refl
same_place (some i) = rw (zero-add i)

-- ---- the theorem
module _ (f : ℕ → ℕ) (t u : Table) (R : Renaming f t u) where
  edges_alike : (w : List ℕ) (i : ℕ) → Remaining t u w → Paired (Alike 0 (Renamed f)) (char_edges t.records i w) (char_edges u.records i (twin f t w))
  unfolding char_edges char_edge
  edges_alike [] i h = tt
  edges_alike (c ∷ w) i (n, h) = go (find t.records c) refl (edges_alike w (suc i) h)
    where
      go : (o : Option Record) → find t.records c ≡ o → Paired (Alike 0 (Renamed f)) (char_edges t.records (suc i) w) (char_edges u.records (suc i) (twin f t w))
          → Paired (Alike 0 (Renamed f)) (with_edge i c o (char_edges t.records (suc i) w))
          (with_edge i (twin_char f c o) (find u.records (twin_char f c o)) (char_edges u.records (suc i) (twin f t w)))
      go none e ih = rw (n e) ih
      go (some r) e ih =
          let (x, rom) = R.has_rom c r e in
          rw (R.there c r e) ((encode (f c), (c, [], one_char c, one_char (f c), R.gaps c r e), rw (zero-add i, zero-add (suc i), rom)), ih)

  module _ (w : List ℕ) (remaining : Remaining t u w) where
    abbrev line : List NumEdge
    line = first_list t w

    abbrev twin_line : List NumEdge
    twin_line = first_list u (twin f t w)

    lists_alike : (ps : List Pass) → Paired (Alike 0 (Renamed f)) (through ps line) (through ps twin_line)
    lists_alike ps = through_alike 0 (Renamed f) (in_a_row f) (gaps_renamed f) ps line twin_line (edges_alike w 0 remaining)

    joined_alike : Paired (Alike 0 (Renamed f)) (joined_edges t w) (joined_edges u (twin f t w))
    joined_alike = added_by_alike 0 (Renamed f) (in_a_row f) (gaps_renamed f) five line twin_line (edges_alike w 0 remaining)

    -- the list after any passes
    pub twin_list : (ps : List Pass) → but_text (through ps (first_list u (twin f t w))) ≡ but_text (through ps (first_list t w))
    twin_list ps = but_text_lem (Renamed f) (through ps line) (through ps twin_line) (lists_alike ps)

    -- the list after the fifth pass
    pub twin_fifth : but_text (fifth_list u (twin f t w)) ≡ but_text (fifth_list t w)
    twin_fifth = twin_list five

    -- the edges that a pass joins after any passes; those that all five join
    pub twin_added : (ps : List Pass) (p : Pass) → but_text (added p (through ps (first_list u (twin f t w)))) ≡ but_text (added p (through ps (first_list t w)))
    twin_added ps p =
        but_text_lem (Renamed f) (added p (through ps line)) (added p (through ps twin_line))
        (added_alike 0 (Renamed f) (in_a_row f) (gaps_renamed f) p (through ps line) (through ps twin_line) (lists_alike ps))

    pub twin_joined : but_text (joined_edges u (twin f t w)) ≡ but_text (joined_edges t w)
    twin_joined = but_text_lem (Renamed f) (joined_edges t w) (joined_edges u (twin f t w)) joined_alike

    -- refusal 7 falls at the same place
    pub twin_above : above_at u (twin f t w) ≡ above_at t w
    twin_above = first_above_alike 0 (Renamed f) (joined_edges t w) (joined_edges u (twin f t w)) joined_alike ∙ same_place (above_at t w)
