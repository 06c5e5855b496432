-- Laws of the pass list before D1 (`specs/Initial.antt`), for a loop over the line. No contract cites this file.
-- In order: the records by the table's count; the stored edge of a character; what the table's check gives; one character more, without and with a record; no character;
-- the end of the line.
use mathlib.Core.Path.{◌≡◌, refl, sym, ap, ◌∙◌, subst}
use mathlib.Core.Bool.{Bool}
use mathlib.Core.List.{List, [], ◌∷◌, ◌++◌}
use mathlib.Core.Option.{none}
use Prim.Native.Nat.{ℕ, ◌+◌, ◌<◌}
use native.Mathlib.Omega.{arith}
use lib.ListN.{length, get_or, drop}
use Rattle.text.specs.Text.{chars, Scalars}
use Rattle.text.proofs.PlaceLaws.{Reached, reached_count}
use Rattle.fields.specs.Fields.{le_at}
use Rattle.table.specs.Table.{Record, find}
use Rattle.table.specs.Layout.{records_at}
use Rattle.table.specs.Check.{Fine, read_table}
use Rattle.table.specs.Answers.{record_of, table_of}
use Rattle.table.specs.declared.shape.Shape.{Shape}
use Rattle.table.specs.declared.layout.NumProp.{NumProp}
use Rattle.table.proofs.LookupLaws.{table_rises}
use Rattle.table.specs.Index.{FoundAt, Whole}
use Rattle.table.specs.declared.index.RecordRun.{RecordRun}
use Rattle.pass_list.specs.StoredEdge.{Every, Small, nil, cons}
use Rattle.pass_list.specs.Stored.{stored_list_at}
use Rattle.pass_list.proofs.in_turn.EveryLaws.{every_append}
use Rattle.pass_list.specs.Edges.{points_of}
use Rattle.pass_list.proofs.in_turn.FirstStoredLaws.{first_stored_edges_none, first_stored_edges_skip, first_stored_edges_more}
use Rattle.pass_edge.specs.Grounded.{Rooted, Grounded}
use Rattle.characters.specs.CharStored.{char_stored}
use Rattle.characters.specs.Initial.{records_in, Records, SoFar, points_count, Initial}
use Rattle.characters.proofs.CharLaws.{legal_parts, char_edge_is, char_made, char_kind, char_whole, char_small}
use Rattle.characters.proofs.LegalLaws.{Lawful, table_told_lem, records_first, found_lawful}
use Rattle.characters.proofs.RootLaws.{char_rooted}

-- ---- the records of a checked table, by the count that it begins with
module _ (t : List ℕ) (h : Shape) (ok : read_table t ≡ Fine (table_of t h) (length t)) {left : ℕ} (count : left ≡ le_at t 0 2) where
  said_count : length (table_of t h).records ≡ left
  said_count = (table_told_lem t ok).counted ∙ sym count

  pub said_same : records_at left t h.records ≡ (table_of t h).records
  unfolding table_of
  said_same = rw (← said_count) (records_first h.count t h.records)

  pub said_records : Records t (record { at = h.records; left = left })
  said_records = record { table = table_of t h; checked = ok; these = sym said_same; full = ap length said_same ∙ said_count }

  pub said_initial : (d : Bool) (line : List ℕ) {s : List ℕ} {n : ℕ} → SoFar (points_of (points_count d (table_of t h)) (chars line)) (chars line) t (records_at left t h.records) (length (chars line)) s n
      → Initial d line t h s n
  said_initial d line {s} {n} so = subst (λ (rs : List Record). SoFar (points_of (points_count d (table_of t h)) (chars line)) (chars line) t rs (length (chars line)) s n) said_same so

-- ---- c stands at place k of the line, `point` says which places hold a point that counts; rs are records that may stand in the table's bytes t
module _ (point : ℕ → Bool) (t : List ℕ) (rs : List Record) (lawful : Every (Lawful t) rs) (w : List ℕ) (scalars : Scalars w) (k c : ℕ) (inside : k < length w) (here : get_or w k 0 ≡ c) where
  pub lawful_grounded : (p : NumProp) (at : ℕ) → FoundAt t rs c p at → Grounded point w t (char_stored t p at k c (point (k + 1)))
  lawful_grounded p at f =
      let l = found_lawful rs c lawful f.found in
      let legal = legal_parts l.least (record_of t p) l.legal in
      record {
        made = char_made w t p at k c (point (k + 1)) inside here f.reads scalars point refl legal.1;
        small = char_small t p at k c (point (k + 1)) legal.0;
        rooted = char_rooted t rs c p at l.least f l.legal legal.0 k (point (k + 1));
      }

-- ---- what the table's check gives
module _ (t : List ℕ) (all : RecordRun) (ok : Records t all) where
  pub records_whole : Whole t all.at all.left
  records_whole = record { full = ok.full; rises = rw (← ok.these) (table_rises t ok.checked) }

  -- ---- c stands at place k of the line
  module _ (point : ℕ → Bool) (w : List ℕ) (scalars : Scalars w) (k c : ℕ) (inside : k < length w) (here : get_or w k 0 ≡ c) where
    pub found_sound : (p : NumProp) (at : ℕ) → FoundAt t (records_in t all) c p at → Grounded point w t (char_stored t p at k c (point (k + 1)))
    found_sound = lawful_grounded point t (records_in t all) (rw (← ok.these) (table_told_lem t ok.checked).lawful) w scalars k c inside here

    -- ---- a turn: s begins with the n stored edges of the characters before place k
    module _ (n : ℕ) (s : List ℕ) (so : SoFar point w t (records_in t all) k s n) where
      pub so_far_skip : find (records_in t all) c ≡ none → SoFar point w t (records_in t all) (k + 1) s n
      so_far_skip e =
          let few = so.few in
          record { stored_edges = first_stored_edges_skip point w t (records_in t all) k c (stored_list_at s 0 n) inside here so.stored_edges e; few = omega arith; small = so.small; rooted = so.rooted }

      pub so_far_more : (p : NumProp) (at : ℕ) (u : List ℕ) → FoundAt t (records_in t all) c p at → stored_list_at u 0 (n + 1) ≡ stored_list_at s 0 n ++ (char_stored t p at k c (point (k + 1)) ∷ [])
          → SoFar point w t (records_in t all) (k + 1) u (n + 1)
      so_far_more p at u f put =
          let few = so.few in
          let x = char_stored t p at k c (point (k + 1)) in
          let sound = found_sound p at f in
          record {
            stored_edges = rw put (first_stored_edges_more point w t (records_in t all) k c (stored_list_at s 0 n) inside here so.stored_edges (record_of t p) x f.found
                (char_edge_is w t p at k c (point (k + 1)) inside here f.reads) sound.made (char_kind t p at k c (point (k + 1))) (char_whole t p at k c (point (k + 1))));
            few = omega arith;
            small = rw put (every_append Small (stored_list_at s 0 n) (x ∷ []) so.small (cons sound.small nil));
            rooted = rw put (every_append (Rooted t) (stored_list_at s 0 n) (x ∷ []) so.rooted (cons sound.rooted nil));
          }

pub so_far_none : (point : ℕ → Bool) (w t : List ℕ) (rs : List Record) (s : List ℕ) → SoFar point w t rs 0 s 0
unfolding stored_list_at
so_far_none point w t rs s = record { stored_edges = first_stored_edges_none point w t rs; few = omega arith; small = nil; rooted = nil }

-- the line ends at place k
pub so_far_all : (point : ℕ → Bool) (line t : List ℕ) (rs : List Record) (k at n : ℕ) (s : List ℕ) → Reached line k at → chars (drop at line) ≡ [] → SoFar point (chars line) t rs k s n
    → SoFar point (chars line) t rs (length (chars line)) s n
so_far_all point line t rs k at n s r e so =
    let all : length (chars line) ≡ k = omega (arith, reached_count line k at r, ap length e) in
    rw all so
