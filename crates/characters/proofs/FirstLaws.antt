-- The stored edges of a line's characters are grounded (`pass_edge`, specs/Grounded.antt), by a table that passed its check: the characters' stage, without the code.
-- In order: the record that stands at an offset; the characters one by one; the whole line. Assumes nothing.
use mathlib.Core.Path.{◌≡◌, refl, sym, ap, ◌∙◌}
use mathlib.Core.Bool.{Bool}
use mathlib.Core.List.{List, [], ◌∷◌, ◌++◌}
use mathlib.Core.Option.{Option, none, some}
use Prim.Native.Nat.{ℕ, zero, suc, ◌+◌, ◌≤◌, ◌<◌}
use native.Mathlib.Numerals.{add-one}
use native.Mathlib.Omega.{arith}
use lib.ListN.{length, get_or}
use Rattle.text.specs.Text.{Scalars}
use Rattle.table.specs.Table.{Record, Table, find}
use Rattle.table.specs.Layout.{Is, read_record, read_numbers}
use Rattle.table.specs.Check.{Fine, read_table}
use Rattle.table.specs.Answers.{numbers_of, record_of, Inside}
use Rattle.table.specs.Walk.{Stands}
use Rattle.table.specs.Index.{FoundAt}
use Rattle.table.specs.declared.layout.Numbers.{Numbers}
use Rattle.table.specs.declared.layout.NumProp.{NumProp}
use Rattle.table.proofs.LayoutLaws.{numbers_are}
use Rattle.table.proofs.record.WalkLaws.{numbers_at, known_is, stands_told}
use Rattle.pass_list.specs.StoredEdge.{StoredEdge, Every, nil, cons}
use Rattle.pass_list.specs.FirstStored.{FirstStored}
use Rattle.pass_list.proofs.in_turn.EveryLaws.{every_append}
use Rattle.pass_list.proofs.in_turn.FirstStoredLaws.{first_stored_edges_none, first_stored_edges_skip, first_stored_edges_more}
use Rattle.pass_edge.specs.Grounded.{Grounded}
use Rattle.characters.specs.CharStored.{char_stored}
use Rattle.characters.proofs.CharLaws.{char_edge_is, char_kind, char_whole}
use Rattle.characters.proofs.LegalLaws.{Lawful, table_told_lem, found_lawful}
use Rattle.characters.proofs.InitialLaws.{lawful_grounded}

-- ---- the record that stands at an offset, as the code's walk has it
module _ (s : List ℕ) (at : ℕ) {next : ℕ} (stands : Stands s at next) where
  numbers_there : (N : Numbers) × (Is (numbers_of (get_or s (at + 4) 0) N) N.next ≡ read_numbers (get_or s (at + 4) 0) s (numbers_at (get_or s (at + 4) 0) s (at + 5)))
  numbers_there = (_, numbers_are (get_or s (at + 4) 0) s (numbers_at (get_or s (at + 4) 0) s (at + 5)) _ _ _ _ _ (let t = (stands_told stands).numbers_in in omega arith) refl refl refl refl refl)

  prop_there : (p : NumProp) × (Is (record_of s p) p.next ≡ read_record s at) × Inside s p
  prop_there =
      let (N, n) = numbers_there in
      let k = known_is stands _ _ _ N _ _ n refl refl refl refl refl in
      (_, k.0, k.1)

-- ---- the stored edges of the first n characters, by the records rs of the table's bytes s; `point` says which places hold a point that counts
pub record FirstGrounded (point : ℕ → Bool) (w s : List ℕ) (rs : List Record) (n : ℕ) : Type 0 where
  pub stored_edges : List StoredEdge
  pub first : FirstStored point w s rs n stored_edges
  pub grounded : Every (Grounded point w s) stored_edges

module _ (point : ℕ → Bool) (w s : List ℕ) (rs : List Record) (lawful : Every (Lawful s) rs) (scalars : Scalars w) where
  module _ (n : ℕ) (inside : n < length w) (so_far : FirstGrounded point w s rs n) where
    abbrev c : ℕ
    c = get_or w n 0

    with_record : (r : Record) → find rs c ≡ some r → FirstGrounded point w s rs (n + 1)
    with_record r e =
        let l = found_lawful rs c lawful e in
        let (p, reads, within) = prop_there s l.at (record { prop = r; reads = l.reads }) in
        let is : record_of s p ≡ r = let q = reads ∙ l.reads in cc in
        let found : FoundAt s rs c p l.at = record { found = e ∙ ap some (sym is); reads = reads; inside = within } in
        let mark = point (n + 1) in
        let x = char_stored s p l.at n c mark in
        let ground = lawful_grounded point s rs lawful w scalars n c inside refl p l.at found in
        record {
          stored_edges = so_far.stored_edges ++ (x ∷ []);
          first = first_stored_edges_more point w s rs n c so_far.stored_edges inside refl so_far.first (record_of s p) x found.found
              (char_edge_is w s p l.at n c mark inside refl reads) ground.made (char_kind s p l.at n c mark) (char_whole s p l.at n c mark);
          grounded = every_append (Grounded point w s) so_far.stored_edges (x ∷ []) so_far.grounded (cons ground nil);
        }

    one_more_lem : FirstGrounded point w s rs (n + 1)
    one_more_lem = go (find rs c) refl
      where
        go : (o : Option Record) → find rs c ≡ o → FirstGrounded point w s rs (n + 1)
        go none e = record { stored_edges = so_far.stored_edges; first = first_stored_edges_skip point w s rs n c so_far.stored_edges inside refl so_far.first e; grounded = so_far.grounded }
        go (some r) e = with_record r e

  until : (n : ℕ) → n ≤ length w → FirstGrounded point w s rs n
  until zero h = record { stored_edges = []; first = first_stored_edges_none point w s rs; grounded = nil }
  until (suc n) h = rw (← (add-one n)) (one_more_lem n (omega arith) (until n (omega arith)))

-- ---- the whole line
pub first_grounded : (point : ℕ → Bool) (w s : List ℕ) {t : Table} {end : ℕ} → read_table s ≡ Fine t end → Scalars w → FirstGrounded point w s t.records (length w)
first_grounded point w s {t} e scalars = until point w s t.records (table_told_lem s e).lawful scalars (length w) (omega arith)
