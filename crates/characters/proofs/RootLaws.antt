-- The stored edge of a character takes what it needs from the table (pass_edge/specs/Grounded.antt): its record, which the table's check accepted, and its script. No
-- contract cites this file. Assumes nothing.
use mathlib.Core.Path.{◌≡◌, sym}
use mathlib.Core.Bool.{Bool, true}
use mathlib.Core.List.{List}
use mathlib.Core.Option.{some}
use Prim.Native.Nat.{ℕ}
use native.Mathlib.Numerals.{add-one}
use native.Mathlib.Omega.{arith}
use Rattle.fields.specs.Part.{part}
use Rattle.fields.proofs.PartLaws.{length_part}
use Rattle.text.specs.Text.{well_formed}
use Rattle.text.proofs.RowLaws.{and-true}
use Rattle.table.specs.Table.{Text, Record}
use Rattle.table.specs.Layout.{bit, numbers_in}
use Rattle.table.specs.Check.{all_of, legal_code_point, legal_texts, legal_numbers, legal_record}
use Rattle.table.specs.Answers.{record_of}
use Rattle.table.specs.declared.layout.NumProp.{NumProp}
use Rattle.pass_edge.specs.Grounded.{ScriptAt, Rooted}
use Rattle.pass_edge.proofs.RecordLaws.{record_short, at_most}
use Rattle.characters.specs.CharStored.{char_stored}
use Rattle.table.specs.Index.{FoundAt}

-- ---- texts of a record that may stand
legal_texts_lem : (least : ℕ) (r : Record) → legal_record least r ≡ true → legal_texts r ≡ true
unfolding legal_record
legal_texts_lem least r h = (and-true (legal_texts r) _ (and-true (legal_code_point least r.code_point) _ h).1).0

script_formed : (r : Record) (t : Text) → legal_texts r ≡ true → r.script ≡ some t → well_formed t ≡ true
unfolding legal_texts all_of
script_formed r t h e =
    let s = (and-true (all_of well_formed r.rom) (all_of well_formed r.script) (and-true (well_formed r.type) _ h).1).1 in
    rw e at s

module _ (t : List ℕ) (rs : List Record) (c : ℕ) (p : NumProp) (at least : ℕ) (f : FoundAt t rs c p at) (legal : legal_record least (record_of t p) ≡ true) (numbers : legal_numbers (numbers_in (record_of t p)) ≡ true) where
  script_is : bit p.map 5 ≡ true → (record_of t p).script ≡ some (part t p.script.at.0 p.script.len)
  unfolding record_of
  script_is on = rw on

  script_there : bit p.map 5 ≡ true → ScriptAt t p.script.at.0 p.script.len
  script_there on =
      let e = script_is on in
      let w = f.inside.script_within in
      let l = length_part t p.script.at.0 p.script.len w in
      let m = at_most (record_short t at (sym f.reads)).script e in
      record { within = w; short = omega arith; formed = script_formed (record_of t p) _ (legal_texts_lem least (record_of t p) legal) e }

  pub char_rooted : (i : ℕ) (b : Bool) → Rooted t (char_stored t p at i c b)
  unfolding char_stored
  char_rooted i b =
      record {
        legal = λ z. record { prop = record_of t p; next = p.next; reads = sym f.reads; texts = legal_texts_lem least (record_of t p) legal; numbers = numbers };
        one = λ z. add-one i;
        script = script_there;
      }
