-- What S-1 of 02 promises of a written plot number, up to TOP. The words are defined in `specs/Writing.antt` (writing) and in `grammar` (Reading, division_value; IsLine,
-- OneEdge and Carries of `proofs/Demand3.antt`).
--     numeral        "Every writing is a numeral of the grammar", of value n
--     one_edge       "the five passes make one edge of it with the number it came from", and the line is not refused
--     apart          two numbers have different writings
--     no_lone_digit  in its reading no single digit stands after a block: 10005 is 一万零五, never 一万五
--     length_31      at most 31 characters, so that the line is not refused 3 either; bytes_93: of three bytes each
--     reads_back     the bytes that the call stores are such a line; field_back: read as a field (S-4) they are the number again
use Prim.Native.Nat.{ℕ, ◌≤◌}
use mathlib.Core.Path.{◌≡◌, sym, ap, ◌∙◌, subst}
use mathlib.Core.List.{List, map}
use mathlib.Core.Option.{none}
use native.Mathlib.Omega.{arith}
use lib.ListN.{length}
use Rattle.text.specs.Text.{chars, encodes}
use Rattle.whole.specs.Whole.{TOP}
use Rattle.passes.specs.NumEdge.{NumEdge}
use Rattle.passes.specs.Passes.{above_at}
use Rattle.grammar.specs.Plain.{code_point, plain, utf8}
use Rattle.grammar.specs.Grammar.{plainly, Reading, division_value}
use Rattle.grammar.proofs.Demand3.{IsLine, line_of, OneEdge, Carries, demand3}
use Rattle.table_grammar.proofs.Readings.{same_division}
use Rattle.grammar.proofs.PlainText.{utf8_length}
use Rattle.grammar.proofs.ReadingWithin.{reading_within}
use Rattle.numeral.specs.Field.{field_of}
use Rattle.numeral.proofs.OneNumber.{field_of_reading}
use Rattle.writing.specs.Writing.{writing, NoneCounted}
use Rattle.writing.proofs.WritingReads.{writing_reads}
use Rattle.writing.proofs.WritingLength.{writing_length}
use Rattle.std.specs.Prelude.{Some, Ok}

pub numeral : (n : ℕ) → n ≤ TOP → (r : Reading (writing n)) × (division_value r.division ≡ n)
numeral n h = let (r, v, _) = writing_reads n (omega arith) in (r, v)

pub no_lone_digit : (n : ℕ) → n ≤ TOP → (r : Reading (writing n)) → NoneCounted r.division
no_lone_digit n h r = let (q, _, c) = writing_reads n (omega arith) in subst NoneCounted (same_division plainly (writing n) q r) c

-- the line of a writing: no refusal 7, and one edge over the whole line, which carries n
pub record ReadsBack (line : List ℕ) (n : ℕ) : Type 0 where
  pub accepted : above_at plain (chars line) ≡ none
  pub edge : NumEdge
  pub one_edge : OneEdge line edge
  pub carries : Carries edge n

pub one_edge : (n : ℕ) → n ≤ TOP → (line : List ℕ) → IsLine line (writing n) → ReadsBack line n
one_edge n h line is = go (numeral n h)
  where
    go : (r : Reading (writing n)) × (division_value r.division ≡ n) → ReadsBack line n
    go (r, v) =
        let fine = reading_within (chars line) (writing n) is.characters r (rw v h) in
        let settled = demand3 line (writing n) is fine in
        let (e, o) = settled.one_edge.1 r in
        record { accepted = fine; edge = e; one_edge = o; carries = subst (Carries e) v (settled.same_value e o r) }

pub apart : (m n : ℕ) → m ≤ TOP → n ≤ TOP → writing m ≡ writing n → m ≡ n
apart m n h k e =
    let (r, v) = numeral m h in
    let (q, u) = rw (← e) at (numeral n k) in
    sym v ∙ ap division_value (same_division plainly (writing m) r q) ∙ u

pub length_31 : (n : ℕ) → length (writing n) ≤ 31
length_31 n = writing_length n

-- what the call stores: an output of 93 bytes is never too short, and the bytes read back as n
pub bytes_93 : (n : ℕ) → length (utf8 (writing n)) ≤ 93
bytes_93 n = omega (arith, utf8_length (writing n), writing_length n)

pub reads_back : (n : ℕ) → n ≤ TOP → ReadsBack (utf8 (writing n)) n
unfolding utf8
reads_back n h = one_edge n h (encodes (map code_point (writing n))) (line_of (writing n))

pub field_back : (n : ℕ) → n ≤ TOP → field_of (utf8 (writing n)) ≡ Ok (Some n)
field_back n h = let (r, v) = numeral n h in field_of_reading (writing n) (omega (arith, writing_length n)) r n v h
