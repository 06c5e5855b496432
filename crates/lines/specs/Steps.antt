-- What the code's functions answer on the way. Definitions only.
--     TableReady table h os k  the table passed its check: its shape h, and the index over its records of k entries, their offsets os
--     brief_length b            the bytes of an answer's listing
--     Left u r a               the code answered r as the definition's answer a says, and a listing's bytes stand at the front of the work space u
--     EntryIs s t at e r       the entry e was put into s from an offset on, or does not fit there; t is s then
--     Fills es s t r           of the entries es as many are put at the front of s as fit; t is s then
--     Assumes nothing.
use Rattle.std.specs.Prelude.{ℕ, ◌+◌, ◌≤◌, ◌<◌, ◌≡◌, List, length, Option, Some, None, Result}
use Rattle.std.proofs.lemmas.List.Edits.{sets}
use Rattle.fields.specs.Part.{part}
use Rattle.table.specs.Check.{Fine, read_table}
use Rattle.table.specs.Answers.{table_of}
use Rattle.table.specs.declared.shape.Shape.{Shape}
use Rattle.table_check.specs.Indexed.{RecordIndex}
use Rattle.lattice.specs.Lattice.{most_bytes}
use Rattle.numbers.specs.Call as numbers
use Rattle.answers.specs.Answers.{Brief, of_length, refused, answer_of}
use Rattle.call.specs.Answers.{brief}
use Rattle.lines.specs.declared.Page.{Page}
use Rattle.lines.specs.Pages.{listing_of, Entry, fitting, bytes_of_all, taken}
use Rattle.answers.specs.declared.Refusal.{Refusal}

pub record TableReady (table : List ℕ) (h : Shape) (os : List ℕ) (k : ℕ) : Type 0 where
  pub checked : read_table table ≡ Fine (table_of table h) (length table)
  pub indexed : RecordIndex table h os k

abbrev pub brief_length : Brief → ℕ
brief_length (of_length n) = n
brief_length (refused number at) = 0

pub record Left (u : List ℕ) (r : Result ℕ Refusal) (a : numbers.Answer) : Type 0 where
  pub answer : answer_of r ≡ brief a
  pub listing : part u 0 (length (listing_of a)) ≡ listing_of a
  pub short : length (listing_of a) ≤ most_bytes

unfoldable pub EntryIs : List ℕ → List ℕ → ℕ → List ℕ → Option ℕ → Type 0
EntryIs s t at e (Some r) = (at + length e ≤ length s) × (r ≡ at + length e) × (t ≡ sets s at e)
EntryIs s t at e None = (length s < at + length e) × (t ≡ s)

pub record Fills (es : List Entry) (s t : List ℕ) (r : Page) : Type 0 where
  pub wrote : t ≡ sets s 0 (bytes_of_all (fitting (length s) es))
  pub bytes : r.bytes ≡ length (bytes_of_all (fitting (length s) es))
  pub next : r.next ≡ taken (fitting (length s) es)
