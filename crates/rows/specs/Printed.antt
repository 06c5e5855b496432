-- What the program prints for an answer of the call (01: one edge a row; "or "refused", number, place, with spaces; a newline ends each row."). Definitions only.
--     refused_bytes n p   the row of a refusal with its number and place
--     printed a          the text of an answer of the call: a row for each edge of the listing, or the refusal's row
--     TextIs text t r a  text became t with the text of the answer a from its front up to the offset r
--     Assumes nothing.
use Rattle.std.specs.Prelude.{List, [], ◌∷◌, ◌++◌, ℕ, ◌≤◌, length}
use Rattle.edge.specs.Layout.{listed}
use Rattle.edge.specs.Write.{Put}
use Rattle.whole.specs.Decimal.{decimal}
use Rattle.rows.specs.Columns.{ended}
use Rattle.rows.specs.ListingRows.{rows_bytes}
use Rattle.numbers.specs.Call.{Answer, listing, refused}

unfoldable pub refused_bytes : ℕ → ℕ → List ℕ
refused_bytes number place = ended (114 ∷ 101 ∷ 102 ∷ 117 ∷ 115 ∷ 101 ∷ 100 ∷ []) 32 ++ (ended (decimal number) 32 ++ ended (decimal place) 10)

abbrev pub printed : Answer → List ℕ
printed (listing bytes) = rows_bytes (listed bytes)
printed (refused number place) = refused_bytes number place

pub record TextIs (text t : List ℕ) (r : ℕ) (a : Answer) : Type 0 where
  pub put : Put text t 0 r (printed a)
  pub room : r ≤ length t
