-- Laws of what the program prints (`specs/LineRows.antt`): the rows of a listing that the call answered have room in 65,536 bytes; the listing that it left in the output, its
-- text, and the plain table's. No contract cites this file. Assumes nothing.
use mathlib.Core.Path.{◌≡◌, sym, ap, ◌∙◌, subst}
use mathlib.Core.List.{List, [], ◌∷◌}
use Prim.Native.Nat.{ℕ, ◌+◌, ◌*◌, ◌≤◌, ◌<◌}
use native.Mathlib.Omega.{arith}
use lib.ListN.{length, take, drop, length-append}
use lib.Seq.{take-append_seam}
use Rattle.text.specs.Text.{chars}
use Rattle.whole.proofs.DecimalLaws.{length_decimal_le}
use Rattle.fields.specs.Fields.{le_at, bytes_of}
use Rattle.fields.proofs.FieldsLaws.{length-bytes_of}
use Rattle.edge.specs.Edge.{Edge, map_of, numeric_bytes, head_bytes, edge_bytes, edges_bytes, listing_bytes}
use Rattle.fields.specs.Flag.{bytes_if}
use Rattle.edge.specs.Layout.{listed}
use Rattle.edge.proofs.WriteLaws.{length_head}
use Rattle.pass_list.specs.StoredEdge.{nil, cons}
use Rattle.paths.specs.Best.{Whole}
use Rattle.paths.proofs.ReadingLaws.{reads, spans_whole, sound_span}
use Rattle.numbers.specs.CallEdge.{Legals}
use Rattle.numbers.specs.Call.{Answer, listing, refused, add_numbers, no_edges}
use Rattle.answers.specs.declared.Refusal.{Refusal}
use Rattle.answers.specs.Answers.{number, place, answer_of}
use Rattle.call.specs.Answers.{AnswerIs}
use Rattle.finished.specs.Finished.{Bytes, edges_of, FinishedAs}
use Rattle.finished.proofs.Readable.{finished_read}
use Rattle.rows.specs.Rows.{mark, row_bytes}
use Rattle.rows.specs.ListingRows.{rows_bytes, RowsFit}
use Rattle.rows.specs.Printed.{TextIs}
use Rattle.rows.proofs.RowsLaws.{length_row}
use Rattle.grammar.specs.PlainBytes.{plain_bytes}
use Rattle.print_line.specs.LineRows.{plain_answer}
use Rattle.std.specs.Prelude.{Result, Ok, Err}

-- ---- the rows of a listing that the call answered: a place has at most three digits, so that a row is at most two bytes longer than its edge
row_short : (n : ℕ) (e : Edge) → n ≤ 256 → e.start < e.end → e.end ≤ n → length (row_bytes e) ≤ length (edge_bytes e) + 2
unfolding edge_bytes
row_short n e few rises within =
    let row = length_row e.start e.end e.type e.txt (mark e.num) in
    let head = length_head (map_of e.num) e.start e.end e.type e.txt in
    let all = length-append (head_bytes (map_of e.num) e.start e.end e.type e.txt) (bytes_if numeric_bytes e.num) in
    omega (arith, length_decimal_le 2 e.start (omega arith), length_decimal_le 2 e.end (omega arith))

rows_short : (n : ℕ) (es : List Edge) → n ≤ 256 → Legals n es → length (rows_bytes es) ≤ length (edges_bytes es) + 2 * length es
unfolding rows_bytes edges_bytes
rows_short n [] few nil = omega arith
rows_short n (e ∷ es) few (cons l ls) =
    let s = sound_span n e l.content in
    let here = row_short n e few s.0 s.1 in
    let rows = length-append (row_bytes e) (rows_bytes es) in
    let bytes = length-append (edge_bytes e) (edges_bytes es) in
    omega (arith, rows_short n es few ls)

rows_room : (es : List Edge) (line : List ℕ) {bytes : List ℕ} → FinishedAs es line bytes → length (rows_bytes (listed bytes)) ≤ 65536
unfolding listing_bytes
rows_room es line {bytes} f =
    let r = rows_short (length (chars line)) es (reads line bytes _ _ f.readable).few f.legal in
    let l : length bytes ≡ length (bytes_of 2 (length es)) + length (edges_bytes es) = ap length f.bytes_are ∙ length-append (bytes_of 2 (length es)) (edges_bytes es) in
    let few = f.few in
    let short = f.short in
    rw f.edges (omega arith)

pub rows_fit : (line table given : List ℕ) (work out : ℕ) (bytes text : List ℕ) → Bytes given → add_numbers line table given work out ≡ listing bytes → 65536 ≤ length text → RowsFit bytes text
unfolding listing_bytes
rows_fit line table given work out bytes text b e room =
    let (t, end, reads-table, f) = finished_read line table given work out bytes b e in
    let es = edges_of t line given in
    let r = reads line bytes _ _ f.readable in
    let two = length-bytes_of 2 (length es) in
    let l : length bytes ≡ length (bytes_of 2 (length es)) + length (edges_bytes es) = ap length f.bytes_are ∙ length-append (bytes_of 2 (length es)) (edges_bytes es) in
    record {
      count = omega arith;
      whole = subst (λ (k : ℕ). Whole k bytes 2) r.edges (spans_whole _ _ bytes 2 r.spans);
      room = let k = rows_room es line f in omega arith;
    }

-- ---- the call answered a listing of n bytes: it stands at the output's front
pub record Front (now : List ℕ) (n : ℕ) (a : Answer) : Type 0 where
  pub inside : n ≤ length now
  pub is : a ≡ listing (take n now)

pub listing_front : {out now : List ℕ} {r : Result ℕ Refusal} (a : Answer) → AnswerIs out now r a → (n : ℕ) → r ≡ Ok n → Front now n a
listing_front {out} {now} {r} (listing bytes) h n e =
    let m : n ≡ length bytes = (let b = sym (ap answer_of e) ∙ h.answer in cc) in
    let f = h.output in
    let l : length now ≡ length bytes + length (drop (length bytes) out) = ap length f ∙ length-append bytes (drop (length bytes) out) in
    record { inside = omega arith; is = ap listing (sym (rw (f, m) (take-append_seam bytes (drop (length bytes) out)))) }
listing_front {out} {now} {r} (refused k p) h n e = let b = sym (ap answer_of e) ∙ h.answer in let z : ◌≡◌ {A = ℕ} 0 1 = cc in absurd (omega arith)

pub refused_is : {out now : List ℕ} {r : Result ℕ Refusal} (a : Answer) → AnswerIs out now r a → (x : Refusal) → r ≡ Err x → a ≡ refused (number x) (place x)
refused_is (listing bytes) h x e = let b = sym (ap answer_of e) ∙ h.answer in let z : ◌≡◌ {A = ℕ} 0 1 = cc in absurd (omega arith)
refused_is (refused k p) h x e = let b = sym (ap answer_of e) ∙ h.answer in cc

-- ---- the plain table, and the program's own work space and output
pub plain_text_lem : {text t : List ℕ} {r : ℕ} (line : List ℕ) {table : List ℕ} {work out : ℕ} → TextIs text t r (add_numbers line table no_edges work out) → table ≡ plain_bytes → work ≡ 65536 → out ≡ 32768
    → TextIs text t r (plain_answer line)
plain_text_lem line h p q s = rw (p, q, s) at h
