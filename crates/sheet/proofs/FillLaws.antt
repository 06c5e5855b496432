-- A page that is being filled (`specs/Walk.antt`), for the proofs of `fill` and `proof_sheet`.
-- In order: the rows that are left; a page that is being filled; the page; a row that is found.
use Prim.Native.Nat.{ℕ, ◌+◌, ◌-◌, ◌≤◌, ◌<◌}
use mathlib.Core.Path.{◌≡◌, refl, sym, ap, ◌∙◌}
use mathlib.Core.List.{List, [], ◌∷◌, ◌++◌, append_assoc, append-nil}
use mathlib.Core.Option.{none, some}
use native.Mathlib.Omega.{arith}
use native.Mathlib.Numerals.{add-one}
use lib.ListN.{length, take, drop, length-append, length-take, length-drop, drop_of_length-le}
use lib.Seq.{sets}
use Rattle.whole.specs.Decimal.{decimal}
use Rattle.whole.proofs.SetsLaws.{sets_then}
use Rattle.edge.specs.Write.{Put}
use Rattle.grammar.specs.Plain.{Char, utf8}
use Rattle.grammar.proofs.PlainText.{utf8_length}
use Rattle.sheet_rows.specs.Rows.{numeral_within, rows_of, row_of, row_bytes, rows_bytes}
use Rattle.sheet_rows.proofs.RowLaws.{rows_at_most, length_row, rows_bytes_more}
use Rattle.sheet_rows.proofs.CodeLaws.{put_length, put_read, row_is}
use Rattle.sheet_counts.specs.Numbered.{candidate}
use Rattle.sheet.specs.declared.Page.{Page}
use Rattle.sheet.specs.Sheet.{candidates, sheet, fitting, page, after}
use Rattle.sheet.specs.Answer.{answer, output}
use Rattle.sheet.specs.Walk.{tried, AtFront, rows_from, At, Fills}
use Rattle.sheet.proofs.PageLaws.{fitting_part, fitting_next, fitting_stops, fitting_nil}
use Rattle.sheet.proofs.NumberedLaws.{length_candidates, rows_first}
use Rattle.sheet.proofs.CodeLaws.{candidate_short, row_tried}
use Rattle.std.specs.Prelude.{Option, Some}

-- ---- the rows that are left

left_none : (i : ℕ) → i < 69904 → numeral_within (candidate i) ≡ none → rows_from i ≡ rows_from (i + 1)
left_none i h e = rows_first i h ∙ rw (e, add-one i)

left_row : (i v : ℕ) → i < 69904 → numeral_within (candidate i) ≡ some v → rows_from i ≡ (candidate i, v) ∷ rows_from (i + 1)
left_row i v h e = rows_first i h ∙ rw (e, add-one i)

left_end : (i : ℕ) → 69904 ≤ i → rows_from i ≡ []
unfolding rows_of
left_end i h = rw (drop_of_length-le candidates {i = i} (omega (arith, length_candidates)))

-- ---- a page that is being filled
pub record Filling (s out : List ℕ) (from i at rows : ℕ) : Type 0 where
  pub done : List (List Char × ℕ)
  pub wrote : out ≡ sets s 0 (rows_bytes done)
  pub end : at ≡ length (rows_bytes done)
  pub count : rows ≡ length done
  pub so_far : done ++ fitting (length s - at) (rows_from i) ≡ fitting (length s) (rows_from from)
  pub room : at ≤ length s
  pub inside : i ≤ 69904
  pub few : rows ≤ i

pub fill_start : (s : List ℕ) (from : ℕ) → from ≤ 69904 → Filling s s from from 0 0
unfolding rows_bytes
fill_start s from h = record {
  done = [];
  wrote = refl;
  end = refl;
  count = refl;
  so_far = ap (λ (n : ℕ). fitting n (rows_from from)) (omega arith);
  room = omega arith;
  inside = h;
  few = omega arith;
}

module _ (s out : List ℕ) (from i at rows : ℕ) (f : Filling s out from i at rows) (h : i < 69904) where
  pub fill_none : numeral_within (candidate i) ≡ none → Filling s out from (i + 1) at rows
  fill_none e = record {
    done = f.done;
    wrote = f.wrote;
    end = f.end;
    count = f.count;
    so_far = ap (λ (l : List (List Char × ℕ)). f.done ++ fitting (length s - at) l) (sym (left_none i h e)) ∙ f.so_far;
    room = f.room;
    inside = omega arith;
    few = omega (arith, f.few);
  }

  module _ (v : ℕ) (e : numeral_within (candidate i) ≡ some v) where
    pub fill_row : {t : List ℕ} {r : ℕ} → length (row_bytes (candidate i, v)) ≤ length s - at → Put out t at r (row_bytes (candidate i, v)) → Filling s t from (i + 1) r (rows + 1)
    fill_row {t} {r} l p =
        let row : List Char × ℕ = (candidate i, v) in
        let n : length s - at - length (row_bytes row) ≡ length s - r = omega (arith, p.next) in
        record {
          done = f.done ++ (row ∷ []);
          wrote = rw (rows_bytes_more f.done row) (sets_then s 0 at (rows_bytes f.done) (row_bytes row) f.wrote (f.end ∙ omega arith) p.wrote);
          end = rw (rows_bytes_more f.done row) (omega (arith, p.next, f.end, length-append (rows_bytes f.done) (row_bytes row)));
          count = omega (arith, f.count, length-append f.done (row ∷ []));
          so_far =
              append_assoc f.done (row ∷ []) _
              ∙ ap (λ (l : List (List Char × ℕ)). f.done ++ l) (sym (rw n at (fitting_next (length s - at) row (rows_from (i + 1)) l)) ∙ ap (fitting (length s - at)) (sym (left_row i v h e)))
              ∙ f.so_far;
          room = omega (arith, p.next, f.room);
          inside = omega arith;
          few = omega (arith, f.few);
        }

    pub fill_stops : length s - at < length (row_bytes (candidate i, v)) → Fills (rows_from from) s out at rows
    fill_stops l =
        let d : f.done ≡ fitting (length s) (rows_from from) =
        sym (append-nil f.done) ∙ ap (λ (l : List (List Char × ℕ)). f.done ++ l) (sym (fitting_stops (length s - at) (candidate i, v) (rows_from (i + 1)) l) ∙ ap (fitting (length s - at)) (sym (left_row i v h e))) ∙ f.so_far in
        record { wrote = rw d at f.wrote; end = rw d at f.end; count = rw d at f.count }

pub fill_ends : (s out : List ℕ) (from i at rows : ℕ) → Filling s out from i at rows → 69904 ≤ i → Fills (rows_from from) s out at rows
fill_ends s out from i at rows f h =
    let d : f.done ≡ fitting (length s) (rows_from from) =
    sym (append-nil f.done) ∙ ap (λ (l : List (List Char × ℕ)). f.done ++ l) (sym (fitting_nil (length s - at)) ∙ ap (fitting (length s - at)) (sym (left_end i h))) ∙ f.so_far in
    record { wrote = rw d at f.wrote; end = rw d at f.end; count = rw d at f.count }

-- ---- the page
pub page_answer : (s t : List ℕ) (from position bytes rows : ℕ) → At from position → Fills (rows_from from) s t bytes rows
    → ◌≡◌ {A = Page} (record { bytes = bytes; next = position + rows }) (answer position (length s))
unfolding page after
page_answer s t from position bytes rows a f = rw (a.rest, f.end, f.count)

pub page_output : (s t : List ℕ) (from position bytes rows : ℕ) → At from position → Fills (rows_from from) s t bytes rows → t ≡ output position s
unfolding page
page_output s t from position bytes rows a f = rw a.rest f.wrote

sheet_le : length sheet ≤ 69904
unfolding sheet
sheet_le = omega (arith, rows_at_most numeral_within candidates, length_candidates)

-- past the last row a page has none
pub page_rows : (s t : List ℕ) (from position bytes rows : ℕ) → At from position → Fills (rows_from from) s t bytes rows → rows ≤ 69904 - position
page_rows s t from position bytes rows a f =
    let part = ap length (fitting_part (length s) (rows_from from)) in
    let size = length-append (fitting (length s) (rows_from from)) (drop (length (fitting (length s) (rows_from from))) (rows_from from)) in
    omega (arith, part, size, f.count, ap length a.rest, length-drop position sheet, sheet_le)

-- ---- a row that is found: the candidate i has the value v, and its text is the first n bytes of the buffer t
pub record RowFound (i n v : ℕ) (t : List ℕ) : Type 0 where
  pub value : numeral_within (candidate i) ≡ some v
  pub small : n ≤ 12
  pub fits : n ≤ length t
  pub text : take n t ≡ utf8 (candidate i)
  pub size : length (row_bytes (candidate i, v)) ≡ n + length (decimal v) + 2

pub row_found : (i : ℕ) {f : Option (ℕ × ℕ)} {s t : List ℕ} {n v : ℕ} → f ≡ tried (candidate i) → f ≡ Some (n, v) → AtFront s t (utf8 (candidate i)) → length s ≡ 12 → RowFound i n v t
row_found i {f} {s} {t} {n} {v} e k p twelve =
    let (h, l) = row_tried i n v e k in
    let small : n ≤ 12 = omega (arith, utf8_length (candidate i), candidate_short i) in
    record {
      value = h;
      small = small;
      fits = omega (arith, put_length p);
      text = put_read s (utf8 (candidate i)) (record { wrote = p.wrote; next = l ∙ omega arith }) (omega arith);
      size = omega (arith, length_row (candidate i, v), utf8_length (candidate i));
    }

module _ {i n v : ℕ} {t : List ℕ} (r : RowFound i n v t) where
  pub row_taken : n ≡ length (take n t)
  row_taken = simp length-take (omega (arith, r.fits))

  pub row_put : {o u : List ℕ} {at end : ℕ} → Put o u at end (row_of (take n t) v) → Put o u at end (row_bytes (candidate i, v))
  row_put q = row_is (candidate i) v r.text q
