-- A page that is being filled (`specs/Steps.antt`), and the call's answer. No contract cites this file.
-- In order: an entry that is put; the page; the call. Assumes nothing.
use Prim.Native.Nat.{ℕ, ◌+◌, ◌-◌, ◌≤◌, ◌<◌}
use mathlib.Core.Path.{◌≡◌, refl, sym, ap, ◌∙◌, subst}
use mathlib.Core.List.{List, [], ◌∷◌, ◌++◌, map, append_assoc, append-nil}
use native.Mathlib.Omega.{arith}
use lib.ListN.{length, take, drop, length-append, length-take, drop_of_length-le}
use lib.Seq.{sets, length-sets}
use borrow.Author.Tests.{lt-ltb, le-ltb}
use Rattle.fields.specs.Part.{part}
use Rattle.whole.proofs.SetsLaws.{sets_then}
use Rattle.table.specs.Check.{Fine, Refused, read_table}
use Rattle.table.specs.Answers.{table_of, table_answer}
use Rattle.table.specs.declared.shape.Shape.{Shape}
use Rattle.numbers.specs.Call as numbers
use Rattle.answers.specs.declared.CStatus.{CStatus}
use Rattle.answers.specs.declared.Refusal.{Refusal}
use Rattle.answers.specs.declared.Refusal.TheVariants.{ShortWork}
use Rattle.answers.specs.Answers.{answer_of, told}
use Rattle.call.specs.Answers.{brief}
use Rattle.call.specs.Checks.{of_table}
use Rattle.call.proofs.checks.CheckLaws.{table_told}
use Rattle.lines.specs.declared.next_line.LineEnd.{LineEnd}
use Rattle.lines.specs.declared.Page.{Page}
use Rattle.lines.specs.Lines.{Line, line, LineAt}
use Rattle.lines.specs.Pages.{answer_for, listing_of, status_bytes, entry_bytes, Entry, entry_of, entries_of, fitting, bytes_of_all, taken, add_numbers_to_lines, out_after}
use Rattle.table_check.specs.Indexed.{TableIndexed}
use Rattle.lines.specs.Steps.{TableReady, brief_length, Left, EntryIs, Fills}
use Rattle.lines.specs.Told.{c_page, lines_told, answer_told}
use Rattle.lines.proofs.LineLaws.{lines_none}
use Rattle.lines.proofs.PageLaws.{fitting_next, fitting_stops, fitting_nil, bytes_more, taken_more, length_status, length_entry}
use Rattle.std.specs.Prelude.{Some, None, Result, Ok, Err}
use Rattle.std.specs.Result.{result_unwrap_or}
use Rattle.table.specs.declared.shape.TableRefusal.{TableRefusal}

-- ---- an entry that is put: of the answer a, which left its listing of len bytes at the front of u
brief_length_lem : (a : numbers.Answer) → brief_length (brief a) ≡ length (listing_of a)
brief_length_lem (numbers.listing bytes) = refl
brief_length_lem (numbers.refused n at) = refl

answer_length : (r : Result ℕ Refusal) → result_unwrap_or r 0 ≡ brief_length (answer_of r)
answer_length (Ok n) = refl
answer_length (Err r) = refl

module _ {u : List ℕ} {r : Result ℕ Refusal} {a : numbers.Answer} (q : Left u r a) {len : ℕ} (l : len ≡ result_unwrap_or r 0) where
  pub listing_size : len ≡ length (listing_of a)
  listing_size = l ∙ answer_length r ∙ ap brief_length q.answer ∙ brief_length_lem a

  pub listing_short : len ≤ 32768
  listing_short = omega (arith, listing_size, q.short)

  pub listing_taken : take len u ≡ listing_of a
  unfolding part
  listing_taken = ap (λ (n : ℕ). take n u) listing_size ∙ q.listing

  pub listing_long : len ≡ length (take len u)
  listing_long = listing_size ∙ ap length (sym listing_taken)

  pub listing_inside : len ≤ length u
  listing_inside = let k = listing_long in omega (arith, k, length-take len u)

  size : length (entry_bytes a) ≡ 12 + len
  size = omega (arith, length_entry a, listing_size)

  pub entry_no_room : (s : List ℕ) (at : ℕ) → at ≤ length s → length s - at < 12 + len → EntryIs s s at (entry_bytes a) None
  unfolding EntryIs
  entry_no_room s at h k = (omega (arith, size), refl)

  pub entry_put : (s : List ℕ) {t v : List ℕ} {c : CStatus} (at : ℕ) → at ≤ length s → 12 + len ≤ length s - at → c ≡ told (answer_of r) → t ≡ sets s at (status_bytes c) → v ≡ sets t (at + 12) (take len u)
      → EntryIs s v at (entry_bytes a) (Some (at + 12 + len))
  unfolding EntryIs entry_bytes
  entry_put s {t} {v} {c} at h k e x y =
      let w : t ≡ sets s at (status_bytes (told (brief a))) = x ∙ ap (λ (d : CStatus). sets s at (status_bytes d)) (e ∙ ap told q.answer) in
      (omega (arith, size), omega (arith, size), sets_then s at (at + 12) (status_bytes (told (brief a))) (listing_of a) w (omega (arith, length_status (told (brief a)))) (y ∙ ap (sets t (at + 12)) listing_taken))

-- ---- a page that is being filled
pub record Filling (table s out t : List ℕ) (at next : ℕ) : Type 0 where
  pub done : List Entry
  pub wrote : t ≡ sets out 0 (bytes_of_all done)
  pub bytes : at ≡ length (bytes_of_all done)
  pub lines : next ≡ taken done
  pub so_far : done ++ fitting (length out - at) (entries_of table (drop next s)) ≡ fitting (length out) (entries_of table s)
  pub room : at ≤ length out
  pub inside : next ≤ length s

pub fill_start : (table s out : List ℕ) → Filling table s out out 0 0
fill_start table s out = record {
  done = [];
  wrote = refl;
  bytes = refl;
  lines = refl;
  so_far = ap (λ (n : ℕ). fitting n (entries_of table s)) (omega arith);
  room = omega arith;
  inside = omega arith;
}

module _ (table s out t : List ℕ) (at next : ℕ) (f : Filling table s out t at next) where
  same_length : length t ≡ length out
  same_length = ap length f.wrote ∙ length-sets out 0 (bytes_of_all f.done)

  -- nothing more fits, or nothing is left
  filled : fitting (length out - at) (entries_of table (drop next s)) ≡ [] → Fills (entries_of table s) out t (record { bytes = at; next = next })
  filled e =
      let d : f.done ≡ fitting (length out) (entries_of table s) = sym (append-nil f.done) ∙ ap (λ (l : List Entry). f.done ++ l) (sym e) ∙ f.so_far in
      record { wrote = rw d at f.wrote; bytes = rw d at f.bytes; next = rw d at f.lines }

  pub fill_ends : length s ≤ next → Fills (entries_of table s) out t (record { bytes = at; next = next })
  fill_ends h = filled (ap (λ (x : List ℕ). fitting (length out - at) (entries_of table x)) (drop_of_length-le s h) ∙ ap (λ (ls : List Line). fitting (length out - at) (map (entry_of table) ls)) lines_none ∙ fitting_nil (length out - at))

  module _ (r : LineEnd) (l : LineAt s next r) where
    abbrev entry : Entry
    entry = entry_of table (line (part s next (r.end - next)) (r.next - next))

    first : entries_of table (drop next s) ≡ entry ∷ entries_of table (drop r.next s)
    first = ap (map (entry_of table)) l.first

    pub fill_stops : {v : List ℕ} → EntryIs t v at (entry_bytes (answer_for table (part s next (r.end - next)))) None → Fills (entries_of table s) out v (record { bytes = at; next = next })
    unfolding EntryIs
    fill_stops e =
        subst (λ (x : List ℕ). Fills (entries_of table s) out x (record { bytes = at; next = next })) (sym e.1)
        (filled (ap (fitting (length out - at)) first ∙ fitting_stops (length out - at) entry _ (omega (arith, e.0, same_length, f.room))))

    pub fill_entry : {v : List ℕ} {to : ℕ} → EntryIs t v at (entry_bytes (answer_for table (part s next (r.end - next)))) (Some to) → Filling table s out v to r.next
    unfolding EntryIs
    fill_entry {v} {to} e =
        let n : length out - at - length entry.bytes ≡ length out - to = omega (arith, e.1) in
        record {
          done = f.done ++ (entry ∷ []);
          wrote = rw (bytes_more f.done entry) (sets_then out 0 at (bytes_of_all f.done) entry.bytes f.wrote (f.bytes ∙ omega arith) e.2);
          bytes = rw (bytes_more f.done entry) (omega (arith, e.1, f.bytes, length-append (bytes_of_all f.done) entry.bytes));
          lines = omega (arith, taken_more f.done entry, f.lines, l.further);
          so_far =
              append_assoc f.done (entry ∷ []) _
              ∙ ap (λ (es : List Entry). f.done ++ es)
              (sym (rw n at (fitting_next (length out - at) entry (entries_of table (drop r.next s)) (omega (arith, e.0, same_length)))) ∙ ap (fitting (length out - at)) (sym first))
              ∙ f.so_far;
          room = omega (arith, e.0, e.1, same_length);
          inside = l.within;
        }

-- ---- the call
pub table_ready : (table os : List ℕ) (k : ℕ) {c : Result Shape TableRefusal} {h : Shape} → table_answer table c ≡ read_table table → c ≡ Ok h → TableIndexed table os k c → TableReady table h os k
unfolding TableIndexed
table_ready table os k e f q = record { checked = sym e ∙ ap (table_answer table) f; indexed = subst (TableIndexed table os k) f q }

abbrev pub Answers : Result Page Refusal → List ℕ → List ℕ → List ℕ → List ℕ → ℕ → Type 0
Answers r lines table out t work = (answer_told r ≡ lines_told (add_numbers_to_lines lines table work (length out))) × (t ≡ out_after out (add_numbers_to_lines lines table work (length out)))

refused_told : {a b c d : ℕ} → a ≡ c → b ≡ d → c_page c d 0 ≡ c_page a b 0
refused_told e f = rw (e, f) refl

module _ (lines table out : List ℕ) (work : ℕ) where
  pub answer_short : work < 65536 → Answers (Err ShortWork) lines table out out work
  unfolding add_numbers_to_lines
  answer_short h = rw (lt-ltb work 65536 h) (refl, refl)

  module _ (h : 65536 ≤ work) {c : Result Shape TableRefusal} (e : table_answer table c ≡ read_table table) where
    pub answer_refused : {t : TableRefusal} {r : Refusal} → c ≡ Err t → r ≡ of_table t → Answers (Err r) lines table out out work
    unfolding add_numbers_to_lines
    answer_refused {t} {r} f g =
        let x : read_table table ≡ Refused t.cause t.at.0 = sym e ∙ ap (table_answer table) f in
        let (n, p) = table_told t in
        rw (le-ltb work 65536 h, x, g) (refused_told n p, refl)

    pub answer_page : {k : Shape} {t : List ℕ} {p : Page} → c ≡ Ok k → Fills (entries_of table lines) out t p → Answers (Ok p) lines table out t work
    unfolding add_numbers_to_lines
    answer_page {k} {t} {p} f q =
        let x : read_table table ≡ Fine (table_of table k) (length table) = sym e ∙ ap (table_answer table) f in
        rw (le-ltb work 65536 h, x, q.bytes, q.next) (refl, q.wrote)
