-- Laws of entries and pages (`specs/Pages.antt`). No contract cites this file.
-- In order: as many entries as fit, entry by entry; one entry more; the entries of lines; the length of an entry. Assumes nothing.
use Prim.Native.Nat.{ℕ, ◌+◌, ◌-◌, ◌≤◌, ◌<◌}
use mathlib.Core.Path.{◌≡◌, refl, sym, ap, ◌∙◌}
use mathlib.Core.List.{List, [], ◌∷◌, ◌++◌, append_assoc, append-nil}
use native.Mathlib.Omega.{arith}
use lib.ListN.{length, length-append}
use borrow.Author.Tests.{le-leb, lt-leb}
use Rattle.fields.specs.Fields.{bytes_of}
use Rattle.fields.proofs.FieldsLaws.{length-bytes_of}
use Rattle.answers.specs.declared.CStatus.{CStatus}
use Rattle.answers.specs.Answers.{told}
use Rattle.call.specs.Answers.{brief}
use Rattle.numbers.specs.Call as numbers
use Rattle.lines.specs.Pages.{listing_of, status_bytes, entry_bytes, Entry, fitting, bytes_of_all, taken}

-- ---- as many entries as fit
pub fitting_next : (n : ℕ) (e : Entry) (es : List Entry) → length e.bytes ≤ n → fitting n (e ∷ es) ≡ e ∷ fitting (n - length e.bytes) es
unfolding fitting
fitting_next n e es h = rw (le-leb (length e.bytes) n h)

pub fitting_stops : (n : ℕ) (e : Entry) (es : List Entry) → n < length e.bytes → fitting n (e ∷ es) ≡ []
unfolding fitting
fitting_stops n e es h = rw (lt-leb (length e.bytes) n h)

pub fitting_nil : (n : ℕ) → fitting n [] ≡ []
unfolding fitting
fitting_nil n = refl

-- ---- one entry more
pub bytes_more : (es : List Entry) (e : Entry) → bytes_of_all (es ++ (e ∷ [])) ≡ bytes_of_all es ++ e.bytes
bytes_more [] e = append-nil e.bytes
bytes_more (d ∷ es) e = ap (λ (x : List ℕ). d.bytes ++ x) (bytes_more es e) ∙ sym (append_assoc d.bytes (bytes_of_all es) e.bytes)

pub taken_more : (es : List Entry) (e : Entry) → taken (es ++ (e ∷ [])) ≡ taken es + e.takes
taken_more [] e = omega arith
taken_more (d ∷ es) e = omega (arith, taken_more es e)

-- ---- the length of an entry
pub length_status : (t : CStatus) → length (status_bytes t) ≡ 12
length_status t = omega (arith, length-append (bytes_of 4 t.status) (bytes_of 8 t.at), length-bytes_of 4 t.status, length-bytes_of 8 t.at)

pub length_entry : (a : numbers.Answer) → length (entry_bytes a) ≡ 12 + length (listing_of a)
unfolding entry_bytes
length_entry a = omega (arith, length-append (status_bytes (told (brief a))) (listing_of a), length_status (told (brief a)))
