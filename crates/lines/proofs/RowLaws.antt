-- Laws of pages in a row (`specs/Pages.antt`): what a page leaves, and what a long output always holds. No contract cites this file. Assumes nothing.
use Prim.Native.Nat.{ℕ, ◌+◌, ◌-◌, ◌≤◌}
use mathlib.Core.Path.{◌≡◌, refl, sym, ap, ◌∙◌}
use mathlib.Core.Bool.{Bool, true, false, cond, ◌||◌}
use mathlib.Core.List.{List, [], ◌∷◌, ◌++◌, map, append_assoc}
use native.Mathlib.Omega.{arith}
use lib.Dec.{eqb, ltb, leb}
use lib.ListN.{length, drop, length-append}
use lib.Seq.{drop-drop}
use borrow.Author.Tests.{ltb-false}
use Rattle.edge.specs.Edge.{Edge, listing_bytes}
use Rattle.lattice.specs.Lattice.{overfull, most_bytes}
use Rattle.numbers.specs.Call.{Answer, listing, refused, finished, no_edges}
use Rattle.numbers.specs.Ready.{work_size}
use Rattle.numbers.proofs.Passed.{call_passed}
use Rattle.lines.specs.Lines.{newline, Line, line, longer, lines_of}
use Rattle.lines.specs.Pages.{answer_for, listing_of, Entry, entry_of, entries_of, fitting, bytes_of_all, taken}
use Rattle.lines.proofs.LineLaws.{lines_behind}
use Rattle.lines.proofs.PageLaws.{length_entry, fitting_next}

-- ---- what a page leaves: the lines of the bytes behind it
fitting_part : (table : List ℕ) (ls : List Line) (n : ℕ) (s : List ℕ) → lines_of s ≡ ls → let es = fitting n (map (entry_of table) ls) in
    bytes_of_all (map (entry_of table) ls) ≡ bytes_of_all es ++ bytes_of_all (entries_of table (drop (taken es) s))
unfolding fitting
fitting_part table [] n s e = sym (ap (λ (ls : List Line). bytes_of_all (map (entry_of table) ls)) e)
fitting_part table (l ∷ ls) n s e = go (leb (length (entry_of table l).bytes) n) (fitting_part table ls (n - length (entry_of table l).bytes) (drop l.size s) (lines_behind s l ls e))
  where
    fs : List Entry
    fs = fitting (n - length (entry_of table l).bytes) (map (entry_of table) ls)

    go : (b : Bool) → bytes_of_all (map (entry_of table) ls) ≡ bytes_of_all fs ++ bytes_of_all (entries_of table (drop (taken fs) (drop l.size s)))
        → bytes_of_all (map (entry_of table) (l ∷ ls)) ≡ bytes_of_all (cond b (entry_of table l ∷ fs) []) ++ bytes_of_all (entries_of table (drop (taken (cond b (entry_of table l ∷ fs) [])) s))
    go true h =
        ap (λ (x : List ℕ). (entry_of table l).bytes ++ x) (h ∙ ap (λ (x : List ℕ). bytes_of_all fs ++ bytes_of_all (entries_of table x)) (drop-drop (taken fs) l.size s))
        ∙ sym (append_assoc (entry_of table l).bytes (bytes_of_all fs) (bytes_of_all (entries_of table (drop (l.size + taken fs) s))))
    go false h = sym (ap (λ (ks : List Line). bytes_of_all (map (entry_of table) ks)) e)

pub page_part : (table s : List ℕ) (n : ℕ) → let es = fitting n (entries_of table s) in bytes_of_all (entries_of table s) ≡ bytes_of_all es ++ bytes_of_all (entries_of table (drop (taken es) s))
page_part table s n = fitting_part table (lines_of s) n s refl

-- ---- all lines take all bytes
pub all_taken : (table s : List ℕ) → taken (entries_of table s) ≡ length s
unfolding lines_of
all_taken table [] = refl
all_taken table (b ∷ s) = go (eqb b newline) (lines_of s) (all_taken table s)
  where
    go : (t : Bool) (ls : List Line) → taken (map (entry_of table) ls) ≡ length s → taken (map (entry_of table) (cond t (line [] 1 ∷ ls) (longer b ls))) ≡ length (b ∷ s)
    go true ls h = omega (arith, h)
    go false [] h = omega (arith, h)
    go false (l ∷ ls) h = omega (arith, h)

-- ---- 32,780 bytes hold any entry
finished_fits : (out : ℕ) (es : List Edge) {bytes : List ℕ} → finished out es ≡ listing bytes → length bytes ≤ out
finished_fits out es {bytes} x = go (overfull es) (ltb out (length (listing_bytes es))) refl x
  where
    go : (a b : Bool) → ltb out (length (listing_bytes es)) ≡ b → cond (a || b) (refused 8 0) (listing (listing_bytes es)) ≡ listing bytes → length bytes ≤ out
    go true b e x = absurd (let z : ◌≡◌ {A = ℕ} 0 1 = cc in omega arith)
    go false true e x = absurd (let z : ◌≡◌ {A = ℕ} 0 1 = cc in omega arith)
    go false false e x = let z : listing_bytes es ≡ bytes = cc in omega (arith, ltb-false out (length (listing_bytes es)) e, ap length z)

listing_short : (table w : List ℕ) (a : Answer) → answer_for table w ≡ a → length (listing_of a) ≤ most_bytes
listing_short table w (listing bytes) e = finished_fits most_bytes _ (call_passed false w table no_edges most_bytes bytes work_size e).ends
listing_short table w (refused n at) e = omega arith

pub entry_short : (table : List ℕ) (l : Line) → length (entry_of table l).bytes ≤ 32780
entry_short table l = omega (arith, length_entry (answer_for table l.text), listing_short table l.text (answer_for table l.text) refl)

-- where a line is left, such an output takes one
pub page_takes : (table : List ℕ) (n : ℕ) → 32780 ≤ n → (ls : List Line) → fitting n (map (entry_of table) ls) ≡ [] → ls ≡ []
page_takes table n h [] e = refl
page_takes table n h (l ∷ ls) e =
    let x = sym (fitting_next n (entry_of table l) (map (entry_of table) ls) (omega (arith, entry_short table l))) ∙ e in absurd (let z : ◌≡◌ {A = ℕ} 0 1 = cc in omega arith)

-- and an entry has bytes
pub bytes_none : (table : List ℕ) (ls : List Line) (n : ℕ) → bytes_of_all (fitting n (map (entry_of table) ls)) ≡ [] → fitting n (map (entry_of table) ls) ≡ []
unfolding fitting
bytes_none table [] n e = refl
bytes_none table (l ∷ ls) n e = go (leb (length (entry_of table l).bytes) n) e
  where
    fs : List Entry
    fs = fitting (n - length (entry_of table l).bytes) (map (entry_of table) ls)

    go : (b : Bool) → bytes_of_all (cond b (entry_of table l ∷ fs) []) ≡ [] → cond b (entry_of table l ∷ fs) [] ≡ []
    go true x = absurd (omega (arith, ap length x, length-append (entry_of table l).bytes (bytes_of_all fs), length_entry (answer_for table l.text)))
    go false x = refl
