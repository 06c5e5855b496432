-- Laws of markers and signs by their bytes (`specs/Marks.antt`), for this crate's proofs and its callers'.
-- In order: a well-formed text stands at an offset as at its place; the longest of a list; the lists of a checked table are legal; a list's walk.
use mathlib.Core.Path.{◌≡◌, refl, sym, ap, ◌∙◌}
use mathlib.Core.Bool.{Bool, true, false, cond}
use mathlib.Core.List.{List, [], ◌∷◌, ◌++◌, append_assoc}
use Prim.Native.Nat.{ℕ, zero, suc, ◌+◌, ◌-◌, ◌%◌, ◌≤◌, ◌<◌}
use native.Mathlib.Omega.{arith}
use native.Mathlib.Decide.{dec_le}
use lib.ListN.{length, take, drop, get_or, take-append-drop, length-append, length-map}
use lib.Seq.{take-append_seam, drop-append_seam, get_or-drop, get_or-take}
use lib.Dec.{leb, ltb, eqb}
use Rattle.std.specs.Ordering.{nat_cmp, ord_max}
use Rattle.std.proofs.lemmas.Bool.Decides.{nat_tests}
use borrow.Author.Tests.{le-leb, lt-leb, leb-true, ltb-true}
use Rattle.fields.specs.Part.{part}
use Rattle.text.specs.Bytes.{same}
use Rattle.text.specs.Line.{walked}
use Rattle.text.specs.declared.Walked.{Walked}
use Rattle.text.proofs.line.LineLaws.{count_whole}
use Rattle.text.specs.Sequence.{encode}
use Rattle.text.specs.Text.{chars, left, well_formed, encodes, offset_of, part_of}
use Rattle.text.proofs.BytesLaws.{same_refl, same_true}
use Rattle.text.proofs.EncodeLaws.{encode_pos}
use Rattle.text.proofs.RowLaws.{and-true}
use Rattle.text.proofs.TextLaws.{text_split, well_formed_split, chars_append, chars_scalars, encodes_append, encodes_chars, encodes_well_formed, scalars_drop}
use Rattle.text.proofs.PlaceLaws.{offset_part, part_bytes}
use Rattle.table.specs.Table.{Text, Table}
use Rattle.table.specs.Layout.{Field, Is, Fault, number, text, list_at}
use Rattle.table.specs.Check.{Fine, Refused, item, legal_mark, read_texts, read_list, read_records, read_table, bad_layout, bad_content}
use Rattle.table.proofs.LookupLaws.{then_fine}
use Rattle.pass_list.specs.StoredEdge.{Every, nil, cons}
use Rattle.table.specs.Answers.{table_of}
use Rattle.table.specs.declared.shape.Shape.{Shape}
use Rattle.numbers.specs.Ready.{Ready}
use Rattle.numbers.specs.Fractions.{stands_at, larger, longest, longer, marker_at}
use Rattle.numbers.specs.Signs.{ends_at}
use Rattle.numbers.specs.Folded.{fold, folded}
use Rattle.numbers.proofs.FoldLaws.{folded_scalars, folded_drop, stands_counts}
use Rattle.markers.specs.Marks.{folded_bytes, bytes_at, LastDiffers, size_at, longest_at, sign_of, Formed}
use Rattle.markers.proofs.FoldedBytesLaws.{folded_encodes, last_of, last_at, low_counts}
use Rattle.std.specs.Prelude.{Some, None}

-- ---- a test and another that say the same
both_ways : (a b : Bool) → (a ≡ true → b ≡ true) → (b ≡ true → a ≡ true) → a ≡ b
both_ways true b f g = sym (f refl)
both_ways false true f g = g refl
both_ways false false f g = refl

-- ---- a well-formed text m stands in front of the bytes t as its characters stand in front of theirs
module _ (t m : List ℕ) (h : well_formed m ≡ true) where
  by_chars : take (length m) t ≡ m → take (length (chars m)) (chars t) ≡ chars m
  by_chars e =
      let q : t ≡ m ++ drop (length m) t = sym (take-append-drop (length m) t) ∙ ap (λ (x : List ℕ). x ++ drop (length m) t) e in
      ap (λ (x : List ℕ). take (length (chars m)) (chars x)) q
      ∙ ap (take (length (chars m))) (chars_append m h (drop (length m) t))
      ∙ take-append_seam (chars m) _

  by_bytes_lem : take (length (chars m)) (chars t) ≡ chars m → take (length m) t ≡ m
  by_bytes_lem e =
      let rest = drop (length (chars m)) (chars t) in
      let q : chars t ≡ chars m ++ rest = sym (take-append-drop (length (chars m)) (chars t)) ∙ ap (λ (x : List ℕ). x ++ rest) e in
      let r : t ≡ m ++ (encodes rest ++ left t) = text_split t ∙ ap (λ (x : List ℕ). encodes x ++ left t) q ∙ rw (encodes_append, append_assoc, ← well_formed_split m h) in
      ap (take (length m)) r ∙ take-append_seam m _

  stands_front : same (take (length m) t) m ≡ same (take (length (chars m)) (chars t)) (chars m)
  stands_front =
      both_ways _ _
      (λ e. rw (by_chars (same_true _ _ e)) (same_refl (chars m)))
      (λ e. rw (by_bytes_lem (same_true _ _ e)) (same_refl m))

-- it stands at the offset of a place of a well-formed line as at the place: the bytes of both count as those of the characters that they count as
module _ (s : List ℕ) (w : well_formed s ≡ true) (p : ℕ) (m : List ℕ) where
  behind_place : drop (offset_of s p) s ≡ encodes (drop p (chars s))
  behind_place =
      ap (drop (offset_of s p)) (well_formed_split s w ∙ ap encodes (sym (take-append-drop p (chars s))) ∙ encodes_append (take p (chars s)) (drop p (chars s)))
      ∙ drop-append_seam (encodes (take p (chars s))) (encodes (drop p (chars s)))

  pub stands_place : well_formed m ≡ true → bytes_at s (offset_of s p) m ≡ stands_at (chars s) p m
  unfolding stands_at
  stands_place f =
      let rest = folded (drop p (chars s)) in
      let mark = folded (chars m) in
      let rest-scalars = folded_scalars (drop p (chars s)) (scalars_drop p (chars s) (chars_scalars s)) in
      let mark-scalars = folded_scalars (chars m) (chars_scalars m) in
      let rest_is : folded_bytes (drop (offset_of s p) s) ≡ encodes rest = ap folded_bytes behind_place ∙ folded_encodes (drop p (chars s)) (scalars_drop p (chars s) (chars_scalars s)) in
      let mark_is : folded_bytes m ≡ encodes mark = ap folded_bytes (well_formed_split m f) ∙ folded_encodes (chars m) (chars_scalars m) in
      rw (rest_is, mark_is)
      (stands_front (encodes rest) (encodes mark) (encodes_well_formed mark mark-scalars)
      ∙ rw (encodes_chars rest rest-scalars, encodes_chars mark mark-scalars, length-map (chars m) fold, folded_drop p (chars s)))

  pub stands_told : well_formed m ≡ true → {b : Bool} {at : ℕ} → at ≡ offset_of s p → b ≡ bytes_at s at m → b ≡ stands_at (chars s) p m
  stands_told f q e = e ∙ ap (λ (x : ℕ). bytes_at s x m) q ∙ stands_place f

-- ---- the longest of a list
pub longest_place : (s : List ℕ) → well_formed s ≡ true → (p : ℕ) (ms : List Text) → Formed ms → longest_at s (offset_of s p) ms ≡ longest (chars s) p ms
unfolding longest_at longest size_at
longest_place s w p [] nil = refl
longest_place s w p (m ∷ ms) (cons f fs) = rw (stands_place s w p m f, longest_place s w p ms fs)

-- ---- the larger of two lengths
module _ (a b : ℕ) where
  pub larger_le : a ≤ b → larger a b ≡ b
  larger_le h = simp (le-leb a b h)

  pub larger_lt : b < a → larger a b ≡ a
  larger_lt h = simp (lt-leb a b h)

-- as std's `max` says it
pub max_larger : (a b : ℕ) → ord_max nat_cmp a b ≡ larger a b
max_larger a b = grind (arith, nat_tests)

larger_zero : (a : ℕ) → larger a 0 ≡ a
larger_zero zero = refl
larger_zero (suc a) = larger_lt (suc a) 0 (omega arith)

larger_assoc : (a b c : ℕ) → larger (larger a b) c ≡ larger a (larger b c)
larger_assoc a b c = go (dec_le a b) (dec_le b c)
  where
    go : Dec (a ≤ b) → Dec (b ≤ c) → larger (larger a b) c ≡ larger a (larger b c)
    go (yes h) (yes k) = ap (λ (x : ℕ). larger x c) (larger_le a b h) ∙ larger_le b c k ∙ sym (ap (larger a) (larger_le b c k) ∙ larger_le a c (omega arith))
    go (yes h) (no k) = ap (λ (x : ℕ). larger x c) (larger_le a b h) ∙ larger_lt b c (omega arith) ∙ sym (ap (larger a) (larger_lt b c (omega arith)) ∙ larger_le a b h)
    go (no h) (yes k) = ap (λ (x : ℕ). larger x c) (larger_lt a b (omega arith)) ∙ sym (ap (larger a) (larger_le b c k))
    go (no h) (no k) =
        ap (λ (x : ℕ). larger x c) (larger_lt a b (omega arith)) ∙ larger_lt a c (omega arith)
        ∙ sym (ap (larger a) (larger_lt b c (omega arith)) ∙ larger_lt a b (omega arith))

-- a text of the table's bytes, as the code cuts it out
pub cut_is : (s : List ℕ) (at n : ℕ) → take (at + n - at) (drop at s) ≡ part s at n
unfolding part
cut_is s at n = let k : at + n - at ≡ n = omega arith in rw k

module _ (s : List ℕ) (at : ℕ) (m : Text) {x : Text} (p : x ≡ m) {b : Bool} (e : b ≡ bytes_at s at x) where
  pub size_stands : b ≡ true → {w : Walked} → w ≡ walked x (length x) → w.count ≡ size_at s at m
  unfolding size_at
  size_stands t f = ap (λ (v : Walked). v.count) f ∙ count_whole x ∙ ap (λ (y : Text). length (chars y)) p ∙ rw (ap (bytes_at s at) (sym p) ∙ sym e ∙ t)

  pub size_none : b ≡ false → 0 ≡ size_at s at m
  unfolding size_at
  size_none t = rw (ap (bytes_at s at) (sym p) ∙ sym e ∙ t)

-- ---- a walk over the texts of a list: best of those passed, and those that are left
module _ (line : List ℕ) (at : ℕ) (all : List Text) where
  -- the longest of those passed and those that are left is the longest of all
  abbrev pub SoFar : ℕ → List Text → Type 0
  SoFar best left = larger best (longest_at line at left) ≡ longest_at line at all

  module _ (best : ℕ) {left : List Text} (inv : SoFar best left) where
    pub longest_turn : {m : Text} {more : List Text} {size next : ℕ} → left ≡ m ∷ more → size ≡ size_at line at m → next ≡ ord_max nat_cmp best size → SoFar next more
    unfolding longest_at
    longest_turn {m} {more} {size} {next} e d g =
        ap (λ (x : ℕ). larger x (longest_at line at more)) (g ∙ max_larger best size ∙ ap (larger best) d)
        ∙ larger_assoc best (size_at line at m) (longest_at line at more)
        ∙ ap (λ (ts : List Text). larger best (longest_at line at ts)) (sym e)
        ∙ inv

    pub longest_ends : left ≡ [] → best ≡ longest_at line at all
    unfolding longest_at
    longest_ends e = sym (larger_zero best) ∙ ap (λ (ts : List Text). larger best (longest_at line at ts)) (sym e) ∙ inv

-- ---- the texts of a checked table's lists are legal: well-formed, and not empty
abbrev pub Legal : List Text → Type 0
Legal = Every (λ m. legal_mark m ≡ true)

pub legal_formed : (m : Text) → legal_mark m ≡ true → well_formed m ≡ true
unfolding legal_mark
legal_formed m h = (and-true (ltb 0 (length m)) (well_formed m) h).1

-- so each has a character
pub legal_count : (m : Text) → legal_mark m ≡ true → 0 < length (chars m)
unfolding legal_mark encodes
legal_count m h =
    let k = and-true (ltb 0 (length m)) (well_formed m) h in
    go (chars m) (ltb-true 0 (length m) k.0) (well_formed_split m k.1)
  where
    go : (cs : List ℕ) → 0 < length m → m ≡ encodes cs → 0 < length cs
    go [] p e = absurd (omega (arith, ap length e))
    go (c ∷ cs) p e = omega arith

pub all_formed : (ms : List Text) → Legal ms → Formed ms
all_formed [] nil = nil
all_formed (m ∷ ms) (cons h hs) = cons (legal_formed m h) (all_formed ms hs)

mark_legal : (at : ℕ) (f : Field Text) {m : Text} {next : ℕ} → item at legal_mark f ≡ Fine m next → legal_mark m ≡ true
unfolding item
mark_legal at Fault e = let z : ◌≡◌ {A = ℕ} 0 1 = cc in absurd (omega arith)
mark_legal at (Is b k) {m} {next} e = go (legal_mark b) refl e
  where
    go : (t : Bool) → legal_mark b ≡ t → cond t (Fine b k) (Refused bad_content at) ≡ Fine m next → legal_mark m ≡ true
    go true t f = let q : b ≡ m = cc in rw (← q) t
    go false t f = let z : ◌≡◌ {A = ℕ} 0 1 = cc in absurd (omega arith)

texts_legal : (n : ℕ) (s : List ℕ) (at : ℕ) {ts : List Text} {end : ℕ} → read_texts n s at ≡ Fine ts end → Legal ts
unfolding read_texts
texts_legal zero s at {ts} e = let q : [] ≡ ts = cc in rw (← q) nil
texts_legal (suc n) s at {ts} e =
    let one = then_fine (item at legal_mark (text s at)) _ e in
    let more = then_fine (read_texts n s one.next) _ one.rest in
    let q : one.value ∷ more.value ≡ ts = cc in
    rw (← q) (cons (mark_legal at (text s at) one.first) (texts_legal n s one.next more.first))

list_legal : (s : List ℕ) (at : ℕ) {ts : List Text} {end : ℕ} → read_list s at ≡ Fine ts end → Legal ts
unfolding read_list
list_legal s at e = let count = then_fine (item at (λ n. true) (number 1 s at)) _ e in texts_legal count.value s count.next count.rest

pub record Marks (t : Table) : Type 0 where
  pub percentages : Legal t.percentage_markers
  pub connectors : Legal t.fraction_connectors
  pub plus : Legal t.plus_signs
  pub minus : Legal t.minus_signs

pub table_marks : (s : List ℕ) {t : Table} {end : ℕ} → read_table s ≡ Fine t end → Marks t
unfolding read_table
table_marks s {t} {end} e =
    let count = then_fine (item 0 (λ n. true) (number 2 s 0)) _ e in
    let p = then_fine (read_list s count.next) _ count.rest in
    let f = then_fine (read_list s p.next) _ p.rest in
    let u = then_fine (read_list s f.next) _ f.rest in
    let m = then_fine (read_list s u.next) _ u.rest in
    let rs = then_fine (read_records count.value 0 s m.next) _ m.rest in
    go (record { percentage_markers = p.value; fraction_connectors = f.value; plus_signs = u.value; minus_signs = m.value; records = rs.value }) rs.next (eqb rs.next (length s)) rs.rest
    (record { percentages = list_legal s _ p.first; connectors = list_legal s _ f.first; plus = list_legal s _ u.first; minus = list_legal s _ m.first })
  where
    go : (x : Table) (k : ℕ) (b : Bool) → cond b (Fine x k) (Refused bad_layout k) ≡ Fine t end → Marks x → Marks t
    go x k true g h = let q : x ≡ t = cc in rw (← q) h
    go x k false g h = let z : ◌≡◌ {A = ℕ} 0 1 = cc in absurd (omega arith)

-- ---- the marker at a place
pub marker_is : (line table : List ℕ) (h : Shape) {n : ℕ} → Ready line table h n → (p : ℕ) → p ≤ length (chars line) → {at a b : ℕ}
    → at ≡ offset_of line p → a ≡ longest_at line at (list_at table h.percentages) → b ≡ longest_at line at (list_at table h.connectors)
    → longer a b ≡ marker_at (table_of table h) (chars line) p
unfolding marker_at table_of
marker_is line table h r p k e f g =
    let m = table_marks table r.checked in
    rw (f, g, e, longest_place line r.formed p (list_at table h.percentages) (all_formed _ m.percentages), longest_place line r.formed p (list_at table h.connectors) (all_formed _ m.connectors))

-- ---- a sign before a place
module _ (w : List ℕ) (p : ℕ) (m : Text) {k : ℕ} (e : k ≡ length (chars m)) where
  module _ (h : k ≤ p) {b : Bool} (s : b ≡ stands_at w (p - k) m) where
    is_there : ends_at w p m ≡ b
    is_there = rw (le-leb (length (chars m)) p (omega arith), ← e) (sym s)

    pub sign_there : b ≡ true → Some k ≡ sign_of w p m
    sign_there t = rw (is_there, t) (rw e)

    pub sign_other : b ≡ false → None ≡ sign_of w p m
    sign_other t = rw (is_there, t)

-- it is none, where its last byte and the last before the place differ in their lowest five bits
some_encodes : (cs : List ℕ) → 0 < length cs → 0 < length (encodes cs)
unfolding encodes
some_encodes [] h = absurd (omega arith)
some_encodes (c ∷ cs) h = omega (arith, encode_pos c, length-append (encode c) (encodes cs))

module _ (s : List ℕ) (p : ℕ) (m : Text) (f : well_formed m ≡ true) where
  some_chars : 0 < length m → 0 < length (chars m)
  unfolding encodes
  some_chars h = go (chars m) (well_formed_split m f)
    where
      go : (cs : List ℕ) → m ≡ encodes cs → 0 < length cs
      go [] e = absurd (omega (arith, ap length e))
      go (c ∷ cs) e = omega arith

  last_low : 0 < length m → length (chars m) ≤ p → stands_at (chars s) (p - length (chars m)) m ≡ true → get_or s (offset_of s p - 1) 0 % 32 ≡ get_or m (length m - 1) 0 % 32
  last_low n l t =
      let a = p - length (chars m) in
      let size : p - a ≡ length (chars m) = omega arith in
      let same-counts : folded (take (p - a) (drop a (chars s))) ≡ folded (chars m) = rw size (stands_counts (chars s) a m t) in
      let part = part_of s a p in
      let long = some_encodes (take (p - a) (drop a (chars s))) (omega (arith, some_chars n, sym (length-map (take (p - a) (drop a (chars s))) fold) ∙ ap length same-counts ∙ length-map (chars m) fold)) in
      let end = offset_part s a p (omega arith) in
      let between : length part ≡ offset_of s p - offset_of s a = omega (arith, end) in
      let bytes : take (length part) (drop (offset_of s a) s) ≡ part = ap (λ (k : ℕ). take k (drop (offset_of s a) s)) between ∙ part_bytes s a p (omega arith) in
      let place : offset_of s a + (length part - 1) ≡ offset_of s p - 1 = omega (arith, end) in
      let last : get_or s (offset_of s p - 1) 0 ≡ get_or part (length part - 1) 0 =
      ap (λ (i : ℕ). get_or s i 0) (sym place) ∙ sym (get_or-drop (offset_of s a) s (length part - 1) 0)
      ∙ sym (get_or-take (length part) (drop (offset_of s a) s) (length part - 1) 0 (omega arith)) ∙ ap (λ (x : List ℕ). get_or x (length part - 1) 0) bytes in
      let mark : get_or m (length m - 1) 0 ≡ last_of 0 (encodes (chars m)) = last_at m ∙ ap (last_of 0) (well_formed_split m f) in
      rw (last, last_at part, mark) (low_counts (take (p - a) (drop a (chars s))) (chars m) same-counts 0 0 refl)

  pub sign_not_before : {end : ℕ} → end ≡ offset_of s p → LastDiffers s end m → None ≡ sign_of (chars s) p m
  sign_not_before {end} e n = go (ends_at (chars s) p m) refl
    where
      go : (b : Bool) → ends_at (chars s) p m ≡ b → None ≡ sign_of (chars s) p m
      go false t = rw t
      go true t =
          let k = and-true (leb (length (chars m)) p) (stands_at (chars s) (p - length (chars m)) m) t in
          absurd (n.1 (ap (λ (x : ℕ). get_or s (x - 1) 0 % 32) e ∙ last_low n.0 (leb-true (length (chars m)) p k.0) k.1))
