-- Laws of a record of the table that could be read: where its strings stand, that they are short, and that what its map leaves out is absent.
-- In order: what a field says; a string, and one that may be absent; the numbers; the fields; a record. Assumes nothing.
use mathlib.Core.Path.{◌≡◌, refl, sym, subst}
use mathlib.Core.Bool.{Bool, true, false, true≢false}
use mathlib.Core.List.{List, [], ◌∷◌}
use mathlib.Core.Option.{Option, none, some}
use Prim.Native.Nat.{ℕ, zero, suc, ◌+◌, ◌≤◌, ◌<◌}
use native.Mathlib.Omega.{arith}
use native.Mathlib.Decide.{dec_le}
use lib.ListN.{length, take, drop, get_or}
use Rattle.fields.specs.Fields.{le_at}
use Rattle.fields.specs.Part.{part}
use Rattle.table.specs.Table.{Text, Record}
use Rattle.table.specs.Layout.{Field, Is, Fault, Numbers, map_field, number, fraction, text, optional, bit, read_numbers, read_fields, read_record}
use Rattle.table.proofs.LayoutLaws.{OnField, on_then, text_missing, text_long, text_cut, text_is, record_cut, record_bit_7, record_is}

pub take_short : (n : ℕ) (cs : List ℕ) → length (take n cs) ≤ n
take_short zero cs = omega arith
take_short (suc n) [] = omega arith
take_short (suc n) (c ∷ cs) = omega (arith, take_short n cs)

-- ---- what a field says of its value and of the offset behind it, where it has one
abbrev Any : {A : Type 0} → A → ℕ → Type 0
Any a next = Unit {0}

says_any : {A : Type 0} (f : Field A) → OnField Any f
says_any (Is a next) = tt
says_any Fault = tt

says_at : {A : Type 0} (P : A → ℕ → Type 0) {f : Field A} {a : A} {next : ℕ} → OnField P f → f ≡ Is a next → P a next
says_at P h e = subst (OnField P) e h

-- ---- a string: its length stands before it
pub record StringAt (s : List ℕ) (at : ℕ) (t : Text) (next : ℕ) : Type 0 where
  pub short : get_or s at 0 ≤ 60
  pub is : t ≡ part s (at + 1) (get_or s at 0)
  pub ends : next ≡ at + 1 + get_or s at 0
  pub within : at + 1 + get_or s at 0 ≤ length s

text_says : (s : List ℕ) (at : ℕ) → OnField (StringAt s at) (text s at)
text_says s at = there (dec_le (length s) at)
  where
    fault : text s at ≡ Fault → OnField (StringAt s at) (text s at)
    fault e = subst (OnField (StringAt s at)) (sym e) tt

    whole : at < length s → get_or s at 0 ≤ 60 → Dec (at + 1 + get_or s at 0 ≤ length s) → OnField (StringAt s at) (text s at)
    whole h k (yes l) = subst (OnField (StringAt s at)) (sym (text_is s at h k l)) (record { short = k; is = refl; ends = refl; within = l })
    whole h k (no l) = fault (text_cut s at h k (omega arith))

    short : at < length s → Dec (get_or s at 0 ≤ 60) → OnField (StringAt s at) (text s at)
    short h (yes k) = whole h k (dec_le (at + 1 + get_or s at 0) (length s))
    short h (no k) = fault (text_long s at h (omega arith))

    there : Dec (length s ≤ at) → OnField (StringAt s at) (text s at)
    there (yes h) = fault (text_missing s at h)
    there (no h) = short (omega arith) (dec_le (get_or s at 0) 60)

string_short : {s : List ℕ} {at : ℕ} {t : Text} {next : ℕ} → StringAt s at t next → length t ≤ 60
unfolding part
string_short {s} {at} h = rw h.is (omega (arith, h.short, take_short (get_or s at 0) (drop (at + 1) s)))

-- one that is there where b holds
abbrev MayAt : Bool → List ℕ → ℕ → Option Text → ℕ → Type 0
MayAt true s at o next = (t : Text) × (o ≡ some t) × StringAt s at t next
MayAt false s at o next = o ≡ none

opt_says : (b : Bool) (s : List ℕ) (at : ℕ) → OnField (MayAt b s at) (optional b text s at)
unfolding optional
opt_says false s at = refl
opt_says true s at = go (text s at) (text_says s at)
  where
    go : (f : Field Text) → OnField (StringAt s at) f → OnField (MayAt true s at) (map_field some f)
    go (Is t next) h = (t, refl, h)
    go Fault h = tt

abbrev pub AtMost : Option Text → Type 0
AtMost none = Unit {0}
AtMost (some t) = length t ≤ 60

may_short : (b : Bool) (s : List ℕ) (at : ℕ) (o : Option Text) (next : ℕ) → MayAt b s at o next → AtMost o
may_short true s at o next (t, e, h) = subst AtMost (sym e) (string_short h)
may_short false s at o next e = subst AtMost (sym e) tt

-- ---- the numbers: no fraction where the map has none
absent_says : {A : Type 0} (b : Bool) (p : List ℕ → ℕ → Field A) (s : List ℕ) (at : ℕ) → OnField (λ o next. b ≡ false → o ≡ none) (optional b p s at)
unfolding optional
absent_says false p s at = λ e. refl
absent_says true p s at = go (p s at)
  where
    go : {A : Type 0} (f : Field A) → OnField (λ o next. true ≡ false → o ≡ none) (map_field some f)
    go (Is a next) = λ e. absurd (true≢false e)
    go Fault = tt

abbrev Ratio : ℕ → Numbers → ℕ → Type 0
Ratio m n next = bit m 2 ≡ false → n.fraction ≡ none

numbers_say : (m : ℕ) (s : List ℕ) (at : ℕ) → OnField (Ratio m) (read_numbers m s at)
unfolding read_numbers
numbers_say m s at =
    on_then Any (Ratio m) (optional (bit m 1) (number 8) s at) _ (says_any (optional (bit m 1) (number 8) s at)) (λ value at u.
    on_then (λ o next. bit m 2 ≡ false → o ≡ none) (Ratio m) (optional (bit m 2) fraction s at) _ (absent_says (bit m 2) fraction s at) (λ ratio at h.
    on_then Any (Ratio m) (optional (bit m 3) (number 8) s at) _ (says_any (optional (bit m 3) (number 8) s at)) (λ base at u.
    on_then Any (Ratio m) (optional (bit m 4) (number 8) s at) _ (says_any (optional (bit m 4) (number 8) s at)) (λ mult at u. h))))

-- ---- the fields behind the map m, from the offset at on
record Fields (m : ℕ) (s : List ℕ) (at : ℕ) (r : Record) (next : ℕ) : Type 0 where
  rom_at : ℕ
  numbers_at : ℕ
  script_offset : ℕ
  type : StringAt s at r.type rom_at
  rom : MayAt (bit m 0) s rom_at r.rom numbers_at
  fraction : bit m 2 ≡ false → r.fraction ≡ none
  script : MayAt (bit m 5) s script_offset r.script next

fields_say : (c m : ℕ) (s : List ℕ) (at : ℕ) → OnField (Fields m s at) (read_fields c m s at)
unfolding read_fields
fields_say c m s at =
    on_then (StringAt s at) (Fields m s at) (text s at) _ (text_says s at) (λ type b h.
    on_then (MayAt (bit m 0) s b) (Fields m s at) (optional (bit m 0) text s b) _ (opt_says (bit m 0) s b) (λ rom d k.
    on_then (Ratio m) (Fields m s at) (read_numbers m s d) _ (numbers_say m s d) (λ numbers e n.
    on_then (MayAt (bit m 5) s e) (Fields m s at) (optional (bit m 5) text s e) _ (opt_says (bit m 5) s e) (λ script next l.
    record { rom_at = b; numbers_at = d; script_offset = e; type = h; rom = k; fraction = n; script = l }))))

-- ---- a record
record_says : (s : List ℕ) (at : ℕ) → OnField (Fields (get_or s (at + 4) 0) s (at + 5)) (read_record s at)
record_says s at = there (dec_le (at + 5) (length s))
  where
    fault : read_record s at ≡ Fault → OnField (Fields (get_or s (at + 4) 0) s (at + 5)) (read_record s at)
    fault e = subst (OnField (Fields (get_or s (at + 4) 0) s (at + 5))) (sym e) tt

    plain : at + 5 ≤ length s → Dec (128 ≤ get_or s (at + 4) 0) → OnField (Fields (get_or s (at + 4) 0) s (at + 5)) (read_record s at)
    plain h (yes k) = fault (record_bit_7 s at h k)
    plain h (no k) = subst (OnField (Fields (get_or s (at + 4) 0) s (at + 5))) (record_is s at h refl (omega arith) refl) (fields_say (le_at s at 4) (get_or s (at + 4) 0) s (at + 5))

    there : Dec (at + 5 ≤ length s) → OnField (Fields (get_or s (at + 4) 0) s (at + 5)) (read_record s at)
    there (yes h) = plain h (dec_le 128 (get_or s (at + 4) 0))
    there (no h) = fault (record_cut s at (omega arith))

pub record Strings (r : Record) : Type 0 where
  pub type : length r.type ≤ 60
  pub rom : AtMost r.rom
  pub script : AtMost r.script

pub at_most : {o : Option Text} {t : Text} → AtMost o → o ≡ some t → length t ≤ 60
at_most h e = subst AtMost e h

-- the offset behind the type of the record at an offset
abbrev pub type_end : List ℕ → ℕ → ℕ
type_end s at = at + 6 + get_or s (at + 5) 0

-- a string whose length stands at an offset of s lies within
pub record Lies (s : List ℕ) (at : ℕ) (t : Text) : Type 0 where
  pub is : t ≡ part s (at + 1) (get_or s at 0)
  pub within : at + 1 + get_or s at 0 ≤ length s

module _ (s : List ℕ) (at : ℕ) {r : Record} {next : ℕ} (e : read_record s at ≡ Is r next) where
  fields : Fields (get_or s (at + 4) 0) s (at + 5) r next
  fields = says_at (Fields (get_or s (at + 4) 0) s (at + 5)) (record_says s at) e

  pub record_short : Strings r
  record_short =
      let f = fields in
      let m = get_or s (at + 4) 0 in
      record {
        type = string_short f.type;
        rom = may_short (bit m 0) s f.rom_at r.rom f.numbers_at f.rom;
        script = may_short (bit m 5) s f.script_offset r.script next f.script;
      }

  one : at + 5 + 1 ≡ at + 6
  one = omega arith

  pub type_lies : (r.type ≡ part s (at + 6) (get_or s (at + 5) 0)) × (type_end s at ≤ length s)
  type_lies = let f = fields.type in (rw one at f.is, rw one at f.within)

  behind_type : fields.rom_at ≡ type_end s at
  behind_type = rw one at fields.type.ends

  pub rom_lies : bit (get_or s (at + 4) 0) 0 ≡ true → (t : Text) × (r.rom ≡ some t) × Lies s (type_end s at) t
  rom_lies b =
      let f = fields in
      let (t, is, h) = subst (λ (b : Bool). MayAt b s f.rom_at r.rom f.numbers_at) b f.rom in
      (t, is, subst (λ (k : ℕ). Lies s k t) behind_type (record { is = h.is; within = h.within }))

  pub rom_absent : bit (get_or s (at + 4) 0) 0 ≡ false → r.rom ≡ none
  rom_absent b = let f = fields in subst (λ (b : Bool). MayAt b s f.rom_at r.rom f.numbers_at) b f.rom

  pub fraction_absent : bit (get_or s (at + 4) 0) 2 ≡ false → r.fraction ≡ none
  fraction_absent b = fields.fraction b
