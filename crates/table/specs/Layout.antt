-- The table's bytes as 01 lays them out ("Table", "Record"): fields, strings and records at an offset. Definitions only.
--     Field A          what reading a field gives: its value with the offset behind it, or Fault where its layout is at fault
--     number w s at    a number of w bytes
--     max_string       the most bytes of a string
--     text s at        a string: a length byte of at most 60, and as many bytes
--     optional b p     the field that p reads where b holds; otherwise no bytes and no value
--     bit m i          bit i of the map m
--     read_record s at  the record at an offset, whatever its content
--     texts_at n s at, records_at n s at   n strings, n records from an offset on, as far as their layout holds
use Rattle.std.specs.Prelude.{ℕ, zero, suc, ◌+◌, ◌/◌, ◌%◌, ◌^◌, Bool, cond, List, [], ◌∷◌, length, leb, ltb, eqb}
use Rattle.std.proofs.Math.Option.{Option, none, some}
use Rattle.fields.specs.Fields.{le_at}
use Rattle.fields.specs.Part.{part}
use Rattle.table.specs.Table.{Text, Record}

pub data Field (A : Type 0) : Type 0 where
  Is : A → ℕ → Field A
  Fault : Field A

-- the next field stands behind this one
abbrev pub then_field : {A B : Type 0} → Field A → (A → ℕ → Field B) → Field B
then_field (Is a next) k = k a next
then_field Fault k = Fault

abbrev pub on_field : {A B : Type 0} → Field A → (A → ℕ → B) → B → B
on_field (Is a next) f b = f a next
on_field Fault f b = b

abbrev pub map_field : {A B : Type 0} → (A → B) → Field A → Field B
map_field f (Is a next) = Is (f a) next
map_field f Fault = Fault

unfoldable pub number : ℕ → List ℕ → ℕ → Field ℕ
number w s at = cond (leb (at + w) (length s)) (Is (le_at s at w) (at + w)) Fault

-- "a u8 length (0 to 60)"
abbrev pub max_string : ℕ
max_string = 60

-- the n bytes of a string
unfoldable pub text_of : List ℕ → ℕ → ℕ → Field Text
text_of s at n = cond (leb n max_string) (cond (leb (at + n) (length s)) (Is (part s at n) (at + n)) Fault) Fault

unfoldable pub text : List ℕ → ℕ → Field Text
text s at = then_field (number 1 s at) (λ n next. text_of s next n)

unfoldable pub fraction : List ℕ → ℕ → Field (ℕ × ℕ)
fraction s at = then_field (number 8 s at) (λ n next. map_field (λ d. (n, d)) (number 8 s next))

unfoldable pub optional : {A : Type 0} → Bool → (List ℕ → ℕ → Field A) → List ℕ → ℕ → Field (Option A)
optional b p s at = cond b (map_field some (p s at)) (Is none at)

abbrev pub bit : ℕ → ℕ → Bool
bit m i = eqb (m / 2 ^ i % 2) 1

-- the numbers of a record
pub record Numbers : Type 0 where
  pub value : Option ℕ
  pub fraction : Option (ℕ × ℕ)
  pub base : Option ℕ
  pub mult : Option ℕ

unfoldable pub read_numbers : ℕ → List ℕ → ℕ → Field Numbers
read_numbers m s at =
    then_field (optional (bit m 1) (number 8) s at) (λ value at.
    then_field (optional (bit m 2) fraction s at) (λ ratio at.
    then_field (optional (bit m 3) (number 8) s at) (λ base at.
    then_field (optional (bit m 4) (number 8) s at) (λ mult at.
    Is (record { value = value; fraction = ratio; base = base; mult = mult }) at))))

abbrev pub numbers_in : Record → Numbers
numbers_in r = record { value = r.value; fraction = r.fraction; base = r.base; mult = r.mult }

abbrev pub record_with : ℕ → ℕ → Text → Option Text → Numbers → Option Text → Record
record_with c m type rom n script = record {
  code_point = c;
  type = type;
  rom = rom;
  value = n.value;
  fraction = n.fraction;
  base = n.base;
  mult = n.mult;
  script = script;
  large_power = bit m 6;
}

-- the fields behind the map
unfoldable pub read_fields : ℕ → ℕ → List ℕ → ℕ → Field Record
read_fields c m s at =
    then_field (text s at) (λ type at.
    then_field (optional (bit m 0) text s at) (λ rom at.
    then_field (read_numbers m s at) (λ numbers at.
    then_field (optional (bit m 5) text s at) (λ script at.
    Is (record_with c m type rom numbers script) at))))

unfoldable pub read_record : List ℕ → ℕ → Field Record
read_record s at =
    then_field (number 4 s at) (λ c at.
    then_field (number 1 s at) (λ m at.
    cond (ltb m 128) (read_fields c m s at) Fault))

-- n items of one kind from an offset on
unfoldable pub many_at : {A : Type 0} → (List ℕ → ℕ → Field A) → ℕ → List ℕ → ℕ → List A
many_at p zero s at = []
many_at p (suc n) s at = on_field (p s at) (λ a next. a ∷ many_at p n s next) []

abbrev pub texts_at : ℕ → List ℕ → ℕ → List Text
texts_at = many_at text

abbrev pub records_at : ℕ → List ℕ → ℕ → List Record
records_at = many_at read_record

-- a list: its count, then its strings
unfoldable pub list_at : List ℕ → ℕ → List Text
list_at s at = on_field (number 1 s at) (λ n next. texts_at n s next) []
