-- Which bytes are a table (01, causes 4 and 5): the items in order, the first faulty one decides. Definitions only.
--     Checked A     what checking items gives: their value with the offset behind them, or the refusal's number and offset
--     bad_layout, bad_content, cause_number    the causes of the two refusals, and 01's number of a cause
--     refusal_at     a refusal by its cause and offset
--     item          one item: its layout before its content, at the offset where it begins
--     legal_mark, legal_record   the content of a string of a list, and of a record whose code point must be at least `least`
--     read_table s   the table whose bytes are s, or the refusal
use Rattle.std.specs.Prelude.{ℕ, zero, suc, ◌+◌, Bool, true, cond, ◌&&◌, ◌||◌, List, [], ◌∷◌, length, leb, ltb, eqb}
use Rattle.std.proofs.Math.Option.{Option, none, some}
use Rattle.text.specs.Bytes.{same}
use Rattle.text.specs.Text.{well_formed}
use Rattle.text.specs.Sequence.{scalar}
use Rattle.whole.specs.Whole.{TOP}
use Rattle.table.specs.Table.{Text, Record, Table}
use Rattle.table.specs.Layout.{Field, Is, Fault, Numbers, numbers_in, number, text, read_record}
use Rattle.table.specs.declared.shape.Cause.{Cause}
use Rattle.table.specs.declared.shape.TableRefusal.{TableRefusal}

-- the bytes of the type "digit"
abbrev pub digit : Text
digit = 100 ∷ 105 ∷ 103 ∷ 105 ∷ 116 ∷ []

-- ---- items
-- 01's numbers of a table's refusals: its layout, or bytes left over; its content
abbrev pub bad_layout : Cause
bad_layout = Cause.Layout

abbrev pub bad_content : Cause
bad_content = Cause.Content

abbrev pub cause_number : Cause → ℕ
cause_number Cause.Layout = 4
cause_number Cause.Content = 5

abbrev pub refusal_at : Cause → ℕ → TableRefusal
refusal_at cause at = record { cause = cause; at = record { 0 = at } }

pub data Checked (A : Type 0) : Type 0 where
  Fine : A → ℕ → Checked A
  Refused : Cause → ℕ → Checked A

abbrev pub then_item : {A B : Type 0} → Checked A → (A → ℕ → Checked B) → Checked B
then_item (Fine a next) k = k a next
then_item (Refused cause at) k = Refused cause at

unfoldable pub item : {A : Type 0} → ℕ → (A → Bool) → Field A → Checked A
item at legal (Is a next) = cond (legal a) (Fine a next) (Refused bad_content at)
item at legal Fault = Refused bad_layout at

-- ---- content
-- of a field that may be absent
unfoldable pub all_of : {A : Type 0} → (A → Bool) → Option A → Bool
all_of p none = true
all_of p (some a) = p a

abbrev pub small : ℕ → Bool
small n = leb n TOP

abbrev pub positive : ℕ → Bool
positive n = ltb 0 n && small n

-- an empty marker, connector or sign is at fault
unfoldable pub legal_mark : Text → Bool
legal_mark t = ltb 0 (length t) && well_formed t

-- "digit" with a value of 0 to 9: rom is that one ASCII digit
unfoldable pub legal_digit : Option ℕ → Option Text → Bool
legal_digit none rom = true
legal_digit (some n) none = ltb 9 n
legal_digit (some n) (some t) = ltb 9 n || same t ((48 + n) ∷ [])

abbrev pub legal_ratio : ℕ × ℕ → Bool
legal_ratio (n, d) = small n && positive d

abbrev pub is_digit_type : Text → Bool
is_digit_type t = same t digit

-- a scalar value, and no lower than `least`
unfoldable pub legal_code_point : ℕ → ℕ → Bool
legal_code_point least c = leb least c && scalar c

unfoldable pub legal_texts : Record → Bool
legal_texts r = well_formed r.type && (all_of well_formed r.rom && all_of well_formed r.script)

unfoldable pub legal_numbers : Numbers → Bool
legal_numbers n = all_of small n.value && all_of legal_ratio n.fraction && all_of positive n.base && all_of small n.mult

unfoldable pub digit_rule : Record → Bool
digit_rule r = cond (is_digit_type r.type) (legal_digit r.value r.rom) true

unfoldable pub legal_record : ℕ → Record → Bool
legal_record least r = legal_code_point least r.code_point && (legal_texts r && (legal_numbers (numbers_in r) && digit_rule r))

-- code points rise, the first no lower than `least`
unfoldable pub rising : ℕ → List Record → Bool
rising least [] = true
rising least (r ∷ rs) = leb least r.code_point && rising (r.code_point + 1) rs

-- ---- the table
unfoldable pub read_texts : ℕ → List ℕ → ℕ → Checked (List Text)
read_texts zero s at = Fine [] at
read_texts (suc n) s at =
    then_item (item at legal_mark (text s at)) (λ t at.
    then_item (read_texts n s at) (λ ts at.
    Fine (t ∷ ts) at))

-- a list: its count, then its strings
unfoldable pub read_list : List ℕ → ℕ → Checked (List Text)
read_list s at = then_item (item at (λ n. true) (number 1 s at)) (λ n at. read_texts n s at)

-- code points rise: the next is at least one more
unfoldable pub read_records : ℕ → ℕ → List ℕ → ℕ → Checked (List Record)
read_records zero least s at = Fine [] at
read_records (suc n) least s at =
    then_item (item at (legal_record least) (read_record s at)) (λ r at.
    then_item (read_records n (r.code_point + 1) s at) (λ rs at.
    Fine (r ∷ rs) at))

-- bytes left over are at fault where they begin
unfoldable pub read_table : List ℕ → Checked Table
read_table s =
    then_item (item 0 (λ n. true) (number 2 s 0)) (λ n at.
    then_item (read_list s at) (λ percentage at.
    then_item (read_list s at) (λ connector at.
    then_item (read_list s at) (λ plus at.
    then_item (read_list s at) (λ minus at.
    then_item (read_records n 0 s at) (λ records at.
    cond (eqb at (length s))
    (Fine (record { percentage_markers = percentage; fraction_connectors = connector; plus_signs = plus; minus_signs = minus; records = records }) at)
    (Refused bad_layout at)))))))
