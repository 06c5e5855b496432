-- `pass_edge::txt::txt_of` meets its contract, kind by kind. Assumes nothing.
use mathlib.Core.Path.{◌≡◌, sym, ◌∙◌}
use mathlib.Core.Bool.{Bool, true, false}
use Prim.Native.Nat.{ℕ}
use lib.Dec.{eqb}
use borrow.Author.Tests.{eqb-true, eqb-false}
use native.Mathlib.Omega.{arith}
use native.Mathlib.Nat.{zero-add}
use Rattle.text.specs.Text.{chars}
use Rattle.whole.proofs.DecimalLaws.{length_decimal_top}
use Rattle.pass_edge.proofs.TextLaws.{front_is, txt_char, txt_digits, txt_value, rooted_char, places_of, decimals_few, char_fits, value_is}
use Rattle.pass_edge.proofs.txt.txt_of.Goals as goal

-- what the tests say of the kind
character : {b : Bool} {k : ℕ} → b ≡ eqb k 0 → b ≡ true → k ≡ 0
character e t = eqb-true _ 0 (sym e ∙ t)

joined : {b : Bool} {k : ℕ} → b ≡ eqb k 0 → b ≡ false → k ≡ 0 → ⊥
joined e t = eqb-false _ 0 (sym e ∙ t)

row : {b : Bool} {k : ℕ} → b ≡ eqb k 1 → b ≡ true → k ≡ 1
row e t = eqb-true _ 1 (sym e ∙ t)

no_row : {b : Bool} {k : ℕ} → b ≡ eqb k 1 → b ≡ false → k ≡ 1 → ⊥
no_row e t = eqb-false _ 1 (sym e ∙ t)

pub char_txt-requires : goal.char_txt-requires
char_txt-requires c =
    let is_char = character c.is_character.ensures c.if-is_character.true in
    let a = c.args in
    let (i, is) = c.requires.1 in
    let places = places_of a.line.now a.table.now a.edge i is in
    let fits = char_fits a.line.now a.table.now a.edge i is c.requires.2 is_char in
    let legal = rooted_char a.table.now a.edge i is.is is.sound.rooted is_char in
    (c.requires.0, places.0, places.1, c.requires.2, omega (arith, fits, c.requires.3), legal)

pub shape_of-buf-then-is_character : goal.shape_of-buf-then-is_character
shape_of-buf-then-is_character c = c.char_txt.auto.buf

pub returns-then-is_character : goal.returns-then-is_character
returns-then-is_character c i is =
    let a = c.args in
    front_is (txt_char (chars a.line.now) a.table.now a.edge i is (character c.is_character.ensures c.if-is_character.true)) c.char_txt.ensures

pub exact_u64-value-requires : goal.exact_u64-value-requires
exact_u64-value-requires c =
    let (i, is) = c.requires.1 in
    (i.value, is.is.fits.small.value, value_is c.args.edge i is.is)

pub overflow_sub-len : goal.overflow_sub-len
overflow_sub-len c =
    let (i, is) = c.requires.1 in
    (places_of c.args.line.now c.args.table.now c.args.edge i is).0

pub row_txt-requires : goal.row_txt-requires
row_txt-requires c =
    let (i, is) = c.requires.1 in
    let few = decimals_few c.args.line.now c.args.table.now c.args.edge i is in
    (omega (arith, (places_of c.args.line.now c.args.table.now c.args.edge i is).1, c.requires.2, c.requires.3), few.0, few.1)

pub shape_of-buf-then-is_row : goal.shape_of-buf-then-is_row
shape_of-buf-then-is_row c = c.row_txt.auto.buf

pub returns-then-is_row : goal.returns-then-is_row
returns-then-is_row c i is =
    let a = c.args in
    let value = c.exact_u64-value.ensures i.value is.fits.small.value (value_is a.edge i is) in
    front_is (txt_digits (chars a.line.now) a.table.now a.edge i is (joined c.is_character.ensures c.if-is_character.false) (row c.is_row.ensures c.if-is_row.true) value) c.row_txt.ensures

pub put_decimal-requires : goal.put_decimal-requires
put_decimal-requires c =
    let (i, is) = c.requires.1 in
    let value = c.exact_u64-value.ensures i.value is.is.fits.small.value (value_is c.args.edge i is.is) in
    let small = is.is.fits.small.value in
    omega (arith, length_decimal_top c.exact_u64-value.result (omega arith), c.requires.3)

pub shape_of-buf : goal.shape_of-buf
shape_of-buf c = c.put_decimal.auto.out

pub returns : goal.returns
returns c i is =
    let a = c.args in
    let value = c.exact_u64-value.ensures i.value is.fits.small.value (value_is a.edge i is) in
    front_is (txt_value (chars a.line.now) a.table.now a.edge i is (joined c.is_character.ensures c.if-is_character.false) (no_row c.is_row.ensures c.if-is_row.false) value)
    (record { wrote = c.put_decimal.ensures.written; long = c.put_decimal.ensures.next ∙ zero-add _ })
