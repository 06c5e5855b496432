-- `sheet_rows::put_row` meets its contract: the text, a tab, the digits, a newline. Assumes nothing.
use Prim.Native.Nat.{◌+◌}
use mathlib.Core.Path.{refl}
use native.Mathlib.Omega.{arith}
use lib.ListN.{length}
use Rattle.whole.specs.Decimal.{decimal}
use Rattle.sheet_rows.proofs.CodeLaws.{put_length, tabbed_length, valued_length, row_put}
use Rattle.sheet_rows.proofs.put_row.Goals as goal

pub put_decimal-end-requires : goal.put_decimal-end-requires
put_decimal-end-requires c = omega (arith, c.requires, tabbed_length c.args.out.now c.args.text.now c.args.at (c.args.at + length c.args.text.now) c.copy_in.ensures)

pub bounds-out-end : goal.bounds-out-end
bounds-out-end c =
    let tab = c.args.at + length c.args.text.now in
    omega (arith, c.requires, c.put_decimal-end.ensures.next, valued_length _ (decimal c.args.value) (tab + 1) c.put_decimal-end.ensures.written, tabbed_length c.args.out.now c.args.text.now c.args.at tab c.copy_in.ensures)

pub shape_of-out : goal.shape_of-out
shape_of-out c =
    let a = c.args in
    put_length (row_put a.out.now a.text.now a.value a.at (a.at + length a.text.now) c.copy_in.ensures refl refl c.put_decimal-end.ensures.written c.put_decimal-end.ensures.next)

pub returns : goal.returns
returns c =
    let a = c.args in
    row_put a.out.now a.text.now a.value a.at (a.at + length a.text.now) c.copy_in.ensures refl refl c.put_decimal-end.ensures.written c.put_decimal-end.ensures.next
