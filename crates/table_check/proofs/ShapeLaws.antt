-- The shape of a table (`specs/Shape.antt`), from where its lists end. No contract cites this file. Assumes nothing.
use mathlib.Core.Path.{◌≡◌}
use mathlib.Core.List.{List}
use Prim.Native.Nat.{ℕ}
use Rattle.fields.specs.Fields.{le_at}
use Rattle.table.specs.Table.{Text}
use Rattle.table.specs.Check.{Fine, read_list}
use Rattle.table_check.specs.Shape.{shape_of}

pub shape_is : (s : List ℕ) {n a b c d : ℕ} {p f u m : List Text} → n ≡ le_at s 0 2
    → read_list s 2 ≡ Fine p a → read_list s a ≡ Fine f b → read_list s b ≡ Fine u c → read_list s c ≡ Fine m d
    → record { percentages = 2; connectors = a; plus = b; minus = c; count = n; records = d } ≡ shape_of s
unfolding shape_of
shape_is s n-is first second third fourth = rw (n-is, first, second, third, fourth)
