-- The texts of a list as the code goes over them. Definitions only.
--     texts_left x     the texts that x has still to give
--     Assumes nothing.
use Rattle.std.specs.Prelude.{List}
use Rattle.table.specs.Table.{Text}
use Rattle.table.specs.Layout.{texts_at}
use Rattle.markers.specs.declared.texts.Texts.{Texts}

abbrev pub texts_left : Texts → List Text
texts_left x = texts_at x.left x.table.now x.next
