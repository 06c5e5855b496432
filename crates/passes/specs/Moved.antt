-- An edge at another place of a line, or over other characters. Definitions only.
--     moved n e      the edge e, "with its places moved by" n (02, S-7)
--     with_text x e   the edge e but for orig_txt (02, S-11), which is x
--     Assumes nothing.
use Rattle.std.specs.Prelude.{ℕ, ◌+◌}
use Rattle.table.specs.Table.{Text}
use Rattle.passes.specs.NumEdge.{NumEdge, placed}

abbrev pub moved : ℕ → NumEdge → NumEdge
moved n e = placed (n + e.start) (n + e.end) e.txt e.orig_txt e

abbrev pub with_text : Text → NumEdge → NumEdge
with_text x e = placed e.start e.end e.txt x e
