-- `first_stages::bare::is_bare` meets its contract: the table was checked, so that there are as many records as it says, and they rise. Assumes nothing.
use mathlib.Core.Path.{ap, ◌∙◌}
use mathlib.Core.List.{List}
use Rattle.text.specs.Text.{chars}
use Rattle.table.specs.Table.{Record}
use Rattle.characters.specs.Initial.{Records}
use Rattle.characters.proofs.LegalLaws.{table_told_lem}
use Rattle.characters.proofs.InitialLaws.{said_same, said_records, records_whole}
use Rattle.first_stages.specs.Bare.{bare}
use Rattle.first_stages.proofs.bare.is_bare.Goals as goal

pub u16_at-count-requires : goal.u16_at-count-requires
u16_at-count-requires c = (table_told_lem _ c.requires.0.1.checked).long

pub all_bare-requires : goal.all_bare-requires
all_bare-requires c =
    let records : Records c.args.table.now (record { at = c.args.shape.records; left = c.u16_at-count.result }) = said_records c.args.table.now c.args.shape c.requires.0.1.checked c.u16_at-count.ensures in
    let whole = records_whole _ _ records in
    (c.requires.0.1.formed, whole, rw (← c.u16_at-count.ensures) at c.requires.1 whole)

pub returns : goal.returns
returns c = c.all_bare.ensures ∙ ap (λ (rs : List Record). bare rs (chars c.args.line.now)) (said_same c.args.table.now c.args.shape c.requires.0.1.checked c.u16_at-count.ensures)
