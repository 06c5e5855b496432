-- `first_stages::chars::add_char` meets its contract: a character with a record is added behind the others, one without is passed over. Assumes nothing.
use native.Mathlib.Omega.{arith}
use Rattle.text.specs.Text.{chars}
use Rattle.text.proofs.TextLaws.{chars_scalars}
use Rattle.table.proofs.index.IndexLaws.{found_told, nothing_told}
use Rattle.pass_list.specs.Edges.{points_of}
use Rattle.characters.proofs.InitialLaws.{records_whole, found_sound}
use Rattle.first_stages.proofs.chars.AddingLaws.{adding_skip, adding_more}
use Rattle.first_stages.proofs.chars.add_char.Goals as goal

pub find_char-requires : goal.find_char-requires
find_char-requires c = (records_whole c.args.table.now c.args.all c.requires.1, c.requires.2)

pub put_and_add-requires : goal.put_and_add-requires
put_and_add-requires c =
    let a = c.args in
    let f = found_told _ _ _ c.find_char.ensures c.in-Some.is in
    (c.requires.0, omega (arith, c.requires.3, c.requires.4, c.requires.0.few), c.requires.4, f.inside, found_sound a.table.now a.all c.requires.1 (points_of a.marks (chars a.line.now)) _ (chars_scalars a.line.now) a.place.0 a.code c.requires.4 c.requires.5 _ _ f)

pub overflow_add-result : goal.overflow_add-result
overflow_add-result c = omega (arith, c.requires.3, c.requires.4, c.requires.0.few)

pub returns-in-Some : goal.returns-in-Some
returns-in-Some c =
    λ b l₀ adding.
    let a = c.args in
    let f = found_told _ _ _ c.find_char.ensures c.in-Some.is in
    adding_more a.marks a.line.now a.table.now a.all c.requires.1 a.place.0 a.code c.requires.4 c.requires.5 b l₀ a.work.now a.done adding _ _ f c.put_and_add.new.work c.put_and_add.result c.put_and_add.ensures.0 c.put_and_add.ensures.1

pub returns-in-None : goal.returns-in-None
returns-in-None c =
    λ b l₀ adding.
    let a = c.args in
    adding_skip a.marks a.line.now a.table.now a.all c.requires.1 a.place.0 a.code c.requires.4 c.requires.5 b l₀ a.work.now a.done adding (nothing_told _ _ _ c.find_char.ensures c.in-None.is)
