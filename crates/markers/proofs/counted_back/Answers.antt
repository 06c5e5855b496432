-- `markers::counted_back` meets its contract: the sign's characters, counted back from the place, lead to the place where it must stand. Assumes nothing.
use mathlib.Core.Path.{◌≡◌, ap, ◌∙◌}
use native.Mathlib.Omega.{arith}
use lib.ListN.{length, get_or}
use Rattle.text.specs.Text.{chars, offset_of}
use Rattle.text.specs.declared.Walked.{Walked}
use Rattle.text.proofs.line.LineLaws.{count_whole}
use Rattle.text.proofs.PlaceLaws.{offset_le}
use Rattle.numbers.specs.Fractions.{stands_at}
use Rattle.markers.proofs.MarkLaws.{stands_told, sign_there, sign_other}
use Rattle.markers.proofs.counted_back.Goals as goal

pub stands-requires : goal.stands-requires
stands-requires c =
    let b = c.in_ok-from.ensures in
    let is_offset : get_or c.args.offs.now c.in_ok-from.from 0 ≡ offset_of c.args.line.now c.in_ok-from.from = let h = c.requires.2 in c.requires.1.at c.in_ok-from.from (omega arith) in
    omega (arith, is_offset, offset_le c.args.line.now c.in_ok-from.from)

pub returns-then-stands : goal.returns-then-stands
returns-then-stands c =
    let b = c.in_ok-from.ensures in
    let size_is : c.walk-size.result.count ≡ length (chars c.args.sign.now) = ap (λ (v : Walked). v.count) c.walk-size.ensures ∙ count_whole _ in
    let is_offset : get_or c.args.offs.now c.in_ok-from.from 0 ≡ offset_of c.args.line.now c.in_ok-from.from = let h = c.requires.2 in c.requires.1.at c.in_ok-from.from (omega arith) in
    let it_stands : c.stands.result ≡ stands_at (chars c.args.line.now) c.in_ok-from.from c.args.sign.now = stands_told _ c.requires.1.formed _ _ c.requires.3 is_offset c.stands.ensures in
    sign_there _ _ _ size_is b.0 (it_stands ∙ rw b.1) c.if-stands.true

pub returns-else-stands : goal.returns-else-stands
returns-else-stands c =
    let b = c.in_ok-from.ensures in
    let size_is : c.walk-size.result.count ≡ length (chars c.args.sign.now) = ap (λ (v : Walked). v.count) c.walk-size.ensures ∙ count_whole _ in
    let is_offset : get_or c.args.offs.now c.in_ok-from.from 0 ≡ offset_of c.args.line.now c.in_ok-from.from = let h = c.requires.2 in c.requires.1.at c.in_ok-from.from (omega arith) in
    let it_stands : c.stands.result ≡ stands_at (chars c.args.line.now) c.in_ok-from.from c.args.sign.now = stands_told _ c.requires.1.formed _ _ c.requires.3 is_offset c.stands.ensures in
    sign_other _ _ _ size_is b.0 (it_stands ∙ rw b.1) c.if-stands.false
