use mathlib.Core.Path.{◌≡◌, refl, sym, ◌∙◌}
use native.Mathlib.Omega.{arith}
use lib.ListN.{drop}
use Rattle.text.specs.Sequence.{seq}
use Rattle.text.proofs.PlaceLaws.{reached_start, reached_char, reached_here, char_fits}
use Rattle.text.specs.Known.{char_of}
use Rattle.text.proofs.known.KnownLaws.{reached_stands, reached_end}
use Rattle.characters.specs.Initial.{records_in}
use Rattle.characters.proofs.InitialLaws.{so_far_all}
use Rattle.first_stages.proofs.chars.AddingLaws.{adding_none}
use Rattle.first_stages.proofs.chars.add_chars.Goals as goal

pub loop-at-init : goal.loop-at-init
loop-at-init c = let a = c.args in (adding_none a.marks a.line.now a.table.now (records_in a.table.now a.all) a.work.now a.lattice, reached_start _, refl)

pub char_at-c-requires : goal.char_at-c-requires
char_at-c-requires c = reached_stands _ c.requires.1 _ _ c.loop-at.invariant.1 c.loop-at-test.true

pub add_char-done-requires : goal.add_char-done-requires
add_char-done-requires c =
    let told : seq (drop c.loop-at.at c.args.line.now) ≡ char_of c.char_at-c.result = sym c.char_at-c.ensures in
    let room = c.requires.0 in
    let (es, h) = room.holds in
    let here = reached_here _ _ _ c.loop-at.invariant.1 _ _ told in
    (record { holds = (_, c.loop-at.invariant.0.holds es h); offsets = room.offsets; few = room.few; long = omega (arith, c.loop-at.invariant.2, room.long) }, c.requires.2, c.requires.3, c.loop-at.invariant.0.so_far.few, here.0, here.1)

pub overflow_add-place : goal.overflow_add-place
overflow_add-place c =
    let told : seq (drop c.loop-at.at c.args.line.now) ≡ char_of c.char_at-c.result = sym c.char_at-c.ensures in
    omega (arith, (reached_here _ _ _ c.loop-at.invariant.1 _ _ told).0, c.requires.0.few)

pub overflow_add-at : goal.overflow_add-at
overflow_add-at c =
    let told : seq (drop c.loop-at.at c.args.line.now) ≡ char_of c.char_at-c.result = sym c.char_at-c.ensures in
    omega (arith, char_fits _ _ _ c.loop-at.invariant.1 _ _ told, c.well_formed)

pub loop-at-smaller : goal.loop-at-smaller
loop-at-smaller c =
    let told : seq (drop c.loop-at.at c.args.line.now) ≡ char_of c.char_at-c.result = sym c.char_at-c.ensures in
    omega (arith, (reached_here _ _ _ c.loop-at.invariant.1 _ _ told).0)

pub loop-at-preserved : goal.loop-at-preserved
loop-at-preserved c =
    let told : seq (drop c.loop-at.at c.args.line.now) ≡ char_of c.char_at-c.result = sym c.char_at-c.ensures in
    (c.add_char-done.ensures _ _ c.loop-at.invariant.0, reached_char _ _ _ c.loop-at.invariant.1 _ _ told, c.add_char-done.auto.work ∙ c.loop-at.invariant.2)

pub shape_of-work : goal.shape_of-work
shape_of-work c = c.loop-at.invariant.2

pub returns : goal.returns
returns c =
    let a = c.loop-at.invariant.0 in
    record {
      so_far = so_far_all _ _ _ _ _ _ _ _ c.loop-at.invariant.1 (reached_end _ c.requires.1 _ _ c.loop-at.invariant.1 c.loop-at-test.false) a.so_far;
      holds = a.holds;
    }
