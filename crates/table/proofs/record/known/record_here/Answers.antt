-- `record_here` meets its contract: each field that is there lies within the bytes, since the record is laid out, and the record is what its lengths say.
use mathlib.Core.Path.{◌≡◌, ◌∙◌}
use Prim.Native.Nat.{ℕ, ◌+◌}
use native.Mathlib.Omega.{arith}
use lib.ListN.{get_or}
use mathlib.Core.Bool.{true}
use Rattle.table.specs.Layout.{Is, read_numbers}
use Rattle.table.specs.Answers.{numbers_of}
use Rattle.table.specs.Walk.{part_if}
use Rattle.table.proofs.record.WalkLaws.{Fields, numbers_at, script_at, stands_told, script_behind, known_is}
use Rattle.table.proofs.record.known.record_here.Goals as goal

pub overflow_add-map : goal.overflow_add-map
overflow_add-map c =
    let map : ℕ = get_or c.args.s.now (c.args.at + 4) 0 in
    let told : Fields (map) c.args.s.now (c.args.at + 5) c.requires.0 = stands_told c.requires.1 in
    omega (arith, told.type_there)

pub bounds-s-at : goal.bounds-s-at
bounds-s-at c =
    let map : ℕ = get_or c.args.s.now (c.args.at + 4) 0 in
    let told : Fields (map) c.args.s.now (c.args.at + 5) c.requires.0 = stands_told c.requires.1 in
    omega (arith, told.type_there)

pub overflow_add-at : goal.overflow_add-at
overflow_add-at c =
    let map : ℕ = get_or c.args.s.now (c.args.at + 4) 0 in
    let told : Fields (map) c.args.s.now (c.args.at + 5) c.requires.0 = stands_told c.requires.1 in
    omega (arith, told.type_there)

pub part_if-num_type-requires : goal.part_if-num_type-requires
part_if-num_type-requires c =
    let map : ℕ = get_or c.args.s.now (c.args.at + 4) 0 in
    let told : Fields (map) c.args.s.now (c.args.at + 5) c.requires.0 = stands_told c.requires.1 in
    λ there. told.type_there

pub overflow_add-rom_at : goal.overflow_add-rom_at
overflow_add-rom_at c =
    let type_is : c.part_if-num_type.result ≡ part_if true c.args.s.now (c.args.at + 5) = c.part_if-num_type.ensures in
    let rom_begins : c.part_if-num_type.result.at.0 + c.part_if-num_type.result.len ≡ c.args.at + 5 + 1 + get_or c.args.s.now (c.args.at + 5) 0 = rw (type_is) in
    let map : ℕ = get_or c.args.s.now (c.args.at + 4) 0 in
    let told : Fields (map) c.args.s.now (c.args.at + 5) c.requires.0 = stands_told c.requires.1 in
    omega (arith, rom_begins, told.type_in, c.well_formed.0)

pub part_if-rom-requires : goal.part_if-rom-requires
part_if-rom-requires c =
    let type_is : c.part_if-num_type.result ≡ part_if true c.args.s.now (c.args.at + 5) = c.part_if-num_type.ensures in
    let map : ℕ = get_or c.args.s.now (c.args.at + 4) 0 in
    let told : Fields (map) c.args.s.now (c.args.at + 5) c.requires.0 = stands_told c.requires.1 in
    rw type_is told.rom_there

pub end_if-requires : goal.end_if-requires
end_if-requires c =
    let type_is : c.part_if-num_type.result ≡ part_if true c.args.s.now (c.args.at + 5) = c.part_if-num_type.ensures in
    let map : ℕ = get_or c.args.s.now (c.args.at + 4) 0 in
    let told : Fields (map) c.args.s.now (c.args.at + 5) c.requires.0 = stands_told c.requires.1 in
    rw type_is told.rom_there

pub numbers_here-numbers-requires : goal.numbers_here-numbers-requires
numbers_here-numbers-requires c =
    let map : ℕ = get_or c.args.s.now (c.args.at + 4) 0 in
    let type_is : c.part_if-num_type.result ≡ part_if true c.args.s.now (c.args.at + 5) = c.part_if-num_type.ensures in
    let numbers_begin : c.end_if.result ≡ numbers_at (map) c.args.s.now (c.args.at + 5) = c.end_if.ensures ∙ rw (type_is) in
    let told : Fields (map) c.args.s.now (c.args.at + 5) c.requires.0 = stands_told c.requires.1 in
    omega (arith, numbers_begin, told.numbers_in)

pub part_if-script-requires : goal.part_if-script-requires
part_if-script-requires c =
    let map : ℕ = get_or c.args.s.now (c.args.at + 4) 0 in
    let type_is : c.part_if-num_type.result ≡ part_if true c.args.s.now (c.args.at + 5) = c.part_if-num_type.ensures in
    let numbers_begin : c.end_if.result ≡ numbers_at (map) c.args.s.now (c.args.at + 5) = c.end_if.ensures ∙ rw (type_is) in
    let numbers_are : Is (numbers_of (map) c.numbers_here-numbers.result) c.numbers_here-numbers.result.next ≡ read_numbers (map) c.args.s.now (numbers_at (map) c.args.s.now (c.args.at + 5)) = rw (← (numbers_begin)) c.numbers_here-numbers.ensures in
    let script_begins : c.numbers_here-numbers.result.next ≡ script_at (map) c.args.s.now (c.args.at + 5) = script_behind c.requires.1 _ (numbers_are) in
    let told : Fields (map) c.args.s.now (c.args.at + 5) c.requires.0 = stands_told c.requires.1 in
    rw script_begins told.script_there

pub u32_at-requires : goal.u32_at-requires
u32_at-requires c =
    let map : ℕ = get_or c.args.s.now (c.args.at + 4) 0 in
    let told : Fields (map) c.args.s.now (c.args.at + 5) c.requires.0 = stands_told c.requires.1 in
    omega (arith, told.type_there)

pub end_if-requires-2 : goal.end_if-requires-2
end_if-requires-2 c =
    let map : ℕ = get_or c.args.s.now (c.args.at + 4) 0 in
    let type_is : c.part_if-num_type.result ≡ part_if true c.args.s.now (c.args.at + 5) = c.part_if-num_type.ensures in
    let numbers_begin : c.end_if.result ≡ numbers_at (map) c.args.s.now (c.args.at + 5) = c.end_if.ensures ∙ rw (type_is) in
    let numbers_are : Is (numbers_of (map) c.numbers_here-numbers.result) c.numbers_here-numbers.result.next ≡ read_numbers (map) c.args.s.now (numbers_at (map) c.args.s.now (c.args.at + 5)) = rw (← (numbers_begin)) c.numbers_here-numbers.ensures in
    let script_begins : c.numbers_here-numbers.result.next ≡ script_at (map) c.args.s.now (c.args.at + 5) = script_behind c.requires.1 _ (numbers_are) in
    let told : Fields (map) c.args.s.now (c.args.at + 5) c.requires.0 = stands_told c.requires.1 in
    rw script_begins told.script_there

pub returns : goal.returns
returns c =
    let map : ℕ = get_or c.args.s.now (c.args.at + 4) 0 in
    let type_is : c.part_if-num_type.result ≡ part_if true c.args.s.now (c.args.at + 5) = c.part_if-num_type.ensures in
    let numbers_begin : c.end_if.result ≡ numbers_at (map) c.args.s.now (c.args.at + 5) = c.end_if.ensures ∙ rw (type_is) in
    let numbers_are : Is (numbers_of (map) c.numbers_here-numbers.result) c.numbers_here-numbers.result.next ≡ read_numbers (map) c.args.s.now (numbers_at (map) c.args.s.now (c.args.at + 5)) = rw (← (numbers_begin)) c.numbers_here-numbers.ensures in
    known_is c.requires.1 _ _ _ _ _ _ numbers_are c.u32_at.ensures type_is (rw type_is at c.part_if-rom.ensures) c.part_if-script.ensures c.end_if-2.ensures
