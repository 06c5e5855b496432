-- `record_end` meets its contract: each field that is there lies within the bytes, since the record is laid out.
use mathlib.Core.Path.{◌≡◌, sym, ◌∙◌}
use Prim.Native.Nat.{ℕ, ◌+◌}
use native.Mathlib.Omega.{arith}
use lib.ListN.{get_or}
use Rattle.table.proofs.record.WalkLaws.{Fields, numbers_at, stands_told, stands_at_lem}
use Rattle.table.proofs.record.walk.record_end.Goals as goal

pub overflow_add-map : goal.overflow_add-map
overflow_add-map c =
    let map : ℕ = get_or c.args.s.now (c.args.at + 4) 0 in
    let told : Fields (map) c.args.s.now (c.args.at + 5) c.requires.0 = stands_told c.requires.1 in
    omega (arith, told.type_there)

pub bounds-s-at : goal.bounds-s-at
bounds-s-at c =
    let map : ℕ = get_or c.args.s.now (c.args.at + 4) 0 in
    let told : Fields (map) c.args.s.now (c.args.at + 5) c.requires.0 = stands_told c.requires.1 in
    omega (arith, told.type_there)

pub overflow_add-at : goal.overflow_add-at
overflow_add-at c =
    let map : ℕ = get_or c.args.s.now (c.args.at + 4) 0 in
    let told : Fields (map) c.args.s.now (c.args.at + 5) c.requires.0 = stands_told c.requires.1 in
    omega (arith, told.type_there)

pub end_if-rom_at-requires : goal.end_if-rom_at-requires
end_if-rom_at-requires c =
    let map : ℕ = get_or c.args.s.now (c.args.at + 4) 0 in
    let told : Fields (map) c.args.s.now (c.args.at + 5) c.requires.0 = stands_told c.requires.1 in
    λ there. told.type_there

pub end_if-numbers_at-requires : goal.end_if-numbers_at-requires
end_if-numbers_at-requires c =
    let map : ℕ = get_or c.args.s.now (c.args.at + 4) 0 in
    let told : Fields (map) c.args.s.now (c.args.at + 5) c.requires.0 = stands_told c.requires.1 in
    rw c.end_if-rom_at.ensures told.rom_there

pub overflow_add-numbers_at : goal.overflow_add-numbers_at
overflow_add-numbers_at c =
    let map : ℕ = get_or c.args.s.now (c.args.at + 4) 0 in
    let numbers_begin : c.end_if-numbers_at.result ≡ numbers_at (map) c.args.s.now (c.args.at + 5) = c.end_if-numbers_at.ensures ∙ rw c.end_if-rom_at.ensures in
    let told : Fields (map) c.args.s.now (c.args.at + 5) c.requires.0 = stands_told c.requires.1 in
    omega (arith, numbers_begin, told.numbers_in, c.well_formed.0)

pub end_if-requires : goal.end_if-requires
end_if-requires c =
    let map : ℕ = get_or c.args.s.now (c.args.at + 4) 0 in
    let numbers_begin : c.end_if-numbers_at.result ≡ numbers_at (map) c.args.s.now (c.args.at + 5) = c.end_if-numbers_at.ensures ∙ rw c.end_if-rom_at.ensures in
    let told : Fields (map) c.args.s.now (c.args.at + 5) c.requires.0 = stands_told c.requires.1 in
    rw numbers_begin told.script_there

pub returns : goal.returns
returns c =
    let map : ℕ = get_or c.args.s.now (c.args.at + 4) 0 in
    let numbers_begin : c.end_if-numbers_at.result ≡ numbers_at (map) c.args.s.now (c.args.at + 5) = c.end_if-numbers_at.ensures ∙ rw c.end_if-rom_at.ensures in
    let told : Fields (map) c.args.s.now (c.args.at + 5) c.requires.0 = stands_told c.requires.1 in
    stands_at_lem c.requires.1 (c.end_if.ensures ∙ rw numbers_begin (sym told.ends))
