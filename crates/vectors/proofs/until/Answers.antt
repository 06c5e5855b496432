-- `vectors::until` meets its contract, by the length of what stands before the byte.
use mathlib.Core.Path.{◌≡◌, ap, ◌∙◌}
use mathlib.Core.List.{List}
use Prim.Native.Nat.{ℕ, ◌-◌, ◌<◌}
use native.Mathlib.Nat.{le_refl}
use native.Mathlib.Omega.{arith}
use lib.Dec.{eqb}
use lib.ListN.{length, take, drop, length-drop}
use lib.Seq.{take_all}
use Rattle.std.specs.List.{position}
use Rattle.vectors.specs.Until.{until_byte}
use Rattle.vectors.proofs.UntilLaws.{until_some, until_none}
use Rattle.vectors.proofs.until.Goals as goal

-- the slice up to the end is all that is left
to_end : (s : List ℕ) (from b : ℕ) → position (λ x. eqb x b) (take (length s - from) (drop from s)) ≡ position (λ x. eqb x b) (drop from s)
to_end s from b = ap (λ (l : List ℕ). position (λ x. eqb x b) l) (take_all (length s - from) (drop from s) (rw length-drop (le_refl _)))

pub returns-in-Some : goal.returns-in-Some
returns-in-Some c =
    let a = c.args in
    let rest = drop a.from a.s.now in
    let u : (c.in-Some.i ≡ length (until_byte a.stop rest)) × (c.in-Some.i < length rest) =
    until_some a.stop rest c.in-Some.i (c.in-Some.ensures ∙ to_end a.s.now a.from a.stop) in
    let long = length-drop a.from a.s.now in
    (omega (arith, u.0), omega (arith, u.1))

pub returns-in-None : goal.returns-in-None
returns-in-None c =
    let a = c.args in
    let rest = drop a.from a.s.now in
    let whole : length rest ≡ length (until_byte a.stop rest) = until_none a.stop rest (c.in-None.ensures ∙ to_end a.s.now a.from a.stop) in
    let long = length-drop a.from a.s.now in
    (omega (arith, c.requires, whole), le_refl _)
