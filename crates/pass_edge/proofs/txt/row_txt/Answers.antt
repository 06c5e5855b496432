-- `pass_edge::txt::row_txt` meets its contract: without decimals the digits alone, else those before the point, the point, and those behind. Assumes nothing.
use mathlib.Core.Path.{sym, ap, ◌∙◌}
use Prim.Native.Nat.{ℕ, suc, ◌-◌, ◌/◌, ◌≤◌, ◌<◌}
use lib.ListN.{length-set}
use lib.Seq.{sets}
use native.Mathlib.Omega.{arith}
use Rattle.whole.specs.Decimal.{padded}
use Rattle.whole.proofs.DecimalLaws.{length_padded}
use Rattle.decimals.proofs.PowerLaws.{power_positive}
use Rattle.pass_list.specs.Edges.{digits_text}
use Rattle.pass_edge.proofs.DigitsLaws.{front_pointed}
use Rattle.pass_edge.proofs.TextLaws.{front_is}
use Rattle.pass_edge.proofs.txt.row_txt.Goals as goal

pub returns-then-decimals-eq0 : goal.returns-then-decimals-eq0
returns-then-decimals-eq0 c =
    let a = c.args in
    front_is (ap (λ (k : ℕ). digits_text k a.len a.value) (sym c.if-decimals-eq0.true)) (record { wrote = c.put_padded.ensures; long = sym (length_padded _ _) })

pub overflow_sub-before : goal.overflow_sub-before
overflow_sub-before c =
    let some : 0 < c.args.decimals = let h = c.if-decimals-eq0.false in omega arith in
    let inside : suc (suc c.args.decimals) ≤ c.args.len = c.requires.2 (some) in
    omega (arith, inside)

pub overflow_sub-before-2 : goal.overflow_sub-before-2
overflow_sub-before-2 c =
    let some : 0 < c.args.decimals = let h = c.if-decimals-eq0.false in omega arith in
    let inside : suc (suc c.args.decimals) ≤ c.args.len = c.requires.2 (some) in
    omega (arith, inside)

pub nonzero_div-value : goal.nonzero_div-value
nonzero_div-value c = rw c.power_of_ten-power.ensures (power_positive _)

pub bounds-buf-before : goal.bounds-buf-before
bounds-buf-before c =
    let some : 0 < c.args.decimals = let h = c.if-decimals-eq0.false in omega arith in
    let inside : suc (suc c.args.decimals) ≤ c.args.len = c.requires.2 (some) in
    omega (arith, c.put_padded-2.auto.out, inside, c.requires.0)

pub put_padded-requires-3 : goal.put_padded-requires-3
put_padded-requires-3 c =
    let some : 0 < c.args.decimals = let h = c.if-decimals-eq0.false in omega arith in
    let inside : suc (suc c.args.decimals) ≤ c.args.len = c.requires.2 (some) in
    simp length-set (omega (arith, c.put_padded-2.auto.out, inside, c.requires.0))

pub shape_of-buf : goal.shape_of-buf
shape_of-buf c = c.put_padded-3.auto.out ∙ simp length-set (c.put_padded-2.auto.out)

pub returns : goal.returns
returns c =
    let some : 0 < c.args.decimals = let h = c.if-decimals-eq0.false in omega arith in
    let inside : suc (suc c.args.decimals) ≤ c.args.len = c.requires.2 (some) in
    let a = c.args in
    front_pointed a.decimals a.len a.value some (let i = inside in omega arith) a.buf.now
    (c.put_padded-2.ensures ∙ ap (λ (n : ℕ). sets a.buf.now 0 (padded (a.len - 1 - a.decimals) (a.value / n))) c.power_of_ten-power.ensures)
    c.put_padded-3.ensures
