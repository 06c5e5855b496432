-- `write_edge` meets its contract: four numbers of two bytes, and behind them the others. Assumes nothing.
use mathlib.Core.Path.{ap}
use native.Mathlib.Omega.{arith}
use Rattle.pass_list.specs.declared.record.PassEdge.{PassEdge}
use Rattle.pass_list.specs.StoredEdge.{NumIs}
use Rattle.pass_list.proofs.write.PutLaws.{put_head}
use borrow.Author.Rules.{rules}
use Rattle.pass_list.proofs.write.write_edge.Goals as goal

pub overflow_cast-e : goal.overflow_cast-e
overflow_cast-e c = let y = c.requires.1 in let s = y.1.fits.start in omega (arith, ap (λ (e : PassEdge). e.start.0) y.1.is)

pub overflow_cast-e-2 : goal.overflow_cast-e-2
overflow_cast-e-2 c = let y = c.requires.1 in let s = y.1.fits.end in omega (arith, ap (λ (e : PassEdge). e.end.0) y.1.is)

pub map_of-requires : goal.map_of-requires
map_of-requires c = let y = c.requires.1 in omega (arith, y.1.fits.decimals, ap (λ (e : PassEdge). e.num.decimals) y.1.is)

pub put_num-requires : goal.put_num-requires
put_num-requires c = let y = c.requires.1 in (search rules, (y.0, record { is = ap (λ (e : PassEdge). e.num) y.1.is; fits = y.1.fits }))

pub returns : goal.returns
returns c x y =
    let a = c.args in
    let n : NumIs a.e.num x = record { is = ap (λ (e : PassEdge). e.num) y.is; fits = y.fits } in
    put_head _ a.at _ x (rw y.is at c.put_u16.ensures) (rw y.is at c.put_u16-2.ensures)
    (rw (c.from.ensures, y.is) at c.put_u16-3.ensures) (rw (c.map_of.ensures, y.is) at c.put_u16-4.ensures)
    (c.put_num.ensures x n (ap (λ (e : PassEdge). e.record_at.0) y.is))
