-- `worn::rows::rows_of` meets its contract: in the copy the line stands. Assumes nothing.
use mathlib.Core.Path.{refl}
use native.Mathlib.Omega.{arith}
use Rattle.worn.proofs.TriedLaws.{copy_fits, copy_stands}
use Rattle.worn.proofs.rows.rows_of.Goals as goal

pub copy_in-requires : goal.copy_in-requires
copy_in-requires c = omega (arith, copy_fits c.args.line.now c.args.at c.requires.1 c.requires.2)

pub put_rows-requires : goal.put_rows-requires
put_rows-requires c =
    let w = c.requires.1 in
    (c.requires.0, (w.x, w.y, copy_stands _ _ w c.requires.2 _ refl c.copy_in.ensures))

pub returns : goal.returns
returns c =
    record {
      short = c.put_rows.ensures.short;
      put = λ w. c.put_rows.ensures.put w.x w.y (copy_stands _ _ w c.requires.2 _ refl c.copy_in.ensures);
    }
