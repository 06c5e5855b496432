-- `lattice::ends::finish` meets its contract: a full lattice or a short output is refused, else the work space's first bytes are the listing. Assumes nothing.
use mathlib.Core.Path.{sym}
use native.Mathlib.Omega.{arith}
use lib.ListN.{length-take}
use lib.Seq.{length-take-le}
use Rattle.lattice.proofs.FinishLaws.{full_refused, short_refused, listing_written}
use Rattle.lattice.proofs.ends.finish.Goals as goal

pub returns-then-lattice-eq0 : goal.returns-then-lattice-eq0
returns-then-lattice-eq0 c =
    let out = c.args.out.now in
    record {
      answer = λ es q. (full_refused q out c.if-lattice-eq0.true).0;
      output = λ es q. (full_refused q out c.if-lattice-eq0.true).1;
    }

pub returns-then-out-len : goal.returns-then-out-len
returns-then-out-len c =
    let out = c.args.out.now in
    record {
      answer = λ es q. (short_refused q out c.if-lattice-eq0.false c.if-out-len.true).0;
      output = λ es q. (short_refused q out c.if-lattice-eq0.false c.if-out-len.true).1;
    }

pub slice_bounds-copy_in-end : goal.slice_bounds-copy_in-end
slice_bounds-copy_in-end c = let h = c.requires.1 in let r = h.room in let l = h.short in sym (length-take-le _ _ (omega arith))

pub copy_in-requires : goal.copy_in-requires
copy_in-requires c = let x = c.if-out-len.false in simp length-take (omega arith)

pub returns : goal.returns
returns c =
    record {
      answer = λ es q. (listing_written q _ c.if-lattice-eq0.false c.if-out-len.false c.copy_in.ensures).0;
      output = λ es q. (listing_written q _ c.if-lattice-eq0.false c.if-out-len.false c.copy_in.ensures).1;
    }
