-- `char_edge` meets its contract: the edge spans one place, and its numbers fit, since table and line are no longer than memory.
use native.Mathlib.Omega.{arith}
use Rattle.characters.specs.CharStored.{char_stored}
use Rattle.characters.proofs.char_edge.Goals as goal

pub returns : goal.returns
unfolding char_stored
returns c =
    let script = c.requires.0.script_within in
    record {
      is = rw c.char_num.ensures;
      fits = record {
        small = c.requires.1;
        start = omega arith;
        end = omega arith;
        record_offset = omega arith;
        script_offset = omega arith;
        script_len = omega arith;
        decimals = omega arith;
      };
    }
