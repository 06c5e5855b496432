-- `rows::refusal::put_refused` meets its contract: a number of 64 bits has at most 20 digits. Assumes nothing.
use native.Mathlib.Omega.{arith}
use Rattle.rows.proofs.refusal.RefusalLaws.{number_room, place_room, refused_there}
use Rattle.rows.proofs.refusal.put_refused.Goals as goal

pub put_number-second-requires : goal.put_number-second-requires
put_number-second-requires c = number_room c.ranges.number.fits c.ranges.place.fits c.put_text-first.ensures (omega arith)

pub put_number-requires : goal.put_number-requires
put_number-requires c = place_room c.ranges.number.fits c.ranges.place.fits c.put_text-first.ensures c.put_number-second.ensures (omega arith)

pub returns : goal.returns
returns c = refused_there c.ranges.number.fits c.ranges.place.fits c.put_text-first.ensures c.put_number-second.ensures c.requires c.put_number.ensures
