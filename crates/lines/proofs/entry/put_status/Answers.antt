-- `lines::entry::put_status` meets its contract: the halves of the status, then the number. Assumes nothing.
use Rattle.fields.proofs.FieldsLaws.{put_halves, length-bytes_of}
use Rattle.fields.specs.Fields.{bytes_of}
use Rattle.whole.proofs.SetsLaws.{sets_then}
use native.Mathlib.Omega.{arith}
use Rattle.lines.proofs.entry.put_status.Goals as goal

pub returns : goal.returns
returns c =
    let s = c.args in
    sets_then s.out.now s.at _ (bytes_of 4 s.told.status) (bytes_of 8 s.told.at) (put_halves _ _ 2 _ c.put_u16.ensures c.put_u16-2.ensures) (omega (arith, length-bytes_of 4 s.told.status)) c.put_u64.ensures
