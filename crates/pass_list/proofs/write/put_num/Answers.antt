-- `put_num` meets its contract: six numbers of eight bytes, one behind the other. Assumes nothing.
use mathlib.Core.Path.{◌≡◌, ap}
use Rattle.pass_list.specs.declared.record.PassData.{PassData}
use Rattle.pass_list.proofs.write.PutLaws.{put_numbers}
use Rattle.pass_list.proofs.write.put_num.Goals as goal

pub exact_u64-requires : goal.exact_u64-requires
exact_u64-requires c = let (x, y) = c.requires.1 in (x.value, y.fits.small.value, ap (λ (n : PassData). n.value) y.is)

pub exact_u64-requires-2 : goal.exact_u64-requires-2
exact_u64-requires-2 c = let (x, y) = c.requires.1 in (x.mult, y.fits.small.mult, ap (λ (n : PassData). n.base_multiplier) y.is)

pub returns : goal.returns
returns c x y r =
    let v : c.exact_u64.result ≡ x.value = c.exact_u64.ensures x.value y.fits.small.value (ap (λ (n : PassData). n.value) y.is) in
    let m : c.exact_u64-2.result ≡ x.mult = c.exact_u64-2.ensures x.mult y.fits.small.mult (ap (λ (n : PassData). n.base_multiplier) y.is) in
    put_numbers _ c.args.at _ x (rw v at c.put_u64.ensures) (rw y.is at c.put_u64-2.ensures) (rw m at c.put_u64-3.ensures) (rw r at c.put_u64-4.ensures) (rw y.is at c.put_u64-5.ensures) (rw y.is at c.put_u64-6.ensures)
