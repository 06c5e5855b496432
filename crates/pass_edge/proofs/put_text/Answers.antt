-- `pass_edge::put_text` meets its contract: what is copied is the text. Assumes nothing.
use mathlib.Core.Path.{refl}
use Rattle.pass_edge.proofs.put_text.Goals as goal

pub shape_of-buf : goal.shape_of-buf
shape_of-buf c = c.copy_in.auto.out

pub returns : goal.returns
returns c = record { wrote = c.copy_in.ensures; long = refl }
