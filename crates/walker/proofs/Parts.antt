-- A walker taken apart, for the walks by hand of `edge_here` and `next`: its type and its laws over a lifetime, and its fields' values. Assumes nothing.
use base.Fml.{Lft}
use denote.Signature.{named_lft}
use denote.Struct.Declared.{Declared}
use denote.Struct.Laws as LL
use denote.Struct.Values.{Values}
use Rattle.walker.specs.declared.Walker.{Walker}
use Rattle.walker.specs.contracts.Walker as T
use Rattle.walker.proofs.Walker.TheLaws as T'

abbrev pub D : Lft → Declared
D κ = T.the_type (named_lft 1 0 tt (κ, tt))

abbrev pub L : (κ : Lft) → LL.Laws (D κ)
L κ = T'.the_laws (named_lft 1 0 tt (κ, tt))

abbrev pub values : (κ : Lft) → Walker → Values (D κ).parts
values κ d = (d.listing, (d.at, tt))
