-- The passes by their number. Definitions only.
--     nth i    the i-th pass, counted from 0
--     Assumes nothing.
use Rattle.std.specs.Prelude.{ℕ, get_or}
use Rattle.passes.specs.Passes.{Pass, D1, five}

abbrev pub nth : ℕ → Pass
nth i = get_or five i D1
