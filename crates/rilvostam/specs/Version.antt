-- The version of the library. Definitions only.
--     version_number major minor patch   a version as one number: two decimal digits each for minor and patch
--     version                           the library's; include/rilvostam.h, the bindings and the installed files have the same, as tools/test_bindings sees
--     Assumes nothing.
use Rattle.std.specs.Prelude.{ℕ, ◌+◌, ◌*◌}

abbrev pub version_number : ℕ → ℕ → ℕ → ℕ
version_number major minor patch = 10000 * major + 100 * minor + patch

abbrev pub version : ℕ
version = version_number 0 1 0
