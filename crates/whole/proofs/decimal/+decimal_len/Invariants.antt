-- `whole::decimal::decimal_len` meets its contract, by recursion on n: the text of n is four bytes longer than that of n / 10000. Assumes nothing.
use Rattle.whole.proofs.decimal.+decimal_len.Given as goal

-- ---- the function
abbrev pub decreases-decimal_len : goal.decreases-decimal_len
decreases-decimal_len l = l.n
