use Rattle.std.proofs.Common.{◌≡◌, ℕ, ◌+◌, ◌/◌, ◌<◌, ◌≤◌, length, sym, arith}
use Rattle.whole.specs.Decimal.{decimal}
use Rattle.whole.proofs.DecimalLaws.{length_decimal_one, length_decimal_more, length_decimal_u64}
use Rattle.whole.proofs.decimal.+decimal_len.Goals as goal

-- ---- the length by powers of ten
two : (n : ℕ) → 10 ≤ n → n < 100 → length (decimal n) ≡ 2
two n h k = omega (arith, length_decimal_more n h, length_decimal_one (n / 10) (omega arith))

three : (n : ℕ) → 100 ≤ n → n < 1000 → length (decimal n) ≡ 3
three n h k = omega (arith, length_decimal_more n (omega arith), two (n / 10) (omega arith) (omega arith))

four : (n : ℕ) → 1000 ≤ n → n < 10000 → length (decimal n) ≡ 4
four n h k = omega (arith, length_decimal_more n (omega arith), three (n / 10) (omega arith) (omega arith))

four_more : (n : ℕ) → 10000 ≤ n → length (decimal n) ≡ length (decimal (n / 10000)) + 4
four_more n h =
    let e : n / 10 / 10 / 10 / 10 ≡ n / 10000 = omega arith in
    rw (← e) (omega (arith, length_decimal_more n (omega arith), length_decimal_more (n / 10) (omega arith), length_decimal_more (n / 10 / 10) (omega arith), length_decimal_more (n / 10 / 10 / 10) (omega arith)))

pub returns-then-n-lt10 : goal.returns-then-n-lt10
returns-then-n-lt10 t c = sym (length_decimal_one c.args.n (omega (arith, c.if-n-lt10.true)))

pub returns-then-n-lt100 : goal.returns-then-n-lt100
returns-then-n-lt100 t c = let n = c.args.n in sym (two n (omega (arith, c.if-n-lt10.false)) (omega (arith, c.if-n-lt100.true)))

pub returns-then-n-lt1000 : goal.returns-then-n-lt1000
returns-then-n-lt1000 t c = let n = c.args.n in sym (three n c.if-n-lt100.false c.if-n-lt1000.true)

pub returns-then-n-lt10000 : goal.returns-then-n-lt10000
returns-then-n-lt10000 t c = let n = c.args.n in sym (four n c.if-n-lt1000.false c.if-n-lt10000.true)

pub decimal_len-requires : goal.decimal_len-requires
decimal_len-requires t c = (omega (arith, c.if-n-lt10000.false), tt)

pub overflow_add-result : goal.overflow_add-result
overflow_add-result t c = omega (arith, c.decimal_len.ensures, length_decimal_u64 (c.args.n / 10000) (omega arith))

pub returns : goal.returns
returns t c = let n = c.args.n in rw c.decimal_len.ensures (sym (four_more n c.if-n-lt10000.false))
