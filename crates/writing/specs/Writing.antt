-- A plot number written out (02, S-1). Definitions only.
--     cut k part marks n   n cut from the right into parts below k, one for each mark, the lowest first: a part p with the mark m is written `part h p m`, where h
--                          is the number that the higher parts say
--     zero_if b             one 零 where b holds, otherwise nothing
--     digits, digit_of d    the ten digits; the one of value d
--     digit_part h d m      the digit d of a group, after the digits of h, with its mark m
--     tens, group g        the digits' marks; a group: four digits of value g
--     group_part h g m      the group g, after the groups of h, with its mark m
--     marks, writing n     the groups' marks; the numeral of n
--     NoneCounted d        what is said of its members: 10005 is 一万零五 and never 一万五
--     Assumes nothing.
use Rattle.std.specs.Prelude.{ℕ, ◌/◌, ◌%◌, ◌≡◌, Bool, ◌&&◌, cond, List, [], ◌∷◌, ◌++◌, leb, ltb, eqb, get_or}
use Rattle.grammar.specs.Plain.{Digit, Char, digit, ten, large, 零, 一, 二, 三, 四, 五, 六, 七, 八, 九, 十, 百, 千, 万, 億, 兆}
use Rattle.table_grammar.specs.Row.{one, ◌▷◌}
use Rattle.grammar.specs.Grammar.{Division, single_digit}

unfoldable pub cut : ℕ → (ℕ → ℕ → List Char → List Char) → List (List Char) → ℕ → List Char
cut k part [] n = []
cut k part (m ∷ ms) n = cut k part ms (n / k) ++ part (n / k) (n % k) m

abbrev pub zero_if : Bool → List Char
zero_if b = cond b (digit 零 ∷ []) []

abbrev pub digits : List Digit
digits = 零 ∷ 一 ∷ 二 ∷ 三 ∷ 四 ∷ 五 ∷ 六 ∷ 七 ∷ 八 ∷ 九 ∷ []

abbrev pub digit_of : ℕ → Digit
digit_of d = get_or digits d 零

-- "A digit other than zero is written with 千, 百, 十 or nothing, and 一 is always written. One 零 stands for each stretch of zeros between two such digits of a
-- group": it is written with the second of the two, which has a digit other than zero somewhere before it, and a zero directly before it.
unfoldable pub digit_part : ℕ → ℕ → List Char → List Char
digit_part h d m = cond (eqb d 0) [] (zero_if (leb 1 h && eqb (h % 10) 0) ++ (digit (digit_of d) ∷ m))

-- "with 千, 百, 十 or nothing", the last digit first
abbrev pub tens : List (List Char)
tens = [] ∷ (ten 十 ∷ []) ∷ (ten 百 ∷ []) ∷ (ten 千 ∷ []) ∷ []

unfoldable pub group : ℕ → List Char
group g = cut 10 digit_part tens g

-- "One 零 precedes a group that has a higher written group and a thousands digit of zero. Zero groups are left out"
unfoldable pub group_part : ℕ → ℕ → List Char → List Char
group_part h g m = cond (eqb g 0) [] (zero_if (leb 1 h && ltb g 1000) ++ (group g ++ m))

-- "followed by nothing, 万, 億 and 兆"
abbrev pub marks : List (List Char)
marks = [] ∷ (large 万 ∷ []) ∷ (large 億 ∷ []) ∷ (large 兆 ∷ []) ∷ []

-- "It is cut into groups of four digits from the right", and "0 is 零"
unfoldable pub writing : ℕ → List Char
writing n = cond (eqb n 0) (digit 零 ∷ []) (cut 10000 group_part marks n)

-- no member after the first is a single digit, which would count as digit times base/10
abbrev pub NoneCounted : Division → Type 0
NoneCounted (one m) = Unit {0}
NoneCounted (d ▷ m) = NoneCounted d × (single_digit m ≡ 0)
