-- What holds of each of the sixteen characters holds of all; and the values of the ten digits.
use mathlib.Core.Path.{◌≡◌, refl}
use mathlib.Core.Bool.{true}
use lib.Dec.{leb}
use Rattle.grammar.specs.Plain.{Digit, digit_value, Char, digit, ten, large, 零, 一, 二, 三, 四, 五, 六, 七, 八, 九, 十, 百, 千, 万, 億, 兆}

-- P of 零 to 九, 十百千, 万億兆
abbrev pub All : (Char → Type 0) → Type 0
All P =
    P (digit 零) × P (digit 一) × P (digit 二) × P (digit 三) × P (digit 四) × P (digit 五) × P (digit 六) × P (digit 七) × P (digit 八) × P (digit 九)
    × P (ten 十) × P (ten 百) × P (ten 千) × P (large 万) × P (large 億) × P (large 兆)

pub each : (P : Char → Type 0) → All P → (c : Char) → P c
each P h (digit 零) = h.0
each P h (digit 一) = h.1
each P h (digit 二) = h.2
each P h (digit 三) = h.3
each P h (digit 四) = h.4
each P h (digit 五) = h.5
each P h (digit 六) = h.6
each P h (digit 七) = h.7
each P h (digit 八) = h.8
each P h (digit 九) = h.9
each P h (ten 十) = h.10
each P h (ten 百) = h.11
each P h (ten 千) = h.12
each P h (large 万) = h.13
each P h (large 億) = h.14
each P h (large 兆) = h.15

pub digit_small : (d : Digit) → leb (digit_value d) 9 ≡ true
digit_small 零 = refl
digit_small 一 = refl
digit_small 二 = refl
digit_small 三 = refl
digit_small 四 = refl
digit_small 五 = refl
digit_small 六 = refl
digit_small 七 = refl
digit_small 八 = refl
digit_small 九 = refl
