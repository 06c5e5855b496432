-- S-7 at some lines of the plain table, with a space between: a theorem by computation.
--     read a b         the answer for the line of the plain characters a, a space, and b
use mathlib.Core.Path.{◌≡◌, refl}
use mathlib.Core.List.{List, [], ◌∷◌, ◌++◌, map}
use mathlib.Core.Option.{some}
use Rattle.grammar.specs.Plain.{Char, digit, ten, large, code_point, 一, 五, 百, 万, plain, plain_records, plain_record}
use Rattle.grammar.proofs.Marked.{Answer, Edges, Refused7, answer_with, nines}

abbrev pub read : List Char → List Char → Answer
read a b = answer_with plain (map code_point a ++ (0x20 ∷ map code_point b))

pub cases :
    -- 一百五 and 一万五 would each be one number
    (read (digit 一 ∷ ten 百 ∷ []) (digit 五 ∷ []) ≡ Edges ((0, 2, some 100) ∷ (3, 4, some 5) ∷ []))
    × (read (digit 一 ∷ large 万 ∷ []) (digit 五 ∷ []) ≡ Edges ((0, 2, some 10000) ∷ (3, 4, some 5) ∷ []))
    -- empty parts
    × (read [] (digit 五 ∷ []) ≡ Edges ((1, 2, some 5) ∷ []))
    × (read (digit 五 ∷ []) [] ≡ Edges ((0, 1, some 5) ∷ []))
    × (read [] [] ≡ Edges [])
    -- a value above TOP in the first part, in the second
    × (answer_with plain (nines 17 ++ (0x20 ∷ code_point (digit 五) ∷ [])) ≡ Refused7 0)
    × (answer_with plain (code_point (digit 五) ∷ 0x20 ∷ nines 17) ≡ Refused7 2)
unfolding answer_with nines plain plain_records plain_record
cases = (refl, refl, refl, refl, refl, refl, refl)
