-- One or more in a row, which grows on the right. Definitions only.
--     one a     a alone
--     r ▷ a     the row r, then a
--     r <>> l   the row's elements in order, then the list l
--     head r    the first
--     last r    the last
--     Assumes nothing.
use Rattle.std.specs.Prelude.{List, ◌∷◌}

infixl 66 ◌▷◌
pub data Row (A : Type 0) : Type 0 where
  one : A → Row A
  ◌▷◌ : Row A → A → Row A

infixr 65 ◌<>>◌
abbrev pub ◌<>>◌ : {A : Type 0} → Row A → List A → List A
one a <>> l = a ∷ l
(r ▷ a) <>> l = r <>> (a ∷ l)

abbrev pub head : {A : Type 0} → Row A → A
head (one a) = a
head (r ▷ a) = head r

abbrev pub last : {A : Type 0} → Row A → A
last (one a) = a
last (r ▷ a) = a
