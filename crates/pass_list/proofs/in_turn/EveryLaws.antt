-- Laws of `Every`: lists one after the other; a weaker property.
use mathlib.Core.List.{List, [], ◌∷◌, ◌++◌}
use Rattle.pass_list.specs.StoredEdge.{Every, nil, cons}

pub every_append : {A : Type 0} (P : A → Type 0) (l m : List A) → Every P l → Every P m → Every P (l ++ m)
every_append P [] m nil k = k
every_append P (a ∷ l) m (cons p h) k = cons p (every_append P l m h k)

pub every_map : {A : Type 0} (P Q : A → Type 0) → ((a : A) → P a → Q a) → (l : List A) → Every P l → Every Q l
every_map P Q f [] nil = nil
every_map P Q f (a ∷ l) (cons p h) = cons (f a p) (every_map P Q f l h)
