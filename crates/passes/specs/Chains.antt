-- The chains of a list, made from the left (01, "Five passes": each pass "takes the previous list from the left, joins .. as far as its rule goes, and goes
-- on after them"). `begin a` is the chain that a begins; `next s a` is the chain s with a joined to it, or none where s ends before a. Definitions only.
--     from s l   the chains of what s and l make up, while the chain s is open
--     chains l   the chains of the list l
--     Assumes nothing.
use Rattle.std.specs.Prelude.{List, [], ◌∷◌}
use Rattle.std.proofs.Math.Option.{Option, none, some}

module _ {A S : Type 0} (begin : A → S) (next : S → A → Option S) where
  unfoldable pub from : S → List A → List S
  from s [] = s ∷ []
  from s (a ∷ l) = elim (next s a) [ some t ↦ from t l | none ↦ s ∷ from (begin a) l ]

  unfoldable pub chains : List A → List S
  chains [] = []
  chains (a ∷ l) = from (begin a) l
