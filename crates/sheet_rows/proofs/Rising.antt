-- Lists whose elements rise: each stands in R to all behind it.
use mathlib.Core.Path.{refl}
use mathlib.Core.Logic.{◌⊎◌, inl, inr}
use mathlib.Core.List.Memᴰ
use mathlib.Core.List.{List, [], ◌∷◌, ◌++◌, Memᴰ}

module _ {A : Type 0} (R : A → A → Type 0) where
  abbrev pub Rises : List A → Type 0
  Rises [] = Unit {0}
  Rises (a ∷ l) = ((b : A) → Memᴰ b l → R a b) × Rises l

  pub rises_append : (s t : List A) → Rises s → Rises t → ((a b : A) → Memᴰ a s → Memᴰ b t → R a b) → Rises (s ++ t)
  rises_append [] t h k across = k
  rises_append (a ∷ s) t h k across = (
    λ b m. go b (Memᴰ.append_cases s m),
    rises_append s t h.1 k (λ c b m n. across c b (Memᴰ.tail m) n),
  )
    where
      go : (b : A) → Memᴰ b s ⊎ Memᴰ b t → R a b
      go b (inl m) = h.0 b m
      go b (inr m) = across a b (Memᴰ.head refl) m

  pub rises_behind : (s : List A) (a : A) (t : List A) → Rises (s ++ (a ∷ t)) → (b : A) → Memᴰ b t → R a b
  rises_behind [] a t h b m = h.0 b m
  rises_behind (c ∷ s) a t h b m = rises_behind s a t h.1 b m

-- in another order, that holds wherever R does
pub rises_in : {A : Type 0} (R S : A → A → Type 0) (l : List A) → ((a b : A) → Memᴰ a l → Memᴰ b l → R a b → S a b) → Rises R l → Rises S l
rises_in R S [] k h = tt
rises_in R S (a ∷ l) k h = (
  λ b m. k a b (Memᴰ.head refl) (Memᴰ.tail m) (h.0 b m),
  rises_in R S l (λ c d m n. k c d (Memᴰ.tail m) (Memᴰ.tail n)) h.1,
)
