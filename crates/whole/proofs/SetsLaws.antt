-- Laws of rows of stores (`sets` of lib.Seq) that lib.Seq lacks, for the proofs of writers, here and in other crates.
-- Assumes nothing.
use Rattle.std.proofs.Common.{◌≡◌, ℕ, suc, ◌+◌, ◌<◌, List, [], ◌∷◌, ◌++◌, length, set, sym, refl, ◌∙◌, add-zero, add-suc, suc-add, arith}
use lib.Seq.{sets, set_comm}

pub sets_append : (s : List ℕ) (at : ℕ) (a b : List ℕ) → sets s at (a ++ b) ≡ sets (sets s at a) (at + length a) b
sets_append s at [] b = rw add-zero
sets_append s at (x ∷ a) b = sets_append (set s at x) (suc at) a b ∙ rw (suc-add, add-suc)

-- two rows of stores, the second where the first ends, are one
pub sets_then : (s : List ℕ) {t u : List ℕ} (at next : ℕ) (a b : List ℕ) → t ≡ sets s at a → next ≡ at + length a → u ≡ sets t next b → u ≡ sets s at (a ++ b)
sets_then s at next a b p e q = q ∙ rw (p, e) (sym (sets_append s at a b))

-- a store before a row of stores may as well come first
pub sets_set_before : (s : List ℕ) (at : ℕ) (bs : List ℕ) (i b : ℕ) → i < at → set (sets s at bs) i b ≡ sets (set s i b) at bs
sets_set_before s at [] i b h = refl
sets_set_before s at (x ∷ bs) i b h = sets_set_before (set s at x) (suc at) bs i b (omega arith) ∙ rw (set_comm s at i x b (λ e. omega arith))
