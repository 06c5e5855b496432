-- Markers and signs as the code finds them: by their bytes as they count, at an offset of the line. Definitions only.
--     wide_bytes a b c       the three bytes are those of a wide character, U+FF01 to U+FF5E, where they are those of a character
--     folded_bytes s         the bytes s as they count: those of a wide character as its ASCII byte, any other as itself
--     bytes_at s at m        the bytes m stand in s at the offset at, both as they count
--     LastDiffers s end m   m has a byte, and its last one and the last before the offset end of s differ in their lowest five bits, which a fold keeps
--     size_at s at m         how many characters m has, where it stands there; otherwise 0
--     longest_at s at ms     how many characters the longest of the texts ms has that stand in s at the offset at; 0 where none does
--     marker_of r            an answer of `marker_at` as the definitions have it
--     stands_from w p n m    the text m stands at one of the n places from p on of the line's characters w
--     any_stands w p n ms    one of the texts ms does
--     marked t w            a marker of the table t stands at some place of the line's characters w
--     sign_of w p m          what `sign_before` answers: the sign m stands directly before place p of the line's characters w, or it does not
--     Formed ms             each of the texts ms is well-formed
--     Assumes nothing.
use Rattle.std.specs.Prelude.{ℕ, zero, suc, ◌+◌, ◌*◌, ◌-◌, ◌%◌, ◌<◌, ◌≡◌, Bool, true, false, cond, ◌&&◌, ◌||◌, List, [], ◌∷◌, length, take, drop, get_or, eqb, leb, Option, Some, None}
use Rattle.text.specs.Bytes.{same}
use Rattle.text.specs.Text.{chars, well_formed}
use Rattle.table.specs.Table.{Text, Table}
use Rattle.pass_list.specs.StoredEdge.{Every}
use Rattle.numbers.specs.Fractions.{larger, stands_at}
use Rattle.numbers.specs.Fractions as numbers
use Rattle.numbers.specs.Signs.{ends_at}
use Rattle.markers.specs.declared.Marker.{Marker}

-- U+FF01 is EF BC 81, U+FF5E is EF BD 9E; the last two bytes, the first of them times 64, count as the code point does, less 53120
abbrev pub wide_bytes : ℕ → ℕ → ℕ → Bool
wide_bytes a b c = eqb a 0xEF && (leb 12161 (b * 64 + c) && leb (b * 64 + c) 12254)

unfoldable pub folded_bytes : List ℕ → List ℕ
folded_bytes [] = []
folded_bytes (a ∷ []) = a ∷ []
folded_bytes (a ∷ b ∷ []) = a ∷ b ∷ []
folded_bytes (a ∷ b ∷ c ∷ s) = cond (wide_bytes a b c) ((b * 64 + c - 12128) ∷ folded_bytes s) (a ∷ folded_bytes (b ∷ c ∷ s))

-- the bytes s begin with x
abbrev pub begins : List ℕ → List ℕ → Bool
begins s x = same (take (length x) s) x

abbrev pub bytes_at : List ℕ → ℕ → Text → Bool
bytes_at s at m = begins (folded_bytes (drop at s)) (folded_bytes m)

abbrev pub LastDiffers : List ℕ → ℕ → Text → Type 0
LastDiffers s end m = (0 < length m) × (get_or s (end - 1) 0 % 32 ≡ get_or m (length m - 1) 0 % 32 → ⊥)

unfoldable pub size_at : List ℕ → ℕ → Text → ℕ
size_at s at m = cond (bytes_at s at m) (length (chars m)) 0

unfoldable pub longest_at : List ℕ → ℕ → List Text → ℕ
longest_at s at [] = 0
longest_at s at (m ∷ ms) = larger (size_at s at m) (longest_at s at ms)

abbrev pub marker_of : Option Marker → numbers.Marker
marker_of (Some (Marker.Percentage n)) = numbers.percentage n
marker_of (Some (Marker.Connector n)) = numbers.connector n
marker_of None = numbers.no_marker

unfoldable pub stands_from : List ℕ → ℕ → ℕ → Text → Bool
stands_from w p zero m = false
stands_from w p (suc n) m = stands_at w p m || stands_from w (suc p) n m

unfoldable pub any_stands : List ℕ → ℕ → ℕ → List Text → Bool
any_stands w p n [] = false
any_stands w p n (m ∷ ms) = stands_from w p n m || any_stands w p n ms

abbrev pub marked : Table → List ℕ → Bool
marked t w = any_stands w 0 (length w) t.percentage_markers || any_stands w 0 (length w) t.fraction_connectors

abbrev pub sign_of : List ℕ → ℕ → Text → Option ℕ
sign_of w p m = cond (ends_at w p m) (Some (length (chars m))) None

abbrev pub Formed : List Text → Type 0
Formed = Every (λ m. well_formed m ≡ true)
