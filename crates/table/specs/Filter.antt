-- A filter over the code points of records, which stands in their index os behind its entries: a bit for each four code points in a row, 8,192 bits; code points that are
-- 65,536 apart share one, U+8000 to U+BFFF share those of U+4000 to U+7FFF, and U+C000 to U+FFFF those of U+0000 to U+3FFF. Definitions only.
--     most_entries      the most entries of an index
--     index_size        the words of an index: entries, then the filter
--     mark_word c       the word with the bit of the code point c; mark_bit c: the bit's number in it
--     mark os c        the bit of c
--     with_mark os c    the index with the bit of c set
--     Unmarked os c    the bit of c is not set
--     Filtered rs os   a code point whose bit is not set has no record among rs
-- Assumes nothing.
use Rattle.std.specs.Prelude.{◌≡◌, List, ℕ, ◌+◌, ◌*◌, ◌/◌, ◌%◌, ◌^◌, get_or, set}
use Rattle.std.proofs.Math.Option.{none}
use Rattle.std.specs.Int.Bits.{bit_or}
use Rattle.table.specs.Table.{Record, find}

abbrev pub most_entries : ℕ
most_entries = 256

abbrev pub index_size : ℕ
index_size = 512

abbrev pub mark_word : ℕ → ℕ
mark_word c = most_entries + (c / 128 + c / 32768 * 128) % 256

abbrev pub mark_bit : ℕ → ℕ
mark_bit c = c / 4 % 32

unfoldable pub mark : List ℕ → ℕ → ℕ
mark os c = get_or os (mark_word c) 0 / 2 ^ mark_bit c % 2

unfoldable pub with_mark : List ℕ → ℕ → List ℕ
with_mark os c = set os (mark_word c) (bit_or (get_or os (mark_word c) 0) (2 ^ mark_bit c))

abbrev pub Unmarked : List ℕ → ℕ → Type 0
Unmarked os c = mark os c ≡ 1 → ⊥

abbrev pub Filtered : List Record → List ℕ → Type 0
Filtered rs os = (c : ℕ) → Unmarked os c → find rs c ≡ none
