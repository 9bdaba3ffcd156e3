-- Words out of bytes.
use Rattle.std.specs.Prelude.{ℕ, ◌+◌, ◌*◌, List, slice_index}

-- a little-endian word of four bytes
abbrev pub word : ℕ → ℕ → ℕ → ℕ → ℕ
word a b c d = a + 256 * b + 65536 * c + 16777216 * d

-- the word that begins at byte 4 * k
abbrev pub word_at : List ℕ → ℕ → ℕ
word_at bytes k = word (slice_index bytes (4 * k)) (slice_index bytes (4 * k + 1)) (slice_index bytes (4 * k + 2)) (slice_index bytes (4 * k + 3))
