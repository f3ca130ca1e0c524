-- Numbers in the bytes of a table: little-endian.
use Rattle.std.specs.Prelude.{ℕ, ◌+◌, ◌*◌, List, slice_index}

-- the 2-byte number that begins at byte i
unfoldable pub u16_at : List ℕ → ℕ → ℕ
u16_at b i = slice_index b i + slice_index b (i + 1) * 256

-- the 4-byte number that begins at byte i
unfoldable pub u32_at : List ℕ → ℕ → ℕ
u32_at b i = slice_index b i + slice_index b (i + 1) * 256 + slice_index b (i + 2) * 65536 + slice_index b (i + 3) * 16777216
