-- Bit fields of a list of bytes. Assumes nothing.
use Rattle.std.specs.Prelude.{ℕ, zero, suc, ◌+◌, ◌-◌, ◌*◌, ◌/◌, ◌%◌, ◌^◌, List, get_or}

-- "Fields are packed most significant bit first": bit 0 is the top bit of the first byte; past the end a bit is 0.
unfoldable pub bit_at : List ℕ → ℕ → ℕ
bit_at b i = get_or b (i / 8) 0 / 2 ^ (7 - i % 8) % 2

-- the number that stands in the w bits from bit i on
unfoldable pub bits_at : List ℕ → ℕ → ℕ → ℕ
unfolding bit_at
bits_at b i zero = 0
bits_at b i (suc w) = bits_at b i w * 2 + bit_at b (i + w)
