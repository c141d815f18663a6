-- A record of the log as the code puts it together. No reader of the entries' promises needs it. Assumes nothing.
use Rattle.std.specs.Prelude.{ℕ, ◌+◌, ◌*◌, ◌/◌, ◌%◌, List, set}

-- the 24 bits of kind, thread, object, field and value
abbrev pub word_of : ℕ → ℕ → ℕ → ℕ → ℕ → ℕ
word_of k p o f v = (((k % 16 * 8 + p % 8) * 32 + o % 32) * 32 + f % 32) * 128 + v % 32 * 4

-- 24 bits as record n of the bytes l
abbrev pub put_at : List ℕ → ℕ → ℕ → List ℕ
put_at l n w = set (set (set l (n * 3) (w / 65536 % 256)) (n * 3 + 1) (w / 256 % 256)) (n * 3 + 2) (w % 256)
