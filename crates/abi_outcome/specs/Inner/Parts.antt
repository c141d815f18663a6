-- Parts of the 40 bytes. For inner contracts; no reader of the entries' promises needs it. Assumes nothing.
use Rattle.std.specs.Prelude.{ℕ, ◌/◌, ◌%◌, List, set}
use Rattle.rules.specs.Run.{Stop}
use Rattle.abi_thread_bytes.specs.Bytes.{stop_byte}

-- the first seven bytes set
unfoldable pub head_bytes : List ℕ → Stop → ℕ → ℕ → ℕ → List ℕ
head_bytes l stop picks moves records =
    set (set (set (set (set (set (set l 0 (stop_byte stop)) 1 (picks / 256)) 2 (picks % 256)) 3 (moves / 256)) 4 (moves % 256)) 5 (records / 256)) 6
    (records % 256)
