-- A lent area after something is written into it (document 01, "Who can cause a refusal"). Assumes nothing.
use Rattle.std.specs.Prelude.{ℕ, List, ◌++◌, length, drop}

-- "the log area begins with the records; its other bytes keep their values": the same of whatever bytes are written at an area's start
unfoldable pub overwrite : List ℕ → List ℕ → List ℕ
overwrite bytes area = bytes ++ drop (length bytes) area
