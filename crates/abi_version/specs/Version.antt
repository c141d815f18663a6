-- The version of the entries for C and Rust. Assumes nothing.
use Rattle.std.specs.Prelude.{ℕ, ◌+◌, ◌*◌}

-- 1.3.0: major * 65536 + minor * 256 + patch
abbrev pub version : ℕ
version = 1 * 65536 + 3 * 256 + 0
