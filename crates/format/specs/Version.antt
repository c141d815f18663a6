-- Versions of plans. Assumes nothing.
use Rattle.std.specs.Prelude.{ℕ, cond, eqb}

-- "version 4 (1)"; "Plan version 0, which the check now accepts, means this rule: volatile reads and writes move values and no keys. Version 1 keeps its
-- meaning." (document 02, E8)
pub data Version : Type 0 where
  v0 v1 : Version

-- the version of a packed number; a number above 1, which refusals 2 and 14 turn away, is read as 0
unfoldable pub version_of : ℕ → Version
version_of n = cond (eqb n 1) v1 v0
