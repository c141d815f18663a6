-- Tokens in an area that is lent for them. Assumes nothing.
use Rattle.std.specs.Prelude.{ℕ, suc, ◌≤◌, ◌<◌, ◌≡◌, List, length}
use Rattle.format.specs.Area.{overwrite}

-- where the codes fit, the area begins with them and r is how many they are; where they do not, r is one more than the area has room for
pub record Kept (area codes after : List ℕ) (r : ℕ) : Type 0 where
  pub fits : length codes ≤ length area → (r ≡ length codes) × (after ≡ overwrite codes area)
  pub full : length area < length codes → r ≡ suc (length area)
  pub same : length after ≡ length area
