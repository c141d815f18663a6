-- `log_clocks::less` meets its contract: below 32,768 a clock is the same number, signed or not. Assumes nothing.
use Prim.Native.Nat.{ℕ, ◌<◌}
use mathlib.Core.Path.{◌≡◌}
use lib.Dec.{ltb}
use lib.Signed.{lt_z}
use mir.Syntax.{w16}
use mir.Val.{to_z}
use borrow.Author.Tests.{lt-ltb}
use Rattle.log_clocks.proofs.less.Goals as goal

signed_less : (a b : ℕ) → a < 32768 → b < 32768 → lt_z (to_z w16 a) (to_z w16 b) ≡ ltb a b
signed_less a b h k = rw (lt-ltb a 32768 h, lt-ltb b 32768 k)

pub returns : goal.returns
returns c = signed_less _ _ c.requires.one_in c.requires.other_in
