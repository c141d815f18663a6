-- `remainder` meets its contract. Assumes nothing.
use mathlib.Core.Path.{◌≡◌, sym, ap, ◌∙◌}
use Prim.Native.Nat.{ℕ, ◌<◌, ◌+◌, ◌*◌, ◌%◌}
use native.Mathlib.Omega.{arith}
use lib.Arith.{digits_mod}
use borrow.Author.Rules.{rules}
use Rattle.run_pick.proofs.remainder.Goals as goal

below : (n m : ℕ) → n < m → n ≡ n % m
below n m h = let e : 0 * m + n ≡ n = omega arith in sym (digits_mod 0 h) ∙ ap (λ (k : ℕ). k % m) e

pub returns-then-number-limit : goal.returns-then-number-limit
returns-then-number-limit c = below _ _ c.if-number-limit.true
