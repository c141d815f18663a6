-- `KeySet::word` meets its contract: each branch knows the word's number, k / 64. Assumes nothing.
use mathlib.Core.Path.{◌≡◌}
use Prim.Native.Nat.{◌/◌}
use native.Mathlib.Omega.{arith}
use Rattle.run_keys.proofs.KeySet.word.Goals as goal

pub returns-then-key-lt64 : goal.returns-then-key-lt64
returns-then-key-lt64 c = let e : c.args.key / 64 ≡ 0 = omega arith in rw e

pub returns-then-key-lt128 : goal.returns-then-key-lt128
returns-then-key-lt128 c = let e : c.args.key / 64 ≡ 1 = omega arith in rw e

pub returns-then-key-lt192 : goal.returns-then-key-lt192
returns-then-key-lt192 c = let e : c.args.key / 64 ≡ 2 = omega arith in rw e

pub returns-else-key-lt192 : goal.returns-else-key-lt192
returns-else-key-lt192 c = let e : c.args.key / 64 ≡ 3 = omega arith in rw e
