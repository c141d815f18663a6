-- `half`: two bytes, joined.
use mathlib.Core.Path.{sym}
use Prim.Native.Nat.{ℕ, ◌+◌, ◌*◌, ◌<◌}
use native.Mathlib.Omega.{arith}
use Rattle.format.proofs.BitLaws.{byte_at, joined}
use lib.ListN.{get_or}
use borrow.Author.Rules.{rules}
use Rattle.byte_numbers.proofs.half.Goals as goal

pub returns : goal.returns
returns c =
    let a = c.args in
    let g : (j : ℕ) → get_or a.bytes.now j 0 < 256 = λ j. (c.shared_slice_known-3-1.given j).fits in (
      rw (c.wide-high.ensures.0, c.wide-low.ensures.0)
          (sym (joined a.bytes.now (a.at * 8) ((a.at + 1) * 8) 8 8 _ _ (byte_at a.bytes.now a.at (g a.at))
          (byte_at a.bytes.now (a.at + 1) (g (a.at + 1))) (omega arith))),
      omega arith,
    )
