-- `log_packing::word_at` meets its contract: three bytes are 24 bits. Assumes nothing.
use Rattle.log_records.proofs.RoundTrip.{word24}
use mathlib.Core.List.{List}
use native.Mathlib.Omega.{arith}
use Prim.Native.Nat.{ℕ}
use borrow.Author.Rules.{rules}
use Rattle.log_packing.proofs.word_at.Goals as goal

pub returns : goal.returns
returns c =
    let b : List ℕ = c.args.log.now in
    let i : ℕ = c.args.index in
    let x = c.wide-first.ensures in
    let y = c.wide-second.ensures in
    let z = c.wide-third.ensures in
    record { value = omega (arith, word24 b i (omega arith) (omega arith) (omega arith)); result_in = omega arith }
