-- `abi_preview::stop_bytes` meets its contract: the byte of the stop, and two zeros. Assumes nothing.
use mathlib.Core.Path.{ap}
use Rattle.abi_thread_bytes.specs.Bytes.{three}
use Prim.Native.Nat.{ℕ}
use Rattle.abi_preview.proofs.stop_bytes.Goals as goal

pub returns : goal.returns
returns c = ap (λ (b : ℕ). three b 0 0) c.stop_byte.ensures
