-- `abi_outcome::write_head` meets its contract: what it stores is what its callees ensure. Assumes nothing.
use Rattle.abi_outcome.specs.Inner.Parts.{head_bytes}
use Rattle.abi_outcome.proofs.write_head.Goals as goal

pub returns : goal.returns
unfolding head_bytes
returns c = simp (
  c.stop_byte.ensures,
  c.high.ensures,
  c.low.ensures,
  c.high-2.ensures,
  c.low-2.ensures,
  c.high-3.ensures,
  c.low-3.ensures,
)
