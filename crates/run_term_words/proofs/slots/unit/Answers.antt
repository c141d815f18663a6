-- `unit` meets its contract. Assumes nothing.
use Rattle.run_term_words.proofs.Units.{one_shl, unit_lt}
use lib.Pow.{pow_pos}
use Prim.Native.Nat.{◌*◌}
use borrow.Author.Rules.{rules}
use Rattle.run_term_words.proofs.slots.unit.Goals as goal

pub returns : goal.returns
returns c = (
  one_shl c.args.slot c.requires,
  rw (one_shl c.args.slot c.requires) (pow_pos (c.args.slot * 5)),
  rw (one_shl c.args.slot c.requires) (unit_lt c.args.slot c.requires),
)
