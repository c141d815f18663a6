-- `text_race_lines::put_either` meets its contract. Assumes nothing.
use native.Mathlib.Omega.{arith}
use mathlib.Core.Path.{ap}
use lib.ListN.{length}
use Rattle.text.proofs.Added.{added_as}
use Rattle.text_race_lines.proofs.AccessKinds.{either_write, either_read}
use Rattle.text_race_lines.proofs.put_either.Goals as goal

pub put_word-requires : goal.put_word-requires
put_word-requires c = omega (arith, ap length (either_write c.args.kind c.args.write.now c.args.read.now c.in-3.is))

pub put_word-requires-in_default : goal.put_word-requires-in_default
put_word-requires-in_default c =
    omega (
      arith,
      ap length
          (either_read c.args.kind c.args.write.now c.args.read.now c.requires.1 c.in_default.in_default-own.rest.1),
    )

pub returns-in-3 : goal.returns-in-3
returns-in-3 c =
    added_as
    (either_write c.args.kind c.args.write.now c.args.read.now c.in-3.is)
    c.put_word.ensures

pub returns-in_default : goal.returns-in_default
returns-in_default c =
    added_as
    (either_read c.args.kind c.args.write.now c.args.read.now
    c.requires.1 c.in_default.in_default-own.rest.1)
    c.put_word-in_default.ensures
