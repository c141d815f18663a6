-- `judge::pass::by_rows` meets its contract. Assumes nothing.
use native.Mathlib.Omega.{arith}
use Rattle.judge.proofs.Going.{clear_rows}
use Rattle.judge.proofs.pass.by_rows.Goals as goal

pub pass-requires : goal.pass-requires
pass-requires g c = record { accepted = c.requires.accepted; clear = clear_rows c.args.places g.row.ROWS c.requires.most (omega (arith, c.requires.rows)) }
