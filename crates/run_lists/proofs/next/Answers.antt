-- `next` meets its contract. Assumes nothing.
use native.Mathlib.Omega.{arith}
use Rattle.run_lists.specs.Inner.Lists.{code_at, next_at, one_at}
use Rattle.run_lists.proofs.next.Goals as goal

pub returns-then-valued : goal.returns-then-valued
unfolding code_at next_at one_at
returns-then-valued c = (
  rw (← c.valued.ensures, ← c.word-word.ensures, ← c.first.ensures, ← c.word.ensures)
      (simp (c.if-valued.true, c.code.ensures.0, c.second.ensures)),
  c.code.ensures.1,
  omega arith,
)

pub returns : goal.returns
unfolding code_at next_at one_at
returns c = (rw (← c.valued.ensures) (simp c.if-valued.false), omega arith, omega arith)
