-- Monitors that are held in a state of a run. Assumes nothing.
use Rattle.std.specs.Prelude.{ℕ, ◌≡◌}
use Rattle.std.proofs.Math.Option.{some}
use Rattle.std.proofs.Math.ListN.{get_elem?}
use Rattle.run_keys.specs.Keys.{empty}
use Rattle.plan_packed.specs.Syntax.{Expression}
use Rattle.rules.specs.Context.{Context, plug}
use Rattle.rules.specs.State.{cell, Thread, State, monitor}

-- some thread of the state holds the monitor of object o
pub record Held (s : State) (o : ℕ) : Type 0 where
  pub number : ℕ
  pub thread : Thread
  pub there : get_elem? s.threads number ≡ some thread
  -- "A monitor is free exactly when its set is not empty" (document 01): the set is empty, and the owner is the object that stands for the thread
  pub owned : monitor s o ≡ some (cell empty thread.self)
  -- "hold o do e": the thread has still to release it
  pub around : Context
  pub body : Expression
  pub pending : thread.expression ≡ plug around (Expression.hold o body)
