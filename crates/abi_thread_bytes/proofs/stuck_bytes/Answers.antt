-- `abi_thread_bytes::stuck_bytes` meets its contract: the bytes of each reason. Assumes nothing.
use native.Mathlib.Omega.{arith}
use Rattle.play.specs.Answer.{status_of, stuck_of}
use Rattle.abi_thread_bytes.specs.Bytes.{thread_bytes}
use borrow.Author.Rules.{rules}
use Rattle.abi_thread_bytes.proofs.stuck_bytes.Goals as goal

pub named-requires : goal.named-requires
unfolding status_of stuck_of
named-requires c = let h = rw c.in-Field.is at c.requires in (omega arith, omega arith)

pub named-requires-in-Thread : goal.named-requires-in-Thread
unfolding status_of stuck_of
named-requires-in-Thread c = let h = rw c.in-Thread.is at c.requires in (omega arith, omega arith)

pub named-requires-in-Monitor : goal.named-requires-in-Monitor
unfolding status_of stuck_of
named-requires-in-Monitor c = let h = rw c.in-Monitor.is at c.requires in (omega arith, omega arith)

pub returns-in-Field : goal.returns-in-Field
unfolding thread_bytes status_of stuck_of
returns-in-Field c = simp (c.named.ensures, c.in-Field.is)

pub returns-in-Thread : goal.returns-in-Thread
unfolding thread_bytes status_of stuck_of
returns-in-Thread c = simp (c.named-in-Thread.ensures, c.in-Thread.is)

pub returns-in-Monitor : goal.returns-in-Monitor
unfolding thread_bytes status_of stuck_of
returns-in-Monitor c = simp (c.named-in-Monitor.ensures, c.in-Monitor.is)

pub returns-in-NoRule : goal.returns-in-NoRule
unfolding thread_bytes status_of stuck_of
returns-in-NoRule c = simp (c.named-in-NoRule.ensures, c.in-NoRule.is)
