-- `abi_thread_bytes::waiting_bytes` meets its contract: the bytes of each reason. Assumes nothing.
use native.Mathlib.Omega.{arith}
use Rattle.play.specs.Answer.{status_of, wait_of}
use Rattle.abi_thread_bytes.specs.Bytes.{thread_bytes}
use borrow.Author.Rules.{rules}
use Rattle.abi_thread_bytes.proofs.waiting_bytes.Goals as goal

pub named-requires : goal.named-requires
unfolding status_of wait_of
named-requires c = let h = rw c.in-Monitor.is at c.requires in (omega arith, omega arith)

pub named-requires-in-Join : goal.named-requires-in-Join
unfolding status_of wait_of
named-requires-in-Join c = let h = rw c.in-Join.is at c.requires in (omega arith, omega arith)

pub named-requires-in-Notify : goal.named-requires-in-Notify
unfolding status_of wait_of
named-requires-in-Notify c = let h = rw c.in-Notify.is at c.requires in (omega arith, omega arith)

pub returns-in-Monitor : goal.returns-in-Monitor
unfolding thread_bytes status_of wait_of
returns-in-Monitor c = simp (c.named.ensures, c.in-Monitor.is)

pub returns-in-Join : goal.returns-in-Join
unfolding thread_bytes status_of wait_of
returns-in-Join c = simp (c.named-in-Join.ensures, c.in-Join.is)

pub returns-in-Notify : goal.returns-in-Notify
unfolding thread_bytes status_of wait_of
returns-in-Notify c = simp (c.named-in-Notify.ensures, c.in-Notify.is)
