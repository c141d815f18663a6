-- `abi_thread_bytes::thread_bytes` meets its contract: the bytes of each state. Assumes nothing.
use native.Mathlib.Omega.{arith}
use Rattle.play.specs.Answer.{status_of}
use Rattle.abi_thread_bytes.specs.Bytes.{thread_bytes}
use borrow.Author.Rules.{rules}
use Rattle.abi_thread_bytes.proofs.thread_bytes.Goals as goal

pub named-requires-in-Finished : goal.named-requires-in-Finished
unfolding status_of
named-requires-in-Finished c = let h = rw c.in-Finished.is at c.requires in (omega arith, omega arith)

pub waiting_bytes-requires : goal.waiting_bytes-requires
waiting_bytes-requires c = rw c.in-Waiting.is at c.requires

pub stuck_bytes-requires : goal.stuck_bytes-requires
stuck_bytes-requires c = rw c.in-Stuck.is at c.requires

pub named-requires-in-Lacking : goal.named-requires-in-Lacking
unfolding status_of
named-requires-in-Lacking c = let h = rw c.in-Lacking.is at c.requires in (omega arith, omega arith)

pub returns-in-Absent : goal.returns-in-Absent
unfolding thread_bytes status_of
returns-in-Absent c = simp (c.named.ensures, c.in-Absent.is)

pub returns-in-Finished : goal.returns-in-Finished
unfolding thread_bytes status_of
returns-in-Finished c = simp (c.named-in-Finished.ensures, c.in-Finished.is)

pub returns-in-Ready : goal.returns-in-Ready
unfolding thread_bytes status_of
returns-in-Ready c = simp (c.named-in-Ready.ensures, c.in-Ready.is)

pub returns-in-Waiting : goal.returns-in-Waiting
returns-in-Waiting c = simp (c.waiting_bytes.ensures, c.in-Waiting.is)

pub returns-in-Stuck : goal.returns-in-Stuck
returns-in-Stuck c = simp (c.stuck_bytes.ensures, c.in-Stuck.is)

pub returns-in-Lacking : goal.returns-in-Lacking
unfolding thread_bytes status_of
returns-in-Lacking c = simp (c.named-in-Lacking.ensures, c.in-Lacking.is)
