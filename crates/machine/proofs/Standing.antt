-- What holds of each thread of the machine in every state that a run of an accepted plan comes to: what is ready to move is there. Assumes nothing.
use Prim.Native.Nat.{ℕ, ◌<◌}
use mathlib.Core.Path.{◌≡◌, ap, ◌∙◌}
use mathlib.Core.Option.{some, map}
use lib.ListN.{length, get_elem?}
use Rattle.plan_packed.specs.Syntax.{Program}
use Rattle.rules.specs.State.{Cell, Thread, monitor_of, lookup, monitor}
use Rattle.rules.proofs.Decompose.{focus_whole}
use Rattle.rules.proofs.Placed.{Good, holds, GivenUp}
use Rattle.rules.proofs.Invariant.{In, held_by}
use Rattle.machine.specs.Inner.Machine as machine
use Rattle.machine.specs.Inner.Machine.{Table}
use Rattle.machine.proofs.Meaning.{mean}
use Rattle.machine.proofs.Runs.{Reached}
use Rattle.machine.proofs.StateMeaning.{thread_meant, get_map}

-- thread t of state s. `Good` says of what is ready that its objects are there, its field is 1 to 31 and its procedure has its count of arguments,
-- and the like of every frame.
pub record Standing (table : Table) (g : Program) (s : machine.State) (t : machine.Thread) : Type 0 where
  pub good : Good g (length s.objects) (mean table.node table.count t.expression)
  pub self_there : t.self < length s.objects
  -- the monitors of the holds that it has still to leave are its own, but for one that it has given up
  pub held : (o : ℕ) → In o (holds (mean table.node table.count t.expression))
      → (GivenUp (mean table.node table.count t.expression) o → ⊥) → monitor_of (get_elem? s.objects o) ≡ some (held_by (thread_meant table t))

pub standing : (table : Table) (g : Program) (s : machine.State) (p : ℕ) (t : machine.Thread) → Reached table g s → get_elem? s.threads p ≡ some t
    → Standing table g s t
unfolding monitor
standing table g s p t r h =
    let e = focus_whole (mean table.node table.count t.expression) in
    let d = r.reachable.invariant.each p (thread_meant table t) (get_map (thread_meant table) s.threads p ∙ ap (map (thread_meant table)) h) in
    record { good = rw e at d.good; self_there = d.self_there; held = rw e at d.held }

-- every value in a cell is an object that is there
pub cell_there : (table : Table) (g : Program) (s : machine.State) → Reached table g s → (o f : ℕ) (c : Cell) → lookup s o f ≡ some c
    → c.value < length s.objects
unfolding lookup
cell_there table g s r o f c h = r.reachable.invariant.cells o f c h
