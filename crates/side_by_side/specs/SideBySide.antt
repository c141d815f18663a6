-- From a race, the two accesses side by side (document 02, E10). Assumes nothing.
use Rattle.std.specs.Prelude.{ℕ, suc, ◌<◌, ◌≤◌, ◌≡◌, Bool, false, List, ◌⊎◌, ◌↔◌, T, length}
use Rattle.std.proofs.Math.Option.{Option, some}
use Rattle.std.proofs.Math.ListN.{get_elem?}
use Rattle.format.specs.Version.{v1}
use Rattle.plan_packed.specs.Syntax.{Program}
use Rattle.log_records.specs.Record.{Kind, Record}
use Rattle.log_order.specs.Chains.{At, Chain, LastWrite}
use Rattle.rules.specs.Context.{Context, Redex, Focus, focus, top}
use Rattle.rules.specs.State.{Cell, Thread, State, lookup}
use Rattle.rules.specs.Rules.{is_volatile}
use Rattle.rules.specs.Run.{Stop, play, instances}
use Rattle.side_by_side.specs.Moves.{moves_of}
use Rattle.side_by_side.specs.Schedule.{Numbers, picks_of, numbers_of}

-- Move k stays: it has a chain to the failing access, at index j, or to the last write, at index i, and is not that write.
pub record Stays (L : List Record) (j i k : ℕ) : Type 0 where
  pub chain : Chain v1 L k j ⊎ Chain v1 L k i
  pub not_write : k ≡ i → ⊥

-- "its moving picks, in order, without those moves (unlogged ones counted as moves too) that have no chain to the failing access or to the last
-- write, and without that write; picks are renumbered": qs is what is written from the moves L
pub record WrittenFrom (L : List Record) (qs : List ℕ) : Type 0 where
  pub failing : ℕ  -- the failing access is the last of all
  pub access : Record
  pub at_failing : At L failing access
  pub at_end : suc failing ≡ length L
  pub last : ℕ  -- the last write of its field
  pub is_last : LastWrite L failing access.object access.field last
  pub kept : ℕ → Bool
  pub kept_stays : (k : ℕ) → T (kept k) ↔ Stays L failing last k
  pub picks_are : qs ≡ picks_of kept L

-- and from the run of ps
abbrev pub Written : Program → List ℕ → List ℕ → Type 0
Written g ps qs = WrittenFrom (moves_of g ps) qs

-- thread p of state s is about to do x
pub record About (s : State) (p : ℕ) (x : Redex) : Type 0 where
  pub thread : Thread
  pub there : get_elem? s.threads p ≡ some thread
  pub around : Context
  pub next_is : focus top thread.expression ≡ Focus.here around x

-- the part x is the access r, up to the numbering ω of objects
pub data Renamed (ω : Numbers) (r : Record) : Redex → Type 0 where
  reads : {o : ℕ} → r.kind ≡ Kind.lacks_read → ω r.object ≡ some o → Renamed ω r (Redex.read o r.field)
  writes : {o v : ℕ} → (r.kind ≡ Kind.lacks_write) ⊎ (r.kind ≡ Kind.write) → ω r.object ≡ some o → ω r.value ≡ some v
      → Renamed ω r (Redex.write o r.field v)

-- "Played, every pick moves, and at its end the two threads' next moves are the write and the failing access, on the same field of the same object
-- up to numbering."
pub record SideBySide (g : Program) (ps qs : List ℕ) (w : Written g ps qs) : Type 0 where
  pub ends : (play g qs).stop ≡ Stop.end
  pub every_pick_moves : length (instances (play g qs)) ≡ length qs
  pub objects : Numbers  -- the objects' new numbers
  pub apart : (o o' a : ℕ) → objects o ≡ some a → objects o' ≡ some a → o ≡ o'
  pub writer : ℕ
  pub writer_is : numbers_of w.kept (moves_of g ps) w.is_last.write_record.thread ≡ some writer
  pub write_part : Redex
  pub about_write : About (play g qs).final writer write_part
  pub is_write : Renamed objects w.is_last.write_record write_part
  pub other : ℕ
  pub other_is : numbers_of w.kept (moves_of g ps) w.access.thread ≡ some other
  pub access_part : Redex
  pub about_access : About (play g qs).final other access_part
  pub is_access : Renamed objects w.access access_part
  pub two_threads : writer ≡ other → ⊥
  pub field_there : (o : ℕ) → objects w.access.object ≡ some o → (d : Cell) × (lookup (play g qs).final o w.access.field ≡ some d)
  pub plain : is_volatile g w.access.field ≡ false
  -- it is a schedule: refusals 8 and 9 do not meet it
  pub no_longer : length qs < length ps
  pub below_8 : (i q : ℕ) → get_elem? qs i ≡ some q → q < 8
