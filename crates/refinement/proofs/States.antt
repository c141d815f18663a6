-- What the engine's state stands for: cells, objects, heads and places as numbers against a state of the abstract machine. Assumes nothing.
use Prim.Native.Nat.{ℕ, ◌+◌, ◌*◌, ◌≤◌, ◌<◌}
use mathlib.Core.Path.{◌≡◌}
use mathlib.Core.Bool.{Bool, true, false, cond, ◌&&◌}
use mathlib.Core.List.{List}
use mathlib.Core.Option.{Option, some, none}
use lib.Dec.{ltb}
use lib.ListN.{length, get_or, get_elem?}
use Rattle.run_keys.specs.Keys.{singleton}
use Rattle.run_keys.specs.Inner.KeySet.{keys_of}
use Rattle.run_keys.proofs.KeySetLaws.{Fits}
use Rattle.plan_packed.specs.Format.{version, volatiles}
use Rattle.rules.specs.Queue.{Place}
use Rattle.rules.specs.State.{fresh}
use Rattle.rules.specs.State as rules
use Rattle.machine.specs.Inner.Frames as frames
use Rattle.machine.specs.Inner.Memory.{Memory, objects_of}
use Rattle.machine.specs.Inner.Machine as machine
use Rattle.run_refocusing.specs.Inner.Refocusing.{Stack}
use Rattle.run_state.specs.declared.Setting.{Setting}
use Rattle.run_state.specs.declared.Head.{Head}
use Rattle.run_state.specs.declared.Cell.{Cell}
use Rattle.run_state.specs.declared.Object.{Object}
use Rattle.run_state.specs.declared.Counts.{Counts}
use Rattle.run_look.specs.Inner.Look.{has_of}
use Rattle.run_engine.specs.Inner.Engine as engine
use Rattle.run_engine.specs.Inner.Engine.{no_cell, no_object, head_at, cell_first}
use Rattle.refinement.proofs.Meant.{Holds, Stands, Sized}
use Rattle.refinement.proofs.Queues.{places_of, Places}

-- what the run of plan b goes by
abbrev pub setting_of : List ℕ → Setting
setting_of b = record { mask = volatiles b; version = version b }

-- the cell that a cell of the code stands for: a volatile field or a monitor has a set, a plain field one key
abbrev pub cell_meant : Bool → Cell → rules.Cell
cell_meant true c = rules.cell (keys_of c.keys) c.value
cell_meant false c = rules.cell (singleton c.key) c.value

pub record CellFits (c : Cell) : Type 0 where
  pub key : c.key < 256
  pub keys : Fits c.keys

-- the memory of n objects: cell 32 o + f is field f of object o
unfoldable pub memory_of : Setting → List Cell → List Object → ℕ → Memory
memory_of setting cs ts n =
    record {
      count = n;
      mask = λ o. cond (ltb o n) (get_or ts o no_object).mask 0;
      cells = λ o f. cond (ltb o 32 && ltb f 32) (cell_meant (has_of setting.mask f) (get_or cs (o * 32 + f) no_cell)) fresh;
    }

-- the number of the thread that a search found, 8 if none
abbrev pub number_of : Option machine.Numbered → ℕ
number_of none = 8
number_of (some q) = q.number

-- what the cells, the objects and the counts say of a state
pub record Kept (setting : Setting) (cs : List Cell) (ts : List Object) (n : Counts) (s : machine.State) : Type 0 where
  pub cells_size : length cs ≡ 1024
  pub objects_size : length ts ≡ 33
  pub threads_count : n.threads ≡ length s.threads
  pub objects_count : n.objects ≡ length s.objects
  pub keys_count : n.keys ≡ s.next_key
  pub objects : s.objects ≡ objects_of (memory_of setting cs ts n.objects)
  pub cells_fit : (i : ℕ) → CellFits (get_or cs i no_cell)
  -- no cell past the last object has been stored to
  pub fresh_past : (i : ℕ) → n.objects * 32 ≤ i → i < 1024 → get_or cs i no_cell ≡ cell_first
  pub numbers : (o : ℕ) → o < n.objects → (get_or ts o no_object).thread ≡ number_of (machine.thread_of 0 s.threads o)

-- what a head says of a thread whose frames begin at `base`
pub record Headed (b : List ℕ) (k : Stack) (base : ℕ) (h : Head) (t : machine.Thread) : Type 0 where
  pub stack : List frames.Frame
  pub held : Holds b k base stack
  pub depth : h.depth ≡ length stack
  pub shallow : length stack ≤ 32
  pub stands : Stands b h.ready stack t.expression
  pub object : h.object ≡ t.self
  pub keys : keys_of h.keys ≡ t.keys
  pub keys_fit : Fits h.keys
  pub learnt : h.learnt ≡ t.learnt

-- it says nothing of the thread's place
pub headed_elsewhere : {b : List ℕ} {k : Stack} {base : ℕ} {h : Head} {t : machine.Thread} (w : Place) → Headed b k base h t
    → Headed b k base h (machine.in_place w t)
headed_elsewhere w H = record {
  stack = H.stack;
  held = H.held;
  depth = H.depth;
  shallow = H.shallow;
  stands = H.stands;
  object = H.object;
  keys = H.keys;
  keys_fit = H.keys_fit;
  learnt = H.learnt;
}

-- the engine's state m stands for s, on plan b
pub record Related (b : List ℕ) (m : engine.EngineState) (s : machine.State) : Type 0 where
  pub heads_size : length m.heads ≡ 16
  pub sized : Sized b m.stack
  pub kept : Kept (setting_of b) m.cells m.objects m.tally.counts s
  pub each : (p : ℕ) (t : machine.Thread) → get_elem? s.threads p ≡ some t → Headed b m.stack (p * 33) (head_at m.heads p) t
  pub places_size : length m.places ≡ 8
  pub places : Places m.places (places_of s.threads)
