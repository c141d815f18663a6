-- What a move does to the state, by value. The machine that the code runs; no reader of the entries' promises needs it. Assumes nothing.
use Rattle.std.specs.Prelude.{ℕ, ◌%◌}
use Rattle.run_keys.specs.declared.KeySet.{KeySet}
use Rattle.run_keys.specs.declared.Joined.{Joined}
use Rattle.run_frames.specs.declared.refocusing.Refocusing.{Refocusing}
use Rattle.run_state.specs.declared.Head.{Head}
use Rattle.run_state.specs.declared.Cell.{Cell}
use Rattle.run_state.specs.declared.Object.{Object}
use Rattle.run_state.specs.declared.Counts.{Counts}
use Rattle.run_state.specs.declared.Entry.{Entry}
use Rattle.run_state.specs.declared.acted.Act.{Act}
use Rattle.run_state.specs.declared.acted.Act.TheVariants as act

abbrev pub entry_of : ℕ → ℕ → ℕ → ℕ → Entry
entry_of k o f v = record { kind = k; object = o; field = f; value = v }

abbrev pub no_entry : Entry
no_entry = entry_of 0 0 0 0

abbrev pub object_with : ℕ → ℕ → Object
object_with mask q = record { mask = mask; thread = q }

abbrev pub nothing : Object
nothing = object_with 0 8

abbrev pub cell_of : ℕ → ℕ → KeySet → Cell
cell_of v k ks = record { keys = ks; value = v % 32; key = k }

abbrev pub counts_of : ℕ → ℕ → ℕ → Counts
counts_of t o k = record { threads = t; objects = o; keys = k }

-- a move, with the fields and the thread of the object that it makes
abbrev pub acted_with : Refocusing → Counts → KeySet → Cell → Entry → ℕ → ℕ → Act
acted_with g n ks c e mask q = act.Done (record { go = g; keys = ks; cell = c; object = object_with mask q; counts = n; entry = e; new = 0 })

abbrev pub acted_of : Refocusing → Counts → KeySet → Cell → Entry → Act
acted_of g n ks c e = acted_with g n ks c e 0 8

-- a move that joins a set into the mover's, and counts the new keys
abbrev pub heard_of : Refocusing → Counts → Joined → Cell → Entry → Act
heard_of g n j c e = act.Done (record { go = g; keys = j.keys; cell = c; object = nothing; counts = n; entry = e; new = j.new })

abbrev pub go_on : Refocusing → Counts → Head → Cell → Act
go_on g n h c = acted_of g n h.keys c no_entry
