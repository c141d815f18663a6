-- A cell as a run keeps it, for inner contracts: key 0 is put into its set or taken out of it. No reader of the entries' promises needs it. Assumes nothing.
use Rattle.std.specs.Int.Bits.{bit_xor}
use Rattle.run_keys.specs.declared.KeySet.{KeySet}
use Rattle.run_keys.specs.Inner.KeySet.{empty_set}
use Rattle.run_state.specs.declared.Cell.{Cell}
use Rattle.run_engine.specs.declared.kept.Kept.{Kept}

-- the set with key 0 put in or taken out
abbrev pub turned_of : KeySet → KeySet
turned_of s = record { w0 = bit_xor s.w0 1; w1 = s.w1; w2 = s.w2; w3 = s.w3 }

abbrev pub keep_of : Cell → Kept
keep_of c = record { keys = turned_of c.keys; value = c.value; key = c.key }

abbrev pub restore_of : Kept → Cell
restore_of c = record { keys = turned_of c.keys; value = c.value; key = c.key }

-- the first cell, all zeros
abbrev pub kept_first : Kept
kept_first = record { keys = empty_set; value = 0; key = 0 }
