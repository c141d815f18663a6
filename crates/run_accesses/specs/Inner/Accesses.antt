-- What a read or a write of a field does, by value. The machine that the code runs; no reader of the entries' promises needs it. Assumes nothing.
use Rattle.std.specs.Prelude.{ℕ, ◌+◌, cond, eqb, leb}
use Rattle.run_keys.specs.declared.KeySet.{KeySet}
use Rattle.run_keys.specs.Inner.KeySet.{empty_set, learn_of, join_of, joined_of}
use Rattle.run_frames.specs.Inner.Going.{go_value}
use Rattle.run_state.specs.declared.Head.{Head}
use Rattle.run_state.specs.declared.Cell.{Cell}
use Rattle.run_state.specs.declared.Counts.{Counts}
use Rattle.log_records.specs.Record.{Kind, kind_number}
use Rattle.run_outcome.specs.declared.NoRoom.TheVariants as room
use Rattle.run_state.specs.declared.Setting.{Setting}
use Rattle.run_state.specs.declared.acted.Act.{Act}
use Rattle.run_state.specs.declared.acted.Act.TheVariants as act
use Rattle.run_state.specs.Inner.Acted.{entry_of, cell_of, counts_of, acted_of, heard_of}
use Rattle.run_look.specs.Inner.Look.{has_of}

-- what a volatile access passes on of a set: all of it in version 1, and else nothing
unfoldable pub passed_of : Setting → KeySet → KeySet
passed_of g ks = cond (eqb g.version 1) ks empty_set

unfoldable pub act_read : Setting → Counts → Head → Cell → ℕ → ℕ → Act
unfolding passed_of
act_read g n h c o f =
    cond (has_of g.mask f)
    (heard_of (go_value c.value) n (joined_of h.keys (passed_of g c.keys)) c (entry_of (kind_number Kind.readv) o f c.value))
    (acted_of (go_value c.value) n h.keys c (entry_of (kind_number Kind.read) o f c.value))

unfoldable pub act_write : Setting → Counts → Head → Cell → ℕ → ℕ → ℕ → Act
unfolding passed_of
act_write g n h c o f v =
    cond (has_of g.mask f)
    (acted_of (go_value v) n h.keys (cell_of v 0 (join_of c.keys (passed_of g h.keys))) (entry_of (kind_number Kind.writev) o f v))
    (cond (leb 256 n.keys)
    (act.NoRoom room.Key)
    (acted_of (go_value v) (counts_of n.threads n.objects (n.keys + 1)) (learn_of h.keys n.keys) (cell_of v n.keys c.keys)
    (entry_of (kind_number Kind.write) o f v)))
