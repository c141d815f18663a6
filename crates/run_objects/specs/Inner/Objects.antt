-- What a new, a fork or a join does, by value. The machine that the code runs; no reader of the entries' promises needs it. Assumes nothing.
use Rattle.std.specs.Prelude.{ℕ, ◌+◌, cond, leb}
use Rattle.run_keys.specs.Inner.KeySet.{joined_of}
use Rattle.run_frames.specs.Inner.Going.{go_value}
use Rattle.run_state.specs.declared.Head.{Head}
use Rattle.run_state.specs.declared.Cell.{Cell}
use Rattle.run_state.specs.declared.Object.{Object}
use Rattle.run_state.specs.declared.Counts.{Counts}
use Rattle.log_records.specs.Record.{Kind, kind_number}
use Rattle.run_outcome.specs.declared.NoRoom.TheVariants as room
use Rattle.run_state.specs.declared.acted.Act.{Act}
use Rattle.run_state.specs.declared.acted.Act.TheVariants as act
use Rattle.run_state.specs.Inner.Acted.{entry_of, counts_of, acted_with, heard_of}

unfoldable pub act_new : Counts → Head → Cell → ℕ → Act
act_new n h c mask =
    cond (leb 32 n.objects)
    (act.NoRoom room.Object)
    (acted_with (go_value n.objects) (counts_of n.threads (n.objects + 1) n.keys) h.keys c (entry_of (kind_number Kind.new) n.objects 0 0) mask 8)

unfoldable pub act_fork : Counts → Head → Cell → Act
act_fork n h c =
    cond (leb 8 n.threads)
    (act.NoRoom room.Thread)
    (cond (leb 32 n.objects)
    (act.NoRoom room.Object)
    (acted_with (go_value n.objects) (counts_of (n.threads + 1) (n.objects + 1) n.keys) h.keys c
    (entry_of (kind_number Kind.fork) n.objects n.threads 0) 0 n.threads))

abbrev pub act_join : Counts → Head → Cell → Object → Head → ℕ → Act
act_join n h c t q o = heard_of (go_value q.ready.first) n (joined_of h.keys q.keys) c (entry_of (kind_number Kind.join) o t.thread q.ready.first)
