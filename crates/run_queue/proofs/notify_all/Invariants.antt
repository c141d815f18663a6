-- `notify_all` meets its contract. The loop's invariant: once the places from here on are changed too, all are. Assumes nothing.
use mathlib.Core.Path.{◌≡◌}
use Rattle.run_queue.specs.Inner.Queue.{freed, all_notified_of}
use Rattle.run_queue.proofs.Places.{changed_from}
use Rattle.run_queue.proofs.notify_all.Given as goal

abbrev pub invariant-loop-place : goal.invariant-loop-place
invariant-loop-place l = changed_from (freed l.object) l.place-index l.places ≡ all_notified_of l.object l.initial.places
