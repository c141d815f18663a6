-- The 40 bytes of an outcome. Assumes nothing.
use Rattle.std.specs.Prelude.{ℕ, ◌/◌, ◌%◌, List, [], ◌∷◌}
use Rattle.rules.specs.Run.{Status, Outcome}
use Rattle.abi_thread_bytes.specs.Bytes.{stop_byte, thread_bytes}

-- four bytes to a thread, the fourth its total
unfoldable pub all_threads : List Status → List ℕ → List ℕ
unfolding thread_bytes
all_threads (s ∷ ss) (n ∷ ns) = (thread_bytes s).state ∷ (thread_bytes s).named ∷ (thread_bytes s).field ∷ n ∷ all_threads ss ns
all_threads (s ∷ ss) [] = []
all_threads [] ns = []

-- the stop; picks, moves and records, high byte first; 0; then the threads
unfoldable pub outcome_bytes : Outcome → List ℕ
unfolding stop_byte all_threads
outcome_bytes o =
    stop_byte o.stop
    ∷ o.picks / 256
    ∷ o.picks % 256
    ∷ o.moves / 256
    ∷ o.moves % 256
    ∷ o.records / 256
    ∷ o.records % 256
    ∷ 0
    ∷ all_threads o.threads o.totals
