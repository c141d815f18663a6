-- The lines of a run's records (document 01, "Shot list"). Assumes nothing.
use Rattle.std.specs.Prelude.{ℕ, suc, List, [], ◌∷◌, ◌++◌}
use Rattle.log_records.specs.Record as kind
use Rattle.log_records.specs.Record.{Kind, Record}
use Rattle.text.specs.Text.{ascii, decimal, line}

-- "Kind words, from 1: new, read, write, readv, writev, acquire, release, fork, join, lacks-read, lacks-write."
unfoldable pub kind_word : Kind → List ℕ
unfolding ascii
kind_word kind.new = ascii "new"
kind_word kind.read = ascii "read"
kind_word kind.write = ascii "write"
kind_word kind.readv = ascii "readv"
kind_word kind.writev = ascii "writev"
kind_word kind.acquire = ascii "acquire"
kind_word kind.release = ascii "release"
kind_word kind.fork = ascii "fork"
kind_word kind.join = ascii "join"
kind_word kind.lacks_read = ascii "lacks-read"
kind_word kind.lacks_write = ascii "lacks-write"

-- "Columns: index, kind, thread, object, field, value"
unfoldable pub record_line : ℕ → Record → List ℕ
unfolding line decimal kind_word
record_line i r =
    line (decimal i ∷ kind_word r.kind ∷ decimal r.thread ∷ decimal r.object ∷ decimal r.field ∷ decimal r.value ∷ [])

-- a line for each record, the first of them with index i
unfoldable pub record_lines : ℕ → List Record → List ℕ
unfolding record_line
record_lines i [] = []
record_lines i (r ∷ L) = record_line i r ++ record_lines (suc i) L
