-- What a thread does by the move of a record, in words. Assumes nothing.
use Rattle.std.specs.Prelude.{ℕ, List, ◌++◌}
use Rattle.log_records.specs.Record.{Kind, new, read, write, readv, writev, acquire, release, fork, join, lacks_read, lacks_write, Record}
use Rattle.text_phrases.specs.Phrase.{phrase}

-- "Fork gives the new thread's object, and its number as field; join gives the object, the thread number as field": a field, or a thread, and its object
unfoldable pub record_words_by : Kind → ℕ → ℕ → List ℕ
record_words_by new o f = phrase " makes object " o
record_words_by read o f = phrase " reads field " f ++ phrase " of object " o
record_words_by write o f = phrase " writes field " f ++ phrase " of object " o
record_words_by readv o f = phrase " reads volatile field " f ++ phrase " of object " o
record_words_by writev o f = phrase " writes volatile field " f ++ phrase " of object " o
record_words_by acquire o f = phrase " acquires the monitor of object " o
record_words_by release o f = phrase " releases the monitor of object " o
record_words_by fork o f = phrase " forks thread " f ++ phrase " of object " o
record_words_by join o f = phrase " joins thread " f ++ phrase " of object " o
record_words_by lacks_read o f = phrase " reads, without its key, field " f ++ phrase " of object " o
record_words_by lacks_write o f = phrase " writes, without its key, field " f ++ phrase " of object " o

-- what a thread does by the move of a record
unfoldable pub record_words : Record → List ℕ
record_words r = record_words_by r.kind r.object r.field
