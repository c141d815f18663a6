-- Which kinds of records write a plain field (document 02, E7). Assumes nothing.
use Rattle.std.specs.Prelude.{Bool, true, false}
use Rattle.log_records.specs.Record.{Kind, new, read, write, readv, writev, acquire, release, fork, join, lacks_read, lacks_write}

-- "writes (kind 3 or 11)", whether or not the write's key was there
abbrev pub is_write : Kind → Bool
is_write new = false
is_write read = false
is_write write = true
is_write readv = false
is_write writev = false
is_write acquire = false
is_write release = false
is_write fork = false
is_write join = false
is_write lacks_read = false
is_write lacks_write = true
