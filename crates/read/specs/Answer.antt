-- What the answer of `read` says, for each of its cases. Assumes nothing.
use Rattle.std.specs.Prelude.{ℕ, cond, eqb, ltb, Result, Ok, Err}
use Rattle.plan_reader.specs.Inner.Reading.{fault_of}
use Rattle.read.specs.Read as texts
use Rattle.read.specs.Read.{Failure, of_fault}
use Rattle.read.specs.declared.ReadError.{ReadError}
use Rattle.read.specs.declared.ReadError.TheVariants.{Short, Failed}

-- why, by the kind of the fault, 4 for too many tokens, and the parser's reason
unfoldable pub failure_of : ℕ → ℕ → Failure
unfolding fault_of
failure_of kind reason = cond (eqb kind 4) Failure.tokens (of_fault (fault_of kind reason))

-- the kinds from 3 on are one
unfoldable pub known_kind : ℕ → ℕ
known_kind kind = cond (ltb kind 3) kind 3

abbrev pub answered : Result ℕ ReadError → texts.Read
answered (Ok n) = texts.Read.written n
answered (Err Short) = texts.Read.short
answered (Err (Failed line column kind reason)) = texts.Read.failed line column (failure_of kind reason)
