-- What a check's answer says: document 01's number and place for each refusal. Assumes nothing.
use Rattle.std.specs.Prelude.{Result, Ok, Err}
use Rattle.std.proofs.Math.Option.{Option, some, none}
use Rattle.format.specs.Refusal.{Refusal}
use Rattle.refusals.specs.declared.Refusal as code
use Rattle.refusals.specs.Numbers.{refusal_of}

-- "An answer is the number and a place"; none where the check passes
unfoldable pub answered : Result (Unit {0}) code.Refusal → Option Refusal
answered (Ok u) = none
answered (Err r) = some (refusal_of r)
