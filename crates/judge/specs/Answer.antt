-- The answer of the entry in the papers' words. Assumes nothing.
use Rattle.std.specs.Prelude.{ℕ, Result, Ok, Err, Option, Some, None}
use Rattle.std.proofs.Math.Option.{some, none}
use Rattle.refusals.specs.declared.Refusal.{Refusal}
use Rattle.refusals.specs.Numbers.{refusal_of}
use Rattle.log_conflicts.specs.Judge.{Judged, refused, named}

-- "An answer is the number and a place"; the judge "names the lowest index of an unordered access", else none
abbrev pub answered : Result (Option ℕ) Refusal → Judged
answered (Err r) = refused (refusal_of r)
answered (Ok (Some index)) = named (some index)
answered (Ok None) = named none
