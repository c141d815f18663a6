-- What the judge and the entry next_interleaving answer, whose refusals are of any type: by the number and place that are told of each.
-- For inner contracts; no reader of the entries' promises needs it. Assumes nothing.
use Rattle.std.specs.Prelude.{ℕ, Result, Ok, Err, Option, Some, None}
use Rattle.std.proofs.Math.Option.{some, none}
use Rattle.format.specs.Refusal.{Refusal}
use Rattle.log_conflicts.specs.Judge.{Judged, refused, named}
use Rattle.listing_answers.specs.Interleavings.{Next}

-- of the judge: the index of an unordered access, if there is one
abbrev pub judge_by : {E : Type 0} → (E → Refusal) → Result (Option ℕ) E → Judged
judge_by told (Err e) = refused (told e)
judge_by told (Ok (Some index)) = named (some index)
judge_by told (Ok None) = named none

-- of next_interleaving: the length of the following schedule, or that the list is over
abbrev pub next_by : {E : Type 0} → (E → Refusal) → Result (Option ℕ) E → Next
next_by told (Err e) = Next.refused (told e)
next_by told (Ok (Some n)) = Next.written n
next_by told (Ok None) = Next.over
