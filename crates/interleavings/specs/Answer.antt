-- What the answer of `next_interleaving` says, for each of its cases. Assumes nothing.
use Rattle.std.specs.Prelude.{ℕ, Result, Ok, Err, Option, Some, None}
use Rattle.refusals.specs.declared.Refusal.{Refusal}
use Rattle.refusals.specs.Numbers.{refusal_of}
use Rattle.listing_answers.specs.Interleavings as papers

-- a refusal with its number and place; "the following one", by its length; or that "the list is over"
abbrev pub answered : Result (Option ℕ) Refusal → papers.Next
answered (Err r) = papers.Next.refused (refusal_of r)
answered (Ok (Some n)) = papers.Next.written n
answered (Ok None) = papers.Next.over
