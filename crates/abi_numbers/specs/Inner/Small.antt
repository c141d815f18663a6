-- Indexes and values that fit a returned number, as those of every answer do. For inner contracts; no reader of the entries' promises needs it.
-- Assumes nothing.
use Rattle.std.specs.Prelude.{◌≤◌, ◌<◌, ◌^◌}
use Rattle.std.proofs.Math.Option.{some, none}
use Rattle.log_conflicts.specs.Judge.{Judged, refused, named}
use Rattle.plan_refusals.specs.Inner.Small.{SmallRefusal}
use Rattle.listing_answers.specs.Interleavings.{Next}
use Rattle.read.specs.Read.{Read}

-- a judge's answer
abbrev pub SmallJudged : Judged → Type 0
SmallJudged (named none) = Unit {0}
SmallJudged (named (some j)) = j ≤ 4096
SmallJudged (refused r) = SmallRefusal r

-- of next_interleaving
abbrev pub SmallNext : Next → Type 0
SmallNext (Next.written n) = n < 2 ^ 32
SmallNext Next.over = Unit {0}
SmallNext (Next.refused r) = SmallRefusal r

-- of read
abbrev pub SmallRead : Read → Type 0
SmallRead (Read.written n) = n < 2 ^ 32
SmallRead Read.short = Unit {0}
SmallRead (Read.failed line column f) = Unit {0}
