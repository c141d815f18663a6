-- `judge::judge_version` meets its contract: the refusals in the order of their numbers, then the pass. Assumes nothing.
use Rattle.log_refusals.proofs.Refused.{refused_length, refused_record, not_refused}
use Rattle.log_conflicts.specs.Judge.{refuses}
use Rattle.log_records.specs.Refusals.{log_refusal}
use mathlib.Core.Path.{◌≡◌, sym, ◌∙◌}
use mathlib.Core.Option.{none}
use Rattle.judge.proofs.judge_version.Goals as goal
use Rattle.judge.proofs.judge_version.Goals.{Else-wrong-log}

pub returns-then-wrong_length : goal.returns-then-wrong_length
returns-then-wrong_length c = rw c.at.ensures (refuses (refused_length c.args.log.now (sym c.if-wrong_length.true ∙ c.wrong_length.ensures)))

pub returns-then-wrong-log : goal.returns-then-wrong-log
returns-then-wrong-log c = rw c.at-then-wrong-log.ensures (refuses
    (refused_record c.args.log.now c.lowest_wrong-wrong.result
    (sym c.if-wrong_length.false ∙ c.wrong_length.ensures) c.lowest_wrong-wrong.ensures c.if-wrong-log.true))

-- past both tests nothing refuses the log
passed : (p : Else-wrong-log) → log_refusal p.args.log.now ≡ none
passed p = not_refused p.args.log.now p.lowest_wrong-wrong.result
    (sym p.if-wrong_length.false ∙ p.wrong_length.ensures) p.lowest_wrong-wrong.ensures p.if-wrong-log.false

pub short-requires : goal.short-requires
short-requires c = record { accepted = passed (goal.at.short-requires c).Else-wrong-log; short = c.if-log-le64.true }

pub middle-requires : goal.middle-requires
middle-requires c = record { accepted = passed (goal.at.middle-requires c).Else-wrong-log; short = c.if-log-le128.true }

pub long-requires : goal.long-requires
long-requires c = passed (goal.at.long-requires c).Else-wrong-log
