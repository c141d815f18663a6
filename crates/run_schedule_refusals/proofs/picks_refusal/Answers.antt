-- `picks_refusal` meets its contract. Assumes nothing.
use mathlib.Core.Path.{◌≡◌, refl, sym, ap, ◌∙◌}
use mathlib.Core.Option.{some, none}
use lib.ListN.{length}
use borrow.Author.Rules.{rules}
use borrow.Author.Tests.{lt-ltb, le-ltb}
use Rattle.format.specs.Refusal.{lowest, refuse, first_refusal}
use Rattle.format.proofs.LowestLaws.{whole, whole_none, missed, struck}
use Rattle.plan_refusals.specs.Answer.{answered}
use Rattle.plan_refusals.proofs.Stages.{told}
use Rattle.rules.specs.Play.{too_many_picks, wrong_pick}
use Rattle.run_schedule_refusals.proofs.picks_refusal.Goals as goal

pub returns-then-schedule-gt4096 : goal.returns-then-schedule-gt4096
unfolding answered refuse first_refusal
returns-then-schedule-gt4096 c =
    let s = c.args.schedule.now in
    let m8 : lowest (λ place. too_many_picks s) 1 ≡ some 0 = whole (too_many_picks s) (unfold too_many_picks in lt-ltb 4096 _ c.if-schedule-gt4096.true) in
    told c.at.ensures ∙ sym (rw m8)

pub returns-then-pick-schedule : goal.returns-then-pick-schedule
unfolding answered refuse first_refusal
returns-then-pick-schedule c =
    let s = c.args.schedule.now in
    let m8 : lowest (λ place. too_many_picks s) 1 ≡ none =
    whole_none (too_many_picks s) (unfold too_many_picks in le-ltb 4096 _ c.if-schedule-gt4096.false) in
    let w = c.lowest_wrong_pick-pick in
    let m9 : lowest (wrong_pick s) (length s) ≡ some w.result = struck (wrong_pick s) (length s) (length s) _ refl w.ensures c.if-pick-schedule.true in
    told c.at-then-pick-schedule.ensures ∙ sym (rw (m8, m9))

pub returns : goal.returns
unfolding answered refuse first_refusal
returns c =
    let s = c.args.schedule.now in
    let m8 : lowest (λ place. too_many_picks s) 1 ≡ none = whole_none (too_many_picks s) (unfold too_many_picks in le-ltb 4096 _ c.if-schedule-gt4096.false) in
    let w = c.lowest_wrong_pick-pick in
    let m9 : lowest (wrong_pick s) (length s) ≡ none = missed (wrong_pick s) (length s) (length s) _ refl w.ensures c.if-pick-schedule.false in
    sym (rw (m8, m9))
