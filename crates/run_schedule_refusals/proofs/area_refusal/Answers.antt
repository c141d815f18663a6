-- `area_refusal` meets its contract. Assumes nothing.
use mathlib.Core.Path.{◌≡◌, sym, ap, ◌∙◌}
use mathlib.Core.Option.{some, none}
use Prim.Native.Nat.{◌*◌}
use borrow.Author.Rules.{rules}
use borrow.Author.Tests.{lt-ltb, le-ltb}
use Rattle.format.specs.Refusal.{lowest, refuse, first_refusal}
use Rattle.format.proofs.LowestLaws.{whole, whole_none}
use Rattle.plan_refusals.specs.Answer.{answered}
use Rattle.plan_refusals.proofs.Stages.{told}
use Rattle.rules.specs.Play.{short_area}
use Rattle.run_schedule_refusals.proofs.area_refusal.Goals as goal

pub returns-then-area-picks : goal.returns-then-area-picks
unfolding answered refuse first_refusal
returns-then-area-picks c = λ s a d e.
    let m10 : lowest (λ place. short_area s a) 1 ≡ some 0 = whole (short_area s a) (unfold short_area in rw (d, e) (lt-ltb _ _ c.if-area-picks.true)) in
    told c.at.ensures ∙ sym (rw m10)

pub returns : goal.returns
unfolding answered refuse first_refusal
returns c = λ s a d e.
    let m10 : lowest (λ place. short_area s a) 1 ≡ none = whole_none (short_area s a) (unfold short_area in rw (d, e) (le-ltb _ _ c.if-area-picks.false)) in
    sym (rw m10)
