-- `picks_refusal_with` meets its contract. Assumes nothing.
use Prim.Native.Nat.{ℕ, ◌+◌}
use native.Mathlib.Omega.{arith}
use mathlib.Core.Path.{◌≡◌, sym, ap, ◌∙◌}
use mathlib.Core.List.{List, [], ◌∷◌, ◌++◌}
use mathlib.Core.Option.{some, none}
use lib.ListN.{length}
use borrow.Author.Rules.{rules}
use Rattle.format.specs.Refusal.{lowest, refuse, first_refusal}
use Rattle.format.proofs.LowestLaws.{whole, whole_none, missed, struck}
use Rattle.plan_refusals.specs.Answer.{answered}
use Rattle.plan_refusals.proofs.Stages.{told}
use Rattle.rules.specs.Play.{too_many_picks, wrong_pick}
use Rattle.run_schedule_refusals.proofs.WithPick.{length_with, too_many_with, few_with}
use Rattle.run_schedule_refusals.proofs.picks_refusal_with.Goals as goal

pub returns-then-schedule-gt4095 : goal.returns-then-schedule-gt4095
unfolding answered refuse first_refusal
returns-then-schedule-gt4095 c =
    let q = c.args.schedule.now in
    let p = c.args.pick in
    let s : List ℕ = q ++ (p ∷ []) in
    let m8 : lowest (λ place. too_many_picks s) 1 ≡ some 0 = whole (too_many_picks s) (too_many_with q p c.if-schedule-gt4095.true) in
    told c.at.ensures ∙ sym (rw m8)

pub returns-then-wrong-schedule : goal.returns-then-wrong-schedule
unfolding answered refuse first_refusal
returns-then-wrong-schedule c =
    let q = c.args.schedule.now in
    let p = c.args.pick in
    let s : List ℕ = q ++ (p ∷ []) in
    let m8 : lowest (λ place. too_many_picks s) 1 ≡ none = whole_none (too_many_picks s) (few_with q p c.if-schedule-gt4095.false) in
    let w = c.lowest_wrong_with-wrong in
    let m9 : lowest (wrong_pick s) (length s) ≡ some w.result =
    struck (wrong_pick s) (length q + 1) (length s) _ (sym (length_with q p)) w.ensures (omega (arith, c.if-wrong-schedule.true)) in
    told c.at-then-wrong-schedule.ensures ∙ sym (rw (m8, m9))

pub returns : goal.returns
unfolding answered refuse first_refusal
returns c =
    let q = c.args.schedule.now in
    let p = c.args.pick in
    let s : List ℕ = q ++ (p ∷ []) in
    let m8 : lowest (λ place. too_many_picks s) 1 ≡ none = whole_none (too_many_picks s) (few_with q p c.if-schedule-gt4095.false) in
    let w = c.lowest_wrong_with-wrong in
    let m9 : lowest (wrong_pick s) (length s) ≡ none =
    missed (wrong_pick s) (length q + 1) (length s) _ (sym (length_with q p)) w.ensures (omega (arith, c.if-wrong-schedule.false)) in
    sym (rw (m8, m9))
