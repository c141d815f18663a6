use Rattle.plan_parser.proofs.RunLaws.{begins, last_ends, run_ends, run_many, run_full, run_short, none_left, going, run_on, run_stops}
use mathlib.Core.Path.{sym, ◌∙◌}
use borrow.Author.Rules.{rules}
use Rattle.plan_parser.proofs.run.Goals as goal

pub loop-standing-init : goal.loop-standing-init
loop-standing-init c = begins _ _ _ _ _ _ c.requires

pub ended-requires : goal.ended-requires
ended-requires c = last_ends _ _ _ _ _ _ _ _ _ _ c.loop-standing.invariant c.loop-standing-test.false

pub shape_of-goals : goal.shape_of-goals
shape_of-goals c = c.loop-standing.invariant.goals_stay

pub shape_of-values : goal.shape_of-values
shape_of-values c = c.loop-standing.invariant.values_stay

pub shape_of-words : goal.shape_of-words
shape_of-words c = c.loop-standing.invariant.kept.long

pub returns : goal.returns
returns c = run_ends _ _ _ _ _ _ _ _ _ _ c.loop-standing.invariant c.loop-standing-test.false _ c.ended.ensures

pub overflow_sub-goals : goal.overflow_sub-goals
overflow_sub-goals c = let g = c.loop-standing.invariant.state.sized.some_goals in search rules

pub shape_of-goals-then-goals-standing : goal.shape_of-goals-then-goals-standing
shape_of-goals-then-goals-standing c = c.loop-standing.invariant.goals_stay

pub shape_of-values-then-goals-standing : goal.shape_of-values-then-goals-standing
shape_of-values-then-goals-standing c = c.loop-standing.invariant.values_stay

pub shape_of-words-then-goals-standing : goal.shape_of-words-then-goals-standing
shape_of-words-then-goals-standing c = c.loop-standing.invariant.kept.long

pub returns-then-goals-standing : goal.returns-then-goals-standing
returns-then-goals-standing c = run_many _ _ _ _ _ _ _ _ _ _ c.loop-standing.invariant c.if-goals-standing.true _ c.crowded.ensures

pub overflow_sub-values : goal.overflow_sub-values
overflow_sub-values c = let g = c.loop-standing.invariant.state.sized.some_values in search rules

pub shape_of-goals-then-values-standing : goal.shape_of-goals-then-values-standing
shape_of-goals-then-values-standing c = c.loop-standing.invariant.goals_stay

pub shape_of-values-then-values-standing : goal.shape_of-values-then-values-standing
shape_of-values-then-values-standing c = c.loop-standing.invariant.values_stay

pub shape_of-words-then-values-standing : goal.shape_of-words-then-values-standing
shape_of-words-then-values-standing c = c.loop-standing.invariant.kept.long

pub returns-then-values-standing : goal.returns-then-values-standing
returns-then-values-standing c = run_full _ _ _ _ _ _ _ _ _ _ c.loop-standing.invariant c.loop-standing-test.true c.if-goals-standing.false c.if-values-standing.true _ c.crowded-then-values-standing.ensures

pub shape_of-goals-then-is_full : goal.shape_of-goals-then-is_full
shape_of-goals-then-is_full c = c.loop-standing.invariant.goals_stay

pub shape_of-values-then-is_full : goal.shape_of-values-then-is_full
shape_of-values-then-is_full c = c.loop-standing.invariant.values_stay

pub shape_of-words-then-is_full : goal.shape_of-words-then-is_full
shape_of-words-then-is_full c = c.loop-standing.invariant.kept.long

pub returns-then-is_full : goal.returns-then-is_full
returns-then-is_full c = run_short _ _ _ _ _ _ _ _ _ _ c.loop-standing.invariant c.loop-standing-test.true c.if-goals-standing.false (sym c.is_full.ensures ∙ c.if-is_full.true)

pub take-requires : goal.take-requires
take-requires c = (
  c.loop-standing.invariant.state,
  going _ _ _ _ _ _ _ _ _ _ c.loop-standing.invariant c.loop-standing-test.true c.if-goals-standing.false c.if-values-standing.false,
  none_left _ _ _ _ _ _ _ _ _ _ c.loop-standing.invariant c.loop-standing-test.true c.if-goals-standing.false (sym c.is_full.ensures ∙ c.if-is_full.false),
)

pub loop-standing-smaller : goal.loop-standing-smaller
loop-standing-smaller c = let t = rw c.in-Ok.is at c.take.ensures in t.next.less

pub loop-standing-preserved : goal.loop-standing-preserved
loop-standing-preserved c = run_on _ _ _ _ _ _ _ _ _ _ c.loop-standing.invariant c.loop-standing-test.true c.if-goals-standing.false c.if-values-standing.false _ _ _ _
    (rw c.in-Ok.is at c.take.ensures)

pub shape_of-goals-in-Err : goal.shape_of-goals-in-Err
shape_of-goals-in-Err c = (rw c.in-Err.is at c.take.ensures).goals_stay ∙ c.loop-standing.invariant.goals_stay

pub shape_of-values-in-Err : goal.shape_of-values-in-Err
shape_of-values-in-Err c = (rw c.in-Err.is at c.take.ensures).values_stay ∙ c.loop-standing.invariant.values_stay

pub shape_of-words-in-Err : goal.shape_of-words-in-Err
shape_of-words-in-Err c = (rw c.in-Err.is at c.take.ensures).kept.long ∙ c.loop-standing.invariant.kept.long

pub returns-in-Err : goal.returns-in-Err
returns-in-Err c = run_stops _ _ _ _ _ _ _ _ _ _ c.loop-standing.invariant c.loop-standing-test.true c.if-goals-standing.false c.if-values-standing.false _ _ _ _
    (rw c.in-Err.is at c.take.ensures)
