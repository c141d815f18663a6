use native.Mathlib.Numerals.{add-one}
use mathlib.Core.Path.{refl, ◌∙◌}
use Rattle.plan_parser.proofs.TurnLaws.{resized}
use Rattle.plan_reader.specs.Inner.Reading.{fault_of}
use Rattle.plan_reader.proofs.OneMore.{too_many_lem}
use Rattle.plan_reader.proofs.Steps.{on_going, ended}
use Rattle.plan_reader.proofs.procedures.Goals as goal

pub loop-procedure-init : goal.loop-procedure-init
loop-procedure-init c = (c.requires.going, refl, refl, refl)

pub step-requires : goal.step-requires
step-requires c =
    let i = c.loop-procedure.invariant in
    record {
      tokens_len_bound = (c.requires.tokens_len_bound.0, c.requires.tokens_len_bound.1, c.loop-procedure-test.true);
      sized = resized c.requires.sized i.2 i.3 i.1;
      going = i.0;
    }

pub shape_of-words-in-Break : goal.shape_of-words-in-Break
shape_of-words-in-Break c = c.words-1.given ∙ c.loop-procedure.invariant.1

pub shape_of-goals-in-Break : goal.shape_of-goals-in-Break
shape_of-goals-in-Break c = c.goals-1.given ∙ c.loop-procedure.invariant.2

pub shape_of-values-in-Break : goal.shape_of-values-in-Break
shape_of-values-in-Break c = c.values-1.given ∙ c.loop-procedure.invariant.3

pub returns-in-Break : goal.returns-in-Break
returns-in-Break c = ended c.step.ensures c.in-Break.is c.requires.tokens_len_bound.2

pub loop-procedure-preserved : goal.loop-procedure-preserved
loop-procedure-preserved c =
    let i = c.loop-procedure.invariant in (
      rw add-one (on_going c.step.ensures c.in-Continue.is),
      c.words-1.given ∙ i.1,
      c.goals-1.given ∙ i.2,
      c.values-1.given ∙ i.3,
    )

pub shape_of-words : goal.shape_of-words
shape_of-words c = c.loop-procedure.invariant.1

pub shape_of-goals : goal.shape_of-goals
shape_of-goals c = c.loop-procedure.invariant.2

pub shape_of-values : goal.shape_of-values
shape_of-values c = c.loop-procedure.invariant.3

pub returns : goal.returns
unfolding fault_of
returns c = record { so = too_many_lem c.loop-procedure.invariant.0 c.loop-procedure-test.false }
