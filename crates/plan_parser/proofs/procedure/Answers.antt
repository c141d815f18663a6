-- `procedure` meets its contract: the loop over the goals of a procedure, and the number 0. Assumes nothing.
use Rattle.plan_parser.proofs.RunLaws.{starts, started}
use Rattle.plan_parser.proofs.TurnLaws.{resized}
use native.Mathlib.Omega.{arith}
use mathlib.Core.Path.{refl, ◌∙◌}
use lib.ListN.{set, length-set}
use lib.Seq.{get_or-set_same}
use borrow.Author.Rules.{rules}
use Rattle.plan_parser.proofs.procedure.Goals as goal

pub bounds-values-0 : goal.bounds-values-0
bounds-values-0 c = let z = c.requires.5.some_values in search rules

pub begin-top-requires : goal.begin-top-requires
begin-top-requires c = let z = c.requires.5 in (
  c.requires.2,
  z.some_goals,
  z.most_goals,
)

pub run-requires : goal.run-requires
run-requires c =
    let p = c.requires in
    let v = p.5.some_values in
    starts c.args.tokens.now _ _ (set c.args.values.now 0 1024) c.args.words.now c.args.at c.args.number _ c.args.left p.0 p.1
    p.2 p.3 p.4 (resized p.5 refl (length-set c.args.values.now 0 1024) refl)
    (get_or-set_same c.args.values.now 0 1024 0 (omega arith)) c.begin-top.ensures.0 c.begin-top.ensures.1

pub shape_of-values : goal.shape_of-values
shape_of-values c = c.values-1.given ∙ length-set c.args.values.now 0 1024

pub returns : goal.returns
returns c =
    let p = c.requires in
    let v = p.5.some_values in
    started c.args.tokens.now _ _ (set c.args.values.now 0 1024) c.args.words.now c.args.at c.args.number _ c.args.left p.0 p.1
    p.2 p.3 p.4 (resized p.5 refl (length-set c.args.values.now 0 1024) refl)
    (get_or-set_same c.args.values.now 0 1024 0 (omega arith)) c.begin-top.ensures.0 c.begin-top.ensures.1 _ _ _ c.run.ensures
