-- `goal_row`: the code is its definition, a goal by its number. Assumes nothing.
use native.Mathlib.Omega.{arith}
use mathlib.Core.Path.{sym, ap}
use borrow.Author.Tests.{lt-ltb, le-ltb, ne_eqb}
use Rattle.plan_parser_goals.specs.Inner.Encoded.{goal_of}
use Rattle.text_read_lines.specs.Reasons.{goal_row}
use Rattle.text_read_lines.proofs.goal_row.Goals as goal

pub returns-in-0-to-127 : goal.returns-in-0-to-127
unfolding goal_of goal_row
returns-in-0-to-127 c =
    simp (lt-ltb c.args.goal 128 (omega arith)) c.token_row.ensures

pub returns-in-128-to-159 : goal.returns-in-128-to-159
unfolding goal_of goal_row
returns-in-128-to-159 c =
    simp (
      le-ltb c.args.goal 128 (omega arith),
      lt-ltb c.args.goal 160 (omega arith),
    )

pub returns-in-160-to-175 : goal.returns-in-160-to-175
unfolding goal_of goal_row
returns-in-160-to-175 c =
    simp (
      le-ltb c.args.goal 128 (omega arith),
      le-ltb c.args.goal 160 (omega arith),
      lt-ltb c.args.goal 176 (omega arith),
    ) c.sort_row.ensures

pub returns-in-176-to-191 : goal.returns-in-176-to-191
unfolding goal_of goal_row
returns-in-176-to-191 c =
    simp (
      le-ltb c.args.goal 128 (omega arith),
      le-ltb c.args.goal 160 (omega arith),
      le-ltb c.args.goal 176 (omega arith),
      lt-ltb c.args.goal 192 (omega arith),
    ) c.sort_row-in-176-to-191.ensures

pub returns-in-192 : goal.returns-in-192
unfolding goal_of goal_row
returns-in-192 c = sym (ap (λ n. goal_row (goal_of n)) c.in-192.is)

pub returns-in-193 : goal.returns-in-193
unfolding goal_of goal_row
returns-in-193 c = sym (ap (λ n. goal_row (goal_of n)) c.in-193.is)

pub returns-in-194-to-255 : goal.returns-in-194-to-255
unfolding goal_of goal_row
returns-in-194-to-255 c =
    simp (
      le-ltb c.args.goal 128 (omega arith),
      le-ltb c.args.goal 160 (omega arith),
      le-ltb c.args.goal 176 (omega arith),
      le-ltb c.args.goal 192 (omega arith),
      ne_eqb c.args.goal 192 (λ e. omega arith),
      ne_eqb c.args.goal 193 (λ e. omega arith),
      lt-ltb c.args.goal 256 (omega arith),
    )

pub returns-in-256-to-639 : goal.returns-in-256-to-639
unfolding goal_of goal_row
returns-in-256-to-639 c =
    simp (
      le-ltb c.args.goal 128 (omega arith),
      le-ltb c.args.goal 160 (omega arith),
      le-ltb c.args.goal 176 (omega arith),
      le-ltb c.args.goal 192 (omega arith),
      le-ltb c.args.goal 256 (omega arith),
      ne_eqb c.args.goal 192 (λ e. omega arith),
      ne_eqb c.args.goal 193 (λ e. omega arith),
      lt-ltb c.args.goal 640 (omega arith),
    )

pub returns-in_default : goal.returns-in_default
unfolding goal_of goal_row
returns-in_default c =
    simp (
      le-ltb c.args.goal 128 (omega arith),
      le-ltb c.args.goal 160 (omega arith),
      le-ltb c.args.goal 176 (omega arith),
      le-ltb c.args.goal 192 (omega arith),
      le-ltb c.args.goal 256 (omega arith),
      le-ltb c.args.goal 640 (omega arith),
      ne_eqb c.args.goal 192 (λ e. omega arith),
      ne_eqb c.args.goal 193 (λ e. omega arith),
    )
