-- `gap_before` meets its contract: a new line, a space or nothing. Assumes nothing.
use mathlib.Core.Path.{refl, sym, ◌∙◌}
use borrow.Author.Tests.{eq-eqb, ne_eqb}
use Rattle.plan_pen.specs.Inner.Pens.{pen_of}
use Rattle.plan_pen.proofs.PenLaws.{line_is, new_line, space, no_space}
use Rattle.plan_pen.proofs.Pen.gap_before.Goals as goal

pub returns-then-between-self : goal.returns-then-between-self
returns-then-between-self c =
    let e = c.between-between.ensures in
    new_line _ _ _ (sym (line_is (pen_of c.args.self) c.args.token _ c.args.width e.1 c.requires.width_value.0) ∙ c.if-between-self.true) refl
    c.indentation.ensures

pub returns-then-between-eq0 : goal.returns-then-between-eq0
returns-then-between-eq0 c =
    let e = c.between-between.ensures in
    space _ _ _ (sym (line_is (pen_of c.args.self) c.args.token _ c.args.width e.1 c.requires.width_value.0) ∙ c.if-between-self.false)
    (sym e.0 ∙ eq-eqb _ _ c.if-between-eq0.true) refl refl

pub returns : goal.returns
returns c =
    let e = c.between-between.ensures in
    no_space _ _ _ (sym (line_is (pen_of c.args.self) c.args.token _ c.args.width e.1 c.requires.width_value.0) ∙ c.if-between-self.false)
    (sym e.0 ∙ ne_eqb _ _ c.if-between-eq0.false) refl refl
