use native.Mathlib.Omega.{arith}
use mathlib.Core.Path.{refl, sym, ap, ◌∙◌}
use mathlib.Core.Logic.{⊎_elim}
use lib.ListN.{drop_of_length-le}
use Rattle.plan_notation.specs.Lexing.{Place, place_from, place_after}
use Rattle.plan_lexer.proofs.PlaceLaws.{new_line, next_column}
use Rattle.plan_lexer.proofs.places.spot_after.Goals as goal

pub loop-byte-init : goal.loop-byte-init
unfolding place_after
loop-byte-init c = (omega arith, omega arith, refl)

pub loop-byte-preserved : goal.loop-byte-preserved
loop-byte-preserved c =
    let l = c.loop-byte in
    let t = c.loop-byte-test.true in
    ⊎_elim
    (λ w. (
      omega (arith, w.line-is),
      omega (arith, w.column-is),
      simp (w.line-is, w.column-is) (l.invariant.2 ∙ new_line _ l.byte-index l.line l.column t w.if-byte-eq10.true),
    ))
    (λ w. (
      omega (arith, w.line-is),
      omega (arith, w.column-is),
      simp (w.line-is, w.column-is) (l.invariant.2 ∙ next_column _ l.byte-index l.line l.column t w.if-byte-eq10.false),
    ))
    c.if-byte-eq10.branch-raw

pub returns : goal.returns
unfolding place_from
returns c =
    let l = c.loop-byte in
    let e = l.invariant.2 ∙ ap (place_from l.line l.column) (drop_of_length-le _ c.loop-byte-test.false) in
    (sym (ap (λ (p : Place). p.line) e), sym (ap (λ (p : Place). p.column) e))
