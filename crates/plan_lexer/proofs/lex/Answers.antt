use native.Mathlib.Omega.{arith}
use mathlib.Core.Path.{refl, sym, ap, ◌∙◌}
use mathlib.Core.List.{List, [], ◌++◌}
use Rattle.plan_notation.specs.Lexing.{Token, nothing, codes_of, ended_at_end}
use Rattle.plan_scanner.proofs.ScanLaws.{no_byte}
use Rattle.plan_lexer.proofs.KeptLaws.{kept_none, kept_as, codes, codes_past}
use Rattle.plan_lexer.proofs.lex.Goals as goal

pub loop-index-init : goal.loop-index-init
unfolding codes_of
loop-index-init c = (omega arith, [], refl, kept_none _)

pub begun-found-requires : goal.begun-found-requires
begun-found-requires c = record { classed = c.classes-classes.ensures; inside = c.loop-index-test.true }

pub loop-index-preserved : goal.loop-index-preserved
loop-index-preserved c =
    let l = c.loop-index in
    let n = c.begun-found.ensures in
    (n.inside, _, l.invariant.2 ∙ codes_past l.invariant.1 _ l.index _ n.same, c.put_some-count.ensures _ _ l.invariant.3)

pub shape_of-tokens : goal.shape_of-tokens
shape_of-tokens c = (c.put.ensures _ _ c.loop-index.invariant.3).same

pub returns : goal.returns
unfolding ended_at_end
returns c =
    let l = c.loop-index in
    let e = no_byte _ l.index nothing c.loop-index-test.false in
    kept_as (sym (l.invariant.2 ∙ ap (λ (ts : List Token). l.invariant.1 ++ codes ts) e)) (c.put.ensures _ _ l.invariant.3)
