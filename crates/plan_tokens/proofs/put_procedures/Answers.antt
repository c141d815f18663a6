use native.Mathlib.Omega.{arith}
use mathlib.Core.Path.{refl}
use native.Mathlib.Numerals.{add-one}
use Rattle.plan_tokens.proofs.Parts.{at_first, room_for_one, at_next, at_last}
use borrow.Author.Rules.{rules}
use Rattle.plan_tokens.proofs.put_procedures.Goals as goal

pub loop-procedure-init : goal.loop-procedure-init
loop-procedure-init c = (refl, λ g. at_first _ _ g _ _)

pub put_procedure-at-requires : goal.put_procedure-at-requires
put_procedure-at-requires c =
    let g = c.requires.given.0 in
    let l = c.loop-procedure in
    let h = rw c.requires.count_value at c.loop-procedure-test.true in record { given = (g, omega (arith, c.requires.given.1, l.invariant.0, (l.invariant.1 g).wrote.kept)); procedure_bound = (h, room_for_one _ _ g (l.invariant.1 g) h c.requires.plan_in_bounds) }

pub loop-procedure-preserved : goal.loop-procedure-preserved
loop-procedure-preserved c =
    let l = c.loop-procedure in
    let x = c.loop-procedure-test in
    let p = c.put_procedure-at in
    (search rules, λ g. let h = rw c.requires.count_value at x.true in rw add-one (at_next _ _ g (l.invariant.1 g) h p.ensures))

pub returns : goal.returns
returns c =
    at_last _ _ c.requires.given.0 (c.loop-procedure.invariant.1 c.requires.given.0) (rw c.requires.count_value at c.loop-procedure-test.false)
