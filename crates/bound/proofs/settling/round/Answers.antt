use mathlib.Core.Path.{◌≡◌, sym, ◌∙◌}
use Prim.Native.Nat.{◌+◌, ◌-◌, ◌*◌, ◌%◌, ◌^◌}
use native.Mathlib.Omega.{arith}
use borrow.Author.Rules.{rules}
use Rattle.format.proofs.BitLaws.{shl_one}
use Rattle.run_keys.specs.Keys.{singleton}
use Rattle.bound.proofs.Bodies.{few_procedures, root_there, root_call}
use Rattle.bound.proofs.Rounds.{passes_by, takes_in, round_stuck}
use Rattle.bound.proofs.settling.round.Goals as goal

pub loop-procedure-init : goal.loop-procedure-init
loop-procedure-init c = record { inside = omega arith; settled = c.requires.settled; grown = omega arith; stuck = λ e p h k. absurd (omega arith) }

pub offset_bounds-calls-procedure : goal.offset_bounds-calls-procedure
offset_bounds-calls-procedure c = let m = few_procedures c.requires.loads in let i = c.loop-procedure.invariant.inside in search rules

pub bounds-calls-procedure : goal.bounds-calls-procedure
bounds-calls-procedure c = let m = few_procedures c.requires.loads in let i = c.loop-procedure.invariant.inside in search rules

pub is_next-requires : goal.is_next-requires
is_next-requires c =
    let m = few_procedures c.requires.loads in
    let i = c.loop-procedure.invariant.inside in
    omega arith

pub root-root-requires : goal.root-root-requires
root-root-requires c =
    let i = c.loop-procedure.invariant.inside in
    root_there c.requires.loads _ (let t = c.loop-procedure-test.true in omega arith)

pub walk_expression-requires : goal.walk_expression-requires
walk_expression-requires c =
    let i = c.loop-procedure.invariant.inside in let both = root_call c.requires.loads _ (let t = c.loop-procedure-test.true in omega arith) c.root-root.ensures in record { ordered = both.0; term_bound = both.1 }

pub offset_bounds-costs-procedure : goal.offset_bounds-costs-procedure
offset_bounds-costs-procedure c =
    let m = few_procedures c.requires.loads in
    let i = c.loop-procedure.invariant.inside in
    let t = c.loop-procedure-test.true in
    omega arith

pub bounds-costs-procedure : goal.bounds-costs-procedure
bounds-costs-procedure c =
    let m = few_procedures c.requires.loads in
    let i = c.loop-procedure.invariant.inside in
    let t = c.loop-procedure-test.true in
    omega arith

pub overflow_shl-done : goal.overflow_shl-done
overflow_shl-done c =
    let m = few_procedures c.requires.loads in
    let i = c.loop-procedure.invariant.inside in
    let t = c.loop-procedure-test.true in
    omega arith

pub loop-procedure-preserved-then-is_next : goal.loop-procedure-preserved-then-is_next
loop-procedure-preserved-then-is_next c =
    let m = few_procedures c.requires.loads in
    let i = c.loop-procedure.invariant.inside in
    let t = c.loop-procedure-test.true in
    let y = c.loop-procedure.procedure - 1 in
    let e : y + 1 ≡ c.loop-procedure.procedure = omega arith in
    let f : (1 * 2 ^ y) % 2 ^ 64 ≡ singleton y = shl_one y (omega arith) in
    rw f (takes_in c.requires.loads c.requires.called c.loop-procedure.invariant e c.root-root.ensures c.walk_expression.ensures
    (sym c.is_next.ensures ∙ c.if-is_next.true))

pub loop-procedure-preserved : goal.loop-procedure-preserved
loop-procedure-preserved c =
    let t = c.loop-procedure-test.true in
    passes_by c.requires.loads c.requires.called c.loop-procedure.invariant (omega arith) (sym c.is_next.ensures ∙ c.if-is_next.false)

pub returns : goal.returns
returns c =
    let G = c.loop-procedure.invariant in record { settled_2 = G.settled; lower_bound = G.grown; stuck = round_stuck c.requires.loads G c.loop-procedure-test.false }
