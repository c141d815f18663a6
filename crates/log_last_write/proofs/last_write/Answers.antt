use Prim.Native.Nat.{ℕ, suc, ◌-◌}
use native.Mathlib.Omega.{arith}
use mathlib.Core.Path.{◌≡◌, subst as along}
use Rattle.log_last_write.proofs.LastWrites.{Earlier, passed, found, not_none}
use Rattle.log_last_write.proofs.last_write.Goals as goal

pub columns_at-access-requires : goal.columns_at-access-requires
columns_at-access-requires c = c.requires.inside

pub loop-index-init : goal.loop-index-init
loop-index-init c = λ m w there writes less. less

pub columns_at-columns-requires : goal.columns_at-columns-requires
columns_at-columns-requires c = omega (arith, c.loop-index.auto.index, c.requires.inside)

pub returns-then-columns-access : goal.returns-then-columns-access
returns-then-columns-access c =
    let i : ℕ = c.loop-index.index - 1 in
    let taken = c.loop-index-test.true in
    let next : c.loop-index.index ≡ suc i = omega arith in
    found {j = c.args.failing} {i = i} c.columns_at-access.ensures c.columns_at-columns.ensures
    (omega (arith, c.loop-index.auto.index, c.requires.inside)) c.if-columns-access.true
    (omega (arith, c.loop-index.auto.index)) (along (Earlier c.args.log.now c.args.failing) next c.loop-index.invariant)

pub loop-index-preserved : goal.loop-index-preserved
loop-index-preserved c =
    let i : ℕ = c.loop-index.index - 1 in
    let taken = c.loop-index-test.true in
    let next : c.loop-index.index ≡ suc i = omega arith in
    passed {j = c.args.failing} {i = i} c.columns_at-access.ensures c.columns_at-columns.ensures
    (omega (arith, c.loop-index.auto.index, c.requires.inside)) c.if-columns-access.false
    (along (Earlier c.args.log.now c.args.failing) next c.loop-index.invariant)

pub returns : goal.returns
returns c =
    let none_left : c.loop-index.index ≡ 0 = omega (arith, c.loop-index-test.false) in
    absurd (not_none c.requires (along (Earlier c.args.log.now c.args.failing) none_left c.loop-index.invariant))
