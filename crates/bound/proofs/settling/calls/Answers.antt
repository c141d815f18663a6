use mathlib.Core.Path.{◌≡◌, refl, ◌∙◌}
use Prim.Native.Nat.{ℕ, ◌^◌, ◌<◌}
use native.Mathlib.Omega.{arith}
use lib.ListN.{length, length-set}
use borrow.Author.Rules.{rules}
use Rattle.format.proofs.Filled.{filled}
use Rattle.run_keys.specs.Keys.{holds}
use Rattle.plan_packed.specs.Trees.{program_of}
use Rattle.costs.specs.Calls.{called}
use Rattle.bound.proofs.Bodies.{few_procedures, root_there, root_call}
use Rattle.bound.proofs.Rounds.{set_each, set_small}
use Rattle.bound.proofs.settling.calls.Goals as goal

pub loop-procedure-init : goal.loop-procedure-init
loop-procedure-init c = (refl, record { each = λ p h. absurd (omega arith); small = λ p h. absurd (omega arith) })

pub root-root-requires : goal.root-root-requires
root-root-requires c = root_there c.requires _ c.loop-procedure-test.true

pub walk_expression-requires : goal.walk_expression-requires
walk_expression-requires c = let both = root_call c.requires _ c.loop-procedure-test.true c.root-root.ensures in record { ordered = both.0; term_bound = both.1 }

pub offset_bounds-all-procedure : goal.offset_bounds-all-procedure
offset_bounds-all-procedure c = let m = few_procedures c.requires in search rules

pub bounds-all-procedure : goal.bounds-all-procedure
bounds-all-procedure c = let m = few_procedures c.requires in search rules

pub loop-procedure-preserved : goal.loop-procedure-preserved
loop-procedure-preserved c =
    let l = c.loop-procedure in
    let b = c.args.plan.now in
    let m = few_procedures c.requires in
    let n : l.procedure < length l.all = rw l.invariant.0 (let t = c.loop-procedure-test.true in omega arith) in
    let d = c.bits-bits.ensures in
    let e = set_each d c.requires l.procedure c.loop-procedure-test.true c.root-root.ensures c.walk_expression.ensures in
    let f = set_small d c.requires l.procedure c.loop-procedure-test.true c.root-root.ensures c.walk_expression.ensures in (
      length-set l.all l.procedure _ ∙ l.invariant.0,
      record {
        each = filled {A = ℕ} l.all l.procedure _ 0 (λ (p x : ℕ). (q : ℕ) → q < 32 → holds x q ≡ called (program_of b) p q) n l.invariant.1.each e;
        small = filled {A = ℕ} l.all l.procedure _ 0 (λ (p x : ℕ). x < 2 ^ 32) n l.invariant.1.small f;
      },
    )

pub returns : goal.returns
returns c = let l = c.loop-procedure in record { each = λ p h. l.invariant.1.each p (omega arith); small = λ p h. l.invariant.1.small p (omega arith) }
