use mathlib.Core.Path.{◌≡◌, ◌∙◌, ap}
use borrow.Author.Rules.{rules}
use native.Mathlib.Omega.{arith}
use Prim.Native.Nat.{ℕ, ◌-◌, ◌*◌, ◌%◌, ◌^◌, ◌≤◌, ◌<◌}
use native.Mathlib.Numerals.{add-one}
use lib.Pow.{pow_pos, pow_mono}
use Rattle.format.proofs.BitLaws.{shl_one}
use Rattle.plan_packed.proofs.Reading.{procedures_lt}
use Rattle.plan_packed.proofs.Shown.{parameters_small, root_below}
use Rattle.plan_scopes.proofs.Roots.{no_roots, root_scoped}
use Rattle.plan_scopes.proofs.hand_to_roots.Goals as goal
use Rattle.plan_scopes.proofs.hand_to_roots.Goals.{After-parameters-parameters}

-- the bits of so many parameters fit a byte
module _ (k : ℕ) (h : k ≤ 8) where
  mask : (1 * 2 ^ k) % 2 ^ 64 - 1 ≡ 2 ^ k - 1
  mask = rw (shl_one k (omega arith))

  some : 1 ≤ (1 * 2 ^ k) % 2 ^ 64
  some = rw (shl_one k (omega arith)) (omega (arith, pow_pos k))

  small : (1 * 2 ^ k) % 2 ^ 64 - 1 < 256
  small = rw (shl_one k (omega arith)) (omega (arith, pow_mono {i = k} {j = 8} h))

pub loop-procedure-init : goal.loop-procedure-init
loop-procedure-init c = rw c.requires.scopes_value (no_roots c.args.plan.now)

pub root-root-requires : goal.root-root-requires
root-root-requires c =
    let z = c.requires.headed.sized in
    (omega (arith, z, procedures_lt c.args.plan.now), omega (arith, z))

pub parameters-parameters-requires : goal.parameters-parameters-requires
parameters-parameters-requires c =
    let z = c.requires.headed.sized in
    (omega (arith, z, procedures_lt c.args.plan.now), omega (arith, z))

-- the parameters of this turn
few : (c : After-parameters-parameters) → c.parameters-parameters.result ≤ 8
few c =
    let a = c.args in
    omega (
      arith,
      c.parameters-parameters.ensures,
      parameters_small a.plan.now a.procedures a.count c.loop-procedure.procedure c.requires.headed
          c.loop-procedure-test.true,
    )

pub overflow_shl-parameters : goal.overflow_shl-parameters
overflow_shl-parameters c = omega (arith, few (goal.at.overflow_shl-parameters c).After-parameters-parameters)

pub overflow_sub-parameters : goal.overflow_sub-parameters
overflow_sub-parameters c = some _ (few (goal.at.overflow_sub-parameters c).After-parameters-parameters)

pub overflow_cast-parameters : goal.overflow_cast-parameters
overflow_cast-parameters c = let h = small _ (few (goal.at.overflow_cast-parameters c).After-parameters-parameters) in search rules

pub hand-requires : goal.hand-requires
hand-requires c =
    let a = c.args in
    let f = c.requires.headed.few in
    omega (
      arith,
      c.root-root.ensures,
      root_below a.plan.now a.procedures a.count c.loop-procedure.procedure c.requires.headed
          c.loop-procedure-test.true,
    )

pub loop-procedure-preserved : goal.loop-procedure-preserved
loop-procedure-preserved c =
    let a = c.args in
    let b = a.plan.now in
    let f = c.requires.headed.few in
    let l = c.loop-procedure in
    let h = root_below b a.procedures a.count l.procedure c.requires.headed c.loop-procedure-test.true in
    let bits = mask _ (few (goal.at.loop-procedure-preserved c).After-parameters-parameters) ∙ ap (λ (k : ℕ). 2 ^ k - 1) c.parameters-parameters.ensures in
    rw add-one (root_scoped b l.procedure _ c.root-root.result l.scopes _ bits c.root-root.ensures (omega (arith, h)) c.hand.ensures l.invariant)

pub returns : goal.returns
returns c =
    let a = c.args in
    let l = c.loop-procedure in
    let e : l.procedure ≡ a.procedures = omega arith in
    rw e at l.invariant
