-- `looks::between` meets its contract: the bits that both tokens have. Assumes nothing.
use Prim.Native.Nat.{ℕ, ◌/◌, ◌%◌}
use native.Mathlib.Omega.{arith}
use mathlib.Core.Path.{ap, ap₂, ◌∙◌}
use mathlib.Core.Bool.{not}
use mathlib.Core.List.{[]}
use lib.Bits.{bit_and}
use lib.Dec.{eqb}
use lib.ListN.{get_or}
use Rattle.plan_pen.proofs.LookLaws.{behind_at, ahead_at, apart_is, breaks_is}
use Rattle.plan_pen.proofs.looks.Looks.between.Goals as goal

pub returns : goal.returns
returns c =
    let rows = c.self.inside.rows in
    let first = ap (λ (k : ℕ). get_or (get_or rows k []) 0 0) c.wide.ensures.0
    ∙ behind_at rows c.self.invariant c.args.before c.requires.0 in
    let second = ap (λ (k : ℕ). get_or (get_or rows k []) 1 0 % 64) c.wide-2.ensures.0
    ∙ ap (λ (v : ℕ). v % 64) (ahead_at rows c.self.invariant c.args.token (omega (arith, c.requires.1))) in
    let bits = ap₂ bit_and first second in (
      ap (λ (v : ℕ). eqb (v % 8) 0) bits ∙ apart_is c.args.before c.args.token c.requires.0 c.requires.1,
      ap (λ (v : ℕ). not (eqb (v / 8) 0)) bits ∙ breaks_is c.args.before c.args.token c.requires.0 c.requires.1,
    )
