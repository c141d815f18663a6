use Prim.Native.Nat.{ℕ, ◌<◌}
use mathlib.Core.Path.{sym, subst, ◌∙◌}
use Rattle.judge.proofs.Answered.{answers_found, smaller_full}
use Rattle.judge.proofs.pass.+widened.Goals as goal

pub widened-requires : goal.widened-requires
widened-requires t c =
    let f = smaller_full c.args.all c.by_either-found.ensures (sym c.full.ensures ∙ c.if-full.true) in
    (subst (λ (m : ℕ). 0 < m) c.decreases f, c.requires)

pub returns : goal.returns
returns t c = answers_found c.requires c.by_either-found.ensures (sym c.full.ensures ∙ c.if-full.false) _ c.judgement.ensures
