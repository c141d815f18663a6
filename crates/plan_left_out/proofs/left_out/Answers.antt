-- `left_out` meets its contract. Assumes nothing.
use native.Mathlib.Omega.{arith}
use mathlib.Core.Path.{◌≡◌, refl, ap, ap₂, ◌∙◌}
use mathlib.Core.Bool.{◌||◌}
use lib.Dec.{eqb}
use Prim.Native.Nat.{ℕ, ◌+◌, ◌*◌, ◌≤◌}
use mathlib.Core.List.{List}
use mathlib.Core.Option.{none}
use lib.ListN.{length}
use borrow.Author.Rules.{rules}
use Rattle.plan_packed.specs.Format.{procedures, terms, plan_length}
use Rattle.plan_packed.specs.Check.{refusal}
use Rattle.plan_packed.proofs.Accepted.{accepted}
use Rattle.plan_tag_search.proofs.Tags.{tag_in_lem}
use Rattle.side_by_side.specs.LeftOut.{has_wait, left_out}
use Rattle.plan_left_out.proofs.left_out.Goals as goal

-- how long an accepted plan is, and that it has few terms
inside : (plan : List ℕ) → refusal plan ≡ none → (length plan ≡ 8 + 2 * procedures plan + 5 * terms plan) × (terms plan ≤ 1024)
unfolding plan_length
inside plan e = let a = accepted plan e in (a.length_right, a.few_terms)

pub terms-count-requires : goal.terms-count-requires
terms-count-requires c = let w = inside _ c.requires.passes in omega (arith, w.0)

pub version-version-requires : goal.version-version-requires
version-version-requires c = let w = inside _ c.requires.passes in omega (arith, w.0)

pub occurs-waits-requires : goal.occurs-waits-requires
occurs-waits-requires c = let w = inside _ c.requires.passes in omega (arith, w.1, c.terms-count.ensures)

pub returns : goal.returns
unfolding left_out has_wait
returns c =
    ap₂ ◌||◌ (ap (λ (n : ℕ). eqb n 0) c.version-version.ensures)
    (c.occurs-waits.ensures ∙ tag_in_lem c.args.plan.now c.args.words.now c.requires.loaded _ 18 c.terms-count.ensures)
