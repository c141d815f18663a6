-- `ahead` meets its contract. Assumes nothing.
use native.Mathlib.Omega.{arith}
use Prim.Native.Nat.{ℕ, zero, suc, ◌<◌}
use mathlib.Core.Path.{◌≡◌, refl, sym, ◌∙◌}
use mathlib.Core.List.{List, [], ◌∷◌}
use lib.ListN.{length, get_or}
use Rattle.plan_parsing.specs.Parser.{ahead}
use Rattle.plan_reader.proofs.VolatileFields.{beyond}
use Rattle.plan_reader.proofs.ahead.Goals as goal

-- within the tokens it is the same whatever stands beyond
same : (ts : List ℕ) (i : ℕ) → i < length ts → get_or ts i 0 ≡ ahead ts i
same [] i h = absurd (omega arith)
same (t ∷ ts) zero h = refl
same (t ∷ ts) (suc i) h = same ts i (omega arith)

pub returns-then-index-tokens : goal.returns-then-index-tokens
returns-then-index-tokens c = (
  c.wide.ensures.0 ∙ same c.args.tokens.now c.args.index
      c.if-index-tokens.true,
  c.wide.ensures.1,
)

pub returns : goal.returns
returns c = (sym (beyond c.args.tokens.now c.args.index c.if-index-tokens.false), omega arith)
