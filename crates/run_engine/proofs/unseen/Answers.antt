-- `unseen` meets its contract. Assumes nothing.
use native.Mathlib.Omega.{arith}
use mathlib.Core.Path.{refl}
use Rattle.run_engine.proofs.unseen.Goals as goal

pub returns-then-places-eq0 : goal.returns-then-places-eq0
returns-then-places-eq0 c = record { all = λ e. refl; none = λ b. absurd (omega arith) }

pub returns-else-places-eq0 : goal.returns-else-places-eq0
returns-else-places-eq0 c = record { all = λ e. absurd (omega arith); none = λ b. refl }
