-- `log_rows::ordering` meets its contract. Assumes nothing.
use Prim.Native.Nat.{ℕ}
use mathlib.Core.Path.{◌≡◌}
use borrow.Author.Tests.{eq-eqb, ne_eqb}
use Rattle.format.specs.Version.{version_of}
use Rattle.log_rows.specs.Inner.Rows.{ordering_kind}
use Rattle.log_rows.proofs.ordering.Goals as goal

orders : (n volatile : ℕ) → n ≡ 1 → volatile ≡ ordering_kind (version_of n) volatile
unfolding version_of
orders n volatile e = rw (eq-eqb n 1 e)

orders_nothing : (n volatile : ℕ) → (n ≡ 1 → ⊥) → 12 ≡ ordering_kind (version_of n) volatile
unfolding version_of
orders_nothing n volatile e = rw (ne_eqb n 1 e)

pub returns-then-version-eq1 : goal.returns-then-version-eq1
returns-then-version-eq1 c = orders _ _ c.if-version-eq1.true

pub returns-else-version-eq1 : goal.returns-else-version-eq1
returns-else-version-eq1 c = orders_nothing _ _ c.if-version-eq1.false
