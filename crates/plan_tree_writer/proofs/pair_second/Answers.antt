-- `pair_second` meets its contract. Assumes nothing.
use mathlib.Core.Path.{◌≡◌, sym, ◌∙◌}
use Prim.Native.Nat.{ℕ}
use native.Mathlib.Omega.{arith}
use borrow.Author.Tests.{eq-eqb, ne_eqb}
use Rattle.plan_tree_writer.proofs.pair_second.Goals as goal

four_five : (k : ℕ) → k ≡ 4 → k ≡ 5 → ⊥
four_five k d e = omega arith

pub returns-in-4 : goal.returns-in-4
returns-in-4 c = rw (eq-eqb _ _ (sym c.tag.ensures ∙ c.in-4.is)) c.write_second.ensures

pub returns-in-5 : goal.returns-in-5
returns-in-5 c = let e = sym c.tag.ensures ∙ c.in-5.is in
    rw (ne_eqb _ 4 (λ d. four_five _ d e), eq-eqb _ _ e) c.let_second.ensures

pub returns-in_default : goal.returns-in_default
returns-in_default c = rw (
  ne_eqb _ _ (λ e. c.in_default.in_default-own.rest.0.1 (c.tag.ensures ∙ e)),
  ne_eqb _ _ (λ e. c.in_default.in_default-own.rest.1 (c.tag.ensures ∙ e)),
) c.second.ensures
