-- `object_of_lem` meets its contract. Assumes nothing.
use mathlib.Core.Path.{◌≡◌, refl, sym}
use mathlib.Core.Bool.{cond}
use Prim.Native.Nat.{ℕ, ◌+◌, ◌%◌, ◌≤◌, ◌<◌}
use native.Mathlib.Omega.{arith}
use native.Mathlib.Decide.{ℕ_discrete}
use lib.Dec.{eqb}
use borrow.Author.Tests.{eq-eqb, ne_eqb}
use Rattle.run_look.specs.Inner.Look.{object_by}
use Rattle.run_look.proofs.object_of.Goals as goal

-- by one test, and the rest
by : (p n a rest : ℕ) → ((p ≡ n → ⊥) → rest ≡ a) → cond (eqb p n) a rest ≡ a
by p n a rest f = go (ℕ_discrete p n)
  where
    go : Dec (p ≡ n) → cond (eqb p n) a rest ≡ a
    go (yes e) = rw (eq-eqb p n e)
    go (no h) = rw (ne_eqb p n h) (f h)

up : (p n : ℕ) → n ≤ p → (p ≡ n → ⊥) → n + 1 ≤ p
up p n h d = omega (arith, h, d)

about : (p a : ℕ) → 10 ≤ p → p ≤ 17 → (p ≡ 12 → ⊥) → object_by p a ≡ a % 32
unfolding object_by
about p a low high h =
    by p 10 (a % 32) _ (λ n10. by p 11 (a % 32) _ (λ n11.
    let l13 = up p 12 (up p 11 (up p 10 low n10) n11) h in
    by p 13 (a % 32) _ (λ n13. by p 14 (a % 32) _ (λ n14. by p 15 (a % 32) _ (λ n15. by p 16 (a % 32) _ (λ n16. by p 17 (a % 32) _ (λ n17.
    let l18 = up p 17 (up p 16 (up p 15 (up p 14 (up p 13 l13 n13) n14) n15) n16) n17 in absurd (omega (arith, l18, high)))))))))

none : (p a : ℕ) → (p ≡ 10 → ⊥) → (p ≡ 11 → ⊥) → (p ≡ 13 → ⊥) → (p ≡ 14 → ⊥) → (p ≡ 15 → ⊥) → (p ≡ 16 → ⊥) → (p ≡ 17 → ⊥) → object_by p a ≡ 0
unfolding object_by
none p a b d e f g j k = simp (ne_eqb p 10 b, ne_eqb p 11 d, ne_eqb p 13 e, ne_eqb p 14 f, ne_eqb p 15 g, ne_eqb p 16 j, ne_eqb p 17 k)

below : (p a : ℕ) → p < 10 → object_by p a ≡ 0
below p a h = none p a (λ e. omega arith) (λ e. omega arith) (λ e. omega arith) (λ e. omega arith) (λ e. omega arith) (λ e. omega arith) (λ e. omega arith)

above : (p a : ℕ) → 17 < p → object_by p a ≡ 0
above p a h = none p a (λ e. omega arith) (λ e. omega arith) (λ e. omega arith) (λ e. omega arith) (λ e. omega arith) (λ e. omega arith) (λ e. omega arith)

fork : (p a : ℕ) → p ≡ 12 → object_by p a ≡ 0
fork p a h = none p a (λ e. omega arith) (λ e. omega arith) (λ e. omega arith) (λ e. omega arith) (λ e. omega arith) (λ e. omega arith) (λ e. omega arith)

pub returns-then-redex-lt-READ : goal.returns-then-redex-lt-READ
returns-then-redex-lt-READ c = (sym (below _ _ c.if-redex-lt-READ.true), omega arith)

pub returns-then-redex-gt-WAITING : goal.returns-then-redex-gt-WAITING
returns-then-redex-gt-WAITING c = (sym (above _ _ c.if-redex-gt-WAITING.true), omega arith)

pub returns-then-redex-eq-FORK : goal.returns-then-redex-eq-FORK
returns-then-redex-eq-FORK c = (sym (fork _ _ c.if-redex-eq-FORK.true), omega arith)

pub returns : goal.returns
returns c = (sym (about _ _ c.if-redex-lt-READ.false c.if-redex-gt-WAITING.false c.if-redex-eq-FORK.false), omega arith)
