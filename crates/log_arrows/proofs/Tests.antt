-- The code's tests are those of what each record has heard. Assumes nothing.
use Prim.Native.Nat.{ℕ, ◌+◌, ◌-◌}
use native.Mathlib.Omega.{arith}
use native.Mathlib.Numerals.{add-one}
use mathlib.Core.Path.{◌≡◌, refl, ap, ◌∙◌}
use mathlib.Core.Bool.{Bool, false, not, ◌||◌}
use lib.Dec.{leb}
use borrow.Author.Tests.{eq-eqb, ne_eqb, lt-ltb, le-ltb}
use Rattle.log_arrows.specs.Inner.Implied.{implied_by, implied, is_needed}

-- ---- one thread

pub by_itself : (h : ℕ → ℕ → ℕ) (j u w : ℕ) → w ≡ u → false ≡ implied_by h j u w
by_itself h j u w e = rw (eq-eqb w u e)

pub by_none : (h : ℕ → ℕ → ℕ) (j u w : ℕ) → (w ≡ u → ⊥) → h j w ≡ 0 → false ≡ implied_by h j u w
by_none h j u w n e = rw (ne_eqb w u n, le-ltb 0 (h j w) (omega arith))

pub by_newest : (h : ℕ → ℕ → ℕ) (j u w : ℕ) → (w ≡ u → ⊥) → (h j w ≡ 0 → ⊥) → leb (h j u) (h (h j w - 1) u) ≡ implied_by h j u w
by_newest h j u w n z = rw (ne_eqb w u n, lt-ltb 0 (h j w) (omega arith))

-- ---- the threads so far

pub implied_none : (h : ℕ → ℕ → ℕ) (j u : ℕ) → false ≡ implied h j u 0
unfolding implied
implied_none h j u = refl

pub implied_more : (h : ℕ → ℕ → ℕ) (j u n : ℕ) (found here : Bool) → found ≡ implied h j u n → here ≡ implied_by h j u n
    → (found || here) ≡ implied h j u (n + 1)
unfolding implied
implied_more h j u n found here e g = rw (add-one n, e, g)

pub implied_eight : (h : ℕ → ℕ → ℕ) (j u n : ℕ) (found : Bool) → n ≡ 8 → found ≡ implied h j u n → found ≡ implied h j u 8
implied_eight h j u n found e g = g ∙ ap (implied h j u) e

-- ---- an arrow

pub needed_own : (h : ℕ → ℕ → ℕ) (t j u : ℕ) → u ≡ t → false ≡ is_needed h t j u
unfolding is_needed
needed_own h t j u e = rw (eq-eqb u t e)

pub needed_none : (h : ℕ → ℕ → ℕ) (t j u : ℕ) → (u ≡ t → ⊥) → h j u ≡ 0 → false ≡ is_needed h t j u
unfolding is_needed
needed_none h t j u n e = rw (ne_eqb u t n, le-ltb 0 (h j u) (omega arith))

pub needed_not_implied : (h : ℕ → ℕ → ℕ) (t j u : ℕ) (found : Bool) → (u ≡ t → ⊥) → (h j u ≡ 0 → ⊥) → found ≡ implied h j u 8 → not found ≡ is_needed h t j u
unfolding is_needed
needed_not_implied h t j u found n z e = rw (ne_eqb u t n, lt-ltb 0 (h j u) (omega arith), e)
