-- A name is looked for at one place: it is there, or it is no token's. Assumes nothing.
use Prim.Native.Nat.{ℕ, zero, suc, ◌+◌, ◌*◌, ◌/◌, ◌%◌, ◌<◌}
use native.Mathlib.Omega.{arith}
use mathlib.Core.Path.{◌≡◌, refl, ap, sym, ◌∙◌}
use mathlib.Core.Bool.{Bool, true, false, cond}
use lib.Dec.{eqb, ltb}
use borrow.Author.Tests.{ltb-true, eqb-true, ne_eqb}
use Rattle.text.specs.Text.{ascii}
use Rattle.format.specs.Refusal.{lowest}
use Rattle.plan_notation.specs.Tokens.{unknown, texts}
use Rattle.plan_notation.specs.Lexing.{value_of, name_from, name_of}
use Rattle.plan_notation.proofs.Tested.{equated}
use Rattle.plan_scanner.specs.Inner.Names.{place_of, number_at, Entry}

-- a number that is no name's
missed : (n t v : ℕ) → ((k : ℕ) → k < t + n → value_of k ≡ v → ⊥) → name_from n t v ≡ unknown
unfolding name_from
missed zero t v h = refl
missed (suc n) t v h = by (eqb (value_of t) v) refl (missed n (suc t) v (λ k g. h k (omega arith)))
  where
    by : (b : Bool) → eqb (value_of t) v ≡ b → name_from n (suc t) v ≡ unknown → cond b t (name_from n (suc t) v) ≡ unknown
    by true e r = absurd (h t (omega arith) (eqb-true (value_of t) v e))
    by false e r = r

-- no two names have the same place
apart : (t : ℕ) → t < 62 → number_at 62 (place_of (value_of t)) ≡ value_of t
unfolding number_at place_of value_of texts ascii lowest
apart = equated _ _ 62 refl

module _ (v entry : ℕ) (e : Entry (place_of v) entry) where
  pub there : entry / 256 ≡ v → entry % 256 ≡ name_of v
  there g = sym e.1 ∙ ap name_of g

  pub nowhere : (entry / 256 ≡ v → ⊥) → name_of v ≡ unknown
  unfolding name_of
  nowhere h = missed 62 0 v (λ k g q. h (e.0 ∙ ap (λ (x : ℕ). number_at 62 (place_of x)) (sym q) ∙ apart k g ∙ q))

-- each name is that of its token
named : (t : ℕ) → t < 62 → name_of (value_of t) ≡ t
unfolding name_of value_of texts ascii lowest
named = equated (λ (t : ℕ). name_of (value_of t)) (λ (t : ℕ). t) 62 refl

-- what is kept of the place of the name of token t
pub entry_there : (t : ℕ) {place : ℕ} → ltb t 62 ≡ true → place ≡ place_of (value_of t) → Entry place (value_of t * 256 + t)
entry_there t b p =
    let h : t < 62 = ltb-true t 62 b in
    let q : (value_of t * 256 + t) / 256 ≡ value_of t = omega arith in
    let r : (value_of t * 256 + t) % 256 ≡ t = omega arith in
    (q ∙ sym (ap (number_at 62) p ∙ apart t h), ap name_of q ∙ named t h ∙ sym r)

-- of n names, that of token m and those behind it, none is at place k
unfoldable pub Elsewhere : ℕ → ℕ → ℕ → Type 0
Elsewhere m zero k = Unit
Elsewhere m (suc n) k = Elsewhere m n k × (k ≡ place_of (value_of (n + m)) → ⊥)

pub none_more : (m n k : ℕ) → number_at m k ≡ 0 → Elsewhere m n k → number_at (n + m) k ≡ 0
unfolding Elsewhere number_at
none_more m zero k z u =
    let e : 0 + m ≡ m = omega arith in
    ap (λ (x : ℕ). number_at x k) e ∙ z
none_more m (suc n) k z u =
    let e : suc n + m ≡ suc (n + m) = omega arith in
    ap (λ (x : ℕ). number_at x k) e ∙ simp (ne_eqb (place_of (value_of (n + m))) k (λ q. u.1 (sym q))) (none_more m n k z u.0)

-- what is kept of any other
pub entry_elsewhere : (place : ℕ) → number_at 62 place ≡ 0 → Entry place 70
unfolding name_of value_of texts ascii
entry_elsewhere place z = (sym z, refl)
