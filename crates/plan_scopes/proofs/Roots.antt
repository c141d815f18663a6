-- The scopes of the procedures' roots. Assumes nothing.
use mathlib.Core.Path.{◌≡◌, refl, sym, ap, ◌∙◌}
use mathlib.Core.List.{List, [], ◌∷◌}
use Prim.Native.Nat.{ℕ, zero, suc, ◌-◌, ◌^◌, ◌≤◌, ◌<◌}
use native.Mathlib.Nat.{add-zero}
use native.Mathlib.Decide.{ℕ_discrete}
use native.Mathlib.Omega.{arith}
use lib.Dec.{eqb}
use lib.ListN.{length, get_or, length-set, replicate, length-replicate}
use lib.Seq.{get_or-set_same, get_or-set_other}
use borrow.Author.Tests.{eq-eqb}
use Rattle.plan_packed.specs.Format
use Rattle.plan_packed.specs.Format.{parameters, root}
use Rattle.plan_packed.specs.Refusals.{sum_below, one_if}
use Rattle.plan_packed.specs.Inner.Steps.{root_times, all_times}
use Rattle.plan_scopes.specs.Inner.Scopes.{handed, hand_all, RootsScoped, TermsScoped}

-- a part of a sum
pub sum_part : (n : ℕ) (f : ℕ → ℕ) (i : ℕ) → i < n → f i ≤ sum_below n f
unfolding sum_below
sum_part zero f i h = absurd (omega arith)
sum_part (suc n) f i h = go (ℕ_discrete i n) (sum_part n f i)
  where
    go : Dec (i ≡ n) → (i < n → f i ≤ sum_below n f) → f i ≤ sum_below (suc n) f
    go (yes e) r = rw e (omega arith)
    go (no e) r = omega (arith, r (omega (arith, e)))

-- a procedure names its root
pub root_named : (b : List ℕ) (n p : ℕ) → p < n → 1 ≤ root_times b n (root b p)
unfolding root_times
root_named b n p h = omega (arith, rw (eq-eqb (root b p) (root b p) refl) at (sum_part n (λ q. one_if (eqb (root b q) (root b p))) p h))

pub no_roots : (b : List ℕ) → RootsScoped b 0 (replicate 1024 0)
no_roots b = record { size = length-replicate {A = ℕ} 1024 0; roots = λ p h. absurd (omega arith) }

-- one more procedure hands its parameters to its root
pub root_scoped : (b : List ℕ) (p m v : ℕ) (s s' : List ℕ) → m ≡ 2 ^ parameters b p - 1 → v ≡ root b p → root b p < 1024
    → s' ≡ hand_all (handed m v ∷ []) s → RootsScoped b p s → RootsScoped b (suc p) s'
unfolding hand_all root_times sum_below
root_scoped b p m v s s' d e h q r = record {
  size = ap length q ∙ length-set s v m ∙ r.size;
  roots = λ i l. go i l (ℕ_discrete i p);
}
  where
    go : (i : ℕ) → i < suc p → Dec (i ≡ p) → root_times b (suc p) (root b i) ≡ 1 → get_or s' (root b i) 0 ≡ 2 ^ parameters b i - 1
    go i l (yes k) o = rw (k, q, e) (get_or-set_same s (root b p) m 0 (let z = r.size in omega arith) ∙ d)
    go i l (no k) o =
        let n = root_named b p i (omega (arith, k)) in
        let other : root b p ≡ root b i → ⊥ = λ x. omega (arith, rw (eq-eqb (root b p) (root b i) x) at o) in
        rw (q, e) (get_or-set_other s (root b p) (root b i) m 0 (λ x. other (sym x)) ∙ r.roots i (omega (arith, k)) (omega arith))

-- the terms have handed nothing yet
pub no_terms_scoped : (b : List ℕ) (procedures : ℕ) (s : List ℕ) → procedures ≡ Format.procedures b → RootsScoped b procedures s → TermsScoped b 0 s
unfolding root_times all_times sum_below
no_terms_scoped b procedures s e r = record {
  size = r.size;
  roots = λ p h o. r.roots p (omega arith) (rw e (sym (add-zero _) ∙ o));
  children = λ t h. absurd (omega arith);
}
