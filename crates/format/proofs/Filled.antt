-- A list filled place by place, from one value repeated. Assumes nothing.
use Prim.Native.Nat.{ℕ, zero, suc, ◌+◌, ◌<◌}
use native.Mathlib.Omega.{arith}
use native.Mathlib.Decide.{ℕ_discrete}
use mathlib.Core.Path.{◌≡◌, refl, sym, subst}
use mathlib.Core.List.{List}
use lib.ListN.{length, get_or, set, replicate}
use lib.Seq.{get_or-set_same, get_or-set_other}

-- what holds of a value and of what stands past the end holds at every place of the value repeated
pub repeated : {A : Type 0} (n k : ℕ) (x d : A) (P : A → Type 0) → P x → P d → P (get_or (replicate n x) k d)
repeated zero k x d P p q = q
repeated (suc n) zero x d P p q = p
repeated (suc n) (suc k) x d P p q = repeated n k x d P p q

pub zeros : (n k : ℕ) → get_or (replicate {A = ℕ} n 0) k 0 ≡ 0
zeros n k = repeated {A = ℕ} n k 0 0 (λ (x : ℕ). x ≡ 0) refl refl

-- what holds of the elements below u, and of the one that is stored at u, holds of those below u + 1
pub filled : {A : Type 0} (l : List A) (u : ℕ) (x d : A) (P : ℕ → A → Type 0) → u < length l → ((k : ℕ) → k < u → P k (get_or l k d)) → P u x
    → (k : ℕ) → k < u + 1 → P k (get_or (set l u x) k d)
filled l u x d P long below here k h = go (ℕ_discrete k u)
  where
    go : Dec (k ≡ u) → P k (get_or (set l u x) k d)
    go (yes e) = subst (λ (j : ℕ). P j (get_or (set l u x) j d)) (sym e) (subst (P u) (sym (get_or-set_same l u x d long)) here)
    go (no n) = subst (P k) (sym (get_or-set_other l u k x d n)) (below k (omega arith))
