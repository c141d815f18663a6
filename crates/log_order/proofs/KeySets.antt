-- Key sets as tests of a key, and families of them with one place changed. Assumes nothing.
use Prim.Native.Nat.{ℕ}
use mathlib.Core.Path.{◌≡◌, sym, subst}
use mathlib.Core.Bool.{Bool, false, ◌||◌, ◌&&◌, cond}
use mathlib.Core.Logic.{◌⊎◌, inl, inr, ◌↔◌}
use lib.Dec.{T, eqb, eqb→eq, eqb_refl}
use mir.Facts.{or_yes, yes_eqb, and_yes, yes_and}
use Rattle.log_order.proofs.Tests.{or←, cond_true, cond_false}

abbrev pub KeySet : Type 0
KeySet = ℕ → Bool

unfoldable pub union : KeySet → KeySet → KeySet
union a b k = a k || b k

-- the set a with key n
unfoldable pub learn : ℕ → KeySet → KeySet
learn n a k = eqb k n || a k

unfoldable pub no_keys : KeySet
no_keys k = false

unfoldable pub only_zero : KeySet
only_zero k = eqb k 0

pub union↔ : (a b : KeySet) (k : ℕ) → T (union a b k) ↔ (T (a k) ⊎ T (b k))
unfolding union
union↔ a b k = (or_yes (a k) (b k), or← (a k) (b k))

pub learn↔ : (n : ℕ) (a : KeySet) (k : ℕ) → T (learn n a k) ↔ (T (a k) ⊎ (k ≡ n))
unfolding learn
learn↔ n a k = (λ h. there (or_yes (eqb k n) (a k) h), λ h. or← (eqb k n) (a k) (hither h))
  where
    there : T (eqb k n) ⊎ T (a k) → T (a k) ⊎ (k ≡ n)
    there (inl e) = inr (eqb→eq k n e)
    there (inr x) = inl x

    hither : T (a k) ⊎ (k ≡ n) → T (eqb k n) ⊎ T (a k)
    hither (inl x) = inr x
    hither (inr e) = inl (yes_eqb e)

pub no_keys→ : (k : ℕ) → T (no_keys k) → ⊥
unfolding no_keys
no_keys→ k h = h

pub only_zero↔ : (k : ℕ) → T (only_zero k) ↔ (k ≡ 0)
unfolding only_zero
only_zero↔ k = (eqb→eq k 0, yes_eqb)

-- ---- a family with one place changed

module _ {A : Type 0} where
  unfoldable pub put : (ℕ → A) → ℕ → A → ℕ → A
  put g n a m = cond (eqb n m) a (g m)

  pub put_same : (g : ℕ → A) (n : ℕ) (a : A) → put g n a n ≡ a
  unfolding put
  put_same g n a = cond_true (eqb n n) a (g n) (eqb_refl n)

  pub put_other : (g : ℕ → A) (n : ℕ) (a : A) (m : ℕ) → (n ≡ m → ⊥) → put g n a m ≡ g m
  unfolding put
  put_other g n a m h = cond_false (eqb n m) a (g m) (λ e. h (eqb→eq n m e))

  -- by object and field
  unfoldable pub put₂ : (ℕ → ℕ → A) → ℕ → ℕ → A → ℕ → ℕ → A
  put₂ g o f a o' f' = cond (eqb o o' && eqb f f') a (g o' f')

  pub put₂_same : (g : ℕ → ℕ → A) (o f : ℕ) (a : A) → put₂ g o f a o f ≡ a
  unfolding put₂
  put₂_same g o f a = cond_true (eqb o o && eqb f f) a (g o f) (yes_and (eqb o o) (eqb f f) (eqb_refl o) (eqb_refl f))

  pub put₂_other : (g : ℕ → ℕ → A) (o f : ℕ) (a : A) (o' f' : ℕ) → (o ≡ o' → f ≡ f' → ⊥) → put₂ g o f a o' f' ≡ g o' f'
  unfolding put₂
  put₂_other g o f a o' f' n =
      cond_false (eqb o o' && eqb f f') a (g o' f') (λ h. let d = and_yes (eqb o o') (eqb f f') h in n (eqb→eq o o' d.0) (eqb→eq f f' d.1))

pub put_same↔ : (g : ℕ → KeySet) (t : ℕ) (a : KeySet) (k : ℕ) → T (put g t a t k) ↔ T (a k)
put_same↔ g t a k = (subst (λ (b : KeySet). T (b k)) (put_same g t a), subst (λ (b : KeySet). T (b k)) (sym (put_same g t a)))

pub put_other↔ : (g : ℕ → KeySet) (t : ℕ) (a : KeySet) (u k : ℕ) → (t ≡ u → ⊥) → T (put g t a u k) ↔ T (g u k)
put_other↔ g t a u k n = (subst (λ (b : KeySet). T (b k)) (put_other g t a u n), subst (λ (b : KeySet). T (b k)) (sym (put_other g t a u n)))
