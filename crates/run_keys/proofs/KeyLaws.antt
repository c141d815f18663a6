-- Laws of key sets: the keys of ∅, {k} and K ∪ L, a union with ∅, {w} ⊆ K, and a key of a set that is not empty. Assumes nothing.
use Prim.Native.Nat.{ℕ, zero, suc, ◌+◌, ◌*◌, ◌/◌, ◌%◌, ◌^◌, ◌≤◌, ◌<◌, max}
use native.Mathlib.Nat.{mod-lt, zero-lt-suc, pow-suc, mul-div_cancel, mul-mod_left, zero-max, div-div-eq-div-mul, pow-succ', div-one}
use native.Mathlib.Omega.{arith}
use mathlib.Core.Path.{◌≡◌, refl, sym, ap, ap₂, ◌∙◌}
use mathlib.Core.Bool.{Bool, true, false, ◌||◌, false≢true}
use lib.Bits.{bit_or, or_shr, or_mod, or_step, or_zero_l, or_zero_r}
use lib.Dec.{T, eqb, eqb-suc-suc, eqb-zero-suc, eqb-suc-zero}
use borrow.Author.Tests.{eq-eqb, eqb-true}
use Rattle.run_keys.specs.Keys.{Keys, empty, singleton, holds, union, subset, is_empty}

-- ---- key 0 and the later keys

pub holds_zero : (K : Keys) → holds K 0 ≡ eqb (K % 2) 1
unfolding holds
holds_zero K = ap (λ (n : ℕ). eqb (n % 2) 1) (div-one K)

pub holds_suc : (K : Keys) (k : ℕ) → holds K (suc k) ≡ holds (K / 2) k
unfolding holds
holds_suc K k = ap (λ (n : ℕ). eqb (n % 2) 1) (sym (div-div-eq-div-mul K 2 (2 ^ k) ∙ ap (λ (n : ℕ). K / n) (sym (pow-succ' 2 k))))

-- ---- the keys of ∅, {w} and K ∪ L

pub holds_empty : (k : ℕ) → holds empty k ≡ false
unfolding holds
holds_empty zero = refl
holds_empty (suc k) = holds_suc 0 k ∙ holds_empty k

pub holds_singleton : (w k : ℕ) → holds (singleton w) k ≡ eqb k w
unfolding holds
holds_singleton zero zero = refl
holds_singleton zero (suc k) = holds_suc 1 k ∙ holds_empty k ∙ sym (eqb-suc-zero k)
holds_singleton (suc w) zero =
    holds_zero (2 ^ suc w) ∙ ap (λ (n : ℕ). eqb (n % 2) 1) (pow-suc 2 w) ∙ ap (λ (n : ℕ). eqb n 1) (mul-mod_left (2 ^ w) 2) ∙ sym (eqb-zero-suc w)
holds_singleton (suc w) (suc k) =
    holds_suc (2 ^ suc w) k
    ∙ ap (λ (n : ℕ). holds (n / 2) k) (pow-suc 2 w)
    ∙ ap (λ (n : ℕ). holds n k) (mul-div_cancel (2 ^ w) (zero-lt-suc 1))
    ∙ holds_singleton w k
    ∙ sym (eqb-suc-suc k w)

-- of two digits one is 1, or both
or_digit : (x y : ℕ) → x < 2 → y < 2 → eqb (bit_or x y) 1 ≡ (eqb x 1 || eqb y 1)
or_digit zero zero p q = refl
or_digit zero (suc zero) p q = refl
or_digit zero (suc (suc y)) p q = absurd (omega arith)
or_digit (suc zero) zero p q = refl
or_digit (suc zero) (suc zero) p q = refl
or_digit (suc zero) (suc (suc y)) p q = absurd (omega arith)
or_digit (suc (suc x)) y p q = absurd (omega arith)

pub holds_union : (K L : Keys) (k : ℕ) → holds (union K L) k ≡ (holds K k || holds L k)
unfolding holds union
holds_union K L k =
    ap (λ (n : ℕ). eqb n 1) (ap (λ (n : ℕ). n % 2) (or_shr K L k) ∙ or_mod (K / 2 ^ k) (L / 2 ^ k) 1)
    ∙ or_digit (K / 2 ^ k % 2) (L / 2 ^ k % 2) (mod-lt _ (zero-lt-suc 1)) (mod-lt _ (zero-lt-suc 1))

-- ---- a union with ∅

pub union_empty : (K : Keys) → union K empty ≡ K
unfolding union
union_empty K = or_zero_r K

pub empty_union : (K : Keys) → union empty K ≡ K
unfolding union
empty_union K = or_zero_l K

-- ---- {w} ⊆ K

-- two tests agree where each follows from the other
eqb_iff : (a b c d : ℕ) → (a ≡ b → c ≡ d) → (c ≡ d → a ≡ b) → eqb a b ≡ eqb c d
eqb_iff a b c d f g = go (eqb a b) (eqb c d) refl refl
  where
    go : (x y : Bool) → eqb a b ≡ x → eqb c d ≡ y → x ≡ y
    go true y p q = sym (eq-eqb c d (f (eqb-true a b p))) ∙ q
    go false true p q = sym p ∙ eq-eqb a b (g (eqb-true c d q))
    go false false p q = refl

max_one : (x : ℕ) → x < 2 → max 1 x ≡ 1
max_one x p = omega arith

-- {w} ⊆ K exactly where w ∈ K
pub subset_singleton : (w : ℕ) (K : Keys) → subset (singleton w) K ≡ holds K w
unfolding subset union holds
subset_singleton zero K =
    let e : bit_or 1 K ≡ K / 2 * 2 + 1 = or_step 1 K ∙ ap₂ (λ (x y : ℕ). x * 2 + y) (or_zero_l (K / 2)) (max_one (K % 2) (mod-lt K (zero-lt-suc 1))) in
    eqb_iff (bit_or 1 K) K (K / 1 % 2) 1 (λ q. omega (arith, e)) (λ q. omega (arith, e))
subset_singleton (suc w) K =
    let e : bit_or (2 ^ suc w) K ≡ bit_or (2 ^ w) (K / 2) * 2 + K % 2 =
    or_step (2 ^ suc w) K
    ∙ ap₂ (λ (x y : ℕ). x * 2 + y)
    (ap (λ (n : ℕ). bit_or n (K / 2)) (ap (λ (n : ℕ). n / 2) (pow-suc 2 w) ∙ mul-div_cancel (2 ^ w) (zero-lt-suc 1)))
    (ap (λ (n : ℕ). max (n % 2) (K % 2)) (pow-suc 2 w) ∙ ap (λ (n : ℕ). max n (K % 2)) (mul-mod_left (2 ^ w) 2) ∙ zero-max (K % 2)) in
    eqb_iff (bit_or (2 ^ suc w) K) K (bit_or (2 ^ w) (K / 2)) (K / 2) (λ q. omega arith) (λ q. omega arith)
    ∙ subset_singleton w (K / 2)
    ∙ sym (holds_suc K w)

-- ---- sets that are empty, and sets that are not

some_key_in : (n : ℕ) (K : Keys) → K ≤ n → (K ≡ 0 → ⊥) → (k : ℕ) × T (holds K k)
some_key_in zero K h z = absurd (z (omega arith))
some_key_in (suc n) K h z = go (K % 2) refl (mod-lt K (zero-lt-suc 1)) (λ b c. some_key_in n (K / 2) b c)
  where
    go : (b : ℕ) → K % 2 ≡ b → b < 2 → (K / 2 ≤ n → (K / 2 ≡ 0 → ⊥) → (k : ℕ) × T (holds (K / 2) k)) → (k : ℕ) × T (holds K k)
    go zero e l rec = let r = rec (omega arith) (λ q. z (omega arith)) in (suc r.0, rw (holds_suc K r.0) r.1)
    go (suc zero) e l rec = (0, rw (holds_zero K ∙ ap (λ (x : ℕ). eqb x 1) e) tt)
    go (suc (suc b)) e l rec = absurd (omega arith)

-- a set that is not empty has a key
pub some_key : (K : Keys) → is_empty K ≡ false → (k : ℕ) × T (holds K k)
unfolding is_empty
some_key K h = some_key_in K K (omega arith) (λ e. false≢true (sym h ∙ eq-eqb K 0 e))

-- an empty set has none
pub no_key : (K : Keys) (k : ℕ) → is_empty K ≡ true → T (holds K k) → ⊥
unfolding is_empty
no_key K k h t = rw (ap (λ (n : ℕ). holds n k) (eqb-true K 0 h) ∙ holds_empty k) at t

-- ---- equal sets

pub singleton_injective : (a b : ℕ) → singleton a ≡ singleton b → a ≡ b
singleton_injective a b e = eqb-true a b (sym (holds_singleton b a) ∙ ap (λ (K : Keys). holds K a) (sym e) ∙ holds_singleton a a ∙ eq-eqb a a refl)
