-- Tests as facts: or, choices, equality of kinds and of places. Assumes nothing.
use Prim.Native.Nat.{ℕ}
use mathlib.Core.Path.{◌≡◌, refl, sym, ap, ◌∙◌}
use mathlib.Core.Bool.{Bool, true, false, not, cond, ◌||◌}
use mathlib.Core.Logic.{◌⊎◌, inl, inr, ◌↔◌, ⊎_map}
use lib.Dec.{T, T_not, eqb, eqb→eq, eqb_refl}
use mir.Facts.{yes_eqb}
use native.Mathlib.Decide.{ℕ_discrete}
use Rattle.log_records.specs.Record.{Kind, kind_number}
use Rattle.log_records.specs.Packed.{kind_of}
use Rattle.log_records.proofs.KindNumbers.{kind_back}

pub or← : (a b : Bool) → T a ⊎ T b → T (a || b)
or← true b h = tt
or← false b (inl h) = absurd h
or← false b (inr h) = h

pub or_iff : {A B C : Type 0} → B ↔ C → (A ⊎ B) ↔ (A ⊎ C)
unfolding ⊎_map
or_iff e = (⊎_map (λ a. a) e.0, ⊎_map (λ a. a) e.1)

pub cond_true : {A : Type 0} (b : Bool) (x y : A) → T b → cond b x y ≡ x
cond_true true x y h = refl
cond_true false x y h = absurd h

pub cond_false : {A : Type 0} (b : Bool) (x y : A) → (T b → ⊥) → cond b x y ≡ y
cond_false true x y h = absurd (h tt)
cond_false false x y h = refl

pub same_place : (o f o' f' : ℕ) → Dec ((o ≡ o') × (f ≡ f'))
same_place o f o' f' = go (ℕ_discrete o o') (ℕ_discrete f f')
  where
    go : Dec (o ≡ o') → Dec (f ≡ f') → Dec ((o ≡ o') × (f ≡ f'))
    go (yes a) (yes b) = yes (a, b)
    go (yes a) (no b) = no (λ p. b p.1)
    go (no a) d = no (λ p. a p.0)

-- ---- kinds

-- kinds with two numbers are two kinds
pub differ : {a b : Kind} → a ≡ b → T (not (eqb (kind_number a) (kind_number b))) → ⊥
differ {a} e h = T_not (eqb (kind_number a) (kind_number a)) (rw (← e) at h) (eqb_refl (kind_number a))

abbrev pub same_kind : Kind → Kind → Bool
same_kind a b = eqb (kind_number a) (kind_number b)

pub same_kind→ : (a b : Kind) → T (same_kind a b) → a ≡ b
same_kind→ a b h = sym (kind_back a) ∙ ap kind_of (eqb→eq (kind_number a) (kind_number b) h) ∙ kind_back b

pub same_kind← : (a b : Kind) → a ≡ b → T (same_kind a b)
same_kind← a b e = yes_eqb (ap kind_number e)
