-- The tags one by one: what holds of each tag of the table and of every number past it holds of all; and the same of all but some. Assumes nothing.
use Prim.Native.Nat.{ℕ, zero, suc, ◌-◌, ◌<◌}
use native.Mathlib.Decide.{dec_lt}
use native.Mathlib.Omega.{arith}
use mathlib.Core.Path.{subst}
use mathlib.Core.Bool.{Bool, cond}
use mathlib.Core.List.{List, [], ◌∷◌}
use lib.Dec.{eqb}
use borrow.Author.Tests.{ne_eqb}
use Rattle.format.proofs.Ranges.{EachOf, by_range, NoneOf}
use Rattle.plan_packed.specs.Format.{tag_count}

-- the number j past n, which computes by its first n steps
abbrev pub past : ℕ → ℕ → ℕ
past zero j = j
past (suc n) j = suc (past n j)

-- a tag of the table, or a number past it
any_tag : (P : ℕ → Type 0) → ((k : ℕ) → k < tag_count → P k) → ((j : ℕ) → P (past tag_count j)) → (k : ℕ) → P k
any_tag P all more k = go (dec_lt k tag_count)
  where
    go : Dec (k < tag_count) → P k
    go (yes h) = all k h
    go (no h) = subst P (omega (arith, h)) (more (k - tag_count))

pub by_tag : (P : ℕ → Type 0) → EachOf P 0 tag_count (((j : ℕ) → P (past tag_count j)) → (k : ℕ) → P k)
by_tag P = by_range P 0 tag_count _ (λ all. any_tag P (λ k h. all k (omega arith) h))

-- ---- all but some

-- nothing, if k is one of these
abbrev pub Unless : (ℕ → Type 0) → List ℕ → ℕ → Type 0
Unless P [] k = P k
Unless P (j ∷ js) k = cond (eqb k j) (Unit {0}) (Unless P js k)

met : (P : ℕ → Type 0) (js : List ℕ) (k : ℕ) → Unless P js k → NoneOf k js → P k
met P [] k u n = u
met P (j ∷ js) k u n = met P js k (subst (λ (x : Bool). cond x (Unit {0}) (Unless P js k)) (ne_eqb k j n.1) u) n.0

pub except : (P : ℕ → Type 0) (js : List ℕ) → EachOf (Unless P js) 0 tag_count (((j : ℕ) → P (past tag_count j)) → (k : ℕ) → NoneOf k js → P k)
except P js = by_range (Unless P js) 0 tag_count _ (λ all more. any_tag (λ k. NoneOf k js → P k) (λ k h. met P js k (all k (omega arith) h)) (λ j n. more j))
