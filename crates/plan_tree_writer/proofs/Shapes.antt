-- The words of a term by its count of children. Assumes nothing.
use Prim.Native.Nat.{ℕ, suc, ◌+◌}
use native.Mathlib.Nat.{add-zero}
use native.Mathlib.Omega.{arith}
use mathlib.Core.Path.{◌≡◌, refl, ap, ◌∙◌}
use mathlib.Core.List.{List, [], ◌∷◌, ◌++◌, append-nil}
use Rattle.plan_written.specs.Terms.{TermTree, term, value, child, size, value_at, word_of, words_from}

-- a tree without children, of this word
pub record Leaf (e : TermTree) (w : ℕ) : Type 0 where
  pub leaf_size : size e ≡ 1
  pub leaf_words : (n : ℕ) → words_from n e ≡ w ∷ []

-- a tree with one child, whose word is made of the child's number
pub record One (e : TermTree) (w : ℕ → ℕ) (a : TermTree) : Type 0 where
  pub one_size : size e ≡ suc (size a)
  pub one_words : (n : ℕ) → words_from n e ≡ w (suc n) ∷ words_from (suc n) a

-- with two
pub record Two (e : TermTree) (w : ℕ → ℕ → ℕ) (a b : TermTree) : Type 0 where
  pub two_size : size e ≡ suc (size a + size b)
  pub two_words : (n : ℕ) → words_from n e ≡ w (suc n) (suc n + size a) ∷ words_from (suc n) a ++ words_from (suc n + size a) b

-- with three
pub record Three (e : TermTree) (w : ℕ → ℕ → ℕ → ℕ) (a b c : TermTree) : Type 0 where
  pub three_size : size e ≡ suc (size a + size b + size c)
  pub three_words : (n : ℕ)
      → words_from n e ≡ w (suc n) (suc n + size a) (suc n + size a + size b) ∷ words_from (suc n) a ++ words_from (suc n + size a) b
      ++ words_from (suc n + size a + size b) c

-- ---- by the places of the children

module _ (k : ℕ) where
  pub is_leaf : (x y z : ℕ) → Leaf (term k (value x) (value y) (value z)) (word_of k x y z)
  unfolding size value_at words_from
  is_leaf x y z = record { leaf_size = refl; leaf_words = λ n. refl }

  pub is_first : (a : TermTree) (y z : ℕ) → One (term k (child a) (value y) (value z)) (λ x. word_of k x y z) a
  unfolding size value_at words_from
  is_first a y z = record { one_size = omega arith; one_words = λ n. simp append-nil }

  pub is_second : (x : ℕ) (a : TermTree) (z : ℕ) → One (term k (value x) (child a) (value z)) (λ y. word_of k x y z) a
  unfolding size value_at words_from
  is_second x a z =
      record {
        one_size = omega arith;
        one_words = λ n.
            ap (λ (m : ℕ). word_of k x m z ∷ (words_from m a ++ [])) (add-zero (suc n))
            ∙ ap (λ (l : List ℕ). word_of k x (suc n) z ∷ l) (append-nil (words_from (suc n) a));
      }

  pub is_first_second : (a b : TermTree) (z : ℕ) → Two (term k (child a) (child b) (value z)) (λ x y. word_of k x y z) a b
  unfolding size value_at words_from
  is_first_second a b z = record { two_size = omega arith; two_words = λ n. simp append-nil }

  pub is_first_third : (a : TermTree) (y : ℕ) (b : TermTree) → Two (term k (child a) (value y) (child b)) (λ x z. word_of k x y z) a b
  unfolding size value_at words_from
  is_first_third a y b =
      record {
        two_size = omega arith;
        two_words = λ n.
            ap (λ (m : ℕ). word_of k (suc n) y m ∷ ((words_from (suc n) a ++ []) ++ words_from m b)) (add-zero (suc n + size a))
            ∙ ap (λ (l : List ℕ). word_of k (suc n) y (suc n + size a) ∷ (l ++ words_from (suc n + size a) b)) (append-nil (words_from (suc n) a));
      }

  pub is_second_third : (x : ℕ) (a b : TermTree) → Two (term k (value x) (child a) (child b)) (λ y z. word_of k x y z) a b
  unfolding size value_at words_from
  is_second_third x a b = record { two_size = omega arith; two_words = λ n. simp add-zero }

  pub is_all : (a b c : TermTree) → Three (term k (child a) (child b) (child c)) (word_of k) a b c
  unfolding size value_at words_from
  is_all a b c = record { three_size = omega arith; three_words = λ n. refl }

-- ---- a word by another name

pub leaf_as : {e : TermTree} {w : ℕ} (v : ℕ) → w ≡ v → Leaf e w → Leaf e v
leaf_as v q l = record { leaf_size = l.leaf_size; leaf_words = λ n. l.leaf_words n ∙ ap (λ (x : ℕ). x ∷ []) q }

pub one_as : {e a : TermTree} {w : ℕ → ℕ} (v : ℕ → ℕ) → ((x : ℕ) → w x ≡ v x) → One e w a → One e v a
one_as {e} {a} v q l = record { one_size = l.one_size; one_words = λ n. l.one_words n ∙ ap (λ (x : ℕ). x ∷ words_from (suc n) a) (q (suc n)) }

pub two_as : {e a b : TermTree} {w : ℕ → ℕ → ℕ} (v : ℕ → ℕ → ℕ) → ((x y : ℕ) → w x y ≡ v x y) → Two e w a b → Two e v a b
two_as {e} {a} {b} v q l =
    record {
      two_size = l.two_size;
      two_words =
          λ n. l.two_words n ∙ ap (λ (x : ℕ). x ∷ words_from (suc n) a ++ words_from (suc n + size a) b) (q (suc n) (suc n + size a));
    }
