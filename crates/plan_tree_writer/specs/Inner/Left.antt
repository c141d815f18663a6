-- Names for what is written of a tree, and for what is left of it: no reader of the entry's promise needs them. Assumes nothing.
use Rattle.std.specs.Prelude.{ℕ, ◌+◌, ◌*◌, ◌≤◌, ◌<◌, ◌≡◌, cond, List, [], ◌∷◌, eqb, length}
use Rattle.std.proofs.lemmas.List.Edits.{sets}
use Rattle.plan_packed.specs.Inner.Operands.{tag_of, first_of, second_of, let_first, let_second, write_second}
use Rattle.plan_packed.specs.Inner.Steps.{tree_in, condition_in, list_in}
use Rattle.plan_written.specs.Terms.{TermTree, terms_of, terms_ofᶜ, terms_ofᵃ, size, words_from}
use Rattle.plan_written.specs.Written.{word_bytes}
use Rattle.plan_tree_writer.specs.declared.Left.{Left}
use Rattle.plan_tree_writer.specs.declared.Left.TheVariants.{Done, At}

-- the terms of the expression, the condition or the list at a term of the array
abbrev pub expressions_in : List ℕ → ℕ → TermTree
expressions_in words t = terms_of (tree_in words t)

abbrev pub conditions_in : List ℕ → ℕ → TermTree
conditions_in words t = terms_ofᶜ (condition_in words t)

abbrev pub lists_in : List ℕ → ℕ → TermTree
lists_in words t = terms_ofᵃ (list_in words t)

-- the tags of expressions with one child, an expression, and with two
abbrev pub singles : List ℕ
singles = 20 ∷ 19 ∷ 18 ∷ 10 ∷ 9 ∷ 3 ∷ []

abbrev pub pairs : List ℕ
pairs = 11 ∷ 5 ∷ 4 ∷ []

-- the children of an expression with two
abbrev pub pair_first : ℕ → ℕ
pair_first w = cond (eqb (tag_of w) 5) (let_first w) (first_of w)

abbrev pub pair_second : ℕ → ℕ
pair_second w = cond (eqb (tag_of w) 4) (write_second w) (cond (eqb (tag_of w) 5) (let_second w) (second_of w))

-- there is room for a tree whose root has number n: in the numbers, and in an area whose terms begin at base
pub record Room (e : TermTree) (base n : ℕ) (area : List ℕ) : Type 0 where
  pub numbered : n + size e ≤ 1024
  pub placed : base + 5 * (n + size e) ≤ length area

-- an area after a tree is written whose root has number n
abbrev pub after : TermTree → ℕ → ℕ → List ℕ → List ℕ
after e base n area = sets area (base + 5 * n) (word_bytes (words_from n e))

-- a tree is written, and the next term has number r
pub record Wrote (e : TermTree) (base n : ℕ) (area area' : List ℕ) (r : ℕ) : Type 0 where
  pub next : r ≡ n + size e
  pub bytes : area' ≡ after e base n area

-- the area, and the next term's number, once what is left is written, of trees by their terms
unfoldable pub finished : (ℕ → TermTree) → ℕ → Left → List ℕ → List ℕ
unfolding word_bytes words_from
finished T base (Done n) area = area
finished T base (At t n) area = after (T t) base n area

unfoldable pub end_of : (ℕ → TermTree) → Left → ℕ
unfolding size
end_of T (Done n) = n
end_of T (At t n) = n + size (T t)

-- what is left comes after term t
abbrev pub After : ℕ → Left → Type 0
After t (Done n) = Unit {0}
After t (At x n) = (t < x) × (x < 1024)

-- of the tree at term t a part is written, and this is left
pub record Going (T : ℕ → TermTree) (base t n : ℕ) (area area' : List ℕ) (left : Left) : Type 0 where
  pub ends : end_of T left ≡ n + size (T t)
  pub bytes : finished T base left area' ≡ after (T t) base n area
  pub later : After t left
