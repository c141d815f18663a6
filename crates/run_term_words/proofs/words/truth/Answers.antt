-- `truth` meets its contract. Assumes nothing.
use borrow.Author.Tests.{eq-eqb, ne_eqb}
use mathlib.Core.Path.{◌≡◌}
use native.Mathlib.Omega.{arith}
use Rattle.run_term_words.specs.Inner.Words.{truth_of, truth_by}
use borrow.Author.Rules.{rules}
use Rattle.run_term_words.proofs.words.truth.Goals as goal

pub returns-in-12 : goal.returns-in-12
unfolding truth_of truth_by
returns-in-12 c = rw (← c.word-word.ensures, ← c.tag-tag.ensures) (simp c.in-12.is)

pub returns-then-tag-eq-TRUE : goal.returns-then-tag-eq-TRUE
unfolding truth_of truth_by
returns-then-tag-eq-TRUE c = rw (
  ← c.word-word.ensures,
  ← c.tag-tag.ensures,
  ← c.first.ensures,
  ← c.word-operand.ensures,
  ← c.tag.ensures,
)
    (simp (c.in-13.is, eq-eqb _ _ c.if-tag-eq-TRUE.true))

pub returns-else-tag-eq-TRUE : goal.returns-else-tag-eq-TRUE
unfolding truth_of truth_by
returns-else-tag-eq-TRUE c = rw (
  ← c.word-word.ensures,
  ← c.tag-tag.ensures,
  ← c.first.ensures,
  ← c.word-operand.ensures,
  ← c.tag.ensures,
)
    (simp (c.in-13.is, ne_eqb _ _ c.if-tag-eq-TRUE.false))

pub returns-in_default : goal.returns-in_default
unfolding truth_of truth_by
returns-in_default c =
    let a : c.tag-tag.result ≡ 12 → ⊥ = λ z. omega arith in
    let b : c.tag-tag.result ≡ 13 → ⊥ = λ z. omega arith in rw (← c.word-word.ensures, ← c.tag-tag.ensures) (simp (ne_eqb _ _ a, ne_eqb _ _ b))
