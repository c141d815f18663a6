-- `value` meets its contract. Assumes nothing.
use borrow.Author.Tests.{ne_eqb}
use mathlib.Core.Path.{◌≡◌}
use native.Mathlib.Omega.{arith}
use Rattle.run_term_words.specs.Inner.Words.{value_of, value_by}
use borrow.Author.Rules.{rules}
use Rattle.run_term_words.proofs.words.value.Goals as goal

pub returns-in-0 : goal.returns-in-0
unfolding value_of value_by
returns-in-0 c = rw (← c.word-word.ensures, ← c.tag-tag.ensures) (simp c.in-0.is)

pub returns-in-1 : goal.returns-in-1
unfolding value_of value_by
returns-in-1 c = rw (← c.word-word.ensures, ← c.tag-tag.ensures) (simp (c.in-1.is, c.slot.ensures, c.slot_of.ensures))

pub returns-in_default : goal.returns-in_default
unfolding value_of value_by
returns-in_default c =
    let a : c.tag-tag.result ≡ 0 → ⊥ = λ z. omega arith in
    let b : c.tag-tag.result ≡ 1 → ⊥ = λ z. omega arith in rw (← c.word-word.ensures, ← c.tag-tag.ensures) (simp (ne_eqb _ _ a, ne_eqb _ _ b))
