-- `word` meets its contract. Assumes nothing.
use mathlib.Core.Path.{refl}
use Rattle.run_term_words.specs.Inner.Words.{word_at}
use borrow.Author.Rules.{rules}
use Rattle.run_term_words.proofs.words.word.Goals as goal

pub returns : goal.returns
unfolding word_at
returns c = refl
