-- `in_arrays` meets its contract. Assumes nothing.
use native.Mathlib.Omega.{arith}
use Rattle.read.proofs.Answers.{lent}
use Rattle.read.proofs.in_arrays.Goals as goal

pub read_into-requires : goal.read_into-requires
read_into-requires g c =
    let l = c.requires in
    lent _ _ _ _ _ l.few_tokens (omega (arith, l.more_counts)) l.most_words l.some_goals l.most_goals l.some_values l.most_values l.whole
