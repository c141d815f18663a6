-- `three` meets its contract. Assumes nothing.
use Rattle.plan_packing.proofs.PackedWords.{if_word_lem}
use Rattle.plan_packing.proofs.three.Goals as goal

pub returns : goal.returns
returns c = if_word_lem _ _ _
