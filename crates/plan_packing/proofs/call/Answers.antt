-- `call` meets its contract. Assumes nothing.
use Rattle.plan_packing.proofs.PackedWords.{call_word_lem}
use Rattle.plan_packing.proofs.call.Goals as goal

pub returns : goal.returns
returns c = rw c.procedure_of.ensures (call_word_lem _ _)
