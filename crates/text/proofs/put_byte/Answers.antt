-- `text::put_byte` meets its contract. Assumes nothing.
use Rattle.text.proofs.Added.{added_one}
use Rattle.text.proofs.put_byte.Goals as goal

pub returns : goal.returns
returns c = added_one _ _ _ c.requires
