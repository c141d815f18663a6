-- `log_effects::number_at` meets its contract. Assumes nothing.
use Rattle.log_effects.proofs.Steps.{numbered_at}
use Rattle.log_effects.proofs.number_at.Goals as goal

pub number-requires : goal.number-requires
number-requires c =
    record { place_in = c.place_at-place.ensures.result_in; sized = c.requires.long }

pub returns : goal.returns
returns c = numbered_at c.place_at-place.ensures.value c.number.ensures
