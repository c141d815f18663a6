-- What the entry `play` answers: its refusals are those of every check, by their reasons. Assumes nothing.
use Rattle.play.specs.declared.outcome.Played as code
use Rattle.refusals.specs.declared.Refusal.{Refusal}

abbrev pub Played : Type 0
Played = code.Played Refusal
