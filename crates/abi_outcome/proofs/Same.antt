-- Of a play whose refusal is by its reason this is the answer of the entry `play`. Assumes nothing.
use mathlib.Core.Path.{◌≡◌, refl}
use Rattle.refusals.specs.Numbers.{refusal_of}
use Rattle.play.specs.Played.{Played}
use Rattle.play.specs.Answer.{answered}
use Rattle.abi_outcome.specs.Inner.Answered.{play_by}

pub same_play : (p : Played) → play_by refusal_of p ≡ answered p
unfolding answered
same_play p = refl
