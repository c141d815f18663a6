-- What a play returns, and the area for the 40 bytes of its outcome afterwards. Assumes nothing.
use Rattle.std.specs.Prelude.{ℕ, List}
use Rattle.rules.specs.Play as play
use Rattle.abi_convention.specs.Convention.{value_number, refusal_number}
use Rattle.abi_outcome.specs.Bytes.{outcome_bytes}

-- 0 for a run
unfoldable pub play_number : play.Played → ℕ
play_number (play.Played.ran o) = value_number 0
play_number (play.Played.refused r) = refusal_number r

-- untouched where the play is refused
unfoldable pub out_after : List ℕ → play.Played → List ℕ
unfolding outcome_bytes
out_after out (play.Played.refused r) = out
out_after out (play.Played.ran o) = outcome_bytes o
