-- What a play of what was written answers (document 02, E10: "Played, every pick moves"). Assumes nothing.
use Rattle.std.specs.Prelude.{ℕ, ◌≡◌, Ok}
use Rattle.run_outcome.specs.declared.Stop.TheVariants as stop
use Rattle.play.specs.Played.{Played}

-- nothing refuses it, it comes to its end, and each of its n picks moves
pub record PlaysThrough (p : Played) (n : ℕ) : Type 0 where
  pub passes : p.checked ≡ Ok tt
  pub ends : p.outcome.stop ≡ stop.End
  pub picks : p.outcome.picks ≡ n
  pub moves : p.outcome.moves ≡ n
