-- The figures that document 02, E13, gives. Assumes nothing.
use Rattle.std.specs.Prelude.{ℕ, List, [], ◌∷◌}

-- what a run of so many moves that comes to its end costs, without the option and with it
pub record Figure : Type 0 where
  pub moves : ℕ
  pub plain : ℕ
  pub with_option : ℕ

-- "0 moves cost 1,200, with the option 1,380; 100 moves 1,235 and 1,421; 101 moves 1,270 and 1,461."
unfoldable pub figures : List Figure
figures =
    record { moves = 0; plain = 1200; with_option = 1380 }
    ∷ record { moves = 100; plain = 1235; with_option = 1421 }
    ∷ record { moves = 101; plain = 1270; with_option = 1461 }
    ∷ []
