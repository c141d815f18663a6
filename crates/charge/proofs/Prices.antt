-- The document's figures by computation, and the most that a run is charged. Assumes nothing.
use Prim.Native.Nat.{ℕ, ◌≤◌}
use native.Mathlib.Omega.{arith}
use mathlib.Core.Path.{◌≡◌, refl}
use mathlib.Core.Bool.{Bool, true, false}
use mathlib.Core.List.{map}
use Rattle.rules.specs.Room.{Room}
use Rattle.rules.specs.Run.{Stop}
use Rattle.run_prices.proofs.Roundings.{hundreds_few}
use Rattle.charge.specs.Figures.{Figure, figures}
use Rattle.run_prices.specs.Price.{run_cost, risen, price}
use Rattle.charge.specs.Charge.{price_by}

pub figures_plain : map (λ (x : Figure). price_by false Stop.end x.moves) figures ≡ map (λ (x : Figure). x.plain) figures
unfolding figures price_by
figures_plain = refl

pub figures_with_option : map (λ (x : Figure). price_by true Stop.end x.moves) figures ≡ map (λ (x : Figure). x.with_option) figures
unfolding figures price_by
figures_with_option = refl

-- a run that stops for a missing key is charged for the moves made, one that stops for room is free, with the option too
pub race_charged : (option : Bool) (n : ℕ) → price_by option Stop.race n ≡ price_by option Stop.end n
unfolding price_by
race_charged option n = refl

pub no_room_free : (option : Bool) (k : Room) (n : ℕ) → price_by option (Stop.no_room k) n ≡ 0
unfolding price_by
no_room_free option k n = refl

pub price_small : (option : Bool) (stop : Stop) (n : ℕ) → n ≤ 4096 → price_by option stop n ≤ 3031
unfolding price_by price run_cost risen
price_small true Stop.end n h = let k = hundreds_few n h in omega arith
price_small false Stop.end n h = let k = hundreds_few n h in omega arith
price_small true Stop.race n h = let k = hundreds_few n h in omega arith
price_small false Stop.race n h = let k = hundreds_few n h in omega arith
price_small option (Stop.no_room k) n h = omega arith
