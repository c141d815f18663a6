-- Numbers and places that fit a returned number, as those of every refusal do. For inner contracts; no reader of the entries' promises needs it.
-- Assumes nothing.
use Rattle.std.specs.Prelude.{ℕ, ◌≤◌}
use Rattle.std.proofs.Math.Option.{Option, some, none}
use Rattle.format.specs.Refusal.{Refusal}

-- the papers' numbers go to 24, places to 4,096
abbrev pub Small : ℕ → ℕ → Type 0
Small number place = (number ≤ 24) × (place ≤ 4096)

abbrev pub SmallRefusal : Refusal → Type 0
SmallRefusal r = Small r.number r.place

-- a check's answer
abbrev pub SmallCheck : Option Refusal → Type 0
SmallCheck none = Unit {0}
SmallCheck (some r) = SmallRefusal r
