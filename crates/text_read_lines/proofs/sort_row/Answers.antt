-- `sort_row`: the code is its definition. Assumes nothing.
use Prim.Native.Nat.{ℕ, zero, suc}
use mathlib.Core.Path.{◌≡◌, refl, sym, ap}
use Rattle.plan_parser_goals.specs.Inner.Encoded.{sort_of}
use Rattle.text_read_lines.specs.Reasons.{sort_row}
use Rattle.text_read_lines.proofs.sort_row.Goals as goal

abbrev row : ℕ → ℕ
row s = sort_row (sort_of s)

-- the numbers from 2 on are one sort
others : (s : ℕ) → (s ≡ 0 → ⊥) → (s ≡ 1 → ⊥) → 2 ≡ row s
unfolding sort_of sort_row
others zero h g = absurd (h refl)
others (suc zero) h g = absurd (g refl)
others (suc (suc s)) h g = refl

pub returns-in-0 : goal.returns-in-0
unfolding sort_of sort_row
returns-in-0 c = sym (ap row c.in-0.is)

pub returns-in-1 : goal.returns-in-1
unfolding sort_of sort_row
returns-in-1 c = sym (ap row c.in-1.is)

pub returns-in_default : goal.returns-in_default
returns-in_default c = others _ c.in_default.in_default-own.rest.0.1 c.in_default.in_default-own.rest.1
