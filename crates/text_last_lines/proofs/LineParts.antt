-- The line of an outcome: the parts that it is put together from, and how long it is. Assumes nothing.
use Prim.Native.Nat.{ℕ, ◌+◌, ◌<◌, ◌≤◌}
use native.Mathlib.Omega.{arith}
use mathlib.Core.Path.{◌≡◌, ap}
use mathlib.Core.List.{[], ◌∷◌, ◌++◌, append_assoc}
use lib.ListN.{length, length-append}
use Rattle.rules.specs.Room as room
use Rattle.rules.specs.Run as run
use Rattle.rules.specs.Run.{Stop}
use Rattle.text.specs.Text.{ascii, decimal, line}
use Rattle.text.proofs.Decimals.{few_digits}
use Rattle.text_last_lines.specs.Lines.{stop_word, outcome_line}

stop_short : (s : Stop) → length (stop_word s) ≤ 9
unfolding stop_word ascii
stop_short run.end = omega arith
stop_short run.race = omega arith
stop_short (run.no_room room.thread) = omega arith
stop_short (run.no_room room.object) = omega arith
stop_short (run.no_room room.key) = omega arith
stop_short (run.no_room room.depth) = omega arith

pub outcome_parts : (stop : Stop) (picks moves records : ℕ)
    → (((stop_word stop ++ (32 ∷ decimal picks)) ++ (32 ∷ decimal moves)) ++ (32 ∷ decimal records)) ++ (10 ∷ []) ≡ outcome_line stop picks moves records
unfolding outcome_line line
outcome_parts stop picks moves records = simp append_assoc

pub outcome_length : (stop : Stop) (picks moves records : ℕ)
    → length (outcome_line stop picks moves records) ≡ length (stop_word stop) + length (decimal picks) + length (decimal moves) + length (decimal records) + 4
outcome_length stop picks moves records = omega (arith, simp length-append at (ap length (outcome_parts stop picks moves records)))

-- numbers of 64 bits have at most 20 digits
wide_digits : (n : ℕ) → n < 18446744073709551616 → length (decimal n) ≤ 20
wide_digits n h = few_digits 19 n (omega arith)

pub outcome_short : (stop : Stop) (picks moves records : ℕ) → picks < 18446744073709551616 → moves < 18446744073709551616 → records < 18446744073709551616
    → length (outcome_line stop picks moves records) ≤ 73
outcome_short stop picks moves records h₁ h₂ h₃ =
    omega (arith, outcome_length stop picks moves records, stop_short stop, wide_digits picks h₁, wide_digits moves h₂, wide_digits records h₃)
