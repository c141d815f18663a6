-- The parts of a line, and how long they are. Assumes nothing.
use Prim.Native.Nat.{ℕ, ◌<◌, ◌≤◌}
use native.Mathlib.Omega.{arith}
use mathlib.Core.Path.{◌≡◌}
use mathlib.Core.List.{[], ◌∷◌, ◌++◌, append_assoc}
use lib.ListN.{length}
use Rattle.text.specs.Text.{ascii, decimal}
use Rattle.text.proofs.Decimals.{few_digits}
use Rattle.text_plan_words.specs.Texts.{bound_line}

pub wide_digits : (n : ℕ) → n < 18446744073709551616 → length (decimal n) ≤ 20
wide_digits n h = few_digits 19 n (omega arith)

pub bound_parts : (n : ℕ) → (ascii "at most " ++ decimal n) ++ (ascii " moves" ++ (10 ∷ [])) ≡ bound_line n
unfolding bound_line
bound_parts n = simp append_assoc
