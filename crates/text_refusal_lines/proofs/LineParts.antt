-- The line of a refusal: the parts that it is put together from, and how long it is. Assumes nothing.
use Prim.Native.Nat.{ℕ, ◌+◌, ◌<◌, ◌≤◌}
use native.Mathlib.Omega.{arith}
use mathlib.Core.Path.{◌≡◌, ap}
use mathlib.Core.List.{[], ◌∷◌, ◌++◌, append_assoc}
use lib.ListN.{length, length-append}
use Rattle.format.specs.Refusal.{Refusal}
use Rattle.text.specs.Text.{ascii, decimal, line}
use Rattle.text.proofs.Decimals.{few_digits}
use Rattle.text_refusal_lines.specs.Lines.{refusal_line}

pub refusal_parts : (r : Refusal) → ((ascii "refused" ++ (32 ∷ decimal r.number)) ++ (32 ∷ decimal r.place)) ++ (10 ∷ []) ≡ refusal_line r
unfolding refusal_line line
refusal_parts r = simp append_assoc

pub refusal_length : (r : Refusal) → length (refusal_line r) ≡ length (decimal r.number) + length (decimal r.place) + 10
unfolding ascii
refusal_length r = omega (arith, simp length-append at (ap length (refusal_parts r)))

-- numbers of 64 bits have at most 20 digits
wide_digits : (n : ℕ) → n < 18446744073709551616 → length (decimal n) ≤ 20
wide_digits n h = few_digits 19 n (omega arith)

pub refusal_short : (r : Refusal) → r.number < 18446744073709551616 → r.place < 18446744073709551616 → length (refusal_line r) ≤ 50
refusal_short r h₁ h₂ = omega (arith, refusal_length r, wide_digits r.number h₁, wide_digits r.place h₂)
