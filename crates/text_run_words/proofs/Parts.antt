-- The parts of the lines of a charge. Assumes nothing.
use Prim.Native.Nat.{ℕ}
use mathlib.Core.Path.{◌≡◌}
use mathlib.Core.List.{[], ◌∷◌, ◌++◌, append_assoc}
use Rattle.text.specs.Text.{ascii, decimal}
use Rattle.text_run_words.specs.Texts.{cents_lines}

pub cents_parts : (n m : ℕ)
    → ((decimal n ++ (ascii " cents" ++ (10 ∷ []))) ++ decimal m) ++ (ascii " cents with the one-millisecond option" ++ (10 ∷ [])) ≡ cents_lines n m
unfolding cents_lines ascii
cents_parts n m = simp append_assoc
