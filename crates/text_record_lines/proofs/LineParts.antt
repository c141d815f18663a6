-- A record's line: the parts that it is put together from, and how long it is. Assumes nothing.
use Prim.Native.Nat.{ℕ, ◌+◌, ◌<◌, ◌≤◌}
use native.Mathlib.Omega.{arith}
use mathlib.Core.Path.{◌≡◌, ap}
use mathlib.Core.List.{List, [], ◌∷◌, ◌++◌, append_assoc}
use lib.ListN.{length, length-append}
use Rattle.log_records.specs.Record.{Record}
use Rattle.text.specs.Text.{decimal, line}
use Rattle.text.proofs.Decimals.{few_digits}
use Rattle.text_record_lines.specs.Lines.{kind_word, record_line}
use Rattle.text_record_lines.proofs.Words.{kind_short}

regrouped : (a b c d e f g h : List ℕ) → ((((((a ++ b) ++ c) ++ d) ++ e) ++ f) ++ g) ++ h ≡ a ++ (b ++ (c ++ (d ++ (e ++ (f ++ (g ++ h))))))
regrouped a b c d e f g h = simp append_assoc

pub record_parts : (i : ℕ) (r : Record)
    → ((((((decimal i ++ (32 ∷ [])) ++ kind_word r.kind) ++ (32 ∷ decimal r.thread)) ++ (32 ∷ decimal r.object)) ++ (32 ∷ decimal r.field))
    ++ (32 ∷ decimal r.value))
    ++ (10 ∷ [])
    ≡ record_line i r
unfolding record_line line
record_parts i r =
    regrouped (decimal i) (32 ∷ []) (kind_word r.kind) (32 ∷ decimal r.thread) (32 ∷ decimal r.object) (32 ∷ decimal r.field)
    (32 ∷ decimal r.value) (10 ∷ [])

pub record_length : (i : ℕ) (r : Record)
    → length (record_line i r)
    ≡ length (decimal i) + length (kind_word r.kind) + length (decimal r.thread) + length (decimal r.object) + length (decimal r.field) + length
    (decimal r.value) + 6
record_length i r = omega (arith, simp length-append at (ap length (record_parts i r)))

pub record_short : (i : ℕ) (r : Record) → i < 4096 → r.thread < 8 → r.object < 32 → r.field < 32 → r.value < 32 → length (record_line i r) ≤ 28
record_short i r h₁ h₂ h₃ h₄ h₅ =
    omega (
      arith,
      record_length i r,
      few_digits 3 i (omega arith),
      kind_short r.kind,
      few_digits 0 r.thread (omega arith),
      few_digits 1 r.object (omega arith),
      few_digits 1 r.field (omega arith),
      few_digits 1 r.value (omega arith),
    )
