-- The text of a witness, by what the entry `witness` answers and leaves in an area of 4,096 bytes. Assumes nothing.
use Prim.Native.Nat.{ℕ, ◌-◌, ◌≤◌}
use native.Mathlib.Omega.{arith}
use mathlib.Core.Path.{◌≡◌, subst}
use mathlib.Core.List.{List}
use lib.ListN.{length, take}
use Rattle.format.specs.Refusal.{Refusal}
use Rattle.format.proofs.AreaLaws.{overwrite_first}
use Rattle.answers.specs.Answer.{value, refused, answered}
use Rattle.std.specs.Prelude.{Result, Ok, Err}
use Rattle.refusals.specs.declared.Refusal as code
use Rattle.refusals.specs.Numbers.{refusal_of}
use Rattle.text_refusal_lines.specs.Lines.{refusal_lines}
use Rattle.text_inputs.specs.Schedules.{digit_line}
use Rattle.witness.specs.Witness as witness
use Rattle.witness.specs.Witness.{Witnesses}
use Rattle.text_run_words.specs.Texts.{WitnessText, refuses, too_long, shows}

module _ (plan schedule area : List ℕ) (size : length area ≡ 4096) where
  refusal_told : {r : Refusal} {after : List ℕ} → Witnesses plan schedule area (refused r) after → WitnessText plan schedule (refusal_lines r)
  refusal_told (witness.refused e) = refuses e
  refusal_told (witness.too_short e w s) = too_long e w (omega arith)

  schedule_told : {n : ℕ} {after : List ℕ} → Witnesses plan schedule area (value n) after → (n ≤ 4096) × WitnessText plan schedule (digit_line (take n after))
  schedule_told (witness.wrote {qs} e w s h) = (omega arith, rw (overwrite_first qs area) (shows e w s))

  module _ (x : Result ℕ code.Refusal) (after : List ℕ) (w : Witnesses plan schedule area (answered x) after) where
    pub refused_told : (c : code.Refusal) → x ≡ Err c → WitnessText plan schedule (refusal_lines (refusal_of c))
    refused_told c e = refusal_told (subst (λ (y : Result ℕ code.Refusal). Witnesses plan schedule area (answered y) after) e w)

    pub value_told : (n : ℕ) → x ≡ Ok n → (n ≤ 4096) × WitnessText plan schedule (digit_line (take (n - 0) after))
    value_told n e =
        let t = schedule_told (subst (λ (y : Result ℕ code.Refusal). Witnesses plan schedule area (answered y) after) e w) in
        let z : n - 0 ≡ n = omega arith in
        (t.0, rw z t.1)
