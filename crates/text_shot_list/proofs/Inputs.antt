-- The text for an input: cut short, or a plan and a schedule. Assumes nothing.
use Prim.Native.Nat.{ℕ, ◌≤◌}
use native.Mathlib.Omega.{arith}
use mathlib.Core.Path.{◌≡◌}
use mathlib.Core.Bool.{true, false}
use mathlib.Core.List.{List}
use lib.ListN.{length}
use Rattle.text.specs.Inner.Wrote.{Wrote}
use Rattle.text.proofs.Added.{added_as, added_whole}
use Rattle.text_refusal_lines.specs.Lines.{refusal_line}
use Rattle.text_input_parts.specs.Input.{plan_read, schedule_read, cut_short}
use Rattle.text_shot_list.specs.Printed.{play_text, printed, TextWritten}

module _ (input : List ℕ) where
  pub cut_text : cut_short input ≡ true → refusal_line (record { number = 1; place = 0 }) ≡ printed input
  unfolding printed
  cut_text e = simp e

  pub whole_text : cut_short input ≡ false → play_text (plan_read input) (schedule_read input) ≡ printed input
  unfolding printed
  whole_text e = simp e

  pub parts_text : {plan schedule : List ℕ} → cut_short input ≡ false → plan ≡ plan_read input → schedule ≡ schedule_read input
      → play_text plan schedule ≡ printed input
  parts_text e p s = rw (p, s) (whole_text e)

  -- what the entry promises of a text that is written
  pub finished : {before bytes after : List ℕ} {r : ℕ} → 131072 ≤ length before → bytes ≡ printed input → Wrote before 0 bytes after r
      → TextWritten (printed input) before after r
  finished {before} {bytes} {after} {r} big e w =
      let v : Wrote before 0 (printed input) after r = added_as e w in
      (λ q. (omega (arith, v.next), added_whole v), λ q. absurd (omega arith))
