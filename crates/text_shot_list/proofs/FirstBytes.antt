-- The first 9,291 bytes of an input decide its text: what the printing program reads is enough. Assumes nothing.
use Prim.Native.Nat.{ℕ, zero, suc, ◌+◌, ◌-◌, ◌/◌, ◌<◌, ◌≤◌}
use native.Mathlib.Omega.{arith}
use mathlib.Core.Path.{◌≡◌, refl, sym, ap, ◌∙◌}
use mathlib.Core.Bool.{Bool, true, false}
use mathlib.Core.List.{List, [], ◌∷◌}
use mathlib.Core.Option.{Option, some, none}
use lib.Dec.{ltb}
use lib.ListN.{length, get_or, take, drop, length-drop}
use lib.Seq.{take_all, take-take, get_or-take, length-take-le}
use borrow.Author.Tests.{ltb-true, ltb-false, lt-ltb}
use Rattle.format.specs.Bits.{bit_at, bits_at}
use Rattle.format.specs.Refusal.{Refusal, or_else, lowest, refuse, first_refusal}
use Rattle.plan_packed.specs.Check.{refusal}
use Rattle.log_records.specs.Record.{Record}
use Rattle.rules.specs.Run.{log}
use Rattle.rules.specs.Play.{too_many_picks, schedule_refusal, play_refusal, played, played_by, run_of}
use Rattle.run_schedule_refusals.specs.Inner.Checks.{area_checks}
use Rattle.run_refusals.proofs.RefusalChain.{schedule_stages, play_stages}
use Rattle.text_refusal_lines.specs.Lines.{refusal_line}
use Rattle.text_input_parts.specs.Input.{length_read, plan_read, schedule_read}
use Rattle.text_input_parts.proofs.Parts.{cut_long, not_cut}
use Rattle.text_shot_list.specs.Printed.{lent_area, answer_text, play_text, printed}
use Rattle.text_shot_list.proofs.Inputs.{cut_text, whole_text}

-- ---- a schedule of over 4,096 picks: the plan's own refusal, or 8

abbrev eighth : Refusal
eighth = record { number = 8; place = 0 }

abbrev too_many : Option Refusal → List ℕ
too_many (some r) = refusal_line r
too_many none = refusal_line eighth

many_refused : (plan schedule area : List ℕ) → 4096 < length schedule → play_refusal plan schedule area ≡ or_else (refusal plan) (some eighth)
unfolding too_many_picks lowest or_else refuse first_refusal
many_refused plan schedule area h = play_stages plan schedule area ∙ rw (many_scheduled) (go (refusal plan))
  where
    many_scheduled : schedule_refusal plan schedule ≡ or_else (refusal plan) (some eighth)
    many_scheduled = schedule_stages plan schedule ∙ simp (lt-ltb 4096 (length schedule) h)

    go : (o : Option Refusal) → or_else (or_else o (some eighth)) (first_refusal (area_checks schedule area)) ≡ or_else o (some eighth)
    go (some r) = refl
    go none = refl

many_by : (plan schedule : List ℕ) (L : List Record) (o : Option Refusal) → answer_text L (played_by plan schedule (or_else o (some eighth))) ≡ too_many o
unfolding answer_text played_by or_else
many_by plan schedule L (some r) = refl
many_by plan schedule L none = refl

many_text : (plan schedule : List ℕ) → 4096 < length schedule → play_text plan schedule ≡ too_many (refusal plan)
unfolding play_text played
many_text plan schedule h =
    ap (λ (o : Option Refusal). answer_text (log (run_of plan schedule)) (played_by plan schedule o)) (many_refused plan schedule lent_area h)
    ∙ many_by plan schedule (log (run_of plan schedule)) (refusal plan)

-- ---- what is read of an input and of its first bytes

bits_same : (b c : List ℕ) (w : ℕ) → ((j : ℕ) → j < 2 → get_or b j 0 ≡ get_or c j 0) → w ≤ 16 → bits_at b 0 w ≡ bits_at c 0 w
unfolding bits_at bit_at
bits_same b c zero h g = refl
bits_same b c (suc w) h g = simp (bits_same b c w h (omega arith), h ((0 + w) / 8) (omega arith))

part_same : (m n k : ℕ) (l : List ℕ) → m + n ≤ k → take n (drop m (take k l)) ≡ take n (drop m l)
part_same zero n k l h = take-take n k l (omega arith)
part_same (suc m) n zero l h = absurd (omega arith)
part_same (suc m) n (suc k) [] h = refl
part_same (suc m) n (suc k) (x ∷ l) h = part_same m n k l (omega arith)

picks_read : (b : List ℕ) → length (schedule_read b) ≡ length b - (2 + length_read b)
unfolding schedule_read
picks_read b = length-drop (2 + length_read b) b

module _ (input : List ℕ) where
  abbrev front : List ℕ
  front = take 9291 input

  same_length : length_read front ≡ length_read input
  unfolding length_read
  same_length = bits_same front input 16 (λ j h. get_or-take 9291 input j 0 (omega arith)) (omega arith)

  same_plan : 2 + length_read input ≤ 9291 → plan_read front ≡ plan_read input
  unfolding plan_read
  same_plan h = ap (λ (n : ℕ). take n (drop 2 front)) same_length ∙ part_same 2 (length_read input) 9291 input h

  module _ (more : 9291 < length input) where
    size : length front ≡ 9291
    size = length-take-le 9291 input (omega arith)

    long_same : (over : Bool) → ltb 5192 (length_read input) ≡ over → printed front ≡ printed input
    long_same true e =
        let h : 5192 < length_read input = ltb-true 5192 (length_read input) e in
        sym (cut_text front (cut_long front (omega (arith, same_length)))) ∙ cut_text input (cut_long input h)
    long_same false e =
        let h : length_read input ≤ 5192 = ltb-false 5192 (length_read input) e in
        sym (whole_text front (not_cut front (record { held = omega (arith, same_length, size); short = omega (arith, same_length) })))
        ∙ many_text (plan_read front) (schedule_read front) (omega (arith, picks_read front, same_length, size))
        ∙ ap (λ (p : List ℕ). too_many (refusal p)) (same_plan (omega arith))
        ∙ sym (many_text (plan_read input) (schedule_read input) (omega (arith, picks_read input)))
        ∙ whole_text input (not_cut input (record { held = omega arith; short = h }))

  by_size : (over : Bool) → ltb 9291 (length input) ≡ over → printed front ≡ printed input
  by_size true e = long_same (ltb-true 9291 (length input) e) (ltb 5192 (length_read input)) refl
  by_size false e = ap printed (take_all 9291 input (ltb-false 9291 (length input) e))

-- "reads a 16-bit plan length (high byte first), the plan, then the schedule": one pick over the limit is as good as any more
pub first_bytes : (input : List ℕ) → printed (take 9291 input) ≡ printed input
first_bytes input = by_size input (ltb 9291 (length input)) refl

-- so the text for what was read of an input is the input's
pub same_text : (input : List ℕ) {read : List ℕ} → take 9291 input ≡ read → printed input ≡ printed read
same_text input e = sym (first_bytes input) ∙ ap printed e
