-- An input that is cut short, and one that holds its plan. Assumes nothing.
use Prim.Native.Nat.{ℕ, ◌+◌, ◌-◌, ◌<◌, ◌≤◌}
use native.Mathlib.Omega.{arith}
use mathlib.Core.Path.{◌≡◌, sym, ap, ◌∙◌}
use mathlib.Core.Bool.{Bool, true, false, ◌||◌, or-true, or-false}
use mathlib.Core.List.{List}
use lib.Dec.{ltb}
use lib.ListN.{length, take, drop, length-drop}
use lib.Seq.{take_all}
use borrow.Author.Tests.{ltb-false, lt-ltb, le-ltb}
use Rattle.format.specs.Bits.{bits_at}
use Rattle.format.proofs.RefusalLaws.{neither}
use Rattle.text_input_parts.specs.Input.{length_read, plan_read, schedule_read, cut_short}

-- an input that holds its plan
pub record Whole (input : List ℕ) : Type 0 where
  pub held : 2 + length_read input ≤ length input
  pub short : length_read input ≤ 5192

module _ (input : List ℕ) where
  pub is_whole : cut_short input ≡ false → Whole input
  unfolding cut_short
  is_whole e =
      let n = neither (ltb (length input) (2 + length_read input)) (ltb 5192 (length_read input)) e in
      record { held = ltb-false (length input) (2 + length_read input) n.0; short = ltb-false 5192 (length_read input) n.1 }

  pub not_cut : Whole input → cut_short input ≡ false
  unfolding cut_short
  not_cut w = simp (le-ltb (length input) (2 + length_read input) w.held, le-ltb 5192 (length_read input) w.short)

  pub cut_early : length input < 2 + length_read input → cut_short input ≡ true
  unfolding cut_short
  cut_early h = simp (lt-ltb (length input) (2 + length_read input) h)

  pub cut_long : 5192 < length_read input → cut_short input ≡ true
  unfolding cut_short
  cut_long h = simp (lt-ltb 5192 (length_read input) h) (or-true (ltb (length input) (2 + length_read input)))

  -- ---- by the length as the code reads it

  module _ (n : ℕ) (e : n ≡ bits_at input 0 16) where
    pub length_is : n ≡ length_read input
    unfolding length_read
    length_is = e

    small : n ≤ 5192 → length_read input ≤ 5192
    small h = omega (arith, length_is)

    behind : 2 + n - 2 ≡ length_read input
    behind = omega (arith, length_is)

    pub cut_by : n ≤ 5192 → ltb (length input) (2 + n) ≡ cut_short input
    unfolding cut_short
    cut_by h =
        ap (λ (k : ℕ). ltb (length input) (2 + k)) length_is
        ∙ sym (or-false (ltb (length input) (2 + length_read input)))
        ∙ ap (λ (x : Bool). ltb (length input) (2 + length_read input) || x) (sym (le-ltb 5192 (length_read input) (small h)))

    pub plan_is : take (2 + n - 2) (drop 2 input) ≡ plan_read input
    unfolding plan_read
    plan_is = ap (λ (k : ℕ). take k (drop 2 input)) behind

    pub schedule_is : take (length input - (2 + n)) (drop (2 + n) input) ≡ schedule_read input
    unfolding schedule_read
    schedule_is =
        take_all (length input - (2 + n)) (drop (2 + n) input) (omega (arith, length-drop (2 + n) input)) ∙ ap (λ (k : ℕ). drop (2 + k) input) length_is
