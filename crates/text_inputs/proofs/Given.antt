-- What is taken for text: no packed plan that passes and no packed schedule that passes, and all that is shown of a plan. Assumes nothing.
use Prim.Native.Nat.{ℕ, ◌+◌, ◌*◌, ◌≤◌, ◌<◌}
use native.Mathlib.Omega.{arith}
use mathlib.Core.Path.{◌≡◌, refl}
use mathlib.Core.Bool.{true, false, ◌||◌}
use mathlib.Core.List.{List, [], ◌∷◌}
use mathlib.Core.Option.{none}
use lib.ListN.{get_or}
use borrow.Author.Tests.{ne_eqb, le-ltb, lt-leb}
use Rattle.format.specs.Bits.{bits_at}
use Rattle.format.proofs.BitLaws.{bits_add, byte_at}
use Rattle.plan_packed.specs.Format.{version, procedures}
use Rattle.plan_packed.specs.Check.{refusal}
use Rattle.plan_packed.proofs.Accepted.{Accepted, accepted}
use Rattle.text.specs.Text.{ascii}
use Rattle.plan_notation.specs.Tokens.{texts, text_of}
use Rattle.plan_notation.specs.Lexing.{is_blank}
use Rattle.plan_notation.specs.Shown.{shown_plan}
use Rattle.plan_notation.specs.Layout.{gap, on_new_line, breaks, begins_expression, apart, laid_from, laid_out}
use Rattle.plan_notation.specs.Text.{text_of_program, shown_text}
use Rattle.text_inputs.specs.Plans.{is_text}
use Rattle.text_inputs.specs.Schedules.{is_digit, every, is_digits, digit_picks, picks_of}

-- ---- plans

-- the first byte of a plan that passes: its version, and a fourth of its procedures
first_byte : (b : List ℕ) → Accepted b → get_or b 0 0 < 256 → (q : ℕ) × (get_or b 0 0 ≡ version b * 16 + q) × (q ≤ 8)
unfolding version procedures
first_byte b a h =
    let whole = byte_at b 0 h in
    let two = bits_add b 0 4 4 in
    let more = bits_add b 4 4 2 in
    (bits_at b 4 4, omega (arith, whole, two), omega (arith, more, a.few_procedures))

not_text_by : (b : List ℕ) (c : ℕ) → get_or b 0 0 ≡ c → (c ≡ 32 → ⊥) → (c ≡ 9 → ⊥) → (c ≡ 10 → ⊥) → (c ≡ 13 → ⊥) → c ≤ 32 → is_text b ≡ false
unfolding is_text is_blank
not_text_by b c e h₁ h₂ h₃ h₄ h = rw e (simp (ne_eqb c 32 h₁, ne_eqb c 9 h₂, ne_eqb c 10 h₃, ne_eqb c 13 h₄, le-ltb 32 c h))

-- no accepted plan is taken for text
pub packed_not_text : (b : List ℕ) → refusal b ≡ none → get_or b 0 0 < 256 → is_text b ≡ false
packed_not_text b passes h =
    let a = accepted b passes in
    let f = first_byte b a h in
    let v = a.version_known in
    not_text_by b (get_or b 0 0) refl
    (λ e. omega (arith, f.1, f.2, v))
    (λ e. omega (arith, f.1, f.2, v))
    (λ e. omega (arith, f.1, f.2, v))
    (λ e. omega (arith, f.1, f.2, v))
    (omega (arith, f.1, f.2, v))

-- what is shown of a plan is
pub shown_is_text : (plan : List ℕ) → is_text (shown_text plan) ≡ true
unfolding is_text is_blank shown_text text_of_program shown_plan laid_out laid_from gap on_new_line breaks begins_expression apart text_of texts ascii
shown_is_text plan = refl

-- ---- schedules

-- a pick is neither a digit nor white space
pick_neither : (p : ℕ) → p ≤ 7 → (is_digit p || is_blank p) ≡ false
unfolding is_digit is_blank
pick_neither p h =
    simp (
      lt-leb 48 p (omega arith),
      ne_eqb p 32 (λ e. omega arith),
      ne_eqb p 9 (λ e. omega arith),
      ne_eqb p 10 (λ e. omega arith),
      ne_eqb p 13 (λ e. omega arith),
    )

-- packed picks of 0 to 7 are the schedule
pub packed_picks : (bytes : List ℕ) → get_or bytes 0 0 ≤ 7 → picks_of bytes ≡ bytes
unfolding picks_of is_digits digit_picks every
packed_picks [] h = refl
packed_picks (p ∷ ps) h = simp (pick_neither p h)
