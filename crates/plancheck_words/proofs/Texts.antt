-- The plan of a text, by what `read` answers and leaves in an area of 5,192 bytes. Assumes nothing.
use Prim.Native.Nat.{ℕ, ◌-◌, ◌≤◌, ◌<◌}
use native.Mathlib.Omega.{arith}
use mathlib.Core.Path.{◌≡◌, refl, sym, ap, subst, ◌∙◌}
use mathlib.Core.Bool.{Bool, true, false, cond}
use mathlib.Core.List.{List}
use lib.ListN.{length, take}
use borrow.Author.Tests.{ltb-true, ltb-false}
use Rattle.format.specs.Area.{overwrite}
use Rattle.format.proofs.AreaLaws.{overwrite_first}
use Rattle.plan_packed.specs.Syntax.{Program}
use Rattle.plan_written.specs.Written as bytes
use Rattle.plan_notation.specs.Lexing.{codes_of}
use Rattle.plan_lexer.specs.Place.{place_of}
use Rattle.plan_parsing.specs.Plan as reading
use Rattle.plan_parsing.specs.Plan.{Reading, read_plan}
use Rattle.plan_parsing.proofs.PlanRight.{text_passes}
use Rattle.read.specs.Read as texts
use Rattle.read.specs.Read.{Failure, too_many, short_for_plan, failed_at, answer_by, area_by, read_answer, read_area}
use Rattle.read.specs.Answer.{failure_of, answered}
use Rattle.std.specs.Prelude.{Result, Ok, Err}
use Rattle.read.specs.declared.ReadError.{ReadError}
use Rattle.read.specs.declared.ReadError.TheVariants.{Short, Failed}
use Rattle.text_plan_words.proofs.Areas.{plan_few}
use Rattle.plancheck_words.specs.Given.{Given, plan, no_plan, no_plan_at, plan_by, text_plan}

-- no plan of a text is longer than 5,192 bytes
few_bytes : (text : List ℕ) (g : Program) → read_plan (codes_of text) ≡ reading.plan g → length (bytes.written g) ≤ 5192
few_bytes text g e = plan_few (bytes.written g) (text_passes text g e).0

module _ (text area : List ℕ) (size : length area ≡ 5192) where
  -- what the answer and the area say
  abbrev Means : texts.Read → List ℕ → Type 0
  Means (texts.Read.written n) after = (n ≤ 5192) × (text_plan text ≡ plan (take n after))
  Means texts.Read.short after = ⊥
  Means (texts.Read.failed l c f) after = text_plan text ≡ no_plan l c f

  by_room : (g : Program) (short : Bool) → read_plan (codes_of text) ≡ reading.plan g → short_for_plan g area ≡ short → text_plan text ≡ plan (bytes.written g)
      → Means (answer_by text area (reading.plan g)) (area_by area (reading.plan g))
  unfolding short_for_plan answer_by area_by
  by_room g true e s t = absurd (omega (arith, few_bytes text g e, ltb-true (length area) (length (bytes.written g)) s))
  by_room g false e s t = simp s (few_bytes text g e, t ∙ ap plan (sym (overwrite_first (bytes.written g) area)))

  by_reading : (r : Reading) → read_plan (codes_of text) ≡ r → text_plan text ≡ plan_by text r → Means (answer_by text area r) (area_by area r)
  unfolding plan_by answer_by area_by failed_at no_plan_at
  by_reading (reading.plan g) e t = by_room g (short_for_plan g area) e refl t
  by_reading (reading.fault f rest) e t = t

  few_plan : too_many text ≡ false → text_plan text ≡ plan_by text (read_plan (codes_of text))
  unfolding text_plan
  few_plan m = ap (λ (b : Bool). cond b (no_plan_at text 16384 texts.tokens) (plan_by text (read_plan (codes_of text)))) m

  by_count : (many : Bool) → too_many text ≡ many → Means (read_answer text area) (read_area text area)
  unfolding read_answer read_area text_plan failed_at no_plan_at
  by_count true m = simp m
  by_count false m = simp m (by_reading (read_plan (codes_of text)) refl (few_plan m))

  pub means : Means (read_answer text area) (read_area text area)
  means = by_count (too_many text) refl

  -- by the answer of the code
  module _ (x : Result ℕ ReadError) (after : List ℕ) (h : answered x ≡ read_answer text area) (k : after ≡ read_area text area) where
    so : Means (answered x) after
    so = rw (h, k) means

    pub written_means : (n : ℕ) → x ≡ Ok n → (n ≤ 5192) × (text_plan text ≡ plan (take (n - 0) after))
    written_means n e =
        let m = subst (λ (y : Result ℕ ReadError). Means (answered y) after) e so in
        let z : n - 0 ≡ n = omega arith in
        (m.0, rw z m.1)

    pub short_means : x ≡ Err Short → ⊥
    short_means e = subst (λ (y : Result ℕ ReadError). Means (answered y) after) e so

    pub failed_means : (l c kind reason : ℕ) → x ≡ Err (Failed l c kind reason) → text_plan text ≡ no_plan l c (failure_of kind reason)
    failed_means l c kind reason e = subst (λ (y : Result ℕ ReadError). Means (answered y) after) e so
