-- From a listed schedule to the following one, by what the entries answer. Assumes nothing.
use Prim.Native.Nat.{ℕ, ◌-◌, ◌+◌, ◌≤◌, ◌<◌}
use native.Mathlib.Nat.{sub-zero}
use native.Mathlib.Omega.{arith}
use mathlib.Core.Path.{◌≡◌, refl, sym, ap, ◌∙◌, subst as along}
use mathlib.Core.Bool.{true≢false}
use mathlib.Core.List.{List}
use mathlib.Core.Option.{Option, some, none}
use lib.ListN.{length, take}
use Rattle.format.specs.Area.{overwrite}
use Rattle.format.specs.Refusal.{Refusal}
use Rattle.format.proofs.AreaLaws.{overwrite_first, overwrite_covers}
use Rattle.plan_packed.specs.Trees.{program_of}
use Rattle.text.specs.Inner.Wrote.{Wrote}
use Rattle.answers.specs.Answer.{value, refused, answered}
use Rattle.std.specs.Prelude as rust
use Rattle.std.specs.Prelude.{Result, Ok, Err, Some, None}
use Rattle.refusals.specs.declared.Refusal as code
use Rattle.refusals.specs.Numbers.{refusal_of}
use Rattle.listing.specs.Listed.{Listed, First, Following, Over}
use Rattle.listing_answers.specs.Interleavings as papers
use Rattle.listing_answers.specs.Interleavings.{FirstAnswer, NextAnswer, first_refused, next_refused}
use Rattle.interleavings.specs.Answer as nexts
use Rattle.interleavings.specs.Count.{count_refused}
use Rattle.text_interleaving_lines.specs.Inner.Steps.{Here, Begun, Advanced}
use Rattle.text_interleaving_lines.proofs.Refusals.{first_as_count, bound_of, next_passes}

either : {A : Type 0} {x : Option Refusal} {r : Refusal} → x ≡ some r → x ≡ none → A
either e d = absurd (true≢false cc)

-- ---- the first

module _ (plan : List ℕ) (n : ℕ) (area : List ℕ) (long : 64 ≤ length area) where
  refused_by : {r : Refusal} {after : List ℕ} → FirstAnswer plan n area (refused r) after → count_refused plan n ≡ some r
  refused_by (FirstAnswer.REFUSED e) = sym (first_as_count plan n area long) ∙ e

  begun_by_lem : {m : ℕ} {after : List ℕ} → FirstAnswer plan n area (value m) after → length after ≡ length area → Begun plan n after m
  begun_by_lem (FirstAnswer.WRITTEN {qs} e f) same =
      let passed = sym (first_as_count plan n area long) ∙ e in
      let is = overwrite_first qs area in
      record {
        here = record {
          passed = passed;
          long = omega (arith, same);
          few = omega (arith, f.has.at_most, bound_of plan n passed);
          listed = along (Listed (program_of plan) n) (sym is) f.has;
        };
        is_first = along (First (program_of plan) n) (sym is) f;
      }

  module _ (x : Result ℕ code.Refusal) (after : List ℕ) (h : FirstAnswer plan n area (answered x) after) where
    pub first_refused_lem : (c : code.Refusal) → x ≡ Err c → count_refused plan n ≡ some (refusal_of c)
    first_refused_lem c e = refused_by (along (λ (y : Result ℕ code.Refusal). FirstAnswer plan n area (answered y) after) e h)

    pub first_begun : (m : ℕ) → x ≡ Ok m → length after ≡ length area → Begun plan n after m
    first_begun m e = begun_by_lem (along (λ (y : Result ℕ code.Refusal). FirstAnswer plan n area (answered y) after) e h)

-- ---- the following one

module _ (plan : List ℕ) (n : ℕ) (schedule : List ℕ) (picks : ℕ) (s : Here plan n schedule picks) (room : List ℕ) (size : length room ≡ 64) where
  abbrev given : List ℕ
  given = take (picks - 0) schedule

  same : take picks schedule ≡ given
  same = ap (λ (k : ℕ). take k schedule) (sym (sub-zero picks))

  here_listed : Listed (program_of plan) n given
  here_listed = along (Listed (program_of plan) n) same s.listed

  passes : next_refused plan n given ≡ none
  passes = next_passes plan n s.passed given here_listed

  -- what the answer says
  abbrev pub Means : papers.Next → List ℕ → Type 0
  Means (papers.Next.refused r) after = ⊥
  Means (papers.Next.written m) after = (m ≤ 64) × (m ≤ length after) × Following (program_of plan) n given (take (m - 0) after)
  Means papers.Next.over after = Over (program_of plan) n given

  means : {x : papers.Next} {after : List ℕ} → NextAnswer plan n given room x after → Means x after
  means (NextAnswer.REFUSED e) = either e passes
  means (NextAnswer.NOT-LISTED e k) = k here_listed
  means (NextAnswer.SHORT e l h) = omega (arith, bound_of plan n s.passed)
  means (NextAnswer.FOLLOWS {qs} e l h f) =
      let is = ap (λ (k : ℕ). take k (overwrite qs room)) (sub-zero (length qs)) ∙ overwrite_first qs room in (
        omega (arith, f.has.at_most, bound_of plan n s.passed),
        overwrite_covers qs room,
        along (Following (program_of plan) n given) (sym is) f,
      )
  means (NextAnswer.OVER e l h o) = o

  -- by the answer of the code
  module _ (x : Result (rust.Option ℕ) code.Refusal) (after : List ℕ) (h : NextAnswer plan n given room (nexts.answered x) after) where
    so : Means (nexts.answered x) after
    so = means h

    pub next_written : (m : ℕ) → x ≡ Ok (Some m) → Means (papers.Next.written m) after
    next_written m e = along (λ (y : Result (rust.Option ℕ) code.Refusal). Means (nexts.answered y) after) e so

    pub next_over : x ≡ Ok None → Over (program_of plan) n (take picks schedule)
    next_over e = along (Over (program_of plan) n) (sym same) (along (λ (y : Result (rust.Option ℕ) code.Refusal). Means (nexts.answered y) after) e so)

    pub next_refused_lem : (c : code.Refusal) → x ≡ Err c → ⊥
    next_refused_lem c e = along (λ (y : Result (rust.Option ℕ) code.Refusal). Means (nexts.answered y) after) e so

    -- the following one is put in its place
    pub put_next : (m : ℕ) → x ≡ Ok (Some m) → (late : List ℕ) (r : ℕ) → Wrote schedule 0 (take (m - 0) after) late r
        → Here plan n late r × Following (program_of plan) n (take picks schedule) (take r late)
    put_next m e late r w =
        let t = next_written m e in
        let f = along (λ (l : List ℕ). Following (program_of plan) n l (take (m - 0) after)) (sym same) t.2 in
        let is : take r late ≡ take (m - 0) after = w.text in (
          record {
            passed = s.passed;
            long = omega (arith, w.kept, s.long);
            few = omega (arith, w.next, f.has.at_most, bound_of plan n s.passed);
            listed = along (Listed (program_of plan) n) (sym is) f.has;
          },
          along (Following (program_of plan) n (take picks schedule)) (sym is) f,
        )
