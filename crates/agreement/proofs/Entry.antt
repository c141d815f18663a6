-- What demand 3 says of a play that is not refused, by the log area that it leaves and by what the judge says of the records in it; and of a play that is
-- refused. Assumes nothing.
use Prim.Native.Nat.{ℕ, ◌*◌}
use native.Mathlib.Nat.{sub-zero}
use mathlib.Core.Path.{◌≡◌, sym, ap, ◌∙◌, subst as along}
use mathlib.Core.List.{List}
use mathlib.Core.Option.{Option}
use lib.ListN.{take}
use Rattle.log_conflicts.specs.Judge.{named, Answers, AnswersTold}
use Rattle.plan_packed.specs.Format.{version}
use Rattle.plan_packed.specs.Trees.{program_of}
use Rattle.std.specs.Prelude.{Result, Ok, Err}
use Rattle.std.specs.Prelude as rust
use Rattle.refusals.specs.declared.Refusal.{Refusal}
use Rattle.log_records.specs.Packed.{bytes_of}
use Rattle.rules.specs.Run.{log}
use Rattle.rules.specs.Play.{played, area_after, run_of}
use Rattle.play.specs.Played.{Played}
use Rattle.play.specs.Answer.{stop_of, answered}
use Rattle.plan_refusals.proofs.Stages.{passed_refused}
use Rattle.play.proofs.Ran.{passes, stop_is, records_are, begins}
use Rattle.judge.specs.Answer as judge
use Rattle.agreement.specs.Agreement.{NamedBy, Agreement}
use Rattle.agreement.specs.AgreedOn.{AgreedOn}
use Rattle.agreement.proofs.Agreed.{agreement, told_plan}

-- ---- a play that is not refused

module _ (plan schedule area : List ℕ) (p : Played) (h : answered p ≡ played plan schedule area) (e : p.checked ≡ Ok tt) where
  agrees_all : Agreement (program_of plan) schedule (run_of plan schedule)
  agrees_all = let a = passes plan schedule area p h e in agreement plan schedule a.plan_passes a.few

  -- what the judge says of the first bytes of the log area that the play leaves
  module _ (after : List ℕ) (left : after ≡ area_after plan schedule area) (j : Result (rust.Option ℕ) Refusal) (n : ℕ) (q : n ≡ 3 * p.outcome.records) (v : ℕ)
      (w : v ≡ version plan) (m : AnswersTold v (take n after) (judge.answered j)) where
    answers : Answers (program_of plan).version (bytes_of (log (run_of plan schedule))) (judge.answered j)
    answers =
        (told_plan plan (bytes_of (log (run_of plan schedule))) (judge.answered j) (passes plan schedule area p h e).plan_passes).0
        (along (λ (k : ℕ). AnswersTold k (bytes_of (log (run_of plan schedule))) (judge.answered j)) w
        (along (λ (b : List ℕ). AnswersTold v b (judge.answered j)) (ap (λ (k : ℕ). take k after) (sym (sub-zero n))
        ∙ begins plan schedule area p h e after left n q) m))

    stop_named : (x : Option ℕ) × (judge.answered j ≡ named x) × NamedBy (stop_of p.outcome.stop) p.outcome.records x
    stop_named = rw (stop_is plan schedule area p h e, records_are plan schedule area p h e) (agrees_all.judged (judge.answered j) answers)

    pub agreed_on : AgreedOn plan schedule (record { played = p; judgement = j })
    agreed_on =
        record {
          chains = λ _. agrees_all;
          judged = λ _. answers;
          agrees = λ _. stop_named;
          refused = λ r x. passed_refused e x;
        }

-- ---- a play that is refused

-- the refusal that an answer is
refusal_or : Refusal → Result (Unit {0}) Refusal → Refusal
refusal_or other (Ok u) = other
refusal_or other (Err r) = r

-- as a judgement
abbrev judged : Refusal → Result (rust.Option ℕ) Refusal
judged r = Err r

pub refused_agreed : (plan schedule : List ℕ) (p : Played) (r : Refusal) → p.checked ≡ Err r
    → AgreedOn plan schedule (record { played = p; judgement = Err r })
unfolding refusal_or
refused_agreed plan schedule p r e =
    record {
      chains = λ q. passed_refused q e;
      judged = λ q. passed_refused q e;
      agrees = λ q. passed_refused q e;
      refused = λ s q. ap judged (ap (refusal_or r) (sym e ∙ q));
    }
