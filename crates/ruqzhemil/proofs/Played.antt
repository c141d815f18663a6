-- What a play answers fits its number and its bytes. Assumes nothing.
use Prim.Native.Nat.{ℕ}
use mathlib.Core.Path.{◌≡◌, refl, sym, ap, ◌∙◌, subst as along}
use mathlib.Core.Bool.{true≢false}
use mathlib.Core.List.{List}
use mathlib.Core.Option.{Option, some, none}
use Rattle.format.specs.Refusal.{Refusal}
use Rattle.std.specs.Prelude.{Ok, Err}
use Rattle.refusals.specs.declared.Refusal as code
use Rattle.refusals.specs.Numbers.{refusal_of}
use Rattle.plan_refusals.proofs.Stages.{Checked}
use Rattle.rules.specs.Run as run
use Rattle.rules.specs.Play as play
use Rattle.rules.specs.Play.{play_refusal, played, played_by, run_of}
use Rattle.play.specs.Played.{Played}
use Rattle.play.specs.Answer.{outcome_of, answered_by, answered}
use Rattle.play.proofs.Ran.{passes, outcome_is}
use Rattle.plan_refusals.specs.Inner.Small.{SmallRefusal, SmallCheck}
use Rattle.abi_outcome.specs.Inner.Small.{SmallOutcome, SmallPlayed}
use Rattle.ruqzhemil.proofs.Refusals.{small_play}
use Rattle.ruqzhemil.proofs.Outcomes.{small_outcome}

module _ (plan schedule area : List ℕ) (p : Played) (h : answered p ≡ played plan schedule area) where
  -- refused
  module _ (c : code.Refusal) (e : p.checked ≡ Err c) where
    refused_is : play.Played.refused (refusal_of c) ≡ played plan schedule area
    unfolding answered
    refused_is = ap (λ (y : Checked). answered_by y p.outcome) (sym e) ∙ h

    refused_small : SmallRefusal (refusal_of c)
    unfolding played played_by
    refused_small = go (play_refusal plan schedule area) refl
      where
        go : (o : Option Refusal) → play_refusal plan schedule area ≡ o → SmallRefusal (refusal_of c)
        go (some r) q =
            let y : play.Played.refused (refusal_of c) ≡ play.Played.refused r = refused_is ∙ ap (played_by plan schedule) q in
            let w : refusal_of c ≡ r = cc in
            along SmallCheck (q ∙ ap some (sym w)) (small_play plan schedule area)
        go none q =
            let y : play.Played.refused (refusal_of c) ≡ played_by plan schedule none = refused_is ∙ ap (played_by plan schedule) q in
            absurd (true≢false cc)

  -- a run
  module _ (e : p.checked ≡ Ok tt) where
    ran_small : SmallOutcome (outcome_of p.outcome)
    unfolding run_of
    ran_small =
        let a = passes plan schedule area p h e in
        along (λ (x : run.Outcome). SmallOutcome x) (sym (outcome_is plan schedule area p h e)) (small_outcome plan schedule a.plan_passes a.few)

  -- either way
  pub small_played : SmallPlayed (answered p)
  unfolding answered
  small_played = go p.checked refl
    where
      go : (y : Checked) → p.checked ≡ y → SmallPlayed (answered p)
      go (Ok u) e = along (λ (y : Checked). SmallPlayed (answered_by y p.outcome)) (sym e) (ran_small e)
      go (Err c) e = along (λ (y : Checked). SmallPlayed (answered_by y p.outcome)) (sym e) (refused_small c e)
