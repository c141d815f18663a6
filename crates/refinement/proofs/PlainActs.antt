-- What the code does for a redex that leaves no record is what the abstract machine's move does. Assumes nothing.
use Prim.Native.Nat.{ℕ, ◌<◌}
use native.Mathlib.Omega.{arith}
use mathlib.Core.Path.{◌≡◌, refl}
use mathlib.Core.Bool.{true, false}
use mathlib.Core.List.{List, ◌∷◌}
use mathlib.Core.Option.{none}
use lib.ListN.{get_or}
use Rattle.run_keys.specs.declared.KeySet.{KeySet}
use Rattle.plan_packed.specs.Format.{terms}
use Rattle.plan_packed.specs.Trees.{node_at}
use Rattle.plan_packed.proofs.Accepted.{accepted}
use Rattle.rules.specs.Rules.{e_while, e_if}
use Rattle.machine.specs.Inner.Frames.{branches}
use Rattle.machine.specs.Inner.Frames as frames
use Rattle.machine.specs.Inner.Refocusing.{enter, enterᶜ}
use Rattle.machine.specs.Inner.Refocusing as refocus
use Rattle.machine.specs.Inner.Machine as machine
use Rattle.machine.specs.Inner.Playing.{table_of}
use Rattle.machine.specs.Inner.Playing as playing
use Rattle.machine.proofs.Sorted.{Well}
use Rattle.run_frames.specs.declared.frame.Kind.TheVariants as kind
use Rattle.run_frames.specs.Inner.RedexKinds.{RedexKind as redex, is_redex}
use Rattle.run_frames.specs.declared.refocusing.Ready.{Ready}
use Rattle.run_frames.specs.declared.refocusing.Refocusing.{Refocusing}
use Rattle.run_frames.specs.Inner.Frames.{framed}
use Rattle.run_frames.specs.Inner.Going.{ready_of, go_want, go_want_condition}
use Rattle.run_state.specs.declared.Counts.{Counts}
use Rattle.run_look.specs.declared.Sight.TheVariants as sight
use Rattle.run_state.specs.Inner.Acted.{no_entry, acted_of}
use Rattle.run_engine.specs.Inner.Engine as engine
use Rattle.run_engine.specs.Inner.Engine.{no_cell, head_at}
use Rattle.refinement.proofs.Meant.{slots, closed, IsExpression, IsCondition, Goes, Unlogged}
use Rattle.refinement.proofs.Looks.{MeetsBy, attempt_condition}
use Rattle.refinement.proofs.Moves.{Mover, Acts}
use Rattle.refinement.proofs.Moving.{plain, attempts}

module _ {b : List ℕ} {m : engine.EngineState} {s : machine.State} {p : ℕ} (mover : Mover b m s p) where
  open m use {cells as cs}
  open mover use {ok, thread as t, there}
  open mover.headed use {stack as S}

  abbrev n : Counts
  n = m.tally.counts

  abbrev ks : KeySet
  ks = (head_at m.heads p).keys

  -- a redex that leaves no record and changes nothing but where its thread stands
  pub pure_meets : (i : ℕ) (r : Ready) → is_redex redex.Fork r.redex ≡ false → is_redex redex.Signal r.redex ≡ false
      → (x : frames.Result) (R : frames.Ready) (g : Refocusing) → t.expression ≡ frames.Found.here S R → Unlogged b R x
      → Goes b g S (refocus.go (node_at b) (terms b) S x)
      → MeetsBy sight.Ready p r (machine.attempt (table_of b) s p) (Acts mover r i (acted_of g n ks (get_or cs i no_cell) no_entry))
  unfolding machine.around table_of
  pure_meets i r forks signals x R g code u goes =
      (_, attempts mover R code (u.acts s p t), plain mover r i u.rule (refocus.go (node_at b) (terms b) S x) g forks signals (u.needs_no_room s) goes)

  pub condition_meets : (i : ℕ) (r : Ready) → is_redex redex.Fork r.redex ≡ false → is_redex redex.Signal r.redex ≡ false → (Q : frames.Readyᶜ)
      (g : Refocusing)
      → t.expression ≡ frames.Found.hereᶜ S Q → playing.no_room_before s (machine.actᶜ (table_of b) S Q).rule ≡ none
      → Goes b g S (machine.actᶜ (table_of b) S Q).expression
      → MeetsBy sight.Ready p r (machine.attempt (table_of b) s p) (Acts mover r i (acted_of g n ks (get_or cs i no_cell) no_entry))
  condition_meets i r forks signals Q g code lack goes = (
    _,
    attempt_condition (table_of b) s p t there S Q code,
    plain mover r i (machine.actᶜ (table_of b) S Q).rule (machine.actᶜ (table_of b) S Q).expression g forks signals lack goes,
  )

  -- a while, and the turn of its body
  loops : {a b' : ℕ} → IsCondition b a → IsExpression b b' → (a < 1024) × (b' < 1024)
  loops x y = let z = (accepted b ok).few_terms in omega arith

  pub while_meets : (a b' w environment i : ℕ) → Well S → IsCondition b a → IsExpression b b'
      → t.expression ≡ frames.Found.here S (frames.Ready.while (branches a b' (slots environment)))
      → MeetsBy sight.Ready p (ready_of redex.While a b' w environment) (machine.attempt (table_of b) s p)
      (Acts mover (ready_of redex.While a b' w environment) i (acted_of (go_want_condition (framed kind.Test a b' 0 environment) a) n ks (get_or cs i no_cell)
      no_entry))
  unfolding machine.act machine.around playing.no_room_before refocus.go table_of
  while_meets a b' w environment i well hc he code =
      let z = loops hc he in (
        _,
        attempts mover (frames.Ready.while (branches a b' (slots environment))) code refl,
        plain mover _ i e_while (enterᶜ (node_at b) (terms b) (frames.Frame.while_test (branches a b' (slots environment)) ∷ S) (closed a environment))
            (go_want_condition (framed kind.Test a b' 0 environment) a) refl refl refl
            (record { first_fits = z.0; second_fits = z.1; member_fits = omega arith; count_fits = omega arith; sorted = (hc, he) }, well, hc, refl),
      )

  pub body_meets : (a b' w environment i : ℕ) → Well S → IsCondition b a → IsExpression b b'
      → t.expression ≡ frames.Found.here S (frames.Ready.while_test true (branches a b' (slots environment)))
      → MeetsBy sight.Ready p (ready_of redex.Body a b' w environment) (machine.attempt (table_of b) s p)
      (Acts mover (ready_of redex.Body a b' w environment) i (acted_of (go_want (framed kind.Body a b' 0 environment) b') n ks (get_or cs i no_cell) no_entry))
  unfolding machine.act machine.around playing.no_room_before refocus.go table_of
  body_meets a b' w environment i well hc he code =
      let z = loops hc he in (
        _,
        attempts mover (frames.Ready.while_test true (branches a b' (slots environment))) code refl,
        plain mover _ i e_if (enter (node_at b) (terms b) (frames.Frame.while_body (branches a b' (slots environment)) ∷ S) (closed b' environment))
            (go_want (framed kind.Body a b' 0 environment) b') refl refl refl
            (record { first_fits = z.0; second_fits = z.1; member_fits = omega arith; count_fits = omega arith; sorted = (hc, he) }, well, he, refl),
      )
