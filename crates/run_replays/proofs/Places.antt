-- The run of some picks and of those noted behind them, by what can follow. Assumes nothing.
use Prim.Native.Nat.{ℕ, ◌+◌, ◌%◌, ◌≤◌, ◌<◌}
use native.Mathlib.Decide.{dec_lt}
use native.Mathlib.Omega.{arith}
use mathlib.Core.Path.{◌≡◌, refl, sym, ◌∙◌, subst as along}
use mathlib.Core.Bool.{false}
use mathlib.Core.List.{List}
use lib.ListN.{length, get_or, take}
use Rattle.plan_packed.specs.Syntax.{Program}
use Rattle.plan_packed.specs.Trees.{program_of}
use Rattle.run_open_threads.specs.Inner.Open.{open_after, LowestFrom}
use Rattle.run_engine.specs.declared.Explored.{Explored}
use Rattle.run_engine.specs.Inner.Exploring.{all_picks}
use Rattle.run_engine.proofs.AllPicks.{noted_at}
use Rattle.play.specs.Inner.RunOn.{ExploredBy}
use Rattle.listing.specs.Inner.CanFollow.{can_follow}
use Rattle.run_replays.specs.Inner.Replay.{PlaceNoted, Explores}
use Rattle.run_replays.proofs.Opens.{can_is, lowest_follows}

module _ {plan picks log log' before after : List ℕ} {r : Explored} (x : ExploredBy false plan picks log log' before after r)
    (room : length picks ≤ length before) where
  abbrev g : Program
  g = program_of plan

  abbrev ps : List ℕ
  ps = all_picks picks after

  within : r.made ≤ length before
  within = by (dec_lt 0 (length before))
    where
      by : Dec (0 < length before) → r.made ≤ length before
      by (yes h) = x.places h
      by (no h) = let e : length before ≡ 0 = omega (arith, h) in omega (arith, x.unnoted e)

  place : (i : ℕ) → i < r.made → PlaceNoted (can_follow g) (length picks) ps after i
  place i h =
      let n = x.notes_at refl i h (omega (arith, within)) in
      let b = x.of_eight i h in
      let e : get_or ps i 0 % 8 ≡ get_or ps i 0 = omega arith in
      record {
        of_eight = b;
        lowest = λ d. lowest_follows plan (take i ps) n.0 n.1 0 _ (along (LowestFrom _ 0) (sym (noted_at picks after i d)) n.2.lowest);
        higher = lowest_follows plan (take i ps) n.0 n.1 _ _
            (along (λ (p : ℕ). LowestFrom (open_after n.0) (p + 1) (get_or after i 0 % 16)) e n.2.higher);
      }

  pub explores : Explores plan picks before after r
  explores =
      record {
        kept = x.kept;
        within = within;
        outcome = x.run_by.outcome;
        noted = place;
        shut = λ h k b. sym (can_is plan (take r.made ps) r.ran.outcome x.run_by.outcome k b) ∙ x.shut h k b;
      }
