-- The code's run that goes on behind its picks is the defined one of all its picks. Assumes nothing.
use Prim.Native.Nat.{ℕ, ◌+◌, ◌-◌, ◌*◌, ◌≤◌, ◌<◌, min}
use native.Mathlib.Decide.{dec_lt}
use native.Mathlib.Omega.{arith}
use mathlib.Core.Path.{◌≡◌, refl, ap, ◌∙◌, subst as along}
use mathlib.Core.Bool.{Bool, false}
use mathlib.Core.List.{List}
use lib.ListN.{length, get_or, take, length-take}
use lib.Seq.{get_or-take, take-length}
use Rattle.plan_packed.specs.Format.{version, procedures, volatiles}
use Rattle.run_outcome.specs.declared.Outcome.{Outcome}
use Rattle.run_engine.specs.Inner.Engine.{start_of}
use Rattle.run_engine.specs.declared.Explored.{Explored}
use Rattle.run_engine.specs.Inner.Exploring.{all_picks, NotedAt, first_run, ExploredOn}
use Rattle.run_engine.proofs.AllPicks.{length_all, given_at, noted_at, unnoted}
use Rattle.refinement.proofs.States.{setting_of}
use Rattle.play.specs.Inner.Roots.{Roots}
use Rattle.play.specs.Inner.RunOn.{Given, RunBy, OutcomeOf, Notable, ExploredBy}
use Rattle.play.proofs.Answers.{run_on, outcome_defined}

module _ (plan ws rs picks area notes noted after : List ℕ) (given : Given plan ws picks area) (fits : Notable notes area)
    (roots : Roots plan (procedures plan) rs) (r : Explored) where
  abbrev all : List ℕ
  all = all_picks picks noted

  module _ (every : Bool) (x : ExploredOn ws rs (setting_of plan) (start_of every rs area) picks notes noted after r) where
    length_is : length (all_picks picks noted) ≡ length picks + (length notes - length picks)
    length_is = length_all picks noted ∙ ap (λ (n : ℕ). length picks + (n - length picks)) x.kept

    of_eight : (i : ℕ) → i < r.made → get_or (all_picks picks noted) i 0 < 8
    of_eight i h = go (dec_lt i (length picks))
      where
        go : Dec (i < length picks) → get_or (all_picks picks noted) i 0 < 8
        go (yes b) = omega (arith, given_at picks noted i b, given.small i b)
        go (no b) =
            let k : i < length notes = omega (arith, b, h, x.within, length_is) in
            omega (arith, noted_at picks noted i (omega (arith, b)), (x.noted i h k).there)

    -- the first picks are few and of eight threads
    module _ (k : ℕ) (few : k ≤ r.made) where
      length_first : length (take k (all_picks picks noted)) ≡ min k (length (all_picks picks noted))
      length_first = length-take k (all_picks picks noted)

      small : (j : ℕ) → j < length (take k (all_picks picks noted)) → get_or (take k (all_picks picks noted)) j 0 ≤ 7
      small j b =
          let q : j < k = omega (arith, b, length_first) in
          let e = of_eight j (omega (arith, q, few)) in
          let g = get_or-take k (all_picks picks noted) j 0 q in
          omega (arith, e, g)

      wide : 3 * length (take k (all_picks picks noted)) ≤ length area
      wide = omega (arith, length_first, length_is, given.wide, fits.wide)

      first_given : Given plan ws (take k (all_picks picks noted)) area
      first_given =
          record {
            plan_passes = given.plan_passes;
            loaded = given.loaded;
            few = omega (arith, length_first, length_is, given.few, fits.few);
            small = small;
            wide = wide;
          }

    runs_by : RunBy every plan (take r.made (all_picks picks noted)) area after r.ran
    runs_by =
        run_on plan ws rs (take r.made (all_picks picks noted)) area (first_given r.made (omega arith)) roots r.ran after every (volatiles plan)
        (version plan) refl refl (record { outcome = x.outcome; area_left = x.area; before = x.counted })

  notes_defined : (every : Bool) (x : ExploredOn ws rs (setting_of plan) (start_of every rs area) picks notes noted after r) → every ≡ false → (i : ℕ)
      → i < r.made → i < length notes
      → (o : Outcome) × OutcomeOf plan (take i (all_picks picks noted)) o × NotedAt o (get_or (all_picks picks noted) i 0) (get_or noted i 0)
  notes_defined every x e i h b =
      let y : ExploredOn ws rs (setting_of plan) (start_of false rs area) picks notes noted after r =
      along (λ (z : Bool). ExploredOn ws rs (setting_of plan) (start_of z rs area) picks notes noted after r) e x in (
        (first_run ws rs (setting_of plan) (start_of false rs area) picks noted i).outcome,
        outcome_defined plan ws rs area given.plan_passes given.loaded roots (take i (all_picks picks noted)) (small false y i (omega arith))
            (wide false y i (omega arith)),
        y.noted i h b,
      )

  -- for the setting of the plan
  explored_here : (every : Bool) → ExploredOn ws rs (setting_of plan) (start_of every rs area) picks notes noted after r
      → ExploredBy every plan picks area after notes noted r
  explored_here every x =
      record {
        kept = x.kept;
        within = x.within;
        unnoted = x.unnoted;
        places = x.places;
        of_eight = of_eight every x;
        run_by = runs_by every x;
        notes_at = notes_defined every x;
        shut = x.shut;
      }

  pub explored_by : (every : Bool) (mask v : ℕ) → mask ≡ volatiles plan → v ≡ version plan
      → ExploredOn ws rs (record { mask = mask; version = v }) (start_of every rs area) picks notes noted after r
      → ExploredBy every plan picks area after notes noted r
  explored_by every mask v em ev x =
      explored_here every
      (along (λ (n : ℕ). ExploredOn ws rs (record { mask = volatiles plan; version = n }) (start_of every rs area) picks notes noted after r) ev
      (along (λ (n : ℕ). ExploredOn ws rs (record { mask = n; version = v }) (start_of every rs area) picks notes noted after r) em x))

-- where no note is lent, all its picks are the given ones
pub alone : (every : Bool) (plan picks before after notes noted : List ℕ) (r : Explored) → length notes ≡ 0
    → ExploredBy every plan picks before after notes noted r → RunBy every plan picks before after r.ran
alone every plan picks before after notes noted r e x =
    let a : all_picks picks noted ≡ picks = unnoted picks noted (x.kept ∙ e) in
    along (λ (ps : List ℕ). RunBy every plan ps before after r.ran)
    (ap (λ (l : List ℕ). take r.made l) a ∙ ap (λ (n : ℕ). take n picks) (x.unnoted e) ∙ take-length picks) x.run_by
