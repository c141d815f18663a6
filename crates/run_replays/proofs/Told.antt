-- What the run of a schedule tells of it: whether it is listed, and what can be picked in place of each of its picks. Assumes nothing.
use Prim.Native.Nat.{ℕ, ◌+◌, ◌%◌, ◌≤◌, ◌<◌}
use native.Mathlib.Decide.{ℕ_discrete, dec_lt}
use native.Mathlib.Omega.{arith}
use mathlib.Core.Path.{◌≡◌, refl, sym, ap, ◌∙◌, subst as along}
use mathlib.Core.Bool.{true, false, true≢false}
use mathlib.Core.List.{List, ◌++◌}
use mathlib.Core.Logic.{◌⊎◌, inl, inr}
use lib.Dec.{eqb}
use lib.ListN.{length, length-append, get_or, take, get_or-append}
use lib.Seq.{take-append_seam, take-append-le}
use borrow.Author.Tests.{eq-eqb, ne_eqb}
use Rattle.plan_packed.specs.Syntax.{Program}
use Rattle.plan_packed.specs.Trees.{program_of}
use Rattle.rules.specs.Run as run
use Rattle.rules.specs.Run.{play, instances}
use Rattle.rules.specs.Play.{run_of}
use Rattle.run_outcome.specs.declared.Stop.{Stop}
use Rattle.run_outcome.specs.declared.Stop.TheVariants as stop
use Rattle.run_outcome.specs.declared.Outcome.{Outcome}
use Rattle.run_open_threads.specs.Inner.Open.{LowestFrom}
use Rattle.run_engine.specs.declared.Explored.{Explored}
use Rattle.run_engine.specs.Inner.Exploring.{all_picks}
use Rattle.run_engine.proofs.AllPicks.{given_at}
use Rattle.play.specs.Answer.{stop_of, outcome_of}
use Rattle.play.specs.Inner.RunOn.{OutcomeOf}
use Rattle.listing.specs.Listed.{Listed, Whole, HAS-N}
use Rattle.listing.specs.Inner.CanFollow.{can_follow, stops}
use Rattle.listing.specs.Inner.Ways.{Way, Complete}
use Rattle.listing.proofs.Listed.{complete_of, whole_by}
use Rattle.listing.proofs.Counted.{counted, counts_few, listed_counts, listed_by_count}
use Rattle.run_counted_picks.specs.Inner.Counted.{stop_count}
use Rattle.run_replays.specs.Inner.Replay.{OfEight, Explores}
use Rattle.run_replays.specs.Inner.Told.{Tells, Noted, ListedBy}
use Rattle.run_replays.proofs.Opens.{stop_is}

-- ---- the counts of an outcome

stop_counts : (e : Stop) → stop_count e ≡ stops (stop_of e)
unfolding stops stop_of
stop_counts stop.End = refl
stop_counts stop.Race = refl
stop_counts (stop.NoRoom k) = refl

module _ (plan picks : List ℕ) (o : Outcome) (h : OutcomeOf plan picks o) where
  moves_are : o.moves ≡ length (instances (play (program_of plan) picks))
  unfolding outcome_of run.outcome_of run_of
  moves_are = ap (λ (x : run.Outcome). x.moves) h

  pub counts_are : o.moves + stop_count o.stop ≡ counted (play (program_of plan) picks)
  counts_are =
      let e : stop_count o.stop ≡ stops (play (program_of plan) picks).stop = stop_counts o.stop ∙ ap stops (stop_is plan picks o h) in
      omega (arith, moves_are, e)

  pub few_counts : o.moves + stop_count o.stop ≤ length picks
  few_counts = omega (arith, counts_are, counts_few (program_of plan) picks)

-- ---- a run goes past the given picks where each of them can follow

module _ {plan picks before after : List ℕ} {r : Explored} (x : Explores plan picks before after r) where
  pub goes_past : length picks ≤ length before → Way (can_follow (program_of plan)) picks → length picks ≤ r.made
  goes_past room w = by (dec_lt r.made (length picks))
    where
      by : Dec (r.made < length picks) → length picks ≤ r.made
      by (no h) = omega (arith, h)
      by (yes h) =
          absurd
          (true≢false
          (sym (w.follows r.made h)
          ∙ ap (λ (l : List ℕ). can_follow (program_of plan) l (get_or picks r.made 0)) (sym (take-append-le r.made picks _ (omega arith)))
          ∙ x.shut (omega arith) (get_or picks r.made 0) (w.of_eight r.made h)))

-- ---- whether the schedule is listed

not_so : {A : Type 0} → (A → ⊥) → Tells false A
not_so n = (λ e. absurd (true≢false (sym e)), λ e x. n x)

refused : (g : Program) (n : ℕ) (ps notes : List ℕ) → (Listed g n ps → ⊥) → ListedBy g n ps notes false
refused g n ps notes x = record { tells = not_so x; noted = λ e. absurd (true≢false (sym e)) }

-- there are more picks than the bound
pub too_long : (g : Program) (n : ℕ) (ps notes : List ℕ) → n < length ps → ListedBy g n ps notes false
too_long g n ps notes b = refused g n ps notes (λ l. let w = l.at_most in omega arith)

-- by its run of at most n picks, whose notes come first in an area
module _ (n : ℕ) {plan ps before after : List ℕ} {r : Explored} (x : Explores plan ps before after r) (most : length ps ≤ n) (long : length before ≡ n)
    (rest : List ℕ) where
  abbrev g : Program
  g = program_of plan

  abbrev notes : List ℕ
  notes = after ++ rest

  -- where it has as many picks, it is the run of the schedule
  module _ (m : r.made ≡ length ps) where
    whole : take r.made (all_picks ps after) ≡ ps
    whole = ap (λ (k : ℕ). take k (all_picks ps after)) m ∙ take-append_seam ps _

    pub its_outcome : OutcomeOf plan ps r.ran.outcome
    its_outcome = along (λ (l : List ℕ). OutcomeOf plan l r.ran.outcome) whole x.outcome

    noted : Noted g ps notes
    noted =
        record {
          room = omega (arith, x.kept, length-append after rest);
          higher = λ i h.
              let l = (x.noted i (omega (arith, m, h))).higher in
              along (λ (p : ℕ). LowestFrom (can_follow g (take i ps)) (p + 1) (get_or notes i 0 % 16)) (given_at ps after i h)
              (along (λ (q : List ℕ). LowestFrom (can_follow g q) (get_or (all_picks ps after) i 0 + 1) (get_or notes i 0 % 16)) (take-append-le i ps _ (omega arith))
              (along (λ (y : ℕ). LowestFrom (can_follow g (take i (all_picks ps after))) (get_or (all_picks ps after) i 0 + 1) (y % 16))
              (sym (get_or-append after rest 0 i (omega (arith, x.kept)))) l));
        }

    ends : Whole g n ps
    ends = by (ℕ_discrete (length ps) n)
      where
        by : Dec (length ps ≡ n) → Whole g n ps
        by (yes e) = HAS-N e
        by (no e) = whole_by g n ps (inr (λ p b. ap (λ (l : List ℕ). can_follow g l p) (sym whole) ∙ x.shut (omega (arith, m, most, long, e)) p b))

    pub by_count : OfEight ps → ListedBy g n ps notes (eqb (r.ran.outcome.moves + stop_count r.ran.outcome.stop) (length ps))
    by_count eight = by (ℕ_discrete c (length ps))
      where
        c : ℕ
        c = r.ran.outcome.moves + stop_count r.ran.outcome.stop

        are : c ≡ counted (play g ps)
        are = counts_are plan ps r.ran.outcome its_outcome

        by : Dec (c ≡ length ps) → ListedBy g n ps notes (eqb c (length ps))
        by (yes e) =
            along (ListedBy g n ps notes) (sym (eq-eqb c (length ps) e))
            (record { tells = (λ t. listed_by_count g n ps most eight (sym are ∙ e) ends, λ f. absurd (true≢false f)); noted = λ t. noted })
        by (no e) = along (ListedBy g n ps notes) (sym (ne_eqb c (length ps) e)) (refused g n ps notes (λ l. e (are ∙ listed_counts g n ps l)))

  -- where it has not, a pick of the schedule cannot follow, or another can behind it
  pub not_all : (r.made ≡ length ps → ⊥) → ListedBy g n ps notes false
  not_all d = refused g n ps notes (λ l. by (complete_of g n ps l))
    where
      more : length ps < r.made → (length ps ≡ n) ⊎ ((p : ℕ) → p < 8 → can_follow g ps p ≡ false) → ⊥
      more h (inl e) = omega (arith, x.within)
      more h (inr e) =
          let a = x.noted (length ps) h in
          let q = get_or (all_picks ps after) (length ps) 0 in
          true≢false (sym ((a.lowest (omega arith)).here a.of_eight) ∙ ap (λ (l : List ℕ). can_follow g l q) (take-append_seam ps _) ∙ e q a.of_eight)

      by : Complete (can_follow g) n ps → ⊥
      by c = more (omega (arith, d, goes_past x (omega arith) c.way)) c.ends
