-- The rounds of a run that goes on: a stretch of picks, a look at all threads, a note. What is known of the picks and of the notes where a round begins.
-- Assumes nothing.
use Prim.Native.Nat.{ℕ, ◌+◌, ◌*◌, ◌/◌, ◌%◌, ◌≤◌, ◌<◌}
use native.Mathlib.Decide.{ℕ_discrete, dec_lt}
use native.Mathlib.Omega.{arith}
use mathlib.Core.Path.{◌≡◌, sym, ap, ◌∙◌, subst as along}
use mathlib.Core.Bool.{Bool}
use mathlib.Core.List.{List}
use lib.ListN.{length, get_or, set, take, length-set}
use lib.Seq.{get_or-set_same, get_or-set_other}
use borrow.Author.Tests.{lt-ltb}
use Rattle.run_outcome.specs.declared.Outcome.{Outcome}
use Rattle.run_state.specs.declared.Setting.{Setting}
use Rattle.run_open_threads.specs.Inner.Open.{open_after, LowestFrom}
use Rattle.run_engine.specs.Inner.Exploring.{all_picks, pick_at, Unseen, Explorable, NotedAt}
use Rattle.run_engine.proofs.AllPicks.{length_all, given_at, kept_before, kept_at, added}
use Rattle.run_engine.proofs.Standing.{played}

module _ (ws rs : List ℕ) (g : Setting) (every : Bool) (first picks : List ℕ) where
  -- the outcome of the first picks
  abbrev pub outcome_at : List ℕ → ℕ → Outcome
  outcome_at notes j = (played ws rs g every first (take j (all_picks picks notes))).outcome

  -- the next stretch is from one place to another, by the given picks or by one thread; before its end all places are noted
  pub record Round (before notes : List ℕ) (lowest from to : ℕ) : Type 0 where
    pub kept : length notes ≡ length before
    pub ordered : from ≤ to
    pub listed : to ≤ length (all_picks picks notes)
    pub few : to ≤ 4096
    pub room : to * 3 ≤ length first
    pub stretch : (i : ℕ) → from ≤ i → i < to → get_or (all_picks picks notes) i 0 ≡ pick_at picks i lowest
    pub unnoted : length before ≡ 0 → to ≡ length picks
    pub places : 0 < length before → to ≤ length before
    pub noted : (j : ℕ) → j < to → j < length before → NotedAt (outcome_at notes j) (get_or (all_picks picks notes) j 0) (get_or notes j 0)

  -- the first: all picks, or none
  pub first_round : (notes : List ℕ) (lowest to : ℕ) → Explorable picks notes first → Unseen (length picks) (length notes) to
      → Round notes notes lowest 0 to
  first_round notes lowest to h u = go (ℕ_discrete (length notes) 0)
    where
      go : Dec (length notes ≡ 0) → Round notes notes lowest 0 to
      go (yes e) =
          let a = u.all e in
          record {
            kept = omega arith;
            ordered = omega arith;
            listed = omega (arith, a, length_all picks notes);
            few = omega (arith, a, h.few);
            room = omega (arith, a, h.room);
            stretch = λ i b c. let k : i < length picks = omega (arith, a, c) in rw (lt-ltb i (length picks) k) (given_at picks notes i k);
            unnoted = λ q. a;
            places = λ b. absurd (omega arith);
            noted = λ j b c. absurd (omega arith);
          }
      go (no n) =
          let a = u.none (omega (arith, n)) in
          record {
            kept = omega arith;
            ordered = omega arith;
            listed = omega (arith, a);
            few = omega (arith, a);
            room = omega (arith, a);
            stretch = λ i b c. absurd (omega (arith, a, c));
            unnoted = λ q. absurd (n q);
            places = λ b. omega (arith, a);
            noted = λ j b c. absurd (omega (arith, a, b));
          }

  -- and from each to the next: one pick more, which is noted
  module _ (before notes : List ℕ) (lowest from to : ℕ) (r : Round before notes lowest from to) (h : Explorable picks before first)
      (inside : to < length before) (next higher : ℕ) (there : next < 8) (low : LowestFrom (open_after (outcome_at notes to)) 0 next)
      (high : LowestFrom (open_after (outcome_at notes to)) (pick_at picks to next % 8 + 1) higher) where
    abbrev after : List ℕ
    after = set notes to (next * 16 + higher)

    within : to < length notes
    within = omega (arith, r.kept)

    here : get_or (all_picks picks after) to 0 ≡ pick_at picks to next
    here = added picks notes to next higher within high.within

    same_outcome : (j : ℕ) → j ≤ to → outcome_at after j ≡ outcome_at notes j
    same_outcome j b = ap (λ (l : List ℕ). (played ws rs g every first l).outcome) (kept_before picks notes to (next * 16 + higher) j b)

    new_note : NotedAt (outcome_at after to) (get_or (all_picks picks after) to 0) (get_or after to 0)
    new_note =
        let e : get_or after to 0 ≡ next * 16 + higher = get_or-set_same notes to (next * 16 + higher) 0 within in
        let d : get_or after to 0 / 16 ≡ next = omega (arith, e, high.within) in
        let m : get_or after to 0 % 16 ≡ higher = omega (arith, e, high.within) in
        record {
          there = omega (arith, d, there);
          lowest = along (λ (o : Outcome). LowestFrom (open_after o) 0 (get_or after to 0 / 16)) (sym (same_outcome to (omega arith)))
              (along (LowestFrom (open_after (outcome_at notes to)) 0) (sym d) low);
          higher = along (λ (o : Outcome). LowestFrom (open_after o) (get_or (all_picks picks after) to 0 % 8 + 1) (get_or after to 0 % 16))
              (sym (same_outcome to (omega arith)))
              (along (LowestFrom (open_after (outcome_at notes to)) (get_or (all_picks picks after) to 0 % 8 + 1)) (sym m)
              (along (λ (p : ℕ). LowestFrom (open_after (outcome_at notes to)) (p % 8 + 1) higher) (sym here) high));
        }

    old_note : (j : ℕ) → j < to → j < length before → NotedAt (outcome_at after j) (get_or (all_picks picks after) j 0) (get_or after j 0)
    old_note j b c =
        let n : j ≡ to → ⊥ = λ q. absurd (omega (arith, q, b)) in
        rw (same_outcome j (omega arith), kept_at picks notes to (next * 16 + higher) j b, get_or-set_other notes to j (next * 16 + higher) 0 n) (r.noted j b c)

    pub next_round : Round before after next to (to + 1)
    next_round =
        record {
          kept = length-set notes to (next * 16 + higher) ∙ r.kept;
          ordered = omega arith;
          listed = omega (arith, inside, r.kept, length-set notes to (next * 16 + higher), length_all picks after);
          few = omega (arith, inside, h.few_notes);
          room = omega (arith, inside, h.room_notes);
          stretch = λ i b c. let q : i ≡ to = omega (arith, b, c) in along (λ (k : ℕ). get_or (all_picks picks after) k 0 ≡ pick_at picks k next) (sym q) here;
          unnoted = λ q. absurd (omega (arith, q, inside));
          places = λ b. omega (arith, inside);
          noted = λ j b c. either j b c (dec_lt j to);
        }
      where
        either : (j : ℕ) → j < to + 1 → j < length before → Dec (j < to) → NotedAt (outcome_at after j) (get_or (all_picks picks after) j 0) (get_or after j 0)
        either j b c (yes k) = old_note j k c
        either j b c (no k) =
            let q : j ≡ to = omega (arith, b, k) in
            along (λ (i : ℕ). NotedAt (outcome_at after i) (get_or (all_picks picks after) i 0) (get_or after i 0)) (sym q) new_note
