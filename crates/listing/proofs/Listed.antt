-- A listed schedule is a complete way, where what can follow is what moves or stops the run; and the laws of listed schedules that follow. Assumes nothing.
use Prim.Native.Nat.{ℕ, ◌≤◌, ◌<◌}
use native.Mathlib.Omega.{arith}
use mathlib.Core.Path.{◌≡◌, refl, sym, ap, ◌∙◌}
use mathlib.Core.Bool.{Bool, true, false, ◌&&◌, true≢false}
use mathlib.Core.List.{List, [], ◌∷◌, ◌++◌}
use mathlib.Core.Logic.{◌⊎◌, inl, inr, ◌↔◌}
use lib.ListN.{length, get_or, take}
use Rattle.plan_packed.specs.Syntax.{Program}
use Rattle.rules.specs.Room.{PickAnswerOf, PickAnswer, step}
use Rattle.rules.specs.Run.{Stop, play}
use Rattle.listing.specs.Listed.{Whole, HAS-N, STOPS, NONE-CAN, Listed}
use Rattle.listing.specs.Inner.CanFollow.{goes_on, moves_or_stops, can_follow}
use Rattle.listing.specs.Inner.Ways.{Complete}
use Rattle.listing.proofs.Ways.{no_picks, no_longer}

both : (x y : Bool) → (x && y) ≡ true → (x ≡ true) × (y ≡ true)
both true y e = (refl, e)
both false y e = absurd (true≢false (sym e))

ended : (e : Stop) → goes_on e ≡ true → e ≡ Stop.end
unfolding goes_on
ended Stop.end h = refl
ended Stop.race h = absurd (true≢false (sym h))
ended (Stop.no_room k) h = absurd (true≢false (sym h))

halted : (e : Stop) → (e ≡ Stop.end → ⊥) → goes_on e ≡ false
unfolding goes_on
halted Stop.end h = absurd (h refl)
halted Stop.race h = refl
halted (Stop.no_room k) h = refl

taken : (a : PickAnswer) → (a ≡ PickAnswerOf.passed → ⊥) → moves_or_stops a ≡ true
unfolding moves_or_stops
taken PickAnswerOf.passed h = absurd (h refl)
taken (PickAnswerOf.race r) h = refl
taken (PickAnswerOf.no_room k) h = refl
taken (PickAnswerOf.moved m) h = refl

passed_by : (a : PickAnswer) → moves_or_stops a ≡ false → a ≡ PickAnswerOf.passed
unfolding moves_or_stops
passed_by PickAnswerOf.passed h = refl
passed_by (PickAnswerOf.race r) h = absurd (true≢false h)
passed_by (PickAnswerOf.no_room k) h = absurd (true≢false h)
passed_by (PickAnswerOf.moved m) h = absurd (true≢false h)

module _ (g : Program) (ps : List ℕ) (p : ℕ) where
  pub can_follow_lem : (play g ps).stop ≡ Stop.end → (step g (play g ps).final p ≡ PickAnswerOf.passed → ⊥) → can_follow g ps p ≡ true
  unfolding can_follow goes_on
  can_follow_lem e h = rw (e, taken (step g (play g ps).final p) h)

  pub follows_end : can_follow g ps p ≡ true → (play g ps).stop ≡ Stop.end
  unfolding can_follow
  follows_end h = ended (play g ps).stop (both (goes_on (play g ps).stop) (moves_or_stops (step g (play g ps).final p)) h).0

  pub follows_moves : can_follow g ps p ≡ true → step g (play g ps).final p ≡ PickAnswerOf.passed → ⊥
  unfolding can_follow moves_or_stops
  follows_moves h e = true≢false (sym (both (goes_on (play g ps).stop) (moves_or_stops (step g (play g ps).final p)) h).1 ∙ ap moves_or_stops e)

  pub after_stop : ((play g ps).stop ≡ Stop.end → ⊥) → can_follow g ps p ≡ false
  unfolding can_follow
  after_stop h = rw (halted (play g ps).stop h)

  pub passes_by : (play g ps).stop ≡ Stop.end → can_follow g ps p ≡ false → step g (play g ps).final p ≡ PickAnswerOf.passed
  unfolding can_follow goes_on
  passes_by e h = passed_by (step g (play g ps).final p) (sym (ap (λ (x : Stop). goes_on x && moves_or_stops (step g (play g ps).final p)) e) ∙ h)

  pub cannot_follow : (play g ps).stop ≡ Stop.end → step g (play g ps).final p ≡ PickAnswerOf.passed → can_follow g ps p ≡ false
  unfolding can_follow goes_on moves_or_stops
  cannot_follow e h = rw (e, h)

module _ (g : Program) (n : ℕ) (ps : List ℕ) where
  -- "that cannot be extended"
  pub ends_of : Whole g n ps → (length ps ≡ n) ⊎ ((p : ℕ) → p < 8 → can_follow g ps p ≡ false)
  ends_of (HAS-N e) = inl e
  ends_of (STOPS h) = inr (λ p b. after_stop g ps p h)
  ends_of (NONE-CAN h) = inr (λ p b. by p b (play g ps).stop refl)
    where
      by : (p : ℕ) → p < 8 → (e : Stop) → (play g ps).stop ≡ e → can_follow g ps p ≡ false
      by p b Stop.end q = cannot_follow g ps p q (h p b)
      by p b Stop.race q = after_stop g ps p (λ z. true≢false cc)
      by p b (Stop.no_room k) q = after_stop g ps p (λ z. true≢false cc)

  pub whole_by : (length ps ≡ n) ⊎ ((p : ℕ) → p < 8 → can_follow g ps p ≡ false) → Whole g n ps
  whole_by (inl e) = HAS-N e
  whole_by (inr h) = by (play g ps).stop refl
    where
      by : (e : Stop) → (play g ps).stop ≡ e → Whole g n ps
      by Stop.end q = NONE-CAN (λ p b. passes_by g ps p q (h p b))
      by Stop.race q = STOPS (λ z. true≢false cc)
      by (Stop.no_room k) q = STOPS (λ z. true≢false cc)

  pub complete_of : Listed g n ps → Complete (can_follow g) n ps
  complete_of x =
      record {
        way = record { of_eight = x.of_eight; follows = λ i h. can_follow_lem g (take i ps) (get_or ps i 0) (x.none_after i h) (x.none_passed i h) };
        at_most = x.at_most;
        ends = ends_of x.whole;
      }

  pub listed_by_lem : Complete (can_follow g) n ps → Listed g n ps
  listed_by_lem x =
      record {
        at_most = x.at_most;
        of_eight = x.way.of_eight;
        none_passed = λ i h. follows_moves g (take i ps) (get_or ps i 0) (x.way.follows i h);
        none_after = λ i h. follows_end g (take i ps) (get_or ps i 0) (x.way.follows i h);
        whole = whole_by x.ends;
      }

-- ---- "No listed schedule is a prefix of another."

pub no_prefix : (g : Program) (n : ℕ) (ps : List ℕ) (r : ℕ) (t : List ℕ) → Listed g n ps → Listed g n (ps ++ (r ∷ t)) → ⊥
no_prefix g n ps r t x y = no_longer (can_follow g) ps (ps ++ (r ∷ t)) (complete_of g n ps x) (complete_of g n (ps ++ (r ∷ t)) y) (r, t, refl)

-- ---- "n = 0 lists the empty schedule only."

pub none_lists_empty : (g : Program) (ps : List ℕ) → Listed g 0 ps ↔ (ps ≡ [])
none_lists_empty g ps =
    (λ x. only ps x.at_most, λ e. rw e (listed_by_lem g 0 [] (record { way = no_picks (can_follow g); at_most = omega arith; ends = inl refl })))
  where
    only : (l : List ℕ) → length l ≤ 0 → l ≡ []
    only [] h = refl
    only (x ∷ l) h = absurd (omega arith)
