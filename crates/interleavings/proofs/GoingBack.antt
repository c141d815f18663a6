-- Going back from a listed schedule: where no higher thread can be picked any more, every listed schedule above it leaves it earlier. Assumes nothing.
use Prim.Native.Nat.{ℕ, zero, suc, ◌+◌, ◌-◌, ◌%◌, ◌≤◌, ◌<◌}
use native.Mathlib.Omega.{arith}
use mathlib.Core.Path.{◌≡◌, sym, subst as along}
use mathlib.Core.List.{List, [], ◌∷◌, ◌++◌}
use lib.ListN.{length, get_or, take, drop, take-append-drop}
use lib.Seq.{take_all, take-suc, split_at, append_snoc}
use Rattle.plan_packed.specs.Syntax.{Program}
use Rattle.run_open_threads.specs.Inner.Open.{LowestFrom}
use Rattle.listing.specs.Order.{Before, AtMost}
use Rattle.listing.specs.Listed.{Listed, Over}
use Rattle.listing.specs.Inner.CanFollow.{can_follow}
use Rattle.listing.specs.Inner.Ways.{Way}
use Rattle.listing.proofs.Order.{Higher, none_higher, higher_before, higher_here}
use Rattle.listing.proofs.Ways.{one_more_lem, first_picks, back_start, go_back, turn}
use Rattle.listing.proofs.Listed.{complete_of}
use Rattle.run_replays.specs.Inner.Told.{Noted}
use Rattle.run_place_notes.specs.Inner.Notes.{LastAt}
use Rattle.interleavings.specs.Inner.Steps.{NoneHigher, TurnsAt}

-- ---- what the notes tell

module _ (g : Program) (ps notes : List ℕ) (x : Noted g ps notes) where
  -- no higher thread is noted
  pub none_higher_at : (i : ℕ) → i < length ps → 8 ≤ get_or notes i 0 % 16 → NoneHigher g ps i
  none_higher_at i h b k a d = (x.higher i h).before k (omega arith) (omega arith)

  -- the last that is
  pub turns_at : (place pick : ℕ) → LastAt notes (length ps) place pick → TurnsAt g ps place pick
  turns_at place pick t =
      record {
        inside = t.inside;
        higher = omega (arith, l.reached);
        of_eight = t.of_eight;
        can = l.here t.of_eight;
        lowest = λ k a d. l.before k (omega arith) d;
        last = λ i a h. none_higher_at i h (t.last i a h);
      }
    where
      l : LowestFrom (can_follow g (take place ps)) (get_or ps place 0 + 1) pick
      l = along (LowestFrom (can_follow g (take place ps)) (get_or ps place 0 + 1)) (sym t.here) (x.higher place t.inside)

-- ---- what follows for listed schedules

module _ (g : Program) (n : ℕ) (ps : List ℕ) (x : Listed g n ps) where
  -- back to place i
  back_to : (rs : List ℕ) → Listed g n rs → Before ps rs → (k i : ℕ) → i + k ≡ length ps → ((j : ℕ) → i ≤ j → j < length ps → NoneHigher g ps j)
      → Higher (take i ps) rs
  back_to rs l b zero i e none =
      along (λ (qs : List ℕ). Higher qs rs) (sym (take_all i ps (omega arith))) (back_start (can_follow g) ps (complete_of g n ps x) rs (complete_of g n rs l) b)
  back_to rs l b (suc k) i e none =
      go_back (can_follow g) (take i ps) (get_or ps i 0) rs (complete_of g n rs l)
      (along (λ (qs : List ℕ). Higher qs rs) (take-suc ps i 0 (omega arith)) (back_to rs l b k (suc i) (omega arith) (λ j h. none j (omega arith))))
      (none i (omega arith) (omega arith))

  -- to the beginning
  pub over : ((i : ℕ) → i < length ps → NoneHigher g ps i) → Over g n ps
  over none rs l b = none_higher rs (back_to rs l b (length ps) 0 (omega arith) (λ j h. none j))

  -- to the last place where a higher thread can be picked
  module _ (place pick : ℕ) (t : TurnsAt g ps place pick) where
    abbrev turned : List ℕ
    turned = take place ps ++ (pick ∷ [])

    pub turned_way : Way (can_follow g) turned
    turned_way =
        one_more_lem (can_follow g) (take place ps) pick
        (first_picks (can_follow g) (take place ps) (drop place ps)
        (along (Way (can_follow g)) (sym (take-append-drop place ps)) (complete_of g n ps x).way))
        t.of_eight t.can

    pub turned_least : (rs : List ℕ) → Listed g n rs → Before ps rs → AtMost turned rs
    turned_least rs l b =
        turn (can_follow g) (take place ps) (get_or ps place 0) rs (complete_of g n rs l)
        (along (λ (qs : List ℕ). Higher qs rs) (take-suc ps place 0 t.inside)
        (back_to rs l b (length ps - suc place) (suc place) (omega (arith, t.inside)) (λ j h. t.last j h)))
        pick t.lowest

    pub turned_above : (qs : List ℕ) → Before ps (turned ++ qs)
    turned_above qs =
        along (λ (l : List ℕ). Before l (turned ++ qs)) (sym (split_at ps place 0 t.inside))
        (along (Before lower) (sym (append_snoc (take place ps) pick qs))
        (higher_before lower (take place ps ++ (pick ∷ qs)) (higher_here (take place ps) (get_or ps place 0) pick (drop (suc place) ps) qs t.higher)))
      where
        lower : List ℕ
        lower = take place ps ++ (get_or ps place 0 ∷ drop (suc place) ps)
