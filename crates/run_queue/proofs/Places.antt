-- Loops over the places: what is left to count, and what is left to change. Assumes nothing.
use mathlib.Core.Path.{◌≡◌, sym, subst}
use mathlib.Core.Bool.{true, cond}
use mathlib.Core.List.{List, [], ◌∷◌, ◌++◌, append_assoc, append-nil, map}
use Prim.Native.Nat.{ℕ, suc, ◌+◌, ◌/◌, ◌%◌, ◌<◌, ◌≤◌}
use native.Mathlib.Numerals.{add-one}
use native.Mathlib.Omega.{arith}
use lib.Dec.{T, eqb, ltb, ltb→lt}
use mir.Facts.{and_yes}
use lib.ListN.{length, take, drop, get_or, set, drop_of_length-le}
use lib.Seq.{take_all, drop-cons, take-suc-set, drop-set-lt}
use Rattle.run_queue.specs.Inner.Queue.{queued_on, count_of}

-- who has a place in a queue has one past 0
pub queued_past : (o w : ℕ) → queued_on o w ≡ true → 32 ≤ w
unfolding queued_on
queued_past o w h = omega (arith, ltb→lt 0 (w / 32) (and_yes (eqb o (w % 32)) (ltb 0 (w / 32)) (subst T (sym h) tt)).1)

-- the next place is counted, or not
pub count_next : (o : ℕ) (ws : List ℕ) (i : ℕ) → i < length ws
    → count_of o (drop i ws) ≡ cond (queued_on o (get_or ws i 0)) (suc (count_of o (drop (i + 1) ws))) (count_of o (drop (i + 1) ws))
unfolding count_of
count_next o ws i h = rw (add-one, drop-cons ws i 0)

module _ (f : ℕ → ℕ) where
  -- the places from i on are still to be changed
  unfoldable pub changed_from : ℕ → List ℕ → List ℕ
  changed_from i ws = take i ws ++ map f (drop i ws)

  pub changed_next : (i : ℕ) (ws : List ℕ) → i < length ws → changed_from (i + 1) (set ws i (f (get_or ws i 0))) ≡ changed_from i ws
  unfolding changed_from
  changed_next i ws h =
      let q : i < suc i = omega arith in
      rw (add-one, take-suc-set ws i, drop-set-lt (suc i) ws i, drop-cons ws i 0, append_assoc)

  pub changed_all : (i : ℕ) (ws : List ℕ) → length ws ≤ i → changed_from i ws ≡ ws
  unfolding changed_from
  changed_all i ws h = rw (take_all i ws, drop_of_length-le ws) (append-nil ws)
