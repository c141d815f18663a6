-- The answer to a move, by its refocusings. Assumes nothing.
use mathlib.Core.Path.{◌≡◌, refl, sym, ap, ◌∙◌}
use mathlib.Core.Bool.{Bool, true, false}
use mathlib.Core.List.{List}
use Prim.Native.Nat.{ℕ}
use Rattle.run_refocusing.specs.declared.Refocused.{Refocused}
use Rattle.run_refocusing.specs.Inner.Refocusing.{Ended, Ends, after_of}
use Rattle.run_refocusing.proofs.After.{last, last_full, both}
use Rattle.run_outcome.specs.declared.NoRoom.TheVariants as room
use Rattle.run_state.specs.declared.Head.{Head}
use Rattle.run_state.specs.declared.acted.Acted.{Acted}
use Rattle.run_pick.specs.declared.Met.{Met}
use Rattle.run_pick.specs.Inner.Answer.{PickAnswer, PickAnswer as answer}
use Rattle.run_pick.specs.Inner.Pick.{picked, no_room, no_head, full_of, forks_of, forked_of, move_of, refocus_forked, forked_way, start_by, refocus_by}

module _ (x : Met) (a : Acted) (ws rs : List ℕ) (m : Ended) where
  -- where the mover has refocused at m: without room; of a fork, with a forked thread that has no room or has refocused; of another move
  by_full : full_of m.refocused ≡ true → refocus_by ws rs x a m ≡ picked m.stack (no_room room.Depth)
  unfolding refocus_by
  by_full d = rw d

  by_forked_full : full_of m.refocused ≡ false → forks_of x.head ≡ true → full_of (refocus_forked ws rs x m.stack).refocused ≡ true
      → refocus_by ws rs x a m ≡ picked (refocus_forked ws rs x m.stack).stack (no_room room.Depth)
  unfolding refocus_by start_by
  by_forked_full d f y = rw (d, f, y)

  by_forked : full_of m.refocused ≡ false → forks_of x.head ≡ true → full_of (refocus_forked ws rs x m.stack).refocused ≡ false
      → refocus_by ws rs x a m ≡ picked (refocus_forked ws rs x m.stack).stack
      (answer.Moved (move_of x a m.refocused (forked_of x (refocus_forked ws rs x m.stack).refocused) true))
  unfolding refocus_by start_by
  by_forked d f y = rw (d, f, y)

  by_mover : full_of m.refocused ≡ false → forks_of x.head ≡ false
      → refocus_by ws rs x a m ≡ picked m.stack (answer.Moved (move_of x a m.refocused no_head false))
  unfolding refocus_by
  by_mover d f = rw (d, f)

  module _ (b : Refocused) (z : PickAnswer) {e : Ends} (q : e ≡ after_of ws rs (forks_of x.head) (forked_way x.counts x.head) b m) where
    lasts : {e' : Ends} → e ≡ e' → {c : Bool} → full_of e.refocusings.last ≡ c → full_of e'.refocusings.last ≡ c
    lasts s h = ap (λ (e : Ends). full_of e.refocusings.last) (sym s) ∙ h

    -- the last refocusing had no room
    pub refocus_full : full_of e.refocusings.last ≡ true → z ≡ no_room room.Depth → picked e.stack z ≡ refocus_by ws rs x a m
    refocus_full h k = by (full_of m.refocused) (forks_of x.head) refl refl
      where
        by : (d f : Bool) → full_of m.refocused ≡ d → forks_of x.head ≡ f → picked e.stack z ≡ refocus_by ws rs x a m
        by true f ed ef =
            let s = q ∙ last_full ws rs (forked_way x.counts x.head) b m (forks_of x.head) ed in
            ap (picked e.stack) k ∙ ap (λ (e : Ends). picked e.stack (no_room room.Depth)) s ∙ sym (by_full ed)
        by false true ed ef =
            let s = q ∙ both ws rs (forked_way x.counts x.head) b m (forks_of x.head) ef ed in
            ap (picked e.stack) k ∙ ap (λ (e : Ends). picked e.stack (no_room room.Depth)) s ∙ sym (by_forked_full ed ef (lasts s h))
        by false false ed ef = let r = lasts (q ∙ last ws rs (forked_way x.counts x.head) b m (forks_of x.head) ef) h in cc (r, ed)

    -- a fork whose forked thread has refocused
    pub refocus_forked_lem : (h : Head) → full_of e.refocusings.last ≡ false → forks_of x.head ≡ true
        → z ≡ answer.Moved (move_of x a e.refocusings.before h true) → h ≡ forked_of x e.refocusings.last → picked e.stack z ≡ refocus_by ws rs x a m
    refocus_forked_lem h n f k j = by (full_of m.refocused) refl
      where
        by : (d : Bool) → full_of m.refocused ≡ d → picked e.stack z ≡ refocus_by ws rs x a m
        by true ed = let r = lasts (q ∙ last_full ws rs (forked_way x.counts x.head) b m (forks_of x.head) ed) n in cc (r, ed)
        by false ed =
            let s = q ∙ both ws rs (forked_way x.counts x.head) b m (forks_of x.head) f ed in
            ap (picked e.stack) (k ∙ ap (λ (h : Head). answer.Moved (move_of x a e.refocusings.before h true)) j)
            ∙ ap (λ (e : Ends). picked e.stack (answer.Moved (move_of x a e.refocusings.before (forked_of x e.refocusings.last) true))) s
            ∙ sym (by_forked ed f (lasts s n))

    -- another move
    pub refocus_moved : (h : Head) → full_of e.refocusings.last ≡ false → forks_of x.head ≡ false
        → z ≡ answer.Moved (move_of x a e.refocusings.last h false) → h ≡ no_head → picked e.stack z ≡ refocus_by ws rs x a m
    refocus_moved h n f k j =
        let s = q ∙ last ws rs (forked_way x.counts x.head) b m (forks_of x.head) f in
        ap (picked e.stack) (k ∙ ap (λ (h : Head). answer.Moved (move_of x a e.refocusings.last h false)) j)
        ∙ ap (λ (e : Ends). picked e.stack (answer.Moved (move_of x a e.refocusings.last no_head false))) s
        ∙ sym (by_mover (lasts s n) f)
