-- The abstract machine's step of a move, by the room before it and after it. Assumes nothing.
use Prim.Native.Nat.{ℕ}
use native.Mathlib.Omega.{arith}
use mathlib.Core.Path.{◌≡◌, sym, ap, ap₂, ◌∙◌}
use mathlib.Core.Bool.{Bool, false, cond, ◌||◌, or-false}
use mathlib.Core.List.{List, [], ◌∷◌, ◌++◌}
use mathlib.Core.Option.{Option, some, none}
use lib.Dec.{ltb}
use lib.ListN.{length, get_elem?, drop, drop_of_length-le}
use lib.Seq.{drop-append_seam}
use Rattle.format.specs.Refusal.{or_else}
use Rattle.rules.specs.Room as rooms
use Rattle.rules.proofs.StateLaws.{inside, added_old}
use Rattle.machine.specs.Inner.Frames.{height}
use Rattle.machine.specs.Inner.Machine as machine
use Rattle.machine.specs.Inner.Playing.{table_of}
use Rattle.machine.specs.Inner.Playing as playing
use Rattle.refinement.proofs.Moves.{with_forked}

-- the step of a move, by what it lacks
pub step_moves : (b : List ℕ) (s : machine.State) (p : ℕ) (v : machine.Move) (x y : Option rooms.Room)
    → machine.attempt (table_of b) s p ≡ machine.moves v
    → playing.no_room_before s v.rule ≡ x → playing.no_room_after s p v.state ≡ y → playing.step (table_of b) s p ≡ playing.within_room v (or_else x y)
unfolding playing.step playing.answer playing.no_room_for
step_moves b s p v x y e h k = ap (playing.answer s p) e ∙ ap₂ (λ (x y : Option rooms.Room). playing.within_room v (or_else x y)) h k

-- whether a new thread has too many frames
abbrev pub forked_deep : Option machine.Thread → Bool
forked_deep none = false
forked_deep (some y) = ltb 32 (height y.expression)

-- the room after a move, with n threads before it
pub room_after : (xs : List machine.Thread) (forked : Option machine.Thread) (u : machine.Thread) (p n : ℕ) → length xs ≡ n → get_elem? xs p ≡ some u
    → cond (playing.deep_at (get_elem? (with_forked xs forked) p) || playing.any_deep (drop n (with_forked xs forked))) (some rooms.Room.depth) none
    ≡ cond (ltb 32 (height u.expression) || forked_deep forked) (some rooms.Room.depth) none
unfolding playing.deep_at playing.deep playing.any_deep
room_after xs none u p n l e =
    ap₂ (λ (x : Option machine.Thread) (ys : List machine.Thread). cond (playing.deep_at x || playing.any_deep ys) (some rooms.Room.depth) none) e
    (drop_of_length-le xs {i = n} (omega arith))
room_after xs (some y) u p n l e =
    ap₂ (λ (x : Option machine.Thread) (ys : List machine.Thread). cond (playing.deep_at x || playing.any_deep ys) (some rooms.Room.depth) none)
    (added_old xs y p (inside xs p u e) ∙ e) (ap (λ (n : ℕ). drop n (xs ++ (y ∷ []))) (sym l) ∙ drop-append_seam xs (y ∷ []))
    ∙ ap (λ (x : Bool). cond (ltb 32 (height u.expression) || x) (some rooms.Room.depth) none) (or-false (ltb 32 (height y.expression)))
