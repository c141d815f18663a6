-- What a pick meets, found by its cell's number; the threads at the end, seen one after the other. Assumes nothing.
use mathlib.Core.Path.{◌≡◌, refl}
use mathlib.Core.List.{List, [], ◌∷◌}
use Prim.Native.Nat.{ℕ, ◌/◌, ◌%◌, ◌≤◌}
use native.Mathlib.Omega.{arith}
use lib.ListN.{length, get_or, set}
use borrow.Author.Tests.{le-leb}
use Rattle.format.proofs.Turns.{turns}
use Rattle.run_open_threads.specs.Inner.Open.{absent}
use Rattle.run_outcome.specs.declared.Thread.{Thread}
use Rattle.run_state.specs.declared.Setting.{Setting}
use Rattle.run_state.specs.declared.Head.{Head}
use Rattle.run_state.specs.declared.Cell.{Cell}
use Rattle.run_state.specs.declared.Object.{Object}
use Rattle.run_state.specs.declared.Counts.{Counts}
use Rattle.run_pick.specs.declared.Met.{Met}
use Rattle.run_pick.specs.Inner.Pick.{no_head}
use Rattle.run_engine.specs.Inner.Engine.{no_cell, no_object, head_at, Placed, met_by, thread_by, thread_at, threads_of}

module _ (n : Counts) (l : List Head) (cs : List Cell) (ts : List Object) (qs : List ℕ) where
  -- with the cell c, of the object at o
  abbrev pub met_with : ℕ → Cell → ℕ → Met
  met_with p c o =
      record {
        counts = n;
        head = head_at l p;
        cell = c;
        object = get_or ts o no_object;
        other = get_or l ((get_or ts o no_object).thread % 16) no_head;
        thread = p;
        place = get_or qs p 0;
      }

  pub met : (p k : ℕ) (c : Cell) → Placed (head_at l p).ready k → c ≡ get_or cs k no_cell → met_with p c (k / 32) ≡ met_by n l cs ts qs p
  unfolding met_by
  met p k c q e = rw (e, q.object, q.cell)

  module _ (setting : Setting) where
    -- a thread put at its number
    abbrev pub put_thread : ℕ → List Thread → List Thread
    put_thread p all = set all p (thread_at setting n l cs ts qs p)

    -- a thread that is not there
    pub absent_at : (p : ℕ) → n.threads ≤ p → thread_at setting n l cs ts qs p ≡ absent
    unfolding thread_by met_by
    absent_at p h = rw (le-leb n.threads p h)

    pub all_threads_lem : (seen : List Thread) → length seen ≡ 8 → turns put_thread 8 0 seen ≡ threads_of setting n l cs ts qs
    unfolding turns threads_of
    all_threads_lem [] e = absurd (omega arith)
    all_threads_lem (a ∷ []) e = absurd (omega arith)
    all_threads_lem (a ∷ b ∷ []) e = absurd (omega arith)
    all_threads_lem (a ∷ b ∷ c ∷ []) e = absurd (omega arith)
    all_threads_lem (a ∷ b ∷ c ∷ d ∷ []) e = absurd (omega arith)
    all_threads_lem (a ∷ b ∷ c ∷ d ∷ f ∷ []) e = absurd (omega arith)
    all_threads_lem (a ∷ b ∷ c ∷ d ∷ f ∷ g ∷ []) e = absurd (omega arith)
    all_threads_lem (a ∷ b ∷ c ∷ d ∷ f ∷ g ∷ h ∷ []) e = absurd (omega arith)
    all_threads_lem (a ∷ b ∷ c ∷ d ∷ f ∷ g ∷ h ∷ k ∷ []) e = refl
    all_threads_lem (a ∷ b ∷ c ∷ d ∷ f ∷ g ∷ h ∷ k ∷ m ∷ r) e = absurd (omega arith)

    pub eight_threads : length (threads_of setting n l cs ts qs) ≡ 8
    unfolding threads_of
    eight_threads = refl
