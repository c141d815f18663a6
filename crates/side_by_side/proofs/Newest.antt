-- The schedule of the moves that are marked, over moves kept newest first. Assumes nothing.
use Prim.Native.Nat.{ℕ, suc, ◌≤◌}
use native.Mathlib.Omega.{arith}
use mathlib.Core.Path.{◌≡◌, refl, sym, ◌∙◌}
use mathlib.Core.Bool.{Bool, true, false, cond, ◌&&◌}
use mathlib.Core.List.{List, [], ◌∷◌, ◌++◌, reverse_aux, append-nil, append_assoc}
use mathlib.Core.Option.{some}
use lib.ListN.{length, length-append}
use Rattle.log_records.specs.Record.{Record}
use Rattle.log_order.proofs.KeySets.{put}
use Rattle.side_by_side.specs.Schedule.{is_fork, first_numbers, numbered, or_zero, picks_from, numbers_from}
use Rattle.side_by_side.proofs.Like.{Naming}
use Rattle.side_by_side.proofs.Correspondence.{Marks}

-- how many threads the marked moves have made, thread 0 included
abbrev pub made : Marks → List Record → ℕ
made S [] = 1
made S (r ∷ H) = cond (S (length H) && is_fork r.kind) (suc (made S H)) (made S H)

-- the threads' new numbers
abbrev pub numbers : Marks → List Record → Naming
numbers S [] = first_numbers
numbers S (r ∷ H) = cond (S (length H) && is_fork r.kind) (put (numbers S H) r.field (some (made S H))) (numbers S H)

-- moves newest first, picks oldest first
abbrev pub schedule : Marks → List Record → List ℕ
schedule S [] = []
schedule S (r ∷ H) = cond (S (length H)) (schedule S H ++ (or_zero (numbers S H r.thread) ∷ [])) (schedule S H)

-- ---- oldest first

module _ (S : Marks) where
  -- the schedule newest first is that of the spec
  pub turned_schedule : (L H : List Record) → schedule S (reverse_aux L H) ≡ schedule S H ++ picks_from S (length H) (numbers S H) (made S H) L
  unfolding picks_from put
  turned_schedule [] H = sym (append-nil (schedule S H))
  turned_schedule (r ∷ L) H = turned_schedule L (r ∷ H) ∙ go (S (length H)) (is_fork r.kind)
    where
      x : ℕ
      x = or_zero (numbers S H r.thread)

      go : (b f : Bool)
          → cond b (schedule S H ++ (x ∷ [])) (schedule S H)
          ++ picks_from S (suc (length H)) (cond (b && f) (put (numbers S H) r.field (some (made S H))) (numbers S H))
          (cond (b && f) (suc (made S H)) (made S H)) L
          ≡ schedule S H ++ cond b
          (x ∷ picks_from S (suc (length H)) (cond f (numbered (numbers S H) r.field (made S H)) (numbers S H)) (cond f (suc (made S H)) (made S H)) L)
          (picks_from S (suc (length H)) (numbers S H) (made S H) L)
      go true true = append_assoc (schedule S H) (x ∷ []) _
      go true false = append_assoc (schedule S H) (x ∷ []) _
      go false f = refl

  pub turned_numbers : (L H : List Record) (p : ℕ) → numbers S (reverse_aux L H) p ≡ numbers_from S (length H) (numbers S H) (made S H) L p
  unfolding numbers_from put
  turned_numbers [] H p = refl
  turned_numbers (r ∷ L) H p = turned_numbers L (r ∷ H) p ∙ go (S (length H)) (is_fork r.kind)
    where
      go : (b f : Bool)
          → numbers_from S (suc (length H)) (cond (b && f) (put (numbers S H) r.field (some (made S H))) (numbers S H))
          (cond (b && f) (suc (made S H)) (made S H)) L p
          ≡ cond b (numbers_from S (suc (length H)) (cond f (numbered (numbers S H) r.field (made S H)) (numbers S H))
          (cond f (suc (made S H)) (made S H)) L) (numbers_from S (suc (length H)) (numbers S H) (made S H) L) p
      go true true = refl
      go true false = refl
      go false f = refl

  -- no more picks than moves
  pub schedule_length : (H : List Record) → length (schedule S H) ≤ length H
  schedule_length [] = omega arith
  schedule_length (r ∷ H) = go (S (length H)) (schedule_length H)
    where
      go : (b : Bool) → length (schedule S H) ≤ length H
          → length (cond b (schedule S H ++ (or_zero (numbers S H r.thread) ∷ [])) (schedule S H)) ≤ suc (length H)
      go true h = omega (arith, length-append (schedule S H) (or_zero (numbers S H r.thread) ∷ []))
      go false h = omega arith
