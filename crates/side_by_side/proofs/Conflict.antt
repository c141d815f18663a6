-- E10, the converse: where two threads' next moves conflict, picking the writer and then the other stops for a missing key by the second pick at the
-- latest. Assumes nothing.
use Prim.Native.Nat.{ℕ}
use native.Mathlib.Omega.{arith}
use mathlib.Core.Path.{◌≡◌, refl, ap, ◌∙◌}
use mathlib.Core.Bool.{Bool, true, false, true≢false}
use mathlib.Core.List.{List, [], ◌∷◌, ◌++◌}
use mathlib.Core.Logic.{◌⊎◌, inl, inr}
use mathlib.Core.Option.{Option, some, none}
use lib.ListN.{get_elem?}
use Rattle.run_keys.specs.Keys.{singleton, union, holds, subset}
use Rattle.run_keys.proofs.KeyLaws.{subset_singleton}
use Rattle.plan_packed.specs.Syntax.{Program, literal}
use Rattle.plan_packed.proofs.WellFormed.{WellFormedProgram}
use Rattle.log_records.specs.Record.{Kind, Record, entry}
use Rattle.rules.specs.Context.{Context, Redex, plug}
use Rattle.rules.specs.State.{Cell, cell, Thread, State, start, lookup, change_at, gain, learn, become, store, use_key}
use Rattle.rules.specs.Rules.{Rule}
use Rattle.rules.specs.Step.{Move, act, read_act, write_act, around, AttemptOf, attempt_at, attempt_by, attempt}
use Rattle.rules.specs.Room.{Room, no_room_for, PickAnswerOf, answer, step, within_room}
use Rattle.rules.specs.Run.{Stop, Run, run, resume, after_move, after_pass, stopped, play}
use Rattle.rules.proofs.RunAppend.{run_append}
use Rattle.rules.proofs.StateLaws.{change_other, store_same}
use Rattle.rules.proofs.Executed.{Reachable, reachable_start, reachable_run}
use Rattle.side_by_side.specs.SideBySide.{About}
use Rattle.side_by_side.specs.Conflict.{Conflict, HasRoom, Accesses, writes, reads}

-- what a thread whose next part is x can do
attempt_at_lem : (g : Program) (s : State) (p : ℕ) (x : Redex) (a : About s p x) → attempt g s p ≡ around s p a.around (act g s p a.thread x)
unfolding attempt attempt_by attempt_at
attempt_at_lem g s p x a = ap (attempt_by g s p) a.there ∙ ap (attempt_at g s p a.thread) a.next_is

module _ (g : Program) (s : State) (I : Reachable g s) (p q : ℕ) (C : Conflict g s p q) where
  abbrev o : ℕ
  o = C.object

  abbrev f : ℕ
  f = C.field

  abbrev t : Thread
  t = C.about_write.thread

  abbrev u : Thread
  u = C.about_access.thread

  abbrev K : Context
  K = C.about_write.around

  abbrev new : Cell
  new = cell (singleton s.next_key) C.value

  abbrev s₁ : State
  s₁ = become (learn (store (use_key s) o f new) p (singleton s.next_key)) p (plug K (literal C.value))

  unmoved : get_elem? s₁.threads q ≡ some u
  unfolding become gain store use_key
  unmoved =
      change_other (learn (store (use_key s) o f new) p (singleton s.next_key)).threads p _ q C.two ∙ change_other s.threads p _ q C.two
      ∙ C.about_access.there

  cell_now : lookup s₁ o f ≡ some new
  unfolding become gain lookup use_key
  cell_now = store_same (use_key s) o f new C.cell C.field_there

  -- no set holds the next key
  lacks_it : subset (singleton s.next_key) u.keys ≡ false
  lacks_it = subset_singleton s.next_key u.keys ∙ go (holds u.keys s.next_key) refl
    where
      go : (b : Bool) → holds u.keys s.next_key ≡ b → b ≡ false
      go false e = refl
      go true e = let b = I.unused.threads q u C.about_access.there s.next_key (rw e tt) in absurd (omega arith)

  about_still : About s₁ q C.part
  about_still = record { thread = u; there = unmoved; around = C.about_access.around; next_is = C.about_access.next_is }

  -- the other lacks the new key
  second_act : (y : Redex) → Accesses o f y → (r : Record) × (around s₁ q C.about_access.around (act g s₁ q u y) ≡ AttemptOf.lacking r)
  unfolding act read_act write_act around
  second_act y reads = (entry Kind.lacks_read q o f 0, rw (cell_now, C.plain, lacks_it))
  second_act y (writes {v}) = (entry Kind.lacks_write q o f v, rw (cell_now, C.plain, lacks_it))

  pub conflicts : HasRoom g s p
      → ((r : Record) × (step g s p ≡ PickAnswerOf.race r))
      ⊎ ((m : Move) × (r : Record) × (step g s p ≡ PickAnswerOf.moved m) × (step g m.state q ≡ PickAnswerOf.race r))
  unfolding act write_act around step answer within_room about_still
  conflicts room = go (subset C.cell.keys t.keys) refl
    where
      first : attempt g s p ≡ around s p K (act g s p t (Redex.write o f C.value))
      first = attempt_at_lem g s p (Redex.write o f C.value) C.about_write

      M : Move
      M = record { rule = Rule.e_write; entry = some (entry Kind.write p o f C.value); state = s₁ }

      within : (k : Option Room) → no_room_for Rule.e_write s p s₁ ≡ k
          → answer s p (AttemptOf.moves M) ≡ PickAnswerOf.moved M ⊎ ((k : Room) × (answer s p (AttemptOf.moves M) ≡ PickAnswerOf.no_room k))
      within none e = inl (rw e)
      within (some k) e = inr (k, rw e)

      go : (b : Bool) → subset C.cell.keys t.keys ≡ b
          → ((r : Record) × (step g s p ≡ PickAnswerOf.race r)) ⊎
          ((m : Move) × (r : Record) × (step g s p ≡ PickAnswerOf.moved m) × (step g m.state q ≡ PickAnswerOf.race r))
      go false w =
          let lacking : attempt g s p ≡ AttemptOf.lacking (entry Kind.lacks_write p o f C.value) = first ∙ rw (C.field_there, C.plain, w) in
          inl (entry Kind.lacks_write p o f C.value, ap (answer s p) lacking)
      go true w = inr (finish (within (no_room_for Rule.e_write s p s₁) refl))
        where
          moved : attempt g s p ≡ AttemptOf.moves M
          moved = first ∙ rw (C.field_there, C.plain, w)

          l : (r : Record) × (around s₁ q C.about_access.around (act g s₁ q u C.part) ≡ AttemptOf.lacking r)
          l = second_act C.part C.accesses

          finish : (answer s p (AttemptOf.moves M) ≡ PickAnswerOf.moved M) ⊎ ((k : Room) × (answer s p (AttemptOf.moves M) ≡ PickAnswerOf.no_room k))
              → (m : Move) × (r : Record) × (step g s p ≡ PickAnswerOf.moved m) × (step g m.state q ≡ PickAnswerOf.race r)
          finish (inl e) = (M, l.0, ap (answer s p) moved ∙ e, ap (answer s₁ q) (attempt_at_lem g s₁ q C.part about_still ∙ l.1))
          finish (inr (k, e)) = absurd (room k (ap (answer s p) moved ∙ e))

  -- picking the writer and then the other
  pub two_picks : HasRoom g s p → (run g s (p ∷ q ∷ [])).stop ≡ Stop.race
  unfolding run resume stopped after_move
  two_picks room = go (conflicts room)
    where
      go : ((r : Record) × (step g s p ≡ PickAnswerOf.race r))
          ⊎ ((m : Move) × (r : Record) × (step g s p ≡ PickAnswerOf.moved m) × (step g m.state q ≡ PickAnswerOf.race r))
          → (run g s (p ∷ q ∷ [])).stop ≡ Stop.race
      go (inl (r, e)) = rw e
      go (inr (m, r, e, e')) = rw (e, e')

-- "wherever in a run not stopped two threads' next moves conflict so, the write would not stop for room and two more picks are allowed, picking the
-- writer and then the other stops for a missing key by the second pick at the latest"
pub conflict_races : (g : Program) → WellFormedProgram g → (ps : List ℕ) → (play g ps).stop ≡ Stop.end → (p q : ℕ) → Conflict g (play g ps).final p q
    → HasRoom g (play g ps).final p → (play g (ps ++ (p ∷ q ∷ []))).stop ≡ Stop.race
unfolding play
conflict_races g P ps h p q C room = ap (λ (r : Run). r.stop) (run_append g start ps (p ∷ q ∷ []) h)
    ∙ two_picks g (run g start ps).final (reachable_run g P start ps (reachable_start g P)) p q C room
