-- A move of a redex that changes no cell leaves its cell as it was. Assumes nothing.
use mathlib.Core.Path.{◌≡◌, refl, sym, ap, ◌∙◌}
use mathlib.Core.Bool.{Bool, true, false, cond}
use mathlib.Core.List.{List}
use Prim.Native.Nat.{ℕ}
use native.Mathlib.Omega.{arith}
use lib.ListN.{get_or}
use Rattle.run_refocusing.specs.Inner.Refocusing.{Stack, Ended}
use Rattle.run_outcome.specs.declared.NoRoom.{NoRoom}
use Rattle.run_state.specs.declared.Setting.{Setting}
use Rattle.run_state.specs.declared.Cell.{Cell}
use Rattle.run_state.specs.declared.acted.Act.{Act}
use Rattle.run_state.specs.declared.acted.Act.TheVariants as act
use Rattle.run_state.specs.declared.acted.Acted.{Acted}
use Rattle.run_look.specs.declared.Sight.{Sight}
use Rattle.run_look.specs.declared.Sight.TheVariants as sight
use Rattle.run_act.specs.Inner.Act.{changes_by}
use Rattle.run_act.proofs.Unchanged.{cell_after, leaves}
use Rattle.run_pick.specs.declared.Met.{Met}
use Rattle.run_pick.specs.Inner.Answer.{Move, PickAnswer, PickAnswer as answer}
use Rattle.run_pick.specs.Inner.Pick.{picked, no_room, full_of, forks_of, refocus_forked, start_by, refocus_by, make_by, act_met, pick_by, look_met, pick_of}
use Rattle.run_engine.specs.Inner.Engine.{EngineState, head_at, cell_number, no_cell, met_by, picked_by}

module _ (v : Move) (c : Cell) where
  moved_is : (u : Move) → u.cell ≡ c → answer.Moved u ≡ answer.Moved v → v.cell ≡ c
  moved_is u k e = let q : u ≡ v = cc in ap (λ (x : Move). x.cell) (sym q) ∙ k

  stopped_is : (r : NoRoom) → no_room r ≡ answer.Moved v → v.cell ≡ c
  stopped_is r e = absurd (let z : ◌≡◌ {A = ℕ} 0 1 = cc in omega arith)

  refocused_is : (full forks forked : Bool) (k k' : Stack) (r r' : NoRoom) (u u' : Move) → u.cell ≡ c → u'.cell ≡ c
      → (cond full (picked k (no_room r)) (cond forks (cond forked (picked k' (no_room r')) (picked k' (answer.Moved u'))) (picked k (answer.Moved u)))).answer
      ≡ answer.Moved v → v.cell ≡ c
  refocused_is true forks forked k k' r r' u u' q q' h = stopped_is r h
  refocused_is false true true k k' r r' u u' q q' h = stopped_is r' h
  refocused_is false true false k k' r r' u u' q q' h = moved_is u' q' h
  refocused_is false false forked k k' r r' u u' q q' h = moved_is u q h

module _ (ws rs : List ℕ) (setting : Setting) (v : Move) where
  refocus_is : (x : Met) (a : Acted) (l : Ended) → (refocus_by ws rs x a l).answer ≡ answer.Moved v → v.cell ≡ a.cell
  unfolding refocus_by start_by
  refocus_is x a l h = refocused_is v a.cell (full_of l.refocused) (forks_of x.head) (full_of (refocus_forked ws rs x l.stack).refocused) _ _ _ _ _
      _ refl refl h

  made_is : (x : Met) (z : Act) (k : Stack) → (make_by ws rs x z k).answer ≡ answer.Moved v → v.cell ≡ cell_after x.cell z
  unfolding cell_after
  made_is x (act.Done a) k h = refocus_is x a _ h
  made_is x (act.NoRoom r) k h = stopped_is v x.cell r h

  seen_is : (x : Met) (s : Sight) (k : Stack) → changes_by x.head.ready.redex ≡ false
      → (pick_by ws rs setting x s k).answer ≡ answer.Moved v → v.cell ≡ x.cell
  seen_is x sight.Ready k n h =
      made_is x (act_met setting x) k h ∙ leaves x.head.ready.redex setting x.counts x.head x.cell x.object x.other n
  seen_is x sight.Lacking k n h = absurd (let z : ◌≡◌ {A = ℕ} 0 1 = cc in omega arith)
  seen_is x (sight.Blocked b) k n h = absurd (let z : ◌≡◌ {A = ℕ} 0 1 = cc in omega arith)

  pub cell_unchanged : (m : EngineState) (p : ℕ) → changes_by (head_at m.heads p).ready.redex ≡ false → (picked_by ws rs setting m p).answer ≡ answer.Moved v
      → v.cell ≡ get_or m.cells (cell_number (head_at m.heads p).ready) no_cell
  unfolding pick_of met_by
  cell_unchanged m p n h =
      let x = met_by m.tally.counts m.heads m.cells m.objects m.places p in
      seen_is x (look_met setting x) m.stack n h
