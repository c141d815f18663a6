-- The engine's start stands for the abstract machine's. Assumes nothing.
use Prim.Native.Nat.{ℕ, zero, suc, ◌*◌, ◌<◌}
use native.Mathlib.Omega.{arith}
use native.Mathlib.Decide.{dec_lt}
use mathlib.Core.Path.{◌≡◌, refl, sym, ap, ap₂, ◌∙◌, subst as along}
use mathlib.Core.Bool.{Bool}
use mathlib.Core.List.{List, [], ◌∷◌}
use mathlib.Core.Option.{some, none, none-ne-some}
use lib.ListN.{length, get_or, set, get_elem?, replicate, length-replicate, get_or-replicate, get_or-eq_default}
use lib.Seq.{set-get_or}
use Rattle.run_keys.specs.Keys.{singleton}
use Rattle.run_keys.proofs.KeySetLaws.{fits_zero, keys_zero}
use Rattle.plan_packed.specs.Format.{procedures, root}
use Rattle.plan_packed.specs.Check.{refusal}
use Rattle.plan_packed.proofs.Accepted.{accepted}
use Rattle.rules.specs.Queue.{awake}
use Rattle.rules.specs.State.{fresh_object}
use Rattle.rules.specs.Rules.{e_call}
use Rattle.machine.specs.Inner.Frames.{Slots, no_slots, closure}
use Rattle.machine.specs.Inner.Frames as frames
use Rattle.machine.specs.Inner.Memory.{objects_of}
use Rattle.machine.specs.Inner.Machine as machine
use Rattle.machine.specs.Inner.Playing as playing
use Rattle.run_frames.specs.Inner.RedexKinds.{RedexKind as redex}
use Rattle.run_frames.specs.Inner.Going.{ready_of}
use Rattle.run_refocusing.specs.Inner.Refocusing.{Stack}
use Rattle.run_state.specs.declared.Setting.{Setting}
use Rattle.run_state.specs.declared.Cell.{Cell}
use Rattle.run_state.specs.declared.Object.{Object}
use Rattle.run_state.specs.Inner.Acted.{counts_of}
use Rattle.run_engine.specs.Inner.Engine.{no_cell, no_object, head_at, head_of, cell_first, start_of}
use Rattle.refinement.proofs.Meant.{WordsAndRoots, IsExpression, Stands}
use Rattle.refinement.proofs.SlotLaws.{none_bound}
use Rattle.refinement.proofs.Queues.{place_meant, places_of, Places}
use Rattle.refinement.proofs.States.{setting_of, CellFits, memory_of, Kept, Headed, Related}
use Rattle.refinement.proofs.KeptLaws.{kept_object, no_fields, no_bit}

-- fresh cells, and objects of which the first is null, stand for the start's memory
module _ (setting : Setting) (cs : List Cell) (ts : List Object) (cells_size : length cs ≡ 1024) (new : (i : ℕ) → i < 1024 → get_or cs i no_cell ≡ cell_first)
    (objects_size : length ts ≡ 33) (null : get_or ts 0 no_object ≡ no_object) where
  cell_fits : (i : ℕ) → CellFits (get_or cs i no_cell)
  cell_fits i = at (dec_lt i 1024)
    where
      at : Dec (i < 1024) → CellFits (get_or cs i no_cell)
      at (yes h) = along CellFits (sym (new i h)) (record { key = omega arith; keys = fits_zero })
      at (no h) = along CellFits (sym (get_or-eq_default cs no_cell {n = i} (omega arith))) (record { key = omega arith; keys = fits_zero })

  -- with no object yet
  empty_kept : Kept setting cs ts (counts_of 0 0 1) (record { objects = []; threads = []; next_key = 1 })
  unfolding objects_of memory_of
  empty_kept = record {
    cells_size = cells_size;
    objects_size = objects_size;
    threads_count = refl;
    objects_count = refl;
    keys_count = refl;
    objects = refl;
    cells_fit = cell_fits;
    fresh_past = λ i h l. new i l;
    numbers = λ o h. absurd (omega arith);
  }

  start_kept : Kept setting cs ts (counts_of 1 1 1) playing.start
  unfolding playing.start machine.thread_of
  start_kept =
      along (λ (l : List Object). Kept setting cs l (counts_of 1 1 1) playing.start) (ap (set ts 0) (sym null) ∙ set-get_or ts 0 no_object)
      (along (λ (fs : List ℕ). Kept setting cs (set ts 0 no_object) (counts_of 1 1 1)
      (record { objects = fresh_object fs ∷ []; threads = (playing.start).threads; next_key = 1 })) no_fields
      (kept_object empty_kept no_object (playing.start).threads 1 (omega arith) no_bit refl (λ o h. absurd (omega arith)) refl))

module _ (b ws rs : List ℕ) (ok : refusal b ≡ none) (loaded : WordsAndRoots b ws rs) where
  main_there : 0 < procedures b
  main_there = let x = (accepted b ok).some_procedure in omega arith

  main_root : root b 0 ≡ get_or rs 0 0
  main_root = sym (loaded.roots 0 main_there)

  -- thread 0 is about to call main
  start_stands : Stands b (ready_of redex.Run (get_or rs 0 0) 0 0 0) [] (frames.Found.here [] (frames.Ready.call 0 0 no_slots))
  unfolding playing.no_room_before machine.act playing.table_of
  start_stands = (
    redex.Run,
    refl,
    (
      tt,
      along (λ (t : ℕ). IsExpression b t) main_root (
        ((accepted b ok).each_procedure 0 main_there).root_below,
        ((accepted b ok).each_procedure 0 main_there).root_sorted,
      ),
      (
        frames.Ready.call 0 0 no_slots,
        refl,
        record {
          rule = e_call;
          needs_no_room = λ s. refl;
          acts = λ s p t. ap₂ (λ (t : ℕ) (ρ : Slots). machine.does e_call none s (frames.Result.run (closure t ρ))) main_root (sym none_bound);
        },
      ),
    ),
  )

  start_headed : (k : Stack)
      → Headed b k (0 * 33) (head_of (get_or rs 0 0))
      (record { self = 0; expression = frames.Found.here [] (frames.Ready.call 0 0 no_slots); keys = singleton 0; learnt = 0; place = awake })
  start_headed k = record {
    stack = [];
    held = tt;
    depth = refl;
    shallow = omega arith;
    stands = start_stands;
    object = refl;
    keys = keys_zero;
    keys_fit =
        fits_zero;
    learnt = refl;
  }

  start_each : (every : Bool) (area : List ℕ) (p : ℕ) (t : machine.Thread) → get_elem? (playing.start).threads p ≡ some t
      → Headed b (start_of every rs area).stack (p * 33) (head_at (start_of every rs area).heads p) t
  unfolding start_of playing.start
  start_each every area zero t h =
      let e : record { self = 0; expression = frames.Found.here [] (frames.Ready.call 0 0 no_slots); keys = singleton 0; learnt = 0; place = awake } ≡ t = cc in
      along (λ (t : machine.Thread). Headed b (start_of every rs area).stack (0 * 33) (head_at (start_of every rs area).heads 0) t) e
      (start_headed (start_of every rs area).stack)
  start_each every area (suc p) t h = absurd (none-ne-some t h)

  -- every thread is awake
  start_places : Places (replicate 8 0) (places_of (playing.start).threads)
  unfolding playing.start
  start_places i = ap place_meant (none_placed i) ∙ at i
    where
      none_placed : (i : ℕ) → ◌≡◌ {A = ℕ} (get_or (replicate 8 0) i 0) 0
      none_placed i = by (dec_lt i 8)
        where
          by : Dec (i < 8) → ◌≡◌ {A = ℕ} (get_or (replicate 8 0) i 0) 0
          by (yes h) = get_or-replicate 8 i 0 0 h
          by (no h) = get_or-eq_default (replicate 8 0) 0 {n = i} (let l = length-replicate {A = ℕ} 8 0 in omega (arith, h))

      at : (i : ℕ) → place_meant 0 ≡ get_or (awake ∷ []) i awake
      at zero = refl
      at (suc i) = refl

  pub start_related : (every : Bool) (area : List ℕ) → Related b (start_of every rs area) playing.start
  unfolding start_of
  start_related every area = record {
    heads_size = refl;
    sized = length-replicate {A = ℕ} 891 0;
    kept =
        start_kept (setting_of b) (replicate 1024 cell_first) (replicate 33 no_object) (length-replicate 1024 cell_first)
        (λ i h. get_or-replicate 1024 i cell_first no_cell h) (length-replicate 33 no_object) refl;
    each = start_each every area;
    places_size = length-replicate {A = ℕ} 8 0;
    places = start_places;
  }
