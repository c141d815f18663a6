-- What the code does for a new object, a fork or a join is what the abstract machine's move does. Assumes nothing.
use Prim.Native.Nat.{ℕ, ◌+◌, ◌%◌, ◌<◌}
use native.Mathlib.Nat.{mod-eq_of_lt}
use native.Mathlib.Omega.{arith}
use mathlib.Core.Path.{◌≡◌, refl, sym, ap, ap₂, ◌∙◌, subst as along}
use mathlib.Core.Bool.{Bool, true, false, cond}
use mathlib.Core.List.{List, [], ◌∷◌, ◌++◌}
use mathlib.Core.Option.{Option, some, none}
use mathlib.Core.Logic.{inl, inr}
use lib.Dec.{eqb, leb}
use lib.ListN.{length, get_or, set, get_elem?}
use borrow.Author.Tests.{leb-false, lt-leb}
use Rattle.run_keys.specs.declared.KeySet.{KeySet}
use Rattle.run_keys.specs.Keys.{Keys, union, count_new}
use Rattle.run_keys.specs.Inner.KeySet.{keys_of, join_of, new_of, joined_of}
use Rattle.run_keys.proofs.KeySetLaws.{Fits, fits_join}
use Rattle.plan_packed.specs.Format.{terms, mask_bit, fields_from}
use Rattle.plan_packed.specs.Trees.{node_at, program_of}
use Rattle.log_records.specs.Record.{entry}
use Rattle.log_records.specs.Record as records
use Rattle.rules.specs.Queue.{awake}
use Rattle.rules.specs.State.{fresh_object, change_at}
use Rattle.rules.specs.Rules.{e_new, e_join}
use Rattle.rules.specs.Step.{for_join, not_thread}
use Rattle.rules.proofs.StateLaws.{inside, length_added, found_thread}
use Rattle.rules.proofs.Relocated.{relocated_same}
use Rattle.machine.specs.Inner.Frames as frames
use Rattle.machine.specs.Inner.Refocusing.{enter, up}
use Rattle.machine.specs.Inner.Refocusing as refocus
use Rattle.machine.specs.Inner.Machine as machine
use Rattle.machine.specs.Inner.Playing.{table_of}
use Rattle.machine.specs.Inner.Playing as playing
use Rattle.machine.proofs.Sorted.{Well}
use Rattle.machine.proofs.Standing.{standing}
use Rattle.run_frames.specs.Inner.RedexKinds.{RedexKind as redex}
use Rattle.run_frames.specs.Inner.Going.{ready_of, go_value}
use Rattle.run_state.specs.declared.Head.{Head}
use Rattle.run_state.specs.declared.Object.{Object}
use Rattle.run_state.specs.declared.Counts.{Counts}
use Rattle.run_outcome.specs.declared.NoRoom.TheVariants as room
use Rattle.run_state.specs.declared.acted.Act.TheVariants as act
use Rattle.run_look.specs.declared.Block.TheVariants as block
use Rattle.run_look.specs.declared.Sight.{Sight}
use Rattle.run_look.specs.declared.Sight.TheVariants as sight
use Rattle.run_look.specs.Inner.Look.{object_by, field_by, look_join}
use Rattle.run_state.specs.Inner.Acted.{entry_of, nothing, counts_of, heard_of}
use Rattle.run_objects.specs.Inner.Objects.{act_new, act_fork, act_join}
use Rattle.run_queue.specs.Inner.Queue.{after_of}
use Rattle.run_engine.specs.Inner.Engine as engine
use Rattle.run_pick.specs.Inner.Pick.{no_head}
use Rattle.run_engine.specs.Inner.Engine.{no_cell, no_object, head_at}
use Rattle.refinement.proofs.Meant.{closed, IsExpression}
use Rattle.refinement.proofs.States.{setting_of, number_of, Kept}
use Rattle.refinement.proofs.Tests.{test_true, test_false}
use Rattle.refinement.proofs.ThreadNumbers.{Strange, strange_number, added_number, other_number_lem}
use Rattle.refinement.proofs.KeptLaws.{kept_changed, kept_past, kept_object, kept_same, no_fields, no_bit}
use Rattle.refinement.proofs.Looks.{Written, MeetsBy, ready_there}
use Rattle.refinement.proofs.Moves.{Mover, Acts, mover_in}
use Rattle.refinement.proofs.Moving.{head_for, total, unlearnt, gained, same_total, joined, joined_new, moved, few_threads, object_there, written}
use Rattle.refinement.proofs.Moving.{attempts}
use Rattle.refinement.proofs.Ended.{join_by, Ends, ends}
use Rattle.refinement.proofs.ChangeLaws.{change_agree, change_before}

module _ {b : List ℕ} {m : engine.EngineState} {s : machine.State} {p : ℕ} (mover : Mover b m s p) where
  open m use {cells as cs, objects as ts, heads as l}
  open mover use {thread as t, there, small, reached as reach}
  open mover.related use {kept as k, each}
  open mover.headed use {stack as S, keys as known, keys_fit as fits}

  abbrev n : Counts
  n = m.tally.counts

  abbrev ks : KeySet
  ks = (head_at m.heads p).keys

  -- no thread has the next object for its own
  strange : Strange s.threads n.objects
  strange q u h e =
      let z = (standing (table_of b) (program_of b) s q u reach h).self_there in
      let c = k.objects_count in
      omega arith

  -- E-NEW
  pub new_meets : (a b' w environment i : ℕ) → Well S → eqb (mask_bit a 0) 1 ≡ false → t.expression ≡ frames.Found.here S (frames.Ready.new (fields_from a 0 32))
      → MeetsBy sight.Ready p (ready_of redex.New a b' w environment) (machine.attempt (table_of b) s p)
      (Acts mover (ready_of redex.New a b' w environment) i (act_new n (head_for m p (ready_of redex.New a b' w environment)) (get_or cs i no_cell) a))
  unfolding act_new machine.act machine.around machine.add_object playing.no_room_before refocus.go table_of
  new_meets a b' w environment i well out code = by (leb 32 n.objects) refl
    where
      count : n.objects ≡ length s.objects
      count = k.objects_count

      kept : n.objects < 32
          → Kept (setting_of b) (set cs i (get_or cs i no_cell)) (set ts n.objects (record { mask = a; thread = 8 }))
          (counts_of n.threads (n.objects + 1) n.keys) (machine.add_object s (fresh_object (fields_from a 0 32)))
      kept h =
          kept_object (kept_same k i) (record { mask = a; thread = 8 }) s.threads n.threads h out k.threads_count (λ o l. refl)
          (ap number_of (sym (strange_number s.threads 0 n.objects strange)))

      acted : machine.attempt (table_of b) s p ≡ machine.around (table_of b) p S (machine.act (table_of b) s p t (frames.Ready.new (fields_from a 0 32)))
      acted = attempts mover (frames.Ready.new (fields_from a 0 32)) code refl

      by : (x : Bool) → leb 32 n.objects ≡ x
          → (v : machine.Move) × (machine.attempt (table_of b) s p ≡ machine.moves v)
          × Acts mover (ready_of redex.New a b' w environment) i (cond x
          (act.NoRoom room.Object)
          (act.Done (record {
            go = go_value n.objects;
            keys = ks;
            cell = get_or cs i no_cell;
            object = record { mask = a; thread = 8 };
            counts = counts_of n.threads (n.objects + 1) n.keys;
            entry = entry_of (records.kind_number records.Kind.new) n.objects 0 0;
            new = 0;
          }))) v
      by true e = (_, acted, test_true (leb 32 (length s.objects)) _ _ (ap (leb 32) (sym count) ∙ e))
      by false e =
          let h : n.objects < 32 = leb-false 32 n.objects e in (
            _,
            acted,
            moved mover _ i e_new (some (entry records.Kind.new p (length s.objects) 0 0)) (machine.add_object s (fresh_object (fields_from a 0 32)))
                (up (node_at b) (terms b) S (length s.objects)) (go_value n.objects)
                (counts_of n.threads (n.objects + 1) n.keys) ks 0 (get_or cs i no_cell) (record { mask = a; thread = 8 })
                (entry_of (records.kind_number records.Kind.new) n.objects 0 0)
                (test_false (leb 32 (length s.objects)) _ _ (ap (leb 32) (sym count) ∙ e))
                (along (λ (o : ℕ). Written p (entry_of (records.kind_number records.Kind.new) n.objects 0 0) (entry records.Kind.new p o 0 0)) count
                (written mover records.Kind.new n.objects 0 0 h (omega arith) (omega arith)))
                refl refl (well, h, ap (up (node_at b) (terms b) S) (sym count)) fits (unlearnt mover) (kept h),
          )

  -- E-FORK
  pub fork_meets : (u b' w environment i : ℕ) → Well S → IsExpression b u → t.expression ≡ frames.Found.here S (frames.Ready.fork (closed u environment))
      → MeetsBy sight.Ready p (ready_of redex.Fork u b' w environment) (machine.attempt (table_of b) s p)
      (Acts mover (ready_of redex.Fork u b' w environment) i (act_fork n (head_for m p (ready_of redex.Fork u b' w environment)) (get_or cs i no_cell)))
  unfolding after_of act_fork machine.act machine.around machine.add_object machine.add_thread machine.become playing.no_room_before refocus.go table_of
  fork_meets u b' w environment i well hu code = by (leb 8 n.threads) (leb 32 n.objects) refl refl
    where
      count : n.objects ≡ length s.objects
      count = k.objects_count

      count_threads : n.threads ≡ length s.threads
      count_threads = k.threads_count

      y : machine.Thread
      y = record { self = length s.objects; expression = enter (node_at b) (terms b) [] (closed u environment); keys = t.keys; learnt = 0; place = awake }

      x : Object
      x = record { mask = 0; thread = n.threads }

      s' : machine.State
      s' = machine.add_thread (machine.add_object s (fresh_object [])) y

      F : frames.Found
      F = up (node_at b) (terms b) S (length s.objects)

      n' : Counts
      n' = counts_of (n.threads + 1) (n.objects + 1) n.keys

      threads_after : (machine.become s' p F).threads ≡ change_at s.threads p (mover_in F (keys_of ks) (total mover 0)) ++ (y ∷ [])
      threads_after =
          change_before s.threads y p _ (inside s.threads p t there)
          ∙ ap (λ (xs : List machine.Thread). xs ++ (y ∷ [])) (change_agree s.threads p _ (mover_in F (keys_of ks) (total mover 0)) t there
          (ap₂ (λ (K : Keys) (l : ℕ). mover_in F K l t) (sym known) (let e = same_total mover in omega arith)))

      kept : n.objects < 32 → Kept (setting_of b) (set cs i (get_or cs i no_cell)) (set ts n.objects x) n' s'
      kept h =
          along (λ (fs : List ℕ). Kept (setting_of b) (set cs i (get_or cs i no_cell)) (set ts n.objects x) n'
          (machine.add_thread (machine.add_object s (fresh_object fs)) y))
          no_fields
          (kept_object (kept_same k i) x (s.threads ++ (y ∷ [])) (n.threads + 1) h no_bit (more s.threads y count_threads)
          (λ o l. other_number_lem s.threads y 0 o (λ e. omega arith))
          (let z = added_number s.threads y 0 n.objects (sym count) strange in omega arith))
        where
          more : (xs : List machine.Thread) (y : machine.Thread) → n.threads ≡ length xs → n.threads + 1 ≡ length (xs ++ (y ∷ []))
          more xs y e = let z = length_added xs y in omega arith

      acted : machine.attempt (table_of b) s p ≡ machine.around (table_of b) p S (machine.act (table_of b) s p t (frames.Ready.fork (closed u environment)))
      acted = attempts mover (frames.Ready.fork (closed u environment)) code refl

      by : (x₁ x₂ : Bool) → leb 8 n.threads ≡ x₁ → leb 32 n.objects ≡ x₂
          → (v : machine.Move) × (machine.attempt (table_of b) s p ≡ machine.moves v)
          × Acts mover (ready_of redex.Fork u b' w environment) i (cond x₁
          (act.NoRoom room.Thread)
          (cond x₂
          (act.NoRoom room.Object)
          (act.Done (record {
            go = go_value n.objects;
            keys = ks;
            cell = get_or cs i no_cell;
            object = x;
            counts = n';
            entry = entry_of (records.kind_number records.Kind.fork) n.objects n.threads 0;
            new = 0;
          })))) v
      by true x₂ e₁ e₂ = (_, acted, test_true (leb 8 (length s.threads)) _ _ (ap (leb 8) (sym count_threads) ∙ e₁))
      by false true e₁ e₂ = (
        _,
        acted,
        test_false (leb 8 (length s.threads)) _ _ (ap (leb 8) (sym count_threads) ∙ e₁)
            ∙ test_true (leb 32 (length s.objects)) _ _ (ap (leb 32) (sym count) ∙ e₂),
      )
      by false false e₁ e₂ =
          let h : n.objects < 32 = leb-false 32 n.objects e₂ in
          let g : n.threads < 8 = leb-false 8 n.threads e₁ in (
            _,
            acted,
            record {
              lacks = test_false (leb 8 (length s.threads)) _ _ (ap (leb 8) (sym count_threads) ∙ e₁)
                  ∙ test_false (leb 32 (length s.objects)) _ _ (ap (leb 32) (sym count) ∙ e₂);
              entered = record {
                kind = refl;
                thread = refl;
                object = count;
                field = count_threads;
                value = refl;
                thread_fits = small;
                object_fits = h;
                field_fits = omega arith;
                value_fits = omega arith;
              };
              expression = F;
              goes = (well, h, ap (up (node_at b) (terms b) S) (sym count));
              forked = some y;
              forked_by = (refl, g, count, known, refl, refl, (tt, hu, refl));
              placed = s.threads;
              relocated = relocated_same s.threads;
              places = mover.related.places;
              threads = threads_after;
              keys_fit = fits;
              kept = kept_changed (kept h) p _ (λ x. refl);
            },
          )

  -- E-JOIN
  pub join_meets : (o b' w environment i j : ℕ) → j ≡ o → Well S → o < 32 → t.expression ≡ frames.Found.here S (frames.Ready.join o)
      → MeetsBy (look_join (get_or ts j no_object) (get_or l ((get_or ts j no_object).thread % 16) no_head).ready.redex) p (ready_of redex.Join o b' w environment)
      (machine.attempt (table_of b) s p)
      (Acts mover (ready_of redex.Join o b' w environment) i
      (act_join n (head_for m p (ready_of redex.Join o b' w environment)) (get_or cs i no_cell) (get_or ts j no_object)
      (get_or l ((get_or ts j no_object).thread % 16) no_head) o))
  unfolding object_by field_by look_join machine.act machine.join_act machine.join_value machine.around machine.gain playing.no_room_before refocus.go table_of
  join_meets o b' w environment i j ej well ho code =
      by (machine.thread_of 0 s.threads o) refl
      (ap (λ (j : ℕ). (get_or ts j no_object).thread) ej ∙ k.numbers o (object_there mover o (ready_there b s p t reach there S (frames.Ready.join o) code)))
    where
      -- thread a, whose head is q, is joined: the look says w₁
      Sees : Sight → ℕ → Head → Type 0
      Sees w₁ a q =
          MeetsBy w₁ p (ready_of redex.Join o b' w environment) (machine.attempt (table_of b) s p)
          (Acts mover (ready_of redex.Join o b' w environment) i
          (heard_of (go_value q.ready.first) n (joined_of ks q.keys) (get_or cs i no_cell)
          (entry_of (records.kind_number records.Kind.join) o a q.ready.first)))

      Goal : ℕ → Head → Type 0
      Goal a q = Sees (cond (leb 8 a) (sight.Blocked block.Thread) (join_by q.ready.redex)) a q

      acted : (x : Option machine.Numbered) → machine.thread_of 0 s.threads o ≡ x
          → machine.attempt (table_of b) s p ≡ machine.around (table_of b) p S (machine.join_act s p o x)
      acted x e = attempts mover (frames.Ready.join o) code (ap (machine.join_act s p o) e)

      finish : (q : machine.Numbered) (h : Head) (w₁ : Sight) → machine.thread_of 0 s.threads o ≡ some q → q.number < 8
          → keys_of h.keys ≡ q.thread.keys → Fits h.keys → Ends h.ready.redex h.ready.first q.thread.expression → join_by h.ready.redex
          ≡ w₁
          → Sees w₁ q.number h
      finish q h w₁ e lt eq fit (inl (j, f, v)) e₁ =
          along (λ (w₁ : Sight). Sees w₁ q.number h) (sym j ∙ e₁) (
            _,
            acted (some q) e ∙ ap (λ (v : Option ℕ). machine.around (table_of b) p S (machine.join_value s p o q v)) f,
            moved mover _ i e_join (some (entry records.Kind.join p o q.number h.ready.first)) (machine.hear s p q.thread.keys)
                (up (node_at b) (terms b) S h.ready.first) (go_value h.ready.first) n
                (join_of ks h.keys) (new_of ks h.keys) (get_or cs i no_cell) nothing
                (entry_of (records.kind_number records.Kind.join) o q.number h.ready.first) refl
                (written mover records.Kind.join o q.number h.ready.first ho (omega arith) v) refl refl
                (well, v, refl) (fits_join fits fit)
                (gained mover q.thread.keys _ (count_new q.thread.keys) _ (ap (λ (K : Keys). union K t.keys) (sym eq)
                ∙ joined mover h.keys fit)
                (ap (λ (K : Keys). count_new K t.keys) (sym eq) ∙ joined_new mover h.keys fit))
                (kept_changed (kept_past (kept_same k i) nothing) p _ (λ x. refl)),
          )
      finish q h w₁ e lt eq fit (inr (j, f)) e₁ =
          along (λ (w₁ : Sight). Sees w₁ q.number h) (sym j ∙ e₁)
          (acted (some q) e
          ∙ ap (λ (v : Option ℕ). machine.around (table_of b) p S (machine.join_value s p o q v)) f
          ∙ ap (λ (o : ℕ). machine.waiting (for_join o)) (sym (mod-eq_of_lt ho)))

      by : (x : Option machine.Numbered) → machine.thread_of 0 s.threads o ≡ x → (get_or ts j no_object).thread ≡ number_of x
          → Goal (get_or ts j no_object).thread (get_or l ((get_or ts j no_object).thread % 16) no_head)
      by none e num =
          along (λ (a : ℕ). Goal a (get_or l (a % 16) no_head)) (sym num)
          (acted none e ∙ ap (λ (o : ℕ). machine.stuck (not_thread o)) (sym (mod-eq_of_lt ho)))
      by (some q) e num =
          let f = found_thread s.threads 0 o q e in
          let f₁ : q.number ≡ f.0 = omega (arith, f.1) in
          let at : get_elem? s.threads q.number ≡ some q.thread = ap (get_elem? s.threads) f₁ ∙ f.2 in
          let lt : q.number < 8 =
          (let z = inside s.threads q.number q.thread at in let y = few_threads mover in let c = k.threads_count in omega arith) in
          let H = each q.number q.thread at in
          along (λ (a : ℕ). Goal a (get_or l (a % 16) no_head)) (sym num)
          (along (λ (z : ℕ). Goal q.number (get_or l z no_head)) (sym (mod-eq_of_lt {m = 16} (omega arith)))
          (along (λ (x : Bool). Sees (cond x (sight.Blocked block.Thread) (join_by (head_at l q.number).ready.redex)) q.number (head_at l q.number))
          (sym (lt-leb 8 q.number lt))
          (finish q (head_at l q.number) _ e lt H.keys H.keys_fit (ends b (head_at l q.number).ready H.stack q.thread.expression H.stands)
          refl)))
