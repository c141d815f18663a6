-- What each part of a move does to the cells, objects and counts, it does to the state that they stand for. Assumes nothing.
use Prim.Native.Nat.{ℕ, suc, ◌+◌, ◌*◌, ◌<◌}
use native.Mathlib.Omega.{arith}
use native.Mathlib.Decide.{ℕ_discrete}
use mathlib.Core.Path.{◌≡◌, refl, sym, ap, ap₂, ◌∙◌}
use mathlib.Core.Bool.{Bool, true, false, cond, ◌&&◌, and-eq-true_iff}
use mathlib.Core.List.{List, [], ◌∷◌, ◌++◌, map}
use lib.Dec.{eqb, ltb}
use lib.ListN.{length, get_or, set, length-set, length-map}
use lib.Seq.{get_or-set_same, get_or-set_other, set-get_or}
use borrow.Author.Tests.{ltb-true}
use Rattle.plan_packed.specs.Format.{mask_bit, fields_from}
use Rattle.rules.specs.State.{fresh, fresh_object, change_at, store_field}
use Rattle.rules.specs.State as rules
use Rattle.rules.proofs.StateLaws.{change_length, length_added}
use Rattle.machine.specs.Inner.Memory.{objects_of, store_cell}
use Rattle.machine.specs.Inner.Machine as machine
use Rattle.machine.proofs.MemoryLaws.{store_of, store_monitor_of, add_of, FreshPast}
use Rattle.run_state.specs.declared.Setting.{Setting}
use Rattle.run_state.specs.declared.Cell.{Cell}
use Rattle.run_state.specs.declared.Object.{Object}
use Rattle.run_state.specs.declared.Counts.{Counts}
use Rattle.run_look.specs.Inner.Look.{has_of}
use Rattle.run_engine.specs.Inner.Engine.{no_cell, no_object}
use Rattle.refinement.proofs.States.{cell_meant, CellFits, memory_of, number_of, Kept}
use Rattle.refinement.proofs.MemoryOf.{fresh_meant, memory_store, memory_past, memory_more}
use Rattle.refinement.proofs.ThreadNumbers.{numbers_change, numbers_map}

past_fresh : {setting : Setting} {cs : List Cell} {ts : List Object} {n : Counts} {s : machine.State} → Kept setting cs ts n s
    → FreshPast (memory_of setting cs ts n.objects)
unfolding memory_of
past_fresh {setting} {cs} {ts} {n} {s} k a f h = at (ltb a 32 && ltb f 32) refl
  where
    at : (x : Bool) → (ltb a 32 && ltb f 32) ≡ x → cond x (cell_meant (has_of setting.mask f) (get_or cs (a * 32 + f) no_cell)) fresh ≡ fresh
    at true e =
        let l = (and-eq-true_iff (ltb a 32) (ltb f 32)).0 e in
        let i = ltb-true a 32 l.0 in
        let j = ltb-true f 32 l.1 in
        ap (cell_meant (has_of setting.mask f)) (k.fresh_past (a * 32 + f) (omega arith) (omega arith)) ∙ fresh_meant (has_of setting.mask f)
    at false e = refl

module _ {setting : Setting} {cs : List Cell} {ts : List Object} {n : Counts} {s : machine.State} (k : Kept setting cs ts n s) where
  -- a thread changes, and keeps its object
  pub kept_changed : (p : ℕ) (h : machine.Thread → machine.Thread) → ((x : machine.Thread) → (h x).self ≡ x.self)
      → Kept setting cs ts n (record { objects = s.objects; threads = change_at s.threads p h; next_key = s.next_key })
  kept_changed p h same = record {
    cells_size = k.cells_size;
    objects_size = k.objects_size;
    threads_count = k.threads_count ∙ sym (change_length s.threads p h);
    objects_count = k.objects_count;
    keys_count = k.keys_count;
    objects = k.objects;
    cells_fit = k.cells_fit;
    fresh_past = k.fresh_past;
    numbers = λ o l. k.numbers o l ∙ sym (numbers_change s.threads 0 p h same o);
  }

  -- every thread changes, and keeps its object
  pub kept_mapped : (h : machine.Thread → machine.Thread) → ((x : machine.Thread) → (h x).self ≡ x.self)
      → Kept setting cs ts n (record { objects = s.objects; threads = map h s.threads; next_key = s.next_key })
  kept_mapped h same = record {
    cells_size = k.cells_size;
    objects_size = k.objects_size;
    threads_count = k.threads_count ∙ sym (length-map s.threads h);
    objects_count = k.objects_count;
    keys_count = k.keys_count;
    objects = k.objects;
    cells_fit = k.cells_fit;
    fresh_past = k.fresh_past;
    numbers = λ o l. k.numbers o l ∙ sym (numbers_map s.threads 0 h same o);
  }

  -- the object past the last is set, and does not count
  pub kept_past : (x : Object) → Kept setting cs (set ts n.objects x) n s
  kept_past x = record {
    cells_size = k.cells_size;
    objects_size = length-set ts n.objects x ∙ k.objects_size;
    threads_count = k.threads_count;
    objects_count = k.objects_count;
    keys_count = k.keys_count;
    objects = k.objects ∙ ap objects_of (sym (memory_past setting cs ts n.objects x));
    cells_fit = k.cells_fit;
    fresh_past = k.fresh_past;
    numbers = λ o l. ap (λ (t : Object). t.thread) (get_or-set_other ts n.objects o x no_object (λ e. omega arith)) ∙ k.numbers o l;
  }

  -- a key is used
  pub kept_key : Kept setting cs ts (record { threads = n.threads; objects = n.objects; keys = n.keys + 1 }) (machine.use_key s)
  unfolding machine.use_key
  kept_key = record {
    cells_size = k.cells_size;
    objects_size = k.objects_size;
    threads_count = k.threads_count;
    objects_count = k.objects_count;
    keys_count = let e = k.keys_count in omega arith;
    objects = k.objects;
    cells_fit = k.cells_fit;
    fresh_past = k.fresh_past;
    numbers = k.numbers;
  }

  -- a cell is stored to, and so is its object
  kept_cell : (o f : ℕ) (c : Cell) (l : List rules.Object) → o < n.objects → o < 32 → f < 32 → CellFits c
      → l ≡ objects_of (store_cell (memory_of setting cs ts n.objects) o f (cell_meant (has_of setting.mask f) c)) → length l ≡ length s.objects
      → Kept setting (set cs (o * 32 + f) c) ts n (record { objects = l; threads = s.threads; next_key = s.next_key })
  kept_cell o f c l i p q z e len = record {
    cells_size = length-set cs (o * 32 + f) c ∙ k.cells_size;
    objects_size = k.objects_size;
    threads_count = k.threads_count;
    objects_count = k.objects_count ∙ sym len;
    keys_count = k.keys_count;
    objects = e ∙ ap objects_of (sym (memory_store setting cs ts n.objects o f c k.cells_size p q));
    cells_fit = λ j. fit j (ℕ_discrete j (o * 32 + f));
    fresh_past = λ j x y. get_or-set_other cs (o * 32 + f) j c no_cell (λ e. omega arith) ∙ k.fresh_past j x y;
    numbers = k.numbers;
  }
    where
      fit : (j : ℕ) → Dec (j ≡ o * 32 + f) → CellFits (get_or (set cs (o * 32 + f) c) j no_cell)
      fit j (yes e) = rw (e, get_or-set_same cs (o * 32 + f) c no_cell (let y = k.cells_size in omega arith)) z
      fit j (no e) = rw (get_or-set_other cs (o * 32 + f) j c no_cell e) (k.cells_fit j)

  pub kept_store : (o f : ℕ) (c : Cell) → o < n.objects → o < 32 → 0 < f → f < 32 → CellFits c
      → Kept setting (set cs (o * 32 + f) c) ts n (machine.store s o f (cell_meant (has_of setting.mask f) c))
  unfolding machine.store
  kept_store o f c i p z q fit =
      kept_cell o f c _ i p q fit
      (ap (λ (l : List rules.Object). change_at l o
      (λ x. record { monitor = x.monitor; fields = store_field x.fields f (cell_meant (has_of setting.mask f) c) })) k.objects
      ∙ sym (store_of (memory_of setting cs ts n.objects) o f (cell_meant (has_of setting.mask f) c) z))
      (change_length s.objects o _)

  pub kept_monitor : (o : ℕ) (c : Cell) → has_of setting.mask 0 ≡ true → o < n.objects → o < 32 → CellFits c
      → Kept setting (set cs (o * 32 + 0) c) ts n (machine.store_monitor s o (cell_meant true c))
  unfolding machine.store_monitor
  kept_monitor o c v i p fit =
      kept_cell o 0 c _ i p (omega arith) fit
      (ap₂ (λ (l : List rules.Object) (d : rules.Cell). change_at l o (λ x. record { monitor = d; fields = x.fields })) k.objects
      (ap (λ (x : Bool). cell_meant x c) (sym v))
      ∙ sym (store_monitor_of (memory_of setting cs ts n.objects) o (cell_meant (has_of setting.mask 0) c)))
      (change_length s.objects o _)

  -- a new object, with whatever threads
  pub kept_object : (x : Object) (xs : List machine.Thread) (t : ℕ) → n.objects < 32 → eqb (mask_bit x.mask 0) 1 ≡ false
      → t ≡ length xs → ((o : ℕ) → o < n.objects → number_of (machine.thread_of 0 xs o) ≡ number_of (machine.thread_of 0 s.threads o))
      → x.thread ≡ number_of (machine.thread_of 0 xs n.objects)
      → Kept setting cs (set ts n.objects x) (record { threads = t; objects = n.objects + 1; keys = n.keys })
      (record { objects = s.objects ++ (fresh_object (fields_from x.mask 0 32) ∷ []); threads = xs; next_key = s.next_key })
  kept_object x xs t room zero-out count old new = record {
    cells_size = k.cells_size;
    objects_size = length-set ts n.objects x ∙ k.objects_size;
    threads_count = count;
    objects_count = let e = k.objects_count in let l = length_added s.objects (fresh_object (fields_from x.mask 0 32)) in omega arith;
    keys_count = k.keys_count;
    objects =
        ap (λ (l : List rules.Object). l ++ (fresh_object (fields_from x.mask 0 32) ∷ [])) k.objects
        ∙ sym (add_of (memory_of setting cs ts n.objects) x.mask (past_fresh k) zero-out)
        ∙ ap objects_of (sym (memory_more setting cs ts n.objects x (let e = k.objects_size in omega arith)))
        ∙ ap (λ (a : ℕ). objects_of (memory_of setting cs (set ts n.objects x) a)) next;
    cells_fit = k.cells_fit;
    fresh_past = λ i p q. k.fresh_past i (omega arith) q;
    numbers = λ o l. at o l (ℕ_discrete o n.objects);
  }
    where
      next : suc n.objects ≡ n.objects + 1
      next = omega arith

      at : (o : ℕ) → o < n.objects + 1 → Dec (o ≡ n.objects) → (get_or (set ts n.objects x) o no_object).thread ≡ number_of (machine.thread_of 0 xs o)
      at o l (yes e) =
          rw e (ap (λ (t : Object). t.thread) (get_or-set_same ts n.objects x no_object (let e = k.objects_size in omega arith)) ∙ new)
      at o l (no e) =
          let i : o < n.objects = omega (arith, e) in
          ap (λ (t : Object). t.thread) (get_or-set_other ts n.objects o x no_object e) ∙ k.numbers o i ∙ sym (old o i)

  -- a cell is stored to as it is
  pub kept_same : (i : ℕ) → Kept setting (set cs i (get_or cs i no_cell)) ts n s
  kept_same i = rw (set-get_or cs i no_cell) k

-- a mask of no fields
pub no_fields : fields_from 0 0 32 ≡ []
unfolding fields_from
no_fields = refl

pub no_bit : eqb (mask_bit 0 0) 1 ≡ false
unfolding mask_bit
no_bit = refl
