-- What the code does for a read or a write of a field is what the abstract machine's move does. Assumes nothing.
use Prim.Native.Nat.{ℕ, ◌+◌, ◌*◌, ◌%◌, ◌<◌}
use native.Mathlib.Nat.{mod-eq_of_lt}
use native.Mathlib.Omega.{arith}
use mathlib.Core.Path.{◌≡◌, refl, sym, ap, ap₂, ◌∙◌, subst as along}
use mathlib.Core.Bool.{Bool, true, false, cond}
use mathlib.Core.List.{List}
use mathlib.Core.Option.{some, none}
use lib.Dec.{eqb, leb}
use lib.ListN.{get_or, set}
use borrow.Author.Tests.{leb-false}
use Rattle.format.specs.Version.{v0, v1, version_of}
use Rattle.run_keys.specs.declared.KeySet.{KeySet}
use Rattle.run_keys.specs.Keys.{Keys, singleton, union, subset, count_new}
use Rattle.run_keys.specs.Inner.KeySet.{keys_of, empty_set, holds_of, learn_of, join_of, new_of, joined_of}
use Rattle.run_keys.proofs.KeySetLaws.{Fits, keys_empty, keys_join, keys_learn, fits_empty, fits_join, fits_learn}
use Rattle.plan_packed.specs.Format.{version, terms}
use Rattle.plan_packed.specs.Trees.{node_at, program_of}
use Rattle.log_records.specs.Record.{entry}
use Rattle.log_records.specs.Record as records
use Rattle.rules.specs.State as rules
use Rattle.rules.specs.Rules.{passed_on, e_read, e_write, e_readv, e_writev}
use Rattle.rules.specs.Step.{missing_field}
use Rattle.machine.specs.Inner.Frames as frames
use Rattle.machine.specs.Inner.Refocusing.{up}
use Rattle.machine.specs.Inner.Refocusing as refocus
use Rattle.machine.specs.Inner.Machine as machine
use Rattle.machine.specs.Inner.Playing.{table_of}
use Rattle.machine.specs.Inner.Playing as playing
use Rattle.machine.proofs.Sorted.{Well}
use Rattle.machine.proofs.Standing.{cell_there}
use Rattle.run_frames.specs.Inner.RedexKinds.{RedexKind as redex}
use Rattle.run_frames.specs.Inner.Going.{ready_of, go_value}
use Rattle.run_state.specs.declared.Cell.{Cell}
use Rattle.run_state.specs.declared.Counts.{Counts}
use Rattle.run_outcome.specs.declared.NoRoom.TheVariants as room
use Rattle.run_state.specs.declared.acted.Act.TheVariants as act
use Rattle.run_look.specs.declared.Block.TheVariants as block
use Rattle.run_look.specs.declared.Sight.TheVariants as sight
use Rattle.run_look.specs.Inner.Look.{object_by, field_by, has_of, look_field}
use Rattle.run_state.specs.Inner.Acted.{entry_of, nothing, cell_of, counts_of, acted_of, heard_of}
use Rattle.run_accesses.specs.Inner.Accesses.{passed_of, act_read, act_write}
use Rattle.run_pick.specs.Inner.Pick.{lack_by}
use Rattle.run_engine.specs.Inner.Engine as engine
use Rattle.run_engine.specs.Inner.Engine.{no_cell, no_object, head_at}
use Rattle.refinement.proofs.States.{setting_of, cell_meant, CellFits, Kept}
use Rattle.refinement.proofs.Tests.{test_true, test_false}
use Rattle.refinement.proofs.KeptLaws.{kept_changed, kept_past, kept_key, kept_store, kept_same}
use Rattle.refinement.proofs.Looks.{MeetsBy, volatile_bit, meant_value, lookup_cell, ready_there, one_key}
use Rattle.refinement.proofs.Moves.{Mover, Acts}
use Rattle.refinement.proofs.Moving.{head_for, unlearnt, gained, joined, joined_new, moved, object_there, written, attempts}

module _ {b : List ℕ} {m : engine.EngineState} {s : machine.State} {p : ℕ} (mover : Mover b m s p) where
  open m use {cells as cs, objects as ts}
  open mover use {thread as t, there, reached as reach}
  open mover.related use {kept as k}
  open mover.headed use {stack as S, keys as known, keys_fit as fits}

  abbrev n : Counts
  n = m.tally.counts

  abbrev ks : KeySet
  ks = (head_at m.heads p).keys

  -- what a volatile access passes on of a set
  passed_keys : (x : KeySet) → keys_of (passed_of (setting_of b) x) ≡ passed_on (table_of b).version (keys_of x)
  unfolding passed_of passed_on table_of version_of
  passed_keys x = by (eqb (version b) 1)
    where
      by : (y : Bool) → keys_of (cond y x empty_set) ≡ passed_on (cond y v1 v0) (keys_of x)
      by true = refl
      by false = keys_empty

  passed_fits : (x : KeySet) → Fits x → Fits (passed_of (setting_of b) x)
  unfolding passed_of
  passed_fits x f = by (eqb (version b) 1)
    where
      by : (y : Bool) → Fits (cond y x empty_set)
      by true = f
      by false = fits_empty

  -- the cell of a field, at place i, of an object, at place j
  field_found : (o f i j : ℕ) → i ≡ o * 32 + f → j ≡ o → o < n.objects → o < 32 → 0 < f → f < 32
      → machine.lookup s o f ≡ cond (has_of (get_or ts j no_object).mask f) (some (cell_meant (has_of (setting_of b).mask f) (get_or cs i no_cell))) none
  field_found o f i j ei ej o_there ho zf hf =
      lookup_cell k o f o_there ho zf hf
      ∙ ap₂ (λ (i j : ℕ). cond (has_of (get_or ts j no_object).mask f) (some (cell_meant (has_of (setting_of b).mask f) (get_or cs i no_cell))) none) (sym ei) (sym ej)

  -- E-READ, E-READV
  pub read_meets : (o f w environment i j : ℕ) → i ≡ o * 32 + f → j ≡ o → Well S → o < 32 → 0 < f → f < 32
      → t.expression ≡ frames.Found.here S (frames.Ready.read o f)
      → MeetsBy (look_field (setting_of b) (head_for m p (ready_of redex.Read o f w environment)) (get_or cs i no_cell) (get_or ts j no_object) f) p
      (ready_of redex.Read o f w environment) (machine.attempt (table_of b) s p)
      (Acts mover (ready_of redex.Read o f w environment) i (act_read (setting_of b) n (head_for m p (ready_of redex.Read o f w environment)) (get_or cs i no_cell) o
      f))
  unfolding object_by field_by lack_by look_field act_read machine.act machine.read_act machine.around machine.gain playing.no_room_before refocus.go table_of
  read_meets o f w environment i j ei ej well ho zf hf code =
      by (has_of (get_or ts j no_object).mask f) (has_of (setting_of b).mask f) (holds_of ks (c.key % 256)) (field_found o f i j ei ej o_there ho zf hf)
      (volatile_bit b f hf) (one_key c ks t.keys fit fits known)
    where
      c : Cell
      c = get_or cs i no_cell

      fit : CellFits c
      fit = k.cells_fit i

      o_there : o < n.objects
      o_there = object_there mover o (ready_there b s p t reach there S (frames.Ready.read o f) code).2

      -- what the thread learns
      heard : Keys
      heard = passed_on (table_of b).version (keys_of c.keys)

      value_fits : (y : Bool) → machine.lookup s o f ≡ some (cell_meant y c) → c.value < 32
      value_fits y e =
          let h = cell_there (table_of b) (program_of b) s reach o f (cell_meant y c) e in
          let q = meant_value y c in
          let z = reach.roomy.objects32 in
          omega arith

      by : (x y z : Bool) → machine.lookup s o f ≡ cond x (some (cell_meant y c)) none → (table_of b).is_volatile f ≡ y
          → subset (cell_meant false c).keys t.keys ≡ z
          → MeetsBy (cond x (cond y sight.Ready (cond z sight.Ready sight.Lacking)) (sight.Blocked block.Field)) p (ready_of redex.Read o f w environment)
          (machine.attempt (table_of b) s p)
          (Acts mover (ready_of redex.Read o f w environment) i (cond y
          (heard_of (go_value c.value) n (joined_of ks (passed_of (setting_of b) c.keys)) c (entry_of (records.kind_number records.Kind.readv) o f c.value))
          (acted_of (go_value c.value) n ks c (entry_of (records.kind_number records.Kind.read) o f c.value))))
      by false y z e v q =
          attempts mover (frames.Ready.read o f) code (ap (machine.read_act (table_of b) s p t o f) e)
          ∙ ap₂ (λ (o f : ℕ). machine.stuck (missing_field o f)) (sym (mod-eq_of_lt ho)) (sym (mod-eq_of_lt hf))
      by true true z e v q = (
        _,
        attempts mover (frames.Ready.read o f) code (ap (machine.read_act (table_of b) s p t o f) e ∙ test_true ((table_of b).is_volatile f) _ _ v),
        moved mover _ i e_readv (some (entry records.Kind.readv p o f c.value)) (machine.hear s p heard) (up (node_at b) (terms b) S c.value)
            (go_value c.value) n
            (join_of ks (passed_of (setting_of b) c.keys)) (new_of ks (passed_of (setting_of b) c.keys)) c nothing
            (entry_of (records.kind_number records.Kind.readv) o f c.value) refl
            (written mover records.Kind.readv o f c.value ho hf (value_fits true e)) refl refl
            (well, value_fits true e, refl) (fits_join fits (passed_fits c.keys fit.keys))
            (gained mover heard _ (count_new heard) _ (ap (λ (W : Keys). union W t.keys) (sym (passed_keys c.keys))
            ∙ joined mover (passed_of (setting_of b) c.keys) (passed_fits c.keys fit.keys))
            (ap (λ (W : Keys). count_new W t.keys) (sym (passed_keys c.keys))
            ∙ joined_new mover (passed_of (setting_of b) c.keys) (passed_fits c.keys fit.keys)))
            (kept_changed (kept_past (kept_same k i) nothing) p _ (λ x. refl)),
      )
      by true false true e v q = (
        _,
        attempts mover (frames.Ready.read o f) code
            (ap (machine.read_act (table_of b) s p t o f) e ∙ test_false ((table_of b).is_volatile f) _ _ v
            ∙ test_true (subset (cell_meant false c).keys t.keys) _ _ q),
        moved mover _ i e_read (some (entry records.Kind.read p o f c.value)) s (up (node_at b) (terms b) S c.value) (go_value c.value) n
            ks 0 c nothing (entry_of (records.kind_number records.Kind.read) o f c.value) refl
            (written mover records.Kind.read o f c.value ho hf (value_fits false e)) refl refl
            (well, value_fits false e, refl) fits (unlearnt mover) (kept_past (kept_same k i) nothing),
      )
      by true false false e v q = (
        _,
        attempts mover (frames.Ready.read o f) code
            (ap (machine.read_act (table_of b) s p t o f) e ∙ test_false ((table_of b).is_volatile f) _ _ v
            ∙ test_false (subset (cell_meant false c).keys t.keys) _ _ q),
        sym (mod-eq_of_lt ho),
        sym (mod-eq_of_lt hf),
        written mover records.Kind.lacks_read o f 0 ho hf (omega arith),
      )

  -- E-WRITE, E-WRITEV
  pub write_meets : (o f w environment i j : ℕ) → i ≡ o * 32 + f → j ≡ o → Well S → o < 32 → 0 < f → f < 32 → w < 32
      → t.expression ≡ frames.Found.here S (frames.Ready.write o f w)
      → MeetsBy (look_field (setting_of b) (head_for m p (ready_of redex.Write o f w environment)) (get_or cs i no_cell) (get_or ts j no_object) f) p
      (ready_of redex.Write o f w environment) (machine.attempt (table_of b) s p)
      (Acts mover (ready_of redex.Write o f w environment) i
      (act_write (setting_of b) n (head_for m p (ready_of redex.Write o f w environment)) (get_or cs i no_cell) o f w))
  unfolding object_by field_by lack_by look_field act_write machine.act machine.write_act machine.around machine.gain machine.store machine.use_key
      playing.no_room_before refocus.go table_of
  write_meets o f w environment i j ei ej well ho zf hf hw code =
      by (has_of (get_or ts j no_object).mask f) (has_of (setting_of b).mask f) (holds_of ks (c.key % 256)) (leb 256 n.keys)
      (field_found o f i j ei ej o_there ho zf hf) refl (volatile_bit b f hf) (one_key c ks t.keys fit fits known) refl
    where
      c : Cell
      c = get_or cs i no_cell

      fit : CellFits c
      fit = k.cells_fit i

      o_there : o < n.objects
      o_there = object_there mover o (ready_there b s p t reach there S (frames.Ready.write o f w) code).2

      -- the cell is stored to
      stored : {s₀ : machine.State} {n₀ : Counts} (y : Bool) (c' : Cell) (x : rules.Cell) → has_of (setting_of b).mask f ≡ y → cell_meant y c' ≡ x → CellFits c'
          → n₀.objects ≡ n.objects → Kept (setting_of b) cs ts n₀ s₀
          → Kept (setting_of b) (set cs i c') (set ts n.objects nothing) n₀ (machine.store s₀ o f x)
      stored {s₀} {n₀} y c' x v e fit' count k₀ =
          let z = kept_past (kept_store k₀ o f c' (omega (arith, o_there)) ho zf hf fit') nothing in
          let z₁ = along (λ (a : ℕ). Kept (setting_of b) (set cs (o * 32 + f) c') (set ts a nothing) n₀
          (machine.store s₀ o f (cell_meant (has_of (setting_of b).mask f) c'))) count z in
          let z₂ = along (λ (x : rules.Cell). Kept (setting_of b) (set cs (o * 32 + f) c') (set ts n.objects nothing) n₀ (machine.store s₀ o f x))
          (ap (λ (y : Bool). cell_meant y c') v ∙ e) z₁ in
          along (λ (a : ℕ). Kept (setting_of b) (set cs a c') (set ts n.objects nothing) n₀ (machine.store s₀ o f x)) (sym ei) z₂

      by : (x y z u : Bool) → machine.lookup s o f ≡ cond x (some (cell_meant y c)) none → has_of (setting_of b).mask f ≡ y → (table_of b).is_volatile f ≡ y
          → subset (cell_meant false c).keys t.keys ≡ z → leb 256 n.keys ≡ u
          → MeetsBy (cond x (cond y sight.Ready (cond z sight.Ready sight.Lacking)) (sight.Blocked block.Field)) p (ready_of redex.Write o f w environment)
          (machine.attempt (table_of b) s p)
          (Acts mover (ready_of redex.Write o f w environment) i (cond y
          (acted_of (go_value w) n ks (cell_of w 0 (join_of c.keys (passed_of (setting_of b) ks))) (entry_of (records.kind_number records.Kind.writev) o f w))
          (cond u
          (act.NoRoom room.Key)
          (acted_of (go_value w) (counts_of n.threads n.objects (n.keys + 1)) (learn_of ks n.keys) (cell_of w n.keys c.keys)
          (entry_of (records.kind_number records.Kind.write) o f w)))))
      by false y z u e g v q r =
          attempts mover (frames.Ready.write o f w) code (ap (machine.write_act (table_of b) s p t o f w) e)
          ∙ ap₂ (λ (o f : ℕ). machine.stuck (missing_field o f)) (sym (mod-eq_of_lt ho)) (sym (mod-eq_of_lt hf))
      by true true z u e g v q r = (
        _,
        attempts mover (frames.Ready.write o f w) code (ap (machine.write_act (table_of b) s p t o f w) e ∙ test_true ((table_of b).is_volatile f) _ _ v),
        moved mover _ i e_writev (some (entry records.Kind.writev p o f w))
            (machine.store s o f (rules.cell (union (keys_of c.keys) (passed_on (table_of b).version t.keys)) w)) (up (node_at b) (terms b) S w)
            (go_value w) n
            ks 0 (cell_of w 0 (join_of c.keys (passed_of (setting_of b) ks))) nothing (entry_of (records.kind_number records.Kind.writev) o f w) refl
            (written mover records.Kind.writev o f w ho hf hw) refl refl
            (well, hw, refl) fits (unlearnt mover)
            (stored true (cell_of w 0 (join_of c.keys (passed_of (setting_of b) ks))) _ g
            (ap₂ rules.cell (keys_join fit.keys (passed_fits ks fits)
            ∙ ap (union (keys_of c.keys)) (passed_keys ks ∙ ap (passed_on (table_of b).version) known)) (mod-eq_of_lt hw))
            (record { key = omega arith; keys = fits_join fit.keys (passed_fits ks fits) }) refl k),
      )
      by true false true true e g v q r = (
        _,
        attempts mover (frames.Ready.write o f w) code
            (ap (machine.write_act (table_of b) s p t o f w) e ∙ test_false ((table_of b).is_volatile f) _ _ v
            ∙ test_true (subset (cell_meant false c).keys t.keys) _ _ q),
        test_true (leb 256 s.next_key) _ _ (ap (leb 256) (sym k.keys_count) ∙ r),
      )
      by true false true false e g v q r =
          let room_left : n.keys < 256 = leb-false 256 n.keys r in (
            _,
            attempts mover (frames.Ready.write o f w) code
                (ap (machine.write_act (table_of b) s p t o f w) e ∙ test_false ((table_of b).is_volatile f) _ _ v
                ∙ test_true (subset (cell_meant false c).keys t.keys) _ _ q),
            moved mover _ i e_write (some (entry records.Kind.write p o f w))
                (machine.learn (machine.store (machine.use_key s) o f (rules.cell (singleton s.next_key) w)) p (singleton s.next_key))
                (up (node_at b) (terms b) S w) (go_value w) (counts_of n.threads n.objects (n.keys + 1))
                (learn_of ks n.keys) 0 (cell_of w n.keys c.keys) nothing (entry_of (records.kind_number records.Kind.write) o f w)
                (test_false (leb 256 s.next_key) _ _ (ap (leb 256) (sym k.keys_count) ∙ r)) (written mover records.Kind.write o f w ho hf hw) refl refl
                (well, hw, refl) (fits_learn n.keys fits)
                (gained mover (singleton s.next_key) _ (λ K. 0) 0
                (ap₂ (λ (a : ℕ) (K : Keys). union (singleton a) K) (sym k.keys_count) (sym known) ∙ sym (keys_learn n.keys room_left fits)) refl)
                (kept_changed
                (stored false (cell_of w n.keys c.keys) _ g (ap₂ (λ (a v : ℕ). rules.cell (singleton a) v) k.keys_count (mod-eq_of_lt hw))
                (record { key = room_left; keys = fit.keys }) refl (kept_key k))
                p _ (λ x. refl)),
          )
      by true false false u e g v q r = (
        _,
        attempts mover (frames.Ready.write o f w) code
            (ap (machine.write_act (table_of b) s p t o f w) e ∙ test_false ((table_of b).is_volatile f) _ _ v
            ∙ test_false (subset (cell_meant false c).keys t.keys) _ _ q),
        sym (mod-eq_of_lt ho),
        sym (mod-eq_of_lt hf),
        written mover records.Kind.lacks_write o f w ho hf hw,
      )
