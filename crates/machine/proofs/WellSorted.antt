-- Every move keeps the frames of the machine's threads well sorted. Assumes nothing.
use Prim.Native.Nat.{ℕ, zero, suc}
use mathlib.Core.Bool.{Bool, true, false, cond}
use mathlib.Core.List.{List, [], ◌∷◌, ◌++◌, map}
use mathlib.Core.Option.{Option, some, none}
use lib.Dec.{eqb}
use lib.ListN.{get_elem?, drop}
use Rattle.run_keys.specs.Keys.{Keys, empty, singleton, subset, is_empty}
use Rattle.plan_packed.specs.Syntax.{Signal}
use Rattle.rules.specs.Queue.{moved_up}
use Rattle.rules.specs.Rules.{passed_on}
use Rattle.rules.specs.State.{Cell, cell, change_at, field_of}
use Rattle.machine.specs.Inner.Frames.{Closure, Frame, Ready, Readyᶜ, Found}
use Rattle.machine.specs.Inner.Refocusing.{go}
use Rattle.machine.specs.Inner.Machine.{Thread, State, Numbered, Table, Act, waits, sticks, lacks, does, Attempt, absent, finished, waiting, stuck}
use Rattle.machine.specs.Inner.Machine.{lacking}
use Rattle.machine.specs.Inner.Machine.{moves, store, store_monitor, use_key, gain, become, in_place, enqueue, signalled, monitor, thread_of, finished_with}
use Rattle.machine.specs.Inner.Machine.{join_value, join_act, synch_act, signal_move, signal_act, wake_act, read_act, write_act, act, actᶜ, around, attempt_at}
use Rattle.machine.specs.Inner.Machine.{attempt_by, attempt}
use Rattle.machine.proofs.Sorted.{Well, Wellᶜ, WellFound, go_well, enter_well, enter_wellᶜ, up_wellᶜ}

abbrev pub WellAll : List Thread → Type 0
WellAll [] = Unit {0}
WellAll (t ∷ ts) = WellFound t.expression × WellAll ts

abbrev pub WellAt : Option Thread → Type 0
WellAt none = Unit {0}
WellAt (some t) = WellFound t.expression

pub well_at : (xs : List Thread) (p : ℕ) → WellAll xs → WellAt (get_elem? xs p)
well_at [] p w = tt
well_at (x ∷ xs) zero w = w.0
well_at (x ∷ xs) (suc p) w = well_at xs p w.1

pub well_drop : (n : ℕ) (xs : List Thread) → WellAll xs → WellAll (drop n xs)
well_drop zero xs w = w
well_drop (suc n) [] w = tt
well_drop (suc n) (x ∷ xs) w = well_drop n xs w.1

well_change : (xs : List Thread) (p : ℕ) (k : Thread → Thread) → ((x : Thread) → WellFound x.expression → WellFound (k x).expression) → WellAll xs
    → WellAll (change_at xs p k)
unfolding change_at
well_change [] p k q w = tt
well_change (x ∷ xs) zero k q w = (q x w.0, w.1)
well_change (x ∷ xs) (suc p) k q w = (w.0, well_change xs p k q w.1)

well_added : (xs : List Thread) (x : Thread) → WellAll xs → WellFound x.expression → WellAll (xs ++ (x ∷ []))
well_added [] x w v = (v, tt)
well_added (y ∷ xs) x w v = (w.0, well_added xs x w.1 v)

gain_well : (s : State) (p : ℕ) (W : Keys) (n : Keys → ℕ) → WellAll s.threads → WellAll (gain s p W n).threads
unfolding gain
gain_well s p W n w = well_change s.threads p _ (λ x v. v) w

become_well : (s : State) (p : ℕ) (F : Found) → WellAll s.threads → WellFound F → WellAll (become s p F).threads
unfolding become
become_well s p F w v = well_change s.threads p _ (λ x u. v) w

enqueue_well : (s : State) (p o : ℕ) → WellAll s.threads → WellAll (enqueue s p o).threads
unfolding enqueue
enqueue_well s p o w = well_change s.threads p _ (λ x v. v) w

moved_well : (h : ℕ → ℕ) (o : ℕ) (xs : List Thread) → WellAll xs
    → WellAll (map (λ (x : Thread). in_place (moved_up h o x.place) x) xs)
moved_well h o [] w = tt
moved_well h o (x ∷ xs) w = (w.0, moved_well h o xs w.1)

signalled_well : (h : ℕ → ℕ) (s : State) (o : ℕ) → WellAll s.threads → WellAll (signalled h s o).threads
unfolding signalled
signalled_well h s o w = moved_well h o s.threads w

-- ---- what is ready

abbrev WellAct : Act → Type 0
WellAct (waits w) = Unit {0}
WellAct (sticks r) = Unit {0}
WellAct (lacks r) = Unit {0}
WellAct (does R r s x) = WellAll s.threads

cond_well : (b : Bool) (x y : Act) → WellAct x → WellAct y → WellAct (cond b x y)
cond_well true x y p q = p
cond_well false x y p q = q

join_value_well : (s : State) (p o : ℕ) (q : Numbered) (v : Option ℕ) → WellAll s.threads → WellAct (join_value s p o q v)
unfolding join_value
join_value_well s p o q none w = tt
join_value_well s p o q (some v) w = gain_well s p q.thread.keys _ w

join_well : (s : State) (p o : ℕ) (q : Option Numbered) → WellAll s.threads → WellAct (join_act s p o q)
unfolding join_act
join_well s p o none w = tt
join_well s p o (some q) w = join_value_well s p o q (finished_with q.thread.expression) w

synch_well : (s : State) (p : ℕ) (t : Thread) (o : ℕ) (x : Closure) (c : Cell) → WellAll s.threads → WellAct (synch_act s p t o x c)
unfolding synch_act
synch_well s p t o x c w =
    cond_well (is_empty c.keys) _ _ (cond_well (eqb c.value t.self) _ _ w tt) (gain_well (store_monitor s o (cell empty t.self)) p c.keys _ w)

move_well : (s : State) (p : ℕ) (t : Thread) (o : ℕ) (k : Signal) → WellAll s.threads → WellAct (signal_move s p t o k)
unfolding signal_move
move_well s p t o Signal.wait w = enqueue_well (store_monitor s o (cell t.keys 0)) p o w
move_well s p t o Signal.notify w = signalled_well _ s o w
move_well s p t o Signal.notify_all w = signalled_well _ s o w

signal_well : (s : State) (p : ℕ) (t : Thread) (k : Signal) (o : ℕ) (c : Cell) → WellAll s.threads → WellAct (signal_act s p t k o c)
unfolding signal_act
signal_well s p t k o c w = cond_well (is_empty c.keys) _ _ (cond_well (eqb c.value t.self) _ _ (move_well s p t o k w) tt) tt

wake_well : (s : State) (p : ℕ) (t : Thread) (o n : ℕ) (c : Cell) → WellAll s.threads → WellAct (wake_act s p t o n c)
unfolding wake_act
wake_well s p t o zero c w = cond_well (is_empty c.keys) _ _ tt (gain_well (store_monitor s o (cell empty t.self)) p c.keys _ w)
wake_well s p t o (suc n) c w = tt

module _ (table : Table) where
  read_well : (s : State) (p : ℕ) (t : Thread) (o f : ℕ) (c : Option Cell) → WellAll s.threads → WellAct (read_act table s p t o f c)
  unfolding read_act
  read_well s p t o f none w = tt
  read_well s p t o f (some c) w =
      cond_well (table.is_volatile f) _ _ (gain_well s p (passed_on table.version c.keys) _ w) (cond_well (subset c.keys t.keys) _ _ w tt)

  write_well : (s : State) (p : ℕ) (t : Thread) (o f v : ℕ) (c : Option Cell) → WellAll s.threads → WellAct (write_act table s p t o f v c)
  unfolding write_act
  write_well s p t o f v none w = tt
  write_well s p t o f v (some c) w =
      cond_well (table.is_volatile f) _ _ w
      (cond_well (subset c.keys t.keys) _ _ (gain_well (store (use_key s) o f (cell (singleton s.next_key) v)) p (singleton s.next_key) _ w) tt)

  act_well : (s : State) (p : ℕ) (t : Thread) (r : Ready) → WellAll s.threads → WellAct (act table s p t r)
  unfolding act
  act_well s p t (Ready.new fs) w = w
  act_well s p t (Ready.read o f) w = read_well s p t o f (field_of (get_elem? s.objects o) f) w
  act_well s p t (Ready.write o f v) w = write_well s p t o f v (field_of (get_elem? s.objects o) f) w
  act_well s p t (Ready.let_in x o y) w = w
  act_well s p t (Ready.if b x) w = w
  act_well s p t (Ready.while x) w = w
  act_well s p t (Ready.call m n σ) w = w
  act_well s p t (Ready.fork x) w = well_added s.threads _ w (enter_well table.node table.count [] x tt)
  act_well s p t (Ready.join o) w = join_well s p o (thread_of 0 s.threads o) w
  act_well s p t (Ready.synch o x) w = synch_well s p t o x (monitor s o) w
  act_well s p t (Ready.hold o v) w = w
  act_well s p t (Ready.signal k o) w = signal_well s p t k o (monitor s o) w
  act_well s p t (Ready.waiting o) w = wake_well s p t o t.place.number (monitor s o) w
  act_well s p t (Ready.while_test b x) w = w
  act_well s p t (Ready.while_body o x) w = w

  code_well : (S : List Frame) (r : Readyᶜ) → Wellᶜ S → WellFound (actᶜ table S r).expression
  unfolding actᶜ
  code_well S Readyᶜ.not_false w = up_wellᶜ table.node table.count S true w
  code_well S (Readyᶜ.and true x) w = enter_wellᶜ table.node table.count S x w
  code_well S (Readyᶜ.and false x) w = up_wellᶜ table.node table.count S false w
  code_well S (Readyᶜ.equal o o') w = up_wellᶜ table.node table.count S (eqb o o') w

  -- ---- a thread

  abbrev pub WellAttempt : Attempt → Type 0
  WellAttempt absent = Unit {0}
  WellAttempt (finished v) = Unit {0}
  WellAttempt (waiting w) = Unit {0}
  WellAttempt (stuck r) = Unit {0}
  WellAttempt (lacking r) = Unit {0}
  WellAttempt (moves m) = WellAll m.state.threads

  around_well : (p : ℕ) (S : List Frame) (a : Act) → Well S → WellAct a → WellAttempt (around table p S a)
  unfolding around
  around_well p S (waits w) v u = tt
  around_well p S (sticks r) v u = tt
  around_well p S (lacks r) v u = tt
  around_well p S (does R r s x) v u = become_well s p (go table.node table.count S x) u (go_well table.node table.count S x v)

  attempt_at_well : (s : State) (p : ℕ) (t : Thread) (F : Found) → WellAll s.threads → WellFound F → WellAttempt (attempt_at table s p t F)
  unfolding attempt_at
  attempt_at_well s p t (Found.value o) w v = tt
  attempt_at_well s p t (Found.here S r) w v = around_well p S (act table s p t r) v (act_well s p t r w)
  attempt_at_well s p t (Found.hereᶜ S r) w v = become_well s p (actᶜ table S r).expression w (code_well S r v)

  attempt_by_well : (s : State) (p : ℕ) (t : Option Thread) → WellAll s.threads → WellAt t → WellAttempt (attempt_by table s p t)
  unfolding attempt_by
  attempt_by_well s p none w v = tt
  attempt_by_well s p (some t) w v = attempt_at_well s p t t.expression w v

  pub attempt_well : (s : State) (p : ℕ) → WellAll s.threads → WellAttempt (attempt table s p)
  unfolding attempt
  attempt_well s p w = attempt_by_well s p (get_elem? s.threads p) w (well_at s.threads p w)
