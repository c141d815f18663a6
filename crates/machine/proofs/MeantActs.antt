-- What is ready does what the rules say of the redex that it stands for, unless they say that no rule applies. Assumes nothing.
use Prim.Native.Nat.{ℕ, zero, suc}
use mathlib.Core.Path.{◌≡◌, refl, sym, ap, ◌∙◌, subst as along}
use mathlib.Core.Bool.{Bool, true, false, cond}
use mathlib.Core.List.{[], ◌∷◌, ◌++◌, map, map-append}
use mathlib.Core.Option.{Option, some, none}
use lib.Dec.{T, eqb, ltb}
use lib.ListN.{length, get_elem?, length-map}
use borrow.Author.Tests.{eqb-true}
use Rattle.run_keys.specs.Keys.{Keys, subset, is_empty}
use Rattle.plan_packed.specs.Syntax.{Signal, Expression, Procedure, Program, bind_parameters, substitute}
use Rattle.plan_packed.specs.Slots.{closed}
use Rattle.plan_packed.proofs.TreeLaws.{tree}
use Rattle.rules.specs.Context.{plug}
use Rattle.rules.specs.Queue.{awake}
use Rattle.rules.specs.State.{Cell, Thread, State, monitor_of, field_of, thread_of}
use Rattle.rules.specs.Rules.{is_volatile, e_call, e_let, e_if}
use Rattle.rules.specs.Step.{Stuck, Act, waits, sticks, lacks, does, call_act, read_act, write_act, join_act, synch_act, hold_act, signal_move, signal_act, wake_act}
use Rattle.rules.specs.Step.{act, AttemptOf}
use Rattle.rules.proofs.Progress.{Ruled}
use Rattle.machine.specs.Inner.Frames.{Slots, Closure, closure, Ready, Result}
use Rattle.machine.specs.Inner.Refocusing.{enter, go}
use Rattle.machine.specs.Inner.Machine as machine
use Rattle.machine.specs.Inner.Machine.{Table}
use Rattle.machine.proofs.Substitution.{every, first_slots, first_length, let_put, call_slots}
use Rattle.machine.proofs.Meaning.{expression_in, redex_of}
use Rattle.machine.proofs.Onward.{whole_go}
use Rattle.machine.proofs.StateMeaning.{Tabulates, thread_meant, state_of, act_of, gain_of, enqueue_of, signalled_of_lem, thread_of_lem, cond_of}
use Rattle.machine.proofs.StateMeaning.{join_of_lem, choose_of, branch_of, again_of}

-- a rule applies
abbrev pub RuledAct : Act → Type 0
RuledAct (waits w) = Unit {0}
RuledAct (sticks r) = Ruled (AttemptOf.stuck r)
RuledAct (lacks r) = Unit {0}
RuledAct (does R r s e) = Unit {0}

module _ (table : Table) where
  synch_of : (s : machine.State) (p : ℕ) (t : machine.Thread) (o : ℕ) (x : Closure) (c : Option Cell)
      → RuledAct (synch_act (state_of table s) p (thread_meant table t) o (expression_in table.node table.count x) c)
      → act_of table (machine.synch_act s p t o x (machine.cell_or c)) ≡ synch_act (state_of table s) p (thread_meant table t) o
      (expression_in table.node table.count x) c
  unfolding machine.synch_act machine.cell_or synch_act
  synch_of s p t o x none k = absurd k
  synch_of s p t o x (some c) k =
      cond_of table (is_empty c.keys) _ _ _ _ _ refl (cond_of table (eqb c.value t.self) _ _ _ _ _ refl refl refl) (rw (gain_of table))

  move_of_lem : (s : machine.State) (p : ℕ) (t : machine.Thread) (o : ℕ) (k : Signal)
      → act_of table (machine.signal_move s p t o k) ≡ signal_move (state_of table s) p (thread_meant table t) o k
  unfolding machine.signal_move signal_move
  move_of_lem s p t o Signal.wait = rw (enqueue_of table)
  move_of_lem s p t o Signal.notify = rw (signalled_of_lem table)
  move_of_lem s p t o Signal.notify_all = rw (signalled_of_lem table)

  signal_of_lem : (s : machine.State) (p : ℕ) (t : machine.Thread) (j : Signal) (o : ℕ) (c : Option Cell)
      → RuledAct (signal_act (state_of table s) p (thread_meant table t) j o c)
      → act_of table (machine.signal_act s p t j o (machine.cell_or c)) ≡ signal_act (state_of table s) p (thread_meant table t) j o c
  unfolding machine.signal_act machine.cell_or signal_act
  signal_of_lem s p t j o none k = absurd k
  signal_of_lem s p t j o (some c) k =
      cond_of table (is_empty c.keys) _ _ _ _ _ refl (cond_of table (eqb c.value t.self) _ _ _ _ _ refl (move_of_lem s p t o j) refl) refl

  wake_of : (s : machine.State) (p : ℕ) (t : machine.Thread) (o n : ℕ) (c : Option Cell) → RuledAct (wake_act (state_of table s) p (thread_meant table t) o n c)
      → act_of table (machine.wake_act s p t o n (machine.cell_or c)) ≡ wake_act (state_of table s) p (thread_meant table t) o n c
  unfolding machine.wake_act machine.cell_or wake_act
  wake_of s p t o n none k = absurd k
  wake_of s p t o (suc n) (some c) k = refl
  wake_of s p t o zero (some c) k = cond_of table (is_empty c.keys) _ _ _ _ _ refl refl (rw (gain_of table))

  hold_of : (s : machine.State) (p : ℕ) (t : machine.Thread) (o v : ℕ) (c : Option Cell) → RuledAct (hold_act (state_of table s) p (thread_meant table t) o v c)
      → act_of table (machine.act table s p t (Ready.hold o v)) ≡ hold_act (state_of table s) p (thread_meant table t) o v c
  unfolding machine.act hold_act
  hold_of s p t o v none k = absurd k
  hold_of s p t o v (some c) k = at (is_empty c.keys) (eqb c.value t.self) k
    where
      released : Act
      released = act_of table (machine.act table s p t (Ready.hold o v))

      at : (a b : Bool) → RuledAct (cond a (cond b released (sticks Stuck.no_rule)) (sticks Stuck.no_rule))
          → released ≡ cond a (cond b released (sticks Stuck.no_rule)) (sticks Stuck.no_rule)
      at true true k = refl
      at true false k = absurd k
      at false b k = absurd k

  module _ (g : Program) (law : Tabulates table g) where
    read_of : (s : machine.State) (p : ℕ) (t : machine.Thread) (o f : ℕ) (c : Option Cell)
        → act_of table (machine.read_act table s p t o f c) ≡ read_act g (state_of table s) p (thread_meant table t) o f c
    unfolding machine.read_act read_act
    read_of s p t o f none = refl
    read_of s p t o f (some c) =
        cond_of table (table.is_volatile f) _ _ _ _ _ (law.volatiles f) (rw (gain_of table, law.version_of))
        (cond_of table (subset c.keys t.keys) _ _ _ _ _ refl refl refl)

    write_of : (s : machine.State) (p : ℕ) (t : machine.Thread) (o f v : ℕ) (c : Option Cell)
        → act_of table (machine.write_act table s p t o f v c) ≡ write_act g (state_of table s) p (thread_meant table t) o f v c
    unfolding machine.write_act write_act
    write_of s p t o f v none = refl
    write_of s p t o f v (some c) =
        cond_of table (table.is_volatile f) _ _ _ _ _ (law.volatiles f) (rw law.version_of)
        (cond_of table (subset c.keys t.keys) _ _ _ _ _ refl (rw (gain_of table)) refl)

    body_of : (m n : ℕ) (σ : Slots) (d : Procedure) → get_elem? g.procedures m ≡ some d → d.parameters ≡ n
        → expression_in table.node table.count (closure (table.root m) σ) ≡ substitute (bind_parameters (first_slots n σ)) d.body
    body_of m n σ d h e =
        ap (substitute (every σ)) (sym (law.bodies m d h))
        ∙ call_slots n σ d.body (along (λ (k : ℕ). T (closed (λ x. ltb x k) d.body)) e (law.all_bound m d h))

    call_of_lem : (s : machine.State) (p : ℕ) (t : machine.Thread) (m n : ℕ) (σ : Slots) (d : Option Procedure) → get_elem? g.procedures m ≡ d
        → RuledAct (call_act (state_of table s) d (first_slots n σ))
        → act_of table (machine.act table s p t (Ready.call m n σ)) ≡ call_act (state_of table s) d (first_slots n σ)
    unfolding machine.act call_act
    call_of_lem s p t m n σ none h k = absurd k
    call_of_lem s p t m n σ (some d) h k = at (eqb d.parameters (length (first_slots n σ))) refl k
      where
        called : Act
        called = does e_call none (state_of table s) (substitute (bind_parameters (first_slots n σ)) d.body)

        at : (b : Bool) → eqb d.parameters (length (first_slots n σ)) ≡ b → RuledAct (cond b called (sticks Stuck.no_rule))
            → act_of table (machine.act table s p t (Ready.call m n σ)) ≡ cond b called (sticks Stuck.no_rule)
        at true e k = ap (does e_call none (state_of table s)) (body_of m n σ d h (eqb-true d.parameters (length (first_slots n σ)) e ∙ first_length n σ))
        at false e k = absurd k

    fork_of : (s : machine.State) (x : Closure) (o : ℕ) (W : Keys)
        → map (thread_meant table)
        (s.threads ++ (record { self = o; expression = enter table.node table.count [] x; keys = W; learnt = 0; place = awake } ∷ []))
        ≡ map (thread_meant table) s.threads
        ++ (record { self = o; expression = expression_in table.node table.count x; keys = W; learnt = 0; place = awake } ∷ [])
    unfolding go plug
    fork_of s x o W =
        map-append (thread_meant table) s.threads _
        ∙ ap (λ (e : Expression). map (thread_meant table) s.threads ++ (record { self = o; expression = e; keys = W; learnt = 0; place = awake } ∷ []))
        (whole_go table.node table.count law.ordered [] (Result.run x))

    pub act_of_lem : (s : machine.State) (p : ℕ) (t : machine.Thread) (r : Ready)
        → RuledAct (act g (state_of table s) p (thread_meant table t) (redex_of table.node table.count r))
        → act_of table (machine.act table s p t r) ≡ act g (state_of table s) p (thread_meant table t) (redex_of table.node table.count r)
    unfolding machine.act act
    act_of_lem s p t (Ready.new fs) k = refl
    act_of_lem s p t (Ready.read o f) k = read_of s p t o f (field_of (get_elem? s.objects o) f)
    act_of_lem s p t (Ready.write o f v) k = write_of s p t o f v (field_of (get_elem? s.objects o) f)
    act_of_lem s p t (Ready.let_in x o y) k = ap (does e_let none (state_of table s)) (sym (let_put y.slots x o (tree table.node table.count y.at)))
    act_of_lem s p t (Ready.if b x) k = ap (does e_if none (state_of table s)) (branch_of table b x)
    act_of_lem s p t (Ready.while x) k = refl
    act_of_lem s p t (Ready.call m n σ) k = call_of_lem s p t m n σ (get_elem? g.procedures m) refl k
    act_of_lem s p t (Ready.fork x) k = rw (length-map s.threads (thread_meant table), fork_of s x (length s.objects) t.keys)
    act_of_lem s p t (Ready.join o) k = join_of_lem table s p o (thread_of 0 s.threads o)
        ∙ ap (join_act (state_of table s) p o) (sym (thread_of_lem table 0 s.threads o))
    act_of_lem s p t (Ready.synch o x) k = synch_of s p t o x (monitor_of (get_elem? s.objects o)) k
    act_of_lem s p t (Ready.hold o v) k = hold_of s p t o v (monitor_of (get_elem? s.objects o)) k
    act_of_lem s p t (Ready.signal j o) k = signal_of_lem s p t j o (monitor_of (get_elem? s.objects o)) k
    act_of_lem s p t (Ready.waiting o) k = wake_of s p t o t.place.number (monitor_of (get_elem? s.objects o)) k
    act_of_lem s p t (Ready.while_test b x) k = ap (does e_if none (state_of table s)) (choose_of table b (Result.while_body x) (Result.value 0))
    act_of_lem s p t (Ready.while_body o x) k = ap (does e_let none (state_of table s)) (again_of table o x)
