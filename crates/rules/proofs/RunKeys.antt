-- The bridge over whole runs: after any picks every key set is the one that the log alone determines, and the log is one that the key machine can
-- write. Assumes nothing.
use Prim.Native.Nat.{ℕ, zero, suc, ◌≤◌}
use native.Mathlib.Omega.{arith}
use mathlib.Core.Path.{◌≡◌, refl, sym, ap, ◌∙◌, subst as along}
use mathlib.Core.Bool.{Bool, true, not, true≢false, false≢true}
use mathlib.Core.List.{List, [], ◌∷◌, reverse_aux, reverse}
use mathlib.Core.Logic.{◌⊎◌, ◌↔◌}
use mathlib.Core.Option.{Option, some, none}
use lib.Dec.{T, eqb, eqb-zero-suc}
use lib.ListN.{get_elem?}
use Rattle.run_keys.specs.Keys.{singleton, holds, is_empty}
use Rattle.run_keys.proofs.KeyLaws.{holds_singleton}
use Rattle.log_order.proofs.KeySets.{only_zero}
use Rattle.log_order.proofs.KeyMachine.{start as startKeys}
use Rattle.log_order.proofs.EverySet.{WouldReach, every_set}
use Rattle.plan_packed.specs.Syntax.{Expression, Arguments, Program}
use Rattle.plan_packed.proofs.WellFormed.{WellFormedProgram}
use Rattle.log_records.specs.Record.{Record}
use Rattle.rules.specs.Queue.{awake}
use Rattle.rules.specs.State.{Cell, Thread, State, start, fresh, fresh_object, lookup, monitor}
use Rattle.rules.specs.Rules.{LACKS-READ, LACKS-WRITE, Lacks, LACKS}
use Rattle.rules.specs.Run.{Run, logged, stopped, after_pass, after_move, play, log}
use Rattle.rules.specs.Execution.{Execution, ends, passes, lacks_key_lem, no_room_lem, moves}
use Rattle.rules.proofs.KeyBridge.{keys_of}
use Rattle.rules.proofs.Bridge.{Kept, bridge, tested}
use Rattle.rules.proofs.Executed.{Reachable, reachable_start, reachable_move, play_executes}

-- ---- a thread that lacks its key

module _ (g : Program) (s : State) (I : Reachable g s) (p : ℕ) (H : List Record) (J : Kept g s H) where
  pub kept_lacks : {r : Record} → Lacks g s p r → Kept g s (r ∷ H)
  kept_lacks (LACKS K {t} ht he (LACKS-READ w {o} {f} {v} h k vol)) =
      record { agrees = J.agrees; legal = (J.legal, J.agrees.present p t ht, rw (sym (tested g s I.invariant p t ht H J w o f v h vol) ∙ k) tt) }
  kept_lacks (LACKS K {t} ht he (LACKS-WRITE w {o} {f} {u} h k vol)) =
      record { agrees = J.agrees; legal = (J.legal, J.agrees.present p t ht, rw (sym (tested g s I.invariant p t ht H J w o f u h vol) ∙ k) tt) }

-- ---- the start

pub kept_start : (g : Program) → Kept g start []
unfolding start startKeys only_zero lookup monitor fresh_object is_empty
kept_start g = record {
  agrees = record {
    present = λ p t h. one p t h;
    absent = λ p h. no_other p h;
    knows = λ p t h k. known p t h k;
    plain = λ o f v. ap keys_of (nowhere o f);
    volatiles = λ o f v k. sym (ap (λ (x : Option Cell). holds (keys_of x) k) (nowhere o f) ∙ holds_singleton 0 k);
    monitors = λ o k. free o k;
    owner = λ o c m e p t h v. absurd (held o c m e);
    next = refl;
  };
  legal = tt;
}
  where
    one : (p : ℕ) (t : Thread) → get_elem? start.threads p ≡ some t → T (eqb 0 p)
    one zero t h = tt
    one (suc p) t h = absurd (true≢false cc)

    no_other : (p : ℕ) → 1 ≤ p → T (not (eqb 0 p))
    no_other zero h = absurd (omega arith)
    no_other (suc p) h = rw (eqb-zero-suc p) tt

    known : (p : ℕ) (t : Thread) → get_elem? start.threads p ≡ some t → (k : ℕ) → eqb k 0 ≡ holds t.keys k
    known zero t h k =
        let e : record { self = 0; expression = Expression.call 0 Arguments.end; keys = singleton 0; learnt = 0; place = awake } ≡ t = cc in
        sym (holds_singleton 0 k) ∙ ap (λ (z : Thread). holds z.keys k) e
    known (suc p) t h k = absurd (true≢false cc)

    nowhere : (o f : ℕ) → lookup start o f ≡ none
    nowhere zero f = refl
    nowhere (suc o) f = refl

    free : (o k : ℕ) → eqb k 0 ≡ holds (keys_of (monitor start o)) k
    free zero k = sym (holds_singleton 0 k)
    free (suc o) k = sym (holds_singleton 0 k)

    held : (o : ℕ) (c : Cell) → monitor start o ≡ some c → is_empty c.keys ≡ true → ⊥
    held zero c m e = let y : fresh ≡ c = cc in false≢true (ap (λ (z : Cell). is_empty z.keys) y ∙ e)
    held (suc o) c m e = true≢false cc

-- ---- whole runs

turn_logged : (r : Option Record) (L H : List Record) → reverse_aux (logged r L) H ≡ reverse_aux L (logged r H)
unfolding logged
turn_logged none L H = refl
turn_logged (some r) L H = refl

module _ (g : Program) (P : WellFormedProgram g) where
  kept_execution : {s : State} {ps : List ℕ} {r : Run} (H : List Record) → Reachable g s → Kept g s H → Execution g s ps r
      → Kept g r.final (reverse_aux (log r) H)
  unfolding log stopped after_pass after_move
  kept_execution H I J ends = J
  kept_execution H I J (passes h x) = kept_execution H I J x
  kept_execution H I J (lacks_key_lem {s} {p} h) = kept_lacks g s I p H J h
  kept_execution H I J (no_room_lem h e) = J
  kept_execution H I J (moves {s} {p = p} {r = r} {e = e} h k x) =
      along (Kept g r.final) (sym (turn_logged e (log r) H))
      (kept_execution (logged e H) (reachable_move g P s p I h) (bridge g s I.invariant p H J h) x)

  -- after any picks the sets are those of the log
  pub kept_play : (ps : List ℕ) → Kept g (play g ps).final (reverse (log (play g ps)))
  kept_play ps = kept_execution [] (reachable_start g P) (kept_start g) (play_executes g P ps)

  -- after any picks a present thread's set holds key 0 and the keys of just those plain writes in the log that would have a chain to a `new` record of
  -- this thread, were one put at the log's end (document 02, E9)
  pub every_set_of_runs : (ps : List ℕ) (p : ℕ) (t : Thread) → get_elem? (play g ps).final.threads p ≡ some t
      → (k : ℕ) → T (holds t.keys k) ↔ ((k ≡ 0) ⊎ WouldReach g.version (log (play g ps)) p k)
  every_set_of_runs ps p t h k =
      let J = kept_play ps in
      along (λ (b : Bool). T b ↔ ((k ≡ 0) ⊎ WouldReach g.version (log (play g ps)) p k)) (J.agrees.knows p t h k)
      (every_set g.version (log (play g ps)) J.legal p k (J.agrees.present p t h))
