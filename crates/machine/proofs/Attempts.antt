-- What a thread of the machine can do is what the definitions say of the state that it stands for, unless they say that no rule applies. Assumes
-- nothing.
use Prim.Native.Nat.{ℕ}
use mathlib.Core.Path.{◌≡◌, refl, sym, ap, ap₂, ◌∙◌}
use mathlib.Core.Bool.{Bool, true, false}
use mathlib.Core.List.{List}
use mathlib.Core.Option.{Option, some, none, map}
use lib.Dec.{eqb}
use lib.ListN.{get_elem?}
use Rattle.plan_packed.specs.Syntax.{Program}
use Rattle.rules.specs.Context.{Context, plug, plugᶜ}
use Rattle.rules.specs.State.{Thread, State}
use Rattle.rules.specs.Rules.{Rule}
use Rattle.rules.specs.Step.{Act, waits, sticks, lacks, does, act, actᶜ, equal_act, AttemptOf, around, attempt_at, attempt_by, attempt}
use Rattle.rules.proofs.Decompose.{focus_whole}
use Rattle.rules.proofs.Progress.{Ruled}
use Rattle.machine.specs.Inner.Frames.{Frame, Readyᶜ, Found}
use Rattle.machine.specs.Inner.Refocusing.{upᶜ, go}
use Rattle.machine.specs.Inner.Machine as machine
use Rattle.machine.specs.Inner.Machine.{Table}
use Rattle.machine.proofs.Meaning.{context, contextᶜ, redex_of, redexᶜ, mean, result_of}
use Rattle.machine.proofs.Onward.{whole_go, whole_up, whole_enter}
use Rattle.machine.proofs.StateMeaning.{get_map, Tabulates, meant, thread_meant, state_of, act_of, attempt_of, become_of}
use Rattle.machine.proofs.MeantActs.{RuledAct, act_of_lem}

module _ (table : Table) (g : Program) (law : Tabulates table g) where
  around_of : (s : State) (p : ℕ) (S : List Frame) (a : machine.Act)
      → attempt_of table (machine.around table p S a) ≡ around s p (context table.node table.count S) (act_of table a)
  unfolding machine.around around
  around_of s p S (waits w) = refl
  around_of s p S (sticks r) = refl
  around_of s p S (lacks r) = refl
  around_of s p S (does R r s' x) =
      ap (λ (z : State). AttemptOf.moves (record { rule = R; entry = r; state = z }))
      (become_of table s' p (go table.node table.count S x) (plug (context table.node table.count S) (result_of table.node table.count x))
      (whole_go table.node table.count law.ordered S x))

  around_ruled : (s : State) (p : ℕ) (K : Context) (a : Act) → Ruled (around s p K a) → RuledAct a
  unfolding around
  around_ruled s p K (waits w) k = tt
  around_ruled s p K (sticks r) k = k
  around_ruled s p K (lacks r) k = tt
  around_ruled s p K (does R r s' e) k = tt

  equal_of : (S : List Frame) (b : Bool)
      → meant table (upᶜ table.node table.count S b) ≡ plugᶜ (contextᶜ table.node table.count S) (equal_act b).result
  unfolding equal_act
  equal_of S true = whole_up table.node table.count law.ordered S true
  equal_of S false = whole_up table.node table.count law.ordered S false

  code_of : (S : List Frame) (r : Readyᶜ)
      → meant table (machine.actᶜ table S r).expression
      ≡ plugᶜ (contextᶜ table.node table.count S) (actᶜ (redexᶜ table.node table.count r)).result
  unfolding machine.actᶜ actᶜ
  code_of S Readyᶜ.not_false = whole_up table.node table.count law.ordered S true
  code_of S (Readyᶜ.and true x) = whole_enter table.node table.count law.ordered S x
  code_of S (Readyᶜ.and false x) = whole_up table.node table.count law.ordered S false
  code_of S (Readyᶜ.equal o o') = equal_of S (eqb o o')

  rule_of : (S : List Frame) (r : Readyᶜ) → (machine.actᶜ table S r).rule ≡ (actᶜ (redexᶜ table.node table.count r)).rule
  unfolding machine.actᶜ actᶜ
  rule_of S Readyᶜ.not_false = refl
  rule_of S (Readyᶜ.and true x) = refl
  rule_of S (Readyᶜ.and false x) = refl
  rule_of S (Readyᶜ.equal o o') = refl

  at_of : (s : machine.State) (p : ℕ) (t : machine.Thread) (F : Found)
      → Ruled (attempt_at g (state_of table s) p (thread_meant table t) (mean table.node table.count F))
      → attempt_of table (machine.attempt_at table s p t F) ≡ attempt_at g (state_of table s) p (thread_meant table t) (mean table.node table.count F)
  unfolding machine.attempt_at attempt_at
  at_of s p t (Found.value o) k = refl
  at_of s p t (Found.here S r) k =
      around_of (state_of table s) p S (machine.act table s p t r)
      ∙ ap (around (state_of table s) p (context table.node table.count S))
      (act_of_lem table g law s p t r
      (around_ruled (state_of table s) p (context table.node table.count S)
      (act g (state_of table s) p (thread_meant table t) (redex_of table.node table.count r)) k))
  at_of s p t (Found.hereᶜ S r) k =
      ap₂ (λ (R : Rule) (z : State). AttemptOf.moves (record { rule = R; entry = none; state = z })) (rule_of S r)
      (become_of table s p (machine.actᶜ table S r).expression _ (code_of S r))

  by_of : (s : machine.State) (p : ℕ) (t : Option machine.Thread) → Ruled (attempt_by g (state_of table s) p (map (thread_meant table) t))
      → attempt_of table (machine.attempt_by table s p t) ≡ attempt_by g (state_of table s) p (map (thread_meant table) t)
  unfolding machine.attempt_by attempt_by
  by_of s p none k = refl
  by_of s p (some t) k =
      let e = focus_whole (mean table.node table.count t.expression) in
      at_of s p t t.expression (rw e at k) ∙ ap (attempt_at g (state_of table s) p (thread_meant table t)) (sym e)

  -- what a thread of the machine can do is what the definitions say, unless they say that no rule applies
  pub attempt_of_lem : (s : machine.State) (p : ℕ) → Ruled (attempt g (state_of table s) p)
      → attempt_of table (machine.attempt table s p) ≡ attempt g (state_of table s) p
  unfolding machine.attempt attempt
  attempt_of_lem s p k =
      let e = get_map (thread_meant table) s.threads p in
      by_of s p (get_elem? s.threads p) (rw e at k) ∙ ap (attempt_by g (state_of table s) p) (sym e)
