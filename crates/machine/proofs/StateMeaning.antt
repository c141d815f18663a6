-- What the state of the machine stands for, and what the parts of a move stand for, over the table of a program. Assumes nothing.
use Prim.Native.Nat.{ℕ, zero, suc}
use mathlib.Core.Path.{◌≡◌, refl, sym, ap, ap₂, ◌∙◌}
use mathlib.Core.Bool.{Bool, true, false, cond}
use mathlib.Core.List.{List, [], ◌∷◌, ◌++◌, map}
use mathlib.Core.Option
use mathlib.Core.Option.{Option, some, none}
use lib.Dec.{T, eqb, ltb}
use lib.ListN.{get_elem?}
use Rattle.run_keys.specs.Keys.{Keys}
use Rattle.plan_packed.specs.Syntax.{Expression, Condition, Procedure, Program, bind, substitute}
use Rattle.plan_packed.specs.Slots.{closed}
use Rattle.plan_packed.specs.Inner.Steps.{Descending}
use Rattle.plan_packed.proofs.TreeLaws.{tree, treeᶜ}
use Rattle.rules.specs.Context.{as_literal}
use Rattle.rules.specs.Queue.{Place, last_place, moved_up}
use Rattle.rules.specs.State.{Thread, State, Numbered, change_at, gain, become, in_place, enqueue, signalled, thread_of}
use Rattle.rules.specs.Rules.{is_volatile}
use Rattle.rules.specs.Step.{Act, waits, sticks, lacks, does, join_value, join_act, AttemptOf, Attempt}
use Rattle.rules.proofs.Decompose.{whole, no_literal}
use Rattle.machine.specs.Inner.Frames.{Branches, closure, first_of, second_of, Found, Result}
use Rattle.machine.specs.Inner.Machine as machine
use Rattle.machine.specs.Inner.Machine.{Table}
use Rattle.machine.proofs.Substitution.{let_nothing, let_nothingᶜ}
use Rattle.machine.proofs.Meaning.{expression_in, while_in, mean, result_of}

pub get_map : {A B : Type 0} (f : A → B) (xs : List A) (i : ℕ) → get_elem? (map f xs) i ≡ Option.map f (get_elem? xs i)
get_map f [] i = refl
get_map f (x ∷ xs) zero = refl
get_map f (x ∷ xs) (suc i) = get_map f xs i

-- the table is a program's
pub record Tabulates (table : Table) (g : Program) : Type 0 where
  pub ordered : Descending table.node table.count
  pub version_of : table.version ≡ g.version
  pub volatiles : (f : ℕ) → table.is_volatile f ≡ is_volatile g f
  pub bodies : (m : ℕ) (d : Procedure) → get_elem? g.procedures m ≡ some d → d.body ≡ tree table.node table.count (table.root m)
  pub all_bound : (m : ℕ) (d : Procedure) → get_elem? g.procedures m ≡ some d → T (closed (λ x. ltb x d.parameters) d.body)

-- ---- what the machine's state stands for

module _ (table : Table) where
  abbrev pub meant : Found → Expression
  meant F = whole (mean table.node table.count F)

  abbrev pub thread_meant : machine.Thread → Thread
  thread_meant x = record { self = x.self; expression = meant x.expression; keys = x.keys; learnt = x.learnt; place = x.place }

  abbrev pub state_of : machine.State → State
  state_of s = record { objects = s.objects; threads = map thread_meant s.threads; next_key = s.next_key }

  abbrev numbered_meant : machine.Numbered → Numbered
  numbered_meant q = record { number = q.number; thread = thread_meant q.thread }

  abbrev pub act_of : machine.Act → Act
  act_of (waits w) = waits w
  act_of (sticks r) = sticks r
  act_of (lacks r) = lacks r
  act_of (does R r s x) = does R r (state_of s) (result_of table.node table.count x)

  abbrev pub attempt_of : machine.Attempt → Attempt
  attempt_of AttemptOf.absent = AttemptOf.absent
  attempt_of (AttemptOf.finished v) = AttemptOf.finished v
  attempt_of (AttemptOf.waiting w) = AttemptOf.waiting w
  attempt_of (AttemptOf.stuck r) = AttemptOf.stuck r
  attempt_of (AttemptOf.lacking r) = AttemptOf.lacking r
  attempt_of (AttemptOf.moves m) = AttemptOf.moves (record { rule = m.rule; entry = m.entry; state = state_of m.state })

  -- ---- the parts of a move

  change_of : (xs : List machine.Thread) (p : ℕ) (k : machine.Thread → machine.Thread) (k' : Thread → Thread)
      → ((x : machine.Thread) → thread_meant (k x) ≡ k' (thread_meant x)) → map thread_meant (change_at xs p k) ≡ change_at (map thread_meant xs) p k'
  unfolding change_at
  change_of [] p k k' q = refl
  change_of (x ∷ xs) zero k k' q = rw (q x)
  change_of (x ∷ xs) (suc p) k k' q = ap (λ (l : List Thread). thread_meant x ∷ l) (change_of xs p k k' q)

  pub gain_of : (s : machine.State) (p : ℕ) (W : Keys) (n : Keys → ℕ) → state_of (gain s p W n) ≡ gain (state_of s) p W n
  unfolding gain
  gain_of s p W n = ap (λ (l : List Thread). record { objects = s.objects; threads = l; next_key = s.next_key }) (change_of s.threads p _ _ (λ x. refl))

  pub become_of : (s : machine.State) (p : ℕ) (F : Found) (e : Expression) → meant F ≡ e → state_of (become s p F) ≡ become (state_of s) p e
  unfolding become
  become_of s p F e q =
      ap (λ (l : List Thread). record { objects = s.objects; threads = l; next_key = s.next_key })
      (change_of s.threads p _ _
      (λ x. ap (λ (e : Expression). record { self = x.self; expression = e; keys = x.keys; learnt = x.learnt; place = x.place }) q))

  places_of : (xs : List machine.Thread) → map (λ (y : Thread). y.place) (map thread_meant xs) ≡ map (λ (y : machine.Thread). y.place) xs
  places_of [] = refl
  places_of (x ∷ xs) = ap (λ (l : List Place). x.place ∷ l) (places_of xs)

  pub enqueue_of : (s : machine.State) (p o : ℕ) → state_of (enqueue s p o) ≡ enqueue (state_of s) p o
  unfolding enqueue
  enqueue_of s p o =
      ap (λ (l : List Thread). record { objects = s.objects; threads = l; next_key = s.next_key })
      (change_of s.threads p _ _ (λ x. ap (λ (l : List Place). in_place (last_place o l) (thread_meant x)) (sym (places_of s.threads))))

  moved_of : (h : ℕ → ℕ) (o : ℕ) (xs : List machine.Thread)
      → map thread_meant (map (λ (x : machine.Thread). in_place (moved_up h o x.place) x) xs)
      ≡ map (λ (x : Thread). in_place (moved_up h o x.place) x) (map thread_meant xs)
  moved_of h o [] = refl
  moved_of h o (x ∷ xs) = ap (λ (l : List Thread). thread_meant (in_place (moved_up h o x.place) x) ∷ l) (moved_of h o xs)

  pub signalled_of_lem : (h : ℕ → ℕ) (s : machine.State) (o : ℕ) → state_of (signalled h s o) ≡ signalled h (state_of s) o
  unfolding signalled
  signalled_of_lem h s o = ap (λ (l : List Thread). record { objects = s.objects; threads = l; next_key = s.next_key }) (moved_of h o s.threads)

  pub thread_of_lem : (i : ℕ) (xs : List machine.Thread) (o : ℕ) → thread_of i (map thread_meant xs) o ≡ Option.map numbered_meant (thread_of i xs o)
  unfolding thread_of
  thread_of_lem i [] o = refl
  thread_of_lem i (x ∷ xs) o = at (eqb x.self o) (thread_of_lem (suc i) xs o)
    where
      at : (b : Bool) → thread_of (suc i) (map thread_meant xs) o ≡ Option.map numbered_meant (thread_of (suc i) xs o)
          → cond b (some (record { number = i; thread = thread_meant x })) (thread_of (suc i) (map thread_meant xs) o)
          ≡ Option.map numbered_meant (cond b (some (record { number = i; thread = x })) (thread_of (suc i) xs o))
      at true q = refl
      at false q = q

  pub cond_of : (b b' : Bool) (x y : machine.Act) (x' y' : Act) → b ≡ b' → act_of x ≡ x' → act_of y ≡ y' → act_of (cond b x y) ≡ cond b' x' y'
  cond_of true b' x y x' y' q hx hy = rw (← q) hx
  cond_of false b' x y x' y' q hx hy = rw (← q) hy

  finished_of : (F : Found) → as_literal (meant F) ≡ machine.finished_with F
  unfolding whole machine.finished_with as_literal
  finished_of (Found.value o) = refl
  finished_of (Found.here S r) = no_literal (mean table.node table.count (Found.here S r)) tt
  finished_of (Found.hereᶜ S r) = no_literal (mean table.node table.count (Found.hereᶜ S r)) tt

  join_value_lem : (s : machine.State) (p o : ℕ) (q : machine.Numbered) (v : Option ℕ)
      → act_of (machine.join_value s p o q v) ≡ join_value (state_of s) p o (numbered_meant q) v
  unfolding machine.join_value join_value
  join_value_lem s p o q none = refl
  join_value_lem s p o q (some v) = rw gain_of

  pub join_of_lem : (s : machine.State) (p o : ℕ) (q : Option machine.Numbered)
      → act_of (machine.join_act s p o q) ≡ join_act (state_of s) p o (Option.map numbered_meant q)
  unfolding machine.join_act join_act
  join_of_lem s p o none = refl
  join_of_lem s p o (some q) =
      join_value_lem s p o q (machine.finished_with q.thread.expression)
      ∙ ap (join_value (state_of s) p o (numbered_meant q)) (sym (finished_of q.thread.expression))

  pub choose_of : (b : Bool) (x y : Result)
      → result_of table.node table.count (cond b x y) ≡ cond b (result_of table.node table.count x) (result_of table.node table.count y)
  choose_of true x y = refl
  choose_of false x y = refl

  pub branch_of : (b : Bool) (x : Branches)
      → expression_in table.node table.count (closure (cond b x.first x.second) x.slots)
      ≡ cond b (expression_in table.node table.count (first_of x)) (expression_in table.node table.count (second_of x))
  branch_of true x = refl
  branch_of false x = refl

  -- the loop after its body's value
  pub again_of : (o : ℕ) (x : Branches) → while_in table.node table.count x ≡ substitute (bind none o) (while_in table.node table.count x)
  unfolding substitute
  again_of o x =
      sym
      (ap₂ (λ (c : Condition) (e : Expression). Expression.while c e) (let_nothingᶜ x.slots o (treeᶜ table.node table.count x.first))
      (let_nothing x.slots o (tree table.node table.count x.second)))
