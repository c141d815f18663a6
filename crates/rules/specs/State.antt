-- The state of a run: μ, θ and κ of document 001, section 4, with the next unused key (document 01, "How a thread moves"). Assumes nothing.
use Rattle.std.specs.Prelude.{ℕ, zero, suc, ◌+◌, cond, eqb, length}
use mathlib.Core.List.{List, [], ◌∷◌, ◌++◌, map}
use Rattle.std.proofs.Math.Option.{Option, some, none}
use Rattle.std.proofs.Math.ListN.{get_elem?}
use Rattle.run_keys.specs.Keys.{Keys, singleton, union, count_new}
use Rattle.plan_packed.specs.Syntax.{Expression, Arguments}
use Rattle.rules.specs.Context.{expression_depth}
use Rattle.rules.specs.Queue.{Place, awake, last_place, moved_up}

-- what a location holds: (W, o)
pub record Cell : Type 0 where
  pub keys : Keys
  pub value : ℕ

-- the location that holds this set and this value
abbrev pub cell : Keys → ℕ → Cell
cell W o = record { keys = W; value = o }

-- a field of an object: its name and what it holds
pub record Field : Type 0 where
  pub name : ℕ
  pub cell : Cell

-- an object: its monitor, which is field 0, and its other fields. The monitor's value is its owner while its set is empty.
pub record Object : Type 0 where
  pub monitor : Cell
  pub fields : List Field

-- the form in which a thread's expression is kept: as what, and how deep one is. The rules keep it as it is written, and are read with `expressions` for F
pub record Form : Type 1 where
  pub Carrier : Type 0
  pub depth : Carrier → ℕ

-- as it is written
abbrev pub expressions : Form
expressions = record { Carrier = Expression; depth = expression_depth }

-- a thread: the object that stands for it, its expression θ, its key set κ, how many keys it has heard of that were new to it, and its place in a queue
pub record ThreadOf (F : Form) : Type 0 where
  pub self : ℕ
  pub expression : F.Carrier
  pub keys : Keys
  pub learnt : ℕ
  pub place : Place

-- a thread with its number
pub record NumberedOf (F : Form) : Type 0 where
  pub number : ℕ
  pub thread : ThreadOf F

-- "Objects and threads are numbered in order of creation and live to the end of the run"
pub record StateOf (F : Form) : Type 0 where
  pub objects : List Object
  pub threads : List (ThreadOf F)
  pub next_key : ℕ

-- a thread of the rules
abbrev pub Thread : Type 0
Thread = ThreadOf expressions

-- a thread of the rules with its number
abbrev pub Numbered : Type 0
Numbered = NumberedOf expressions

-- a state of the rules
abbrev pub State : Type 0
State = StateOf expressions

-- "New fields and new monitors hold null and key set {0}."
unfoldable pub fresh : Cell
fresh = cell (singleton 0) 0

-- the fields of a new object
unfoldable pub fresh_fields : List ℕ → List Field
unfolding fresh
fresh_fields [] = []
fresh_fields (f ∷ fs) = record { name = f; cell = fresh } ∷ fresh_fields fs

-- a new object with these fields
unfoldable pub fresh_object : List ℕ → Object
unfolding fresh_fields
fresh_object fs = record { monitor = fresh; fields = fresh_fields fs }

-- the list with its element i changed
unfoldable pub change_at : {A : Type 0} → List A → ℕ → (A → A) → List A
change_at [] i h = []
change_at (x ∷ xs) zero h = h x ∷ xs
change_at (x ∷ xs) (suc i) h = x ∷ change_at xs i h

-- ---- μ

-- what field f holds, if it is among these
unfoldable pub find_field : List Field → ℕ → Option Cell
find_field [] f = none
find_field (x ∷ xs) f = cond (eqb x.name f) (some x.cell) (find_field xs f)

-- these fields, where field f, if it is among them, holds c
unfoldable pub store_field : List Field → ℕ → Cell → List Field
store_field [] f c = []
store_field (x ∷ xs) f c = cond (eqb x.name f) (record { name = f; cell = c } ∷ xs) (x ∷ store_field xs f c)

-- field f of an object, if there is one
unfoldable pub field_of : Option Object → ℕ → Option Cell
unfolding find_field
field_of none f = none
field_of (some x) f = find_field x.fields f

-- the monitor of an object, if there is one
unfoldable pub monitor_of : Option Object → Option Cell
monitor_of none = none
monitor_of (some x) = some x.monitor

-- what a move reads and changes, in any form
module _ {F : Form} where
  -- μ(o, f), f not the monitor
  unfoldable pub lookup : StateOf F → ℕ → ℕ → Option Cell
  unfolding field_of
  lookup s o f = field_of (get_elem? s.objects o) f

  -- μ(o, Lock)
  unfoldable pub monitor : StateOf F → ℕ → Option Cell
  unfolding monitor_of
  monitor s o = monitor_of (get_elem? s.objects o)

  -- μ[(o, f) ↦ c]
  unfoldable pub store : StateOf F → ℕ → ℕ → Cell → StateOf F
  unfolding change_at store_field
  store s o f c = record {
    objects = change_at s.objects o (λ x. record { monitor = x.monitor; fields = store_field x.fields f c });
    threads = s.threads;
    next_key = s.next_key;
  }

  -- μ[(o, Lock) ↦ c]
  unfoldable pub store_monitor : StateOf F → ℕ → Cell → StateOf F
  unfolding change_at
  store_monitor s o c = record {
    objects = change_at s.objects o (λ x. record { monitor = c; fields = x.fields });
    threads = s.threads;
    next_key = s.next_key;
  }

  -- "Objects [..] are numbered in order of creation": one more object
  unfoldable pub add_object : StateOf F → Object → StateOf F
  add_object s x = record { objects = s.objects ++ (x ∷ []); threads = s.threads; next_key = s.next_key }

  -- ---- θ and κ

  -- κ[p ↦ W ∪ κ(p)], where p's total rises by what `count` says of κ(p)
  unfoldable pub gain : StateOf F → ℕ → Keys → (Keys → ℕ) → StateOf F
  unfolding change_at union
  gain s p W count = record {
    objects = s.objects;
    threads = change_at s.threads p (λ x. record {
      self = x.self;
      expression = x.expression;
      keys = union W x.keys;
      learnt = x.learnt + count x.keys;
      place = x.place;
    });
    next_key = s.next_key;
  }

  -- thread p learns W, and nothing is counted: a key of its own
  abbrev pub learn : StateOf F → ℕ → Keys → StateOf F
  learn s p W = gain s p W (λ K. 0)

  -- thread p hears of W, and the keys that are new to it are counted: "acquire, volatile read and join pass that count up" (document 02, E6)
  abbrev pub hear : StateOf F → ℕ → Keys → StateOf F
  hear s p W = gain s p W (count_new W)

  -- θ[p ↦ e]
  unfoldable pub become : StateOf F → ℕ → F.Carrier → StateOf F
  unfolding change_at
  become s p e = record {
    objects = s.objects;
    threads = change_at s.threads p (λ x. record { self = x.self; expression = e; keys = x.keys; learnt = x.learnt; place = x.place });
    next_key = s.next_key;
  }

  -- "threads are numbered in order of creation": one more thread
  unfoldable pub add_thread : StateOf F → ThreadOf F → StateOf F
  add_thread s x = record { objects = s.objects; threads = s.threads ++ (x ∷ []); next_key = s.next_key }

  -- "the next unused key, 1 upward"
  unfoldable pub use_key : StateOf F → StateOf F
  use_key s = record { objects = s.objects; threads = s.threads; next_key = suc s.next_key }

  -- "A forked thread starts with its maker's set." It runs e, has heard of no set and waits on nothing; t is its maker
  abbrev pub forked : StateOf F → ThreadOf F → F.Carrier → ThreadOf F
  forked s t e = record { self = length s.objects; expression = e; keys = t.keys; learnt = 0; place = awake }

  -- ---- the queues (document 02, E3)

  -- the places of the threads
  abbrev pub places_of : StateOf F → List Place
  places_of s = map (λ (t : ThreadOf F). t.place) s.threads

  -- the thread at this place
  abbrev pub in_place : Place → ThreadOf F → ThreadOf F
  in_place w t = record { self = t.self; expression = t.expression; keys = t.keys; learnt = t.learnt; place = w }

  -- thread p takes the last place of the queue of o
  unfoldable pub enqueue : StateOf F → ℕ → ℕ → StateOf F
  unfolding change_at last_place
  enqueue s p o = record {
    objects = s.objects;
    threads = change_at s.threads p (in_place (last_place o (places_of s)));
    next_key = s.next_key;
  }

  -- the numbers of the places on o are changed by h
  unfoldable pub signalled : (ℕ → ℕ) → StateOf F → ℕ → StateOf F
  unfolding moved_up
  signalled h s o = record {
    objects = s.objects;
    threads = map (λ (x : ThreadOf F). in_place (moved_up h o x.place) x) s.threads;
    next_key = s.next_key;
  }

  -- ---- threads by their objects

  -- the thread that object o stands for, among threads numbered from i
  unfoldable pub thread_of : ℕ → List (ThreadOf F) → ℕ → Option (NumberedOf F)
  thread_of i [] o = none
  thread_of i (x ∷ xs) o = cond (eqb x.self o) (some (record { number = i; thread = x })) (thread_of (suc i) xs o)

  -- "The run starts with object 0 (null), its monitor free with key set {0}, and thread 0 about to call main, knowing key 0. Object 0 also stands for
  -- thread 0.": e is that call
  unfoldable pub start_at : F.Carrier → StateOf F
  unfolding fresh_object
  start_at e = record {
    objects = fresh_object [] ∷ [];
    threads = record { self = 0; expression = e; keys = singleton 0; learnt = 0; place = awake } ∷ [];
    next_key = 1;
  }

-- the start of the rules' runs
unfoldable pub start : State
unfolding start_at
start = start_at (Expression.call 0 Arguments.end)
