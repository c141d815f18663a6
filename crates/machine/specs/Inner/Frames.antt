-- The abstract machine; no reader of the entries' promises needs it. Its parts: slots, closures, frames, and what is ready to move.
-- Assumes nothing.
use Rattle.std.specs.Prelude.{ℕ, Bool, cond, List, eqb, length}
use Rattle.std.proofs.Math.Option.{Option, some, none}
use Rattle.plan_packed.specs.Syntax.{Signal}

-- a value for every slot: a slot that nothing binds has one too, which no accepted plan asks for
abbrev pub Slots : Type 0
Slots = ℕ → ℕ

-- all null
unfoldable pub no_slots : Slots
no_slots x = 0

-- with o in slot x
unfoldable pub put : Slots → ℕ → ℕ → Slots
put ρ x o y = cond (eqb x y) o (ρ y)

-- with o in the slot that a let binds, if it binds one
unfoldable pub put_bound : Slots → Option ℕ → ℕ → Slots
unfolding put
put_bound ρ none o = ρ
put_bound ρ (some x) o = put ρ x o

-- a term to be evaluated, with values for its variables
pub record Closure : Type 0 where
  pub at : ℕ
  pub slots : Slots

-- two terms with the same values: the branches of an if; the condition and the body of a while
pub record Branches : Type 0 where
  pub first : ℕ
  pub second : ℕ
  pub slots : Slots

abbrev pub closure : ℕ → Slots → Closure
closure t ρ = record { at = t; slots = ρ }

abbrev pub branches : ℕ → ℕ → Slots → Branches
branches i j ρ = record { first = i; second = j; slots = ρ }

abbrev pub first_of : Branches → Closure
first_of x = closure x.first x.slots

abbrev pub second_of : Branches → Closure
second_of x = closure x.second x.slots

-- one construct around the redex that moves next
pub data Frame : Type 0 where
  read : ℕ → Frame  -- •.f
  write₁ : ℕ → Closure → Frame  -- •.f := e
  write₂ : ℕ → ℕ → Frame  -- o.f := •
  call : ℕ → ℕ → Slots → Closure → Frame  -- m(ō, •, ē): the procedure, how many values there are, in slots 0 upward, and the rest of the list
  let_in : Option ℕ → Closure → Frame  -- let x = • in e
  synch : Closure → Frame  -- synch • do e
  hold : ℕ → Frame  -- hold o do •
  join : Frame  -- join •
  signal : Signal → Frame  -- wait •, notify •, notify all •
  equal₁ : Closure → Frame  -- • == e
  equal₂ : ℕ → Frame  -- o == •
  if : Branches → Frame  -- if • then e else e
  and : Closure → Frame  -- • and c
  not : Frame  -- not •
  while_test : Branches → Frame  -- if • then (e; while c do e) else null
  while_body : Branches → Frame  -- •; while c do e

-- an expression whose operands are values
pub data Ready : Type 0 where
  new : List ℕ → Ready
  read : ℕ → ℕ → Ready
  write : ℕ → ℕ → ℕ → Ready
  let_in : Option ℕ → ℕ → Closure → Ready
  if : Bool → Branches → Ready
  while : Branches → Ready
  call : ℕ → ℕ → Slots → Ready  -- the procedure, and how many values there are, in slots 0 upward
  fork : Closure → Ready
  join : ℕ → Ready
  synch : ℕ → Closure → Ready
  hold : ℕ → ℕ → Ready
  signal : Signal → ℕ → Ready
  waiting : ℕ → Ready  -- a wait on o that has given up its monitor
  while_test : Bool → Branches → Ready  -- if b then (e; while c do e) else null
  while_body : ℕ → Branches → Ready  -- o; while c do e

-- a condition whose operands are values
pub data Readyᶜ : Type 0 where
  not_false : Readyᶜ
  and : Bool → Closure → Readyᶜ
  equal : ℕ → ℕ → Readyᶜ

-- where a thread stands: at its value, or before a move, with the frames around it, the innermost first
pub data Found : Type 0 where
  value : ℕ → Found
  here : List Frame → Ready → Found
  hereᶜ : List Frame → Readyᶜ → Found

-- how many frames there are
unfoldable pub height : Found → ℕ
height (value o) = 0
height (here S r) = length S
height (hereᶜ S r) = length S

-- what a rule leaves in the place of what was ready
pub data Result : Type 0 where
  value : ℕ → Result
  run : Closure → Result
  held : ℕ → Closure → Result  -- hold o do e
  while_test : Branches → Result  -- if c then (e; while c do e) else null
  while_body : Branches → Result  -- e; while c do e
  while_again : Branches → Result  -- while c do e
  waiting : ℕ → Result  -- a wait on o that has given up its monitor
