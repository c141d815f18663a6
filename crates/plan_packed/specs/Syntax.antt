-- The syntax of document 001, figure 5, as trees; programs; substitution. Assumes nothing.
use Rattle.std.specs.Prelude.{ℕ, Bool, true, false, cond, List, eqb}
use Rattle.std.proofs.Math.Option.{Option, some, none}
use Rattle.std.proofs.Math.ListN.{get_elem?}
use Rattle.format.specs.Version.{Version}

-- what is asked of a monitor's queue: "tag 18 wait, 19 notify, 20 notify all" (document 02, E3)
pub data Signal : Type 0 where
  wait notify notify_all : Signal

-- figure 5; "A condition may hold expressions and an expression may hold conditions, to any depth the table allows."; "Values are object references."
mutual
  pub data Expression : Type 0 where
    literal : ℕ → Expression  -- o, a literal reference; 0 is null
    variable : ℕ → Expression  -- x, a variable slot
    new : List ℕ → Expression  -- new (f̄), the lock field left out: every object has one
    read : Expression → ℕ → Expression  -- e.f
    write : Expression → ℕ → Expression → Expression  -- e.f := e
    let_in : Option ℕ → Expression → Expression → Expression  -- let x = e in e; where nothing is bound, e; e
    if : Condition → Expression → Expression → Expression  -- if c then e else e
    while : Condition → Expression → Expression  -- while c do e
    call : ℕ → Arguments → Expression  -- m(ē)
    fork : Expression → Expression  -- fork e
    join : Expression → Expression  -- join e
    synch : Expression → Expression → Expression  -- synch e do e
    hold : ℕ → Expression → Expression  -- hold o do e, in execution only
    signal : Signal → Expression → Expression  -- wait e, notify e, notify all e
    waiting : ℕ → Expression  -- in execution only: a wait on o that has given up its monitor

  pub data Condition : Type 0 where
    truth : Condition  -- true
    not : Condition → Condition  -- not c
    and : Condition → Condition → Condition  -- c and c
    equal : Expression → Expression → Condition  -- e == e

  -- ē, a call's list
  pub data Arguments : Type 0 where
    end : Arguments
    argument : Expression → Arguments → Arguments

-- d ::= m(x̄) = e; the parameters are slots 0 upward
pub record Procedure : Type 0 where
  pub parameters : ℕ
  pub body : Expression

-- g ::= d; …; d, with document 01's version and volatile mask
pub record Program : Type 0 where
  pub version : Version
  pub volatiles : ℕ  -- 32 bits, the top one field 0
  pub procedures : List Procedure  -- procedure 0 is main

-- figure 5: e₁; e₂ ≜ let _ = e₁ in e₂; "A sequence is a let that binds nothing."
unfoldable pub sequence : Expression → Expression → Expression
sequence e e' = Expression.let_in none e e'

-- the two values of a condition: true, and false ≜ not true
unfoldable pub bool : Bool → Condition
bool true = Condition.truth
bool false = Condition.not Condition.truth

-- ---- substitution, [x̄ ↦ ō]e

-- values for slots
abbrev pub Environment : Type 0
Environment = ℕ → Option ℕ

-- [x ↦ o], and no other slot
unfoldable pub bind : Option ℕ → ℕ → Environment
bind none o y = none
bind (some x) o y = cond (eqb x y) (some o) none

-- [x̄ ↦ ō]: "Parameters fill variable slots 0 upward."
unfoldable pub bind_parameters : List ℕ → Environment
bind_parameters os y = get_elem? os y

-- the environment in the second operand of a let, where the slot that it binds is its own
unfoldable pub without : Option ℕ → Environment → Environment
without none ρ y = ρ y
without (some x) ρ y = cond (eqb x y) none (ρ y)

-- a slot's value in its place, or the slot
unfoldable pub value_or : ℕ → Option ℕ → Expression
value_or x (some o) = literal o
value_or x none = variable x

-- [ρ]e: "A let binds its slot in its second operand only."
unfoldable mutual
  unfolding value_or without

  pub substitute : Environment → Expression → Expression
  substitute ρ (literal o) = literal o
  substitute ρ (variable x) = value_or x (ρ x)
  substitute ρ (new fs) = new fs
  substitute ρ (read e f) = read (substitute ρ e) f
  substitute ρ (write e f e') = write (substitute ρ e) f (substitute ρ e')
  substitute ρ (let_in x e e') = let_in x (substitute ρ e) (substitute (without x ρ) e')
  substitute ρ (if c e e') = if (substituteᶜ ρ c) (substitute ρ e) (substitute ρ e')
  substitute ρ (while c e) = while (substituteᶜ ρ c) (substitute ρ e)
  substitute ρ (call m es) = call m (substituteᵃ ρ es)
  substitute ρ (fork e) = fork (substitute ρ e)
  substitute ρ (join e) = join (substitute ρ e)
  substitute ρ (synch e e') = synch (substitute ρ e) (substitute ρ e')
  substitute ρ (hold o e) = hold o (substitute ρ e)
  substitute ρ (signal k e) = signal k (substitute ρ e)
  substitute ρ (waiting o) = waiting o

  pub substituteᶜ : Environment → Condition → Condition
  substituteᶜ ρ truth = truth
  substituteᶜ ρ (not c) = not (substituteᶜ ρ c)
  substituteᶜ ρ (and c c') = and (substituteᶜ ρ c) (substituteᶜ ρ c')
  substituteᶜ ρ (equal e e') = equal (substitute ρ e) (substitute ρ e')

  pub substituteᵃ : Environment → Arguments → Arguments
  substituteᵃ ρ end = end
  substituteᵃ ρ (argument e es) = argument (substitute ρ e) (substituteᵃ ρ es)
