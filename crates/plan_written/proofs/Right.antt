-- Expressions and programs that a plan can have: what document 01's checks ask of its terms, on trees. Assumes nothing.
use Prim.Native.Nat.{ℕ, ◌+◌, ◌^◌, ◌≤◌, ◌<◌}
use mathlib.Core.Path.{◌≡◌}
use mathlib.Core.Bool.{true}
use mathlib.Core.List.{List, [], ◌∷◌}
use mathlib.Core.Option.{Option, some, none}
use lib.Dec.{ltb}
use lib.ListN.{length, get_or}
use Rattle.plan_packed.specs.Syntax.{Expression, Condition, Arguments, Procedure, Program}
use Rattle.plan_packed.specs.Format.{fields_from}
use Rattle.plan_packed.specs.Slots.{closed}
use Rattle.plan_packed.proofs.WellFormed.{count}
use Rattle.plan_written.specs.Terms.{mask_of}
use Rattle.plan_written.specs.Written.{size_of_all}

-- fields, each higher than the one before and than field f
abbrev pub Ascending : ℕ → List ℕ → Type 0
Ascending f [] = Unit {0}
Ascending f (g ∷ gs) = (f < g) × (g < 32) × Ascending g gs

-- the fields of a new: eight at most, not field 0, all those of a mask
pub record RightFields (fs : List ℕ) : Type 0 where
  pub ascending : Ascending 0 fs
  pub few : length fs ≤ 8
  pub of_mask : fields_from (mask_of fs) 0 32 ≡ fs

-- "slot 0 to 7, or 15 binds nothing"
abbrev pub RightSlot : Option ℕ → Type 0
RightSlot none = Unit {0}
RightSlot (some x) = x < 8

-- a field's name
abbrev pub RightField : ℕ → Type 0
RightField f = (0 < f) × (f < 32)

-- a call of a procedure that there is, with an argument for each parameter
pub record RightCall (counts : List ℕ) (m : ℕ) (es : Arguments) : Type 0 where
  pub small : m < 32
  pub present : m < length counts
  pub each_parameter : count es ≡ get_or counts m 0

-- an expression, where the procedures have these counts of parameters
module _ (counts : List ℕ) where
  abbrev mutual
    pub Right : Expression → Type 0
    Right (Expression.literal o) = o ≡ 0
    Right (Expression.variable x) = x < 8
    Right (Expression.new fs) = RightFields fs
    Right (Expression.read e f) = Right e × RightField f
    Right (Expression.write e f e') = Right e × RightField f × Right e'
    Right (Expression.let_in x e e') = RightSlot x × Right e × Right e'
    Right (Expression.if c e e') = Rightᶜ c × Right e × Right e'
    Right (Expression.while c e) = Rightᶜ c × Right e
    Right (Expression.call m es) = RightCall counts m es × Rightᵃ es
    Right (Expression.fork e) = Right e
    Right (Expression.join e) = Right e
    Right (Expression.synch e e') = Right e × Right e'
    Right (Expression.hold o e) = ⊥
    Right (Expression.signal k e) = Right e
    Right (Expression.waiting o) = ⊥

    pub Rightᶜ : Condition → Type 0
    Rightᶜ Condition.truth = Unit {0}
    Rightᶜ (Condition.not c) = Rightᶜ c
    Rightᶜ (Condition.and c c') = Rightᶜ c × Rightᶜ c'
    Rightᶜ (Condition.equal e e') = Right e × Right e'

    pub Rightᵃ : Arguments → Type 0
    Rightᵃ Arguments.end = Unit {0}
    Rightᵃ (Arguments.argument e es) = Right e × Rightᵃ es

-- the counts of parameters of these procedures
abbrev pub counts_in : List Procedure → List ℕ
counts_in [] = []
counts_in (d ∷ ds) = d.parameters ∷ counts_in ds

pub record RightDefinition (counts : List ℕ) (d : Procedure) : Type 0 where
  pub few_parameters : d.parameters ≤ 8
  pub right_body : Right counts d.body
  pub all_bound : closed (λ x. ltb x d.parameters) d.body ≡ true

abbrev pub RightDefinitions : List ℕ → List Procedure → Type 0
RightDefinitions counts [] = Unit {0}
RightDefinitions counts (d ∷ ds) = RightDefinition counts d × RightDefinitions counts ds

-- main is first, without parameters; field 0 is volatile
pub record RightProgram (g : Program) : Type 0 where
  pub some_procedure : 1 ≤ length g.procedures
  pub few_procedures : length g.procedures ≤ 32
  pub few_terms : size_of_all g.procedures ≤ 1024
  pub main_bare : get_or (counts_in g.procedures) 0 0 ≡ 0
  pub monitor_volatile : g.volatiles ≡ 2 ^ 31 + mask_of (fields_from g.volatiles 1 31)
  pub each_procedure : RightDefinitions (counts_in g.procedures) g.procedures
