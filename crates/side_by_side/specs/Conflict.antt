-- E10, the converse: where two threads' next moves conflict. Assumes nothing.
use Rattle.std.specs.Prelude.{ℕ, ◌≡◌, false, List, [], ◌∷◌, ◌++◌}
use Rattle.std.proofs.Math.Option.{some}
use Rattle.plan_packed.specs.Syntax.{Program}
use Rattle.rules.specs.Context.{Redex}
use Rattle.rules.specs.State.{Cell, State, lookup}
use Rattle.rules.specs.Rules.{is_volatile}
use Rattle.rules.specs.Room.{Room, PickAnswerOf, step}
use Rattle.side_by_side.specs.SideBySide.{About}

-- the part is an access to field f of object o
pub data Accesses (o f : ℕ) : Redex → Type 0 where
  reads : Accesses o f (Redex.read o f)
  writes : {v : ℕ} → Accesses o f (Redex.write o f v)

-- "two threads' next moves conflict so": in state s thread p is about to write a plain field of an object, and thread q about to access it
pub record Conflict (g : Program) (s : State) (p q : ℕ) : Type 0 where
  pub two : p ≡ q → ⊥
  pub object : ℕ
  pub field : ℕ
  pub value : ℕ
  pub part : Redex
  pub about_write : About s p (Redex.write object field value)
  pub about_access : About s q part
  pub accesses : Accesses object field part
  pub cell : Cell
  pub field_there : lookup s object field ≡ some cell
  pub plain : is_volatile g field ≡ false

-- "the write would not stop for room"
abbrev pub HasRoom : Program → State → ℕ → Type 0
HasRoom g s p = (k : Room) → step g s p ≡ PickAnswerOf.no_room k → ⊥
