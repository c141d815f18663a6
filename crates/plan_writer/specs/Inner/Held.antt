-- A program that is held in arrays: its terms, the root and the parameter count of each procedure. No reader of the entry's promise needs it. Assumes nothing.
use Rattle.std.specs.Prelude.{ℕ, zero, suc, ◌+◌, ◌*◌, ◌^◌, ◌≤◌, ◌<◌, ◌≡◌, List, [], ◌∷◌, length, get_or}
use Rattle.format.specs.Version.{version_of}
use Rattle.plan_packed.specs.Syntax.{Procedure, Program}
use Rattle.plan_packed.specs.Inner.Steps.{Ordered, tree_in}
use Rattle.plan_written.specs.Written.{size_of_all}

-- procedure p
unfoldable pub held_procedure : List ℕ → List ℕ → List ℕ → ℕ → Procedure
unfolding tree_in
held_procedure words roots counts p = record { parameters = get_or counts p 0; body = tree_in words (get_or roots p 0) }

-- n procedures from procedure p on
unfoldable pub held_from : List ℕ → List ℕ → List ℕ → ℕ → ℕ → List Procedure
unfolding held_procedure
held_from words roots counts p zero = []
held_from words roots counts p (suc n) = held_procedure words roots counts p ∷ held_from words roots counts (suc p) n

-- the program
unfoldable pub held_program : ℕ → ℕ → ℕ → List ℕ → List ℕ → List ℕ → Program
unfolding held_from version_of
held_program v m n words roots counts = record { version = version_of v; volatiles = m; procedures = held_from words roots counts 0 n }

-- it can be written: n procedures and so many terms, in an area that is long enough
pub record Writable (v m n terms : ℕ) (words roots counts area : List ℕ) : Type 0 where
  pub ordered : Ordered words
  pub version_known : v ≤ 1
  pub mask_fits : m < 2 ^ 32
  pub few_procedures : n ≤ 32
  pub few_terms : terms ≤ 1024
  pub root_inside : (p : ℕ) → p < n → get_or roots p 0 < 1024
  pub few_parameters : (p : ℕ) → p < n → get_or counts p 0 ≤ 8
  pub sized : size_of_all (held_from words roots counts 0 n) ≡ terms
  pub long : 8 + 2 * n + 5 * terms ≤ length area
