-- When two plans are the same but for their term numbers (document 02, E5). Assumes nothing.
use Rattle.std.specs.Prelude.{ℕ, ◌<◌, ◌≡◌, List}
use Rattle.plan_packed.specs.Format
use Rattle.plan_packed.specs.Format.{version, volatiles, parameters, root}
use Rattle.plan_packed.specs.Trees.{tree_at}

-- "the same version, volatile mask, parameter counts and trees"
pub record Alike (b b' : List ℕ) : Type 0 where
  pub same_version : version b ≡ version b'
  pub same_mask : volatiles b ≡ volatiles b'
  pub same_procedures : Format.procedures b ≡ Format.procedures b'
  pub same_parameters : (p : ℕ) → p < Format.procedures b → parameters b p ≡ parameters b' p
  pub same_trees : (p : ℕ) → p < Format.procedures b → tree_at b (root b p) ≡ tree_at b' (root b' p)
