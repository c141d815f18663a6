-- E10 from the bytes of every accepted plan that is not left out, and its converse. Assumes nothing.
use Prim.Native.Nat.{ℕ, suc, ◌≤◌}
use native.Mathlib.Omega.{arith}
use mathlib.Core.Path.{◌≡◌, refl, ap, ◌∙◌}
use mathlib.Core.Bool.{Bool, true, false, ◌||◌, true≢false}
use mathlib.Core.List.{List, [], ◌∷◌, ◌++◌}
use mathlib.Core.Option.{none}
use lib.Dec.{eqb}
use lib.ListN.{length}
use borrow.Author.Tests.{eqb-false}
use Rattle.format.specs.Version.{v1, version_of}
use Rattle.plan_packed.specs.Format.{version}
use Rattle.plan_packed.specs.Trees.{program_of}
use Rattle.plan_packed.specs.Check.{refusal}
use Rattle.plan_packed.proofs.Accepted.{accepted}
use Rattle.plan_packed.proofs.Decoded.{well_formed}
use Rattle.log_order.specs.Chains.{Unordered}
use Rattle.rules.specs.Run.{Stop}
use Rattle.rules.specs.Play.{run_of}
use Rattle.side_by_side.specs.LeftOut.{has_wait, left_out}
use Rattle.side_by_side.specs.Moves.{moves_of}
use Rattle.side_by_side.specs.SideBySide.{Written, SideBySide}
use Rattle.side_by_side.specs.Conflict.{Conflict, HasRoom}
use Rattle.side_by_side.proofs.Waitless.{waitless}
use Rattle.side_by_side.proofs.Race.{race_unordered, from_race}
use Rattle.side_by_side.proofs.Conflict.{conflict_races}

neither : (x y : Bool) → (x || y) ≡ false → (x ≡ false) × (y ≡ false)
neither true y h = absurd (true≢false h)
neither false y h = (refl, h)

-- a plan that is not left out has version 1
module _ (b : List ℕ) (a : refusal b ≡ none) (k : left_out b ≡ false) where
  one_of_two : (n : ℕ) → n ≤ 1 → eqb n 0 ≡ false → n ≡ 1
  one_of_two n h e = let z = eqb-false n 0 e in omega (arith, z)

  parts : (eqb (version b) 0 ≡ false) × (has_wait b ≡ false)
  unfolding left_out
  parts = neither (eqb (version b) 0) (has_wait b) k

  version_1 : (program_of b).version ≡ v1
  unfolding program_of version_of
  version_1 = ap version_of (one_of_two (version b) (accepted b a).version_known parts.0)

  -- from a run that stopped for a missing key: the schedule, and the two accesses side by side at its end
  pub plan_from_race : (ps : List ℕ) → (run_of b ps).stop ≡ Stop.race → (qs : List ℕ) × (w : Written (program_of b) ps qs) × SideBySide (program_of b) ps qs w
  unfolding run_of
  plan_from_race ps r = from_race (program_of b) (well_formed b a) version_1 (waitless b a parts.1) ps r

  -- its failing access is the last of its moves, and unordered after the last write
  pub plan_unordered : (ps : List ℕ) → (run_of b ps).stop ≡ Stop.race
      → (j : ℕ) × (suc j ≡ length (moves_of (program_of b) ps)) × Unordered v1 (moves_of (program_of b) ps) j
  unfolding run_of
  plan_unordered ps r = race_unordered (program_of b) (well_formed b a) version_1 (waitless b a parts.1) ps r

-- and conversely, of every accepted plan
pub plan_conflict_races : (b : List ℕ) → refusal b ≡ none → (ps : List ℕ) → (run_of b ps).stop ≡ Stop.end → (p q : ℕ)
    → Conflict (program_of b) (run_of b ps).final p q
    → HasRoom (program_of b) (run_of b ps).final p → (run_of b (ps ++ (p ∷ q ∷ []))).stop ≡ Stop.race
unfolding run_of
plan_conflict_races b h ps r p q c room = conflict_races (program_of b) (well_formed b h) ps r p q c room
