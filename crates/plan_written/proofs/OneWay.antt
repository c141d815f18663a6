-- The one way to write a plan, in document 02's words (E5). Assumes nothing.
use Prim.Native.Nat.{ℕ}
use mathlib.Core.Logic.{◌↔◌}
use mathlib.Core.Path.{◌≡◌, sym, ap, subst, ◌∙◌}
use mathlib.Core.List.{List}
use mathlib.Core.Option.{none}
use lib.ListN.{length}
use Rattle.plan_packed.specs.Trees.{program_of}
use Rattle.plan_packed.specs.Check.{refusal}
use Rattle.plan_written.specs.Alike.{Alike}
use Rattle.plan_written.specs.Written.{written, written_plan}
use Rattle.plan_written.proofs.Passes.{alike_program, alike_back, alike_trans, written_passes, written_alike, written_length}

module _ (b : List ℕ) (h : refusal b ≡ none) where
  -- a written plan passes the check
  pub passes : refusal (written_plan b) ≡ none
  unfolding written_plan
  passes = written_passes b h

  -- it has the same version, volatile mask, parameter counts and trees as its original
  pub alike : Alike (written_plan b) b
  unfolding written_plan
  alike = written_alike b h

  -- so it gives the same program
  pub same_program : program_of (written_plan b) ≡ program_of b
  same_program = alike_program (written_plan b) b alike

  -- its length is the original's
  pub same_length : length (written_plan b) ≡ length b
  unfolding written_plan
  same_length = written_length b h

  -- "Writing twice changes nothing."
  pub twice : written_plan (written_plan b) ≡ written_plan b
  unfolding written_plan
  twice = ap written same_program

-- "Two plans are written alike exactly when they have the same version, volatile mask, parameter counts and trees"
pub written_alike_exactly : (b b' : List ℕ) → refusal b ≡ none → refusal b' ≡ none → (written_plan b ≡ written_plan b') ↔ Alike b b'
unfolding written_plan
written_alike_exactly b b' h h' = (
  λ e. alike_trans b (written_plan b) b' (alike_back (written_plan b) b (alike b h)) (subst (λ (l : List ℕ). Alike l b') (sym e) (alike b' h')),
  λ a. ap written (alike_program b b' a),
)
