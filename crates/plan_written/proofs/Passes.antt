-- A written plan passes the check, and is its original but for the term numbers. Assumes nothing.
use Prim.Native.Nat.{ℕ, zero, suc, ◌+◌, ◌≤◌, ◌<◌}
use native.Mathlib.Decide.{ℕ_discrete}
use native.Mathlib.Omega.{arith}
use mathlib.Core.Path.{◌≡◌, refl, sym, ap, ap₂, ◌∙◌}
use mathlib.Core.Bool.{cond}
use mathlib.Core.List.{List, ◌∷◌}
use mathlib.Core.Option.{none}
use lib.Dec.{eqb}
use lib.ListN.{length}
use borrow.Author.Tests.{ne_eqb}
use Rattle.format.specs.Version.{v0, v1, version_of}
use Rattle.plan_packed.specs.Syntax.{Expression, Procedure, Program}
use Rattle.plan_packed.specs.Format
use Rattle.plan_packed.specs.Format.{version, terms, parameters, root}
use Rattle.plan_packed.specs.Trees.{tree_at, procedure_at, procedures_from, program_of}
use Rattle.plan_packed.specs.Check.{refusal}
use Rattle.plan_packed.proofs.Accepted.{Accepted, accepted}
use Rattle.plan_packed.proofs.Decoded.{procedures_are}
use Rattle.plan_written.specs.Alike.{Alike}
use Rattle.plan_written.specs.Written.{version_number, written}
use Rattle.plan_written.proofs.ReadBack.{Fitted, version_is, procedures_is, terms_is, volatiles_is, length_is}
use Rattle.plan_written.proofs.RightWritten.{program_of_lem, fitted, procedure_is, right_passes}
use Rattle.plan_written.proofs.RightPlans.{right_program}
pub use Rattle.plan_written.proofs.RightWritten.{plan_length_lem}
pub use Rattle.plan_written.proofs.RightPlans.{count_is, total_is, mask_is}

-- a version's number, read back
pub version_back : (v : ℕ) → v ≤ 1 → version_number (version_of v) ≡ v
unfolding version_number version_of
version_back v q = go (ℕ_discrete v 1)
  where
    go : Dec (v ≡ 1) → version_number (cond (eqb v 1) v1 v0) ≡ v
    go (yes e) = rw e
    go (no d) = rw (ne_eqb v 1 d) (omega (arith, d))

-- ---- plans that are the same but for their term numbers give the same program

module _ (b b' : List ℕ) where
  procedures_alike : (p : ℕ) → parameters b p ≡ parameters b' p → tree_at b (root b p) ≡ tree_at b' (root b' p) → procedure_at b p ≡ procedure_at b' p
  unfolding procedure_at
  procedures_alike p e f = ap₂ (λ (n : ℕ) (t : Expression). record { parameters = n; body = t }) e f

  from_alike : Alike b b' → (p n : ℕ) → p + n ≤ Format.procedures b → procedures_from b p n ≡ procedures_from b' p n
  unfolding procedures_from
  from_alike a p zero l = refl
  from_alike a p (suc n) l =
      ap₂ (λ (d : Procedure) (ds : List Procedure). d ∷ ds) (procedures_alike p (a.same_parameters p (omega arith)) (a.same_trees p (omega arith)))
      (from_alike a (suc p) n (omega arith))

  pub alike_program : Alike b b' → program_of b ≡ program_of b'
  unfolding program_of
  alike_program a =
      program_of_lem b (program_of b') (ap version_of a.same_version) a.same_mask
      (from_alike a 0 (Format.procedures b) (omega arith) ∙ ap (procedures_from b' 0) a.same_procedures)

  -- either way round
  pub alike_back : Alike b b' → Alike b' b
  alike_back a =
      record {
        same_version = sym a.same_version;
        same_mask = sym a.same_mask;
        same_procedures = sym a.same_procedures;
        same_parameters = λ p l. sym (a.same_parameters p (rw a.same_procedures l));
        same_trees = λ p l. sym (a.same_trees p (rw a.same_procedures l));
      }

  -- and one after the other
  pub alike_trans : (b'' : List ℕ) → Alike b b' → Alike b' b'' → Alike b b''
  alike_trans b'' a c =
      record {
        same_version = a.same_version ∙ c.same_version;
        same_mask = a.same_mask ∙ c.same_mask;
        same_procedures = a.same_procedures ∙ c.same_procedures;
        same_parameters = λ p l. a.same_parameters p l ∙ c.same_parameters p (rw a.same_procedures at l);
        same_trees = λ p l. a.same_trees p l ∙ c.same_trees p (rw a.same_procedures at l);
      }

-- ---- an accepted plan, written

module _ (b : List ℕ) (h : refusal b ≡ none) where
  abbrev g : Program
  g = program_of b

  abbrev w : List ℕ
  w = written g

  facts : Accepted b
  facts = accepted b h

  pub body_is : (p : ℕ) → (procedure_at b p).body ≡ tree_at b (root b p)
  unfolding procedure_at
  body_is p = refl

  pub parameters_are : (p : ℕ) → (procedure_at b p).parameters ≡ parameters b p
  unfolding procedure_at
  parameters_are p = refl

  pub version_of_lem : g.version ≡ version_of (version b)
  unfolding program_of
  version_of_lem = refl

  fits : Fitted g
  fits = fitted g (right_program b h)

  -- the numbers of its header
  procedures_same : Format.procedures w ≡ Format.procedures b
  procedures_same = procedures_is g fits ∙ count_is b h

  terms_same : terms w ≡ terms b
  terms_same = terms_is g fits ∙ total_is b h

  -- and its procedures are the original's
  procedure_same : (p : ℕ) → p < Format.procedures w → procedure_at w p ≡ procedure_at b p
  procedure_same p l = procedure_is g (right_program b h) p (procedure_at b p) (procedures_are b p (rw procedures_same at l))

  -- a written plan passes the check
  pub written_passes : refusal w ≡ none
  written_passes = right_passes g (right_program b h)

  -- its length is the original's
  pub written_length : length w ≡ length b
  written_length = length_is g fits ∙ omega (arith, plan_length_lem w, plan_length_lem b, procedures_same, terms_same) ∙ sym facts.length_right

-- and it is the same but for its term numbers
pub written_alike : (b : List ℕ) → refusal b ≡ none → Alike (written (program_of b)) b
written_alike b h =
    let g = program_of b in
    let w = written g in
    let h' = written_passes b h in
    record {
      same_version = version_is g (fits b h) ∙ ap version_number (version_of_lem b h) ∙ version_back (version b) (facts b h).version_known;
      same_mask = volatiles_is g (fits b h) ∙ mask_is b h;
      same_procedures = procedures_same b h;
      same_parameters = λ p l. sym (parameters_are w h' p) ∙ ap (λ (d : Procedure). d.parameters) (procedure_same b h p l) ∙ parameters_are b h p;
      same_trees = λ p l. sym (body_is w h' p) ∙ ap (λ (d : Procedure). d.body) (procedure_same b h p l) ∙ body_is b h p;
    }
