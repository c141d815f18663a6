-- The answer to a plan, stage by stage: checks 1 to 3, check 4, checks 5 and 6, check 7. Assumes nothing.
use Prim.Native.Nat.{ℕ, ◌<◌}
use mathlib.Core.Path.{◌≡◌, sym, ◌∙◌}
use mathlib.Core.Bool.{false}
use mathlib.Core.List.{List}
use mathlib.Core.Option.{some, none}
use lib.ListN.{take, drop}
use Rattle.format.specs.Refusal.{or_else, lowest, refuse, first_refusal}
use Rattle.format.proofs.RefusalLaws.{refusal_append, head_pass, tail_pass, none_is_pass}
use Rattle.plan_packed.specs.Format.{terms}
use Rattle.plan_packed.specs.Refusals.{wrong_term, not_named_once}
use Rattle.plan_packed.specs.Check.{checks, refusal}
use Rattle.plan_refusals.specs.Answer.{answered}
use Rattle.plan_refusals.proofs.Stages.{Checked, refused_first, passed_first, passed_none, told}
use Rattle.std.specs.Prelude.{Ok, Err}
use Rattle.refusals.specs.declared.Refusal.{Refusal}
use Rattle.refusals.specs.declared.Reason.TheVariants.{Term}

module _ (b : List ℕ) where
  stages : refusal b ≡ or_else (first_refusal (take 3 (checks b))) (refuse 4 (lowest (wrong_term b) (terms b)) (first_refusal (drop 4 (checks b))))
  unfolding refusal checks first_refusal
  stages = refusal_append (take 3 (checks b)) (drop 3 (checks b))

  -- one of checks 1 to 3 refuses
  pub by_header : (r : Checked) (c : Refusal) → answered r ≡ first_refusal (take 3 (checks b)) → r ≡ Err c → answered r ≡ refusal b
  by_header r c e q = refused_first _ _ r c e q ∙ sym stages

  -- none of them does
  module _ (h : Checked) (e : answered h ≡ first_refusal (take 3 (checks b))) {u : Unit {0}} (q : h ≡ Ok u) where
    pub headed : first_refusal (take 3 (checks b)) ≡ none
    headed = passed_none _ h e q

    -- check 4 does
    pub by_term : (i : ℕ) (c : Refusal) → lowest (wrong_term b) (terms b) ≡ some i → c ≡ record { reason = Term; place = i } → answered (Err c) ≡ refusal b
    unfolding refuse
    by_term i c l p = passed_first _ _ h (Err c) e q (told p ∙ sym (rw l)) ∙ sym stages

    -- the others are left
    pub by_trees : (r : Checked) → lowest (wrong_term b) (terms b) ≡ none → answered r ≡ first_refusal (drop 4 (checks b)) → answered r ≡ refusal b
    unfolding refuse
    by_trees r l p = passed_first _ _ h r e q (p ∙ sym (rw l)) ∙ sym stages

  -- checks 5 and 6, then check 7
  names_first : first_refusal (drop 4 (checks b)) ≡ or_else (first_refusal (take 2 (drop 4 (checks b)))) (first_refusal (drop 6 (checks b)))
  unfolding checks first_refusal
  names_first = refusal_append (take 2 (drop 4 (checks b))) (drop 6 (checks b))

  -- one of checks 5 and 6 refuses
  pub by_names : (r : Checked) (c : Refusal) → answered r ≡ first_refusal (take 2 (drop 4 (checks b))) → r ≡ Err c
      → answered r ≡ first_refusal (drop 4 (checks b))
  by_names r c e q = refused_first _ _ r c e q ∙ sym names_first

  -- neither does: every term is named once
  pub named_once : (h : Checked) {u : Unit {0}} → answered h ≡ first_refusal (take 2 (drop 4 (checks b))) → h ≡ Ok u → (t : ℕ) → t < terms b → not_named_once b t ≡ false
  unfolding checks
  named_once h e q t l = (head_pass (tail_pass ((none_is_pass (take 2 (drop 4 (checks b)))).0 (passed_none _ h e q)))).right t l

  -- check 7 is left
  pub by_slots : (h r : Checked) {u : Unit {0}} → answered h ≡ first_refusal (take 2 (drop 4 (checks b))) → h ≡ Ok u → answered r ≡ first_refusal (drop 6 (checks b))
      → answered r ≡ first_refusal (drop 4 (checks b))
  by_slots h r e q p = passed_first _ _ h r e q p ∙ sym names_first
