-- From what is to be read to what is left of it, goal after goal, by any number of steps that is enough. Assumes nothing.
use Prim.Native.Nat.{ℕ, zero, suc, ◌+◌, ◌-◌, ◌*◌, ◌≤◌, ◌<◌}
use native.Mathlib.Omega.{arith}
use mathlib.Core.Path.{◌≡◌, refl, subst, ◌∙◌}
use mathlib.Core.List.{List, [], ◌∷◌, ◌++◌}
use lib.ListN.{length, length-append}
use borrow.Author.Tests.{le-ltb, eq-eqb, ne_eqb}
use Rattle.plan_parsing.specs.Goals.{Goal, expect, make, Value, made}
use Rattle.plan_parsing.specs.Parser.{go, step, Parsed, parse_by, most_goals, most_values}
use Rattle.plan_parsing.proofs.StepsEnough.{Shrinks, step_shrinks}

-- where reading stands: the goals, the values, how many terms are left to be made, the tokens
pub data State : Type 0 where
  state : List Goal → List Value → ℕ → List ℕ → State

-- "a step for each goal and eight for each token"
abbrev pub steps_for : State → ℕ
steps_for (state gs vs n ts) = 8 * length ts + length gs

abbrev pub outcome : List ℕ → ℕ → State → Parsed
outcome counts steps (state gs vs n ts) = parse_by counts steps gs vs n ts

-- what comes of reading from a state, with enough steps
pub record Comes (counts : List ℕ) (p : Parsed) (s : State) : Type 0 where
  pub steps : ℕ
  pub enough : steps_for s < steps
  pub same : p ≡ outcome counts steps s

-- reading goes on from one state to another
pub record Leads (counts : List ℕ) (s s' : State) : Type 0 where
  pub leads : (steps : ℕ) → steps_for s < steps → Comes counts (outcome counts steps s) s'

-- a goal above these, and these values, can wait
abbrev pub Room : List Goal → List Value → Type 0
Room gs vs = (length gs < most_goals) × (length vs ≤ most_values)

module _ {counts : List ℕ} where
  infixr 20 ◌thence◌
  pub ◌thence◌ : {s s' s'' : State} → Leads counts s s' → Leads counts s' s'' → Leads counts s s''
  p thence q =
      record {
        leads = λ k h.
            let c = p.leads k h in
            let c' = q.leads c.steps c.enough in
            record { steps = c'.steps; enough = c'.enough; same = c.same ∙ c'.same };
      }

  -- the same state
  pub stays : {s s' : State} → s ≡ s' → Leads counts s s'
  stays {s} e = rw (← e) (record { leads = λ k h. record { steps = k; enough = h; same = refl } })

  -- by a step that gives these goals, values and tokens
  takes : (gs' : List Goal) (vs' : List Value) (n' : ℕ) (ts' : List ℕ) {g : Goal} {gs : List Goal} {vs : List Value} {n : ℕ} {ts : List ℕ}
      → step counts g vs n ts ≡ go gs' vs' n' ts' → Room gs vs → Leads counts (state (g ∷ gs) vs n ts) (state (gs' ++ gs) vs' n' ts')
  unfolding parse_by
  takes gs' vs' n' ts' {g} {gs} {vs} {n} {ts} e r = record { leads = first }
    where
      first : (k : ℕ) → 8 * length ts + suc (length gs) < k → Comes counts (parse_by counts k (g ∷ gs) vs n ts) (state (gs' ++ gs) vs' n' ts')
      first zero h = absurd (omega arith)
      first (suc k) h =
          record {
            steps = k;
            enough = omega (arith, length-append gs' gs, subst (Shrinks ts) e (step_shrinks vs n ts counts g));
            same = rw (le-ltb most_goals (suc (length gs)) r.0, le-ltb most_values (length vs) r.1, e);
          }

  -- that makes no term
  pub by_step : (gs' : List Goal) (vs' : List Value) (ts' : List ℕ) {g : Goal} {gs : List Goal} {vs : List Value} {n : ℕ} {ts : List ℕ}
      → step counts g vs n ts ≡ go gs' vs' n ts' → Room gs vs → Leads counts (state (g ∷ gs) vs n ts) (state (gs' ++ gs) vs' n ts')
  by_step gs' vs' ts' {n = n} e r = takes gs' vs' n ts' e r

  -- a term is made
  pub makes : {k : ℕ} {gs : List Goal} {vs : List Value} {n m : ℕ} {ts : List ℕ} → (n ≡ suc m) × Room gs vs
      → Leads counts (state (make k ∷ gs) vs n ts) (state gs (made k vs) m ts)
  unfolding step
  makes {k} {gs} {vs} {n} {m} {ts} room = takes [] (made k vs) m ts made_is (omega arith)
    where
      made_is : step counts (make k) vs n ts ≡ go [] (made k vs) m ts
      made_is = let e : n - 1 ≡ m = omega arith in rw (ne_eqb n 0 (λ z. omega arith), e)

  -- this token is there
  pub expects : {t : ℕ} {gs : List Goal} {vs : List Value} {n : ℕ} {ts : List ℕ} → Room gs vs
      → Leads counts (state (expect t ∷ gs) vs n (t ∷ ts)) (state gs vs n ts)
  unfolding step
  expects {t} {gs} {vs} {n} {ts} room = by_step [] vs ts (rw (eq-eqb t t refl)) (omega arith)
