-- What is read of a procedure is an expression that a plan can have, of as many terms as were made. Assumes nothing.
use Prim.Native.Nat.{ℕ, zero, suc, ◌+◌, ◌*◌, ◌≤◌, ◌<◌}
use native.Mathlib.Omega.{arith}
use mathlib.Core.Path.{◌≡◌, refl, sym, ap, subst, ◌∙◌}
use mathlib.Core.Bool.{Bool, true, false, cond, ◌||◌, true≢false}
use mathlib.Core.List.{List, [], ◌∷◌, ◌++◌}
use lib.Dec.{eqb, ltb}
use lib.ListN.{length, drop}
use borrow.Author.Tests.{ltb-true, eqb-true}
use Rattle.plan_packed.specs.Syntax.{Expression}
use Rattle.plan_written.specs.Terms.{terms_of, size}
use Rattle.plan_written.proofs.Right.{Right}
use Rattle.plan_notation.specs.Shown.{loose}
use Rattle.plan_notation.specs.Tokens.{procedure_word, opening, closing, equals, text_end}
use Rattle.plan_notation.proofs.TextEnd.{Ended}
use Rattle.plan_parsing.specs.Goals.{expression, Goal, expect, operand, Value, number, of_expression}
use Rattle.plan_parsing.specs.Goals as goals
use Rattle.plan_parsing.specs.Parser.{ahead, Step, go, stop, wanted, nesting, step, Parsed, parsed, stopped, after_step, parse_by, parse, most_goals}
use Rattle.plan_parsing.specs.Parser.{most_values}
use Rattle.plan_parsing.specs.Plan.{counts_from, procedure_goals}
use Rattle.plan_parsing.proofs.Wanted.{weights, Wants, wants_append, Passed, passed_none, passed_both}
use Rattle.plan_parsing.proofs.Branches.{either_way}
use Rattle.plan_parsing.proofs.StepsKeep.{Kept, step_keeps}

module _ (counts : List ℕ) (Q : List Value → Type 0) where
  -- what comes of goals, from these values, terms left and tokens
  abbrev ParsedKept : List Value → ℕ → List ℕ → Parsed → Type 0
  ParsedKept vs n ts (parsed vs' n' ts') = Q vs' × (weights vs' + n' ≡ weights vs + n) × Passed ts ts'
  ParsedKept vs n ts (stopped r ts') = Unit {0}

  later : (vs vs' : List Value) (n n' : ℕ) (ts ts' : List ℕ) (p : Parsed) → weights vs' + n' ≡ weights vs + n → Passed ts ts' → ParsedKept vs' n' ts' p
      → ParsedKept vs n ts p
  later vs vs' n n' ts ts' (parsed us m us') e q k = (k.0, k.1 ∙ e, passed_both ts ts' us' q k.2)
  later vs vs' n n' ts ts' (stopped r us) e q k = tt

  parse_keeps : (steps : ℕ) (gs : List Goal) (vs : List Value) (n : ℕ) (ts : List ℕ) → Wants counts gs Q vs
      → ParsedKept vs n ts (parse_by counts steps gs vs n ts)
  unfolding parse_by
  parse_keeps zero gs vs n ts w = tt
  parse_keeps (suc k) [] vs n ts w = (w, refl, passed_none ts)
  parse_keeps (suc k) (g ∷ gs) vs n ts w =
      either_way (ParsedKept vs n ts) (ltb most_goals (length (g ∷ gs)) || ltb most_values (length vs)) _ _ (λ z. tt)
      (λ z. after (λ gs' vs' n' ts' w'. parse_keeps k (gs' ++ gs) vs' n' ts' w') (step counts g vs n ts) (step_keeps counts (Wants counts gs Q) g vs n ts w))
    where
      next : List Goal → List Value → ℕ → List ℕ → Parsed
      next gs' vs' n' ts' = parse_by counts k (gs' ++ gs) vs' n' ts'

      after : ((gs' : List Goal) (vs' : List Value) (n' : ℕ) (ts' : List ℕ) → Wants counts (gs' ++ gs) Q vs' → ParsedKept vs' n' ts' (next gs' vs' n' ts'))
          → (x : Step)
          → Kept counts (Wants counts gs Q) vs n ts x → ParsedKept vs n ts (after_step next x)
      after ih (go gs' vs' n' ts') kept =
          later vs vs' n n' ts ts' (next gs' vs' n' ts') kept.1 kept.2
          (ih gs' vs' n' ts' (subst (λ (W : List Value → Type 0). W vs') (sym (wants_append counts gs' gs Q)) kept.0))
      after ih (stop r ts') kept = tt

-- ---- tokens that were there

none_stopped : {A : Type 0} (r : goals.Goal) (ts ts' : List ℕ) (vs : List Value) (n : ℕ) → stopped (wanted r) ts ≡ parsed vs n ts' → A
none_stopped r ts ts' vs n e = absurd (let z : ◌≡◌ {A = ℕ} 0 1 = cc in omega arith)

none_nested : {A : Type 0} (ts ts' : List ℕ) (vs : List Value) (n : ℕ) → stopped nesting ts ≡ parsed vs n ts' → A
none_nested ts ts' vs n e = absurd (let z : ◌≡◌ {A = ℕ} 0 1 = cc in omega arith)

module _ (counts : List ℕ) (gs : List Goal) (vs' : List Value) (n n' : ℕ) (ts' : List ℕ) where
  -- a token that was expected, and what was read behind it
  record Expected (t : ℕ) (vs : List Value) (ts : List ℕ) : Type 0 where
    rest : List ℕ
    steps : ℕ
    begins : ts ≡ t ∷ rest
    goes_on : parse_by counts steps gs vs n rest ≡ parsed vs' n' ts'

  expected : (k t : ℕ) (vs : List Value) (ts : List ℕ) → (t ≡ text_end → ⊥) → parse_by counts k (expect t ∷ gs) vs n ts ≡ parsed vs' n' ts' → Expected t vs ts
  unfolding parse_by
  expected zero t vs ts h e = none_nested ts ts' vs' n' e
  expected (suc k) t vs ts h e =
      either_way (λ (p : Parsed). p ≡ parsed vs' n' ts' → Expected t vs ts) (ltb most_goals (suc (length gs)) || ltb most_values (length vs)) _ _
      (λ z. none_nested ts ts' vs' n') (λ z. by_token ts (eqb (ahead ts 0) t) refl) e
    where
      by_token : (us : List ℕ) (x : Bool) → eqb (ahead us 0) t ≡ x
          → after_step (λ gs' vs' n' ts'. parse_by counts k (gs' ++ gs) vs' n' ts') (cond x (go [] vs n (drop 1 us)) (stop (wanted (expect t)) us)) ≡ parsed
          vs' n' ts' → Expected t vs us
      by_token us false q e = none_stopped (expect t) us ts' vs' n' e
      by_token [] true q e = absurd (h (sym (eqb-true text_end t q)))
      by_token (u ∷ us) true q e = record { rest = us; steps = k; begins = ap (λ (t : ℕ). t ∷ us) (eqb-true u t q); goes_on = e }

  -- a count of parameters
  record Counted (vs : List Value) (ts : List ℕ) : Type 0 where
    parameters : ℕ
    few : parameters ≤ 8
    rest : List ℕ
    steps : ℕ
    begins : ts ≡ parameters ∷ rest
    goes_on : parse_by counts steps gs (number parameters ∷ vs) n rest ≡ parsed vs' n' ts'

  counted : (k : ℕ) (vs : List Value) (ts : List ℕ) → parse_by counts k (goals.count ∷ gs) vs n ts ≡ parsed vs' n' ts' → Counted vs ts
  unfolding parse_by
  counted zero vs ts e = none_nested ts ts' vs' n' e
  counted (suc k) vs ts e =
      either_way (λ (p : Parsed). p ≡ parsed vs' n' ts' → Counted vs ts) (ltb most_goals (suc (length gs)) || ltb most_values (length vs)) _ _
      (λ z. none_nested ts ts' vs' n') (λ z. by_token ts (ltb (ahead ts 0) 9) refl) e
    where
      by_token : (us : List ℕ) (x : Bool) → ltb (ahead us 0) 9 ≡ x
          → after_step (λ gs' vs' n' ts'. parse_by counts k (gs' ++ gs) vs' n' ts')
          (cond x (go [] (number (ahead us 0) ∷ vs) n (drop 1 us)) (stop (wanted goals.count) us)) ≡ parsed vs' n' ts' → Counted vs us
      by_token us false q e = none_stopped goals.count us ts' vs' n' e
      by_token [] true q e = absurd (true≢false (sym q))
      by_token (u ∷ us) true q e = let small = ltb-true u 9 q in record { parameters = u; few = omega arith; rest = us; steps = k; begins = refl; goes_on = e }

-- ---- a procedure

-- what was read of a procedure with k parameters, from tokens ts and n terms, where these values, m terms and tokens rest are left
pub record ReadProcedure (counts : List ℕ) (n m k : ℕ) (vs : List Value) (ts rest : List ℕ) : Type 0 where
  pub body : Expression
  pub right : Right counts body
  pub others : List Value
  pub values : vs ≡ of_expression body ∷ number k ∷ others
  pub sized : size (terms_of body) + m ≡ n
  pub same_counts : counts_from rest ≡ counts_from ts
  pub still_ended : Ended ts → Ended rest

module _ (counts : List ℕ) (n m : ℕ) (vs : List Value) (rest : List ℕ) where
  -- an expression above these values
  abbrev Above : List Value → List Value → Type 0
  Above us vs' = (e : Expression) × Right counts e × (vs' ≡ of_expression e ∷ us)

  -- of goals that want it
  body_read : (steps k : ℕ) (gs : List Goal) (us : List Value) (ts : List ℕ) → weights us ≡ 0 → Wants counts gs (Above (number k ∷ us)) (number k ∷ us)
      → parse_by counts steps gs (number k ∷ us) n ts ≡ parsed vs m rest → ReadProcedure counts n m k vs ts rest
  body_read steps k gs us ts light w e =
      let kept = subst (ParsedKept counts (Above (number k ∷ us)) (number k ∷ us) n ts) e
      (parse_keeps counts (Above (number k ∷ us)) steps gs (number k ∷ us) n ts w) in
      let a = kept.0 in
      let z = a.2 in
      record {
        body = a.0;
        right = a.1;
        others = us;
        values = z;
        sized = let q = kept.1 in let y = ap weights z in omega arith;
        same_counts = kept.2.same_counts;
        still_ended = kept.2.still_ended;
      }

  pub main_read : (ts : List ℕ) → parse counts (procedure_goals 0) (number 0 ∷ []) n ts ≡ parsed vs m rest → ReadProcedure counts n m 0 vs ts rest
  unfolding parse procedure_goals
  main_read ts e = body_read (8 * length ts + 2) 0 (operand loose expression ∷ []) [] ts refl (λ x r. (x, r, refl)) e

  -- behind these tokens, a count and the body
  pub record ReadBehind (front ts : List ℕ) : Type 0 where
    pub parameters : ℕ
    pub few : parameters ≤ 8
    pub tokens : List ℕ
    pub begins : ts ≡ front ++ (parameters ∷ tokens)
    pub read : ReadProcedure counts n m parameters vs tokens rest

  token_more : (t : ℕ) (front ts us : List ℕ) → us ≡ t ∷ ts → ReadBehind front ts → ReadBehind (t ∷ front) us
  token_more t front ts us e r =
      record { parameters = r.parameters; few = r.few; tokens = r.tokens; begins = e ∙ ap (λ (l : List ℕ). t ∷ l) r.begins; read = r.read }

  abbrev body_goals : List Goal
  body_goals = expect closing ∷ expect equals ∷ operand loose expression ∷ []

  count_read : (us : List ℕ) → Counted counts body_goals vs n m rest (number 0 ∷ []) us → ReadBehind [] us
  count_read us c =
      record {
        parameters = c.parameters;
        few = c.few;
        tokens = c.rest;
        begins = c.begins;
        read = body_read c.steps c.parameters body_goals (number 0 ∷ []) c.rest refl (omega arith, (omega arith, λ x r. (x, r, refl))) c.goes_on;
      }

  opening_read : (us : List ℕ) → Expected counts (goals.count ∷ body_goals) vs n m rest opening (number 0 ∷ []) us → ReadBehind (opening ∷ []) us
  opening_read us x =
      token_more opening [] x.rest us x.begins
      (count_read x.rest (counted counts body_goals vs n m rest x.steps (number 0 ∷ []) x.rest x.goes_on))

  number_read : (p : ℕ) (us : List ℕ) → Expected counts (expect opening ∷ goals.count ∷ body_goals) vs n m rest p (number 0 ∷ []) us
      → ReadBehind (p ∷ opening ∷ []) us
  number_read p us x =
      token_more p (opening ∷ []) x.rest us x.begins
      (opening_read x.rest (expected counts (goals.count ∷ body_goals) vs n m rest x.steps opening (number 0 ∷ []) x.rest (λ z. omega arith)
      x.goes_on))

  word_read : (p : ℕ) (us : List ℕ) → p < 32
      → Expected counts (expect p ∷ expect opening ∷ goals.count ∷ body_goals) vs n m rest procedure_word (number 0 ∷ []) us
      → ReadBehind (procedure_word ∷ p ∷ opening ∷ []) us
  word_read p us small x =
      token_more procedure_word (p ∷ opening ∷ []) x.rest us x.begins
      (number_read p x.rest (expected counts (expect opening ∷ goals.count ∷ body_goals) vs n m rest x.steps p (number 0 ∷ []) x.rest
      (λ z. omega arith)
      x.goes_on))

  -- `procedure p (k) = e`
  pub procedure_read : (p : ℕ) (ts : List ℕ) → suc p < 32 → parse counts (procedure_goals (suc p)) (number 0 ∷ []) n ts ≡ parsed vs m rest
      → ReadBehind (procedure_word ∷ suc p ∷ opening ∷ []) ts
  unfolding parse procedure_goals
  procedure_read p ts small e =
      word_read (suc p) ts small
      (expected counts (expect (suc p) ∷ expect opening ∷ goals.count ∷ body_goals) vs n m rest (8 * length ts + 8) procedure_word (number 0 ∷ []) ts
      (λ z. omega arith) e)
