-- Turn after turn reads what the definition reads. Assumes nothing.
use Prim.Native.Nat.{ℕ, zero, suc, ◌+◌, ◌-◌, ◌*◌, ◌≤◌, ◌<◌}
use native.Mathlib.Decide.{dec_lt}
use native.Mathlib.Omega.{arith}
use mathlib.Core.Path.{◌≡◌, refl, sym, ap, ◌∙◌}
use mathlib.Core.Bool.{true, false, ◌&&◌, true≢false}
use mathlib.Core.List.{List, [], ◌∷◌, ◌++◌, append-nil}
use lib.ListN.{length, get_or, drop, length-drop}
use lib.Dec.{eqb, ltb}
use borrow.Author.Tests.{lt-ltb, le-ltb, ltb-true, eq-eqb}
use Rattle.plan_packed.specs.Inner.Steps.{Ordered, tree_in}
use Rattle.plan_parsing.specs.Goals.{Goal, Value, number, number_in, expression_in, value_at}
use Rattle.plan_parsing.specs.Parser as definition
use Rattle.plan_parsing.specs.Parser.{Reason, Step, go, stop, step, after_step, parse_by, parse}
use Rattle.plan_parsing.specs.Plan.{procedure_goals}
use Rattle.plan_parser_goals.specs.Inner.Encoded.{goal_of, reason_of, goals_of, value_of, values_of}
use Rattle.plan_parser_goals.specs.Inner.Moves.{IsTerm, IsBelow, Operands, Fits, onto}
use Rattle.plan_parser.specs.Inner.Stacks.{Stacked, Entries}
use Rattle.plan_parser.specs.Inner.Reading.{Sized, terms_left, State, Going, NoneLeft, shown, Kept, Turned, Resumes, Reads, Ran, read_from, crowded_by}
use Rattle.plan_parser.specs.declared.turns.Standing.{Standing}
use Rattle.plan_parser.specs.declared.turns.Halt.{Halt}
use Rattle.plan_parser.specs.Inner.Reading.{Turn}
use Rattle.std.specs.Prelude.{Option, Some, None, Result, Ok, Err}
use Rattle.plan_parser.specs.declared.Parsed.{Parsed}
use Rattle.plan_parser.proofs.FitLaws.{and_second}
use Rattle.plan_parser.proofs.TurnLaws.{resized}
use Rattle.plan_parser.proofs.TermLaws.{sorts_agree, no_number}

-- ---- lengths

length_goals : (goals : List ℕ) (n : ℕ) → length (goals_of goals n) ≡ n
unfolding goals_of
length_goals goals zero = refl
length_goals goals (suc n) = ap suc (length_goals goals n)

length_values : (words values : List ℕ) (n : ℕ) → length (values_of words values n) ≡ n
unfolding values_of
length_values words values zero = refl
length_values words values (suc n) = ap suc (length_values words values n)

-- ---- a step of the definition

-- what follows a step
unfoldable resumed : List ℕ → ℕ → Step → definition.Parsed
unfolding parse_by
resumed counts f (go gs vs n ts) = parse_by counts f gs vs n ts
resumed counts f (stop r ts) = definition.stopped r ts

after_is : (counts : List ℕ) (f : ℕ) (gs : List Goal) (x : Step)
    → after_step (λ (gs' : List Goal) (vs' : List Value) (n' : ℕ) (ts' : List ℕ). parse_by counts f (gs' ++ gs) vs' n' ts') x ≡ resumed counts f (onto gs x)
unfolding after_step resumed onto
after_is counts f gs (go gs' vs n ts) = refl
after_is counts f gs (stop r ts) = refl

module _ (counts goals : List ℕ) (vs : List Value) (n : ℕ) (ts : List ℕ) where
  parse_turn : (m steps : ℕ) → 0 < m → m ≤ 8400 → length vs ≤ 3100 → 0 < steps
      → parse_by counts steps (goals_of goals m) vs n ts ≡ resumed counts (steps - 1)
      (onto (goals_of goals (m - 1)) (step counts (goal_of (get_or goals (m - 1) 0)) vs n ts))
  unfolding parse_by goals_of
  parse_turn zero steps a b c d = absurd (omega arith)
  parse_turn (suc m) zero a b c d = absurd (omega arith)
  parse_turn (suc m) (suc f) a b c d =
      let p : suc m - 1 ≡ m = omega arith in
      let q : suc f - 1 ≡ f = omega arith in
      let l = length_goals goals m in
      rw (p, q, le-ltb 8400 (suc (length (goals_of goals m))) (omega arith), le-ltb 3100 (length vs) c)
      (after_is counts f (goals_of goals m) (step counts (goal_of (get_or goals m 0)) vs n ts))

  parse_many : (m steps : ℕ) → 8400 < m → 0 < steps → parse_by counts steps (goals_of goals m) vs n ts ≡ definition.stopped Reason.nesting ts
  unfolding parse_by goals_of
  parse_many zero steps b d = absurd (omega arith)
  parse_many (suc m) zero b d = absurd (omega arith)
  parse_many (suc m) (suc f) b d = let l = length_goals goals m in rw (lt-ltb 8400 (suc (length (goals_of goals m))) (omega arith))

  parse_full : (m steps : ℕ) → 0 < m → m ≤ 8400 → 3100 < length vs → 0 < steps → parse_by counts steps (goals_of goals m) vs n ts ≡ definition.stopped
      Reason.nesting ts
  unfolding parse_by goals_of
  parse_full zero steps a b c d = absurd (omega arith)
  parse_full (suc m) zero a b c d = absurd (omega arith)
  parse_full (suc m) (suc f) a b c d =
      let l = length_goals goals m in
      rw (le-ltb 8400 (suc (length (goals_of goals m))) (omega arith), lt-ltb 3100 (length vs) c)

  parse_end : (m steps : ℕ) → m ≡ 0 → 0 < steps → parse_by counts steps (goals_of goals m) vs n ts ≡ definition.parsed vs n ts
  unfolding parse_by goals_of
  parse_end zero zero e d = absurd (omega arith)
  parse_end zero (suc f) e d = refl
  parse_end (suc m) steps e d = absurd (omega arith)

-- ---- the last values

module _ (words : List ℕ) (o : Ordered words) (e : ℕ) where
  term_value_lem : IsTerm (value_of words e) → (e < 1024) × (tree_in words e ≡ expression_in (value_of words e))
  unfolding value_of
  term_value_lem t = go (dec_lt e 1024)
    where
      go : Dec (e < 1024) → (e < 1024) × (tree_in words e ≡ expression_in (value_of words e))
      go (yes h) = (h, rw (lt-ltb e 1024 h) (sorts_agree words o e).0)
      go (no h) = absurd (rw (le-ltb e 1024 (omega (arith, h))) at t)

  number_value : (b : ℕ) → IsBelow b (value_of words e) → (1024 ≤ e) × (e - 1024 ≡ number_in (value_of words e)) × (e - 1024 < b)
  unfolding value_of number_in
  number_value b t = go (dec_lt e 1024)
    where
      go : Dec (e < 1024) → (1024 ≤ e) × (e - 1024 ≡ number_in (value_of words e)) × (e - 1024 < b)
      go (yes h) = absurd (no_number words o b e (rw (lt-ltb e 1024 h) at t))
      go (no h) = let t' = rw (le-ltb e 1024 (omega (arith, h))) at t in (omega (arith, h), rw (le-ltb e 1024 (omega (arith, h))) refl, t')

-- an expression on a number
record Ends (words values : List ℕ) (n left : ℕ) : Type 0 where
  pub two : 2 ≤ n
  pub tree_is : tree_in words (get_or values (n - 1) 0) ≡ expression_in (value_at (values_of words values n) 0)
  pub root_below : get_or values (n - 1) 0 < 1024
  pub root_there : left ≤ get_or values (n - 1) 0
  pub number_there : 1024 ≤ get_or values (n - 2) 0
  pub number_is : get_or values (n - 2) 0 - 1024 ≡ number_in (value_at (values_of words values n) 1)
  pub number_small : get_or values (n - 2) 0 - 1024 < 9

ends : (words values : List ℕ) (o : Ordered words) (n left : ℕ) → Entries left values n → Operands (0 ∷ 9 ∷ []) (values_of words values n) → Ends words
    values n left
unfolding values_of
ends words values o zero left e p = absurd p
ends words values o (suc zero) left e p = absurd p.1
ends words values o (suc (suc n)) left e p =
    let a : suc (suc n) - 1 ≡ suc n = omega arith in
    let b : suc (suc n) - 2 ≡ n = omega arith in
    let t = term_value_lem words o (get_or values (suc n) 0) p.0 in
    let m = number_value words o (get_or values n 0) 9 p.1.0 in
    record {
      two = omega arith;
      tree_is = rw a t.1;
      root_below = rw a t.0;
      root_there = rw a (e (suc n) (omega arith)).0;
      number_there = rw b m.0;
      number_is = rw b m.1;
      number_small = rw b m.2;
    }

-- ---- the loop

-- what holds before every turn
pub record Before (counts tokens goals₀ values₀ words₀ : List ℕ) (s₀ : Standing) (goals values words : List ℕ) (s : Standing) : Type 0 where
  pub state : State tokens goals values words s
  pub kept : Kept s₀.left words₀ words
  pub fewer : s.left ≤ s₀.left
  pub resumes : Resumes counts tokens goals values words s (read_from counts tokens goals₀ values₀ words₀ s₀)
  pub goals_stay : length goals ≡ length goals₀
  pub values_stay : length values ≡ length values₀

pub begins : (counts tokens goals values words : List ℕ) (s : Standing) → State tokens goals values words s → Before counts tokens goals values words s
    goals values words s
unfolding parse
begins counts tokens goals values words s st =
    let l = length_goals goals s.goals in
    let d = length-drop s.at tokens in
    record {
      state = st;
      kept = record { ordered = st.ordered; long = refl; terms_stay = λ i h. refl };
      fewer = omega arith;
      resumes = record { steps = 8 * length (drop s.at tokens) + suc (length (goals_of goals s.goals)); enough = omega arith; same = refl };
      goals_stay = refl;
      values_stay = refl;
    }

module _ (counts tokens goals₀ values₀ words₀ : List ℕ) (s₀ : Standing) (goals values words : List ℕ) (s : Standing)
    (b : Before counts tokens goals₀ values₀ words₀ s₀ goals values words s) where
  abbrev R : definition.Parsed
  R = read_from counts tokens goals₀ values₀ words₀ s₀

  abbrev terms : ℕ
  terms = terms_left words s.left

  some_steps : 0 < b.resumes.steps
  some_steps = let e = b.resumes.enough in omega arith

  pub last_ends : s.goals ≡ 0 → (2 ≤ s.values) × (s.values ≤ length values) × (1024 ≤ get_or values (s.values - 2) 0)
  unfolding goals_of
  last_ends e =
      let f = rw e at b.state.fits in
      let z = ends words values b.state.ordered s.values s.left b.state.entries f in
      let v = b.state.values_few in
      (z.two, omega arith, z.number_there)

  pub run_ends : s.goals ≡ 0 → (r : Parsed)
      → r ≡ record { root = get_or values (s.values - 1) 0; parameters = get_or values (s.values - 2) 0 - 1024; left = s.left; at = s.at }
      → Ran tokens words₀ words s₀.left R (Some (Ok r))
  unfolding goals_of
  run_ends e r q =
      let f = rw e at b.state.fits in
      let z = ends words values b.state.ordered s.values s.left b.state.entries f in
      let p : R ≡ definition.parsed (values_of words values s.values) terms (drop s.at tokens) =
      b.resumes.same ∙ parse_end counts goals (values_of words values s.values) terms (drop s.at tokens) s.goals b.resumes.steps e
      some_steps
      in
      record {
        reads =
            rw (p, q)
            (record {
              tree_is = z.tree_is;
              parameters_are = z.number_is;
              left_is = refl;
              rest_is = refl;
              root_there = z.root_there;
              root_below = z.root_below;
              parameters_few = z.number_small;
              inside = b.state.inside;
              fewer = b.fewer;
            });
        kept = b.kept;
      }

  nesting : R ≡ definition.stopped Reason.nesting (drop s.at tokens) → Ran tokens words₀ words s₀.left R (Some (Err (record { reason = 1001; at = s.at })))
  unfolding reason_of
  nesting p = record { reads = rw p (refl, refl); kept = b.kept }

  -- the arrays are short
  full : length words < 1024 → Ran tokens words₀ words s₀.left R None
  full h = record { reads = each R; kept = b.kept }
    where
      each : (x : definition.Parsed) → Reads tokens words s₀.left x None
      each (definition.parsed vs n rest) = h
      each (definition.stopped x rest) = h

  -- or goals or values are too many
  crowded : (length words ≡ 1024 → R ≡ definition.stopped Reason.nesting (drop s.at tokens)) → (r : Option (Result Parsed Halt)) → r ≡ crowded_by words s.at
      → Ran tokens words₀ words s₀.left R r
  unfolding crowded_by
  crowded p r q = go (dec_lt (length words) 1024)
    where
      go : Dec (length words < 1024) → Ran tokens words₀ words s₀.left R r
      go (yes h) = rw (q, lt-ltb (length words) 1024 h) (full h)
      go (no h) = let m = b.state.sized.most_words in rw (q, le-ltb (length words) 1024 (omega (arith, h))) (nesting (p (omega (arith, h))))

  pub run_many : length goals - 8 < s.goals → (r : Option (Result Parsed Halt)) → r ≡ crowded_by words s.at → Ran tokens words₀ words s₀.left R r
  run_many h = crowded (λ e. b.resumes.same ∙ parse_many counts goals (values_of words values s.values) terms (drop s.at tokens) s.goals
      b.resumes.steps (let w = (b.state.sized.whole e).0 in omega arith) some_steps)

  module _ (d : s.goals ≡ 0 → ⊥) (l : s.goals ≤ length goals - 8) where
    few : s.goals ≤ 8400
    few = let m = b.state.sized.most_goals in omega arith

    pub run_full : length values - 8 < s.values → (r : Option (Result Parsed Halt)) → r ≡ crowded_by words s.at → Ran tokens words₀ words s₀.left R r
    run_full h =
        let v = length_values words values s.values in
        crowded (λ e. b.resumes.same ∙ parse_full counts goals (values_of words values s.values) terms (drop s.at tokens) s.goals
        b.resumes.steps (omega (arith, d)) few (let w = (b.state.sized.whole e).1 in omega arith) some_steps)

    pub run_short : (eqb s.left 0 && ltb (length words) 1024) ≡ true → Ran tokens words₀ words s₀.left R None
    run_short e = full (ltb-true (length words) 1024 (and_second (eqb s.left 0) (ltb (length words) 1024) e))

    pub none_left : (eqb s.left 0 && ltb (length words) 1024) ≡ false → NoneLeft words s
    none_left f e = go (dec_lt (length words) 1024)
      where
        go : Dec (length words < 1024) → length words ≡ 1024
        go (yes h) = absurd (true≢false (rw (eq-eqb s.left 0 e, lt-ltb (length words) 1024 h) at f))
        go (no h) = let m = b.state.sized.most_words in omega (arith, h)

    module _ (k : s.values ≤ length values - 8) where
      pub going : Going goals values s
      going =
          let g = b.state.sized.some_goals in
          let v = b.state.sized.some_values in
          record { some_goal = omega (arith, d); few_goals = omega arith; few_values = omega arith }

      turn_same : (goals' values' words' : List ℕ) (r : Turn) → Turned tokens counts goals values words goals' values' words' s r → R ≡ resumed counts
          (b.resumes.steps - 1) (shown tokens goals' values' words' r)
      turn_same goals' values' words' r t =
          let v = length_values words values s.values in
          b.resumes.same
          ∙ parse_turn counts goals (values_of words values s.values) terms (drop s.at tokens) s.goals b.resumes.steps (omega (arith, d)) few
          (let m = b.state.sized.most_values in omega arith) some_steps
          ∙ ap (resumed counts (b.resumes.steps - 1)) (sym t.says)

      still : (words' : List ℕ) → Kept s.left words words' → Kept s₀.left words₀ words'
      still words' q = record {
        ordered = q.ordered;
        long = q.long ∙ b.kept.long;
        terms_stay = λ i h. let f = b.fewer in q.terms_stay i (omega arith) ∙ b.kept.terms_stay i h;
      }

      pub run_on : (goals' values' words' : List ℕ) (s' : Standing) → Turned tokens counts goals values words goals' values' words' s (Ok s')
          → Before counts tokens goals₀ values₀ words₀ s₀ goals' values' words' s'
      unfolding resumed shown
      run_on goals' values' words' s' t =
          let f = b.fewer in
          let g = t.next.fewer in
          let e = t.next.less in
          let h = b.resumes.enough in
          record {
            state = t.next.state;
            kept = still words' t.kept;
            fewer = omega arith;
            resumes = record { steps = b.resumes.steps - 1; enough = omega arith; same = turn_same goals' values' words' (Ok s') t };
            goals_stay = t.goals_stay ∙ b.goals_stay;
            values_stay = t.values_stay ∙ b.values_stay;
          }

      pub run_stops : (goals' values' words' : List ℕ) (z : Halt) → Turned tokens counts goals values words goals' values' words' s (Err z)
          → Ran tokens words₀ words' s₀.left R (Some (Err z))
      unfolding resumed shown
      run_stops goals' values' words' z t =
          let p : R ≡ definition.stopped (reason_of z.reason) (drop z.at tokens) = turn_same goals' values' words' (Err z) t in
          record { reads = rw p (refl, refl); kept = still words' t.kept }

-- ---- the start

-- a procedure's goals find what they take
procedure_fits : (p : ℕ) → p < 32 → Fits (procedure_goals p) (number 0 ∷ [])
unfolding procedure_goals
procedure_fits zero h = λ v t. (t, (omega arith, tt))
procedure_fits (suc p) h = (omega arith, (omega arith, (omega arith, λ n k. (omega arith, (omega arith, λ v t. (t, (k, tt)))))))

module _ (tokens goals goals' values words : List ℕ) (at p top left : ℕ) (few : length tokens ≤ 16384) (inside : at ≤ length tokens) (below : p < 32)
    (room : left ≤ length words)
    (o : Ordered words) (z : Sized goals values words) (first : get_or values 0 0 ≡ 1024)
    (g : Stacked (λ gs. procedure_goals p ++ gs) goals 0 goals' top) (t : top ≤ 7) where
  abbrev start : Standing
  start = record { at = at; goals = top; values = 1; left = left }

  first_goals : goals_of goals' top ≡ procedure_goals p
  unfolding goals_of
  first_goals = g.goals_are ∙ append-nil (procedure_goals p)

  first_values : values_of words values 1 ≡ number 0 ∷ []
  unfolding values_of value_of
  first_values = rw first

  pub starts : State tokens goals' values words start
  starts =
      record {
        sized = resized z g.long refl refl;
        tokens_few = few;
        ordered = o;
        inside = inside;
        goals_few = let a = z.some_goals in let l = g.long in omega arith;
        values_few = let a = z.some_values in omega arith;
        left_few = room;
        entries = λ i h. let e : i ≡ 0 = omega arith in let m = z.most_words in rw (e, first) (omega arith, omega arith);
        fits = rw (first_goals, first_values) (procedure_fits p below);
      }

  pub started : (counts words' : List ℕ) (r : Option (Result Parsed Halt)) → Ran tokens words words' left (read_from counts tokens goals' values words start) r
      → Ran tokens words words' left (parse counts (procedure_goals p) (number 0 ∷ []) (terms_left words left) (drop at tokens)) r
  started counts words' r q = rw (first_goals, first_values) at q
