-- "there is always a step for each goal and eight for each token": how many more there are changes nothing. Assumes nothing.
use Prim.Native.Nat.{ℕ, zero, suc, ◌+◌, ◌-◌, ◌*◌, ◌≤◌, ◌<◌}
use native.Mathlib.Omega.{arith}
use mathlib.Core.Path.{◌≡◌, refl, ap}
use mathlib.Core.Bool.{cond, not, ◌&&◌, ◌||◌}
use mathlib.Core.List.{List, [], ◌∷◌, ◌++◌}
use lib.Dec.{eqb, ltb, leb}
use lib.ListN.{length, length-append, length-drop, get_or, drop}
use borrow.Author.Tests.{ltb-true, leb-true, eqb-true}
use Rattle.plan_packed.proofs.Decoded.{Cases, done, ◌gives◌then◌, pick}
use Rattle.plan_notation.specs.Tokens.{all_word, and_word, true_word, not_word, null_word, new_word, let_word, if_word, while_word, call_word, fork_word, join_word}
use Rattle.plan_notation.specs.Tokens.{synch_word, wait_word, notify_word, opening, closing, comma, dot, equals, becomes, dash, text_end}
use Rattle.plan_parsing.specs.Goals.{Sort, Goal, expect, operand, more, make, binder, fields, procedure, further, Value, number, value_at, Form, forms}
use Rattle.plan_parsing.specs.Goals.{notify_all_form, argument_goals}
use Rattle.plan_parsing.specs.Goals as goals
use Rattle.plan_parsing.specs.Parser.{ahead, nesting, Step, go, stop, is_expression, is_condition, takes_condition, fits, begun, word_form, operand_step}
use Rattle.plan_parsing.specs.Parser.{is_field, dot_step, more_step, fields_step, further_step, step, most_goals, most_values, Parsed, stopped, after_step}
use Rattle.plan_parsing.specs.Parser.{parse_by}
use Rattle.plan_parsing.proofs.Branches.{either_way, both}

-- ---- a step for a goal

-- as many goals as eight for each token that is taken
abbrev pub Shrinks : List ℕ → Step → Type 0
Shrinks ts (go gs' vs' n' ts') = 8 * length ts' + length gs' ≤ 8 * length ts
Shrinks ts (stop r ts') = Unit {0}

-- k tokens, of which the first is there
eight_less : (k : ℕ) (ts : List ℕ) → 1 ≤ k → (ahead ts 0 ≡ text_end → ⊥) → 8 * length (drop k ts) + 8 ≤ 8 * length ts
eight_less k [] some h = absurd (h refl)
eight_less k (t ∷ ts) some h = omega (arith, length-drop k (t ∷ ts))

-- a list has four goals at most, a form six
few_goals : (n : ℕ) → length (argument_goals n) ≤ 4
unfolding argument_goals
few_goals zero = omega arith
few_goals (suc n) = omega arith

few_in_form : Cases (λ (t : ℕ). length (get_or forms (t - true_word) notify_all_form).goals ≤ 6) true_word 13
unfolding forms
few_in_form =
    true_word gives omega arith
    then not_word gives omega arith
    then null_word gives omega arith
    then new_word gives omega arith
    then let_word gives omega arith
    then if_word gives omega arith
    then while_word gives omega arith
    then call_word gives omega arith
    then fork_word gives omega arith
    then join_word gives omega arith
    then synch_word gives omega arith
    then wait_word gives omega arith
    then notify_word gives omega arith
    then done

module _ (d : ℕ) (s : Sort) (vs : List Value) (n : ℕ) (ts : List ℕ) where
  begun_shrinks : (f : Form) (vs' : List Value) (k : ℕ) → 1 ≤ k → (ahead ts 0 ≡ text_end → ⊥) → length f.goals ≤ 6
      → Shrinks ts (begun f d s vs' n ts (drop k ts))
  unfolding begun
  begun_shrinks f vs' k some h few =
      either_way (Shrinks ts) (leb d f.binding && (not f.is_condition || takes_condition s)) _ _
      (λ z. omega (arith, length-append f.goals (more d s ∷ []), eight_less k ts some h)) (λ z. tt)

  operand_shrinks : Shrinks ts (operand_step d s vs n ts)
  unfolding operand_step
  operand_shrinks =
      let t = ahead ts 0 in
      either_way (Shrinks ts) (leb 32 t && ltb t 40) _ _
      (λ z. let small = ltb-true t 40 (both (leb 32 t) (ltb t 40) z).1 in omega (arith, eight_less 1 ts (omega arith) (λ q. omega arith)))
      (λ z. either_way (Shrinks ts) (leb true_word t && leb t notify_word) _ _
      (λ y. let b = both (leb true_word t) (leb t notify_word) y in word_shrinks t refl (leb-true true_word t b.0) (leb-true t notify_word b.1))
      (λ y. either_way (Shrinks ts) (eqb t opening) _ _
      (λ x. let e = eqb-true t opening x in omega (arith, eight_less 1 ts (omega arith) (λ q. omega arith))) (λ x. tt)))
    where
      word_shrinks : (t : ℕ) → t ≡ ahead ts 0 → true_word ≤ t → t ≤ notify_word → Shrinks ts (word_form t d s vs n ts)
      word_shrinks t e low high =
          either_way (Shrinks ts) (eqb t notify_word && eqb (ahead ts 1) all_word) _ _
          (λ z. begun_shrinks notify_all_form vs 2 (omega arith) (λ q. omega arith) (omega arith))
          (λ z. begun_shrinks (get_or forms (t - true_word) notify_all_form) (cond (eqb t new_word) (number 0 ∷ vs) vs) 1 (omega arith) (λ q. omega arith)
          (pick few_in_form t low (omega arith)))

  dot_shrinks : ahead ts 0 ≡ dot → Shrinks ts (dot_step d s vs n ts)
  unfolding dot_step
  dot_shrinks e =
      either_way (Shrinks ts) (not (is_field (ahead ts 1))) _ _ (λ z. tt)
      (λ z. either_way (Shrinks ts) (eqb d 0 && eqb (ahead ts 2) becomes) _ _ (λ y. omega (arith, eight_less 3 ts (omega arith) (λ q. omega arith)))
      (λ y. omega (arith, eight_less 2 ts (omega arith) (λ q. omega arith))))

  more_shrinks : Shrinks ts (more_step d s vs n ts)
  unfolding more_step
  more_shrinks =
      let t = ahead ts 0 in
      let v = value_at vs 0 in
      either_way (Shrinks ts) (is_expression v && eqb t dot) _ _ (λ z. dot_shrinks (eqb-true t dot (both (is_expression v) (eqb t dot) z).1))
      (λ z. either_way (Shrinks ts) (is_expression v && eqb t equals && leb d 1 && takes_condition s) _ _
      (λ y. let a = (both (is_expression v && eqb t equals && leb d 1) (takes_condition s) y).0 in
      let e = eqb-true t equals (both (is_expression v) (eqb t equals) (both (is_expression v && eqb t equals) (leb d 1) a).0).1 in
      omega (arith, eight_less 1 ts (omega arith) (λ q. omega arith)))
      (λ y. either_way (Shrinks ts) (is_condition v && eqb t and_word && eqb d 0) _ _
      (λ x. let e = eqb-true t and_word (both (is_condition v) (eqb t and_word) (both (is_condition v && eqb t and_word) (eqb d 0) x).0).1 in
      omega (arith, eight_less 1 ts (omega arith) (λ q. omega arith)))
      (λ x. either_way (Shrinks ts) (fits s v) _ _ (λ w. omega arith) (λ w. tt))))

module _ (vs : List Value) (n : ℕ) (ts : List ℕ) where
  fields_shrinks : (k f : ℕ) → Shrinks ts (fields_step k f vs n ts)
  unfolding fields_step
  fields_shrinks k f =
      let t = ahead ts 0 in
      either_way (Shrinks ts) (eqb t closing) _ _ (λ z. omega (arith, length-drop 1 ts))
      (λ z. either_way (Shrinks ts) (ltb 0 k && ltb f t && ltb t 32) _ _
      (λ y. let small = ltb-true t 32 (both (ltb 0 k && ltb f t) (ltb t 32) y).1 in omega (arith, eight_less 1 ts (omega arith) (λ q. omega arith))) (λ y. tt))

  further_shrinks : (k : ℕ) → Shrinks ts (further_step k vs n ts)
  unfolding further_step
  further_shrinks zero =
      let t = ahead ts 0 in
      either_way (Shrinks ts) (eqb t closing) _ _ (λ z. let e = eqb-true t closing z in omega (arith, eight_less 1 ts (omega arith) (λ q. omega arith)))
      (λ z. tt)
  further_shrinks (suc k) =
      let t = ahead ts 0 in
      either_way (Shrinks ts) (eqb t comma) _ _ (λ z. let e = eqb-true t comma z in omega (arith, eight_less 1 ts (omega arith) (λ q. omega arith))) (λ z. tt)

  -- every goal
  pub step_shrinks : (counts : List ℕ) (g : Goal) → Shrinks ts (step counts g vs n ts)
  unfolding step
  step_shrinks counts (expect t) = either_way (Shrinks ts) (eqb (ahead ts 0) t) _ _ (λ z. omega (arith, length-drop 1 ts)) (λ z. tt)
  step_shrinks counts (operand d s) = operand_shrinks d s vs n ts
  step_shrinks counts (more d s) = more_shrinks d s vs n ts
  step_shrinks counts (make k) = either_way (Shrinks ts) (eqb n 0) _ _ (λ z. tt) (λ z. omega arith)
  step_shrinks counts binder =
      let t = ahead ts 0 in
      either_way (Shrinks ts) (ltb t 8) _ _ (λ z. omega (arith, length-drop 1 ts))
      (λ z. either_way (Shrinks ts) (eqb t dash) _ _ (λ y. omega (arith, length-drop 1 ts)) (λ y. tt))
  step_shrinks counts (fields k f) = fields_shrinks k f
  step_shrinks counts procedure =
      let t = ahead ts 0 in
      either_way (Shrinks ts) (ltb t 32 && ltb t (length counts)) _ _
      (λ z. let small = ltb-true t 32 (both (ltb t 32) (ltb t (length counts)) z).0 in
      omega (arith, few_goals (get_or counts t 0), eight_less 1 ts (omega arith) (λ q. omega arith))) (λ z. tt)
  step_shrinks counts (further k) = further_shrinks k
  step_shrinks counts goals.count = either_way (Shrinks ts) (ltb (ahead ts 0) 9) _ _ (λ z. omega (arith, length-drop 1 ts)) (λ z. tt)

-- ---- goal after goal

module _ (counts : List ℕ) where
  pub enough_steps : (k k' : ℕ) (gs : List Goal) (vs : List Value) (n : ℕ) (ts : List ℕ) → 8 * length ts + length gs < k → 8 * length ts + length gs < k'
      → parse_by counts k gs vs n ts ≡ parse_by counts k' gs vs n ts
  unfolding parse_by
  enough_steps zero k' gs vs n ts h h' = absurd (omega arith)
  enough_steps (suc k) zero gs vs n ts h h' = absurd (omega arith)
  enough_steps (suc k) (suc k') [] vs n ts h h' = refl
  enough_steps (suc k) (suc k') (g ∷ gs) vs n ts h h' =
      ap (cond (ltb most_goals (length (g ∷ gs)) || ltb most_values (length vs)) (stopped nesting ts))
      (after (λ gs' vs' n' ts' q. enough_steps k k' (gs' ++ gs) vs' n' ts' (omega (arith, length-append gs' gs)) (omega (arith, length-append gs' gs)))
      (step counts g vs n ts) (step_shrinks vs n ts counts g))
    where
      next : ℕ → List Goal → List Value → ℕ → List ℕ → Parsed
      next m gs' vs' n' ts' = parse_by counts m (gs' ++ gs) vs' n' ts'

      after : ((gs' : List Goal) (vs' : List Value) (n' : ℕ) (ts' : List ℕ) → Shrinks ts (go gs' vs' n' ts') → next k gs' vs' n' ts' ≡ next k' gs' vs' n' ts')
          → (x : Step) → Shrinks ts x → after_step (next k) x ≡ after_step (next k') x
      after ih (go gs' vs' n' ts') q = ih gs' vs' n' ts' q
      after ih (stop r ts') q = refl
