-- A step keeps what the goals want, how many terms there are with those left to be made, and the parameter counts. Assumes nothing.
use Prim.Native.Nat.{ℕ, zero, suc, ◌+◌, ◌-◌, ◌^◌, ◌≤◌, ◌<◌}
use native.Mathlib.Nat.{add_assoc, zero-add}
use native.Mathlib.Omega.{arith}
use mathlib.Core.Path.{◌≡◌, refl, sym, ap, subst, ◌∙◌}
use mathlib.Core.Bool.{true, cond, not, ◌&&◌, ◌||◌, true≢false}
use mathlib.Core.List.{List, [], ◌∷◌, ◌++◌}
use lib.Dec.{eqb, ltb, leb}
use lib.ListN.{length, get_or, drop}
use borrow.Author.Tests.{ltb-true, leb-true, eqb-true, eqb-false, not-false}
use Rattle.plan_packed.specs.Syntax.{Expression, Arguments}
use Rattle.plan_packed.specs.Format.{fields_from}
use Rattle.plan_packed.proofs.WellFormed.{count}
use Rattle.plan_packed.proofs.Decoded.{Cases, done, ◌gives◌then◌, pick}
use Rattle.plan_written.specs.Terms.{terms_of, size, mask_of}
use Rattle.plan_written.proofs.Right.{Ascending, Right, Rightᵃ}
use Rattle.plan_written.proofs.OrderedFields.{right_in_order}
use Rattle.plan_written.proofs.RightPlans.{right_slot}
use Rattle.plan_notation.specs.Shown.{loose}
use Rattle.plan_notation.specs.Tokens.{all_word, and_word, true_word, not_word, null_word, new_word, let_word, if_word, while_word, call_word, fork_word, join_word}
use Rattle.plan_notation.specs.Tokens.{synch_word, wait_word, notify_word, opening, closing, comma, dot, equals, becomes, dash}
use Rattle.plan_parsing.specs.Goals.{Sort, either, expression, condition, Goal, expect, operand, more, make, binder, fields, procedure, further, Value}
use Rattle.plan_parsing.specs.Goals.{number, of_expression, of_condition, of_arguments, number_in, made, Form, forms, notify_all_form, argument_goals}
use Rattle.plan_parsing.specs.Goals as goals
use Rattle.plan_parsing.specs.Parser.{ahead, Step, go, stop, is_condition, takes_condition, fits, inside, begun, word_form, operand_step, is_field, dot_step}
use Rattle.plan_parsing.specs.Parser.{more_step, fields_step, further_step, step}
use Rattle.plan_parsing.proofs.Branches.{either_way, both}
use Rattle.plan_parsing.proofs.Wanted.{weights, RightOperand, Ready, Wanted, Wants, Passed, passed_none, passed_one, passed_two, passed_three}

module _ (counts : List ℕ) (K : List Value → Type 0) where
  -- what comes of a goal, from these values, terms left and tokens
  abbrev pub Kept : List Value → ℕ → List ℕ → Step → Type 0
  Kept vs n ts (go gs' vs' n' ts') = Wants counts gs' K vs' × (weights vs' + n' ≡ weights vs + n) × Passed ts ts'
  Kept vs n ts (stop r ts') = Unit {0}

  -- ---- forms that begin with a word

  -- an operand that was read is of the sort
  ready_fits : (s : Sort) (v : Value) (vs : List Value) → fits s v ≡ true → RightOperand counts v → Ready counts s K vs → K (v ∷ vs)
  unfolding fits
  ready_fits either (number n) vs h r k = absurd r
  ready_fits either (of_expression e) vs h r k = k.0 e r
  ready_fits either (of_condition c) vs h r k = k.1 c r
  ready_fits either (of_arguments es) vs h r k = absurd r
  ready_fits expression (number n) vs h r k = absurd r
  ready_fits expression (of_expression e) vs h r k = k e r
  ready_fits expression (of_condition c) vs h r k = absurd (true≢false (sym h))
  ready_fits expression (of_arguments es) vs h r k = absurd r
  ready_fits condition (number n) vs h r k = absurd r
  ready_fits condition (of_expression e) vs h r k = absurd (true≢false (sym h))
  ready_fits condition (of_condition c) vs h r k = k c r
  ready_fits condition (of_arguments es) vs h r k = absurd r

  -- in parentheses there is an operand of either sort, or of the same
  in_parentheses : (d : ℕ) (s : Sort) (vs : List Value) → Ready counts s K vs → Wants counts (operand loose (inside s) ∷ expect closing ∷ more d s ∷ []) K vs
  unfolding inside
  in_parentheses d either vs k = ((λ e r. (omega arith, (r, k))), λ c r. (omega arith, (r, k)))
  in_parentheses d expression vs k = λ e r. (omega arith, (r, k))
  in_parentheses d condition vs k = ((λ e r. (omega arith, (r, k))), λ c r. (omega arith, (r, k)))

  module _ (d : ℕ) (s : Sort) (vs : List Value) (k : Ready counts s K vs) where
    -- what the form of a word wants
    abbrev WordWants : ℕ → Type 0
    WordWants t = Wants counts ((get_or forms (t - true_word) notify_all_form).goals ++ (more d s ∷ [])) K (cond (eqb t new_word) (number 0 ∷ vs) vs)

    new_wanted : (fs : List ℕ) → Ascending 0 fs → length fs ≤ 8 → Right counts (Expression.new (fields_from (0 + mask_of fs) 0 32))
    new_wanted fs up few =
        let r = right_in_order fs up few in
        rw (zero-add (mask_of fs), r.of_mask) r

    words : Cases WordWants true_word 13
    unfolding forms made size terms_of
    words =
        true_word gives (omega arith, (tt, k))
        then not_word gives (λ c r. (omega arith, (r, k)))
        then null_word gives (omega arith, (refl, k))
        then new_word gives (omega arith, λ fs up few. (omega arith, (new_wanted fs up few, k)))
        then let_word gives (λ x rx. (omega arith, λ e r. (omega arith, λ e' r'. (omega arith, ((right_slot x rx, r, r'), k)))))
        then if_word gives (λ c rc. (omega arith, λ e r. (omega arith, λ e' r'. (omega arith, ((rc, r, r'), k)))))
        then while_word gives (λ c rc. (omega arith, λ e r. (omega arith, ((rc, r), k))))
        then call_word gives (λ p es rp r. (omega arith, ((rp, r), k)))
        then fork_word gives (λ e r. (omega arith, (r, k)))
        then join_word gives (λ e r. (omega arith, (r, k)))
        then synch_word gives (λ e r. (omega arith, λ e' r'. (omega arith, ((r, r'), k))))
        then wait_word gives (λ e r. (omega arith, (r, k)))
        then notify_word gives (λ e r. (omega arith, (r, k)))
        then done

    notify_all_lem : Wants counts (notify_all_form.goals ++ (more d s ∷ [])) K vs
    unfolding made size terms_of
    notify_all_lem = λ e r. (omega arith, (r, k))

    -- a form, if it binds tightly enough
    begun_keeps : (f : Form) (vs' : List Value) (n : ℕ) (ts rest : List ℕ) → Wants counts (f.goals ++ (more d s ∷ [])) K vs' → weights vs' ≡ weights vs
        → Passed ts rest
        → Kept vs n ts (begun f d s vs' n ts rest)
    unfolding begun
    begun_keeps f vs' n ts rest w e p =
        either_way (Kept vs n ts) (leb d f.binding && (not f.is_condition || takes_condition s)) _ _ (λ z. (w, omega arith, p)) (λ z. tt)

    word_keeps : (t n : ℕ) (ts : List ℕ) → t ≡ ahead ts 0 → true_word ≤ t → t ≤ notify_word → Kept vs n ts (word_form t d s vs n ts)
    unfolding word_form
    word_keeps t n ts e low high =
        either_way (Kept vs n ts) (eqb t notify_word && eqb (ahead ts 1) all_word) _ _
        (λ z. begun_keeps notify_all_form vs n ts (drop 2 ts) notify_all_lem refl
        (passed_two ts (λ y. omega arith) (λ y. omega (arith, eqb-true (ahead ts 1) all_word (both (eqb t notify_word) (eqb (ahead ts 1) all_word) z).1))))
        (λ z. begun_keeps (get_or forms (t - true_word) notify_all_form) (cond (eqb t new_word) (number 0 ∷ vs) vs) n ts (drop 1 ts) (pick words t low (omega arith))
        number_weighs_none (passed_one ts (λ y. omega arith)))
      where
        number_weighs_none : weights (cond (eqb t new_word) (number 0 ∷ vs) vs) ≡ weights vs
        number_weighs_none = either_way (λ (us : List Value). weights us ≡ weights vs) (eqb t new_word) (number 0 ∷ vs) vs (λ z. omega arith) (λ z. refl)

    operand_keeps : (n : ℕ) (ts : List ℕ) → Kept vs n ts (operand_step d s vs n ts)
    unfolding operand_step made size terms_of
    operand_keeps n ts =
        let t = ahead ts 0 in
        either_way (Kept vs n ts) (leb 32 t && ltb t 40) _ _ (λ z. slot_read (both (leb 32 t) (ltb t 40) z))
        (λ z. either_way (Kept vs n ts) (leb true_word t && leb t notify_word) _ _
        (λ y. let b = both (leb true_word t) (leb t notify_word) y in word_keeps t n ts refl (leb-true true_word t b.0) (leb-true t notify_word b.1))
        (λ y. either_way (Kept vs n ts) (eqb t opening) _ _ (λ x. (in_parentheses d s vs k, refl, passed_one ts (λ q. omega (arith, eqb-true t opening x))))
        (λ x. tt)))
      where
        slot_read : (leb 32 (ahead ts 0) ≡ true) × (ltb (ahead ts 0) 40 ≡ true)
            → Kept vs n ts (go (make 1 ∷ more d s ∷ []) (number (ahead ts 0 - 32) ∷ vs) n (drop 1 ts))
        slot_read b =
            let low = leb-true 32 (ahead ts 0) b.0 in
            let high = ltb-true (ahead ts 0) 40 b.1 in
            ((omega arith, (omega arith, k)), omega arith, passed_one ts (λ q. omega arith))

  -- ---- behind an operand

  module _ (d : ℕ) (s : Sort) (vs : List Value) (k : Ready counts s K vs) (n : ℕ) (ts : List ℕ) where
    dot_keeps : (e : Expression) → Right counts e → ahead ts 0 ≡ dot → Kept (of_expression e ∷ vs) n ts (dot_step d s (of_expression e ∷ vs) n ts)
    unfolding dot_step made size terms_of
    dot_keeps e r q =
        let f = ahead ts 1 in
        either_way (Kept (of_expression e ∷ vs) n ts) (not (is_field f)) _ _ (λ z. tt)
        (λ z. let b = field_of f (not-false (is_field f) z) in
        either_way (Kept (of_expression e ∷ vs) n ts) (eqb d 0 && eqb (ahead ts 2) becomes) _ _
        (λ y. (
          (λ e' r'. (omega arith, ((r, b, r'), k))),
          omega arith,
          passed_three ts (λ x. omega arith) (λ x. let l = b.1 in omega arith)
              (λ x. omega (arith, eqb-true (ahead ts 2) becomes (both (eqb d 0) (eqb (ahead ts 2) becomes) y).1)),
        ))
        (λ y. ((omega arith, ((r, b), k)), omega arith, passed_two ts (λ x. omega arith) (λ x. let l = b.1 in omega arith))))
      where
        field_of : (f : ℕ) → is_field f ≡ true → (0 < f) × (f < 32)
        field_of f h = let b = both (ltb 0 f) (ltb f 32) h in (ltb-true 0 f b.0, ltb-true f 32 b.1)

    more_keeps : (v : Value) → RightOperand counts v → Kept (v ∷ vs) n ts (more_step d s (v ∷ vs) n ts)
    unfolding more_step made size terms_of
    more_keeps (number x) r = absurd r
    more_keeps (of_arguments es) r = absurd r
    more_keeps (of_expression e) r =
        let t = ahead ts 0 in
        let v = of_expression e in
        either_way (Kept (v ∷ vs) n ts) (eqb t dot) _ _ (λ z. dot_keeps e r (eqb-true t dot z))
        (λ z. either_way (Kept (v ∷ vs) n ts) (true && eqb t equals && leb d 1 && takes_condition s) _ _
        (λ y. (
          (λ e' r'. (omega arith, ((r, r'), k))),
          refl,
          passed_one ts
              (λ x. omega (arith, eqb-true t equals (both (eqb t equals) (leb d 1) (both (eqb t equals && leb d 1) (takes_condition s) y).0).0)),
        ))
        (λ y. either_way (Kept (v ∷ vs) n ts) (fits s v) _ _ (λ x. (ready_fits s v vs x r k, refl, passed_none ts)) (λ x. tt)))
    more_keeps (of_condition c) r =
        let t = ahead ts 0 in
        let v = of_condition c in
        either_way (Kept (v ∷ vs) n ts) (true && eqb t and_word && eqb d 0) _ _
        (λ y. ((λ c' r'. (omega arith, ((r, r'), k))), refl, passed_one ts (λ x. omega (arith, eqb-true t and_word (both (eqb t and_word) (eqb d 0) y).0))))
        (λ y. either_way (Kept (v ∷ vs) n ts) (fits s v) _ _ (λ x. (ready_fits s v vs x r k, refl, passed_none ts)) (λ x. tt))

  -- ---- fields and arguments

  fields_keeps : (k f a : ℕ) (vs : List Value) (n : ℕ) (ts : List ℕ) → ((fs : List ℕ) → Ascending f fs → length fs ≤ k → K (number (a + mask_of fs) ∷ vs))
      → Kept (number a ∷ vs) n ts (fields_step k f (number a ∷ vs) n ts)
  unfolding fields_step mask_of number_in
  fields_keeps k f a vs n ts w =
      let t = ahead ts 0 in
      let all : a + 0 ≡ a = omega arith in
      either_way (Kept (number a ∷ vs) n ts) (eqb t closing) _ _
      (λ z. (subst (λ (m : ℕ). K (number m ∷ vs)) all (w [] tt (omega arith)), refl, passed_one ts (λ q. omega (arith, eqb-true t closing z))))
      (λ z. either_way (Kept (number a ∷ vs) n ts) (ltb 0 k && ltb f t && ltb t 32) _ _
      (λ y. let b = both (ltb 0 k && ltb f t) (ltb t 32) y in
      let c = both (ltb 0 k) (ltb f t) b.0 in
      let some = ltb-true 0 k c.0 in
      let small = ltb-true t 32 b.1 in (
        (λ fs up few. subst (λ (m : ℕ). K (number m ∷ vs)) (sym (add_assoc a (2 ^ (31 - t)) (mask_of fs)))
            (w (t ∷ fs) (ltb-true f t c.1, small, up) (omega arith))),
        refl,
        passed_one ts (λ q. omega arith),
      ))
      (λ y. tt))

  further_keeps : (k : ℕ) (vs : List Value) (n : ℕ) (ts : List ℕ) → ((es : Arguments) → count es ≡ k → Rightᵃ counts es → K (of_arguments es ∷ vs))
      → Kept vs n ts (further_step k vs n ts)
  unfolding further_step made size terms_of
  further_keeps zero vs n ts w =
      either_way (Kept vs n ts) (eqb (ahead ts 0) closing) _ _
      (λ z. ((omega arith, w Arguments.end refl tt), refl, passed_one ts (λ q. omega (arith, eqb-true (ahead ts 0) closing z)))) (λ z. tt)
  further_keeps (suc k) vs n ts w =
      either_way (Kept vs n ts) (eqb (ahead ts 0) comma) _ _
      (λ z. (
        (λ e r es c ra. (omega arith, w (Arguments.argument e es) (ap suc c) (r, ra))),
        refl,
        passed_one ts
            (λ q. omega (arith, eqb-true (ahead ts 0) comma z)),
      )) (λ z. tt)

  -- a list of so many arguments
  arguments_wanted : (k : ℕ) (vs : List Value) → ((es : Arguments) → count es ≡ k → Rightᵃ counts es → K (of_arguments es ∷ vs))
      → Wants counts (argument_goals k) K vs
  unfolding argument_goals made size terms_of
  arguments_wanted zero vs w = (omega arith, (omega arith, (omega arith, w Arguments.end refl tt)))
  arguments_wanted (suc k) vs w = (omega arith, λ e r es c ra. (omega arith, w (Arguments.argument e es) (ap suc c) (r, ra)))

  procedure_keeps : (vs : List Value) (n : ℕ) (ts : List ℕ) → Wanted counts procedure K vs → Kept vs n ts (step counts procedure vs n ts)
  unfolding step
  procedure_keeps vs n ts w =
      let t = ahead ts 0 in
      either_way (Kept vs n ts) (ltb t 32 && ltb t (length counts)) _ _
      (λ z. let b = both (ltb t 32) (ltb t (length counts)) z in
      let small = ltb-true t 32 b.0 in (
        arguments_wanted (get_or counts t 0) (number t ∷ vs) (λ es c r. w t es (record {
          small = small;
          present = ltb-true t (length counts) b.1;
          each_parameter = c;
        }) r),
        omega arith,
        passed_one ts (λ q. omega arith),
      ))
      (λ z. tt)

  -- ---- every goal

  pub step_keeps : (g : Goal) (vs : List Value) (n : ℕ) (ts : List ℕ) → Wanted counts g K vs → Kept vs n ts (step counts g vs n ts)
  unfolding step
  step_keeps (expect t) vs n ts w =
      either_way (Kept vs n ts) (eqb (ahead ts 0) t) _ _ (λ z. (w.1, refl, passed_one ts (λ q. w.0 (sym (eqb-true (ahead ts 0) t z) ∙ q)))) (λ z. tt)
  step_keeps (operand d s) vs n ts w = operand_keeps d s vs w n ts
  step_keeps (more d s) [] n ts w = absurd w
  step_keeps (more d s) (v ∷ vs) n ts w = more_keeps d s vs w.1 n ts v w.0
  step_keeps (make k) vs n ts w =
      either_way (Kept vs n ts) (eqb n 0) _ _ (λ z. tt) (λ z. (w.1, (let h = w.0 in let some = eqb-false n 0 z in omega arith), passed_none ts))
  step_keeps binder vs n ts w =
      let t = ahead ts 0 in
      either_way (Kept vs n ts) (ltb t 8) _ _
      (λ z. let small = ltb-true t 8 z in (w t (λ q. omega arith), omega arith, passed_one ts (λ q. omega arith)))
      (λ z. either_way (Kept vs n ts) (eqb t dash) _ _ (λ y. (w 15 (λ q. absurd (q refl)), omega arith, passed_one ts (λ q. omega (arith, eqb-true t dash y))))
      (λ y. tt))
  step_keeps (fields k f) [] n ts w = absurd w
  step_keeps (fields k f) (number a ∷ vs) n ts w = fields_keeps k f a vs n ts w
  step_keeps (fields k f) (of_expression e ∷ vs) n ts w = absurd w
  step_keeps (fields k f) (of_condition c ∷ vs) n ts w = absurd w
  step_keeps (fields k f) (of_arguments es ∷ vs) n ts w = absurd w
  step_keeps procedure vs n ts w = procedure_keeps vs n ts w
  step_keeps (further k) vs n ts w = further_keeps k vs n ts w
  step_keeps goals.count vs n ts w =
      let t = ahead ts 0 in
      either_way (Kept vs n ts) (ltb t 9) _ _ (λ z. let small = ltb-true t 9 z in (w t (omega arith), omega arith, passed_one ts (λ q. omega arith))) (λ z. tt)
