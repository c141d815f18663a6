-- Each form of an expression and of a condition is read back, where its parts are. Assumes nothing.
use Prim.Native.Nat.{ℕ, suc, ◌+◌, ◌-◌, ◌^◌, ◌≤◌, ◌<◌}
use native.Mathlib.Nat.{zero-add, add_assoc}
use native.Mathlib.Omega.{arith}
use mathlib.Core.Path.{◌≡◌, refl, ap, ◌∙◌}
use mathlib.Core.Bool.{true, false, not, ◌||◌, and-false}
use mathlib.Core.List.{List, [], ◌∷◌, ◌++◌, append_assoc}
use mathlib.Core.Option.{Option, some, none}
use lib.Dec.{eqb}
use lib.ListN.{length, get_or}
use borrow.Author.Tests.{le-leb, lt-ltb, eq-eqb, ne_eqb}
use Rattle.plan_packed.specs.Syntax.{Expression, Condition, Arguments}
use Rattle.plan_packed.specs.Format.{fields_from}
use Rattle.plan_packed.proofs.WellFormed.{count}
use Rattle.plan_written.specs.Terms.{mask_of, slot_of}
use Rattle.plan_notation.specs.Shown.{binder_token, loose, testing, prefix, tight}
use Rattle.plan_written.proofs.RightTerms.{slot_again}
use Rattle.plan_written.proofs.Right.{Ascending, RightFields, RightSlot, RightField, RightCall}
use Rattle.plan_notation.specs.Tokens.{in_word, then_word, else_word, do_word, and_word, true_word, not_word, null_word, new_word, let_word, if_word, while_word, call_word}
use Rattle.plan_notation.specs.Tokens.{synch_word, opening, closing, comma, dot, equals, becomes}
use Rattle.plan_parsing.specs.Goals.{Sort, expression, condition, Goal, operand, more, make, binder, fields, further, Value, number, of_expression}
use Rattle.plan_parsing.specs.Goals.{of_condition, of_arguments, number_in, made, Form, form, forms, notify_all_form, argument_goals}
use Rattle.plan_parsing.specs.Parser.{go, takes_condition, begun, operand_step, more_step, fields_step, further_step, step, most_goals, most_values}
use Rattle.plan_parsing.proofs.Runs.{state, Leads, ◌thence◌, stays, Room, by_step, makes, expects}
use Rattle.plan_parsing.proofs.Operands.{Follows, looser, follows_token, follows_dot, follows_and, Reads, within, bare, suits_expression, suits_another}
use Rattle.plan_parsing.proofs.Operands.{takes_condition_lem, Fits, whole, wholeᶜ}

-- the form of a word, from `true` on
abbrev form_at : ℕ → Form
form_at i = get_or forms i notify_all_form

-- the form of a prefix that makes terms of a tag
abbrev pub prefix_form : ℕ → Form
prefix_form tag = form prefix false (operand prefix expression ∷ make tag ∷ [])

binder_step : (counts : List ℕ) (x : Option ℕ) (vs : List Value) (n : ℕ) (ts : List ℕ) → RightSlot x
    → step counts binder vs n (binder_token x ∷ ts) ≡ go [] (number (slot_of x) ∷ vs) n ts
unfolding step binder_token slot_of
binder_step counts none vs n ts r = refl
binder_step counts (some x) vs n ts r = rw (lt-ltb x 8 r)

module _ {counts : List ℕ} where
  -- behind a word, what its form asks for
  begins : (f : Form) (vs' : List Value) (rest : List ℕ) {d : ℕ} {s : Sort} {gs : List Goal} {vs : List Value} {n : ℕ} {ts : List ℕ}
      → step counts (operand d s) vs n ts ≡ begun f d s vs' n ts rest → d ≤ f.binding
      → (not f.is_condition || takes_condition s) ≡ true → Room gs vs
      → Leads counts (state (operand d s ∷ gs) vs n ts) (state ((f.goals ++ (more d s ∷ [])) ++ gs) vs' n rest)
  unfolding begun
  begins f vs' rest {d} {s} e h q room = by_step (f.goals ++ (more d s ∷ [])) vs' rest (e ∙ rw (le-leb d f.binding h, q)) room

  -- ---- forms without an operand

  pub null_reads : Reads counts bare tight (null_word ∷ []) (of_expression (Expression.literal 0)) 1
  unfolding step operand_step forms made
  null_reads = record { leads = λ d s gs vs n m rest h su fo room. begins (form_at 2) vs rest refl h refl (omega arith) thence makes (omega arith) }

  pub truth_reads : Reads counts bare tight (true_word ∷ []) (of_condition Condition.truth) 1
  unfolding step operand_step forms made
  truth_reads =
      record {
        leads = λ d s gs vs n m rest h su fo room.
            begins (form_at 0) vs rest refl h (takes_condition_lem s Condition.truth su) (omega arith) thence makes (omega arith);
      }

  pub variable_reads : (x : ℕ) → x < 8 → Reads counts bare tight ((32 + x) ∷ []) (of_expression (Expression.variable x)) 1
  unfolding step operand_step made
  variable_reads x small =
      let e : 32 + x - 32 ≡ x = omega arith in
      record {
        leads = λ d s gs vs n m rest h su fo room.
            by_step (make 1 ∷ more d s ∷ []) (number x ∷ vs) rest (rw (le-leb 32 (32 + x) (omega arith), lt-ltb (32 + x) 40 (omega arith), e)) (omega arith)
            thence makes (omega arith);
      }

  -- ---- behind an operand

  pub read_reads : {ts : List ℕ} {e : Expression} {k : ℕ} (f : ℕ) → Reads counts within tight ts (of_expression e) k → RightField f
      → Reads counts bare tight (ts ++ (dot ∷ f ∷ [])) (of_expression (Expression.read e f)) (suc (k + 0 + 0))
  unfolding step more_step made
  read_reads {ts} {e} f read right =
      record {
        leads = λ d s gs vs n m rest h su fo room.
            rw append_assoc
            (read.leads d s gs vs n (suc m) (dot ∷ f ∷ rest) h (suits_expression s e) (follows_dot (f ∷ rest)) (omega arith)
            thence by_step (make 3 ∷ more d s ∷ []) (number f ∷ of_expression e ∷ vs) rest
            (rw (lt-ltb 0 f right.0, lt-ltb f 32 right.1, fo.no_becomes, and-false (eqb d loose))) (omega arith)
            thence makes (omega arith));
      }

  pub write_reads : {ts ts' : List ℕ} {e e' : Expression} {k k' : ℕ} (f : ℕ) → Reads counts within tight ts (of_expression e) k → RightField f
      → Reads counts within loose ts' (of_expression e') k'
      → Reads counts bare loose (ts ++ (dot ∷ f ∷ becomes ∷ ts')) (of_expression (Expression.write e f e')) (suc (k + 0 + k'))
  unfolding step more_step made
  write_reads {ts} {ts'} {e} {e'} {k} {k'} f read right read' =
      record {
        leads = λ d s gs vs n m rest h su fo room.
            rw append_assoc
            (read.leads d s gs vs n (suc k' + m) (dot ∷ f ∷ becomes ∷ ts' ++ rest) (omega arith) (suits_expression s e)
            (follows_dot (f ∷ becomes ∷ ts' ++ rest)) (omega arith)
            thence by_step (operand loose expression ∷ make 4 ∷ more d s ∷ []) (number f ∷ of_expression e ∷ vs) (ts' ++ rest)
            (rw (lt-ltb 0 f right.0, lt-ltb f 32 right.1, eq-eqb d loose (omega arith))) (omega arith)
            thence whole read' (suc m) (omega arith) fo (omega arith)
            thence makes (omega arith));
      }

  pub and_reads : {ts ts' : List ℕ} {c c' : Condition} {k k' : ℕ} → Reads counts within testing ts (of_condition c) k
      → Reads counts within loose ts' (of_condition c') k'
      → Reads counts bare loose (ts ++ (and_word ∷ ts')) (of_condition (Condition.and c c')) (suc (k + k' + 0))
  unfolding step more_step made
  and_reads {ts} {ts'} {c} {c'} {k} {k'} read read' =
      record {
        leads = λ d s gs vs n m rest h su fo room.
            rw append_assoc
            (read.leads d s gs vs n (suc k' + m) (and_word ∷ ts' ++ rest) (omega arith) (suits_another s (Condition.and c c') c su)
            (follows_and (ts' ++ rest)) (omega arith)
            thence by_step (operand loose condition ∷ make 14 ∷ more d s ∷ []) (of_condition c ∷ vs) (ts' ++ rest) (rw (eq-eqb d loose (omega arith)))
            (omega arith)
            thence wholeᶜ read' (suc m) (omega arith) fo (omega arith)
            thence makes (omega arith));
      }

  pub equal_reads : {ts ts' : List ℕ} {e e' : Expression} {k k' : ℕ} → Reads counts within prefix ts (of_expression e) k
      → Reads counts within prefix ts' (of_expression e') k'
      → Reads counts bare testing (ts ++ (equals ∷ ts')) (of_condition (Condition.equal e e')) (suc (k + k' + 0))
  unfolding step more_step made
  equal_reads {ts} {ts'} {e} {e'} {k} {k'} read read' =
      record {
        leads = λ d s gs vs n m rest h su fo room.
            rw append_assoc
            (read.leads d s gs vs n (suc k' + m) (equals ∷ ts' ++ rest) (omega arith) (suits_expression s e)
            (follows_token equals prefix (ts' ++ rest) refl refl refl) (omega arith)
            thence by_step (operand prefix expression ∷ make 15 ∷ more d s ∷ []) (of_expression e ∷ vs) (ts' ++ rest)
            (rw (le-leb d testing h, takes_condition_lem s (Condition.equal e e') su)) (omega arith)
            thence whole read' (suc m) (omega arith) (looser testing prefix rest (omega arith) fo) (omega arith)
            thence makes (omega arith));
      }

  -- ---- forms that begin with a word

  -- an operand behind words: `fork`, `join`, `wait`, `notify`, `notify all`
  pub prefix_reads : (front : List ℕ) (tag : ℕ) (result : Expression → Expression) {ts : List ℕ} {e : Expression} {k : ℕ} → 1 ≤ length front
      → ((d : ℕ) (s : Sort) (vs : List Value) (n : ℕ) (rest : List ℕ)
      → step counts (operand d s) vs n (front ++ (ts ++ rest)) ≡ begun (prefix_form tag) d s vs n (front ++ (ts ++ rest)) (ts ++ rest))
      → ((vs : List Value) → made tag (of_expression e ∷ vs) ≡ of_expression (result e) ∷ vs) → Reads counts within prefix ts (of_expression e) k
      → Reads counts bare prefix (front ++ ts) (of_expression (result e)) (suc (k + 0 + 0))
  prefix_reads front tag result {ts} {e} there words result-made read =
      record {
        leads = λ d s gs vs n m rest h su fo room.
            rw (append_assoc, ← result-made vs)
            (begins (prefix_form tag) vs (ts ++ rest) (words d s vs n rest) h refl (omega arith)
            thence whole read (suc m) (omega arith) fo (omega arith)
            thence makes (omega arith));
      }

  pub not_reads : {ts : List ℕ} {c : Condition} {k : ℕ} → Reads counts within testing ts (of_condition c) k
      → Reads counts bare testing (not_word ∷ ts) (of_condition (Condition.not c)) (suc (k + 0 + 0))
  unfolding step operand_step forms made
  not_reads {ts} {c} read =
      record {
        leads = λ d s gs vs n m rest h su fo room.
            begins (form_at 1) vs (ts ++ rest) refl h (takes_condition_lem s (Condition.not c) su) (omega arith)
            thence wholeᶜ read (suc m) (omega arith) fo (omega arith)
            thence makes (omega arith);
      }

  pub synch_reads : {ts ts' : List ℕ} {e e' : Expression} {k k' : ℕ} → Reads counts within loose ts (of_expression e) k
      → Reads counts within loose ts' (of_expression e') k'
      → Reads counts bare loose (synch_word ∷ ts ++ (do_word ∷ ts')) (of_expression (Expression.synch e e')) (suc (k + k' + 0))
  unfolding step operand_step forms made
  synch_reads {ts} {ts'} {k' = k'} read read' =
      record {
        leads = λ d s gs vs n m rest h su fo room.
            rw append_assoc
            (begins (form_at 10) vs (ts ++ (do_word ∷ ts' ++ rest)) refl h refl (omega arith)
            thence whole read (suc k' + m) (omega arith) (follows_token do_word loose (ts' ++ rest) refl refl refl) (omega arith)
            thence expects (omega arith)
            thence whole read' (suc m) (omega arith) fo (omega arith)
            thence makes (omega arith));
      }

  pub while_reads : {ts ts' : List ℕ} {c : Condition} {e : Expression} {k k' : ℕ} → Reads counts within loose ts (of_condition c) k
      → Reads counts within loose ts' (of_expression e) k'
      → Reads counts bare loose (while_word ∷ ts ++ (do_word ∷ ts')) (of_expression (Expression.while c e)) (suc (k + k' + 0))
  unfolding step operand_step forms made
  while_reads {ts} {ts'} {k' = k'} read read' =
      record {
        leads = λ d s gs vs n m rest h su fo room.
            rw append_assoc
            (begins (form_at 6) vs (ts ++ (do_word ∷ ts' ++ rest)) refl h refl (omega arith)
            thence wholeᶜ read (suc k' + m) (omega arith) (follows_token do_word loose (ts' ++ rest) refl refl refl) (omega arith)
            thence expects (omega arith)
            thence whole read' (suc m) (omega arith) fo (omega arith)
            thence makes (omega arith));
      }

  pub if_reads : {ts ts' ts'' : List ℕ} {c : Condition} {e e' : Expression} {k k' k'' : ℕ} → Reads counts within loose ts (of_condition c) k
      → Reads counts within loose ts' (of_expression e) k' → Reads counts within loose ts'' (of_expression e') k''
      → Reads counts bare loose (if_word ∷ ts ++ (then_word ∷ ts' ++ (else_word ∷ ts''))) (of_expression (Expression.if c e e')) (suc (k + k' + k''))
  unfolding step operand_step forms made
  if_reads {ts} {ts'} {ts''} {k' = k'} {k'' = k''} read read' read'' =
      record {
        leads = λ d s gs vs n m rest h su fo room.
            rw (append_assoc, append_assoc)
            (begins (form_at 5) vs (ts ++ (then_word ∷ ts' ++ (else_word ∷ ts'' ++ rest))) refl h refl (omega arith)
            thence wholeᶜ read (suc k'' + k' + m) (omega arith) (follows_token then_word loose (ts' ++ (else_word ∷ ts'' ++ rest)) refl refl refl) (omega arith)
            thence expects (omega arith)
            thence whole read' (suc k'' + m) (omega arith) (follows_token else_word loose (ts'' ++ rest) refl refl refl) (omega arith)
            thence expects (omega arith)
            thence whole read'' (suc m) (omega arith) fo (omega arith)
            thence makes (omega arith));
      }

  pub let_reads : {ts ts' : List ℕ} (x : Option ℕ) {e e' : Expression} {k k' : ℕ} → RightSlot x → Reads counts within loose ts (of_expression e) k
      → Reads counts within loose ts' (of_expression e') k'
      → Reads counts bare loose (let_word ∷ binder_token x ∷ equals ∷ ts ++ (in_word ∷ ts')) (of_expression (Expression.let_in x e e')) (suc (0 + k + k'))
  unfolding step operand_step forms made
  let_reads {ts} {ts'} x {e} {e'} {k' = k'} right read read' =
      record {
        leads = λ d s gs vs n m rest h su fo room.
            let behind = equals ∷ ts ++ (in_word ∷ ts' ++ rest) in
            rw append_assoc
            (begins (form_at 4) vs (binder_token x ∷ behind) refl h refl (omega arith)
            thence by_step [] (number (slot_of x) ∷ vs) behind (binder_step counts x vs n behind right) (omega arith)
            thence expects (omega arith)
            thence whole read (suc k' + m) (omega arith) (follows_token in_word loose (ts' ++ rest) refl refl refl) (omega arith)
            thence expects (omega arith)
            thence whole read' (suc m) (omega arith) fo (omega arith)
            thence makes (omega arith)
            thence stays (ap (λ (y : Option ℕ). state (more d s ∷ gs) (of_expression (Expression.let_in y e e') ∷ vs) m rest) (slot_again x right)));
      }

  -- ---- new

  fields_lead : (fs : List ℕ) (k f a : ℕ) {gs : List Goal} {vs : List Value} {n : ℕ} {rest : List ℕ} → Ascending f fs → length fs ≤ k
      → (length gs < most_goals) × (length vs < most_values)
      → Leads counts (state (fields k f ∷ gs) (number a ∷ vs) n (fs ++ (closing ∷ rest))) (state gs (number (a + mask_of fs) ∷ vs) n rest)
  unfolding step fields_step mask_of number_in
  fields_lead [] k f a {gs} {vs} {n} {rest} up few room = by_step [] (number (a + 0) ∷ vs) rest (let e : a + 0 ≡ a = omega arith in rw e) (omega arith)
  fields_lead (g ∷ fs) k f a {gs} {vs} {n} {rest} up few room =
      let below = up.1 in
      rw (← add_assoc)
      (by_step (fields (k - 1) g ∷ []) (number (a + 2 ^ (31 - g)) ∷ vs) (fs ++ (closing ∷ rest))
      (rw (ne_eqb g closing (λ z. omega arith), lt-ltb 0 k (omega arith), lt-ltb f g up.0, lt-ltb g 32 below)) (omega arith)
      thence fields_lead fs (k - 1) g (a + 2 ^ (31 - g)) up.2 (omega arith) room)

  pub new_reads : (fs : List ℕ) → RightFields fs → Reads counts bare tight (new_word ∷ opening ∷ fs ++ (closing ∷ [])) (of_expression (Expression.new fs)) 1
  unfolding step operand_step forms made
  new_reads fs right =
      let again : fields_from (0 + mask_of fs) 0 32 ≡ fs = rw (zero-add (mask_of fs)) right.of_mask in
      record {
        leads = λ d s gs vs n m rest h su fo room.
            rw append_assoc
            (begins (form_at 3) (number 0 ∷ vs) (opening ∷ fs ++ (closing ∷ rest)) refl h refl (omega arith)
            thence expects (omega arith)
            thence fields_lead fs 8 0 0 right.ascending right.few (omega arith)
            thence makes (omega arith)
            thence stays (ap (λ (gs' : List ℕ). state (more d s ∷ gs) (of_expression (Expression.new gs') ∷ vs) m rest) again));
      }

-- ---- calls

-- tokens that are read as a call's list, behind its first parenthesis
pub record ReadsArguments (counts ts : List ℕ) (es : Arguments) (k : ℕ) : Type 0 where
  pub leads : (gs : List Goal) (vs : List Value) (n m : ℕ) (rest : List ℕ) → Fits within k gs vs n m
      → Leads counts (state (argument_goals (count es) ++ gs) vs n (opening ∷ ts ++ rest)) (state gs (of_arguments es ∷ vs) m rest)

-- and behind an argument
pub record ReadsFurther (counts ts : List ℕ) (es : Arguments) (k : ℕ) : Type 0 where
  pub leads : (gs : List Goal) (vs : List Value) (n m : ℕ) (rest : List ℕ) → Fits within k gs vs n m
      → Leads counts (state (further (count es) ∷ gs) vs n (ts ++ rest)) (state gs (of_arguments es ∷ vs) m rest)

module _ {counts : List ℕ} where
  pub no_arguments : ReadsArguments counts (closing ∷ []) Arguments.end 1
  unfolding argument_goals made
  no_arguments = record { leads = λ gs vs n m rest room. expects (omega arith) thence expects (omega arith) thence makes (omega arith) }

  pub no_further : ReadsFurther counts (closing ∷ []) Arguments.end 1
  unfolding step further_step made
  no_further = record { leads = λ gs vs n m rest room. by_step (make 17 ∷ []) vs rest refl (omega arith) thence makes (omega arith) }

  module _ {ts ts' : List ℕ} {e : Expression} {es : Arguments} {k k' : ℕ} (read : Reads counts within loose ts (of_expression e) k)
      (read' : ReadsFurther counts ts' es k')
      (behind : (rest : List ℕ) → Follows loose (ts' ++ rest)) where
    -- an argument and those behind it
    argument_lead : (gs : List Goal) (vs : List Value) (n m : ℕ) (rest : List ℕ) → Fits within (suc (k + k' + 0)) gs vs n m
        → Leads counts (state (operand loose expression ∷ further (count es) ∷ make 16 ∷ gs) vs n (ts ++ (ts' ++ rest)))
        (state gs (of_arguments (Arguments.argument e es) ∷ vs) m rest)
    unfolding made
    argument_lead gs vs n m rest room =
        whole read (suc k' + m) (omega arith) (behind rest) (omega arith)
        thence read'.leads (make 16 ∷ gs) (of_expression e ∷ vs) (suc k' + m) (suc m) rest (omega arith)
        thence makes (omega arith)

    pub arguments_read : ReadsArguments counts (ts ++ ts') (Arguments.argument e es) (suc (k + k' + 0))
    unfolding argument_goals
    arguments_read = record { leads = λ gs vs n m rest room. rw append_assoc (expects (omega arith) thence argument_lead gs vs n m rest room) }

    pub further_read : ReadsFurther counts (comma ∷ ts ++ ts') (Arguments.argument e es) (suc (k + k' + 0))
    unfolding step further_step
    further_read =
        record {
          leads = λ gs vs n m rest room.
              rw append_assoc
              (by_step (operand loose expression ∷ further (count es) ∷ make 16 ∷ []) vs (ts ++ (ts' ++ rest)) refl (omega arith)
              thence argument_lead gs vs n m rest room);
        }

  pub call_reads : {ts : List ℕ} (p : ℕ) (es : Arguments) {k : ℕ} → RightCall counts p es → ReadsArguments counts ts es k
      → Reads counts bare tight (call_word ∷ p ∷ opening ∷ ts) (of_expression (Expression.call p es)) (suc (0 + k + 0))
  unfolding step operand_step forms made
  call_reads {ts} p es right read =
      record {
        leads = λ d s gs vs n m rest h su fo room.
            begins (form_at 7) vs (p ∷ opening ∷ ts ++ rest) refl h refl (omega arith)
            thence by_step (argument_goals (count es)) (number p ∷ vs) (opening ∷ ts ++ rest)
            (rw (lt-ltb p 32 right.small, lt-ltb p (length counts) right.present, ← right.each_parameter)) (omega arith)
            thence read.leads (make 8 ∷ more d s ∷ gs) (number p ∷ vs) n (suc m) rest (omega arith)
            thence makes (omega arith);
      }
