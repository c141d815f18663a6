-- A plan as tokens, in document 01's own notation, with no needless parentheses (docs/FORMAT.md, "A plan as text"). Assumes nothing.
use Rattle.std.specs.Prelude.{ℕ, suc, Bool, cond, List, [], ◌∷◌, ◌++◌, ltb}
use Rattle.std.proofs.Math.Option.{Option, some, none}
use Rattle.plan_packed.specs.Syntax.{Signal, Expression, Condition, Arguments, Procedure, Program}
use Rattle.plan_packed.specs.Format.{fields_from}
use Rattle.plan_written.specs.Written.{version_number}
use Rattle.plan_notation.specs.Tokens.{number, variable, version_word, volatile_word, procedure_word, in_word, then_word, else_word, do_word, all_word, and_word}
use Rattle.plan_notation.specs.Tokens.{true_word, not_word, null_word, new_word, let_word, if_word, while_word, call_word, fork_word, join_word, synch_word}
use Rattle.plan_notation.specs.Tokens.{wait_word}
use Rattle.plan_notation.specs.Tokens.{notify_word, opening, closing, comma, dot, equals, becomes, dash}

-- ---- how tightly a form binds, and how tightly its place asks it to

-- `let`, `if`, `while`, `synch`, `:=` and `and`, which go on as far as they can
abbrev pub loose : ℕ
loose = 0

-- `not` and `=`
abbrev pub testing : ℕ
testing = 1

-- `fork`, `join`, `wait`, `notify`, `notify all`
abbrev pub prefix : ℕ
prefix = 2

-- all others, and what stands in parentheses
abbrev pub tight : ℕ
tight = 3

-- the tokens of a form that binds as l, at a place that asks for d: in parentheses where it binds less tightly
unfoldable pub grouped : ℕ → ℕ → List ℕ → List ℕ
grouped d l ts = cond (ltb l d) (opening ∷ ts ++ (closing ∷ [])) ts

-- ---- expressions, conditions, arguments

-- the slot that a let binds: `let 0 = e in e`, `let - = e in e`
unfoldable pub binder_token : Option ℕ → ℕ
binder_token (some x) = number x
binder_token none = dash

-- `wait e`, `notify e`, `notify all e`
unfoldable pub signal_tokens : Signal → List ℕ
signal_tokens Signal.wait = wait_word ∷ []
signal_tokens Signal.notify = notify_word ∷ []
signal_tokens Signal.notify_all = notify_word ∷ all_word ∷ []

-- at a place that asks for d; `hold` and `waiting`, which are in execution only, are shown as null
unfoldable mutual
  unfolding grouped binder_token signal_tokens

  pub shown : ℕ → Expression → List ℕ
  shown d (Expression.literal o) = null_word ∷ []
  shown d (Expression.variable x) = variable x ∷ []
  shown d (Expression.new fs) = new_word ∷ opening ∷ fs ++ (closing ∷ [])
  shown d (Expression.read e f) = shown tight e ++ (dot ∷ number f ∷ [])
  shown d (Expression.write e f e') = grouped d loose (shown tight e ++ (dot ∷ number f ∷ becomes ∷ shown loose e'))
  shown d (Expression.let_in x e e') = grouped d loose (let_word ∷ binder_token x ∷ equals ∷ shown loose e ++ (in_word ∷ shown loose e'))
  shown d (Expression.if c e e') = grouped d loose (if_word ∷ shownᶜ loose c ++ (then_word ∷ shown loose e ++ (else_word ∷ shown loose e')))
  shown d (Expression.while c e) = grouped d loose (while_word ∷ shownᶜ loose c ++ (do_word ∷ shown loose e))
  shown d (Expression.call m es) = call_word ∷ number m ∷ opening ∷ shownᵃ es
  shown d (Expression.fork e) = grouped d prefix (fork_word ∷ shown prefix e)
  shown d (Expression.join e) = grouped d prefix (join_word ∷ shown prefix e)
  shown d (Expression.synch e e') = grouped d loose (synch_word ∷ shown loose e ++ (do_word ∷ shown loose e'))
  shown d (Expression.hold o e) = null_word ∷ []
  shown d (Expression.signal k e) = grouped d prefix (signal_tokens k ++ shown prefix e)
  shown d (Expression.waiting o) = null_word ∷ []

  pub shownᶜ : ℕ → Condition → List ℕ
  shownᶜ d Condition.truth = true_word ∷ []
  shownᶜ d (Condition.not c) = grouped d testing (not_word ∷ shownᶜ testing c)
  shownᶜ d (Condition.and c c') = grouped d loose (shownᶜ testing c ++ (and_word ∷ shownᶜ loose c'))
  shownᶜ d (Condition.equal e e') = grouped d testing (shown prefix e ++ (equals ∷ shown prefix e'))

  -- with the parenthesis behind them
  pub shownᵃ : Arguments → List ℕ
  shownᵃ Arguments.end = closing ∷ []
  shownᵃ (Arguments.argument e es) = shown loose e ++ shown_further es

  -- behind an argument
  pub shown_further : Arguments → List ℕ
  shown_further Arguments.end = closing ∷ []
  shown_further (Arguments.argument e es) = comma ∷ shown loose e ++ shown_further es

-- ---- the plan: its version, its volatile fields, and its procedures with their parameter counts

-- `volatile 2 3`, where a field other than 0 is volatile
unfoldable pub volatile_tokens : List ℕ → List ℕ
volatile_tokens [] = []
volatile_tokens (f ∷ fs) = volatile_word ∷ f ∷ fs

-- `procedure 1 (2) = e`: procedure p and those behind it
unfoldable pub procedure_tokens : ℕ → List Procedure → List ℕ
unfolding shown
procedure_tokens p [] = []
procedure_tokens p (d ∷ ds) = procedure_word ∷ number p ∷ opening ∷ number d.parameters ∷ closing ∷ equals ∷ shown loose d.body
    ++ procedure_tokens (suc p) ds

-- main first, which has no parameters
unfoldable pub main_first : List Procedure → List ℕ
unfolding shown procedure_tokens
main_first [] = []
main_first (d ∷ ds) = shown loose d.body ++ procedure_tokens 1 ds

unfoldable pub shown_plan : Program → List ℕ
unfolding volatile_tokens fields_from main_first version_number
shown_plan g = version_word ∷ number (version_number g.version) ∷ volatile_tokens (fields_from g.volatiles 1 31) ++ main_first g.procedures
