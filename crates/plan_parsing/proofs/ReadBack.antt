-- What is shown of an expression that a plan can have is read back as that expression. Assumes nothing.
use Prim.Native.Nat.{ℕ, suc, ◌+◌, ◌≤◌}
use native.Mathlib.Omega.{arith}
use mathlib.Core.Path.{◌≡◌, refl}
use mathlib.Core.Bool.{false}
use mathlib.Core.List.{List, [], ◌∷◌, ◌++◌}
use lib.Dec.{eqb}
use borrow.Author.Tests.{ne_eqb}
use Rattle.plan_packed.specs.Syntax.{Signal, Expression, Condition, Arguments}
use Rattle.plan_written.specs.Terms.{terms_of, terms_ofᶜ, terms_ofᵃ, size}
use Rattle.plan_notation.specs.Tokens.{all_word, fork_word, join_word, wait_word, notify_word, closing, comma}
use Rattle.plan_notation.specs.Shown.{loose, testing, prefix, tight, signal_tokens, shown, shownᶜ, shownᵃ, shown_further}
use Rattle.plan_written.proofs.Right.{Right, Rightᶜ, Rightᵃ}
use Rattle.plan_notation.proofs.ShownTokens.{Starts, begins, starts}
use Rattle.plan_parsing.specs.Goals.{Value, of_expression, of_condition, forms, made}
use Rattle.plan_parsing.specs.Parser.{ahead, operand_step, step}
use Rattle.plan_parsing.proofs.Operands.{Follows, follows_token, looser, Reads, within, bare, in_parentheses}
use Rattle.plan_parsing.proofs.ReadForms.{ReadsArguments, ReadsFurther, null_reads, truth_reads, variable_reads, read_reads, write_reads, and_reads}
use Rattle.plan_parsing.proofs.ReadForms.{equal_reads, prefix_reads, not_reads, synch_reads, while_reads, if_reads, let_reads, new_reads, no_arguments}
use Rattle.plan_parsing.proofs.ReadForms.{no_further, arguments_read, further_read, call_reads}

-- what binds most tightly needs no parentheses
tightly : {counts : List ℕ} {d : ℕ} {ts : List ℕ} {v : Value} {k : ℕ} → d ≤ tight → Reads counts bare tight ts v k → Reads counts within d ts v k
tightly {d = d} small read =
    record { leads = λ d' s gs vs n m rest h su fo room. read.leads d' s gs vs n m rest (omega arith) su (looser d tight rest small fo) (omega arith) }

-- behind an argument there is `)` or `,`
behind_argument : (es : Arguments) (rest : List ℕ) → Follows loose (shown_further es ++ rest)
unfolding shown
behind_argument Arguments.end rest = follows_token closing loose rest refl refl refl
behind_argument (Arguments.argument e es) rest = follows_token comma loose ((shown loose e ++ shown_further es) ++ rest) refl refl refl

-- no expression begins with `all`
not_all : {ts : List ℕ} (rest : List ℕ) → Starts ts → eqb (ahead (ts ++ rest) 0) all_word ≡ false
not_all rest (begins t h) = ne_eqb t all_word h.2

module _ {counts : List ℕ} where
  signal_reads : (k : Signal) (ts : List ℕ) (e : Expression) {n : ℕ} → Starts ts → Reads counts within prefix ts (of_expression e) n
      → Reads counts bare prefix (signal_tokens k ++ ts) (of_expression (Expression.signal k e)) (suc (n + 0 + 0))
  unfolding step operand_step forms made signal_tokens
  signal_reads Signal.wait ts e h read = prefix_reads (wait_word ∷ []) 18 (Expression.signal Signal.wait) (omega arith) (λ d s vs m rest. refl) (λ vs. refl) read
  signal_reads Signal.notify ts e h read =
      prefix_reads (notify_word ∷ []) 19 (Expression.signal Signal.notify) (omega arith) (λ d s vs m rest. rw (not_all rest h)) (λ vs. refl) read
  signal_reads Signal.notify_all ts e h read =
      prefix_reads (notify_word ∷ all_word ∷ []) 20 (Expression.signal Signal.notify_all) (omega arith) (λ d s vs m rest. refl) (λ vs. refl) read

module _ (counts : List ℕ) where
  mutual
    unfolding shown size terms_of step operand_step forms made

    -- where they are shown at a place that asks for d
    pub reads : (e : Expression) (d : ℕ) → d ≤ tight → Right counts e → Reads counts within d (shown d e) (of_expression e) (size (terms_of e))
    reads (Expression.literal o) d h r = rw r (tightly h null_reads)
    reads (Expression.variable x) d h r = tightly h (variable_reads x r)
    reads (Expression.new fs) d h r = tightly h (new_reads fs r)
    reads (Expression.read e f) d h r = tightly h (read_reads f (reads e tight (omega arith) r.0) r.1)
    reads (Expression.write e f e') d h r =
        in_parentheses loose d (write_reads f (reads e tight (omega arith) r.0) r.1 (reads e' loose (omega arith) r.2))
    reads (Expression.let_in x e e') d h r =
        in_parentheses loose d (let_reads x r.0 (reads e loose (omega arith) r.1) (reads e' loose (omega arith) r.2))
    reads (Expression.if c e e') d h r =
        in_parentheses loose d (if_reads (readsᶜ c loose (omega arith) r.0) (reads e loose (omega arith) r.1) (reads e' loose (omega arith) r.2))
    reads (Expression.while c e) d h r = in_parentheses loose d (while_reads (readsᶜ c loose (omega arith) r.0) (reads e loose (omega arith) r.1))
    reads (Expression.call m es) d h r = tightly h (call_reads m es r.0 (reads_arguments es r.1))
    reads (Expression.fork e) d h r =
        in_parentheses prefix d (prefix_reads (fork_word ∷ []) 9 Expression.fork (omega arith) (λ d s vs n rest. refl) (λ vs. refl)
        (reads e prefix (omega arith) r))
    reads (Expression.join e) d h r =
        in_parentheses prefix d (prefix_reads (join_word ∷ []) 10 Expression.join (omega arith) (λ d s vs n rest. refl) (λ vs. refl)
        (reads e prefix (omega arith) r))
    reads (Expression.synch e e') d h r = in_parentheses loose d (synch_reads (reads e loose (omega arith) r.0) (reads e' loose (omega arith) r.1))
    reads (Expression.hold o e) d h r = absurd r
    reads (Expression.signal k e) d h r =
        in_parentheses prefix d (signal_reads k (shown prefix e) e (starts counts e prefix r) (reads e prefix (omega arith) r))
    reads (Expression.waiting o) d h r = absurd r

    readsᶜ : (c : Condition) (d : ℕ) → d ≤ tight → Rightᶜ counts c → Reads counts within d (shownᶜ d c) (of_condition c) (size (terms_ofᶜ c))
    readsᶜ Condition.truth d h r = tightly h truth_reads
    readsᶜ (Condition.not c) d h r = in_parentheses testing d (not_reads (readsᶜ c testing (omega arith) r))
    readsᶜ (Condition.and c c') d h r = in_parentheses loose d (and_reads (readsᶜ c testing (omega arith) r.0) (readsᶜ c' loose (omega arith) r.1))
    readsᶜ (Condition.equal e e') d h r = in_parentheses testing d (equal_reads (reads e prefix (omega arith) r.0) (reads e' prefix (omega arith) r.1))

    reads_arguments : (es : Arguments) → Rightᵃ counts es → ReadsArguments counts (shownᵃ es) es (size (terms_ofᵃ es))
    reads_arguments Arguments.end r = no_arguments
    reads_arguments (Arguments.argument e es) r = arguments_read (reads e loose (omega arith) r.0) (reads_further es r.1) (behind_argument es)

    reads_further : (es : Arguments) → Rightᵃ counts es → ReadsFurther counts (shown_further es) es (size (terms_ofᵃ es))
    reads_further Arguments.end r = no_further
    reads_further (Arguments.argument e es) r = further_read (reads e loose (omega arith) r.0) (reads_further es r.1) (behind_argument es)
