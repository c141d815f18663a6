-- The tokens of what is shown: how an expression begins, and that `procedure` is none of them. Assumes nothing.
use Prim.Native.Nat.{ℕ, ◌≤◌}
use native.Mathlib.Omega.{arith}
use mathlib.Core.Path.{◌≡◌}
use mathlib.Core.Bool.{Bool, true, false, cond}
use mathlib.Core.List.{List, [], ◌∷◌, ◌++◌}
use mathlib.Core.Option.{Option, some, none}
use lib.Dec.{ltb}
use Rattle.plan_packed.specs.Syntax.{Signal, Expression, Condition, Arguments}
use Rattle.plan_notation.specs.Tokens.{variable, volatile_word, procedure_word, in_word, then_word, else_word, do_word, all_word, and_word, true_word, not_word}
use Rattle.plan_notation.specs.Tokens.{null_word, new_word, let_word, if_word, while_word, call_word, fork_word, join_word, synch_word, wait_word, notify_word}
use Rattle.plan_notation.specs.Tokens.{opening}
use Rattle.plan_notation.specs.Tokens.{closing, comma, dot, equals, becomes}
use Rattle.plan_notation.specs.Shown.{tight, prefix, loose, testing, grouped, binder_token, signal_tokens, shown, shownᶜ, shownᵃ, shown_further}
use Rattle.plan_written.proofs.Right.{Ascending, RightSlot, RightField, Right, Rightᶜ, Rightᵃ}

-- ---- the first token

-- tokens that begin with no number, and neither with `volatile` nor with `all`
abbrev Starting : ℕ → Type 0
Starting t = (32 ≤ t) × (t ≡ volatile_word → ⊥) × (t ≡ all_word → ⊥)

pub data Starts : List ℕ → Type 0 where
  begins : (t : ℕ) {ts : List ℕ} → Starting t → Starts (t ∷ ts)

pub starts_append : {ts : List ℕ} (us : List ℕ) → Starts ts → Starts (ts ++ us)
starts_append us (begins t h) = begins t h

starts_grouped : (d l : ℕ) {ts : List ℕ} → Starts ts → Starts (grouped d l ts)
unfolding grouped
starts_grouped d l {ts} h = go (ltb l d)
  where
    go : (x : Bool) → Starts (cond x (opening ∷ ts ++ (closing ∷ [])) ts)
    go true = begins opening (omega arith)
    go false = h

starts_signal : (k : Signal) (ts : List ℕ) → Starts (signal_tokens k ++ ts)
unfolding signal_tokens
starts_signal Signal.wait ts = begins wait_word (omega arith)
starts_signal Signal.notify ts = begins notify_word (omega arith)
starts_signal Signal.notify_all ts = begins notify_word (omega arith)

pub starts : (counts : List ℕ) (e : Expression) (d : ℕ) → Right counts e → Starts (shown d e)
unfolding shown
starts counts (Expression.literal o) d r = begins null_word (omega arith)
starts counts (Expression.variable x) d r = begins (variable x) (omega arith)
starts counts (Expression.new fs) d r = begins new_word (omega arith)
starts counts (Expression.read e f) d r = starts_append _ (starts counts e tight r.0)
starts counts (Expression.write e f e') d r = starts_grouped d loose (starts_append _ (starts counts e tight r.0))
starts counts (Expression.let_in x e e') d r =
    starts_grouped d loose (begins let_word {ts = binder_token x ∷ equals ∷ shown loose e ++ (in_word ∷ shown loose e')} (omega arith))
starts counts (Expression.if c e e') d r =
    starts_grouped d loose (begins if_word {ts = shownᶜ loose c ++ (then_word ∷ shown loose e ++ (else_word ∷ shown loose e'))} (omega arith))
starts counts (Expression.while c e) d r = starts_grouped d loose (begins while_word {ts = shownᶜ loose c ++ (do_word ∷ shown loose e)} (omega arith))
starts counts (Expression.call m es) d r = begins call_word (omega arith)
starts counts (Expression.fork e) d r = starts_grouped d prefix (begins fork_word {ts = shown prefix e} (omega arith))
starts counts (Expression.join e) d r = starts_grouped d prefix (begins join_word {ts = shown prefix e} (omega arith))
starts counts (Expression.synch e e') d r = starts_grouped d loose (begins synch_word {ts = shown loose e ++ (do_word ∷ shown loose e')} (omega arith))
starts counts (Expression.hold o e) d r = absurd r
starts counts (Expression.signal k e) d r = starts_grouped d prefix (starts_signal k (shown prefix e))
starts counts (Expression.waiting o) d r = absurd r

-- ---- no procedure

-- tokens none of which is `procedure`
pub data NoProcedure : List ℕ → Type 0 where
  ends : NoProcedure []
  token : (t : ℕ) {ts : List ℕ} → (t ≡ procedure_word → ⊥) → NoProcedure ts → NoProcedure (t ∷ ts)

none_append : {ts us : List ℕ} → NoProcedure ts → NoProcedure us → NoProcedure (ts ++ us)
none_append ends g = g
none_append (token t h k) g = token t h (none_append k g)

none_grouped : (d l : ℕ) {ts : List ℕ} → NoProcedure ts → NoProcedure (grouped d l ts)
unfolding grouped
none_grouped d l {ts} h = go (ltb l d)
  where
    go : (x : Bool) → NoProcedure (cond x (opening ∷ ts ++ (closing ∷ [])) ts)
    go true = token opening (omega arith) (none_append h (token closing (omega arith) ends))
    go false = h

none_binder : (x : Option ℕ) → RightSlot x → binder_token x ≡ procedure_word → ⊥
unfolding binder_token
none_binder none r e = omega arith
none_binder (some x) r e = omega arith

none_signal : (k : Signal) → NoProcedure (signal_tokens k)
unfolding signal_tokens
none_signal Signal.wait = token wait_word (omega arith) ends
none_signal Signal.notify = token notify_word (omega arith) ends
none_signal Signal.notify_all = token notify_word (omega arith) (token all_word (omega arith) ends)

pub none_fields : (fs : List ℕ) (f : ℕ) → Ascending f fs → NoProcedure fs
none_fields [] f h = ends
none_fields (g ∷ gs) f h = token g (let s = h.1 in omega arith) (none_fields gs g h.2)

none_field : (f : ℕ) → RightField f → {ts : List ℕ} → NoProcedure ts → NoProcedure (dot ∷ f ∷ ts)
none_field f r h = token dot (omega arith) (token f (let s = r.1 in omega arith) h)

module _ (counts : List ℕ) where
  mutual
    unfolding shown

    pub none_shown : (e : Expression) (d : ℕ) → Right counts e → NoProcedure (shown d e)
    none_shown (Expression.literal o) d r = token null_word (omega arith) ends
    none_shown (Expression.variable x) d r = token (variable x) (omega arith) ends
    none_shown (Expression.new fs) d r =
        token new_word (omega arith) (token opening (omega arith) (none_append (none_fields fs 0 r.ascending) (token closing (omega arith) ends)))
    none_shown (Expression.read e f) d r = none_append (none_shown e tight r.0) (none_field f r.1 ends)
    none_shown (Expression.write e f e') d r =
        none_grouped d loose (none_append (none_shown e tight r.0) (none_field f r.1 (token becomes (omega arith) (none_shown e' loose r.2))))
    none_shown (Expression.let_in x e e') d r =
        none_grouped d loose
        (token let_word (omega arith) (token (binder_token x) (none_binder x r.0)
        (token equals (omega arith) (none_append (none_shown e loose r.1) (token in_word (omega arith) (none_shown e' loose r.2))))))
    none_shown (Expression.if c e e') d r =
        none_grouped d loose
        (token if_word (omega arith) (none_append (none_shownᶜ c loose r.0)
        (token then_word (omega arith) (none_append (none_shown e loose r.1) (token else_word (omega arith) (none_shown e' loose r.2))))))
    none_shown (Expression.while c e) d r =
        none_grouped d loose (token while_word (omega arith) (none_append (none_shownᶜ c loose r.0) (token do_word (omega arith) (none_shown e loose r.1))))
    none_shown (Expression.call m es) d r =
        token call_word (omega arith) (token m (let s = r.0.small in omega arith) (token opening (omega arith) (none_arguments es r.1)))
    none_shown (Expression.fork e) d r = none_grouped d prefix (token fork_word (omega arith) (none_shown e prefix r))
    none_shown (Expression.join e) d r = none_grouped d prefix (token join_word (omega arith) (none_shown e prefix r))
    none_shown (Expression.synch e e') d r =
        none_grouped d loose (token synch_word (omega arith) (none_append (none_shown e loose r.0) (token do_word (omega arith) (none_shown e' loose r.1))))
    none_shown (Expression.hold o e) d r = absurd r
    none_shown (Expression.signal k e) d r = none_grouped d prefix (none_append (none_signal k) (none_shown e prefix r))
    none_shown (Expression.waiting o) d r = absurd r

    none_shownᶜ : (c : Condition) (d : ℕ) → Rightᶜ counts c → NoProcedure (shownᶜ d c)
    none_shownᶜ Condition.truth d r = token true_word (omega arith) ends
    none_shownᶜ (Condition.not c) d r = none_grouped d testing (token not_word (omega arith) (none_shownᶜ c testing r))
    none_shownᶜ (Condition.and c c') d r =
        none_grouped d loose (none_append (none_shownᶜ c testing r.0) (token and_word (omega arith) (none_shownᶜ c' loose r.1)))
    none_shownᶜ (Condition.equal e e') d r =
        none_grouped d testing (none_append (none_shown e prefix r.0) (token equals (omega arith) (none_shown e' prefix r.1)))

    none_arguments : (es : Arguments) → Rightᵃ counts es → NoProcedure (shownᵃ es)
    none_arguments Arguments.end r = token closing (omega arith) ends
    none_arguments (Arguments.argument e es) r = none_append (none_shown e loose r.0) (none_further es r.1)

    none_further : (es : Arguments) → Rightᵃ counts es → NoProcedure (shown_further es)
    none_further Arguments.end r = token closing (omega arith) ends
    none_further (Arguments.argument e es) r = token comma (omega arith) (none_append (none_shown e loose r.0) (none_further es r.1))
