-- Every tree has a token, so that a stack has at most as many items as tokens are left. Assumes nothing.
use Prim.Native.Nat.{ℕ, ◌-◌, ◌/◌, ◌%◌, ◌≤◌, ◌<◌}
use native.Mathlib.Omega.{arith}
use mathlib.Core.Bool.{Bool, true, false, cond}
use mathlib.Core.List.{List, [], ◌∷◌, ◌++◌}
use lib.Dec.{eqb, ltb, leb}
use lib.ListN.{length, length-append}
use Rattle.plan_packed.specs.Syntax.{Signal, Expression, Condition, Arguments}
use Rattle.plan_packed.specs.Inner.Steps.{tree_in, condition_in, list_in}
use Rattle.plan_notation.specs.Tokens.{in_word, then_word, else_word, do_word, opening, closing, equals}
use Rattle.plan_notation.specs.Shown.{grouped, binder_token, signal_tokens, shown, shownᶜ, shownᵃ, shown_further}
use Rattle.plan_token_writer.specs.Inner.Items.{shown_as, item_tokens, tokens_in}

record Some (ts : List ℕ) : Type 0 where
  some : 0 < length ts

first_some : (t : ℕ) (ts : List ℕ) → Some (t ∷ ts)
first_some t ts = record { some = omega arith }

-- with others behind or before them
before_others : {ts : List ℕ} (us : List ℕ) → Some ts → Some (ts ++ us)
before_others {ts} us h = record { some = omega (arith, h.some, length-append ts us) }

behind_others : (ts : List ℕ) (t : ℕ) (us : List ℕ) → Some (ts ++ (t ∷ us))
behind_others ts t us = record { some = omega (arith, length-append ts (t ∷ us)) }

grouped_some : (d l : ℕ) (ts : List ℕ) → Some ts → Some (grouped d l ts)
unfolding grouped
grouped_some d l ts h = go (ltb l d)
  where
    go : (b : Bool) → Some (cond b (opening ∷ ts ++ (closing ∷ [])) ts)
    go true = first_some _ _
    go false = h

signal_some : (k : Signal) → Some (signal_tokens k)
unfolding signal_tokens
signal_some Signal.wait = first_some _ _
signal_some Signal.notify = first_some _ _
signal_some Signal.notify_all = first_some _ _

shown_some : (d : ℕ) (e : Expression) → Some (shown d e)
unfolding shown
shown_some d (Expression.literal o) = first_some _ _
shown_some d (Expression.variable x) = first_some _ _
shown_some d (Expression.new fs) = first_some _ _
shown_some d (Expression.read e f) = behind_others (shown 3 e) _ _
shown_some d (Expression.write e f e') = grouped_some d _ _ (behind_others (shown 3 e) _ _)
shown_some d (Expression.let_in x e e') = grouped_some d _ _ (first_some _ (binder_token x ∷ equals ∷ shown 0 e ++ (in_word ∷ shown 0 e')))
shown_some d (Expression.if c e e') = grouped_some d _ _ (first_some _ (shownᶜ 0 c ++ (then_word ∷ shown 0 e ++ (else_word ∷ shown 0 e'))))
shown_some d (Expression.while c e) = grouped_some d _ _ (first_some _ (shownᶜ 0 c ++ (do_word ∷ shown 0 e)))
shown_some d (Expression.call m es) = first_some _ _
shown_some d (Expression.fork e) = grouped_some d _ _ (first_some _ (shown 2 e))
shown_some d (Expression.join e) = grouped_some d _ _ (first_some _ (shown 2 e))
shown_some d (Expression.synch e e') = grouped_some d _ _ (first_some _ (shown 0 e ++ (do_word ∷ shown 0 e')))
shown_some d (Expression.hold o e) = first_some _ _
shown_some d (Expression.signal k e) = grouped_some d _ _ (before_others _ (signal_some k))
shown_some d (Expression.waiting o) = first_some _ _

shown_someᶜ : (d : ℕ) (c : Condition) → Some (shownᶜ d c)
unfolding shown
shown_someᶜ d Condition.truth = first_some _ _
shown_someᶜ d (Condition.not c) = grouped_some d _ _ (first_some _ (shownᶜ 1 c))
shown_someᶜ d (Condition.and c c') = grouped_some d _ _ (behind_others (shownᶜ 1 c) _ _)
shown_someᶜ d (Condition.equal e e') = grouped_some d _ _ (behind_others (shown 2 e) _ _)

further_some : (es : Arguments) → Some (shown_further es)
unfolding shown
further_some Arguments.end = first_some _ _
further_some (Arguments.argument e es) = first_some _ _

shown_someᵃ : (es : Arguments) → Some (shownᵃ es)
unfolding shown
shown_someᵃ Arguments.end = first_some _ _
shown_someᵃ (Arguments.argument e es) = before_others _ (shown_some 0 e)

module _ (words : List ℕ) where
  tree_some : (c t : ℕ) → Some (shown_as words c t)
  unfolding shown_as
  tree_some c t = go (ltb c 4) (ltb c 8) (eqb c 8)
    where
      go : (a b e : Bool) → Some (cond a (shown c (tree_in words t))
          (cond b (shownᶜ (c - 4) (condition_in words t)) (cond e (shownᵃ (list_in words t)) (shown_further (list_in words t)))))
      go true b e = shown_some c (tree_in words t)
      go false true e = shown_someᶜ (c - 4) (condition_in words t)
      go false false true = shown_someᵃ (list_in words t)
      go false false false = further_some (list_in words t)

  item_some : (i : ℕ) → Some (item_tokens words i)
  unfolding item_tokens
  item_some i = go (leb 16384 i)
    where
      go : (b : Bool) → Some (cond b (i % 256 ∷ []) (shown_as words (i / 1024) (i % 1024)))
      go true = first_some _ _
      go false = tree_some (i / 1024) (i % 1024)

  pub each_some : (is : List ℕ) → length is ≤ length (tokens_in words is)
  unfolding tokens_in
  each_some [] = omega arith
  each_some (i ∷ is) = omega (arith, (item_some i).some, each_some is, length-append (item_tokens words i) (tokens_in words is))
