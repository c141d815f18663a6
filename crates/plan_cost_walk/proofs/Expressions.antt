-- What the walk comes to at an expression, by its tag, and its calls: each walks a later term. Assumes nothing.
use mathlib.Core.Path.{◌≡◌, refl, ap, sym, ◌∙◌}
use mathlib.Core.Bool.{Bool}
use mathlib.Core.List.{List, [], ◌∷◌}
use Prim.Native.Nat.{ℕ, ◌+◌, ◌-◌, ◌*◌, ◌<◌, min}
use native.Mathlib.Omega.{arith}
use lib.ListN.{get_or}
use Rattle.format.proofs.Ranges.{NoneOf}
use Rattle.plan_packed.specs.Format.{layout, table}
use Rattle.plan_packed.specs.Inner.Operands as word
use Rattle.plan_packed.specs.Trees.{nodes, node_of, expression_of}
use Rattle.plan_packed.specs.Inner.Steps.{Ordered, in_word, tree_in, condition_in, list_in}
use Rattle.plan_packed.proofs.SingleTerm.{row_of}
use Rattle.plan_packed.proofs.Tags.{except}
use Rattle.plan_packed.proofs.Walk.{expr_is, row_below}
use Rattle.plan_packed.proofs.WalkSteps.{mod_below}
use Rattle.plan_cost_walk.specs.Inner.Walked.{more, called, branches, walked, walkedᶜ, walkedᵃ}

-- the 40 bits of term t
abbrev pub word_of : List ℕ → ℕ → ℕ
word_of words t = get_or words t 0

-- term t has tag k
abbrev pub Tagged : List ℕ → ℕ → ℕ → Type 0
Tagged words t k = word.tag_of (word_of words t) ≡ k

-- its children
abbrev pub first_of : List ℕ → ℕ → ℕ
first_of words t = word.first_of (word_of words t)

abbrev pub second_of : List ℕ → ℕ → ℕ
second_of words t = word.second_of (word_of words t)

abbrev pub third_of : List ℕ → ℕ → ℕ
third_of words t = word.third_of (word_of words t)

abbrev pub written_of : List ℕ → ℕ → ℕ
written_of words t = word.write_second (word_of words t)

abbrev pub value_of : List ℕ → ℕ → ℕ
value_of words t = word.let_first (word_of words t)

abbrev pub body_of : List ℕ → ℕ → ℕ
body_of words t = word.let_second (word_of words t)

abbrev pub arguments_of : List ℕ → ℕ → ℕ
arguments_of words t = word.list_bits (word_of words t)

-- and the procedure of a call
abbrev pub procedure_of : List ℕ → ℕ → ℕ
procedure_of words t = word.procedure_bits (word_of words t)

-- what a call on term x must show, where the span of terms is below this
abbrev pub Call : List ℕ → ℕ → ℕ → Type 0
Call words span x = (2 * (1024 - x) < span) × (Ordered words × (x < 1024))

-- what a call on two terms must show
abbrev pub CallTwo : List ℕ → ℕ → ℕ → ℕ → Type 0
CallTwo words span x y = (2 * (1024 - min x y) + 1 < span) × (Ordered words × ((x < 1024) × (y < 1024)))

-- ---- the calls on the children of term t

module _ (words : List ℕ) (o : Ordered words) (t : ℕ) {span : ℕ} (h : 2 * (1024 - t) ≡ span) where
  pub child : (x : ℕ) → t < x → x < 1024 → Call words span x
  child x k b = (omega arith, (o, b))

  pub children : (x y : ℕ) → t < x → t < y → x < 1024 → y < 1024 → CallTwo words span x y
  children x y k l b d = (omega arith, (o, (b, d)))

  pub read_call : Tagged words t 3 → Call words span (first_of words t)
  unfolding node_of in_word layout table nodes
  read_call e = child _ (row_below words o t 3 e) (mod_below _)

  pub fork_call : Tagged words t 9 → Call words span (first_of words t)
  unfolding node_of in_word layout table nodes
  fork_call e = child _ (row_below words o t 9 e) (mod_below _)

  pub join_call : Tagged words t 10 → Call words span (first_of words t)
  unfolding node_of in_word layout table nodes
  join_call e = child _ (row_below words o t 10 e) (mod_below _)

  pub wait_call : Tagged words t 18 → Call words span (first_of words t)
  unfolding node_of in_word layout table nodes
  wait_call e = child _ (row_below words o t 18 e) (mod_below _)

  pub notify_call : Tagged words t 19 → Call words span (first_of words t)
  unfolding node_of in_word layout table nodes
  notify_call e = child _ (row_below words o t 19 e) (mod_below _)

  pub notify_all_call : Tagged words t 20 → Call words span (first_of words t)
  unfolding node_of in_word layout table nodes
  notify_all_call e = child _ (row_below words o t 20 e) (mod_below _)

  pub write_call : Tagged words t 4 → CallTwo words span (first_of words t) (written_of words t)
  unfolding node_of in_word layout table nodes
  write_call e = let k = row_below words o t 4 e in children _ _ k.0 k.1 (mod_below _) (mod_below _)

  pub let_call : Tagged words t 5 → CallTwo words span (value_of words t) (body_of words t)
  unfolding node_of in_word layout table nodes
  let_call e = let k = row_below words o t 5 e in children _ _ k.0 k.1 (mod_below _) (mod_below _)

  pub synch_call : Tagged words t 11 → CallTwo words span (first_of words t) (second_of words t)
  unfolding node_of in_word layout table nodes
  synch_call e = let k = row_below words o t 11 e in children _ _ k.0 k.1 (mod_below _) (mod_below _)

  -- a condition and two branches
  three : (x y z : ℕ) → t < x → t < y → t < z → x < 1024 → y < 1024 → z < 1024
      → (2 * (1024 - min x (min y z)) + 1 < span) × (Ordered words × ((x < 1024) × (y < 1024) × (z < 1024)))
  three x y z k l m a b d = (omega arith, (o, (a, b, d)))

  pub if_call : Tagged words t 6
      → (2 * (1024 - min (first_of words t) (min (second_of words t) (third_of words t))) + 1 < span)
      × (Ordered words × ((first_of words t < 1024) × (second_of words t < 1024) × (third_of words t < 1024)))
  unfolding node_of in_word layout table nodes
  if_call e = let k = row_below words o t 6 e in three _ _ _ k.0 k.1 k.2 (mod_below _) (mod_below _) (mod_below _)

  pub while_test_lem : Tagged words t 7 → Call words span (first_of words t)
  unfolding node_of in_word layout table nodes
  while_test_lem e = child _ (row_below words o t 7 e).0 (mod_below _)

  pub while_body_lem : Tagged words t 7 → Call words span (second_of words t)
  unfolding node_of in_word layout table nodes
  while_body_lem e = child _ (row_below words o t 7 e).1 (mod_below _)

  -- a call's list
  list : (x : ℕ) → t < x → x < 1024 → (2 * (1024 - x) + 1 < span) × Ordered words
  list x k b = (omega arith, o)

  pub call_call : Tagged words t 8 → (2 * (1024 - arguments_of words t) + 1 < span) × Ordered words
  unfolding node_of in_word layout table nodes
  call_call e = list _ (row_below words o t 8 e) (mod_below _)

-- ---- what the walk comes to

module _ (words : List ℕ) (o : Ordered words) (t : ℕ) (b : Bool) (T : ℕ → ℕ) (n : ℕ) where
  -- at the tree of term t
  abbrev here : ℕ
  here = walked b T n (tree_in words t)

  -- and at that of term x, after m
  abbrev then : ℕ → ℕ → ℕ
  then m x = walked b T m (tree_in words x)

  abbrev thenᶜ : ℕ → ℕ → ℕ
  thenᶜ m x = walkedᶜ b T m (condition_in words x)

  abbrev thenᵃ : ℕ → ℕ → ℕ
  thenᵃ m x = walkedᵃ b T m (list_in words x)

  -- a term of tag k stands for its row of the table
  is : (k : ℕ) → Tagged words t k → walked b T n (expression_of (tree_in words) (condition_in words) (list_in words) (row_of k (word_of words t))) ≡ here
  is k e = sym (ap (walked b T n) (expr_is words o t k e))

  pub new_walked : {r : ℕ} → Tagged words t 2 → r ≡ more b n 1 → r ≡ here
  unfolding node_of in_word layout table nodes expression_of walked
  new_walked e p = p ∙ is 2 e

  pub read_walked : {m r : ℕ} → Tagged words t 3 → m ≡ more b n 1 → r ≡ then m (first_of words t) → r ≡ here
  unfolding node_of in_word layout table nodes expression_of walked
  read_walked e p q = q ∙ ap (λ (x : ℕ). then x (first_of words t)) p ∙ is 3 e

  pub fork_walked : {m r : ℕ} → Tagged words t 9 → m ≡ more b n 1 → r ≡ then m (first_of words t) → r ≡ here
  unfolding node_of in_word layout table nodes expression_of walked
  fork_walked e p q = q ∙ ap (λ (x : ℕ). then x (first_of words t)) p ∙ is 9 e

  pub join_walked : {m r : ℕ} → Tagged words t 10 → m ≡ more b n 1 → r ≡ then m (first_of words t) → r ≡ here
  unfolding node_of in_word layout table nodes expression_of walked
  join_walked e p q = q ∙ ap (λ (x : ℕ). then x (first_of words t)) p ∙ is 10 e

  pub notify_walked : {m r : ℕ} → Tagged words t 19 → m ≡ more b n 1 → r ≡ then m (first_of words t) → r ≡ here
  unfolding node_of in_word layout table nodes expression_of walked
  notify_walked e p q = q ∙ ap (λ (x : ℕ). then x (first_of words t)) p ∙ is 19 e

  pub notify_all_walked : {m r : ℕ} → Tagged words t 20 → m ≡ more b n 1 → r ≡ then m (first_of words t) → r ≡ here
  unfolding node_of in_word layout table nodes expression_of walked
  notify_all_walked e p q = q ∙ ap (λ (x : ℕ). then x (first_of words t)) p ∙ is 20 e

  pub wait_walked : {m l r : ℕ} → Tagged words t 18 → m ≡ more b n 1 → l ≡ more b m 1 → r ≡ then l (first_of words t) → r ≡ here
  unfolding node_of in_word layout table nodes expression_of walked
  wait_walked e p s q = q ∙ ap (λ (x : ℕ). then x (first_of words t)) (s ∙ ap (λ (x : ℕ). more b x 1) p) ∙ is 18 e

  pub write_walked : {m r : ℕ} → Tagged words t 4 → m ≡ more b n 1 → r ≡ then (then m (first_of words t)) (written_of words t) → r ≡ here
  unfolding node_of in_word layout table nodes expression_of walked
  write_walked e p q = q ∙ ap (λ (x : ℕ). then (then x (first_of words t)) (written_of words t)) p ∙ is 4 e

  pub let_walked : {m r : ℕ} → Tagged words t 5 → m ≡ more b n 1 → r ≡ then (then m (value_of words t)) (body_of words t) → r ≡ here
  unfolding node_of in_word layout table nodes expression_of walked
  let_walked e p q = q ∙ ap (λ (x : ℕ). then (then x (value_of words t)) (body_of words t)) p ∙ is 5 e

  pub if_walked : {m r : ℕ} → Tagged words t 6 → m ≡ more b n 1
      → r ≡ branches b (then (thenᶜ m (first_of words t)) (second_of words t)) (then (thenᶜ m (first_of words t)) (third_of words t)) → r ≡ here
  unfolding node_of in_word layout table nodes expression_of walked
  if_walked e p q =
      q
      ∙ ap (λ (x : ℕ). branches b (then (thenᶜ x (first_of words t)) (second_of words t)) (then (thenᶜ x (first_of words t)) (third_of words t))) p
      ∙ is 6 e

  pub while_walked : {m l r : ℕ} → Tagged words t 7 → m ≡ more b n 1 → l ≡ thenᶜ m (first_of words t) → r ≡ then l (second_of words t) → r ≡ here
  unfolding node_of in_word layout table nodes expression_of walked
  while_walked e p s q = q ∙ ap (λ (x : ℕ). then x (second_of words t)) (s ∙ ap (λ (x : ℕ). thenᶜ x (first_of words t)) p) ∙ is 7 e

  pub call_walked : {m r : ℕ} → Tagged words t 8 → m ≡ more b n 1 → r ≡ called b (thenᵃ m (arguments_of words t)) (T (procedure_of words t)) → r ≡ here
  unfolding node_of in_word layout table nodes expression_of walked
  call_walked e p q = q ∙ ap (λ (x : ℕ). called b (thenᵃ x (arguments_of words t)) (T (procedure_of words t))) p ∙ is 8 e

  pub synch_walked : {m k r : ℕ} → Tagged words t 11 → m ≡ more b n 1 → k ≡ more b m 1 → r ≡ then (then k (first_of words t)) (second_of words t) → r ≡ here
  unfolding node_of in_word layout table nodes expression_of walked
  synch_walked e p d q = q ∙ ap (λ (x : ℕ). then (then x (first_of words t)) (second_of words t)) (d ∙ ap (λ (x : ℕ). more b x 1) p) ∙ is 11 e

  -- a term of another sort, null or a variable
  pub rest_walked : NoneOf (word.tag_of (word_of words t)) (20 ∷ 19 ∷ 18 ∷ 11 ∷ 10 ∷ 9 ∷ 8 ∷ 7 ∷ 6 ∷ 5 ∷ 4 ∷ 3 ∷ 2 ∷ []) → n ≡ here
  unfolding node_of in_word layout table nodes expression_of walked
  rest_walked h =
      except (λ k. n ≡ walked b T n (expression_of (tree_in words) (condition_in words) (list_in words) (row_of k (word_of words t))))
      (20 ∷ 19 ∷ 18 ∷ 11 ∷ 10 ∷ 9 ∷ 8 ∷ 7 ∷ 6 ∷ 5 ∷ 4 ∷ 3 ∷ 2 ∷ [])
      refl refl tt tt tt tt tt tt tt tt tt tt refl refl refl refl refl refl tt tt tt (λ j. refl) (word.tag_of (word_of words t)) h
      ∙ is (word.tag_of (word_of words t)) refl
