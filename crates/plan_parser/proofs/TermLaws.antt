-- A term that is made of values, below the others: its tree is made of theirs, and theirs stay. Assumes nothing.
use Prim.Native.Nat.{ℕ, zero, suc, ◌+◌, ◌-◌, ◌^◌, ◌≤◌, ◌<◌}
use native.Mathlib.Decide.{dec_lt, ℕ_discrete}
use native.Mathlib.Omega.{arith}
use mathlib.Core.Path.{◌≡◌, refl, sym, ap, ◌∙◌}
use mathlib.Core.Bool.{Bool, true, false, cond}
use mathlib.Core.List.{List, [], ◌∷◌}
use lib.Dec.{ltb}
use lib.ListN.{length, get_or, set, drop}
use lib.Seq.{get_or-set_same, get_or-set_other}
use borrow.Author.Tests.{ne_eqb, lt-ltb, le-ltb}
use Rattle.format.proofs.Ranges.{by_range}
use Rattle.plan_packed.specs.Syntax.{Expression, Condition, Arguments}
use Rattle.plan_packed.specs.Format.{width, table, layout, fields_from, Term}
use Rattle.plan_packed.specs.Inner.Operands.{tag_of}
use Rattle.plan_packed.specs.Trees.{Node, nodes, node_of, expression_of, condition_of, arguments_of, expression_at, condition_at, arguments_at}
use Rattle.plan_packed.specs.Inner.Steps.{Ordered, Descending, NamesLater, in_word, term_in, node_in, tag_in, tree_in, list_in}
use Rattle.plan_packed.specs.Inner.Steps as array
use Rattle.plan_packed.proofs.Tags.{past, by_tag}
use Rattle.plan_packed.proofs.SingleTerm.{row_of}
use Rattle.plan_packed.proofs.Walk.{expr_is, cond_is, list_is}
use Rattle.plan_packed.proofs.Children.{node_of_tag, term_of}
use Rattle.plan_packed.proofs.TreeLaws.{expression_cong, condition_cong, arguments_cong, tree, treeᶜ, treeᵃ, tree_law, tree_lawᶜ, tree_lawᵃ}
use Rattle.plan_written.specs.Terms.{word_of}
use Rattle.plan_written.proofs.Words.{Fitting, term_in_word}
use Rattle.plan_parsing.specs.Goals.{Value, number, of_expression, of_condition, of_arguments, number_in, expression_in, condition_in, arguments_in, operand_counts}
use Rattle.plan_parsing.specs.Goals.{terms, value_at, made}
use Rattle.plan_parser_goals.specs.Inner.Encoded.{term_value, value_of, values_of}
use Rattle.plan_parser_goals.specs.Inner.Moves.{IsBelow, IsOf, operand_kinds, Operands}
use Rattle.plan_parser.specs.Inner.Stacks.{Entries, operand_at}
use Rattle.plan_parser.proofs.StackLaws.{values_set}

-- ---- trees above m are the same in tables that are the same there

module _ (h h' : ℕ → Node) (below : (t : ℕ) → NamesLater t (h t)) (m : ℕ) (same : (t : ℕ) → m < t → h' t ≡ h t) where
  mutual
    unfolding expression_at

    expression_same : (n t : ℕ) → m < t → expression_at h' n t ≡ expression_at h n t
    expression_same zero t b = refl
    expression_same (suc n) t b =
        rw (same t b)
        (expression_cong t (λ i. expression_at h' n i) (λ i. expression_at h n i) (λ i. condition_at h' n i) (λ i. condition_at h n i) (λ i. arguments_at h' n i)
        (λ i. arguments_at h n i)
        (λ i c. expression_same n i (omega arith)) (λ i c. condition_same n i (omega arith)) (λ i c. arguments_same n i (omega arith)) (h t) (below t))

    condition_same : (n t : ℕ) → m < t → condition_at h' n t ≡ condition_at h n t
    condition_same zero t b = refl
    condition_same (suc n) t b =
        rw (same t b)
        (condition_cong t (λ i. expression_at h' n i) (λ i. expression_at h n i) (λ i. condition_at h' n i) (λ i. condition_at h n i) (λ i. arguments_at h' n i)
        (λ i. arguments_at h n i)
        (λ i c. expression_same n i (omega arith)) (λ i c. condition_same n i (omega arith)) (λ i c. arguments_same n i (omega arith)) (h t) (below t))

    arguments_same : (n t : ℕ) → m < t → arguments_at h' n t ≡ arguments_at h n t
    arguments_same zero t b = refl
    arguments_same (suc n) t b =
        rw (same t b)
        (arguments_cong t (λ i. expression_at h' n i) (λ i. expression_at h n i) (λ i. condition_at h' n i) (λ i. condition_at h n i) (λ i. arguments_at h' n i)
        (λ i. arguments_at h n i)
        (λ i c. expression_same n i (omega arith)) (λ i c. condition_same n i (omega arith)) (λ i c. arguments_same n i (omega arith)) (h t) (below t))

-- ---- a term more

module _ (words : List ℕ) (m w : ℕ) where
  node_other : (t : ℕ) → (t ≡ m → ⊥) → node_in (set words m w) t ≡ node_in words t
  unfolding node_in
  node_other t d = rw (get_or-set_other words m t w 0 d)

  tag_other : (t : ℕ) → (t ≡ m → ⊥) → tag_in (set words m w) t ≡ tag_in words t
  unfolding tag_in
  tag_other t d = rw (get_or-set_other words m t w 0 d)

  module _ (o : Ordered words) where
    tree_other : (t : ℕ) → m < t → tree_in (set words m w) t ≡ tree_in words t
    unfolding tree_in
    tree_other t h = expression_same (node_in words) (node_in (set words m w)) o.below m (λ t b. node_other t (λ e. omega arith)) (1024 - t) t h

    condition_other : (t : ℕ) → m < t → array.condition_in (set words m w) t ≡ array.condition_in words t
    unfolding array.condition_in
    condition_other t h = condition_same (node_in words) (node_in (set words m w)) o.below m (λ t b. node_other t (λ e. omega arith)) (1024 - t) t h

    list_other : (t : ℕ) → m < t → list_in (set words m w) t ≡ list_in words t
    unfolding list_in
    list_other t h = arguments_same (node_in words) (node_in (set words m w)) o.below m (λ t b. node_other t (λ e. omega arith)) (1024 - t) t h

    value_other : (v : ℕ) → m < v → value_of (set words m w) v ≡ value_of words v
    unfolding value_of term_value
    value_other v h = rw (tag_other v (λ e. omega arith), tree_other v h, condition_other v h, list_other v h)

    -- the values of an array stay
    pub values_other : (values : List ℕ) (n left : ℕ) → m < left → Entries left values n → values_of (set words m w) values n ≡ values_of words values n
    unfolding values_of
    values_other values zero left h e = refl
    values_other values (suc n) left h e =
        let d = e n (omega arith) in
        rw (value_other (get_or values n 0) (omega arith), values_other values n left h (λ i b. e i (omega arith)))

    -- children still come after their parents
    pub ordered_more : m < 1024 → NamesLater m (node_in (set words m w) m) → Ordered (set words m w)
    ordered_more h b = record { past = λ t k. node_other t (λ e. omega arith) ∙ o.past t k; below = λ t. each t (ℕ_discrete t m) }
      where
        each : (t : ℕ) → Dec (t ≡ m) → NamesLater t (node_in (set words m w) t)
        each t (yes e) = rw e b
        each t (no d) = rw (node_other t d) (o.below t)

-- ---- a row of the table, over values and over the numbers that stand for them

-- by the sort of a tag
unfoldable value_for : ℕ → Expression → Condition → Arguments → Value
value_for k e c l = cond (ltb k 12) (of_expression e) (cond (ltb k 16) (of_condition c) (cond (ltb k 18) (of_arguments l) (of_expression e)))

module _ (E : ℕ → Expression) (C : ℕ → Condition) (L : ℕ → Arguments) (m : ℕ) where
  -- an operand of a kind: a term behind m, with the value's tree; or a number
  abbrev Is : ℕ → Value → ℕ → Type 0
  Is zero v o = (m < o) × (o < 1024) × (E o ≡ expression_in v) × (C o ≡ condition_in v) × (L o ≡ arguments_in v)
  Is (suc b) v o = (o < suc b) × (o ≡ number_in v)

  -- the operands of these kinds, the last first
  abbrev RowIs : List ℕ → Value → Value → Value → ℕ → ℕ → ℕ → Type 0
  RowIs [] u v w x y z = (x ≡ 0) × (y ≡ 0) × (z ≡ 0)
  RowIs (a ∷ []) u v w x y z = Is a u x × (y ≡ 0) × (z ≡ 0)
  RowIs (b ∷ a ∷ []) u v w x y z = Is a u x × Is b v y × (z ≡ 0)
  RowIs (c ∷ b ∷ a ∷ ks) u v w x y z = Is a u x × Is b v y × Is c w z

  module _ (u v w : Value) (x y z : ℕ) where
    -- they fit, the term's children come after it, and it is the value that is made of theirs
    record Fine (k : ℕ) : Type 0 where
      pub fitting : Fitting (layout k) x y z
      pub below : NamesLater m (node_of_tag k x y z)
      pub value :
          value_for k (expression_of E C L (node_of_tag k x y z)) (condition_of E C (node_of_tag k x y z)) (arguments_of E L (node_of_tag k x y z)) ≡ get_or terms k
          (λ x y z. number 0) u v w

    abbrev Row : ℕ → Type 0
    Row k = RowIs (get_or operand_kinds k []) u v w x y z → Fine k

    fits : (k : ℕ) → x < 2 ^ width (layout k).first → y < 2 ^ width (layout k).second → z < 2 ^ width (layout k).third → Fitting (layout k) x y z
    fits k a b c = record { first_fits = a; second_fits = b; third_fits = c }

    row_fine : (k : ℕ) → k < 21 → RowIs (get_or operand_kinds k []) u v w x y z → Fine k
    unfolding operand_kinds layout table nodes expression_of condition_of arguments_of terms value_for
    row_fine =
        by_range Row 0 21 ((k : ℕ) → k < 21 → Row k) (λ all k h. all k (omega arith) (omega arith))
        (λ r. record { fitting = fits 0 (omega arith) (omega arith) (omega arith); below = tt; value = refl })
        (λ r. record { fitting = fits 1 (omega arith) (omega arith) (omega arith); below = tt; value = rw r.0.1 })
        (λ r. record {
          fitting = fits 2 (omega arith) (omega arith) (omega arith);
          below = tt;
          value = ap
              (λ (n : ℕ). of_expression (Expression.new (fields_from n 0 32))) r.0.1;
        })
        (λ r. record { fitting = fits 3 (omega arith) (omega arith) (omega arith); below = r.0.0; value = rw (r.0.2, r.1.1) })
        (λ r. record { fitting = fits 4 (omega arith) (omega arith) (omega arith); below = (r.0.0, r.2.0); value = rw (r.0.2, r.1.1, r.2.2) })
        (λ r. record { fitting = fits 5 (omega arith) (omega arith) (omega arith); below = (r.1.0, r.2.0); value = rw (r.0.1, r.1.2, r.2.2) })
        (λ r. record {
          fitting = fits 6 (omega arith) (omega arith) (omega arith);
          below = (r.0.0, r.1.0, r.2.0);
          value = rw
              (r.0.3, r.1.2, r.2.2);
        })
        (λ r. record { fitting = fits 7 (omega arith) (omega arith) (omega arith); below = (r.0.0, r.1.0); value = rw (r.0.3, r.1.2) })
        (λ r. record { fitting = fits 8 (omega arith) (omega arith) (omega arith); below = r.1.0; value = rw (r.0.1, r.1.4) })
        (λ r. record { fitting = fits 9 (omega arith) (omega arith) (omega arith); below = r.0.0; value = rw r.0.2 })
        (λ r. record { fitting = fits 10 (omega arith) (omega arith) (omega arith); below = r.0.0; value = rw r.0.2 })
        (λ r. record { fitting = fits 11 (omega arith) (omega arith) (omega arith); below = (r.0.0, r.1.0); value = rw (r.0.2, r.1.2) })
        (λ r. record { fitting = fits 12 (omega arith) (omega arith) (omega arith); below = tt; value = refl })
        (λ r. record { fitting = fits 13 (omega arith) (omega arith) (omega arith); below = r.0.0; value = rw r.0.3 })
        (λ r. record { fitting = fits 14 (omega arith) (omega arith) (omega arith); below = (r.0.0, r.1.0); value = rw (r.0.3, r.1.3) })
        (λ r. record { fitting = fits 15 (omega arith) (omega arith) (omega arith); below = (r.0.0, r.1.0); value = rw (r.0.2, r.1.2) })
        (λ r. record { fitting = fits 16 (omega arith) (omega arith) (omega arith); below = (r.0.0, r.1.0); value = rw (r.0.2, r.1.4) })
        (λ r. record { fitting = fits 17 (omega arith) (omega arith) (omega arith); below = tt; value = refl })
        (λ r. record { fitting = fits 18 (omega arith) (omega arith) (omega arith); below = r.0.0; value = rw r.0.2 })
        (λ r. record { fitting = fits 19 (omega arith) (omega arith) (omega arith); below = r.0.0; value = rw r.0.2 })
        (λ r. record { fitting = fits 20 (omega arith) (omega arith) (omega arith); below = r.0.0; value = rw r.0.2 })

-- ---- the values of an array as operands

module _ (words : List ℕ) (o : Ordered words) where
  abbrev E : ℕ → Expression
  E = tree_in words

  abbrev C : ℕ → Condition
  C = array.condition_in words

  abbrev L : ℕ → Arguments
  L = list_in words

  -- a term of another sort is read as null, as true or as the end of a list
  abbrev Sorted : ℕ → ℕ → Type 0
  Sorted w k =
      (expression_of E C L (row_of k w) ≡ expression_in (value_for k (expression_of E C L (row_of k w)) (condition_of E C (row_of k w))
      (arguments_of E L (row_of k w))))
      × (condition_of E C (row_of k w) ≡ condition_in (value_for k (expression_of E C L (row_of k w)) (condition_of E C (row_of k w)) (arguments_of E L (row_of k w))))
      × (arguments_of E L (row_of k w) ≡ arguments_in (value_for k (expression_of E C L (row_of k w)) (condition_of E C (row_of k w)) (arguments_of E L (row_of k w))))

  sorted : (w k : ℕ) → Sorted w k
  unfolding node_of in_word layout table nodes expression_of condition_of arguments_of value_for expression_in condition_in arguments_in
  sorted w =
      by_tag (Sorted w)
      (refl, refl, refl)
      (refl, refl, refl)
      (refl, refl, refl)
      (refl, refl, refl)
      (refl, refl, refl)
      (refl, refl, refl)
      (refl, refl, refl)
      (refl, refl, refl)
      (refl, refl, refl)
      (refl, refl, refl)
      (refl, refl, refl)
      (refl, refl, refl)
      (refl, refl, refl)
      (refl, refl, refl)
      (refl, refl, refl)
      (refl, refl, refl)
      (refl, refl, refl)
      (refl, refl, refl)
      (refl, refl, refl)
      (refl, refl, refl)
      (refl, refl, refl)
      (λ j. rw (le-ltb (past 21 j) 12 (omega arith), le-ltb (past 21 j) 16 (omega arith), le-ltb (past 21 j) 18 (omega arith)) (refl, refl, refl))

  pub sorts_agree : (v : ℕ) → (E v ≡ expression_in (term_value words v)) × (C v ≡ condition_in (term_value words v)) × (L v ≡ arguments_in (term_value words v))
  unfolding term_value value_for tag_in
  sorts_agree v =
      let k = tag_of (get_or words v 0) in
      rw (expr_is words o v k refl, cond_is words o v k refl, list_is words o v k refl) (sorted (get_or words v 0) k)

  pub no_number : (b v : ℕ) → IsBelow b (term_value words v) → ⊥
  unfolding term_value
  no_number b v h = choice (ltb (tag_in words v) 12) (ltb (tag_in words v) 16) (ltb (tag_in words v) 18) h
    where
      choice : (p q r : Bool) → IsBelow b (cond p (of_expression (E v)) (cond q (of_condition (C v)) (cond r (of_arguments (L v)) (of_expression (E v))))) → ⊥
      choice true q r h = h
      choice false true r h = h
      choice false false true h = h
      choice false false false h = h

  module _ (m left : ℕ) (b : m < left) where
    -- a value of an array as an operand
    operand_is : (k e : ℕ) → left ≤ e → IsOf k (value_of words e) → Is E C L m k (value_of words e) (cond (ltb e 1024) e (e - 1024))
    unfolding value_of number_in
    operand_is k e h t = go k t (dec_lt e 1024)
      where
        go : (k : ℕ) → IsOf k (value_of words e) → Dec (e < 1024) → Is E C L m k (value_of words e) (cond (ltb e 1024) e (e - 1024))
        go zero t (yes l) = let s = sorts_agree e in rw (lt-ltb e 1024 l) (omega arith, l, s.0, s.1, s.2)
        go zero t (no l) = absurd (rw (le-ltb e 1024 (omega (arith, l))) at t)
        go (suc k) t (yes l) = absurd (no_number (suc k) e (rw (lt-ltb e 1024 l) at t))
        go (suc k) t (no l) = let t' = rw (le-ltb e 1024 (omega (arith, l))) at t in rw (le-ltb e 1024 (omega (arith, l))) (t', refl)

    -- those that were read last
    operands_are : (ks values : List ℕ) (n : ℕ) → Operands ks (values_of words values n) → Entries left values n → (i : ℕ) → i < length ks
        → Is E C L m (get_or ks i 0) (value_at (values_of words values n) i) (operand_at values n (suc i))
    unfolding values_of operand_at
    operands_are [] values n p e i h = absurd (omega arith)
    operands_are (k ∷ ks) values zero p e i h = absurd p
    operands_are (k ∷ ks) values (suc n) p e zero h =
        let q : suc n - 1 ≡ n = omega arith in
        rw q (operand_is k (get_or values n 0) (e n (omega arith)).0 p.0)
    operands_are (k ∷ ks) values (suc n) p e (suc i) h =
        let q : suc n - suc (suc i) ≡ n - suc i = omega arith in
        rw (ne_eqb (suc (suc i)) 0 (λ d. omega arith), q)
        (rw (ne_eqb (suc i) 0 (λ d. omega arith)) at (operands_are ks values n p.1 (λ j c. e j (omega arith)) i (omega arith)))

    -- in the places of a row
    row_is : (ks values : List ℕ) (n : ℕ) → length ks ≤ 3 → Operands ks (values_of words values n) → Entries left values n
        → RowIs E C L m ks (value_at (values_of words values n) (length ks - 1)) (value_at (values_of words values n) (length ks - 2))
        (value_at (values_of words values n) (length ks - 3))
        (operand_at values n (length ks)) (operand_at values n (length ks - 1)) (operand_at values n (length ks - 2))
    unfolding operand_at
    row_is [] values n h p e = (refl, refl, refl)
    row_is (x ∷ []) values n h p e = (operands_are (x ∷ []) values n p e 0 (omega arith), refl, refl)
    row_is (y ∷ x ∷ []) values n h p e =
        let at = operands_are (y ∷ x ∷ []) values n p e in
        (at 1 (omega arith), at 0 (omega arith), refl)
    row_is (z ∷ y ∷ x ∷ []) values n h p e =
        let at = operands_are (z ∷ y ∷ x ∷ []) values n p e in
        (at 2 (omega arith), at 1 (omega arith), at 0 (omega arith))
    row_is (z ∷ y ∷ x ∷ w ∷ ks) values n h p e = absurd (omega arith)

-- as many operands as kinds, and three at most
counts_are : (k : ℕ) → k < 21 → (get_or operand_counts k 0 ≡ length (get_or operand_kinds k [])) × (length (get_or operand_kinds k []) ≤ 3)
unfolding operand_kinds operand_counts
counts_are =
    by_range Counted 0 21 ((k : ℕ) → k < 21 → Counted k) (λ all k h. all k (omega arith) (omega arith))
    (refl, omega arith) (refl, omega arith) (refl, omega arith) (refl, omega arith) (refl, omega arith) (refl, omega arith) (refl, omega arith)
    (refl, omega arith) (refl, omega arith) (refl, omega arith) (refl, omega arith) (refl, omega arith) (refl, omega arith) (refl, omega arith)
    (refl, omega arith) (refl, omega arith) (refl, omega arith) (refl, omega arith) (refl, omega arith) (refl, omega arith) (refl, omega arith)
  where
    Counted : ℕ → Type 0
    Counted k = (get_or operand_counts k 0 ≡ length (get_or operand_kinds k [])) × (length (get_or operand_kinds k []) ≤ 3)

-- there are as many values as operands
enough : (words ks values : List ℕ) (n : ℕ) → Operands ks (values_of words values n) → length ks ≤ n
unfolding values_of
enough words [] values n p = omega arith
enough words (k ∷ ks) values zero p = absurd p
enough words (k ∷ ks) values (suc n) p = let h = enough words ks values n p.1 in omega arith

pub operands_there : (words values : List ℕ) (k n : ℕ) → k < 21 → Operands (get_or operand_kinds k []) (values_of words values n) → get_or operand_counts k 0 ≤ n
operands_there words values k n h p = let e = (counts_are k h).0 in let l = enough words (get_or operand_kinds k []) values n p in omega arith

-- the values below some
values_drop : (words values : List ℕ) (n k : ℕ) → k ≤ n → drop k (values_of words values n) ≡ values_of words values (n - k)
unfolding values_of
values_drop words values n zero h = let e : n ≡ n - 0 = omega arith in ap (values_of words values) e
values_drop words values zero (suc k) h = absurd (omega arith)
values_drop words values (suc n) (suc k) h = let e : n - k ≡ suc n - suc k = omega arith in values_drop words values n k (omega arith) ∙ ap
    (values_of words values) e

made_is : (k : ℕ) (vs : List Value) → made k vs ≡ get_or terms k (λ x y z. number 0) (value_at vs (get_or operand_counts k 0 - 1))
    (value_at vs (get_or operand_counts k 0 - 2)) (value_at vs (get_or operand_counts k 0 - 3)) ∷ drop (get_or operand_counts k 0) vs
unfolding made
made_is k vs = refl

-- ---- the term that is made

module _ (words : List ℕ) (o : Ordered words) (long : length words ≤ 1024) (m left : ℕ) (next : left ≡ suc m) (room : left ≤ length words) (values : List ℕ)
    (n k : ℕ) (h : k < 21)
    (p : Operands (get_or operand_kinds k []) (values_of words values n)) (e : Entries left values n) where
  abbrev count : ℕ
  count = get_or operand_counts k 0

  abbrev x : ℕ
  x = operand_at values n count

  abbrev y : ℕ
  y = operand_at values n (count - 1)

  abbrev z : ℕ
  z = operand_at values n (count - 2)

  abbrev v : ℕ → Value
  v i = value_at (values_of words values n) i

  fine : Fine (tree_in words) (array.condition_in words) (list_in words) m (v (count - 1)) (v (count - 2)) (v (count - 3)) x y z k
  fine =
      let c = counts_are k h in
      row_fine (tree_in words) (array.condition_in words) (list_in words) m (v (count - 1)) (v (count - 2)) (v (count - 3)) x y z k h
      (rw c.0 (row_is words o m left (omega arith) (get_or operand_kinds k []) values n c.1 p e))

  pub made_fits : Fitting (layout k) x y z
  made_fits = fine.fitting

  abbrev words' : List ℕ
  words' = set words m (word_of k x y z)

  term_made : term_in (get_or words' m 0) ≡ term_of k x y z 0
  term_made = rw (get_or-set_same words m (word_of k x y z) 0 (omega arith)) (term_in_word k x y z made_fits)

  node_made : node_in words' m ≡ node_of_tag k x y z
  unfolding node_in node_of
  node_made = ap node_of term_made

  tag_made : tag_in words' m ≡ k
  unfolding tag_in term_in in_word
  tag_made = ap (λ (t : Term). t.tag) term_made

  pub ordered_made : Ordered words'
  ordered_made = ordered_more words m (word_of k x y z) o (omega arith) (rw node_made fine.below)

  abbrev node : Node
  node = node_of_tag k x y z

  tree_made : tree_in words' m ≡ expression_of (tree_in words) (array.condition_in words) (list_in words) node
  unfolding tree_in array.condition_in list_in tree treeᶜ treeᵃ
  tree_made =
      let w = word_of k x y z in
      tree_law (node_in words') 1024 ordered_made m
      ∙ ap (expression_of (tree_in words') (array.condition_in words') (list_in words')) node_made
      ∙ expression_cong m (tree_in words') (tree_in words) (array.condition_in words') (array.condition_in words) (list_in words') (list_in words)
      (tree_other words m w o) (condition_other words m w o)
      (list_other words m w o) node fine.below

  condition_made : array.condition_in words' m ≡ condition_of (tree_in words) (array.condition_in words) node
  unfolding tree_in array.condition_in list_in tree treeᶜ treeᵃ
  condition_made =
      let w = word_of k x y z in
      tree_lawᶜ (node_in words') 1024 ordered_made m
      ∙ ap (condition_of (tree_in words') (array.condition_in words')) node_made
      ∙ condition_cong m (tree_in words') (tree_in words) (array.condition_in words') (array.condition_in words) (list_in words') (list_in words)
      (tree_other words m w o) (condition_other words m w o)
      (list_other words m w o) node fine.below

  list_made : list_in words' m ≡ arguments_of (tree_in words) (list_in words) node
  unfolding tree_in array.condition_in list_in tree treeᶜ treeᵃ
  list_made =
      let w = word_of k x y z in
      tree_lawᵃ (node_in words') 1024 ordered_made m
      ∙ ap (arguments_of (tree_in words') (list_in words')) node_made
      ∙ arguments_cong m (tree_in words') (tree_in words) (array.condition_in words') (array.condition_in words) (list_in words') (list_in words)
      (tree_other words m w o) (condition_other words m w o)
      (list_other words m w o) node fine.below

  value_made : value_of words' m ≡ get_or terms k (λ x y z. number 0) (v (count - 1)) (v (count - 2)) (v (count - 3))
  unfolding value_of term_value value_for
  value_made = rw (lt-ltb m 1024 (omega arith), tag_made, tree_made, condition_made, list_made) fine.value

  abbrev there : ℕ
  there = n - count

  -- the values with the term in place of its operands
  pub values_made : there < length values → values_of words' (set values there m) (there + 1) ≡ made k (values_of words values n)
  values_made b =
      let c = operands_there words values k n h p in
      let below : values_of words' values there ≡ drop count (values_of words values n) =
      values_other words m (word_of k x y z) o values there left (omega arith) (λ i d. e i (omega arith)) ∙ sym (values_drop words values n count c)
      in
      values_set words' values there m b
      ∙ ap (λ (u : Value). u ∷ values_of words' values there) value_made
      ∙ ap (λ (us : List Value). get_or terms k (λ x y z. number 0) (v (count - 1)) (v (count - 2)) (v (count - 3)) ∷ us) below
      ∙ sym (made_is k (values_of words values n))

  pub entries_made : there < length values → Entries m (set values there m) (there + 1)
  entries_made b i d = each (dec_lt i there)
    where
      each : Dec (i < there) → (m ≤ get_or (set values there m) i 0) × (get_or (set values there m) i 0 < 1024 + 4294967296)
      each (yes c) = let q = e i (omega arith) in rw (get_or-set_other values there i m 0 (λ r. omega arith)) (omega arith, q.1)
      each (no c) = let q : i ≡ there = omega (arith, c) in rw (q, get_or-set_same values there m 0 b) (omega arith, omega arith)

  -- the terms above stay
  pub terms_stay : (i : ℕ) → left ≤ i → get_or words' i 0 ≡ get_or words i 0
  terms_stay i d = get_or-set_other words m i (word_of k x y z) 0 (λ r. omega arith)
