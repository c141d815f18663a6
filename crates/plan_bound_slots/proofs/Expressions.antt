-- What is left to see of an expression, by its tag. Assumes nothing.
use mathlib.Core.Path.{◌≡◌, refl, ap, sym, ◌∙◌}
use mathlib.Core.Bool.{Bool, true, false, ◌&&◌}
use mathlib.Core.List.{List, [], ◌∷◌}
use Prim.Native.Nat.{ℕ, ◌+◌, ◌-◌, ◌*◌, ◌<◌}
use lib.ListN.{get_or}
use Rattle.format.proofs.Ranges.{NoneOf}
use Rattle.plan_packed.specs.Format.{layout, table}
use Rattle.plan_packed.specs.Inner.Operands as word
use Rattle.plan_packed.specs.Trees.{nodes, node_of, binder_of, expression_of}
use Rattle.plan_packed.specs.Slots.{closed, closedᶜ, closedᵃ, bound}
use Rattle.plan_packed.specs.Inner.Steps.{Ordered, bit_of, with_slot, slots, in_word, tree_in, condition_in, list_in, leaf_in}
use Rattle.plan_packed.proofs.Walk.{expr_is, row_below, expr_rest}
use Rattle.plan_packed.proofs.SlotMasks.{bound_is}
use Rattle.plan_packed.proofs.WalkSteps.{and_true, and_false, and_swap, and_no, and_three, and_none, mod_below, apart, inside}
use Rattle.std.specs.declared.ops.ControlFlow.TheVariants.{Continue, Break}
use Rattle.plan_bound_slots.specs.Inner.Left.{Rest, seen, After}
use Rattle.plan_bound_slots.proofs.TermParts.{Tagged, first_of, second_of, Call, leaf_seen}

-- what is left of two operands
abbrev pub Two : List ℕ → ℕ → ℕ → ℕ → ℕ → Rest → Type 0
Two words x outer y inner r = (seen words r ≡ (closed (slots outer) (tree_in words x) && closed (slots inner) (tree_in words y))) × ((s : ℕ) → s < x → s < y
    → After s r)

-- what a call on two operands must show
abbrev pub CallTwo : List ℕ → ℕ → ℕ → ℕ → Type 0
CallTwo words span x y = (3 * (1024 - x) + 2 < span) × (Ordered words × ((x < 1024) × (y < 1024)))

-- the operands of a write, a let, an if and a call that stand elsewhere
abbrev pub written_of : List ℕ → ℕ → ℕ
written_of words t = word.write_second (get_or words t 0)

abbrev pub slot_of : List ℕ → ℕ → ℕ
slot_of words t = word.slot_bits (get_or words t 0)

abbrev pub value_of : List ℕ → ℕ → ℕ
value_of words t = word.let_first (get_or words t 0)

abbrev pub body_of : List ℕ → ℕ → ℕ
body_of words t = word.let_second (get_or words t 0)

abbrev pub third_of : List ℕ → ℕ → ℕ
third_of words t = word.third_of (get_or words t 0)

abbrev pub arguments_from : List ℕ → ℕ → ℕ
arguments_from words t = word.list_bits (get_or words t 0)

-- ---- what is left of two operands, once one is seen

module _ (words : List ℕ) (o : Ordered words) (x outer y inner : ℕ) where
  module _ (h : word.tag_of (get_or words y 0) < 3) {r : Bool} (e : r ≡ closed (slots inner) (leaf_in (get_or words y 0))) where
    pub leaf_closed : x < 1024 → r ≡ true → Two words x outer y inner (Continue (x, outer))
    unfolding seen
    leaf_closed b k = (sym (and_swap _ _ (leaf_seen words o (slots inner) y h e ∙ k)), λ i p q. (p, b))

    pub leaf_open : r ≡ false → Two words x outer y inner (Break false)
    unfolding seen
    leaf_open k = (sym (and_no (closed (slots outer) (tree_in words x)) _ (leaf_seen words o (slots inner) y h e ∙ k)), λ i p q. tt)

  pub first_closed : y < 1024 → closed (slots outer) (tree_in words x) ≡ true → Two words x outer y inner (Continue (y, inner))
  unfolding seen
  first_closed b k = (sym (and_true _ _ k), λ i p q. (q, b))

  pub first_open : closed (slots outer) (tree_in words x) ≡ false → Two words x outer y inner (Break false)
  unfolding seen
  first_open k = (sym (and_false _ _ k), λ i p q. tt)

-- ---- the calls on the children of term t

module _ (words : List ℕ) (o : Ordered words) (t : ℕ) {span : ℕ} (h : 3 * (1024 - t) ≡ span) where
  one : (x : ℕ) → t < x → x < 1024 → Call words span x
  one x k b = (inside _ t x h k b, (o, b))

  two : (x y : ℕ) → t < x → x < 1024 → y < 1024 → CallTwo words span x y
  two x y k b d = (apart _ t x h k b, (o, (b, d)))

  pub write_call : Tagged words t 4 → CallTwo words span (first_of words t) (written_of words t)
  unfolding node_of in_word layout table nodes
  write_call e = two _ _ (row_below words o t 4 e).0 (mod_below _) (mod_below _)

  pub let_call : Tagged words t 5 → CallTwo words span (value_of words t) (body_of words t)
  unfolding node_of in_word layout table nodes
  let_call e = two _ _ (row_below words o t 5 e).0 (mod_below _) (mod_below _)

  pub if_test : Tagged words t 6 → Call words span (first_of words t)
  unfolding node_of in_word layout table nodes
  if_test e = one _ (row_below words o t 6 e).0 (mod_below _)

  pub if_call : Tagged words t 6 → CallTwo words span (second_of words t) (third_of words t)
  unfolding node_of in_word layout table nodes
  if_call e = two _ _ (row_below words o t 6 e).1 (mod_below _) (mod_below _)

  pub while_test_lem : Tagged words t 7 → Call words span (first_of words t)
  unfolding node_of in_word layout table nodes
  while_test_lem e = one _ (row_below words o t 7 e).0 (mod_below _)

  pub call_list : Tagged words t 8 → Call words span (arguments_from words t)
  unfolding node_of in_word layout table nodes
  call_list e = one _ (row_below words o t 8 e) (mod_below _)

  pub synch_call : Tagged words t 11 → CallTwo words span (first_of words t) (second_of words t)
  unfolding node_of in_word layout table nodes
  synch_call e = two _ _ (row_below words o t 11 e).0 (mod_below _) (mod_below _)

-- ---- what is left of term t

module _ (words : List ℕ) (o : Ordered words) (t m : ℕ) where
  abbrev pub Answer : Rest → Type 0
  Answer r = (seen words r ≡ closed (slots m) (tree_in words t)) × After t r

  all : {x : Bool} → x ≡ closed (slots m) (tree_in words t) → Answer (Break x)
  unfolding seen
  all h = (h, tt)

  rest_of : (r : Rest) (x outer y inner : ℕ) → Two words x outer y inner r → t < x → t < y
      → (closed (slots outer) (tree_in words x) && closed (slots inner) (tree_in words y)) ≡ closed (slots m) (tree_in words t) → Answer r
  rest_of r x outer y inner b h k e = (b.0 ∙ e, b.1 t h k)

  pub variable_left : {x : Bool} → Tagged words t 1 → x ≡ bit_of m (slot_of words t) → Answer (Break x)
  unfolding node_of in_word layout table nodes expression_of closed slots
  variable_left e k = all (k ∙ sym (ap (closed (slots m)) (expr_is words o t 1 e)))

  pub read_left : Tagged words t 3 → Answer (Continue (first_of words t, m))
  unfolding seen node_of in_word layout table nodes expression_of closed
  read_left e = (sym (ap (closed (slots m)) (expr_is words o t 3 e)), (row_below words o t 3 e, mod_below _))

  pub write_left : (r : Rest) → Tagged words t 4 → Two words (first_of words t) m (written_of words t) m r → Answer r
  unfolding node_of in_word layout table nodes expression_of closed
  write_left r e b = let k = row_below words o t 4 e in rest_of r _ _ _ _ b k.0 k.1 (sym (ap (closed (slots m)) (expr_is words o t 4 e)))

  pub let_left : (r : Rest) {inner : ℕ} → Tagged words t 5 → inner ≡ with_slot m (slot_of words t) → Two words (value_of words t) m (body_of words t) inner r
      → Answer r
  unfolding node_of in_word layout table nodes expression_of closed
  let_left r e i b =
      let k = row_below words o t 5 e in
      let q : slots _ ≡ bound (binder_of (slot_of words t)) (slots m) = ap slots i ∙ bound_is m (slot_of words t) in
      rest_of r _ _ _ _ b k.0 k.1 (rw q (sym (ap (closed (slots m)) (expr_is words o t 5 e))))

  pub if_left : (r : Rest) → Tagged words t 6 → closedᶜ (slots m) (condition_in words (first_of words t)) ≡ true
      → Two words (second_of words t) m (third_of words t) m r → Answer r
  unfolding node_of in_word layout table nodes expression_of closed
  if_left r e h b =
      let k = row_below words o t 6 e in
      rest_of r _ _ _ _ b k.1 k.2 (and_three _ _ _ h ∙ sym (ap (closed (slots m)) (expr_is words o t 6 e)))

  pub if_open : Tagged words t 6 → closedᶜ (slots m) (condition_in words (first_of words t)) ≡ false → Answer (Break false)
  unfolding seen node_of in_word layout table nodes expression_of closed
  if_open e h = (and_none _ _ _ h ∙ sym (ap (closed (slots m)) (expr_is words o t 6 e)), tt)

  pub while_left : Tagged words t 7 → closedᶜ (slots m) (condition_in words (first_of words t)) ≡ true → Answer (Continue (second_of words t, m))
  unfolding seen node_of in_word layout table nodes expression_of closed
  while_left e h = (sym (ap (closed (slots m)) (expr_is words o t 7 e) ∙ and_true _ _ h), ((row_below words o t 7 e).1, mod_below _))

  pub while_open : Tagged words t 7 → closedᶜ (slots m) (condition_in words (first_of words t)) ≡ false → Answer (Break false)
  unfolding seen node_of in_word layout table nodes expression_of closed
  while_open e h = (sym (ap (closed (slots m)) (expr_is words o t 7 e) ∙ and_false _ _ h), tt)

  pub call_left : {x : Bool} → Tagged words t 8 → x ≡ closedᵃ (slots m) (list_in words (arguments_from words t)) → Answer (Break x)
  unfolding node_of in_word layout table nodes expression_of closed
  call_left e k = all (k ∙ sym (ap (closed (slots m)) (expr_is words o t 8 e)))

  pub fork_left : Tagged words t 9 → Answer (Continue (first_of words t, m))
  unfolding seen node_of in_word layout table nodes expression_of closed
  fork_left e = (sym (ap (closed (slots m)) (expr_is words o t 9 e)), (row_below words o t 9 e, mod_below _))

  pub join_left : Tagged words t 10 → Answer (Continue (first_of words t, m))
  unfolding seen node_of in_word layout table nodes expression_of closed
  join_left e = (sym (ap (closed (slots m)) (expr_is words o t 10 e)), (row_below words o t 10 e, mod_below _))

  pub wait_left : Tagged words t 18 → Answer (Continue (first_of words t, m))
  unfolding seen node_of in_word layout table nodes expression_of closed
  wait_left e = (sym (ap (closed (slots m)) (expr_is words o t 18 e)), (row_below words o t 18 e, mod_below _))

  pub notify_left : Tagged words t 19 → Answer (Continue (first_of words t, m))
  unfolding seen node_of in_word layout table nodes expression_of closed
  notify_left e = (sym (ap (closed (slots m)) (expr_is words o t 19 e)), (row_below words o t 19 e, mod_below _))

  pub notify_all_left : Tagged words t 20 → Answer (Continue (first_of words t, m))
  unfolding seen node_of in_word layout table nodes expression_of closed
  notify_all_left e = (sym (ap (closed (slots m)) (expr_is words o t 20 e)), (row_below words o t 20 e, mod_below _))

  pub synch_left : (r : Rest) → Tagged words t 11 → Two words (first_of words t) m (second_of words t) m r → Answer r
  unfolding node_of in_word layout table nodes expression_of closed
  synch_left r e b = let k = row_below words o t 11 e in rest_of r _ _ _ _ b k.0 k.1 (sym (ap (closed (slots m)) (expr_is words o t 11 e)))

  pub nothing_left : NoneOf (word.tag_of (get_or words t 0)) (20 ∷ 19 ∷ 18 ∷ 11 ∷ 10 ∷ 9 ∷ 8 ∷ 7 ∷ 6 ∷ 5 ∷ 4 ∷ 3 ∷ 1 ∷ []) → Answer (Break true)
  unfolding seen
  nothing_left n = (sym (ap (closed (slots m)) (expr_is words o t _ refl) ∙ expr_rest (tree_in words) (condition_in words) (list_in words) (slots m) _ _ n), tt)
