-- A step from an expression: it is a value, or ready, or its first operand is wanted for a frame. Assumes nothing.
use Prim.Native.Nat.{ℕ, suc, ◌≤◌, ◌<◌}
use native.Mathlib.Omega.{arith}
use mathlib.Core.Path.{◌≡◌, refl, sym, ap, ◌∙◌}
use mathlib.Core.List.{List}
use lib.ListN.{length}
use Rattle.plan_packed.specs.Format.{terms, expression}
use Rattle.plan_packed.specs.Trees.{ExpressionNode, Node, node_at}
use Rattle.plan_packed.proofs.Accepted.{Child}
use Rattle.machine.specs.Inner.Frames.{Slots}
use Rattle.machine.specs.Inner.Frames as frames
use Rattle.machine.specs.Inner.Refocusing.{downᵃ, up, enter}
use Rattle.machine.proofs.PlanTable.{ordered}
use Rattle.machine.proofs.Sorted.{Well}
use Rattle.run_frames.specs.declared.frame.Kind.TheVariants as kind
use Rattle.run_frames.specs.Inner.RedexKinds.{RedexKind as redex}
use Rattle.run_term_words.specs.Inner.Slots.{slot_of}
use Rattle.plan_packed.specs.Inner.Operands.{tag_of, first_of, second_of, third_of, slot_bits, field_bits, write_second, let_first, let_second, procedure_bits, list_bits}
use Rattle.plan_packed.specs.Inner.Operands.{mask_bits}
use Rattle.run_term_words.specs.Inner.Words.{word_at, value_by, value_of}
use Rattle.run_frames.specs.Inner.Frames.{framed, let_frame}
use Rattle.run_frames.specs.Inner.Going.{ready_of, go_at, go_value}
use Rattle.run_refocusing_step.specs.Inner.Down.{signal_by, signal_of, simple_by, simple_of, open_expression_by, open_expression_of, listed_of, want_of, wanted_of}
use Rattle.run_refocusing.specs.Inner.Refocusing.{Stack}
use Rattle.refinement.proofs.Meant.{signal_meant, slots, closed, IsExpression}
use Rattle.refinement.proofs.SlotLaws.{none_bound, slot_below}
use Rattle.refinement.proofs.Words.{Expression, expression_at_lem}
use Rattle.refinement.proofs.Values.{Valued, valued}
use Rattle.refinement.proofs.Descent.{enter_value, enter_new, enter_while, enter_fork, enter_call, enter_read, enter_write, enter_let, enter_if}
use Rattle.refinement.proofs.Descent.{enter_join, enter_synch, enter_signal}
use Rattle.refinement.proofs.Fuel.{left}
use Rattle.refinement.proofs.Operands.{Placed, Next, stays, want, wantᶜ, child, childᶜ, less, less_one, plain_fine}
use Rattle.refinement.proofs.Calls.{list_step}

null_value : (ws : List ℕ) (t e : ℕ) → tag_of (word_at ws t) ≡ 0 → value_of ws e t ≡ 0
unfolding value_of value_by
null_value ws t e p = rw p

slot_value : (ws : List ℕ) (t e : ℕ) → tag_of (word_at ws t) ≡ 1 → value_of ws e t < 32
unfolding value_of value_by
slot_value ws t e p = rw p (slot_below e (slot_bits (word_at ws t)))

slot_is : (ws : List ℕ) (t e : ℕ) → tag_of (word_at ws t) ≡ 1 → value_of ws e t ≡ slot_of e (slot_bits (word_at ws t))
unfolding value_of value_by
slot_is ws t e p = rw p

module _ {b ws rs : List ℕ} {k : Stack} {base : ℕ} {S : List frames.Frame} (c : Placed b ws rs k base S) {n : ℕ} {X : frames.Found}
    (t e : ℕ) (w : Well S) (s : IsExpression b t) (x : X ≡ enter (node_at b) (terms b) S (closed t e)) (l : left t ≤ suc n) where
  abbrev word : ℕ
  word = word_at ws t

  a_value : Valued b ws t e → value_of ws e t < 32 → X ≡ up (node_at b) (terms b) S (value_of ws e t)
  a_value (Valued.value p q) m = x ∙ enter_value (ordered b c.right) S (closed t e) (value_of ws e t) q
  a_value (Valued.other p q) m = absurd (omega arith)

  one : 1 ≤ n
  one = omega arith

  -- a signal, by its number
  signal_step : (j : ℕ) → j < 32 → node_at b t ≡ Node.expression (ExpressionNode.signal (signal_meant j) (first_of word)) → Child b t expression (first_of word)
      → Next b ws k base n X (want_of ws (framed kind.Signal 0 0 j e) (first_of word) (length S))
  signal_step j h q i =
      want c (framed kind.Signal 0 0 j e) (first_of word) (plain_fine kind.Signal 0 0 j e (omega arith) (omega arith) h tt)
      w (child i) (x ∙ enter_signal (ordered b c.right) S t (slots e) q) (less_one c.right l i) one

  run_by : (value_of ws e t < 32 → 2055 ≤ suc n) → Valued b ws t e → Expression b t word
      → Next b ws k base n X (wanted_of ws (listed_of ws rs (open_expression_of (word_at ws t) e)) (length S))
  unfolding open_expression_of open_expression_by simple_of simple_by signal_of signal_by
  run_by m v (Expression.null p q) =
      let z = null_value ws t e p in
      let r : value_of ws e t < 32 = omega arith in
      rw p (stays c (go_value 0) (w, omega arith, a_value v r ∙ ap (up (node_at b) (terms b) S) z) (omega (arith, m r)))
  run_by m v (Expression.variable p q) =
      let r = slot_value ws t e p in
      rw (p, ← slot_is ws t e p) (stays c (go_value (value_of ws e t)) (w, r, a_value v r) (omega (arith, m r)))
  run_by m v (Expression.new p q r) =
      rw p (stays c (go_at (ready_of redex.New (mask_bits word) 0 0 0))
      (redex.New, refl, (w, omega arith, r, x ∙ enter_new (ordered b c.right) S t (slots e) q)) one)
  run_by m v (Expression.read p q i r) =
      rw p
      (want c (framed kind.Read 0 0 (field_bits word) e) (first_of word) (plain_fine kind.Read 0 0 (field_bits word) e (omega arith) (omega arith) (omega arith) r)
      w (child i) (x ∙ enter_read (ordered b c.right) S t (slots e) q) (less_one c.right l i) one)
  run_by m v (Expression.write p q i r j) =
      rw p
      (want c (framed kind.Write1 (write_second word) 0 (field_bits word) e) (first_of word)
      (plain_fine kind.Write1 (write_second word) 0 (field_bits word) e (omega arith) (omega arith) (omega arith) (r, child j))
      w (child i) (x ∙ enter_write (ordered b c.right) S t (slots e) q) (less_one c.right l i) (less c.right l j))
  run_by m v (Expression.let_in p q r i j) =
      rw p
      (want c (let_frame (slot_bits word) (let_second word) e) (let_first word)
      (record { first_fits = omega arith; second_fits = omega arith; member_fits = omega arith; count_fits = omega arith; sorted = (r, child j) })
      w (child i) (x ∙ enter_let (ordered b c.right) S t (slots e) q) (less_one c.right l i) one)
  run_by m v (Expression.if p q i j o) =
      rw p
      (wantᶜ c (framed kind.If (second_of word) (third_of word) 0 e) (first_of word)
      (plain_fine kind.If (second_of word) (third_of word) 0 e (omega arith) (omega arith) (omega arith) (child j, child o))
      w (childᶜ i) (x ∙ enter_if (ordered b c.right) S t (slots e) q) (less_one c.right l i))
  run_by m v (Expression.while p q i j) =
      rw p (stays c (go_at (ready_of redex.While (first_of word) (second_of word) 0 e))
      (redex.While, refl, (w, childᶜ i, child j, x ∙ enter_while (ordered b c.right) S t (slots e) q)) one)
  run_by m v (Expression.call p q r i o) =
      rw p
      (list_step c (framed kind.Call (list_bits word) 0 (procedure_bits word) e) w r (i.below, i.sorted, omega arith)
      (x ∙ enter_call (ordered b c.right) S t (slots e) q
      ∙ ap (λ (σ : Slots). downᵃ (node_at b) (terms b) S (procedure_bits word) 0 σ (closed (list_bits word) e)) (sym none_bound))
      (omega (arith, less c.right l i)))
  run_by m v (Expression.fork p q i) =
      rw p (stays c (go_at (ready_of redex.Fork (first_of word) 0 0 e)) (redex.Fork, refl, (w, child i, x ∙ enter_fork (ordered b c.right) S t (slots e) q))
      one)
  run_by m v (Expression.join p q i) =
      rw p
      (want c (framed kind.Join 0 0 0 e) (first_of word) (plain_fine kind.Join 0 0 0 e (omega arith) (omega arith) (omega arith) tt)
      w (child i) (x ∙ enter_join (ordered b c.right) S t (slots e) q) (less_one c.right l i) one)
  run_by m v (Expression.synch p q i j) =
      rw p
      (want c (framed kind.Synch (second_of word) 0 0 e) (first_of word)
      (plain_fine kind.Synch (second_of word) 0 0 e (omega arith) (omega arith) (omega arith) (child j))
      w (child i) (x ∙ enter_synch (ordered b c.right) S t (slots e) q) (less_one c.right l i) one)
  run_by m v (Expression.wait p q i) = rw p (signal_step 0 (omega arith) q i)
  run_by m v (Expression.notify p q i) = rw p (signal_step 1 (omega arith) q i)
  run_by m v (Expression.notify_all p q i) = rw p (signal_step 2 (omega arith) q i)

  pub run_step : (value_of ws e t < 32 → 2055 ≤ suc n) → Next b ws k base n X (wanted_of ws (listed_of ws rs (open_expression_of (word_at ws t) e)) (length S))
  run_step m = run_by m (valued b ws rs c.right c.loaded t e s) (expression_at_lem b ws rs c.right c.loaded t s.0 s.1)
