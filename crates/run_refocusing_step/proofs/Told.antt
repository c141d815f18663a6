-- A call's list that is values alone is gone through at once: what its number tells are the values that come next, one after the other. Assumes nothing.
use mathlib.Core.Path.{◌≡◌, refl, sym, ap, ◌∙◌}
use mathlib.Core.Bool.{Bool, true, false, cond}
use mathlib.Core.List.{List}
use Prim.Native.Nat.{ℕ, zero, suc, ◌+◌, ◌-◌, ◌*◌, ◌%◌, ◌^◌, ◌≤◌, ◌<◌}
use native.Mathlib.Omega.{arith}
use lib.Dec.{eqb}
use Rattle.run_frames.specs.declared.frame.Frame.{Frame}
use Rattle.plan_packed.specs.Inner.Operands.{tag_of, second_of}
use Rattle.run_term_words.specs.Inner.Words.{word_at}
use Rattle.run_term_words.specs.Inner.Slots.{bind_of}
use Rattle.run_lists.specs.Inner.Lists.{value_in, valued_at, code_at, next_at, one_at, codes_from, rest_from, count_from, values_of}
use Rattle.run_lists.proofs.Digits.{value_below, value_lt, above}
use Rattle.run_lists.proofs.Coded.{bound_above, next_valued, next_none, ended_none, values_more, no_rest, no_count, no_values}
use Rattle.run_refocusing_step.specs.declared.Gathered.{Gathered}
use Rattle.run_refocusing_step.specs.declared.Through.{Through}
use Rattle.run_refocusing_step.specs.Inner.Ahead.{next_of, next_in, taken_of, gathered_of, called_of}
use Rattle.run_refocusing_step.specs.Inner.Down.{call_of, list_by, list_of}
use Rattle.run_refocusing_step.proofs.Gathers.{takes, stops}

module _ (ws rs : List ℕ) where
  -- a call's list that is over
  pub over : (n : ℕ) (f : Frame) → 0 < n → eqb (tag_of (word_at ws f.first)) 16 ≡ false
      → called_of ws rs n f ≡ record { left = n; go = call_of rs f f.arguments }
  unfolding next_of list_of list_by
  over n f h e =
      let z : next_in ws f ≡ 32 = rw e in
      let s : gathered_of (n - 1) ws f ≡ record { left = n; frame = f } = stops n ws f h (omega (arith, z)) in
      ap (λ (x : Gathered). record { left = x.left; go = list_of ws rs x.frame }) s ∙ rw e

  -- the values of at most k
  abbrev told : ℕ → ℕ → ℕ → Frame → Through
  told k x n f = record {
    left = n - count_from k ws f.first;
    go = call_of rs f (f.arguments + values_of k f.environment (codes_from k ws f.first x) * 2 ^ (f.count * 5));
  }

  -- those conditions, under which they are all of the list
  abbrev All : ℕ → ℕ → Frame → Type 0
  All k n f =
      (eqb (tag_of (word_at ws (rest_from k ws f.first))) 16 ≡ false) × (count_from k ws f.first < n) × (f.count + count_from k ws f.first ≤ 8)
      × (f.arguments < 2 ^ (f.count * 5))

  -- no value comes next
  none : (k x n : ℕ) (f : Frame) → All k n f → valued_at ws f.first ≡ false → called_of ws rs n f ≡ told k x n f
  none k x n f (e, l, c, a) q =
      let r : eqb (tag_of (word_at ws f.first)) 16 ≡ false = rw (no_rest ws f.first q k) at e in
      let v = no_values ws f.first q k f.environment x in
      let m = no_count ws f.first q k in
      let d : n - 0 ≡ n = omega arith in
      let u : f.arguments + 0 * 2 ^ (f.count * 5) ≡ f.arguments = omega arith in
      over n f (omega (arith, l)) r ∙ sym (rw (v, m, d, u))

  -- one does
  module _ (k x n : ℕ) (f : Frame) (h : All (suc k) n f) (q : valued_at ws f.first ≡ true) where
    abbrev value : ℕ
    value = value_in f.environment (code_at ws f.first)

    abbrev second : ℕ
    second = second_of (word_at ws f.first)

    next : next_in ws f ≡ value
    unfolding next_of
    next = next_valued ws f.first f.environment q

    behind : next_at ws f.first ≡ second
    unfolding next_at
    behind = rw q

    counted : count_from (suc k) ws f.first ≡ 1 + count_from k ws second
    unfolding count_from one_at
    counted = rw (q, behind)

    count : f.count % 16 + 1 ≡ f.count + 1
    count = omega (arith, h.2, counted)

    arguments : bind_of f.arguments f.count (next_in ws f) ≡ f.arguments + value * 2 ^ (f.count * 5)
    arguments =
        rw next (bound_above f.arguments f.count value (omega (arith, h.2, counted)) h.3 (value_below f.environment (code_at ws f.first)))

    all_behind : All k (n - 1) (taken_of ws f)
    unfolding rest_from
    all_behind = (
      rw behind at h.0,
      omega (arith, h.1, counted),
      rw count (omega (arith, h.2, counted)),
      rw (arguments, count) (value_lt f.arguments value f.count h.3 (value_below f.environment (code_at ws f.first))),
    )

    takes_one : called_of ws rs n f ≡ called_of ws rs (n - 1) (taken_of ws f)
    takes_one =
        let v = value_below f.environment (code_at ws f.first) in
        ap (λ (y : Gathered). record { left = y.left; go = list_of ws rs y.frame })
        (takes n ws f (omega (arith, h.1, counted)) (omega (arith, next, v)))

    sum : bind_of f.arguments f.count (next_in ws f) + values_of k f.environment (codes_from k ws second x) * 2 ^ ((f.count % 16 + 1) * 5)
        ≡ f.arguments + values_of (suc k) f.environment (codes_from (suc k) ws f.first x) * 2 ^ (f.count * 5)
    sum =
        let p : (f.count + 1) * 5 ≡ 5 + f.count * 5 = omega arith in
        let m = values_more ws f.first k f.environment x in
        rw (arguments, count, p) (sym (rw (m, behind)
        (above f.arguments value (values_of k f.environment (codes_from k ws second x)) 5 (f.count * 5))))

    tells_one : told k x (n - 1) (taken_of ws f) ≡ told (suc k) x n f
    tells_one =
        let d : n - 1 - count_from k ws second ≡ n - count_from (suc k) ws f.first = omega (arith, counted) in rw (sum, d)

  pub gathers_told : (k x n : ℕ) (f : Frame) → All k n f → called_of ws rs n f ≡ told k x n f
  gathers_told zero x n f h = none zero x n f h (unfold rest_from in ended_none ws f.first h.0)
  gathers_told (suc k) x n f h = by (gathers_told k x (n - 1) (taken_of ws f)) (valued_at ws f.first) refl
    where
      by : (All k (n - 1) (taken_of ws f) → called_of ws rs (n - 1) (taken_of ws f) ≡ told k x (n - 1) (taken_of ws f)) → (b : Bool) → valued_at ws f.first ≡ b
          → called_of ws rs n f ≡ told (suc k) x n f
      by r true q = takes_one k x n f h q ∙ r (all_behind k x n f h q) ∙ tells_one k x n f h q
      by r false q = none (suc k) x n f h q
