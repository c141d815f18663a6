-- Trees of terms that pass checks 4 and 5, by themselves and whatever their numbers. Assumes nothing.
use Prim.Native.Nat.{ℕ, ◌^◌, ◌≤◌, ◌<◌}
use mathlib.Core.Path.{◌≡◌}
use mathlib.Core.Bool.{true, false}
use Rattle.plan_packed.specs.Format.{Operand, width, table, layout}
use Rattle.plan_packed.specs.Refusals.{wrong_operand, misplaced, is_child}
use Rattle.plan_written.specs.Terms.{TermTree, term, Part, value, child, value_at}
use Rattle.plan_written.proofs.Heads.{length_in}

-- the tag of a tree's root
abbrev pub head_tag : TermTree → ℕ
head_tag (term k p q r) = k

module _ (count : ℕ) (counts : ℕ → ℕ) where
  -- a tree that passes, where there are so many procedures with these counts of parameters
  abbrev mutual
    pub RightTree : TermTree → Type 0
    RightTree (term k p q r) =
        (k ≤ 20) × RightPart (layout k).first p × RightPart (layout k).second q × RightPart (layout k).third r × (k ≡ 8 → length_in q ≡ counts (value_at 0 p))

    pub RightPart : Operand → Part → Type 0
    RightPart kind (value v) = (is_child kind ≡ false) × (v < 2 ^ width kind) × ((n t : ℕ) → wrong_operand count n t kind v ≡ false)
    RightPart kind (child e) = (is_child kind ≡ true) × (misplaced kind (head_tag e) ≡ false) × RightTree e

-- a call names a procedure, and its list is a child
pub call_value : (k : ℕ) → k ≡ 8 → is_child (layout k).first ≡ false
unfolding layout table
call_value k d = rw d

pub call_child : (k : ℕ) → k ≡ 8 → is_child (layout k).second ≡ true
unfolding layout table
call_child k d = rw d
