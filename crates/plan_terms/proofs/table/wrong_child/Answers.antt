-- `wrong_child`: a child that is not outside is named, and handed its scope.
use mathlib.Core.Path.{◌≡◌, sym, ◌∙◌}
use mathlib.Core.Bool.{Bool, true, false, ◌||◌, true≢false}
use Prim.Native.Nat.{◌<◌}
use native.Mathlib.Omega.{arith}
use lib.Dec.{leb}
use borrow.Author.Tests.{leb-false}
use Rattle.plan_terms.proofs.table.wrong_child.Goals as goal
use Rattle.plan_terms.proofs.table.wrong_child.Goals.{Else-outside}

neither : (a b : Bool) → (a || b) ≡ false → b ≡ false
neither true b h = absurd (true≢false h)
neither false b h = h

pub returns-then-outside : goal.returns-then-outside
returns-then-outside c = record { value = sym c.if-outside.true ∙ c.outside.ensures; notes_after = (λ e. absurd (true≢false e)); scopes_after = λ e. absurd (true≢false e) }

-- a child that is not outside is below the count
below : (c : Else-outside) → c.args.child < c.args.count
below c =
    let a = c.args in
    leb-false a.count a.child
    (neither (leb a.child a.term) (leb a.count a.child) (sym c.outside.ensures ∙ c.if-outside.false))

pub name-requires : goal.name-requires
name-requires c = let h = below (goal.at.name-requires c).Else-outside in omega arith

pub hand-requires : goal.hand-requires
hand-requires c = let h = below (goal.at.hand-requires c).Else-outside in omega arith

pub returns : goal.returns
returns c = record { value = sym c.if-outside.false ∙ c.outside.ensures; notes_after = (λ e. c.name.ensures); scopes_after = λ e. c.hand.ensures }
