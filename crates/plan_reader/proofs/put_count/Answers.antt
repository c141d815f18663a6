-- `put_count` meets its contract. Assumes nothing.
use Prim.Native.Nat.{ℕ}
use mathlib.Core.Path.{sym, ap, ◌∙◌}
use mathlib.Core.List.{[], ◌∷◌}
use Rattle.text.proofs.Added.{added_none, added_as}
use Rattle.plan_reader.proofs.Counts.{count_there, count_none}
use Rattle.plan_reader.proofs.put_count.Goals as goal

pub returns-then-ahead-ne-PROCEDURE : goal.returns-then-ahead-ne-PROCEDURE
returns-then-ahead-ne-PROCEDURE c = added_as (sym (count_none _ _ (λ e. c.if-ahead-ne-PROCEDURE.true (c.ahead.ensures.0 ∙ e)))) (added_none _ _)

pub shape_of-area : goal.shape_of-area
shape_of-area c = c.put_byte.ensures.kept

pub returns : goal.returns
returns c =
    added_as (ap (λ (x : ℕ). x ∷ []) c.ahead-2.ensures.0 ∙ sym (count_there _ _
    (sym c.ahead.ensures.0 ∙ c.if-ahead-ne-PROCEDURE.false)))
    c.put_byte.ensures
