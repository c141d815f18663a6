-- `put_field` meets its contract. Assumes nothing.
use native.Mathlib.Omega.{arith}
use mathlib.Core.Path.{sym, ap, ◌∙◌}
use lib.ListN.{length}
use Rattle.text.proofs.Added.{added_none, added_as}
use Rattle.plan_token_writer.proofs.Fields.{field_there, field_not_there}
use Rattle.plan_token_writer.proofs.put_field.Goals as goal

pub put_byte-requires : goal.put_byte-requires
put_byte-requires c =
    let e = field_there c.args.mask c.args.field (sym c.bit.ensures ∙ c.if-bit-eq1.true) in
    omega (arith, c.requires.1, ap length e)

pub returns-then-bit-eq1 : goal.returns-then-bit-eq1
returns-then-bit-eq1 c = added_as (sym (field_there _ _ (sym c.bit.ensures ∙ c.if-bit-eq1.true)))
    c.put_byte.ensures

pub returns : goal.returns
returns c = added_as (sym (field_not_there _ _ (λ e. c.if-bit-eq1.false (c.bit.ensures ∙ e)))) (added_none _ _)
