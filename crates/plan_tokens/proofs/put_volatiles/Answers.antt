-- `put_volatiles` meets its contract. Assumes nothing.
use native.Mathlib.Omega.{arith}
use mathlib.Core.Path.{sym, ap}
use lib.ListN.{length}
use Rattle.text.proofs.Added.{added_none, added_more, added_as}
use Rattle.plan_token_writer.proofs.Fields.{volatile_none, volatile_some}
use Rattle.plan_tokens.proofs.put_volatiles.Goals as goal

pub put_byte-next-requires : goal.put_byte-next-requires
put_byte-next-requires c =
    let f = c.in-Some.ensures in
    omega (arith, c.requires, ap length (volatile_some _ _ f.same f.small f.there))

pub put_fields-requires : goal.put_fields-requires
put_fields-requires c =
    let f = c.in-Some.ensures in
    let p = c.put_byte-next.ensures in
    (omega (arith, f.small), omega (arith, c.requires, p.next, p.kept, ap length (volatile_some _ _ f.same f.small f.there)))

pub returns-in-Some : goal.returns-in-Some
returns-in-Some c =
    let f = c.in-Some.ensures in
    added_as (sym (volatile_some _ _ f.same f.small f.there)) (added_more c.put_byte-next.ensures c.put_fields.ensures)

pub returns-in-None : goal.returns-in-None
returns-in-None c = added_as (sym (volatile_none _ c.in-None.ensures)) (added_none _ _)
