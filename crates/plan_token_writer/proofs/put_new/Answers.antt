-- `put_new` meets its contract. Assumes nothing.
use native.Mathlib.Omega.{arith}
use Rattle.text.proofs.Added.{added_more, added_as}
use Rattle.plan_token_writer.proofs.Fields.{new_parts, new_length}
use Rattle.plan_token_writer.proofs.put_new.Goals as goal

pub put_byte-next-requires : goal.put_byte-next-requires
put_byte-next-requires c = omega (arith, c.requires, new_length c.args.mask)

pub put_byte-next-requires-2 : goal.put_byte-next-requires-2
put_byte-next-requires-2 c =
    let p = c.put_byte-next.ensures in
    omega (arith, c.requires, new_length c.args.mask, p.next, p.kept)

pub put_fields-next-requires : goal.put_fields-next-requires
put_fields-next-requires c =
    let p = c.put_byte-next.ensures in
    let q = c.put_byte-next-2.ensures in
    (omega arith, omega (arith, c.requires, new_length c.args.mask, p.next, p.kept, q.next, q.kept))

pub put_byte-requires : goal.put_byte-requires
put_byte-requires c =
    let p = c.put_byte-next.ensures in
    let q = c.put_byte-next-2.ensures in
    let r = c.put_fields-next.ensures in
    omega (arith, c.requires, new_length c.args.mask, p.next, p.kept, q.next, q.kept, r.next, r.kept)

pub returns : goal.returns
returns c = added_as (new_parts _)
    (added_more c.put_byte-next.ensures
    (added_more c.put_byte-next-2.ensures
    (added_more c.put_fields-next.ensures c.put_byte.ensures)))
