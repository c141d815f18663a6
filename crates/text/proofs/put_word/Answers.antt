use native.Mathlib.Numerals.{add-one}
use native.Mathlib.Omega.{arith}
use mathlib.Core.Path.{sym}
use lib.Seq.{take-suc, take_all}
use borrow.Author.Rules.{rules}
use Rattle.text.proofs.Added.{added_none, added_more, added_as}
use Rattle.text.proofs.put_word.Goals as goal

pub loop-byte-init : goal.loop-byte-init
loop-byte-init c = (search rules, added_none _ _)

pub put_byte-next-requires : goal.put_byte-next-requires
put_byte-next-requires c =
    let l = c.loop-byte in
    omega (arith, l.invariant.0, l.invariant.1.kept, c.loop-byte-test.true)

pub loop-byte-preserved : goal.loop-byte-preserved
loop-byte-preserved c =
    let l = c.loop-byte in (
      omega (arith, l.invariant.0, c.put_byte-next.ensures.next),
      rw add-one
          (added_as (sym (take-suc c.args.word.now l.byte-index 0 c.loop-byte-test.true))
          (added_more l.invariant.1 c.put_byte-next.ensures)),
    )

pub shape_of-area : goal.shape_of-area
shape_of-area c = c.loop-byte.invariant.1.kept

pub returns : goal.returns
returns c = let l = c.loop-byte in added_as (take_all l.byte-index _ c.loop-byte-test.false) l.invariant.1
