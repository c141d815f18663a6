-- `write` meets its contract: the search, the marks, the count and the pass. Assumes nothing.
use Prim.Native.Nat.{suc, ◌-◌, ◌/◌}
use native.Mathlib.Omega.{arith}
use mathlib.Core.Path.{◌≡◌}
use lib.ListN.{length}
use Rattle.log_schedule_writer.proofs.Whole.{has_last, few_picks, counted, writes_short, writes_all}
use Rattle.log_schedule_writer.proofs.write.Goals as goal
use Rattle.log_schedule_writer.proofs.write.Goals.{After-slice_known-1}

pub overflow_sub-failing : goal.overflow_sub-failing
overflow_sub-failing c = omega (arith, c.requires.at_end)

-- the failing access is the last
ends : (c : After-slice_known-1) → suc (length c.args.log.now / 3 - 1) ≡ length c.args.log.now / 3
ends c = omega (arith, c.requires.at_end)

pub last_write-last-requires : goal.last_write-last-requires
last_write-last-requires c = has_last c.requires _ (ends c)

pub mark-requires : goal.mark-requires
mark-requires c = c.requires.few

pub count-length-requires : goal.count-length-requires
count-length-requires c = omega (arith, c.mark.auto.kept, c.requires.few)

pub returns-then-area-length : goal.returns-then-area-length
returns-then-area-length c =
    rw c.at.ensures (writes_short c.requires _ (ends (goal.at.returns-then-area-length c).After-slice_known-1) c.last_write-last.result c.last_write-last.ensures
    c.mark.new.kept c.mark.ensures.marked_in c.mark.ensures.same_beyond
    c.count-length.result c.args.area.now c.count-length.ensures.0 c.if-area-length.true)

pub put_picks-requires : goal.put_picks-requires
put_picks-requires c =
    let n = c.count-length in
    let e = counted c.requires _ (ends (goal.at.put_picks-requires c).After-slice_known-1) c.last_write-last.result c.last_write-last.ensures
    c.mark.new.kept c.mark.ensures.marked_in c.mark.ensures.same_beyond n.result n.ensures.0 in record {
      sized = omega (arith, c.mark.auto.kept, c.requires.few);
      room = omega (arith, e, c.if-area-length.false);
      small = few_picks c.requires _ (ends (goal.at.put_picks-requires c).After-slice_known-1) c.last_write-last.result c.last_write-last.ensures
          c.mark.new.kept c.mark.ensures.marked_in c.mark.ensures.same_beyond;
    }

pub returns : goal.returns
returns c =
    let n = c.count-length in
    writes_all c.requires _ (ends (goal.at.returns c).After-slice_known-1) c.last_write-last.result c.last_write-last.ensures
    c.mark.new.kept c.mark.ensures.marked_in c.mark.ensures.same_beyond
    n.result c.args.area.now _ n.ensures.0 (λ h. let q = c.if-area-length.false in omega arith)
    c.put_picks.ensures
