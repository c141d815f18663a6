-- `told` meets its contract. Assumes nothing.
use Rattle.run_lists.proofs.Tells.{put_right}
use Rattle.run_lists.proofs.told.Goals as goal

pub returns-then-kept-list : goal.returns-then-kept-list
returns-then-kept-list c =
    let p = c.requires in (p.1.1 c.args.list p.0 c.if-kept-list.true, p.1)

pub returns : goal.returns
returns c =
    (c.read-told.ensures, rw c.read-told.ensures (put_right c.args.words.now c.args.lists.now c.args.list c.requires.0 c.requires.1))
