-- `feed` meets its contract. Assumes nothing.
use Rattle.run_frames.specs.Inner.Going.{feed_of}
use borrow.Author.Rules.{rules}
use Rattle.run_frames.proofs.refocusing.feed.Goals as goal

pub returns-in-Read : goal.returns-in-Read
unfolding feed_of
returns-in-Read c = simp (c.at.ensures, c.ready_of.ensures, c.in-Read.is)

pub returns-in-Write1 : goal.returns-in-Write1
unfolding feed_of
returns-in-Write1 c = simp (c.want.ensures, c.second_frame.ensures, c.in-Write1.is)

pub returns-in-Write2 : goal.returns-in-Write2
unfolding feed_of
returns-in-Write2 c = simp (c.at-in-Write2.ensures, c.ready_of-in-Write2.ensures, c.in-Write2.is)

pub returns-in-Call : goal.returns-in-Call
unfolding feed_of
returns-in-Call c = simp (c.list.ensures, c.collect.ensures, c.in-Call.is)

pub returns-in-Let : goal.returns-in-Let
unfolding feed_of
returns-in-Let c = simp (c.at-in-Let.ensures, c.ready_of-in-Let.ensures, c.bind.ensures, c.in-Let.is)

pub returns-in-Synch : goal.returns-in-Synch
unfolding feed_of
returns-in-Synch c = simp (c.at-in-Synch.ensures, c.ready_of-in-Synch.ensures, c.in-Synch.is)

pub returns-in-Hold : goal.returns-in-Hold
unfolding feed_of
returns-in-Hold c = simp (c.at-in-Hold.ensures, c.ready_of-in-Hold.ensures, c.in-Hold.is)

pub returns-in-Join : goal.returns-in-Join
unfolding feed_of
returns-in-Join c = simp (c.at-in-Join.ensures, c.ready_of-in-Join.ensures, c.in-Join.is)

pub returns-in-Equal1 : goal.returns-in-Equal1
unfolding feed_of
returns-in-Equal1 c = simp (c.want-in-Equal1.ensures, c.second_frame-in-Equal1.ensures, c.in-Equal1.is)

pub returns-in-Equal2 : goal.returns-in-Equal2
unfolding feed_of
returns-in-Equal2 c = simp (c.at-in-Equal2.ensures, c.ready_of-in-Equal2.ensures, c.same.ensures, c.in-Equal2.is)

pub returns-in-Body : goal.returns-in-Body
unfolding feed_of
returns-in-Body c = simp (c.at-in-Body.ensures, c.ready_of-in-Body.ensures, c.in-Body.is)

pub returns-in-Signal : goal.returns-in-Signal
unfolding feed_of
returns-in-Signal c = simp (c.at-in-Signal.ensures, c.ready_of-in-Signal.ensures, c.in-Signal.is)

pub returns-in-If : goal.returns-in-If
unfolding feed_of
returns-in-If c = simp (c.at-in-If.ensures, c.ready_of-in-If.ensures, c.in-If.is)

pub returns-in-And : goal.returns-in-And
unfolding feed_of
returns-in-And c = simp (c.at-in-And.ensures, c.ready_of-in-And.ensures, c.in-And.is)

pub returns-in-Not : goal.returns-in-Not
unfolding feed_of
returns-in-Not c = simp (c.at-in-Not.ensures, c.ready_of-in-Not.ensures, c.in-Not.is)

pub returns-in-Test : goal.returns-in-Test
unfolding feed_of
returns-in-Test c = simp (c.at-in-Test.ensures, c.ready_of-in-Test.ensures, c.in-Test.is)
