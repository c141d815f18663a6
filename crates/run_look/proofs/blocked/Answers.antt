-- `blocked` meets its contract. Assumes nothing.
use borrow.Author.Rules.{rules}
use Rattle.run_look.proofs.blocked.Goals as goal

pub returns-in-Finished : goal.returns-in-Finished
returns-in-Finished c = simp c.in-Finished.is

pub returns-in-Monitor : goal.returns-in-Monitor
returns-in-Monitor c = simp (c.object_of-object.ensures.0, c.in-Monitor.is)

pub returns-in-Join : goal.returns-in-Join
returns-in-Join c = simp (c.object_of-object.ensures.0, c.in-Join.is)

pub returns-in-Notify : goal.returns-in-Notify
returns-in-Notify c = simp (c.object_of-object.ensures.0, c.in-Notify.is)

pub returns-in-Field : goal.returns-in-Field
returns-in-Field c = simp (c.object_of-object.ensures.0, c.field_of-field.ensures.0, c.in-Field.is)

pub returns-in-Thread : goal.returns-in-Thread
returns-in-Thread c = simp (c.object_of-object.ensures.0, c.in-Thread.is)

pub returns-in-NotHeld : goal.returns-in-NotHeld
returns-in-NotHeld c = simp (c.object_of-object.ensures.0, c.in-NotHeld.is)

pub returns-in-NoRule : goal.returns-in-NoRule
returns-in-NoRule c = simp c.in-NoRule.is
