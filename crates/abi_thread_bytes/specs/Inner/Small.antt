-- Numbers that fit their bytes, as those of every run do. For inner contracts; no reader of the entries' promises needs it. Assumes nothing.
use Rattle.std.specs.Prelude.{◌<◌}
use Rattle.rules.specs.Step.{Wait, Stuck}
use Rattle.rules.specs.Run.{Status}

abbrev pub SmallWait : Wait → Type 0
SmallWait (Wait.for_monitor o) = o < 256
SmallWait (Wait.for_join o) = o < 256
SmallWait (Wait.for_notify o) = o < 256

abbrev pub SmallStuck : Stuck → Type 0
SmallStuck (Stuck.missing_field o f) = (o < 256) × (f < 256)
SmallStuck (Stuck.not_thread o) = o < 256
SmallStuck (Stuck.not_held o) = o < 256
SmallStuck Stuck.no_rule = Unit {0}

abbrev pub SmallStatus : Status → Type 0
SmallStatus Status.absent = Unit {0}
SmallStatus (Status.finished v) = v < 256
SmallStatus Status.ready = Unit {0}
SmallStatus (Status.waiting w) = SmallWait w
SmallStatus (Status.stuck r) = SmallStuck r
SmallStatus (Status.lacking o f) = (o < 256) × (f < 256)
