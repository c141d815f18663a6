-- What the code answers to a pick that nothing refuses. For inner contracts; no reader of the entry's promise needs it. Assumes nothing.
use Rattle.std.specs.Prelude.{ℕ, ◌≡◌, List, replicate}
use Rattle.plan_packed.specs.Trees.{program_of}
use Rattle.rules.specs.Play.{run_of}
use Rattle.run_last_pick.specs.declared.Preview.{Preview}
use Rattle.preview.specs.Preview as preview
use Rattle.preview.specs.Answer.{preview_of, LoggedAs}

-- the log that nobody else sees, as it begins
unfoldable pub inner_log : List ℕ
inner_log = replicate 12288 0

-- what a preview that nothing refuses answers
pub record Shown (plan schedule : List ℕ) (pick : ℕ) (r : Preview) : Type 0 where
  pub answer : preview_of r ≡ preview.shown_after (program_of plan) (run_of plan schedule) pick
  pub logged : LoggedAs r
