-- `push` meets its contract. Assumes nothing.
use Rattle.plan_token_writer.proofs.Stack.{pushed_one}
use Rattle.plan_token_writer.proofs.push.Goals as goal

pub returns : goal.returns
returns c = pushed_one _ _ _ c.requires.0
