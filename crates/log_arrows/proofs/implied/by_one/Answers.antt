use Rattle.log_arrows.proofs.Tests.{implied_none, implied_more, implied_eight}
use native.Mathlib.Omega.{arith}
use Rattle.log_arrows.proofs.implied.by_one.Goals as goal

pub loop-other-init : goal.loop-other-init
loop-other-init c = implied_none _ _ _

pub by-found-requires : goal.by-found-requires
by-found-requires c = record { earlier = c.requires.earlier; thread_in = c.requires.thread_in; other_in = omega arith }

pub loop-other-preserved : goal.loop-other-preserved
loop-other-preserved c = implied_more _ _ _ _ _ _ c.loop-other.invariant c.by-found.ensures

pub returns : goal.returns
returns c = implied_eight _ _ _ _ _ (omega arith) c.loop-other.invariant
