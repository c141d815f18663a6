-- No more cases are counted than turns are taken, so that both counts stay below a million.
use Rattle.std.proofs.Common.{◌≤◌}
use Rattle.test_vectors.proofs.groups.tally_in.Given as goal

abbrev pub invariant-loop : goal.invariant-loop
invariant-loop g l = (l.cases ≤ l.counter) × (l.differ ≤ l.counter)
