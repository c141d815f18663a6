-- `log_schedule_writer::count` meets its contract. Assumes nothing.
use borrow.Author.Rules.{rules}
use native.Mathlib.Omega.{arith}
use mathlib.Core.Path.{◌≡◌, ◌∙◌}
use lib.ListN.{take}
use Rattle.std.specs.Prelude.{count_by}
use Rattle.std.proofs.lemmas.List.{length-take-le}
use Rattle.std.proofs.lemmas.List.Sums.{count_by-le-length}
use Rattle.log_schedule_writer.proofs.Counts.{set_counted}
use Rattle.log_schedule_writer.proofs.count.Goals as goal

pub returns : goal.returns
returns c =
    let a = c.args in
    let first = take a.moves a.kept.now in
    let set : c.count.result ≡ count_by (λ x. x) first = search rules in
    (set ∙ set_counted a.kept.now a.moves c.requires, omega (arith, set, count_by-le-length (λ x. x) first, length-take-le a.moves a.kept.now c.requires))
