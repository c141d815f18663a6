-- `canonical` meets its contract.
use mathlib.Core.Path.{refl}
use Rattle.std.proofs.lemmas.Result.{err_from_is_err_and}
use Rattle.canonical.proofs.Chain.{passes_both}
use Rattle.canonical.proofs.Whole.{refused_answer, passed_none, written_answer}
use Rattle.canonical.proofs.canonical.Goals as goal

pub returns-in_err-refusal-clause-answer : goal.returns-in_err-refusal-clause-answer
returns-in_err-refusal-clause-answer c =
    let p = err_from_is_err_and c.from_residual.result c.from_residual.ensures.1 in
    rw (p.1, p.2) (refused_answer _ _ _ _ (c.in_err-refusal.ensures.refused_as _ refl) refl).0

pub returns-in_err-refusal-clause-area : goal.returns-in_err-refusal-clause-area
returns-in_err-refusal-clause-area c = (refused_answer _ _ _ _ (c.in_err-refusal.ensures.refused_as _ refl) refl).1

pub write-requires : goal.write-requires
write-requires c =
    let n = passes_both _ c.args.area.now (passed_none _ _ _ (c.in_ok-refusal.ensures.refused_as _ refl) refl) in
    record { passes = n.0; loaded = c.in_ok-refusal.ensures.loaded; long = n.1 }

pub returns-clause-answer : goal.returns-clause-answer
returns-clause-answer c = (written_answer _ _ (passed_none _ _ _ (c.in_ok-refusal.ensures.refused_as _ refl) refl) c.write.ensures).0

pub returns-clause-area : goal.returns-clause-area
returns-clause-area c = (written_answer _ _ (passed_none _ _ _ (c.in_ok-refusal.ensures.refused_as _ refl) refl) c.write.ensures).1
