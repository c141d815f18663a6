-- What the judge says of the marked cases of document 01's shot list, by computation: one theorem over all rows. Assumes nothing.
use mathlib.Core.Path.{◌≡◌, refl}
use mathlib.Core.List.{map}
use Rattle.format.specs.Version.{v1}
use Rattle.log_conflicts.proofs.FirstConflict.{first_conflict}
use Rattle.rules.specs.ShotList.{Shot, shots}
use Rattle.agreement.specs.ShotsJudged.{judged_by, judgements}

-- every marked case is judged as the list says; that what is computed is the judge's one answer is `names_computed`, `names_once`
pub marked_judged : map (λ (x : Shot). judged_by (first_conflict v1) x.expected) shots ≡ judgements
unfolding judged_by judgements shots first_conflict
marked_judged = refl
