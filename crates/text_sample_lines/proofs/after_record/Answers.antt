-- `text_sample_lines::after_record` meets its contract, by the kind. Assumes nothing.
use mathlib.Core.Path.{ap, ◌∙◌}
use mathlib.Core.List.{List}
use Prim.Native.Nat.{ℕ, ◌*◌, ◌+◌}
use lib.ListN.{set}
use Rattle.text_record_lines.specs.Inner.Columns.{record_of}
use Rattle.text_sample_lines.proofs.Digital.{no_monitor, acquire_number, release_number}
use Rattle.text_sample_lines.proofs.LineEnds.{end_taken, end_freed, end_other}
use borrow.Author.Rules.{rules}
use Rattle.text_sample_lines.proofs.after_record.Goals as goal

pub returns-in-6 : goal.returns-in-6
returns-in-6 c = λ L e.
    let k = c.args.columns in
    ap (λ (l : List ℕ). set l (2 * k.object + 1) 49) e
    ∙ end_taken L (record_of k) (acquire_number k.kind c.in-6.is) c.requires.0.object_below

pub returns-in-7 : goal.returns-in-7
returns-in-7 c = λ L e.
    let k = c.args.columns in
    ap (λ (l : List ℕ). set l (2 * k.object + 1) 48) e
    ∙ end_freed L (record_of k) (release_number k.kind c.in-7.is) c.requires.0.object_below

pub returns-in_default : goal.returns-in_default
returns-in_default c = λ L e.
    let k = c.args.columns in
    let rest = c.in_default.in_default-own.rest in
    e ∙ end_other L (record_of k) (no_monitor k.kind c.requires.0.kind_below rest.0.1 rest.1)
