-- `step` meets its contract. Assumes nothing.
use native.Mathlib.Omega.{arith}
use mathlib.Core.Path.{refl, ap, ◌∙◌}
use Rattle.std.specs.Prelude.{Some}
use Rattle.plan_reader.proofs.Steps.{stop_faulty, read_finished, read_full, kept_goes}
use Rattle.plan_reader.proofs.step.Goals as goal

pub procedure-requires : goal.procedure-requires
procedure-requires c =
    let g = c.requires.going in
    (c.requires.tokens_len_bound.0, g.inside, c.requires.tokens_len_bound.2, omega (arith, g.sized), g.ordered, c.requires.sized)

pub keep-requires : goal.keep-requires
keep-requires c =
    let r = c.procedure.ensures in
    let f = read_finished r (c.in-Some-Ok.is ∙ ap Some c.in-Some-Ok.field-0-is) in (
      c.requires.tokens_len_bound.2,
      r.kept.ordered,
      f.finished.root_below,
      f.finished.parameters_few,
    )

pub returns-in-Some-Err : goal.returns-in-Some-Err
returns-in-Some-Err c =
    record {
      so = stop_faulty c.requires.going c.requires.tokens_len_bound.2 c.requires.tokens_len_bound.1 c.procedure.ensures (c.in-Some-Err.is ∙ ap Some c.in-Some-Err.field-0-is);
    }

pub returns-in-Some-Ok : goal.returns-in-Some-Ok
returns-in-Some-Ok c =
    let r = c.procedure.ensures in
    kept_goes c.requires.going c.requires.tokens_len_bound.2 c.requires.tokens_len_bound.1 r.kept (read_finished r (c.in-Some-Ok.is ∙ ap Some c.in-Some-Ok.field-0-is)) _ refl refl
    c.keep.ensures

pub returns-in-None : goal.returns-in-None
returns-in-None c = record { so = read_full c.procedure.ensures c.in-None.is }
